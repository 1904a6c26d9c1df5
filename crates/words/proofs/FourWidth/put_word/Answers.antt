use Rattle.std.proofs.Common.{◌≡◌, refl, ◌+◌, ◌-◌, arith}
use Rattle.std.proofs.lemmas.List.{drop-drop}
use Rattle.words.proofs.ByteLaws.{put_bytes, four_bytes}
use Rattle.words.proofs.FourWidth.put_word.Goals as goal

pub returns : goal.returns
returns c = rw (c.copy_from_slice.ensures.after, c.to_le_bytes.ensures) (rw (put_bytes 4 _ c.args.p c.args.v c.requires, ← four_bytes c.args.v, ← drop-drop 4 c.args.p c.args.b.now) (let z : c.args.p + 4 - c.args.p ≡ 4 = omega arith in rw z refl))

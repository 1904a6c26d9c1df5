use Rattle.std.proofs.Common.{◌≡◌, refl, ◌+◌, ◌-◌, arith}
use Rattle.std.proofs.lemmas.List.{drop-drop}
use Rattle.words.proofs.ByteLaws.{put_bytes, eight_bytes}
use Rattle.words.proofs.EightWidth.put_word.Goals as goal

pub returns : goal.returns
returns c = rw (c.copy_from_slice.ensures.after, c.to_le_bytes.ensures) (rw (put_bytes 8 _ c.args.p c.args.v c.requires, ← eight_bytes c.args.v, ← drop-drop 8 c.args.p c.args.b.now) (let z : c.args.p + 8 - c.args.p ≡ 8 = omega arith in rw z refl))

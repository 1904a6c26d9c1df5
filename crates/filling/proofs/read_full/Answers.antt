use Rattle.std.proofs.Common.{rules, arith, ◌≡◌, ℕ, ◌+◌, ◌≤◌, List, ◌++◌, length, take, drop, subst, drop_at, length-take-le, take-add}
use Rattle.std.proofs.lemmas.Slice.{overwrites}
use Rattle.std.specs.Io.KnownBytes.{Consumes}
use Rattle.std.proofs.KnownBytes.{Consumes-trans}
use borrow.Rule.Slice.PartMut.{put_mid}
use Rattle.std.proofs.Math.Seq.{take-append-le}
use Rattle.filling.proofs.read_full.Goals as goal

-- what a read put behind the first a bytes, up to its first m
take_read : (a k m : ℕ) (xs ys : List ℕ) → a ≤ length xs → m ≤ length ys → take a xs ++ take m ys ≡ take (a + m) (put_mid a k xs ys)
take_read a k m xs ys within fits =
    let behind : drop a (put_mid a k xs ys) ≡ ys ++ _ = drop_at (take a xs) _ a (length-take-le a xs within) in
    grind (arith, overwrites, behind, take-add a m (put_mid a k xs ys), take-append-le)

pub loop-n-preserved : goal.loop-n-preserved
loop-n-preserved g c =
    let read = take_read c.loop-n.n _ c.in_ok-more.more c.loop-n.buffer c.read.new.buf c.loop-n.invariant.0 c.in_ok-more.ensures.bound.0 in
    (search rules, subst (Consumes _ _) read (Consumes-trans _ _ _ _ _ c.loop-n.invariant.1 c.in_ok-more.ensures.bytes.0))

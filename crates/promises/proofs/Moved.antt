-- A record that moves: allocate, copy, free the old. What the three leave, one after the other.
use Rattle.std.proofs.Common.{ℕ, ◌+◌, ◌-◌, ◌≤◌, ◌<◌, min, ◌≡◌, refl, sym, ap, subst, ◌∙◌, List, inl, inr, ⊎_elim, arith, length, get_or, take, drop}
use Rattle.std.proofs.Math.Option.{some}
use Rattle.std.proofs.Math.Decide.{dec_le, dec_lt}
use Rattle.words.specs.Width.{Width}
use Rattle.words.specs.Copy.{copied}
use Rattle.words.specs.Word.{Bytes}
use Rattle.words.proofs.CopyLaws.{part_agree, length_copied, copied_in, copied_out}
use Rattle.model.specs.Shape.{shape, largest_item, end_of}
use Rattle.model.specs.Layout.{Layout}
use Rattle.model.specs.Sound.{Here}
use Rattle.model.specs.Rules.{Made, allocate, find, shown_of}
use Rattle.model.specs.Live.{◌∈◌, Payload, content, live}
use Rattle.model.specs.Calls.{granted, Lent, drawn, without}
use Rattle.model.specs.Promises.{ResizeKept, Kept}
use Rattle.model.proofs.Good.{shape_good}
use Rattle.model.proofs.lives.Payloads.{in_area, content_kept}
use Rattle.model.proofs.rules.Allocation.{Granted, allocate_grants}
use Rattle.model.proofs.pictures.Written.{kept_here}
use Rattle.promises.proofs.Heaps.{Does, draws, drawn_length, drawn_bytes, drawn_magic}
use Rattle.model.proofs.lives.LiveFound.{is_there, live_is_there}
use Rattle.model.proofs.lives.Moving.{live_apart}
use Rattle.model.proofs.lives.FreeLives.{Removed, freed_removes}
use Rattle.promises.proofs.FoundLive.{is_there_lem, found_shown, shown_within}
use Rattle.promises.proofs.Parts.{take_take, part_moved}

module _ {w : ℕ} (wd : Width w) where
  min_left : (m n : ℕ) → min m n ≤ m
  min_left m n = omega arith

  min_right : (m n : ℕ) → min m n ≤ n
  min_right m n = omega arith

  module _ (b : List ℕ) (L : Layout) (l : Lent (shape w) b) (h : Here (shape w) b L) (a n : ℕ) (one : 1 ≤ n) (m : Made) (fm : allocate (shape w) n L ≡ some m) (live-there : is_there (find (shape w) a L) ≡ 1) where
    new : Granted (shape w) (end_of (length b)) n L m
    new = allocate_grants (shape w) (end_of (length b)) n (shape_good wd) one L m h.valid fm

    was : Removed (shape w) (end_of (length b)) L a (find (shape w) a L)
    was = freed_removes (shape w) (shape_good wd) h.valid a (find (shape w) a L) refl (is_there_lem (find (shape w) a L) live-there)

    -- the bytes with the new record, and with what it takes over
    abbrev K : Layout
    K = m.layout

    abbrev grown_bytes : List ℕ
    grown_bytes = drawn (shape w) m.layout b

    abbrev count : ℕ
    count = min (shown_of (shape w) (find (shape w) a L)) n

    abbrev copied_bytes : List ℕ
    copied_bytes = copied a m.at count grown_bytes

    old_in : was.payload ∈ live (shape w) K
    old_in = new.adds.kept was.payload was.adds.there

    old_area : a + count ≤ length grown_bytes
    old_area = omega (arith, (in_area (shape w) (end_of (length b)) K new.valid was.payload old_in).1, was.at, was.shown, shown_within wd (end_of (length b)) K new.valid was.payload old_in, min_left (shown_of (shape w) (find (shape w) a L)) n, drawn_length wd b L l h K)

    new_area : m.at + count ≤ length grown_bytes
    new_area = omega (arith, (in_area (shape w) (end_of (length b)) K new.valid new.payload new.adds.there).1, new.at, new.large, min_right (shown_of (shape w) (find (shape w) a L)) n, drawn_length wd b L l h K)

    copied_length : length copied_bytes ≡ length b
    copied_length = length_copied grown_bytes a m.at count old_area new_area ∙ drawn_length wd b L l h K

    -- only the new record's bytes are copied over
    copied_apart : (i : ℕ) → (new.payload.address ≤ i → i < new.payload.address + new.payload.size → ⊥) → get_or copied_bytes i 0 ≡ get_or grown_bytes i 0
    copied_apart i o =
        copied_out grown_bytes a m.at count old_area new_area i (λ lo hi. o (omega (arith, new.at)) (omega (arith, new.at, new.large, min_right (shown_of (shape w) (find (shape w) a L)) n)))

    copied_here : Here (shape w) copied_bytes K
    copied_here =
        kept_here (shape w) grown_bytes copied_bytes K (draws wd b L l h K new.valid) (length_copied grown_bytes a m.at count old_area new_area)
        (λ i o. copied_apart i (λ lo hi. o new.payload new.adds.there lo hi))

    copied_lent : Lent (shape w) copied_bytes
    copied_lent = (omega (arith, copied_length, l.0), omega (arith, copied_length, l.1))

    gone : Removed (shape w) (end_of (length copied_bytes)) K a (find (shape w) a K)
    gone = freed_removes (shape w) (shape_good wd) copied_here.valid a (find (shape w) a K) refl (is_there_lem (find (shape w) a K) (live_is_there (shape w) (shape_good wd) copied_here.valid a was.payload old_in was.at))

    pub moved_here : Here (shape w) (drawn (shape w) (without (shape w) a m.layout) copied_bytes) (without (shape w) a m.layout)
    moved_here = draws wd copied_bytes K copied_lent copied_here (without (shape w) a K) gone.valid

    moved_bytes_lem : Bytes b → Bytes (drawn (shape w) (without (shape w) a m.layout) copied_bytes)
    moved_bytes_lem k = drawn_bytes wd copied_bytes K copied_lent copied_here (without (shape w) a K) (λ i. at i (dec_le m.at i) (dec_lt i (m.at + count)))
      where
        at : (i : ℕ) → Dec (m.at ≤ i) → Dec (i < m.at + count) → get_or copied_bytes i 0 < 256
        at i (yes x) (yes y) =
            let e : m.at + (i - m.at) ≡ i = omega (arith, x) in
            subst (λ (j : ℕ). get_or copied_bytes j 0 < 256) e (rw (copied_in grown_bytes a m.at count old_area new_area (i - m.at) (omega (arith, x, y))) (drawn_bytes wd b L l h K k (a + (i - m.at))))
        at i (yes x) (no y) = rw (copied_out grown_bytes a m.at count old_area new_area i (λ _ q. y q)) (drawn_bytes wd b L l h K k i)
        at i (no x) d = rw (copied_out grown_bytes a m.at count old_area new_area i (λ q _. x q)) (drawn_bytes wd b L l h K k i)

    -- what is live elsewhere stays
    still : (x : Payload) → x ∈ live (shape w) K → (x.address ≡ a → ⊥) → x ∈ live (shape w) (without (shape w) a K)
    still x k o = ⊎_elim (λ i. i) (λ e. absurd (o (ap (λ (y : Payload). y.address) e ∙ gone.at))) (gone.adds.only x k)

    others_kept : (x : Payload) → x ∈ live (shape w) L → (x.address ≡ a → ⊥) → Kept (shape w) b (drawn (shape w) (without (shape w) a K) copied_bytes) (without (shape w) a K) x
    others_kept x k o =
        let i = new.adds.kept x k in
        let j = still x i o in
        let away = live_apart (shape w) (end_of (length b)) K new.valid x new.payload i new.adds.there (new.adds.new x k) in (
          j,
          content_kept (shape w) (end_of (length copied_bytes)) (without (shape w) a K) copied_bytes gone.valid x j
              ∙ part_agree copied_bytes grown_bytes x.address x.size (length_copied grown_bytes a m.at count old_area new_area)
              (λ c lo hi. copied_apart c (λ lo' hi'. ⊎_elim (λ q. omega (arith, q)) (λ q. omega (arith, q)) away))
              ∙ content_kept (shape w) (end_of (length b)) K b new.valid x i,
        )

    -- the new record does not stand where the old one did
    pub moved_away : m.at ≡ a → ⊥
    moved_away e = new.adds.new was.payload was.adds.there (was.at ∙ sym e ∙ sym new.at)

    -- it is live, with the old one's beginning
    new_still : new.payload ∈ live (shape w) (without (shape w) a K)
    new_still = still new.payload new.adds.there (λ e. moved_away (sym new.at ∙ e))

    -- so the layout is another
    moved_elsewhere : without (shape w) a m.layout ≡ L → ⊥
    moved_elsewhere e = new.adds.new new.payload (subst (λ (N : Layout). new.payload ∈ live (shape w) N) e new_still) refl

    -- what is done
    pub moved_does : Does wd b L (granted m.at (drawn (shape w) (without (shape w) a m.layout) copied_bytes)) (record { refusal = 0; address = m.at; layout = without (shape w) a m.layout })
    moved_does =
        record {
          refusal = refl;
          address = refl;
          same = drawn_length wd copied_bytes K copied_lent copied_here (without (shape w) a K) ∙ copied_length;
          here = moved_here;
          bytes = moved_bytes_lem;
          still = λ e x. absurd (moved_elsewhere e);
          magic = λ i k.
              drawn_magic wd copied_bytes K copied_lent copied_here (without (shape w) a K) gone.valid i k
              ∙ copied_apart i (λ lo hi. omega (arith, lo, k, (in_area (shape w) (end_of (length b)) K new.valid new.payload new.adds.there).0))
              ∙ drawn_magic wd b L l h K new.valid i k;
        }

    beginning : (x : Payload) → x ∈ live (shape w) L → x.address ≡ a
        → take (min x.shown n) (content (drawn (shape w) (without (shape w) a K) copied_bytes) new.payload) ≡ take (min x.shown n) (content b x)
    beginning x k e =
        let s : x.shown ≡ shown_of (shape w) (find (shape w) a L) = found_shown wd (end_of (length b)) L a h.valid x k e in
        let i = new.adds.kept x k in
        let y = new.payload in
        let low : min x.shown n ≤ y.size = omega (arith, new.large, min_right x.shown n) in
        let here : take (min x.shown n) (drop y.address copied_bytes) ≡ take (min x.shown n) (drop x.address grown_bytes) =
        rw (s, e, new.at) (part_moved grown_bytes copied_bytes a m.at count old_area (omega (arith, new_area, length_copied grown_bytes a m.at count old_area new_area)) (λ q lt. copied_in grown_bytes a m.at count old_area new_area q lt)) in
        ap (λ (z : List ℕ). take (min x.shown n) z) (content_kept (shape w) (end_of (length copied_bytes)) (without (shape w) a K) copied_bytes gone.valid new.payload new_still)
        ∙ take_take (min x.shown n) y.size (drop y.address copied_bytes) low
        ∙ here
        ∙ sym (take_take (min x.shown n) x.size (drop x.address grown_bytes) (omega (arith, min_left x.shown n, shown_within wd (end_of (length b)) L h.valid x k)))
        ∙ ap (λ (z : List ℕ). take (min x.shown n) z) (content_kept (shape w) (end_of (length b)) K b new.valid x i)

    -- what moved shows as much as was asked for, where it is an item
    pub moved_shown : (new_in : Payload) × (new_in ∈ live (shape w) (without (shape w) a m.layout)) × (new_in.address ≡ m.at) × (n ≤ largest_item (shape w) → new_in.shown ≡ n)
    moved_shown = (new.payload, new_still, new.at, new.shown)

    pub moved_kept : ResizeKept (shape w) b a n L (granted m.at (drawn (shape w) (without (shape w) a m.layout) copied_bytes)) (without (shape w) a m.layout)
    moved_kept = (
      others_kept,
      (λ x k. ⊎_elim (λ i. inl i) (λ e. inr (ap (λ (y : Payload). y.address) e ∙ new.at)) (new.adds.only x (gone.adds.kept x k))),
      (λ x k e. (new.payload, new_still, new.at, new.large, beginning x k e)),
      (λ n x k e. gone.adds.new x k (e ∙ sym gone.at)),
    )

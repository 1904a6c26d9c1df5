-- The reading calls: what each way through them shows of their contracts.
use Rattle.std.proofs.Common.{ℕ, ◌+◌, ◌-◌, ◌<◌, ◌≡◌, refl, sym, ap, ap₂, subst, ◌∙◌, true≢false, List, [], arith, length, take, drop, length-take, length-drop, length-take-le, Option, Some, None, ok_or, is_some, unwrap_or, Result, Ok, Err}
use Rattle.std.proofs.Math.Nat.{add-sub_cancel_left}
use Rattle.words.specs.Width.{Width}
use Rattle.model.specs.Shape.{Shape, shape}
use Rattle.model.specs.Layout.{Layout}
use Rattle.model.specs.Sound.{Here, stored_end, heap_of}
use Rattle.model.specs.Rules.{Found, block, thing, nothing, find, shown_of}
use Rattle.model.specs.Reading as reading
use Rattle.model.specs.Reading.{rows_from, counted}
use Rattle.model.specs.Refusals.{not_live}
use Rattle.model.specs.Calls.{Told, Checked, found}
use Rattle.model.specs.declared.refusals.Refusal.{Refusal}
use Rattle.model.specs.declared.refusals.Refusal.TheVariants.{NotLive}
use Rattle.model.specs.Refused.{refusal_number}
use Rattle.reading.specs.Counting.{table_rows, told}
use Rattle.reading.specs.declared.counting.Statistics.{Statistics}
use Rattle.reading.proofs.TableLaws.{table_rows_lem}
use Rattle.holding.specs.Holding.{measured, Holds}
use Rattle.examining.specs.Examined.{Examined}
use Rattle.serving.specs.Counting.{told_counted, printed_count, rows_of, TriedTable}
use Rattle.serving.specs.Lookup.{PartTold, NoPart, HeldTold}
use Rattle.examining.proofs.Examining.{fine_lent, fine_heap, refuses, decides}
use Rattle.serving.proofs.Readied.{here_as}

-- what a contract says of an answer holds of whatever is worked out from it
pub checked_map : {S : Shape} {A B : Type 0} (f : A → B) {b : List ℕ} {no-with : ℕ → A} {rule : Layout → A} {r : A} → Checked S b no-with rule r → Checked S b (λ k. f (no-with k)) (λ L. f (rule L)) (f r)
checked_map f c = record { one = λ n. ap f (c.one n); two = λ l n. ap f (c.two l n); three = λ l o n. ap f (c.three l o n); sound = λ l L h. ap f (c.sound l L h) }

abbrev pub with : {A : Type 0} → ℕ → A → Told A
with k x = record { refusal = k; answer = x }

-- what is printed of a refused count
pub count_refused : (r : Result Statistics Refusal) (k : Refusal) (s : Statistics) (n : ℕ) → r ≡ Err k → n ≡ refusal_number k → told s ≡ counted [] → printed_count (record { statistics = s; refusal = n }) ≡ told_counted r
count_refused r k s n e f z = rw e (ap₂ (λ (m : ℕ) (y : reading.Statistics). with m y) f z)

-- what was read of the heap's own bytes
module _ {A : Type 0} (w : ℕ) (b : List ℕ) (none : A) (rule : Layout → A) (v : Result (List ℕ) Refusal) {own : List ℕ} (x : Examined w b v) (e : v ≡ Ok own) where
  pub tells_answer : (r : A) → ((L : Layout) → Here (shape w) own L → r ≡ rule L) → Checked (shape w) b (λ j. with j none) (λ L. with 0 (rule L)) (with 0 r)
  tells_answer r d = decides w b (λ j. with j none) (λ L. with 0 (rule L)) v x e (with 0 r) (λ L h. ap (λ (y : A). with 0 y) (d L (here_as b own (fine_lent w b v x e).1 L h)))

-- the table of classes: as many rows as a table has at any word size
pub table_told : {w : ℕ} → Width w → (b : List ℕ) (v : Result (List ℕ) Refusal) {own : List ℕ} → Examined w b v → v ≡ Ok own → (t : List (List ℕ))
    → ((L : Layout) → Here (shape w) own L → t ≡ rows_from table_rows 0 L.blocks) → TriedTable w b (Ok t)
table_told {w} wd b v x e t d = tells_answer w b (rows_of w []) (λ L. rows_of w L.blocks) v x e t (λ L h. d L h ∙ table_rows_lem wd L.blocks h.valid.allowed)

-- what is live at an address
module _ (w : ℕ) (b : List ℕ) (a : ℕ) (v : Result (List ℕ) Refusal) (x : Examined w b v) where
  pub held_refused : (k : Refusal) → v ≡ Err k → HeldTold w b a (Err k)
  held_refused k e = (refuses w b (λ j. 0) (λ L. shown_of (shape w) (find (shape w) a L)) v k x e, refuses w b (λ j. j) (λ L. found (shape w) (find (shape w) a L) not_live 0) v k x e)

  module _ {own : List ℕ} (e : v ≡ Ok own) where
    o : own ≡ heap_of (shape w) b
    o = (fine_lent w b v x e).1

    pub held : (t : Option ℕ) → Holds w (shown_of (shape w)) own a t → (r : Result ℕ Refusal) → r ≡ ok_or t NotLive → HeldTold w b a r
    held None h r m =
        subst (λ (r : Result ℕ Refusal). HeldTold w b a r) (sym m) (
          decides w b (λ j. 0) (λ L. shown_of (shape w) (find (shape w) a L)) v x e 0 (λ L k. ap (λ (f : Found). shown_of (shape w) f) (sym (h.none refl L (here_as b own o L k)))),
          decides w b (λ j. j) (λ L. found (shape w) (find (shape w) a L) not_live 0) v x e not_live (λ L k. ap (λ (f : Found). found (shape w) f not_live 0) (sym (h.none refl L (here_as b own o L k)))),
        )
    held (Some n) h r m =
        subst (λ (r : Result ℕ Refusal). HeldTold w b a r) (sym m) (
          decides w b (λ j. 0) (λ L. shown_of (shape w) (find (shape w) a L)) v x e n (λ L k. shows (find (shape w) a L) (h.answer L (here_as b own o L k))),
          decides w b (λ j. j) (λ L. found (shape w) (find (shape w) a L) not_live 0) v x e 0 (λ L k. granted (find (shape w) a L) (h.answer L (here_as b own o L k))),
          omega (arith, h.some n refl),
          omega (arith, h.within n refl, ap length o, (fine_heap w b v x e).1.here.ended.1, length-take-le (stored_end (shape w) b) b (omega (arith, (fine_heap w b v x e).1.here.ended.1))),
        )
      where
        shows : (f : Found) → Some n ≡ measured (shown_of (shape w)) f → n ≡ shown_of (shape w) f
        shows nothing k = absurd (true≢false (ap is_some k))
        shows (block t) k = ap (λ (y : Option ℕ). unwrap_or y 0) k
        shows (thing o c i) k = ap (λ (y : Option ℕ). unwrap_or y 0) k

        granted : (f : Found) → Some n ≡ measured (shown_of (shape w)) f → ◌≡◌ {A = ℕ} 0 (found (shape w) f not_live 0)
        granted nothing k = absurd (true≢false (ap is_some k))
        granted (block t) k = refl
        granted (thing o c i) k = refl

module _ {w : ℕ} {b : List ℕ} (a : ℕ) where
  pub no_part : (k : Refusal) → HeldTold w b a (Err k) → NoPart w b a k
  no_part k t =
      let c : Checked (shape w) b (λ k. take 0 (drop a b)) (λ L. take (shown_of (shape w) (find (shape w) a L)) (drop a b)) (take 0 (drop a b)) = checked_map (λ (n : ℕ). take n (drop a b)) t.0 in
      record { bytes = c; refusal = t.1 }

  module _ (n : ℕ) (t : HeldTold w b a (Ok n)) where
    pub part_bytes : PartTold w b a (take (a + n - a) (drop a b))
    part_bytes = rw add-sub_cancel_left (checked_map (λ (n : ℕ). take n (drop a b)) t.0)

    -- a part is not empty
    pub part_some : 0 < length (take (a + n - a) (drop a b))
    part_some = omega (arith, long, t.2)
      where
        long : length (take (a + n - a) (drop a b)) ≡ n
        long = rw add-sub_cancel_left (simp (length-take, length-drop) (omega (arith, t.3)))

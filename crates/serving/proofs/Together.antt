-- The reading calls that stand side by side: an answer, and its refusal number, are together what document 01 says.
use Rattle.std.proofs.Common.{ℕ, zero, suc, ◌+◌, ◌≤◌, ◌≡◌, refl, sym, ap, ap₂, ◌∙◌, List, [], ◌∷◌, ◌++◌, arith, length, take, drop, subst, Result, Ok, Err}
use Rattle.std.proofs.Math.Decide.{ℕ_discrete, dec_le}
use Rattle.words.specs.Width.{Width}
use Rattle.model.specs.Shape.{shape, least_free, end_of}
use Rattle.model.specs.Layout.{Block, Layout}
use Rattle.model.specs.Sound.{AllAllowed, heap_of, HereIn, SoundIn}
use Rattle.model.specs.Rules.{Found, block, thing, nothing, find, shown_of}
use Rattle.model.specs.Reading.{the_end, Statistics, Step, row, rows_from, table, ended, step}
use Rattle.model.specs.Refusals.{not_live}
use Rattle.model.specs.Calls.{Told, Lent, Opened, found, LooksUp, Steps, Counts, Tabulates}
use Rattle.model.specs.declared.refusals.Refusal.{Refusal}
use Rattle.model.proofs.pictures.Fronts.{own_ends}
use Rattle.model.proofs.walks.Steps.{step_rises, step_stays}
use Rattle.reading.specs.Counting.{table_rows}
use Rattle.reading.proofs.TableLaws.{table_rows_lem}
use Rattle.serving.specs.Counting.{rows_of, told_table, TableTold, TriedTable}
use Rattle.serving.specs.Lookup.{PartTold, RefusalTold}
use Rattle.serving.proofs.Answering.{checked_map}

module _ {A : Type 0} where
  pair : {k k' : ℕ} {x x' : A} → k ≡ k' → x ≡ x' → ◌≡◌ {A = Told A} (record { refusal = k; answer = x }) (record { refusal = k'; answer = x' })
  pair {k} {k'} {x} {x'} e f = ap₂ (λ (n : ℕ) (y : A). record { refusal = n; answer = y }) e f

-- the first rows of a table, before others
rows_taken : (n d : ℕ) (bs : List Block) (more : List (List ℕ)) → take n (rows_from n d bs ++ more) ≡ rows_from n d bs
unfolding rows_from
rows_taken zero d bs more = refl
rows_taken (suc n) d bs more = ap (λ (l : List (List ℕ)). row d bs ∷ l) (rows_taken n (d + 1) bs more)

module _ (w : ℕ) where
  cut : (bs : List Block) → take (shape w).classes (rows_of w bs) ≡ table (shape w) bs
  cut bs = rows_taken (shape w).classes 0 bs _

  -- the table, with the refusal number beside the statistics: as many rows as there are classes
  pub tabulates : (b : List ℕ) (s : Told Statistics) (t : List (List ℕ)) → Counts (shape w) b s → TableTold w b t → Tabulates (shape w) b (record { refusal = s.refusal; answer = take (shape w).classes t })
  tabulates b s t c told =
      let d = checked_map (λ (l : List (List ℕ)). take (shape w).classes l) told in
      record {
        one = λ n. pair (ap (λ (x : Told Statistics). x.refusal) (c.one n)) (d.one n ∙ cut []);
        two = λ l n. pair (ap (λ (x : Told Statistics). x.refusal) (c.two l n)) (d.two l n ∙ cut []);
        three = λ l o n. pair (ap (λ (x : Told Statistics). x.refusal) (c.three l o n)) (d.three l o n ∙ cut []);
        sound = λ l L h. pair (ap (λ (x : Told Statistics). x.refusal) (c.sound l L h)) (d.sound l L h ∙ cut L.blocks);
      }

  -- the rows of a table that may be refused: the table, or zeros
  pub tried_rows : (b : List ℕ) (r : Result (List (List ℕ)) Refusal) → TriedTable w b r → TableTold w b (told_table w r).answer
  tried_rows b r t = checked_map (λ (x : Told (List (List ℕ))). x.answer) t

  pub rows_granted : (b : List ℕ) (r : Result (List (List ℕ)) Refusal) (t : List (List ℕ)) → TriedTable w b r → r ≡ Ok t → TableTold w b t
  rows_granted b r t x e = subst (λ (r : Result (List (List ℕ)) Refusal). TableTold w b (told_table w r).answer) e (tried_rows b r x)

  pub rows_refused : Width w → (b : List ℕ) (r : Result (List (List ℕ)) Refusal) (k : Refusal) → TriedTable w b r → r ≡ Err k → TableTold w b (rows_from table_rows 0 [])
  unfolding AllAllowed
  rows_refused wd b r k x e =
      subst (λ (t : List (List ℕ)). TableTold w b t) (sym (table_rows_lem wd [] tt)) (subst (λ (r : Result (List (List ℕ)) Refusal). TableTold w b (told_table w r).answer) e (tried_rows b r x))

  pub tabulates_tried : (b : List ℕ) (s : Told Statistics) (r : Result (List (List ℕ)) Refusal) → Counts (shape w) b s → TriedTable w b r
      → Tabulates (shape w) b (record { refusal = s.refusal; answer = take (shape w).classes (told_table w r).answer })
  tabulates_tried b s r c told = tabulates b s (told_table w r).answer c (tried_rows b r told)

  -- and with its own
  pub tabulates_alone : (b : List ℕ) (r : Result (List (List ℕ)) Refusal) → TriedTable w b r → Tabulates (shape w) b (record { refusal = (told_table w r).refusal; answer = take (shape w).classes (told_table w r).answer })
  tabulates_alone b r told =
      let d = checked_map (λ (t : Told (List (List ℕ))). record { refusal = t.refusal; answer = take (shape w).classes t.answer }) told in
      record {
        one = λ n. d.one n ∙ pair refl (cut []);
        two = λ l n. d.two l n ∙ pair refl (cut []);
        three = λ l o n. d.three l o n ∙ pair refl (cut []);
        sound = λ l L h. d.sound l L h ∙ pair refl (cut L.blocks);
      }

  -- the part that look-up lends, with its refusal number
  pub looks_up : (b : List ℕ) (a k : ℕ) (p : List ℕ) → RefusalTold w b a k → PartTold w b a p → LooksUp (shape w) b a (record { refusal = k; answer = p })
  looks_up b a k p c d =
      record {
        one = λ n. pair (c.one n) (d.one n);
        two = λ l n. pair (c.two l n) (d.two l n);
        three = λ l o n. pair (c.three l o n) (d.three l o n);
        sound = λ l L h. pair (c.sound l L h) (d.sound l L h) ∙ go (find (shape w) a L);
      }
    where
      go : (f : Found) → ◌≡◌ {A = Told (List ℕ)} (record { refusal = found (shape w) f not_live 0; answer = take (shown_of (shape w) f) (drop a b) })
          (found (shape w) f (record { refusal = not_live; answer = [] }) (record { refusal = 0; answer = take (shown_of (shape w) f) (drop a b) }))
      go nothing = refl
      go (block t) = refl
      go (thing o c n) = refl

-- a step's answer, from its contract alone: what a loop over the walk needs to end
module _ {w : ℕ} (wd : Width w) (b : List ℕ) (at : ℕ) (r : Told Step) (c : Steps (shape w) b at r) where
  -- what a refused step does not answer, and a step on a sound heap answers where P holds of it
  told_not : (P : Type 0) → (r.answer ≡ ended (shape w) at → ⊥) → ((L : Layout) → HereIn (shape w) b L → r.answer ≡ step (shape w) at L → P) → (P → ⊥) → ⊥
  told_not P k f n = lent (λ l. opened l (λ o. sound l o (λ s. n (f s.layout s.here (ap (λ (x : Told Step). x.answer) (c.sound l s.layout s.here))))))
    where
      lent : (Lent (shape w) b → ⊥) → ⊥
      lent m = k (ap (λ (x : Told Step). x.answer) (c.one m))

      opened : Lent (shape w) b → (Opened (shape w) b → ⊥) → ⊥
      opened l m = k (ap (λ (x : Told Step). x.answer) (c.two l m))

      sound : Lent (shape w) b → Opened (shape w) b → (SoundIn (shape w) b → ⊥) → ⊥
      sound l o m = k (ap (λ (x : Told Step). x.answer) (c.three l o m))

  -- a step that answers a block goes on by the least block at least, and not past the end
  pub goes_on : (r.answer.kind ≡ the_end → ⊥) → (at + least_free (shape w) ≤ r.answer.next) × (r.answer.next ≤ end_of (length b))
  goes_on n = (held (at + least_free (shape w)) r.answer.next (λ z. z.0), held r.answer.next (end_of (length b)) (λ z. z.1))
    where
      rises : (L : Layout) → HereIn (shape w) b L → r.answer ≡ step (shape w) at L → (at + least_free (shape w) ≤ r.answer.next) × (r.answer.next ≤ end_of (length b))
      rises L h e =
          let z = step_rises wd (end_of (length (heap_of (shape w) b))) L at h.here.valid (λ k. n (ap (λ (s : Step). s.kind) e ∙ k)) in
          let m : r.answer.next ≡ (step (shape w) at L).next = ap (λ (s : Step). s.next) e in
          (omega (arith, z.0, m), omega (arith, z.1, m, own_ends (shape w) b L h, h.ended.1))

      held : (x y : ℕ) → ((at + least_free (shape w) ≤ r.answer.next) × (r.answer.next ≤ end_of (length b)) → x ≤ y) → x ≤ y
      held x y f = go (dec_le x y)
        where
          go : Dec (x ≤ y) → x ≤ y
          go (yes l) = l
          go (no m) = absurd (told_not (x ≤ y) (λ e. n (ap (λ (s : Step). s.kind) e)) (λ L h e. f (rises L h e)) m)

  -- a step that answers the end leaves the walk where it stands
  pub stays : r.answer.kind ≡ the_end → r.answer.next ≡ at
  stays k = go (ℕ_discrete r.answer.next at)
    where
      go : Dec (r.answer.next ≡ at) → r.answer.next ≡ at
      go (yes e) = e
      go (no m) =
          absurd
          (told_not (r.answer.next ≡ at) (λ e. m (ap (λ (s : Step). s.next) e))
          (λ L h e. ap (λ (s : Step). s.next) (e ∙ step_stays wd L at (ap (λ (s : Step). s.kind) (sym e) ∙ k))) m)

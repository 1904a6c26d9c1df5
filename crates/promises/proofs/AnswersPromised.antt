-- Demands 1 and 2 of what the calls answer: those of outcomes, through what an answer means.
use Rattle.std.proofs.Common.{ℕ, zero, suc, ◌+◌, ◌-◌, ◌≤◌, ◌≡◌, refl, sym, ap, subst, ◌∙◌, ◌↔◌, List, [], ◌∷◌, ◌++◌, arith, length, get_or, replicate, Result, Ok, Err}
use mathlib.Core.Logic.Iff
use Rattle.words.specs.Width.{Width}
use Rattle.model.specs.Shape.{shape, end_of}
use Rattle.model.specs.Layout.{Layout}
use Rattle.model.specs.Sound.{AllAllowed, Valid, stored_end, heap_of, HereIn, SoundIn}
use Rattle.model.specs.Rules.{Found, block, thing, nothing, find}
use Rattle.model.specs.Reading.{counted, table, total, row, rows_from}
use Rattle.model.specs.Reading as reading
use Rattle.model.specs.Walking.{column}
use Rattle.model.specs.Refusals.{not_live}
use Rattle.model.specs.Calls.{Outcome, Told, refused, granted, ordinary, freed_at, found, Counts}
use Rattle.model.specs.Promises.{Comes}
use Rattle.model.specs.declared.Address.{Address}
use Rattle.model.proofs.lives.LiveFound.{is_there}
use Rattle.model.proofs.walks.Columns.{columns_add}
use Rattle.reading.specs.Counting.{table_rows}
use Rattle.reading.proofs.TableLaws.{table_rows_lem}
use Rattle.model.specs.declared.refusals.Refusal.{Refusal}
use Rattle.model.specs.declared.refusals.Refusal.TheVariants as why
use Rattle.reading.specs.declared.counting.Statistics.{Statistics}
use Rattle.model.specs.Refused.{refusal_number}
use Rattle.serving.specs.Answers.{Answer, outcome}
use Rattle.serving.proofs.Outcomes.{heap_of_lem}
use Rattle.serving.specs.Counting.{told_counted, rows_of, told_table, TableTold}
use Rattle.serving.proofs.Together.{tried_rows}
use Rattle.promises.specs.Answered.{AnswersPromised}
use Rattle.promises.proofs.Stable.{numbers}
use Rattle.promises.proofs.Cases.{checked_cases}
use Rattle.promises.proofs.LookedUp.{looked_up_lem}
use Rattle.promises.proofs.Promised.{promised}
use Rattle.promises.proofs.OneResult.{refusal_some, refusal_one, outcome_one}

-- an answer is granted exactly where its number is 0, and is a refusal exactly where its number is that refusal's
is_granted : (r : Answer) (c : List ℕ) → ((a : Address) × (r ≡ Ok a)) ↔ ((outcome r c).refusal ≡ 0)
is_granted (Ok a) c = ((λ x. refl), (λ e. (a, refl)))
is_granted (Err k) c = ((λ x. ap (λ (z : Answer). (outcome z c).refusal) x.1), (λ e. absurd (omega (arith, e, refusal_some k))))

is_refused : (j : Refusal) (r : Answer) (c : List ℕ) → (r ≡ Err j) ↔ ((outcome r c).refusal ≡ refusal_number j)
is_refused j (Ok a) c = ((λ e. ap (λ (z : Answer). (outcome z c).refusal) e), (λ e. absurd (omega (arith, e, refusal_some j))))
is_refused j (Err k) c = ((λ e. ap (λ (z : Answer). (outcome z c).refusal) e), (λ e. ap (λ (z : Refusal). Err z) (refusal_one k j e)))

-- the table's columns and the statistics, where both tell the same blocks
told_columns : (r : Told reading.Statistics) (t u : List (List ℕ)) (k : ℕ) (s : reading.Statistics) → r ≡ record { refusal = k; answer = s } → t ≡ u
    → (column 0 u ≡ s.pages) × (column 1 u ≡ s.items) → (column 0 t ≡ r.answer.pages) × (column 1 t ≡ r.answer.items)
told_columns r t u k s e f h = (
  ap (λ (z : List (List ℕ)). column 0 z) f ∙ h.0 ∙ sym (ap (λ (z : Told reading.Statistics). z.answer.pages) e),
  ap (λ (z : List (List ℕ)). column 1 z) f ∙ h.1 ∙ sym (ap (λ (z : Told reading.Statistics). z.answer.items) e),
)

-- rows of zeros behind a table add nothing to its columns
nought : (k : ℕ) → get_or {A = ℕ} (0 ∷ 0 ∷ 0 ∷ []) k 0 ≡ 0
nought zero = refl
nought (suc zero) = refl
nought (suc (suc zero)) = refl
nought (suc (suc (suc k))) = refl

no_more : (k n : ℕ) → column k (replicate n (0 ∷ 0 ∷ 0 ∷ [])) ≡ 0
unfolding column
no_more k zero = refl
no_more k (suc n) = omega (arith, no_more k n, nought k)

column_more : (k n : ℕ) (t : List (List ℕ)) → column k (t ++ replicate n (0 ∷ 0 ∷ 0 ∷ [])) ≡ column k t
unfolding column
column_more k n [] = no_more k n
column_more k n (r ∷ t) = ap (λ (x : ℕ). get_or r k 0 + x) (column_more k n t)

module _ {w : ℕ} (wd : Width w) where
  -- free answers 5 exactly where nothing is found
  free_answers : (b : List ℕ) (a : ℕ) (o : Outcome) (L : Layout) → o ≡ found (shape w) (find (shape w) a L) (refused b not_live) (ordinary (shape w) b (freed_at (shape w) a) L) → (o.refusal ≡ not_live) ↔ (find (shape w) a L ≡ nothing)
  free_answers b a o L e = go (find (shape w) a L) refl
    where
      said : (f : Found) → find (shape w) a L ≡ f → o.refusal ≡ (found (shape w) f (refused b not_live) (ordinary (shape w) b (freed_at (shape w) a) L)).refusal
      said f k = ap (λ (x : Outcome). x.refusal) e ∙ ap (λ (y : Found). (found (shape w) y (refused b not_live) (ordinary (shape w) b (freed_at (shape w) a) L)).refusal) k

      go : (f : Found) → find (shape w) a L ≡ f → (o.refusal ≡ not_live) ↔ (find (shape w) a L ≡ nothing)
      go nothing k = ((λ x. k), (λ x. said nothing k))
      go (block t) k = ((λ x. absurd (omega (arith, x, said (block t) k))), (λ x. said nothing x))
      go (thing i c j) k = ((λ x. absurd (omega (arith, x, said (thing i c j) k))), (λ x. said nothing x))

  -- the rows that are answered of blocks that may stand in a heap: of none, and of a layout's
  none_columns : (column 0 (rows_of w []) ≡ (counted []).pages) × (column 1 (rows_of w []) ≡ (counted []).items)
  unfolding column counted rows_from row total AllAllowed
  none_columns = let e = table_rows_lem wd [] tt in (ap (λ (t : List (List ℕ)). column 0 t) (sym e), ap (λ (t : List (List ℕ)). column 1 t) (sym e))

  rows_columns : (end : ℕ) (L : Layout) → Valid (shape w) end L → (column 0 (rows_of w L.blocks) ≡ (counted L.blocks).pages) × (column 1 (rows_of w L.blocks) ≡ (counted L.blocks).items)
  rows_columns end L v =
      let x = columns_add wd end L v in
      (column_more 0 (table_rows - (shape w).classes) (table (shape w) L.blocks) ∙ x.0, column_more 1 (table_rows - (shape w).classes) (table (shape w) L.blocks) ∙ x.1)

  -- what holds in each case of the check, of a pair of equal numbers
  columns_told : (b : List ℕ) (r : Result Statistics Refusal) (t : List (List ℕ)) → Counts (shape w) b (told_counted r) → TableTold w b t
      → (column 0 t ≡ (told_counted r).answer.pages) × (column 1 t ≡ (told_counted r).answer.items)
  columns_told b r t x y = (
    numbers (column 0 t) (told_counted r).answer.pages (checked_cases (shape w) b (λ m. (none (x.one m) (y.one m)).0) (λ l m. (none (x.two l m) (y.two l m)).0) (λ l o m. (none (x.three l o m) (y.three l o m)).0) (λ l L h. (some_of L h (x.sound l L h) (y.sound l L h)).0)),
    numbers (column 1 t) (told_counted r).answer.items (checked_cases (shape w) b (λ m. (none (x.one m) (y.one m)).1) (λ l m. (none (x.two l m) (y.two l m)).1) (λ l o m. (none (x.three l o m) (y.three l o m)).1) (λ l L h. (some_of L h (x.sound l L h) (y.sound l L h)).1)),
  )
    where
      none : {k : ℕ} → told_counted r ≡ record { refusal = k; answer = counted [] } → t ≡ rows_of w [] → (column 0 t ≡ (told_counted r).answer.pages) × (column 1 t ≡ (told_counted r).answer.items)
      none {k} e f = told_columns (told_counted r) t (rows_of w []) k (counted []) e f none_columns

      some_of : (L : Layout) → HereIn (shape w) b L → told_counted r ≡ record { refusal = 0; answer = counted L.blocks } → t ≡ rows_of w L.blocks → (column 0 t ≡ (told_counted r).answer.pages) × (column 1 t ≡ (told_counted r).answer.items)
      some_of L h e f = told_columns (told_counted r) t (rows_of w L.blocks) 0 (counted L.blocks) e f (rows_columns (end_of (length (heap_of (shape w) b))) L h.here.valid)

  pub answers_promised : AnswersPromised w
  unfolding Comes
  answers_promised =
      record {
        refused_untouched = λ b q k c x. ap (λ (o : Outcome). o.heap) ((promised wd).refused_untouched b q (outcome (Err k) c) x (λ e. omega (arith, e, refusal_some k)));
        answers_only = λ b q r c x. (promised wd).answers_only b q (outcome r c) x;
        accepts_exactly = λ b r c x. Iff.trans (is_granted r c) ((promised wd).accepts_exactly b (outcome r c) x);
        stays_sound = λ b q r c x s. subst (λ (d : List ℕ). SoundIn (shape w) d) (heap_of_lem r c) ((promised wd).stays_sound b q (outcome r c) x s);
        opens_sound = λ b e a c x. (promised wd).opens_sound b e (outcome (Ok a) c) x refl;
        end_rises = λ b q r c x s. subst (λ (d : List ℕ). stored_end (shape w) b ≤ stored_end (shape w) d) (heap_of_lem r c) ((promised wd).end_rises b q (outcome r c) x s);
        end_stays = λ b q r c x s z. subst (λ (d : List ℕ). stored_end (shape w) d ≡ stored_end (shape w) b) (heap_of_lem r c) ((promised wd).end_stays b q (outcome r c) x s z);
        behind_untouched = λ b q r c x. subst (λ (d : List ℕ). (i : ℕ) → stored_end (shape w) d ≤ i → get_or d i 0 ≡ get_or b i 0) (heap_of_lem r c) ((promised wd).behind_untouched b q (outcome r c) x);
        allocate_keeps = λ b n a c L L' l h x k. (promised wd).allocate_keeps b n (granted a.0 c) L L' (record { lent = l; here = h; comes = x; granted = refl; then = k });
        free_keeps = λ b a y c L L' l h x k. (promised wd).free_keeps b a (granted y.0 c) L L' (record { lent = l; here = h; comes = x; granted = refl; then = k });
        resize_keeps = λ b a n y c L L' l h x k. (promised wd).resize_keeps b a n (granted y.0 c) L L' (record { lent = l; here = h; comes = x; granted = refl; then = k });
        each_way_keeps = λ v b a n y c L L' l h x k. (promised wd).each_way_keeps v b a n (granted y.0 c) L L' (record { lent = l; here = h; comes = x; granted = refl; then = k });
        looked_up_lem = looked_up_lem wd;
        closed_wait = λ b q a c L L' l h x k z. (promised wd).closed_wait b q (granted a.0 c) L L' (record { lent = l; here = h; comes = x; granted = refl; then = k }) z;
        in_place_stays = λ b a n y c x. (promised wd).in_place_stays b a n (granted y.0 c) x refl;
        move_moves = λ b a n y c x. (promised wd).move_moves b a n (granted y.0 c) x refl;
        no_room_exactly = λ b n r c L l h one most.
            let p = (promised wd).no_room_exactly b n (outcome r c) L l h one most in
            let g = is_refused why.NoRoom r c in
            ((λ m. Iff.trans g (p.0 m)), (λ x i m. Iff.trans g (p.1 x i m)), (λ v x i m. Iff.trans g (p.2 v x i m)));
        not_live_exactly = λ b a r c L l h x.
            let g = is_refused why.NotLive r c in
            let f = free_answers b a (outcome r c) L (x.sound l L h) in
            let i = (promised wd).found_is_live _ L a h.here.valid in (
              (λ z v k at. i.1 (v, k, at) (f.0 (g.0 z))),
              (λ z. g.1 (f.1 (sure_nothing (find (shape w) a L) (λ n. let live = i.0 n in z live.0 live.1 live.2)))),
            );
        smaller_kept = λ b n r c L l h x i one le m.
            let y = (promised wd).smaller_kept b n (outcome r c) L l h x i one le m in
            ((is_granted r c).1 y.0, λ s k. outcome_one r (Ok (record { 0 = x.address })) c b (y.1 s k));
        columns_add = columns_told;
        tried_columns_add = λ b r t x y. columns_told b r (told_table w t).answer x (tried_rows w b t y);
      }
    where
      sure_nothing : (f : Found) → ((f ≡ nothing → ⊥) → ⊥) → f ≡ nothing
      sure_nothing nothing n = refl
      sure_nothing (block t) n = absurd (n (λ e. omega (arith, ap is_there e)))
      sure_nothing (thing o c k) n = absurd (n (λ e. omega (arith, ap is_there e)))

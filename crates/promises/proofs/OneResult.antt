-- Any two results that a public contract allows are equal: the calls' own answers, the C numbers and the reading calls. Of every word size.
use Rattle.std.specs.Prelude.{⊤}
use Rattle.std.proofs.Common.{ℕ, ◌≤◌, ◌≡◌, refl, sym, ap, ap₂, ◌∙◌, cond, eqb, List, arith, length, Option, Some, None, option_map, Result, Ok, Err, Bor, MutBor}
use Rattle.std.proofs.Math.Decide.{ℕ_discrete}
use Rattle.model.specs.Shape.{shape}
use Rattle.model.specs.Sound.{SoundIn}
use Rattle.model.specs.Reading as reading
use Rattle.model.specs.Reading.{a_free, a_variable, a_page, the_end}
use Rattle.model.specs.Calls.{Outcome, Told, Lent, number}
use Rattle.model.specs.Promises.{sweeping, Comes}
use Rattle.model.proofs.pictures.Fronts.{own_opened}
use Rattle.reading.specs.declared.stepping.Kind.{Kind}
use Rattle.reading.specs.declared.stepping.Kind.TheVariants.{Free, Variable, Page}
use Rattle.reading.specs.declared.stepping.MetBlock.{MetBlock}
use Rattle.reading.specs.declared.counting.Statistics.{Statistics}
use Rattle.model.specs.declared.Position.{Position}
use Rattle.model.specs.declared.refusals.Refusal.{Refusal}
use Rattle.model.specs.declared.refusals.Refusal.TheVariants.{BadLength, NotOpened, NotSound, BadSize, NotLive, NoRoom, AlreadyOpened, BadEnd}
use Rattle.serving.specs.declared.counting.Counted.{Counted}
use Rattle.serving.specs.declared.walks.Step.{Step}
use Rattle.serving.specs.declared.walks.Stepped.{Stepped}
use Rattle.examining.specs.Examined.{UnfitFor, Examined, Judged}
use Rattle.model.specs.Refused.{refusal_number}
use Rattle.serving.specs.Answers.{Answer, Swept, outcome, swept_outcome}
use Rattle.serving.specs.Counting.{told_counted, printed_count, told_table}
use Rattle.serving.specs.Walking.{told_next, told_step, printed_kind, printed_step}
use Rattle.serving.specs.Lookup.{PartAt, LivePart, NoPart, TriedPart, TriedPartMut}
use Rattle.promises.specs.Answered.{Same, OneResult}
use Rattle.promises.proofs.Stable.{numbers, lists, tolds, steps, statistics}
use Rattle.promises.proofs.Determined.{checked_one, determined}

-- a refusal by its number
refusal_of : ℕ → Refusal
refusal_of n =
    cond (eqb n 1) BadLength
    (cond (eqb n 2) NotOpened
    (cond (eqb n 3) NotSound
    (cond (eqb n 4) BadSize
    (cond (eqb n 5) NotLive
    (cond (eqb n 6) NoRoom
    (cond (eqb n 7) AlreadyOpened BadEnd))))))

refusal_back : (k : Refusal) → refusal_of (refusal_number k) ≡ k
unfolding refusal_of
refusal_back BadLength = refl
refusal_back NotOpened = refl
refusal_back NotSound = refl
refusal_back BadSize = refl
refusal_back NotLive = refl
refusal_back NoRoom = refl
refusal_back AlreadyOpened = refl
refusal_back BadEnd = refl

pub refusal_one : (k j : Refusal) → refusal_number k ≡ refusal_number j → k ≡ j
refusal_one k j e = sym (refusal_back k) ∙ ap refusal_of e ∙ refusal_back j

pub refusal_some : (k : Refusal) → 1 ≤ refusal_number k
refusal_some BadLength = omega arith
refusal_some NotOpened = omega arith
refusal_some NotSound = omega arith
refusal_some BadSize = omega arith
refusal_some NotLive = omega arith
refusal_some NoRoom = omega arith
refusal_some AlreadyOpened = omega arith
refusal_some BadEnd = omega arith

-- what an answer means is one to one
abbrev answer_back : Outcome → Answer
answer_back o = Ok (record { 0 = o.address })

abbrev swept_back : Outcome → Swept
swept_back o = Ok o.address

pub outcome_one : (r r' : Answer) (c c' : List ℕ) → outcome r c ≡ outcome r' c' → (r ≡ r') × (c ≡ c')
outcome_one (Ok a) (Ok x) c c' e = (ap answer_back e, ap (λ (o : Outcome). o.heap) e)
outcome_one (Ok a) (Err k) c c' e = absurd (omega (arith, refusal_some k, ap (λ (o : Outcome). o.refusal) e))
outcome_one (Err k) (Ok a) c c' e = absurd (omega (arith, refusal_some k, ap (λ (o : Outcome). o.refusal) e))
outcome_one (Err k) (Err j) c c' e = (ap (λ (z : Refusal). Err z) (refusal_one k j (ap (λ (o : Outcome). o.refusal) e)), ap (λ (o : Outcome). o.heap) e)

pub swept_one : (r r' : Swept) (c c' : List ℕ) → swept_outcome r c ≡ swept_outcome r' c' → (r ≡ r') × (c ≡ c')
swept_one (Ok n) (Ok m) c c' e = (ap swept_back e, ap (λ (o : Outcome). o.heap) e)
swept_one (Ok n) (Err k) c c' e = absurd (omega (arith, refusal_some k, ap (λ (o : Outcome). o.refusal) e))
swept_one (Err k) (Ok n) c c' e = absurd (omega (arith, refusal_some k, ap (λ (o : Outcome). o.refusal) e))
swept_one (Err k) (Err j) c c' e = (ap (λ (z : Refusal). Err z) (refusal_one k j (ap (λ (o : Outcome). o.refusal) e)), ap (λ (o : Outcome). o.heap) e)

-- a block by what it tells, and none by the end
kind_back : reading.Kind → Option Kind
kind_back (a_free next previous) = Some (Free (record { 0 = next }) (record { 0 = previous }))
kind_back a_variable = Some Variable
kind_back (a_page c) = Some (Page c)
kind_back the_end = None

kind_back_lem : (k : Option Kind) → kind_back (printed_kind k) ≡ k
unfolding kind_back
kind_back_lem None = refl
kind_back_lem (Some (Free next previous)) = refl
kind_back_lem (Some Variable) = refl
kind_back_lem (Some (Page c)) = refl

abbrev met_with : Position → ℕ → Option Kind → Option MetBlock
met_with p s k = option_map (λ (x : Kind). record { position = p; size = s; kind = x }) k

abbrev met_back : reading.Step → Option MetBlock
met_back t = met_with (record { 0 = t.position }) t.size (kind_back t.kind)

met_back_lem : (w n : ℕ) (m : Option MetBlock) → met_back (told_next w m n) ≡ m
unfolding kind_back
met_back_lem w n None = refl
met_back_lem w n (Some b) = ap (met_with b.position b.size) (kind_back_lem (Some b.kind))

met_one : (w : ℕ) (m m' : Option MetBlock) (n n' : ℕ) → told_next w m n ≡ told_next w m' n' → m ≡ m'
met_one w m m' n n' e = sym (met_back_lem w n m) ∙ ap met_back e ∙ met_back_lem w n' m'

next_lem : (w : ℕ) (m : Option MetBlock) (n : ℕ) → (told_next w m n).next ≡ n
next_lem w None n = refl
next_lem w (Some b) n = refl

abbrev step_of : Option MetBlock → ℕ → Result Step Refusal
step_of m n = Ok (record { block = m; walk = record { at = record { 0 = n } } })

step_one : (w at : ℕ) (r r' : Result Step Refusal) → told_step w at r ≡ told_step w at r' → r ≡ r'
step_one w at (Ok s) (Ok t) e =
    let f : told_next w s.block s.walk.at.0 ≡ told_next w t.block t.walk.at.0 = ap (λ (x : Told reading.Step). x.answer) e in
    ap₂ step_of (met_one w s.block t.block s.walk.at.0 t.walk.at.0 f) (sym (next_lem w s.block s.walk.at.0) ∙ ap (λ (x : reading.Step). x.next) f ∙ next_lem w t.block t.walk.at.0)
step_one w at (Ok s) (Err k) e = absurd (omega (arith, refusal_some k, ap (λ (x : Told reading.Step). x.refusal) e))
step_one w at (Err k) (Ok s) e = absurd (omega (arith, refusal_some k, ap (λ (x : Told reading.Step). x.refusal) e))
step_one w at (Err k) (Err j) e = ap (λ (z : Refusal). Err z) (refusal_one k j (ap (λ (x : Told reading.Step). x.refusal) e))

-- the statistics by what they tell, with their refusal as they are printed
abbrev count_back : Told reading.Statistics → Counted
count_back t =
    record {
      statistics = record {
        free_bytes = t.answer.free_bytes;
        free_blocks = t.answer.free_blocks;
        largest_free = t.answer.largest_free;
        variables = t.answer.variables;
        pages = t.answer.pages;
        items = t.answer.items;
      };
      refusal = t.refusal;
    }

abbrev counted_back : Told reading.Statistics → Result Statistics Refusal
counted_back t = Ok (count_back t).statistics

counted_one : (r r' : Result Statistics Refusal) → told_counted r ≡ told_counted r' → r ≡ r'
counted_one (Ok s) (Ok t) e = ap counted_back e
counted_one (Ok s) (Err k) e = absurd (omega (arith, refusal_some k, ap (λ (x : Told reading.Statistics). x.refusal) e))
counted_one (Err k) (Ok s) e = absurd (omega (arith, refusal_some k, ap (λ (x : Told reading.Statistics). x.refusal) e))
counted_one (Err k) (Err j) e = ap (λ (z : Refusal). Err z) (refusal_one k j (ap (λ (x : Told reading.Statistics). x.refusal) e))

-- a step as it is printed
abbrev step_back : Told reading.Step → Stepped
step_back t = record { refusal = t.refusal; position = record { 0 = t.answer.position }; size = t.answer.size; kind = kind_back t.answer.kind; next = record { 0 = t.answer.next } }

step_back_lem : (r : Stepped) → step_back (printed_step r) ≡ r
step_back_lem r = ap (λ (k : Option Kind). record { refusal = r.refusal; position = r.position; size = r.size; kind = k; next = r.next }) (kind_back_lem r.kind)

-- and the table
abbrev table_back : Told (List (List ℕ)) → Result (List (List ℕ)) Refusal
table_back t = Ok t.answer

table_one : (w : ℕ) (r r' : Result (List (List ℕ)) Refusal) → told_table w r ≡ told_table w r' → r ≡ r'
table_one w (Ok s) (Ok t) e = ap table_back e
table_one w (Ok s) (Err k) e = absurd (omega (arith, refusal_some k, ap (λ (x : Told (List (List ℕ))). x.refusal) e))
table_one w (Err k) (Ok s) e = absurd (omega (arith, refusal_some k, ap (λ (x : Told (List (List ℕ))). x.refusal) e))
table_one w (Err k) (Err j) e = ap (λ (z : Refusal). Err z) (refusal_one k j (ap (λ (x : Told (List (List ℕ))). x.refusal) e))

module _ (w : ℕ) where
  -- a heap is unfit for one reason, and fine for none
  unfit_one : (b : List ℕ) (k j : Refusal) → UnfitFor w b k → UnfitFor w b j → k ≡ j
  unfolding UnfitFor
  unfit_one b BadLength BadLength u v = refl
  unfit_one b BadLength NotOpened u v = absurd (u v.0)
  unfit_one b BadLength NotSound u v = absurd (u v.0)
  unfit_one b BadLength BadSize u v = absurd v
  unfit_one b BadLength NotLive u v = absurd v
  unfit_one b BadLength NoRoom u v = absurd v
  unfit_one b BadLength AlreadyOpened u v = absurd v
  unfit_one b BadLength BadEnd u v = absurd v
  unfit_one b NotOpened BadLength u v = absurd (v u.0)
  unfit_one b NotOpened NotOpened u v = refl
  unfit_one b NotOpened NotSound u v = absurd (u.1 v.1)
  unfit_one b NotOpened BadSize u v = absurd v
  unfit_one b NotOpened NotLive u v = absurd v
  unfit_one b NotOpened NoRoom u v = absurd v
  unfit_one b NotOpened AlreadyOpened u v = absurd v
  unfit_one b NotOpened BadEnd u v = absurd v
  unfit_one b NotSound BadLength u v = absurd (v u.0)
  unfit_one b NotSound NotOpened u v = absurd (v.1 u.1)
  unfit_one b NotSound NotSound u v = refl
  unfit_one b NotSound BadSize u v = absurd v
  unfit_one b NotSound NotLive u v = absurd v
  unfit_one b NotSound NoRoom u v = absurd v
  unfit_one b NotSound AlreadyOpened u v = absurd v
  unfit_one b NotSound BadEnd u v = absurd v
  unfit_one b BadSize j u v = absurd u
  unfit_one b NotLive j u v = absurd u
  unfit_one b NoRoom j u v = absurd u
  unfit_one b AlreadyOpened j u v = absurd u
  unfit_one b BadEnd j u v = absurd u

  fine_fit : (b : List ℕ) (k : Refusal) → Lent (shape w) b × SoundIn (shape w) b → UnfitFor w b k → ⊥
  unfolding UnfitFor
  fine_fit b BadLength s u = u s.0
  fine_fit b NotOpened s u = u.1 (own_opened (shape w) b s.1.layout s.1.here)
  fine_fit b NotSound s u = u.2 s.1
  fine_fit b BadSize s u = u
  fine_fit b NotLive s u = u
  fine_fit b NoRoom s u = u
  fine_fit b AlreadyOpened s u = u
  fine_fit b BadEnd s u = u

  verdict_one : (b : List ℕ) (v v' : Result (List ℕ) Refusal) → Examined w b v → Examined w b v' → v ≡ v'
  unfolding Examined
  verdict_one b (Ok t) (Ok u) x y = ap (λ (z : List ℕ). Ok z) (x.1 ∙ sym y.1)
  verdict_one b (Ok t) (Err k) x y = absurd (fine_fit b k x.0 y)
  verdict_one b (Err k) (Ok t) x y = absurd (fine_fit b k y.0 x)
  verdict_one b (Err k) (Err j) x y = ap (λ (z : Refusal). Err z) (unfit_one b k j x y)

  judged_one : (b : List ℕ) (v v' : Result ⊤ Refusal) → Judged w b v → Judged w b v' → v ≡ v'
  unfolding Judged
  judged_one b (Ok t) (Ok u) x y = refl
  judged_one b (Ok t) (Err k) x y = absurd (fine_fit b k x y)
  judged_one b (Err k) (Ok t) x y = absurd (fine_fit b k y x)
  judged_one b (Err k) (Err j) x y = ap (λ (z : Refusal). Err z) (unfit_one b k j x y)

  -- two parts of one heap are one
  part_one : (h : ℕ × ℕ) (b : List ℕ) (a : ℕ) (i j : ℕ × ℕ) (l m : List ℕ) → PartAt w h b a i l → PartAt w h b a j m → l ≡ m → i.1 ≡ j.1
  part_one h b a i j l m p q e = go (ℕ_discrete (length l) 0)
    where
      long : length l ≡ length m
      long = ap length e

      go : Dec (length l ≡ 0) → i.1 ≡ j.1
      go (yes z) = p.empty z ∙ sym (q.empty (sym long ∙ z))
      go (no z) = p.place (omega (arith, z)) ∙ sym (q.place (omega (arith, z, long)))

  parts_one : (h : ℕ × ℕ) (b : List ℕ) (a : ℕ) (i j : ℕ × ℕ) (l m : List ℕ) → PartAt w h b a i l → PartAt w h b a j m → (l ≡ m) × (i ≡ j)
  parts_one h b a i j l m x y =
      let e : l ≡ m = checked_one (shape w) b (lists numbers) _ _ l m x.bytes y.bytes in
      (e, ap₂ (λ (k n : ℕ). (k, n)) (x.same ∙ sym y.same) (part_one h b a i j l m x y e))

  -- a live part is a part, and what lends one refuses nothing
  live_at : {h : ℕ × ℕ} {b : List ℕ} {a : ℕ} {i : ℕ × ℕ} {l : List ℕ} → LivePart w h b a i l → PartAt w h b a i l
  live_at x = record { bytes = x.bytes; same = x.same; place = λ z. x.place; empty = λ z. absurd (omega (arith, z, x.some_byte)) }

  live_one : (h : ℕ × ℕ) (b : List ℕ) (a : ℕ) (i j : ℕ × ℕ) (l m : List ℕ) → LivePart w h b a i l → LivePart w h b a j m → (l ≡ m) × (i ≡ j)
  live_one h b a i j l m x y = parts_one h b a i j l m (live_at x) (live_at y)

  not_both : (h : ℕ × ℕ) (b : List ℕ) (a : ℕ) (i : ℕ × ℕ) (l : List ℕ) (k : Refusal) → LivePart w h b a i l → NoPart w b a k → ⊥
  not_both h b a i l k x y = omega (arith, refusal_some k, checked_one (shape w) b numbers _ _ 0 (refusal_number k) x.granted y.refusal)

  none_one : (b : List ℕ) (a : ℕ) (k j : Refusal) → NoPart w b a k → NoPart w b a j → k ≡ j
  none_one b a k j x y = refusal_one k j (checked_one (shape w) b numbers _ _ (refusal_number k) (refusal_number j) x.refusal y.refusal)

  tried_one : (h : Bor (List ℕ)) (a : ℕ) (r r' : Result (Bor (List ℕ)) Refusal) → TriedPart w h a r → TriedPart w h a r' → Same (λ x y. (x.now ≡ y.now) × (x.ref_ptr ≡ y.ref_ptr)) r r'
  tried_one h a (Ok r) (Ok t) x y = live_one h.ref_ptr h.now a r.ref_ptr t.ref_ptr r.now t.now x y
  tried_one h a (Ok r) (Err k) x y = not_both h.ref_ptr h.now a r.ref_ptr r.now k x y
  tried_one h a (Err k) (Ok r) x y = not_both h.ref_ptr h.now a r.ref_ptr r.now k y x
  tried_one h a (Err k) (Err j) x y = none_one h.now a k j x y

  tried_mut_one : (h : MutBor (List ℕ)) (a : ℕ) (r r' : Result (MutBor (List ℕ)) Refusal) → TriedPartMut w h a r → TriedPartMut w h a r' → Same (λ x y. (x.now ≡ y.now) × (x.ref_ptr ≡ y.ref_ptr)) r r'
  tried_mut_one h a (Ok r) (Ok t) x y = live_one h.ref_ptr h.now a r.ref_ptr t.ref_ptr r.now t.now x y
  tried_mut_one h a (Ok r) (Err k) x y = not_both h.ref_ptr h.now a r.ref_ptr r.now k x y
  tried_mut_one h a (Err k) (Ok r) x y = not_both h.ref_ptr h.now a r.ref_ptr r.now k y x
  tried_mut_one h a (Err k) (Err j) x y = none_one h.now a k j x y

  pub one_result : OneResult w
  unfolding Comes
  one_result =
      record {
        answers = λ b q r r' c c' x y. outcome_one r r' c c' (determined (shape w) b q (outcome r c) (outcome r' c') x y);
        sweeps = λ b r r' c c' x y. swept_one r r' c c' (determined (shape w) b sweeping (swept_outcome r c) (swept_outcome r' c') x y);
        verdicts = verdict_one;
        judgements = judged_one;
        numbers = λ b q n n' c c' x y.
            let e : x.outcome ≡ y.outcome = determined (shape w) b q x.outcome y.outcome x.allowed y.allowed in
            (x.number ∙ ap number e ∙ sym y.number, x.heap ∙ ap (λ (o : Outcome). o.heap) e ∙ sym y.heap);
        look_ups = λ h a r r' x y. parts_one h.ref_ptr h.now a r.ref_ptr r'.ref_ptr r.now r'.now x y;
        look_ups_mut = λ h a r r' x y. parts_one h.ref_ptr h.now a r.ref_ptr r'.ref_ptr r.now r'.now x y;
        tried_look_ups = tried_one;
        tried_look_ups_mut = tried_mut_one;
        look_up_refusals = λ b a k k' x y. checked_one (shape w) b numbers _ _ k k' x y;
        statistics = λ b r r' x y. counted_one r r' (checked_one (shape w) b (tolds statistics) _ _ (told_counted r) (told_counted r') x y);
        printed_counts = λ b r r' x y. ap count_back (checked_one (shape w) b (tolds statistics) _ _ (printed_count r) (printed_count r') x y);
        tables = λ b t t' x y. checked_one (shape w) b (lists (lists numbers)) _ _ t t' x y;
        tried_tables = λ b t t' x y. table_one w t t' (checked_one (shape w) b (tolds (lists (lists numbers))) _ _ (told_table w t) (told_table w t') x y);
        steps = λ b at r r' x y. step_one w at r r' (checked_one (shape w) b (tolds steps) _ _ (told_step w at r) (told_step w at r') x y);
        printed_steps = λ b at r r' x y. sym (step_back_lem r) ∙ ap step_back (checked_one (shape w) b (tolds steps) _ _ (printed_step r) (printed_step r') x y) ∙ step_back_lem r';
      }

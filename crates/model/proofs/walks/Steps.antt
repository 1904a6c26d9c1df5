-- Laws of a walk's steps.
use Rattle.std.proofs.Common.{ℕ, ◌+◌, ◌≤◌, ◌<◌, ◌*◌, ◌≡◌, refl, sym, ap, ap₂, subst, ◌∙◌, List, [], ◌∷◌, ◌++◌, append_assoc, append-nil, arith, length, eq-eqb, ne_eqb}
use Rattle.std.proofs.Math.Decide.{ℕ_discrete}
use Rattle.words.specs.Width.{Width}
use Rattle.model.specs.Shape.{shape, start}
use Rattle.model.specs.Layout.{variable, page, Block, free, used, Layout, if_free, size_of, ends}
use Rattle.model.specs.Sound.{AllAllowed}
use Rattle.model.specs.Reading.{the_end, Step, kind_of, ended, step_from, step}
use Rattle.model.specs.Walking.{walk, answers, WalkVisits, WalkEnds, StepRises, StepStays}
use Rattle.model.proofs.blocks.Blocks.{ends_append, last_append, le_ends, allowed_left}
use Rattle.model.specs.inner.Walks.{last_free}
use Rattle.model.proofs.walks.Standing.{sizes}

module _ {w : ℕ} (wd : Width w) where
  -- a step from where a block begins answers it; a walk that stands elsewhere passes it over
  pub step_here : (p prev : ℕ) (b : Block) (bs : List Block) → step_from (shape w) p p prev (b ∷ bs) ≡ record { position = p; size = size_of (shape w) b; kind = kind_of (shape w) p prev b bs; next = p + size_of (shape w) b }
  unfolding step_from
  step_here p prev b bs = rw (eq-eqb p p refl)

  pub step_over : (at p prev : ℕ) (b : Block) (bs : List Block) → (at ≡ p → ⊥) → step_from (shape w) at p prev (b ∷ bs) ≡ step_from (shape w) at (p + size_of (shape w) b) (if_free b p prev) bs
  unfolding step_from
  step_over at p prev b bs n = rw (ne_eqb at p n)

  pub step_none : (at p prev : ℕ) → step_from (shape w) at p prev [] ≡ ended (shape w) at
  unfolding step_from
  step_none at p prev = refl

  -- no block of those from p on begins below p
  pub step_below : (at p prev : ℕ) (bs : List Block) → at < p → step_from (shape w) at p prev bs ≡ ended (shape w) at
  step_below at p prev [] l = step_none at p prev
  step_below at p prev (b ∷ bs) l = step_over at p prev b bs (λ e. omega arith) ∙ step_below at (p + size_of (shape w) b) (if_free b p prev) bs (omega arith)

  -- blocks that end by at are passed over
  pub step_past : (at p prev : ℕ) (pre rest : List Block) → AllAllowed (shape w) pre → ends (shape w) p pre ≤ at → step_from (shape w) at p prev (pre ++ rest) ≡ step_from (shape w) at (ends (shape w) p pre) (last_free (shape w) p pre prev) rest
  unfolding ends last_free AllAllowed
  step_past at p prev [] rest a l = refl
  step_past at p prev (b ∷ pre) rest a l =
      step_over at p prev b (pre ++ rest) (λ e. omega (arith, (sizes wd b a.0).0, le_ends (shape w) (p + size_of (shape w) b) pre))
      ∙ step_past at (p + size_of (shape w) b) (if_free b p prev) pre rest a.1 l

  pub walk_ends : WalkEnds (shape w)
  walk_ends end L at v l =
      ap (λ (bs : List Block). step_from (shape w) at (start (shape w)) 0 bs) (sym (append-nil L.blocks))
      ∙ step_past at (start (shape w)) 0 L.blocks [] v.allowed (omega (arith, v.fills))
      ∙ step_none at (ends (shape w) (start (shape w)) L.blocks) (last_free (shape w) (start (shape w)) L.blocks 0)

  -- the blocks from p on, behind `pre`, are answered one by one
  walk_from : (L : Layout) (pre rest : List Block) (p prev : ℕ) → L.blocks ≡ pre ++ rest → AllAllowed (shape w) (pre ++ rest) → ends (shape w) (start (shape w)) pre ≡ p → last_free (shape w) (start (shape w)) pre 0 ≡ prev
      → walk (shape w) (length rest) p L ≡ answers (shape w) p prev rest
  unfolding walk answers ends last_free
  walk_from L pre [] p prev e a f g = refl
  walk_from L pre (b ∷ rest) p prev e a f g =
      let e' : L.blocks ≡ (pre ++ (b ∷ [])) ++ rest = e ∙ sym (append_assoc pre (b ∷ []) rest) in
      let a' : AllAllowed (shape w) ((pre ++ (b ∷ [])) ++ rest) = subst (λ (l : List Block). AllAllowed (shape w) l) (sym (append_assoc pre (b ∷ []) rest)) a in
      let here : step (shape w) p L ≡ record { position = p; size = size_of (shape w) b; kind = kind_of (shape w) p prev b rest; next = p + size_of (shape w) b } =
      ap (λ (l : List Block). step_from (shape w) p (start (shape w)) 0 l) e
      ∙ step_past p (start (shape w)) 0 pre (b ∷ rest) (allowed_left (shape w) pre (b ∷ rest) a) (omega (arith, f))
      ∙ ap₂ (λ (q r : ℕ). step_from (shape w) p q r (b ∷ rest)) f g
      ∙ step_here p prev b rest in
      let later = walk_from L (pre ++ (b ∷ [])) rest (p + size_of (shape w) b) (if_free b p prev) e' a' (ends_append (shape w) (start (shape w)) pre (b ∷ []) ∙ ap (λ (y : ℕ). y + size_of (shape w) b) f) (last_append (shape w) (start (shape w)) pre (b ∷ []) 0 ∙ rw (f, g) refl) in
      ap (λ (s : Step). s ∷ walk (shape w) (length rest) s.next L) here ∙ ap (λ (l : List Step). record { position = p; size = size_of (shape w) b; kind = kind_of (shape w) p prev b rest; next = p + size_of (shape w) b } ∷ l) later

  pub walk_visits : WalkVisits (shape w)
  unfolding ends last_free
  walk_visits end L v = walk_from L [] L.blocks (start (shape w)) 0 refl v.allowed refl refl

  -- a step among blocks from p on that is not at the end
  rises_from : (at p prev : ℕ) (bs : List Block) → AllAllowed (shape w) bs → ((step_from (shape w) at p prev bs).kind ≡ the_end → ⊥) → (at + 4 * w ≤ (step_from (shape w) at p prev bs).next) × ((step_from (shape w) at p prev bs).next ≤ ends (shape w) p bs)
  unfolding AllAllowed ends
  rises_from at p prev [] a n = absurd (n (ap (λ (s : Step). s.kind) (step_none at p prev)))
  rises_from at p prev (b ∷ bs) a n = go (ℕ_discrete at p) (rises_from at (p + size_of (shape w) b) (if_free b p prev) bs a.1)
    where
      Rises : ℕ → Step → Type 0
      Rises hi s = (s.kind ≡ the_end → ⊥) → (at + 4 * w ≤ s.next) × (s.next ≤ hi)

      go : Dec (at ≡ p) → Rises (ends (shape w) (p + size_of (shape w) b) bs) (step_from (shape w) at (p + size_of (shape w) b) (if_free b p prev) bs) → (at + 4 * w ≤ (step_from (shape w) at p prev (b ∷ bs)).next) × ((step_from (shape w) at p prev (b ∷ bs)).next ≤ ends (shape w) (p + size_of (shape w) b) bs)
      go (yes e) r =
          let z : (step_from (shape w) at p prev (b ∷ bs)).next ≡ p + size_of (shape w) b = rw e (ap (λ (s : Step). s.next) (step_here p prev b bs)) in
          (omega (arith, z, (sizes wd b a.0).0), omega (arith, z, le_ends (shape w) (p + size_of (shape w) b) bs))
      go (no m) r = subst (λ (s : Step). Rises (ends (shape w) (p + size_of (shape w) b) bs) s) (sym (step_over at p prev b bs m)) r n

  pub step_rises : StepRises (shape w) (4 * w)
  step_rises end L at v n = let r = rises_from at (start (shape w)) 0 L.blocks v.allowed n in (r.0, omega (arith, r.1, v.fills))

  -- a block is not the end
  block_no_end : (p prev : ℕ) (b : Block) (bs : List Block) → kind_of (shape w) p prev b bs ≡ the_end → ⊥
  unfolding kind_of
  block_no_end p prev (free s) bs e = let z : ◌≡◌ {A = ℕ} 0 1 = cc in omega arith
  block_no_end p prev (used (variable s)) bs e = let z : ◌≡◌ {A = ℕ} 0 1 = cc in omega arith
  block_no_end p prev (used (page c k ss)) bs e = let z : ◌≡◌ {A = ℕ} 0 1 = cc in omega arith

  stays_from : (at p prev : ℕ) (bs : List Block) → (step_from (shape w) at p prev bs).kind ≡ the_end → step_from (shape w) at p prev bs ≡ ended (shape w) at
  stays_from at p prev [] e = step_none at p prev
  stays_from at p prev (b ∷ bs) e = go (ℕ_discrete at p) (stays_from at (p + size_of (shape w) b) (if_free b p prev) bs)
    where
      go : Dec (at ≡ p) → ((step_from (shape w) at (p + size_of (shape w) b) (if_free b p prev) bs).kind ≡ the_end → step_from (shape w) at (p + size_of (shape w) b) (if_free b p prev) bs ≡ ended (shape w) at) → step_from (shape w) at p prev (b ∷ bs) ≡ ended (shape w) at
      go (yes z) r =
          let k : kind_of (shape w) p prev b bs ≡ the_end = sym (ap (λ (s : Step). s.kind) (step_here p prev b bs)) ∙ ap (λ (x : ℕ). (step_from (shape w) x p prev (b ∷ bs)).kind) (sym z) ∙ e in
          absurd (block_no_end p prev b bs k)
      go (no n) r = step_over at p prev b bs n ∙ r (ap (λ (s : Step). s.kind) (sym (step_over at p prev b bs n)) ∙ e)

  pub step_stays : StepStays (shape w)
  step_stays L at e = stays_from at (start (shape w)) 0 L.blocks e

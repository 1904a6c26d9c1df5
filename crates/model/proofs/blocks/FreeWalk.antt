-- A walk along the free list, for the lowest free block of a size.
use Rattle.std.proofs.Common.{ℕ, ◌+◌, ◌-◌, ◌*◌, ◌≤◌, ◌<◌, ◌≡◌, refl, ◌∙◌, cond, List, [], ◌∷◌, ◌⊎◌, inl, inr, arith, length, eqb, le-leb, ne_eqb}
use Rattle.std.proofs.Math.Option.{Option, none, some}
use Rattle.std.proofs.lemmas.Bool.{lt-leb}
use Rattle.words.specs.Word.{word_at}
use Rattle.model.specs.Picture.{Shows}
use Rattle.model.proofs.pictures.Pictures.{shows_right}
use Rattle.model.specs.Shape.{Shape, start, end_of}
use Rattle.model.specs.Parts.{first_free_at}
use Rattle.model.specs.Layout.{Block, free, used, Layout, size_of, ends, first_free, own, block_words, fixed_low, fixed_high, words}
use Rattle.model.specs.Sound.{Allowed, AllAllowed, Here}
use Rattle.model.specs.Rules.{Spot, after, fit}
use Rattle.model.specs.inner.Walks.{found_from, found_at}
use Rattle.model.proofs.blocks.Blocks.{le_ends}

-- a number that falls as the walk goes on: positions rise, and 0 ends it
unfoldable pub left : ℕ → ℕ → ℕ
left n p = cond (eqb p 0) 0 (n - p)

module _ (S : Shape) where
  -- the walk stands at a free block, at p, and what is looked for is from there on
  pub record At (b : List ℕ) (need : ℕ) (L : Layout) (lo p : ℕ) : Type 0 where
    pub size : ℕ
    pub rest : List Block
    pub prev : ℕ
    pub low : lo ≤ p
    pub shown : Shows S.word b (block_words S L.lists p prev 0 (free size ∷ rest))
    pub allowed : AllAllowed S (free size ∷ rest)
    pub fills : ends S p (free size ∷ rest) ≤ length b
    pub answer : found_at S (fit need L.blocks) ≡ found_from S p (fit need (free size ∷ rest))

  -- or it has come to the end of the list, and there is none
  abbrev pub Seeking : List ℕ → ℕ → Layout → ℕ → ℕ → Type 0
  Seeking b need L lo p = ((p ≡ 0) × (found_at S (fit need L.blocks) ≡ 0)) ⊎ At b need L lo p

  found_after : (p : ℕ) (x : Block) (o : Option Spot) → found_from S p (after x o) ≡ found_from S (p + size_of S x) o
  unfolding ends
  found_after p x none = refl
  found_after p x (some t) = refl

  pub lower : (b : List ℕ) (need : ℕ) (L : Layout) (lo lo' p : ℕ) → lo' ≤ lo → Seeking b need L lo p → Seeking b need L lo' p
  lower b need L lo lo' p h (inl e) = inl e
  lower b need L lo lo' p h (inr a) =
      inr (record { size = a.size; rest = a.rest; prev = a.prev; low = omega (arith, a.low); shown = a.shown; allowed = a.allowed; fills = a.fills; answer = a.answer })

  -- from any blocks the walk stands at their first free one
  pub skip : (b : List ℕ) (need : ℕ) (L : Layout) (p prev : ℕ) (bs : List Block) → Shows S.word b (block_words S L.lists p prev 0 bs) → AllAllowed S bs → ends S p bs ≤ length b
      → found_at S (fit need L.blocks) ≡ found_from S p (fit need bs) → Seeking b need L p (first_free S p bs 0)
  unfolding first_free fit ends AllAllowed block_words own
  skip b need L p prev [] s h r e = inl (refl, e)
  skip b need L p prev (free t ∷ bs) s h r e = inr (record { size = t; rest = bs; prev = prev; low = omega arith; shown = s; allowed = h; fills = r; answer = e })
  skip b need L p prev (used u ∷ bs) s h r e =
      let q = p + size_of S (used u) in
      lower b need L q p (first_free S q bs 0) (omega arith)
      (skip b need L q prev bs (shows_right S.word b (own S L.lists p prev (first_free S q bs 0) (used u)) (block_words S L.lists q prev 0 bs) s) h.1 r (e ∙ found_after p (used u) (fit need bs)))

  module _ (b : List ℕ) (need : ℕ) (L : Layout) (lo p : ℕ) (a : At b need L lo p) where
    pub size_read : word_at S.word b p ≡ a.size
    unfolding Shows block_words own
    size_read = a.shown.0

    pub next_read : word_at S.word b (p + S.word) ≡ first_free S (p + a.size) a.rest 0
    unfolding Shows block_words own size_of
    next_read = a.shown.1.0

    pub room : p + 4 * S.word ≤ length b
    unfolding ends AllAllowed Allowed size_of
    room = omega (arith, le_ends S (p + a.size) a.rest, a.allowed.0.0, a.fills)

    pub large : 4 * S.word ≤ a.size
    unfolding AllAllowed Allowed
    large = a.allowed.0.0

    -- it is large enough
    pub hit : need ≤ a.size → found_at S (fit need L.blocks) ≡ p
    unfolding fit ends
    hit h = a.answer ∙ rw (le-leb need a.size h)

    -- it is too small: the walk goes on
    pub miss : a.size < need → Seeking b need L (p + a.size) (first_free S (p + a.size) a.rest 0)
    unfolding block_words own ends AllAllowed size_of fit
    miss h =
        skip b need L (p + a.size) p a.rest (shows_right S.word b (own S L.lists p a.prev (first_free S (p + a.size) a.rest 0) (free a.size)) (block_words S L.lists (p + a.size) p 0 a.rest) a.shown)
        a.allowed.1 a.fills (a.answer ∙ rw (lt-leb need a.size h) (found_after p (free a.size) (fit need a.rest)))

  -- the walk begins at the first free block
  pub begin : (b : List ℕ) (need : ℕ) (L : Layout) → Here S b L → Seeking b need L (start S) (first_free S (start S) L.blocks 0)
  unfolding words fixed_low Shows
  begin b need L h =
      skip b need L (start S) 0 L.blocks
      (shows_right S.word b (fixed_high S (end_of (length b)) L.lists) (block_words S L.lists (start S) 0 0 L.blocks) h.shown.1.1.1)
      h.valid.allowed (rw h.valid.fills (omega arith)) refl

  pub first_read : (b : List ℕ) (L : Layout) → Here S b L → word_at S.word b (first_free_at S) ≡ first_free S (start S) L.blocks 0
  unfolding words fixed_low Shows
  first_read b L h = h.shown.1.1.0

  -- the walk comes nearer its end
  pub falls : (b : List ℕ) (need : ℕ) (L : Layout) (lo p p' : ℕ) → (p ≡ 0 → ⊥) → p < lo → p < length b → Seeking b need L lo p' → left (length b) p' < left (length b) p
  unfolding left
  falls b need L lo p p' z h r (inl e) = rw (ne_eqb p 0 z, e.0) (omega arith)
  falls b need L lo p p' z h r (inr a) = rw (ne_eqb p 0 z, ne_eqb p' 0 (λ e. omega (arith, a.low))) (omega (arith, a.low, room b need L lo p' a))

  -- where the walk is not at its end it stands at a free block
  pub standing : (b : List ℕ) (need : ℕ) (L : Layout) (lo p : ℕ) → (p ≡ 0 → ⊥) → Seeking b need L lo p → At b need L lo p
  standing b need L lo p h (inl e) = absurd (h e.0)
  standing b need L lo p h (inr a) = a

  pub ended : (b : List ℕ) (need : ℕ) (L : Layout) (p : ℕ) → p ≡ 0 → Seeking b need L (start S) p → found_at S (fit need L.blocks) ≡ 0
  ended b need L p h (inl e) = e.1
  ended b need L p h (inr a) = absurd (omega (arith, a.low))

  pub here_room : (b : List ℕ) (L : Layout) → Here S b L → start S ≤ length b
  here_room b L h = omega (arith, h.valid.fills, le_ends S (start S) L.blocks)

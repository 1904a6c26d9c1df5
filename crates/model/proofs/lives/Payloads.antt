-- Live payloads lie in their blocks, apart, and hold no word of the picture: a drawing of their layout keeps their bytes.
use Rattle.std.proofs.Common.{ℕ, ◌+◌, ◌-◌, ◌*◌, ◌≤◌, ◌≡◌, ap, List, [], ◌∷◌, ◌++◌, inl, inr, ⊎_elim, arith, length, get_or}
use Rattle.words.proofs.CopyLaws.{part_agree}
use Rattle.model.specs.Shape.{Shape, start, item_size}
use Rattle.model.specs.Parts.{first_free_at}
use Rattle.model.specs.Picture.{Word, draw}
use Rattle.model.specs.Layout.{Slot, idle, held, Use, variable, page, Block, free, used, Layout, use_size, size_of, ends, first_free, slot_words, use_words, own, block_words, fixed_low, fixed_high, words}
use Rattle.model.specs.Sound.{Allowed, AllowedUse, AllAllowed, Valid}
use Rattle.model.specs.Live.{◌∈◌, InTurn, Payload, content, slots_live, use_live, live_from, live}
use Rattle.model.specs.Promises.{NoOverlap, InArea, NoWordInside}
use Rattle.model.specs.inner.Laid.{Tiled}
use Rattle.model.proofs.lives.Members.{in_either, turn_either}
use Rattle.model.proofs.pictures.Pictures.{Clear, rise_clear, clear_append, clear_word, clear_outside, draw_out, length_draw}
use Rattle.model.proofs.blocks.Blocks.{le_ends, rise_slots, rise_own, rise_blocks}
use Rattle.model.proofs.blocks.Replace.{rise_low, rise_high}
use Rattle.model.proofs.pictures.Drawn.{tiled}

-- where a payload lies: from lo on and below hi
abbrev pub Within : ℕ → ℕ → Payload → Type 0
Within lo hi x = (lo ≤ x.address) × (x.address + x.size ≤ hi)

module _ (S : Shape) where
  pub slots_within : (c p : ℕ) (ss : List Slot) (x : Payload) → x ∈ slots_live S c p ss → Within (p + S.word) (p + length ss * item_size S c) x
  unfolding slots_live ◌∈◌
  slots_within c p [] x h = absurd h
  slots_within c p (idle ∷ ss) x h = let r = slots_within c (p + item_size S c) ss x h in (omega (arith, r.0), omega (arith, r.1))
  slots_within c p (held n ∷ ss) x (inl e) = omega (arith, ap (λ (y : Payload). y.address) e, ap (λ (y : Payload). y.size) e)
  slots_within c p (held n ∷ ss) x (inr h) = let r = slots_within c (p + item_size S c) ss x h in (omega (arith, r.0), omega (arith, r.1))

  use_within : (p : ℕ) (u : Use) → AllowedUse S u → (x : Payload) → x ∈ use_live S p u → Within (p + S.word) (p + use_size S u - S.word) x
  unfolding use_live use_size AllowedUse ◌∈◌
  use_within p (variable s) a x (inl e) = omega (arith, a.0, ap (λ (y : Payload). y.address) e, ap (λ (y : Payload). y.size) e)
  use_within p (variable s) a x (inr h) = absurd h
  use_within p (page c k ss) a x h = let r = slots_within c (p + S.word) ss x h in (omega (arith, r.0), omega (arith, r.1))

  -- a payload of blocks from p on lies behind the first tag, and before the last
  pub live_within : (p : ℕ) (bs : List Block) → AllAllowed S bs → (x : Payload) → x ∈ live_from S p bs → Within (p + S.word) (ends S p bs - S.word) x
  unfolding live_from ends size_of AllAllowed Allowed ◌∈◌
  live_within p [] a x h = absurd h
  live_within p (free s ∷ bs) a x h = let r = live_within (p + s) bs a.1 x h in (omega (arith, r.0), r.1)
  live_within p (used u ∷ bs) a x h =
      ⊎_elim
      (λ k. let r = use_within p u a.0 x k in (r.0, omega (arith, r.1, le_ends S (p + use_size S u) bs)))
      (λ k. let r = live_within (p + use_size S u) bs a.1 x k in (omega (arith, r.0), r.1))
      (in_either x (use_live S p u) (live_from S (p + use_size S u) bs) h)

  pub in_area : InArea S
  in_area end L v x h =
      let r = live_within (start S) L.blocks v.allowed x h in
      (omega (arith, r.0), omega (arith, r.1, v.fills))

  -- live payloads never overlap
  slots_apart : (c p : ℕ) (ss : List Slot) (x y : Payload) → InTurn x y (slots_live S c p ss) → x.address + x.size ≤ y.address
  unfolding slots_live InTurn
  slots_apart c p [] x y h = absurd h
  slots_apart c p (idle ∷ ss) x y h = slots_apart c (p + item_size S c) ss x y h
  slots_apart c p (held n ∷ ss) x y (inl h) =
      omega (arith, ap (λ (z : Payload). z.address) h.0, ap (λ (z : Payload). z.size) h.0, (slots_within c (p + item_size S c) ss y h.1).0)
  slots_apart c p (held n ∷ ss) x y (inr h) = slots_apart c (p + item_size S c) ss x y h

  use_apart : (p : ℕ) (u : Use) (x y : Payload) → InTurn x y (use_live S p u) → x.address + x.size ≤ y.address
  unfolding use_live InTurn ◌∈◌
  use_apart p (variable s) x y (inl h) = absurd h.1
  use_apart p (variable s) x y (inr h) = absurd h
  use_apart p (page c k ss) x y h = slots_apart c (p + S.word) ss x y h

  blocks_apart : (p : ℕ) (bs : List Block) → AllAllowed S bs → (x y : Payload) → InTurn x y (live_from S p bs) → x.address + x.size ≤ y.address
  unfolding live_from AllAllowed Allowed InTurn
  blocks_apart p [] a x y h = absurd h
  blocks_apart p (free s ∷ bs) a x y h = blocks_apart (p + s) bs a.1 x y h
  blocks_apart p (used u ∷ bs) a x y h =
      ⊎_elim (λ k. use_apart p u x y k)
      (λ k. ⊎_elim
      (λ j. omega (arith, (use_within p u a.0 x j.0).1, (live_within (p + use_size S u) bs a.1 y j.1).0))
      (λ j. blocks_apart (p + use_size S u) bs a.1 x y j) k)
      (turn_either x y (use_live S p u) (live_from S (p + use_size S u) bs) h)

  pub no_overlap : NoOverlap S
  no_overlap end L v x y h = blocks_apart (start S) L.blocks v.allowed x y h

  -- no word of the picture touches a live payload
  module _ (x : Payload) where
    abbrev Untouched : List Word → Type 0
    Untouched ws = Clear S.word x.address (x.address + x.size) ws

    slots_clear : (c : ℕ) (l : List ℕ) (p : ℕ) (ss : List Slot) → x ∈ slots_live S c p ss → Untouched (slot_words S c l p ss)
    unfolding slots_live slot_words Clear ◌∈◌
    slots_clear c l p [] h = tt
    slots_clear c l p (idle ∷ ss) h = let r = slots_within c (p + item_size S c) ss x h in ((λ j k. omega (arith, r.0)), slots_clear c l (p + item_size S c) ss h)
    slots_clear c l p (held n ∷ ss) (inl e) =
        let ea = ap (λ (y : Payload). y.address) e in
        let es = ap (λ (y : Payload). y.size) e in (
          (λ j k. omega arith),
          rise_clear S.word x.address (x.address + x.size) (p + item_size S c) (slot_words S c l (p + item_size S c) ss) (p + item_size S c + length ss * item_size S c)
              (rise_slots S c l (p + item_size S c) ss (p + item_size S c + length ss * item_size S c) (omega arith)) (λ j k. omega arith),
        )
    slots_clear c l p (held n ∷ ss) (inr h) = let r = slots_within c (p + item_size S c) ss x h in ((λ j k. omega (arith, r.0)), slots_clear c l (p + item_size S c) ss h)

    use_clear : (ls : List (List ℕ)) (p : ℕ) (u : Use) → AllowedUse S u → x ∈ use_live S p u → Untouched (use_words S ls p u)
    unfolding use_words use_size Clear
    use_clear ls p (variable s) a h = let r = use_within p (variable s) a x h in ((λ j k. omega (arith, r.0)), ((λ j k. omega (arith, r.1)), tt))
    use_clear ls p (page c k ss) a h =
        let r = use_within p (page c k ss) a x h in (
          (λ i j. omega (arith, r.0)),
          clear_append S.word x.address (x.address + x.size) (slot_words S c (get_or ls c []) (p + S.word) ss) (record { at = p + use_size S (page c k ss) - S.word; is = use_size S (page c k ss) + 3 } ∷ [])
              (slots_clear c (get_or ls c []) (p + S.word) ss (unfold use_live in h)) ((λ i j. omega (arith, r.1)), tt),
        )

    blocks_clear : (ls : List (List ℕ)) (p prev next : ℕ) (bs : List Block) → AllAllowed S bs → x ∈ live_from S p bs → Untouched (block_words S ls p prev next bs)
    unfolding live_from block_words AllAllowed Allowed size_of own ◌∈◌
    blocks_clear ls p prev next [] a h = absurd h
    blocks_clear ls p prev next (free s ∷ bs) a h =
        let r = live_within (p + s) bs a.1 x h in
        clear_append S.word x.address (x.address + x.size) (own S ls p prev (first_free S (p + s) bs next) (free s)) (block_words S ls (p + s) p next bs)
        (rise_clear S.word x.address (x.address + x.size) p (own S ls p prev (first_free S (p + s) bs next) (free s)) (p + s)
        (rise_own S ls p prev (first_free S (p + s) bs next) (free s) a.0) (λ j k. omega (arith, r.0)))
        (blocks_clear ls (p + s) p next bs a.1 h)
    blocks_clear ls p prev next (used u ∷ bs) a h =
        let q = p + use_size S u in
        ⊎_elim
        (λ k.
        let r = use_within p u a.0 x k in
        clear_append S.word x.address (x.address + x.size) (use_words S ls p u) (block_words S ls q prev next bs) (use_clear ls p u a.0 k)
        (rise_clear S.word x.address (x.address + x.size) q (block_words S ls q prev next bs) (ends S q bs) (rise_blocks S ls q prev next bs a.1) (λ i j. omega (arith, r.1))))
        (λ k.
        let r = live_within q bs a.1 x k in
        clear_append S.word x.address (x.address + x.size) (use_words S ls p u) (block_words S ls q prev next bs)
        (rise_clear S.word x.address (x.address + x.size) p (use_words S ls p u) q (rise_own S ls p prev next (used u) a.0) (λ i j. omega (arith, r.0)))
        (blocks_clear ls q prev next bs a.1 k))
        (in_either x (use_live S p u) (live_from S q bs) h)

    pub words_clear : (end : ℕ) (L : Layout) → Tiled S end L → x ∈ live S L → Untouched (words S end L)
    unfolding words Clear
    words_clear end L v h =
        let r = live_within (start S) L.blocks v.allowed x h in
        clear_append S.word x.address (x.address + x.size) (fixed_low S) (record { at = first_free_at S; is = first_free S (start S) L.blocks 0 } ∷ (fixed_high S end L.lists ++ block_words S L.lists (start S) 0 0 L.blocks))
        (rise_clear S.word x.address (x.address + x.size) 8 (fixed_low S) (first_free_at S) (rise_low S) (λ j k. omega (arith, r.0))) (
          (λ j k. omega (arith, r.0)),
          clear_append S.word x.address (x.address + x.size) (fixed_high S end L.lists) (block_words S L.lists (start S) 0 0 L.blocks)
              (rise_clear S.word x.address (x.address + x.size) (first_free_at S + S.word) (fixed_high S end L.lists) (start S) (rise_high S end L.lists v.classes) (λ j k. omega (arith, r.0)))
              (blocks_clear L.lists (start S) 0 0 L.blocks v.allowed h),
        )

  pub no_word_inside : NoWordInside S
  no_word_inside end L v x h w m = clear_word S.word x.address (x.address + x.size) (words S end L) w m (words_clear x end L (tiled S v) h)

  -- THE LAW: a payload that is live in a layout keeps its bytes when the layout is drawn
  pub tiled_kept : (end : ℕ) (L : Layout) (b : List ℕ) → Tiled S end L → (x : Payload) → x ∈ live S L → content (draw S.word (words S end L) b) x ≡ content b x
  tiled_kept end L b v x h =
      part_agree (draw S.word (words S end L) b) b x.address x.size (length_draw S.word (words S end L) b)
      (λ i l m. draw_out S.word (words S end L) b i (clear_outside S.word x.address (x.address + x.size) (words S end L) i l m (words_clear x end L v h)))

  pub content_kept : (end : ℕ) (L : Layout) (b : List ℕ) → Valid S end L → (x : Payload) → x ∈ live S L → content (draw S.word (words S end L) b) x ≡ content b x
  content_kept end L b v x h = tiled_kept end L b (tiled S v) x h

-- What a heap is does not hang on which classes are handed out: one that was sound when all were is sound, with the same layout and the same live payloads.
use Rattle.std.proofs.Common.{ℕ, ◌+◌, ◌≤◌, ◌≡◌, refl, sym, ap, ap₂, subst, ◌∙◌, cond, List, [], ◌∷◌, ◌++◌, arith, eqb, length, get_or}
use Rattle.model.specs.Picture.{Word, Shows}
use Rattle.model.specs.Shape.{Shape, all_offered, start, index, item_size, item_capacity, item_shown, address_of, offset_of, end_of}
use Rattle.model.specs.Parts.{first_item_at}
use Rattle.model.specs.Layout.{Slot, idle, held, Use, variable, page, Block, free, used, Layout, head_of, if_free, use_size, size_of, ends, first_free, header, slot_words, use_words, own, block_words, head_words, fixed_low, fixed_high, words}
use Rattle.model.specs.Sound.{times, Allowed, AllowedUse, AllAllowed, idle_slots, idle_in, idle_items, Valid, Here, heap_of, HereIn}
use Rattle.model.specs.Live.{Payload, slots_live, use_live, live_from}
use Rattle.model.specs.Promises.{SoundBefore, LayoutBefore}
use Rattle.model.proofs.Good.{Good}

module _ (S : Shape) where
  -- the rule before
  abbrev T : Shape
  T = all_offered S

  -- sizes
  use_size_lem : (u : Use) → use_size T u ≡ use_size S u
  unfolding use_size
  use_size_lem (variable s) = refl
  use_size_lem (page c k ss) = refl

  size_of_lem : (b : Block) → size_of T b ≡ size_of S b
  unfolding size_of
  size_of_lem (free s) = refl
  size_of_lem (used u) = use_size_lem u

  ends_at : (p : ℕ) (bs : List Block) → ends T p bs ≡ ends S p bs
  unfolding ends
  ends_at p [] = refl
  ends_at p (b ∷ bs) = rw (size_of_lem b) (ends_at (p + size_of S b) bs)

  first_free_lem : (p : ℕ) (bs : List Block) (d : ℕ) → first_free T p bs d ≡ first_free S p bs d
  unfolding first_free
  first_free_lem p [] d = refl
  first_free_lem p (b ∷ bs) d = rw (size_of_lem b) (ap (if_free b p) (first_free_lem (p + size_of S b) bs d))

  -- words
  header_is : (c : ℕ) (l : List ℕ) (p : ℕ) (s : Slot) → header T c l p s ≡ header S c l p s
  unfolding header
  header_is c l p idle = refl
  header_is c l p (held n) = refl

  slot_words_lem : (c : ℕ) (l : List ℕ) (p : ℕ) (ss : List Slot) → slot_words T c l p ss ≡ slot_words S c l p ss
  unfolding slot_words
  slot_words_lem c l p [] = refl
  slot_words_lem c l p (s ∷ ss) = ap₂ (λ (x : ℕ) (ws : List Word). record { at = p; is = x } ∷ ws) (header_is c l p s) (slot_words_lem c l (p + item_size S c) ss)

  use_words_lem : (ls : List (List ℕ)) (p : ℕ) (u : Use) → use_words T ls p u ≡ use_words S ls p u
  unfolding use_words
  use_words_lem ls p (variable s) = refl
  use_words_lem ls p (page c k ss) = rw (use_size_lem (page c k ss), slot_words_lem c (get_or ls c []) (first_item_at S p) ss) refl

  own_words : (ls : List (List ℕ)) (p prev next : ℕ) (b : Block) → own T ls p prev next b ≡ own S ls p prev next b
  unfolding own
  own_words ls p prev next (free s) = refl
  own_words ls p prev next (used u) = use_words_lem ls p u

  block_words_lem : (ls : List (List ℕ)) (p prev next : ℕ) (bs : List Block) → block_words T ls p prev next bs ≡ block_words S ls p prev next bs
  unfolding block_words
  block_words_lem ls p prev next [] = refl
  block_words_lem ls p prev next (b ∷ bs) =
      rw (size_of_lem b, first_free_lem (p + size_of S b) bs next)
      (ap₂ (λ (x y : List Word). x ++ y) (own_words ls p prev (first_free S (p + size_of S b) bs next) b) (block_words_lem ls (p + size_of S b) (if_free b p prev) next bs))

  head_words_lem : (p : ℕ) (ls : List (List ℕ)) → head_words T p ls ≡ head_words S p ls
  unfolding head_words
  head_words_lem p [] = refl
  head_words_lem p (l ∷ ls) = ap (λ (ws : List Word). record { at = p; is = head_of l } ∷ ws) (head_words_lem (p + S.word) ls)

  all_words : (end : ℕ) (L : Layout) → words T end L ≡ words S end L
  unfolding words fixed_low fixed_high
  all_words end L = rw (first_free_lem (start S) L.blocks 0, head_words_lem (index S) L.lists, block_words_lem L.lists (start S) 0 0 L.blocks) refl

  -- what is allowed, and what is free
  use_allowed : S.offered ≤ S.classes → (u : Use) → AllowedUse T u → AllowedUse S u
  unfolding AllowedUse
  use_allowed o (variable s) a = (omega (arith, o, a.0), a.1)
  use_allowed o (page c k ss) a = a

  all_allowed : S.offered ≤ S.classes → (bs : List Block) → AllAllowed T bs → AllAllowed S bs
  unfolding AllAllowed Allowed
  all_allowed o [] a = tt
  all_allowed o (free s ∷ bs) a = (a.0, all_allowed o bs a.1)
  all_allowed o (used u ∷ bs) a = (use_allowed o u a.0, all_allowed o bs a.1)

  idle_slots_lem : (c p : ℕ) (ss : List Slot) → idle_slots T c p ss ≡ idle_slots S c p ss
  unfolding idle_slots
  idle_slots_lem c p [] = refl
  idle_slots_lem c p (idle ∷ ss) = ap (λ (l : List ℕ). offset_of S p ∷ l) (idle_slots_lem c (p + item_size S c) ss)
  idle_slots_lem c p (held n ∷ ss) = idle_slots_lem c (p + item_size S c) ss

  idle_in_lem : (c p : ℕ) (b : Block) → idle_in T c p b ≡ idle_in S c p b
  unfolding idle_in
  idle_in_lem c p (free s) = refl
  idle_in_lem c p (used (variable s)) = refl
  idle_in_lem c p (used (page d k ss)) = ap (λ (l : List ℕ). cond (eqb c d) l []) (idle_slots_lem d (first_item_at S p) ss)

  idle_items_lem : (c p : ℕ) (bs : List Block) → idle_items T c p bs ≡ idle_items S c p bs
  unfolding idle_items
  idle_items_lem c p [] = refl
  idle_items_lem c p (b ∷ bs) = rw (size_of_lem b) (ap₂ (λ (x y : List ℕ). x ++ y) (idle_in_lem c p b) (idle_items_lem c (p + size_of S b) bs))

  -- what is live
  slots_live_lem : (c p : ℕ) (ss : List Slot) → slots_live T c p ss ≡ slots_live S c p ss
  unfolding slots_live
  slots_live_lem c p [] = refl
  slots_live_lem c p (idle ∷ ss) = slots_live_lem c (p + item_size S c) ss
  slots_live_lem c p (held n ∷ ss) = ap (λ (l : List Payload). record { address = address_of S p; size = item_capacity S c; shown = item_shown S c n } ∷ l) (slots_live_lem c (p + item_size S c) ss)

  use_live_lem : (p : ℕ) (u : Use) → use_live T p u ≡ use_live S p u
  unfolding use_live
  use_live_lem p (variable s) = refl
  use_live_lem p (page c k ss) = slots_live_lem c (first_item_at S p) ss

  live_from_lem : (p : ℕ) (bs : List Block) → live_from T p bs ≡ live_from S p bs
  unfolding live_from
  live_from_lem p [] = refl
  live_from_lem p (free s ∷ bs) = live_from_lem (p + s) bs
  live_from_lem p (used u ∷ bs) = rw (use_size_lem u) (ap₂ (λ (x y : List Payload). x ++ y) (use_live_lem p u) (live_from_lem (p + use_size S u) bs))

  -- THE LAW
  module _ (good : Good S) where
    valid_before : (end : ℕ) (L : Layout) → Valid T end L → Valid S end L
    valid_before end L v =
        record {
          fills = sym (ends_at (start S) L.blocks) ∙ v.fills;
          allowed = all_allowed good.offered L.blocks v.allowed;
          apart = v.apart;
          classes = v.classes;
          listed = λ c o l. v.listed c o l ∙ ap (times o) (idle_items_lem c (start S) L.blocks);
        }

    here_before : (b : List ℕ) (L : Layout) → Here T b L → Here S b L
    here_before b L h =
        record {
          magic = h.magic;
          valid = valid_before (end_of (length b)) L h.valid;
          shown = subst (λ (ws : List Word). Shows S.word b ws) (all_words (end_of (length b)) L) h.shown;
        }

    in_before : (b : List ℕ) (L : Layout) → HereIn T b L → HereIn S b L
    in_before b L h = record { ended = h.ended; here = here_before (heap_of S b) L h.here }

    pub layout_before_lem : LayoutBefore S
    layout_before_lem b L h = (in_before b L h, live_from_lem (start S) L.blocks)

    pub sound_before : SoundBefore S
    sound_before b s = record { layout = s.layout; here = in_before b s.layout s.here }

-- A sound heap passes the tests.
use Rattle.std.proofs.Common.{ℕ, ◌+◌, ◌-◌, ◌%◌, ◌≤◌, ◌<◌, ◌≡◌, refl, sym, subst, ◌∙◌, List, [], ◌∷◌, ◌++◌, arith, length, get_or, eq-eqb, ne_eqb}
use Rattle.std.proofs.Math.Decide.{ℕ_discrete}
use Rattle.words.specs.Width.{Width}
use Rattle.words.specs.Word.{word_at}
use Rattle.model.specs.Picture.{Shows}
use Rattle.model.specs.Shape.{shape, item_size, end_of, index, start, item_at}
use Rattle.model.specs.Parts.{page_kind, tag_of, free_header, far_tag_at, head_at, first_item_at, first_free_at, index_tag, index_far_tag_at}
use Rattle.model.specs.Layout.{Slot, idle, held, variable, page, Block, free, used, Layout, head_of, next_of, use_size, size_of, first_free, header, slot_words, use_words, own, block_words, head_words, fixed_low, fixed_high, words}
use Rattle.model.specs.Sound.{times, AllowedUse, Allowed, AllAllowed, idle_items, Here, Sound}
use Rattle.model.proofs.pictures.Pictures.{shows_left, shows_right}
use Rattle.model.proofs.items.Offsets.{items_off, items_once}
use Rattle.model.proofs.pictures.Shown.{blocks_shown, head_read, item_read}
use Rattle.model.proofs.items.Aligned.{next_aligned}
use Rattle.model.proofs.Sizes.{start_eight}
use Rattle.marking.specs.Uses.{Slots, use_kind, Headers}
use Rattle.walking.specs.Onward.{Reads}
use Rattle.following.specs.Lists.{FreeItemAt, named, Chain}
use Rattle.visiting.specs.Lists.{Chains}
use Rattle.sound.specs.Told.{Filled, Fixed}
use Rattle.visiting.proofs.Chained.{chains_of}
use Rattle.marking.proofs.Places.{idle_low, header_names}

module _ {w : ℕ} (wd : Width w) (b : List ℕ) (ls : List (List ℕ)) (aligned : (c x : ℕ) → c < (shape w).classes → next_of x (get_or ls c []) % w ≡ 0) where
  slots_of : (c p : ℕ) (ss : List Slot) → c < (shape w).classes → Shows w b (slot_words (shape w) c (get_or ls c []) p ss) → Slots w b c p ss
  unfolding slot_words Shows header Slots
  slots_of c p [] h s = tt
  slots_of c p (idle ∷ ss) h s = (rw s.0 (idle_low wd (next_of (p - index (shape w)) (get_or ls c [])) c (aligned c (p - index (shape w)) h) h), slots_of c (p + item_size (shape w) c) ss h s.1)
  slots_of c p (held n ∷ ss) h s = (s.0, slots_of c (p + item_size (shape w) c) ss h s.1)

  reads_of : (p prev : ℕ) (bs : List Block) → AllAllowed (shape w) bs → Shows w b (block_words (shape w) ls p prev 0 bs) → Reads w b p prev bs
  unfolding block_words own size_of use_size Reads use_kind Headers AllAllowed Allowed AllowedUse use_words Shows
  reads_of p prev [] a s = tt
  reads_of p prev (free t ∷ bs) a s = ((s.0, s.1.0, s.1.1.0, s.1.1.1.0), reads_of (p + t) p bs a.1 s.1.1.1.1)
  reads_of p prev (used (variable t) ∷ bs) a s = ((s.0, s.1.0, tt), reads_of (p + use_size (shape w) (variable t)) prev bs a.1 s.1.1)
  reads_of p prev (used (page c k ss) ∷ bs) a s =
      let z = use_size (shape w) (page c k ss) in
      let m = shows_left w b (slot_words (shape w) c (get_or ls c []) (first_item_at (shape w) p) ss ++ record { at = far_tag_at (shape w) p z; is = tag_of z page_kind } ∷ []) (block_words (shape w) ls (p + z) prev 0 bs) s.1 in (
        (s.0, (shows_right w b (slot_words (shape w) c (get_or ls c []) (first_item_at (shape w) p) ss) (record { at = far_tag_at (shape w) p z; is = tag_of z page_kind } ∷ []) m).0, slots_of c (first_item_at (shape w) p) ss a.0.0 (shows_left w b (slot_words (shape w) c (get_or ls c []) (first_item_at (shape w) p) ss) (record { at = far_tag_at (shape w) p z; is = tag_of z page_kind } ∷ []) m)),
        reads_of (p + z) prev bs a.1 (shows_right w b (slot_words (shape w) c (get_or ls c []) (first_item_at (shape w) p) ss ++ record { at = far_tag_at (shape w) p z; is = tag_of z page_kind } ∷ []) (block_words (shape w) ls (p + z) prev 0 bs) s.1),
      )

-- a list whose headers name what comes next is walked from its head
chain_of : {w : ℕ} → Width w → (b : List ℕ) (end c : ℕ) (l : List ℕ) → c < (shape w).classes → ((x : ℕ) → times x l ≤ 1) → ((x : ℕ) → 1 ≤ times x l → FreeItemAt w b end c x × (word_at w b (item_at (shape w) x) ≡ free_header c (next_of x l))) → Chain w b end c (head_of l) l
unfolding Chain head_of times next_of
chain_of wd b end c [] cl once h = refl
chain_of {w} wd b end c (y ∷ ys) cl once h =
    let k = h y (rw (eq-eqb y y refl) (omega arith)) in
    let e : word_at w b (item_at (shape w) y) ≡ free_header c (head_of ys) = k.1 ∙ rw (eq-eqb y y refl) refl in
    let f : named w b y ≡ head_of ys = header_names wd (word_at w b (item_at (shape w) y)) c (head_of ys) k.0.header e in
    (refl, k.0, subst (λ (x : ℕ). Chain w b end c x ys) (sym f) (chain_of wd b end c ys cl (λ x. omega (arith, once x)) (λ x i. go x i (ℕ_discrete x y))))
  where
    go : (x : ℕ) → 1 ≤ times x ys → Dec (x ≡ y) → FreeItemAt w b end c x × (word_at w b (item_at (shape w) x) ≡ free_header c (next_of x ys))
    go x i (yes e) = absurd (omega (arith, rw (eq-eqb x y e) at (once x)))
    go x i (no e) = let k = h x (omega arith) in (k.0, k.1 ∙ rw (ne_eqb x y e) refl)

module _ {w : ℕ} (wd : Width w) (b : List ℕ) (L : Layout) (h : Here (shape w) b L) where
  pub here_reads : Reads w b (start (shape w)) 0 L.blocks
  here_reads = reads_of wd b L.lists (λ c x k. next_aligned wd (end_of (length b)) L h.valid c x k) (start (shape w)) 0 L.blocks h.valid.allowed (blocks_shown (shape w) b L h)

  linked : first_free (shape w) (start (shape w)) L.blocks 0 ≡ word_at w b (first_free_at (shape w))
  unfolding words fixed_low Shows
  linked = sym h.shown.1.1.0

  head_words_lem : Shows w b (head_words (shape w) (index (shape w)) L.lists ++ record { at = index_far_tag_at (shape w); is = index_tag (shape w) } ∷ [])
  unfolding words fixed_low fixed_high Shows
  head_words_lem = shows_left w b (head_words (shape w) (index (shape w)) L.lists ++ record { at = index_far_tag_at (shape w); is = index_tag (shape w) } ∷ []) (block_words (shape w) L.lists (start (shape w)) 0 0 L.blocks) h.shown.1.1.1.1.1

  pub here_fixed : Fixed w b (end_of (length b))
  unfolding words fixed_low fixed_high Shows
  here_fixed =
      let s = h.shown in
      record {
        magic = h.magic;
        data_at_is = s.0;
        index_at_is = s.1.0;
        end_at_is = s.1.1.1.0;
        low_tag = s.1.1.1.1.0;
        high_tag = (shows_right w b (head_words (shape w) (index (shape w)) L.lists) (record { at = index_far_tag_at (shape w); is = index_tag (shape w) } ∷ []) head_words_lem).0;
      }

  here_chain : (c : ℕ) → c < (shape w).classes → Chain w b (end_of (length b)) c (word_at w b (head_at (shape w) c)) (get_or L.lists c [])
  here_chain c k =
      rw (head_read (shape w) b L h c k)
      (chain_of wd b (end_of (length b)) c (get_or L.lists c []) k (λ x. rw (h.valid.listed c x k) (items_once wd c x (start (shape w)) L.blocks h.valid.allowed (omega arith) (start_eight wd))) (λ x i. go x (rw (h.valid.listed c x k) at i)))
    where
      go : (x : ℕ) → 1 ≤ times x (idle_items (shape w) c (start (shape w)) L.blocks) → FreeItemAt w b (end_of (length b)) c x × (word_at w b (item_at (shape w) x) ≡ free_header c (next_of x (get_or L.lists c [])))
      go x i =
          let o = items_off wd c x (start (shape w)) L.blocks h.valid.allowed (omega arith) (start_eight wd) i in
          let r = item_read (shape w) b L h c x i in
          (record { nonzero = λ e. omega (arith, o.low); even = o.even; inside = omega (arith, o.high, h.valid.fills); header = rw r (idle_low wd (next_of x (get_or L.lists c [])) c (next_aligned wd (end_of (length b)) L h.valid c x k) k) }, r)

  pub here_chains : Chains w b (end_of (length b)) 0 L.lists
  here_chains = chains_of wd b (end_of (length b)) L.lists h.valid.classes here_chain

  pub here_filled : Filled w b (end_of (length b))
  here_filled = record { onward = record { rest = L.blocks; reads = here_reads; fills = h.valid.fills; allowed = h.valid.allowed; apart = h.valid.apart; links = linked }; lists = L.lists; chains = here_chains; same = λ c x k. h.valid.listed c x k }

pub sound_fixed : {w : ℕ} → Width w → (b : List ℕ) → Sound (shape w) b → Fixed w b (end_of (length b))
sound_fixed wd b s = here_fixed wd b s.layout s.here

pub sound_filled : {w : ℕ} → Width w → (b : List ℕ) → Sound (shape w) b → Filled w b (end_of (length b))
sound_filled wd b s = here_filled wd b s.layout s.here

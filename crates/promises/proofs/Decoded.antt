-- The layout that bytes can have, read off them: if a heap has a layout it is this one. So soundness is stable: what cannot be unsound is sound.
use Rattle.std.proofs.Common.{ℕ, zero, suc, ◌+◌, ◌-◌, ◌*◌, ◌%◌, ◌≤◌, ◌<◌, ◌≡◌, refl, sym, ap, ap₂, subst, ◌∙◌, cond, List, [], ◌∷◌, ◌⊎◌, inl, inr, ⊎_elim, arith, length, get_or, eqb, leb, eq-eqb, ne_eqb, le-leb}
use Rattle.std.proofs.Math.Decide.{ℕ_discrete, dec_le}
use Rattle.std.proofs.lemmas.Bool.{lt-leb}
use Rattle.words.specs.Width.{Width}
use Rattle.words.specs.Word.{word_at}
use Rattle.model.specs.Shape.{shape, least_end, start, least_free, least_variable, class_of, item_size, page_need, end_of}
use Rattle.model.specs.Parts.{free_flags, flags_in, asked_in, head_at}
use Rattle.model.specs.Picture.{Word, Shows}
use Rattle.model.specs.Layout.{Slot, idle, held, Use, variable, page, Block, free, used, Layout, if_free, use_size, size_of, ends, words}
use Rattle.model.specs.Sound.{times, Within, AllWithin, Apart, AllowedUse, Allowed, AllAllowed, idle_items, Valid, Here, stored_end, heap_of, HereIn, SoundIn}
use Rattle.model.proofs.Sizes.{flags_idle}
use Rattle.model.proofs.items.Asked.{asked_in_lem}
use Rattle.model.proofs.blocks.Blocks.{le_ends}
use Rattle.marking.specs.Uses.{Slots, class_at, use_kind, Headers}
use Rattle.walking.specs.Onward.{Reads}
use Rattle.following.specs.Lists.{named, Chain}
use Rattle.visiting.specs.Lists.{Chains}
use Rattle.marking.proofs.MapLaws.{fewer}
use Rattle.marking.proofs.PageLaws.{page_class}
use Rattle.walking.proofs.Walks.{use_size_lem, use_kind_lem}
use Rattle.sound.proofs.HereFilled.{here_reads, here_chains}
use Rattle.promises.proofs.Stable.{numbers}

module _ {w : ℕ} (wd : Width w) where
  -- two lists in which every number stands as often are as long
  same_length : (l m : List ℕ) → ((x : ℕ) → times x l ≡ times x m) → length l ≡ length m
  same_length l m h = omega (arith, fewer l m (λ x. omega (arith, h x)), fewer m l (λ x. omega (arith, h x)))

  module _ (b : List ℕ) where
    -- n items of class c from p on
    unfoldable slots_at : ℕ → ℕ → ℕ → List Slot
    slots_at c p zero = []
    slots_at c p (suc n) = cond (eqb (flags_in (word_at w b p)) free_flags) idle (held (asked_in (word_at w b p))) ∷ slots_at c (p + item_size (shape w) c) n

    slots_are : (c p : ℕ) (ss : List Slot) → c < 32 → Slots w b c p ss → slots_at c p (length ss) ≡ ss
    unfolding Slots slots_at
    slots_are c p [] l h = refl
    slots_are c p (idle ∷ ss) l h = rw (eq-eqb (flags_in (word_at w b p)) free_flags (flags_idle wd (word_at w b p) c h.0), slots_are c (p + item_size (shape w) c) ss l h.1)
    slots_are c p (held n ∷ ss) l h =
        let e : asked_in (word_at w b p) ≡ n = ap asked_in h.0 ∙ asked_in_lem c n l in
        rw (ne_eqb (flags_in (word_at w b p)) free_flags (λ e. omega (arith, h.0)), e, slots_are c (p + item_size (shape w) c) ss l h.1)

    -- a block in use at p whose tag is t
    unfoldable page_at : ℕ → ℕ → ℕ → Use
    page_at c p t = page c (t - 3 - page_need (shape w) c) (slots_at c (p + w) ((shape w).per_page c))

    page_is : (c k p t : ℕ) (ss : List Slot) → c < 32 → Slots w b c (p + w) ss → length ss ≡ (shape w).per_page c → t ≡ 2 * w + length ss * item_size (shape w) c + k + 3 → page_at c p t ≡ page c k ss
    unfolding page_at
    page_is c k p t ss l h n f =
        ap₂ (λ (x : ℕ) (y : List Slot). page c x y) (omega (arith, f, ap (λ (x : ℕ). x * item_size (shape w) c) n))
        (ap (λ (x : ℕ). slots_at c (p + w) x) (sym n) ∙ slots_are c (p + w) ss l h)

    unfoldable use_at : ℕ → ℕ → Use
    use_at p t = cond (eqb (t % 8) 2) (variable (t - 2)) (page_at (class_at w b p) p t)

    use_is : (p t : ℕ) (u : Use) → AllowedUse (shape w) u → Headers w b p u → t ≡ use_size (shape w) u + use_kind u → use_at p t ≡ u
    unfolding use_at Headers use_kind AllowedUse use_size
    use_is p t (variable s) a h e =
        let f : t ≡ s + 2 = e in
        let g : s % 8 ≡ 0 = a.1 in
        rw (eq-eqb (t % 8) 2 (omega (arith, f, g))) (ap (λ (x : ℕ). variable x) (omega (arith, f)))
    use_is p t (page c k ss) a h e =
        let z = use_size_lem wd (page c k ss) a in
        rw (ne_eqb (t % 8) 2 (λ f. omega (arith, f, e, z.1)), ← page_class wd b c k p ss a h) (page_is c k p t ss (omega (arith, a.0, wd)) h a.1 e)

    -- blocks from p to the end, at most so many
    unfoldable block_at : ℕ → ℕ → Block
    block_at p t = cond (eqb (t % 8) 0) (free t) (used (use_at p t))

    unfoldable blocks_at : ℕ → ℕ → ℕ → List Block
    blocks_at zero p end = []
    blocks_at (suc n) p end =
        let c : Block = block_at p (word_at w b p) in
        cond (leb end p) [] (c ∷ blocks_at n (p + size_of (shape w) c) end)

    blocks_are : (n p prev end : ℕ) (bs : List Block) → Reads w b p prev bs → AllAllowed (shape w) bs → ends (shape w) p bs ≡ end → end < p + n → blocks_at n p end ≡ bs
    unfolding Reads AllAllowed Allowed ends size_of blocks_at block_at
    blocks_are zero p prev end bs r a e l = absurd (omega (arith, le_ends (shape w) p bs))
    blocks_are (suc n) p prev end [] r a e l = rw (le-leb end p (omega arith)) refl
    blocks_are (suc n) p prev end (free s ∷ bs) r a e l =
        let k : block_at p (word_at w b p) ≡ free s = rw (r.0.0, eq-eqb (s % 8) 0 a.0.1) refl in
        let i : p + s ≤ end = omega (arith, e, le_ends (shape w) (p + s) bs) in
        rw (lt-leb end p (omega (arith, a.0.0)), k) (ap (λ (l : List Block). free s ∷ l) (blocks_are n (p + s) p end bs r.1 a.1 e (omega (arith, a.0.0))))
    blocks_are (suc n) p prev end (used u ∷ bs) r a e l =
        let z = use_size_lem wd u a.0 in
        let f = use_kind_lem u in
        let k : block_at p (word_at w b p) ≡ used u =
        rw (ne_eqb (word_at w b p % 8) 0 (λ g. omega (arith, g, r.0.0, z.1, f.0, f.1)), use_is p (word_at w b p) u a.0 r.0.2 r.0.0) refl in
        let i : p + use_size (shape w) u ≤ end = omega (arith, e, le_ends (shape w) (p + use_size (shape w) u) bs) in
        rw (lt-leb end p (omega (arith, z.0)), k) (ap (λ (l : List Block). used u ∷ l) (blocks_are n (p + use_size (shape w) u) prev end bs r.1 a.1 e (omega (arith, z.0))))

    -- a list from o on, of so many items
    unfoldable list_at : ℕ → ℕ → List ℕ
    list_at zero o = []
    list_at (suc n) o = o ∷ list_at n (named w b o)

    list_is : (end c o : ℕ) (l : List ℕ) → Chain w b end c o l → list_at (length l) o ≡ l
    unfolding Chain list_at
    list_is end c o [] h = refl
    list_is end c o (x ∷ xs) h = rw h.0 (ap (λ (l : List ℕ). x ∷ l) (list_is end c (named w b x) xs h.2))

    -- the lists of n classes from c on, of blocks bs
    unfoldable lists_at : List Block → ℕ → ℕ → List (List ℕ)
    lists_at bs c zero = []
    lists_at bs c (suc n) = list_at (length (idle_items (shape w) c (start (shape w)) bs)) (word_at w b (head_at (shape w) c)) ∷ lists_at bs (c + 1) n

    lists_are : (end : ℕ) (bs : List Block) (c : ℕ) (ls : List (List ℕ)) → Chains w b end c ls → ((d x : ℕ) → c + d < 4 * w → times x (get_or ls d []) ≡ times x (idle_items (shape w) (c + d) (start (shape w)) bs)) → lists_at bs c (length ls) ≡ ls
    unfolding Chains lists_at
    lists_are end bs c [] h k = refl
    lists_are end bs c (l ∷ ls) h k =
        let z : c + 0 ≡ c = omega arith in
        let e : length (idle_items (shape w) c (start (shape w)) bs) ≡ length l = same_length (idle_items (shape w) c (start (shape w)) bs) l (λ x. sym (rw z at (k 0 x (omega (arith, h.0))))) in
        ap₂ (λ (x : List ℕ) (xs : List (List ℕ)). x ∷ xs) (ap (λ (n : ℕ). list_at n (word_at w b (head_at (shape w) c))) e ∙ list_is end c (word_at w b (head_at (shape w) c)) l h.1)
        (lists_are end bs (c + 1) ls h.2 (λ d x i. next d x (k (suc d) x (omega arith))))
      where
        next : (d x : ℕ) → times x (get_or ls d []) ≡ times x (idle_items (shape w) (c + suc d) (start (shape w)) bs) → times x (get_or ls d []) ≡ times x (idle_items (shape w) (c + 1 + d) (start (shape w)) bs)
        next d x q = let y : c + suc d ≡ c + 1 + d = omega arith in rw y at q

    -- the layout that they can have
    decoded_blocks : List Block
    decoded_blocks = blocks_at (suc (end_of (length b))) (start (shape w)) (end_of (length b))

    pub decoded : Layout
    decoded = record { blocks = decoded_blocks; lists = lists_at decoded_blocks 0 (4 * w) }

    pub decoded_is : (L : Layout) → Here (shape w) b L → decoded ≡ L
    unfolding decoded decoded_blocks
    decoded_is L h =
        let e = blocks_are (suc (end_of (length b))) (start (shape w)) 0 (end_of (length b)) L.blocks (here_reads wd b L h) h.valid.allowed h.valid.fills (omega arith) in
        let f : lists_at L.blocks 0 (4 * w) ≡ L.lists =
        ap (λ (n : ℕ). lists_at L.blocks 0 n) (sym h.valid.classes)
        ∙ lists_are (end_of (length b)) L.blocks 0 L.lists (here_chains wd b L h) (λ d x i. let z : 0 + d ≡ d = omega arith in rw z (h.valid.listed d x (omega arith))) in
        ap₂ (λ (x : List Block) (y : List (List ℕ)). record { blocks = x; lists = y }) e (ap (λ (x : List Block). lists_at x 0 (4 * w)) e ∙ f)

  -- what cannot fail holds
  abbrev Sure : Type 0 → Type 0
  Sure P = (P → ⊥) → ⊥

  so : {P Q : Type 0} → (P → Q) → Sure P → Sure Q
  so f n k = n (λ p. k (f p))

  sure_le : (m n : ℕ) → Sure (m ≤ n) → m ≤ n
  sure_le m n s = go (dec_le m n)
    where
      go : Dec (m ≤ n) → m ≤ n
      go (yes l) = l
      go (no l) = absurd (s l)

  sure_within : (c : ℕ) (s : Slot) → Sure (Within c s) → Within c s
  unfolding Within
  sure_within c idle n = tt
  sure_within c (held m) n = go (ℕ_discrete m 0) (ℕ_discrete (class_of m) c)
    where
      go : Dec (m ≡ 0) → Dec (class_of m ≡ c) → (m ≡ 0) ⊎ (class_of m ≡ c)
      go (yes e) d = inl e
      go (no e) (yes k) = inr k
      go (no e) (no k) = absurd (n (λ x. ⊎_elim e k x))

  sure_slots : (c : ℕ) (ss : List Slot) → Sure (AllWithin c ss) → AllWithin c ss
  unfolding AllWithin
  sure_slots c [] n = tt
  sure_slots c (s ∷ ss) n = (sure_within c s (so (λ a. a.0) n), sure_slots c ss (so (λ a. a.1) n))

  sure_use : (u : Use) → Sure (AllowedUse (shape w) u) → AllowedUse (shape w) u
  unfolding AllowedUse
  sure_use (variable s) n = (sure_le (least_variable (shape w)) s (so (λ a. a.0) n), numbers (s % 8) 0 (so (λ a. a.1) n))
  sure_use (page c k ss) n = (sure_le (suc c) (4 * w) (so (λ a. a.0) n), numbers (length ss) ((shape w).per_page c) (so (λ a. a.1) n), sure_le (suc k) (least_free (shape w)) (so (λ a. a.2) n), numbers (k % 8) 0 (so (λ a. a.3) n), sure_slots c ss (so (λ a. a.4) n))

  sure_allowed : (bs : List Block) → Sure (AllAllowed (shape w) bs) → AllAllowed (shape w) bs
  unfolding AllAllowed Allowed
  sure_allowed [] n = tt
  sure_allowed (free s ∷ bs) n = ((sure_le (least_free (shape w)) s (so (λ a. a.0.0) n), numbers (s % 8) 0 (so (λ a. a.0.1) n)), sure_allowed bs (so (λ a. a.1) n))
  sure_allowed (used u ∷ bs) n = (sure_use u (so (λ a. a.0) n), sure_allowed bs (so (λ a. a.1) n))

  sure_apart : (d : ℕ) (bs : List Block) → Sure (Apart d bs) → Apart d bs
  unfolding Apart
  sure_apart d [] n = tt
  sure_apart d (b ∷ bs) n = (sure_le (d + if_free b 1 0) 1 (so (λ a. a.0) n), sure_apart (if_free b 1 0) bs (so (λ a. a.1) n))

  sure_shows : (b : List ℕ) (ws : List Word) → Sure (Shows w b ws) → Shows w b ws
  unfolding Shows
  sure_shows b [] n = tt
  sure_shows b (x ∷ ws) n = (numbers (word_at w b x.at) x.is (so (λ a. a.0) n), sure_shows b ws (so (λ a. a.1) n))

  sure_valid : (end : ℕ) (L : Layout) → Sure (Valid (shape w) end L) → Valid (shape w) end L
  sure_valid end L n =
      record {
        fills = numbers (ends (shape w) (start (shape w)) L.blocks) end (so (λ v. v.fills) n);
        allowed = sure_allowed L.blocks (so (λ v. v.allowed) n);
        apart = sure_apart 0 L.blocks (so (λ v. v.apart) n);
        classes = numbers (length L.lists) (4 * w) (so (λ v. v.classes) n);
        listed = λ c o h. numbers (times o (get_or L.lists c [])) (times o (idle_items (shape w) c (start (shape w)) L.blocks)) (so (λ v. v.listed c o h) n);
      }

  sure_here : (b : List ℕ) (L : Layout) → Sure (Here (shape w) b L) → Here (shape w) b L
  sure_here b L n =
      record {
        magic = numbers (word_at 8 b 0) (shape w).magic (so (λ h. h.magic) n);
        valid = sure_valid (end_of (length b)) L (so (λ h. h.valid) n);
        shown = sure_shows b (words (shape w) (end_of (length b)) L) (so (λ h. h.shown) n);
      }

  sure_in : (b : List ℕ) (L : Layout) → Sure (HereIn (shape w) b L) → HereIn (shape w) b L
  sure_in b L n =
      record {
        ended = (
          sure_le (least_end (shape w) (end_of (length b))) (stored_end (shape w) b) (so (λ h. h.ended.0) n),
          sure_le (stored_end (shape w) b) (end_of (length b)) (so (λ h. h.ended.1) n),
          numbers (stored_end (shape w) b % 8) 0 (so (λ h. h.ended.2) n),
        );
        here = sure_here (heap_of (shape w) b) L (so (λ h. h.here) n);
      }

  -- THE LAW: a heap that cannot be unsound is sound
  pub sure_sound : (b : List ℕ) → ((SoundIn (shape w) b → ⊥) → ⊥) → SoundIn (shape w) b
  sure_sound b n =
      let own = heap_of (shape w) b in
      record { layout = decoded own; here = sure_in b (decoded own) (so (λ s. subst (λ (L : Layout). HereIn (shape w) b L) (sym (decoded_is own s.layout s.here.here)) s.here) n) }

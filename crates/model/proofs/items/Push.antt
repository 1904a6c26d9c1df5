-- An item goes to the head of its class's list, or one in use is for another size of its class from now on.
use Rattle.std.proofs.Common.{◌≤◌, ℕ, ◌+◌, ◌-◌, ◌*◌, ◌^◌, ◌<◌, ◌≡◌, refl, sym, ap, subst, ◌∙◌, List, [], ◌∷◌, arith, length, get_or, set, length-set, get_or-set_same, get_or-set_other, eq-eqb, ne_eqb}
use Rattle.std.proofs.Math.Decide.{ℕ_discrete}
use Rattle.std.proofs.Math.Seq.{set-get_or}
use Rattle.words.specs.Word.{put, Bytes}
use Rattle.words.proofs.WordLaws.{word_fits}
use Rattle.model.specs.Picture.{Shows, draw}
use Rattle.model.specs.Shape.{Shape, start, index, end_of}
use Rattle.model.specs.Layout.{idle, held, Block, Layout, head_of, next_of, header, words}
use Rattle.model.specs.Parts.{held_header}
use Rattle.model.specs.Sound.{times, Within, idle_items, Valid, Here}
use Rattle.model.specs.inner.Laid.{Tiled}
use Rattle.model.proofs.items.Items.{InBlocks, blocks_range}
use Rattle.model.proofs.items.Asked.{idle_within, held_fits}
use Rattle.model.proofs.items.ItemLaws.{item_law}
use Rattle.model.proofs.items.ItemValid.{ends_item_to, allowed_item_to, apart_item_to, items_this, changed_valid}
use Rattle.model.proofs.pictures.Pictures.{put_again}
use Rattle.model.proofs.pictures.Drawn.{tiled, drawn_here}
use Rattle.model.proofs.pictures.Shown.{head_read}
use Rattle.model.specs.Rules.{item_to, pushed, renewed}
use Rattle.model.proofs.Good.{Good}

module _ (S : Shape) where
  -- an item in use, of a valid layout
  module _ {end : ℕ} {L : Layout} (v : Valid S end L) (c o k : ℕ) (cl : c < S.classes) (there : InBlocks S c (index S + o) (start S) L.blocks) (in_use : item_to S (held k) (index S + o) (start S) L.blocks ≡ L.blocks) where
    -- it is on no list
    absent : times o (get_or L.lists c []) ≡ 0
    absent =
        let f = ap (λ (bs : List Block). times o (idle_items S c (start S) bs)) (sym in_use) ∙ items_this S o (index S + o) refl (held k) c c (start S) L.blocks (omega arith) there in
        v.listed c o cl ∙ (rw (eq-eqb c c refl) at f)

    pub push_valid : Valid S end (pushed S c o L)
    unfolding times
    push_valid =
        changed_valid S end L c (index S + o) o (held k) idle (o ∷ get_or L.lists c []) v cl (idle_within c) refl there in_use (rw (eq-eqb o o refl) (omega (arith, absent)))
        (λ x n. rw (ne_eqb x o n) (omega arith))

    -- it may be for n bytes from now on
    pub renew_valid : (n : ℕ) → Within c (held n) → Valid S end (renewed S n o L)
    renew_valid n w =
        subst (λ (ls : List (List ℕ)). Valid S end (record { blocks = item_to S (held n) (index S + o) (start S) L.blocks; lists = ls })) (set-get_or L.lists c [])
        (changed_valid S end L c (index S + o) o (held k) (held n) (get_or L.lists c []) v cl w refl there in_use absent (λ x z. refl))

  -- any item, free or in use, of a layout that is shown
  module _ (good : Good S) (b : List ℕ) (L : Layout) (v : Tiled S (end_of (length b)) L) (shown : Shows S.word b (words S (end_of (length b)) L)) (c o : ℕ) (cl : c < S.classes)
      (there : InBlocks S c (index S + o) (start S) L.blocks) (short : length b ≤ S.most) where
    agree : (d x : ℕ) → (x ≡ o → ⊥) → next_of x (get_or (set L.lists c (o ∷ get_or L.lists c [])) d []) ≡ next_of x (get_or L.lists d [])
    unfolding next_of
    agree d x n = go (ℕ_discrete d c)
      where
        go : Dec (d ≡ c) → next_of x (get_or (set L.lists c (o ∷ get_or L.lists c [])) d []) ≡ next_of x (get_or L.lists d [])
        go (no e) = ap (λ (l : List ℕ). next_of x l) (get_or-set_other L.lists c d (o ∷ get_or L.lists c []) [] e)
        go (yes e) = rw e (ap (λ (l : List ℕ). next_of x l) (get_or-set_same L.lists c (o ∷ get_or L.lists c []) [] (omega (arith, v.classes))) ∙ rw (ne_eqb x o n) refl)

    pub push_law : Bytes b → o < 256 ^ S.word → 16 * head_of (get_or L.lists c []) + 4 * c + 1 < 256 ^ S.word
        → put S.word (put S.word b (index S + S.word * c) o) (index S + o) (16 * head_of (get_or L.lists c []) + 4 * c + 1) ≡ draw S.word (words S (end_of (length b)) (pushed S c o L)) b
    unfolding header next_of head_of
    push_law bytes f g =
        let l = o ∷ get_or L.lists c [] in
        let z : index S + o - index S ≡ o = omega arith in
        let e : header S c (get_or (set L.lists c l) c []) (index S + o) idle ≡ 16 * head_of (get_or L.lists c []) + 4 * c + 1 =
        rw (get_or-set_same L.lists c l [] (omega (arith, v.classes)), z, eq-eqb o o refl) refl in
        ap (λ (x : ℕ). put S.word (put S.word b (index S + S.word * c) o) (index S + o) x) (sym e)
        ∙ item_law S good (end_of (length b)) L v c cl l (index S + o) o refl idle agree there b (omega arith) bytes f (rw e g) (omega arith) shown

    pub push_tiled : Tiled S (end_of (length b)) (pushed S c o L)
    unfolding times
    push_tiled =
        record {
          fills = ends_item_to S idle (index S + o) (start S) L.blocks ∙ v.fills;
          allowed = allowed_item_to S idle (index S + o) (start S) L.blocks (λ d j. idle_within d) v.allowed;
          apart = apart_item_to S idle (index S + o) (start S) 0 L.blocks v.apart;
          classes = length-set L.lists c (o ∷ get_or L.lists c []) ∙ v.classes;
          below = λ d x e. go d x e (ℕ_discrete d c) (ℕ_discrete x o);
        }
      where
        go : (d x : ℕ) → 1 ≤ times x (get_or (pushed S c o L).lists d []) → Dec (d ≡ c) → Dec (x ≡ o) → x ≤ end_of (length b)
        go d x e k (yes i) = omega (arith, (blocks_range S c (index S + o) (start S) L.blocks there).1, v.fills)
        go d x e (no k) (no i) = v.below d x (rw (get_or-set_other L.lists c d (o ∷ get_or L.lists c []) [] k) at e)
        go d x e (yes k) (no i) =
            let f : 1 ≤ times x (get_or (pushed S c o L).lists c []) = rw k at e in
            let g : 1 ≤ times x (o ∷ get_or L.lists c []) = rw (get_or-set_same L.lists c (o ∷ get_or L.lists c []) [] (omega (arith, cl, v.classes))) at f in
            v.below c x (omega (arith, rw (ne_eqb x o i) at g))

  module _ (good : Good S) (b : List ℕ) (L : Layout) (h : Here S b L) (c o k : ℕ) (cl : c < S.classes) (there : InBlocks S c (index S + o) (start S) L.blocks)
      (in_use : item_to S (held k) (index S + o) (start S) L.blocks ≡ L.blocks) (short : length b ≤ S.most) where
    pub pushed_here : Here S (draw S.word (words S (end_of (length b)) (pushed S c o L)) b) (pushed S c o L)
    pushed_here = drawn_here S good b (pushed S c o L) h.magic (push_valid h.valid c o k cl there in_use) short

    -- one word is written where the item is for n bytes from now on
    pub renew_law : (n : ℕ) → Within c (held n) → Bytes b → put S.word b (index S + o) (held_header c n) ≡ draw S.word (words S (end_of (length b)) (renewed S n o L)) b
    unfolding header
    renew_law n w bytes =
        let l = get_or L.lists c [] in
        let head : put S.word b (index S + S.word * c) (head_of l) ≡ b =
        ap (λ (x : ℕ). put S.word b (index S + S.word * c) x) (sym (head_read S b L h c cl)) ∙ put_again S.word b (index S + S.word * c) bytes in
        let same : set L.lists c l ≡ L.lists = set-get_or L.lists c [] in
        ap (λ (x : List ℕ). put S.word x (index S + o) (held_header c n)) (sym head)
        ∙ item_law S good (end_of (length b)) L (tiled S h.valid) c cl l (index S + o) o refl (held n) (λ d x z. ap (λ (ls : List (List ℕ)). next_of x (get_or ls d [])) same) there b (omega arith) bytes (rw (head_read S b L h c cl) at (word_fits S.word b (index S + S.word * c) bytes)) (held_fits S good c n cl w) (omega arith) h.shown
        ∙ ap (λ (ls : List (List ℕ)). draw S.word (words S (end_of (length b)) (record { blocks = item_to S (held n) (index S + o) (start S) L.blocks; lists = ls })) b) same

    pub renewed_here : (n : ℕ) → Within c (held n) → Here S (draw S.word (words S (end_of (length b)) (renewed S n o L)) b) (renewed S n o L)
    renewed_here n w = drawn_here S good b (renewed S n o L) h.magic (renew_valid h.valid c o k cl there in_use n w) short

-- What is live after a block, a page or an item is made: what was, and one payload more or none.
use Rattle.std.proofs.Common.{ℕ, zero, suc, ◌+◌, ◌-◌, ◌≤◌, ◌<◌, ◌≡◌, refl, sym, ap, subst, ◌∙◌, List, [], ◌∷◌, ◌++◌, append_assoc, ◌⊎◌, inl, inr, ⊎_elim, arith, replicate, lt-ltb, le-ltb}
use Rattle.std.proofs.Math.Decide.{dec_lt}
use Rattle.model.specs.Shape.{Shape, start, tags, item_size, page_need, address_of}
use Rattle.model.specs.Layout.{idle, Use, variable, Block, free, used, Layout, use_size, size_of, ends}
use Rattle.model.specs.Sound.{Allowed, Valid}
use Rattle.model.specs.Rules.{Spot, spot_at, paged}
use Rattle.model.specs.Live.{◌∈◌, Payload, slots_live, use_live, live_from, live}
use Rattle.model.proofs.lives.Members.{in_left, in_right, in_either}
use Rattle.model.proofs.blocks.Blocks.{le_ends, allowed_left, allowed_right}
use Rattle.model.proofs.blocks.Replace.{three}
use Rattle.model.proofs.lives.Payloads.{live_within}
use Rattle.model.proofs.blocks.Spots.{split_layout, split_allowed}
use Rattle.model.specs.inner.Walks.{Split}
use Rattle.model.proofs.blocks.Taken.{parts, takes_of}
use Rattle.model.specs.inner.Links.{takes}
use Rattle.model.proofs.Good.{Good}
use Rattle.model.proofs.blocks.Placed.{placed_in, placed_as}
use Rattle.model.proofs.items.Paged.{page_of, page_takes, page_size, parts_ends, paged_as}

module _ (S : Shape) where
  -- y is live in L' beside all that is live in L, where nothing had its address, and nothing else is
  pub record Adds (L L' : Layout) (y : Payload) : Type 0 where
    pub kept : (x : Payload) → x ∈ live S L → x ∈ live S L'
    pub only : (x : Payload) → x ∈ live S L' → (x ∈ live S L) ⊎ (x ≡ y)
    pub there : y ∈ live S L'
    pub new : (x : Payload) → x ∈ live S L → x.address ≡ y.address → ⊥

  pub live_append : (p : ℕ) (xs ys : List Block) → live_from S p (xs ++ ys) ≡ live_from S p xs ++ live_from S (ends S p xs) ys
  unfolding live_from ends size_of
  live_append p [] ys = refl
  live_append p (free s ∷ xs) ys = live_append (p + s) xs ys
  live_append p (used u ∷ xs) ys = rw (live_append (p + use_size S u) xs ys) (sym (append_assoc (use_live S p u) (live_from S (p + use_size S u) xs) (live_from S (ends S (p + use_size S u) xs) ys)))

  -- of blocks in three runs
  live_three : (ls : List (List ℕ)) (pre mid post : List Block)
      → live S (three S ls pre mid post) ≡ live_from S (start S) pre ++ (live_from S (ends S (start S) pre) mid ++ live_from S (ends S (ends S (start S) pre) mid) post)
  live_three ls pre mid post = live_append (start S) pre (mid ++ post) ∙ ap (λ (l : List Payload). live_from S (start S) pre ++ l) (live_append (ends S (start S) pre) mid post)

  -- what a free block becomes has the payloads of the block in use
  parts_live : (p s u : ℕ) (U : Use) → live_from S p (parts S u s U) ≡ use_live S p U ++ []
  unfolding live_from
  parts_live p s u U = go (dec_lt u s)
    where
      go : Dec (u < s) → live_from S p (parts S u s U) ≡ use_live S p U ++ []
      go (yes k) = rw (lt-ltb u s k) refl
      go (no k) = rw (le-ltb u s (omega arith)) refl

  -- what is live before and behind a spot
  abbrev live_before : Spot → List Payload
  live_before t = live_from S (start S) t.pre

  abbrev live_behind : Spot → List Payload
  live_behind t = live_from S (spot_at S t + t.size) t.post

  -- with a block in use there
  live_parts : (ls : List (List ℕ)) (t : Spot) (u : ℕ) (U : Use) → use_size S U ≡ u → u ≤ t.size
      → live S (three S ls t.pre (parts S u t.size U) t.post) ≡ live_before t ++ ((use_live S (spot_at S t) U ++ []) ++ live_behind t)
  unfolding ends size_of
  live_parts ls t u U e l =
      live_three ls t.pre (parts S u t.size U) t.post
      ∙ ap (λ (l : List Payload). live_before t ++ (l ++ live_from S (ends S (spot_at S t) (parts S u t.size U)) t.post)) (parts_live (spot_at S t) t.size u U)
      ∙ ap (λ (q : ℕ). live_before t ++ ((use_live S (spot_at S t) U ++ []) ++ live_from S q t.post)) (parts_ends S t.size u U e l (spot_at S t))

  module _ {end need : ℕ} {L : Layout} {t : Spot} (v : Valid S end L) (s : Split need L t) (good : Good S) where
    live_split : live S L ≡ live_before t ++ live_behind t
    unfolding live_from ends size_of
    live_split = ap (λ (bs : List Block). live_from S (start S) bs) s.blocks ∙ live_three L.lists t.pre (free t.size ∷ []) t.post

    -- the payload of a variable block there
    abbrev pub placed_payload : Payload
    placed_payload = record { address = address_of S (spot_at S t); size = takes S need t.size - tags S; shown = takes S need t.size - tags S }

    live_placed : live S (placed_in S need L t) ≡ live_before t ++ (placed_payload ∷ live_behind t)
    unfolding use_live use_size
    live_placed =
        let u = takes S need t.size in
        ap (λ (M : Layout). live S M) (placed_as S v s good) ∙ live_parts L.lists t u (variable u) refl (takes_of S need t.size s.large).within

    pub placed_adds : Adds L (placed_in S need L t) placed_payload
    unfolding ◌∈◌ Allowed
    placed_adds =
        let all = (split_layout S v s).allowed in
        let pre_in = live_within S (start S) t.pre (allowed_left S t.pre ((free t.size ∷ []) ++ t.post) all) in
        let post_in = live_within S (spot_at S t + t.size) t.post (allowed_right S (free t.size ∷ []) t.post (allowed_right S t.pre ((free t.size ∷ []) ++ t.post) all)) in
        record {
          kept = λ x h.
              subst (λ (l : List Payload). x ∈ l) (sym live_placed)
              (⊎_elim (λ k. in_left x (live_before t) (placed_payload ∷ live_behind t) k) (λ k. in_right x (live_before t) (placed_payload ∷ live_behind t) (inr k)) (before x h));
          only = λ x h.
              ⊎_elim (λ k. inl (was x (in_left x (live_before t) (live_behind t) k))) (λ k. ⊎_elim (λ e. inr e) (λ j. inl (was x (in_right x (live_before t) (live_behind t) j))) k)
              (in_either x (live_before t) (placed_payload ∷ live_behind t) (subst (λ (l : List Payload). x ∈ l) live_placed h));
          there = subst (λ (l : List Payload). placed_payload ∈ l) (sym live_placed) (in_right placed_payload (live_before t) (placed_payload ∷ live_behind t) (inl refl));
          new = λ x h e. ⊎_elim (λ k. omega (arith, (pre_in x k).1, e, le_ends S (start S) t.pre)) (λ k. omega (arith, (post_in x k).0, e, (split_allowed S v s).0)) (before x h);
        }
      where
        before : (x : Payload) → x ∈ live S L → (x ∈ live_before t) ⊎ (x ∈ live_behind t)
        before x h = in_either x (live_before t) (live_behind t) (subst (λ (l : List Payload). x ∈ l) live_split h)

        was : (x : Payload) → x ∈ (live_before t ++ live_behind t) → x ∈ live S L
        was x h = subst (λ (l : List Payload). x ∈ l) (sym live_split) h

  -- no item of a new page is live
  slots_none : (c p n : ℕ) → slots_live S c p (replicate n idle) ≡ []
  unfolding slots_live
  slots_none c p zero = refl
  slots_none c p (suc n) = slots_none c (p + item_size S c) n

  pub paged_live : (c : ℕ) {end : ℕ} {L : Layout} {t : Spot} → Valid S end L → Split (page_need S c) L t → Good S → live S (paged S c t L) ≡ live S L
  unfolding use_live
  paged_live c {end} {L} {t} v s good =
      let u = page_takes S c t in
      let k = takes_of S (page_need S c) t.size s.large in
      ap (λ (M : Layout). live S M) (paged_as S c (spot_at S t) v s refl good)
      ∙ live_parts (paged S c t L).lists t u (page_of S c u) (page_size S c u k.enough) k.within
      ∙ ap (λ (l : List Payload). live_before t ++ ((l ++ []) ++ live_behind t)) (slots_none c (spot_at S t + S.word) (S.per_page c))
      ∙ sym (live_split v s good)

-- What is live after a free: what was, but for the payload at the address.
use Rattle.std.proofs.Common.{ℕ, ◌+◌, ◌-◌, ◌≡◌, refl, sym, ap, subst, ◌∙◌, List, [], ◌∷◌, ◌++◌, ◌⊎◌, inl, inr, ⊎_elim, arith}
use Rattle.model.specs.Shape.{Shape, start, tags, address_of, item_at}
use Rattle.model.specs.Layout.{variable, Block, free, used, Layout, use_size, ends}
use Rattle.model.specs.Sound.{Allowed, AllowedUse, AllAllowed, Valid}
use Rattle.model.specs.Rules.{Spot, released, Found, block, thing, nothing, pushed, find, freed, capacity, shown_of}
use Rattle.model.specs.Live.{◌∈◌, Payload, use_live, live_from, live}
use Rattle.model.proofs.Good.{Good}
use Rattle.model.proofs.lives.Members.{in_left, in_right, in_either}
use Rattle.model.proofs.blocks.Blocks.{allowed_left, allowed_right}
use Rattle.model.proofs.lives.Payloads.{live_within}
use Rattle.model.proofs.items.Push.{push_valid}
use Rattle.model.proofs.walks.Finding.{block_found, item_found}
use Rattle.model.proofs.blocks.Releasing.{freed_block_valid}
use Rattle.model.proofs.blocks.Joined.{released_live}
use Rattle.model.proofs.lives.Lives.{Adds, live_append}
use Rattle.model.proofs.lives.ItemLives.{item_payload, item_adds}

module _ (S : Shape) where
  -- a list of payloads with one more in it
  module _ {L M : Layout} (A C : List Payload) (y : Payload) (l : live S L ≡ A ++ (y ∷ C)) (m : live S M ≡ A ++ C) where
    pub adds_between : ((x : Payload) → x ∈ A → x.address ≡ y.address → ⊥) → ((x : Payload) → x ∈ C → x.address ≡ y.address → ⊥) → Adds S M L y
    unfolding ◌∈◌
    adds_between a c =
        record {
          kept = λ x h. subst (λ (k : List Payload). x ∈ k) (sym l) (⊎_elim (λ i. in_left x A (y ∷ C) i) (λ i. in_right x A (y ∷ C) (inr i)) (was x h));
          only = λ x h.
              ⊎_elim (λ i. inl (is x (in_left x A C i))) (λ i. ⊎_elim (λ e. inr e) (λ j. inl (is x (in_right x A C j))) i) (in_either x A (y ∷ C) (subst (λ (k : List Payload). x ∈ k) l h));
          there = subst (λ (k : List Payload). y ∈ k) (sym l) (in_right y A (y ∷ C) (inl refl));
          new = λ x h e. ⊎_elim (λ i. a x i e) (λ i. c x i e) (was x h);
        }
      where
        was : (x : Payload) → x ∈ live S M → (x ∈ A) ⊎ (x ∈ C)
        was x h = in_either x A C (subst (λ (k : List Payload). x ∈ k) m h)

        is : (x : Payload) → x ∈ (A ++ C) → x ∈ live S M
        is x h = subst (λ (k : List Payload). x ∈ k) (sym m) h

  -- the payload of a variable block of size s at p; of one at a spot
  abbrev pub variable_payload : ℕ → ℕ → Payload
  variable_payload p s = record { address = address_of S p; size = s - tags S; shown = s - tags S }

  abbrev pub block_payload : Spot → Payload
  block_payload t = variable_payload (ends S (start S) t.pre) t.size

  -- what was found at a is given back: the payload that is then no longer live
  pub record Removed (end : ℕ) (L : Layout) (a : ℕ) (f : Found) : Type 0 where
    pub valid : Valid S end (freed S f L)
    pub payload : Payload
    pub at : payload.address ≡ a
    pub size : payload.size ≡ capacity S f
    pub shown : payload.shown ≡ shown_of S f
    pub adds : Adds S (freed S f L) L payload

  module _ (good : Good S) {end : ℕ} {L : Layout} (v : Valid S end L) where
    block_freed : (t : Spot) → L.blocks ≡ t.pre ++ ((used (variable t.size) ∷ []) ++ t.post) → Adds S (record { blocks = released t; lists = L.lists }) L (block_payload t)
    unfolding AllAllowed Allowed AllowedUse live_from use_live use_size
    block_freed t e =
        let p = ends S (start S) t.pre in
        let A = live_from S (start S) t.pre in
        let C = live_from S (p + t.size) t.post in
        let all : AllAllowed S (t.pre ++ (used (variable t.size) ∷ t.post)) = subst (λ (l : List Block). AllAllowed S l) e v.allowed in
        let mine = allowed_right S t.pre (used (variable t.size) ∷ t.post) all in
        let pre_in = live_within S (start S) t.pre (allowed_left S t.pre (used (variable t.size) ∷ t.post) all) in
        let post_in = live_within S (p + t.size) t.post mine.1 in
        let was : live S L ≡ A ++ (block_payload t ∷ C) = ap (λ (l : List Block). live_from S (start S) l) e ∙ live_append S (start S) t.pre (used (variable t.size) ∷ t.post) in
        let is : live_from S (start S) (released t) ≡ A ++ C = released_live S t (start S) ∙ live_append S (start S) t.pre (free t.size ∷ t.post) in
        adds_between {L = L} {M = record { blocks = released t; lists = L.lists }} A C (block_payload t) was is
        (λ x h k. omega (arith, (pre_in x h).1, k, good))
        (λ x h k. omega (arith, (post_in x h).0, k, mine.0.0))

    -- THE LAW: a free leaves a valid layout, in which one payload less is live
    pub freed_removes : (a : ℕ) (f : Found) → find S a L ≡ f → (f ≡ nothing → ⊥) → Removed end L a f
    unfolding freed
    freed_removes a nothing e n = absurd (n refl)
    freed_removes a (block t) e n =
        let k = block_found S good a (start S) L.blocks t e in
        record { valid = freed_block_valid S good.larger end L t v k.blocks; payload = block_payload t; at = sym k.at; size = refl; shown = refl; adds = block_freed t k.blocks }
    freed_removes a (thing o c m) e n =
        let k = item_found S good a o c m (start S) L.blocks (omega arith) v.allowed e in
        record {
          valid = push_valid S v c o m k.class k.there k.in_use;
          payload = item_payload S c m (item_at S o);
          at = sym k.at;
          size = refl;
          shown = refl;
          adds = item_adds S good L (pushed S c o L) L v.allowed m c (item_at S o) k.there refl (sym k.in_use);
        }

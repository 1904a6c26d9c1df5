-- A record that moves: what is found at an address is live, and live payloads are apart, so that copying into one harms no other and no word of the picture.
use Rattle.std.proofs.Common.{ℕ, ◌+◌, ◌-◌, ◌≤◌, ◌<◌, ◌≡◌, refl, sym, ap, subst, ◌∙◌, List, [], ◌∷◌, ◌++◌, ◌⊎◌, inl, inr, ⊎_elim, arith, length, get_or, eq-eqb, ne_eqb}
use Rattle.std.proofs.Math.Decide.{ℕ_discrete, dec_le, dec_lt}
use Rattle.words.specs.Copy.{copied}
use Rattle.words.proofs.WordLaws.{word_agree}
use Rattle.words.proofs.CopyLaws.{length_copied, copied_out}
use Rattle.model.specs.Shape.{Shape, start, tags, least_variable, item_size, item_capacity, item_shown, address_of, item_at, end_of}
use Rattle.model.specs.Layout.{Slot, idle, held, variable, page, Block, free, used, Layout, use_size, words}
use Rattle.model.specs.Sound.{Allowed, AllowedUse, AllAllowed, Valid, Here}
use Rattle.model.specs.Rules.{Spot, Found, block, thing, nothing, behind, or_else, in_slots, find_from, capacity, shown_of}
use Rattle.model.specs.Live.{◌∈◌, InTurn, Payload, slots_live, use_live, live_from, live}
use Rattle.model.proofs.Good.{Good}
use Rattle.model.proofs.lives.Members.{in_left, in_right, in_either}
use Rattle.model.proofs.pictures.Pictures.{Outside, clear_outside, shows_same}
use Rattle.model.proofs.pictures.Drawn.{tiled}
use Rattle.model.proofs.lives.Payloads.{live_within, slots_within, in_area, no_overlap, words_clear}
use Rattle.model.proofs.walks.Finding.{slots_above, block_found, item_found}
use Rattle.model.specs.inner.Items.{InBlocks}
use Rattle.model.proofs.blocks.Blocks.{allowed_right}
use Rattle.model.proofs.items.ItemPlaces.{no_block}

-- of two that differ in a list one stands before the other
in_turn_lem : {A : Type 0} (x y : A) (zs : List A) → x ∈ zs → y ∈ zs → (x ≡ y → ⊥) → InTurn x y zs ⊎ InTurn y x zs
unfolding ◌∈◌ InTurn
in_turn_lem x y [] h k n = absurd h
in_turn_lem x y (z ∷ zs) (inl e) (inl f) n = absurd (n (e ∙ sym f))
in_turn_lem x y (z ∷ zs) (inl e) (inr k) n = inl (inl (e, k))
in_turn_lem x y (z ∷ zs) (inr h) (inl f) n = inr (inl (f, h))
in_turn_lem x y (z ∷ zs) (inr h) (inr k) n = ⊎_elim (λ i. inl (inr i)) (λ i. inr (inr i)) (in_turn_lem x y zs h k n)

module _ (S : Shape) where
  -- the payload of what is found at a
  abbrev pub payload_of : ℕ → Found → Payload
  payload_of a f = record { address = a; size = capacity S f; shown = shown_of S f }

  behind_live : (a : ℕ) (b : Block) (l : List Payload) (f : Found) → ((f ≡ nothing → ⊥) → payload_of a f ∈ l) → (behind b f ≡ nothing → ⊥) → payload_of a (behind b f) ∈ l
  behind_live a b l (block t) h n = h (λ e. let z : ◌≡◌ {A = ℕ} 0 1 = cc in omega arith)
  behind_live a b l (thing o c m) h n = h (λ e. let z : ◌≡◌ {A = ℕ} 0 1 = cc in omega arith)
  behind_live a b l nothing h n = absurd (n refl)

  slots_live_lem : (a c p : ℕ) (ss : List Slot) → (in_slots S a c p ss ≡ nothing → ⊥) → payload_of a (in_slots S a c p ss) ∈ slots_live S c p ss
  unfolding in_slots slots_live ◌∈◌
  slots_live_lem a c p [] n = absurd (n refl)
  slots_live_lem a c p (idle ∷ ss) n = slots_live_lem a c (p + item_size S c) ss n
  slots_live_lem a c p (held m ∷ ss) n = go (ℕ_discrete a (address_of S p)) (slots_live_lem a c (p + item_size S c) ss) n
    where
      go : Dec (a ≡ address_of S p) → ((in_slots S a c (p + item_size S c) ss ≡ nothing → ⊥) → payload_of a (in_slots S a c (p + item_size S c) ss) ∈ slots_live S c (p + item_size S c) ss)
          → (in_slots S a c p (held m ∷ ss) ≡ nothing → ⊥) → payload_of a (in_slots S a c p (held m ∷ ss)) ∈ slots_live S c p (held m ∷ ss)
      go (yes e) r n = rw (eq-eqb a (address_of S p) e) (inl (ap (λ (x : ℕ). record { address = x; size = item_capacity S c; shown = item_shown S c m }) e))
      go (no e) r n = let q : in_slots S a c p (held m ∷ ss) ≡ in_slots S a c (p + item_size S c) ss = rw (ne_eqb a (address_of S p) e) refl in subst (λ (f : Found). payload_of a f ∈ slots_live S c p (held m ∷ ss)) (sym q) (inr (r (subst (λ (f : Found). f ≡ nothing → ⊥) q n)))

  -- what is found is live
  pub found_live : (a p : ℕ) (bs : List Block) → (find_from S a p bs ≡ nothing → ⊥) → payload_of a (find_from S a p bs) ∈ live_from S p bs
  unfolding find_from live_from use_live use_size ◌∈◌
  found_live a p [] n = absurd (n refl)
  found_live a p (free s ∷ bs) n = behind_live a (free s) (live_from S (p + s) bs) (find_from S a (p + s) bs) (found_live a (p + s) bs) n
  found_live a p (used (variable s) ∷ bs) n = go (ℕ_discrete a (address_of S p)) (found_live a (p + s) bs) n
    where
      go : Dec (a ≡ address_of S p) → ((find_from S a (p + s) bs ≡ nothing → ⊥) → payload_of a (find_from S a (p + s) bs) ∈ live_from S (p + s) bs)
          → (find_from S a p (used (variable s) ∷ bs) ≡ nothing → ⊥) → payload_of a (find_from S a p (used (variable s) ∷ bs)) ∈ live_from S p (used (variable s) ∷ bs)
      go (yes e) r n = rw (eq-eqb a (address_of S p) e) (inl (ap (λ (x : ℕ). record { address = x; size = s - tags S; shown = s - tags S }) e))
      go (no e) r n = let q : find_from S a p (used (variable s) ∷ bs) ≡ behind (used (variable s)) (find_from S a (p + s) bs) = rw (ne_eqb a (address_of S p) e) refl in subst (λ (f : Found). payload_of a f ∈ live_from S p (used (variable s) ∷ bs)) (sym q) (inr (behind_live a (used (variable s)) (live_from S (p + s) bs) (find_from S a (p + s) bs) r (subst (λ (f : Found). f ≡ nothing → ⊥) q n)))
  found_live a p (used (page c k ss) ∷ bs) n =
      go (in_slots S a c (p + S.word) ss) (slots_live_lem a c (p + S.word) ss) (behind_live a (used (page c k ss)) (live_from S (p + use_size S (page c k ss)) bs) (find_from S a (p + use_size S (page c k ss)) bs) (found_live a (p + use_size S (page c k ss)) bs)) n
    where
      go : (f : Found) → ((f ≡ nothing → ⊥) → payload_of a f ∈ slots_live S c (p + S.word) ss)
          → ((behind (used (page c k ss)) (find_from S a (p + use_size S (page c k ss)) bs) ≡ nothing → ⊥) → payload_of a (behind (used (page c k ss)) (find_from S a (p + use_size S (page c k ss)) bs)) ∈ live_from S (p + use_size S (page c k ss)) bs)
          → (or_else f (behind (used (page c k ss)) (find_from S a (p + use_size S (page c k ss)) bs)) ≡ nothing → ⊥)
          → payload_of a (or_else f (behind (used (page c k ss)) (find_from S a (p + use_size S (page c k ss)) bs))) ∈ (slots_live S c (p + S.word) ss ++ live_from S (p + use_size S (page c k ss)) bs)
      go (block t) h r n = in_left (payload_of a (block t)) (slots_live S c (p + S.word) ss) (live_from S (p + use_size S (page c k ss)) bs) (h (λ e. let z : ◌≡◌ {A = ℕ} 0 1 = cc in omega arith))
      go (thing o d m) h r n = in_left (payload_of a (thing o d m)) (slots_live S c (p + S.word) ss) (live_from S (p + use_size S (page c k ss)) bs) (h (λ e. let z : ◌≡◌ {A = ℕ} 0 1 = cc in omega arith))
      go nothing h r n =
          in_right (payload_of a (behind (used (page c k ss)) (find_from S a (p + use_size S (page c k ss)) bs))) (slots_live S c (p + S.word) ss) (live_from S (p + use_size S (page c k ss)) bs) (r n)

  -- what is live is found, with its capacity and with what is shown of it
  pub record Shown (x : Payload) (f : Found) : Type 0 where
    pub there : f ≡ nothing → ⊥
    pub large : capacity S f ≡ x.size
    pub shown : shown_of S f ≡ x.shown

  behind_shown : (x : Payload) (b : Block) (f : Found) → Shown x f → Shown x (behind b f)
  behind_shown x b (block t) s = record { there = λ e. let z : ◌≡◌ {A = ℕ} 0 1 = cc in omega arith; large = s.large; shown = s.shown }
  behind_shown x b (thing o c n) s = record { there = λ e. let z : ◌≡◌ {A = ℕ} 0 1 = cc in omega arith; large = s.large; shown = s.shown }
  behind_shown x b nothing s = absurd (s.there refl)

  slots_shown : (x : Payload) (c p : ℕ) (ss : List Slot) → Good S → x ∈ slots_live S c p ss → Shown x (in_slots S x.address c p ss)
  unfolding in_slots slots_live ◌∈◌
  slots_shown x c p [] good h = absurd h
  slots_shown x c p (idle ∷ ss) good h = slots_shown x c (p + item_size S c) ss good h
  slots_shown x c p (held n ∷ ss) good (inl e) =
      rw (eq-eqb x.address (address_of S p) (ap (λ (y : Payload). y.address) e))
      (record { there = λ f. let z : ◌≡◌ {A = ℕ} 0 1 = cc in omega arith; large = sym (ap (λ (y : Payload). y.size) e); shown = sym (ap (λ (y : Payload). y.shown) e) })
  slots_shown x c p (held n ∷ ss) good (inr h) =
      let r = slots_within S c (p + item_size S c) ss x h in
      rw (ne_eqb x.address (address_of S p) (λ e. omega (arith, r.0))) (slots_shown x c (p + item_size S c) ss good h)

  pub live_found : (x : Payload) (p : ℕ) (bs : List Block) → Good S → AllAllowed S bs → x ∈ live_from S p bs → Shown x (find_from S x.address p bs)
  unfolding find_from live_from use_live use_size AllAllowed Allowed AllowedUse ◌∈◌
  live_found x p [] good a h = absurd h
  live_found x p (free s ∷ bs) good a h = behind_shown x (free s) (find_from S x.address (p + s) bs) (live_found x (p + s) bs good a.1 h)
  live_found x p (used (variable s) ∷ bs) good a (inl e) =
      rw (eq-eqb x.address (address_of S p) (ap (λ (y : Payload). y.address) e))
      (record { there = λ f. let z : ◌≡◌ {A = ℕ} 0 1 = cc in omega arith; large = sym (ap (λ (y : Payload). y.size) e); shown = sym (ap (λ (y : Payload). y.shown) e) })
  live_found x p (used (variable s) ∷ bs) good a (inr h) =
      let r = live_within S (p + s) bs a.1 x h in
      rw (ne_eqb x.address (address_of S p) (λ e. omega (arith, r.0, a.0.0))) (behind_shown x (used (variable s)) (find_from S x.address (p + s) bs) (live_found x (p + s) bs good a.1 h))
  live_found x p (used (page c k ss) ∷ bs) good a h =
      ⊎_elim (λ j. inside (in_slots S x.address c (p + S.word) ss) (slots_shown x c (p + S.word) ss good j))
      (λ j.
      let r = live_within S (p + use_size S (page c k ss)) bs a.1 x j in
      rw (slots_above S good x.address c (p + S.word) ss (omega (arith, r.0)))
      (behind_shown x (used (page c k ss)) (find_from S x.address (p + use_size S (page c k ss)) bs) (live_found x (p + use_size S (page c k ss)) bs good a.1 j)))
      (in_either x (slots_live S c (p + S.word) ss) (live_from S (p + use_size S (page c k ss)) bs) h)
    where
      inside : (f : Found) → Shown x f → Shown x (or_else f (behind (used (page c k ss)) (find_from S x.address (p + use_size S (page c k ss)) bs)))
      inside (block t) s = record { there = λ f. let z : ◌≡◌ {A = ℕ} 0 1 = cc in omega arith; large = s.large; shown = s.shown }
      inside (thing o d n) s = record { there = λ f. let z : ◌≡◌ {A = ℕ} 0 1 = cc in omega arith; large = s.large; shown = s.shown }
      inside nothing s = absurd (s.there refl)

  -- two live payloads with different addresses are apart
  pub live_apart : (end : ℕ) (L : Layout) → Valid S end L → (x y : Payload) → x ∈ live S L → y ∈ live S L → (x.address ≡ y.address → ⊥)
      → (x.address + x.size ≤ y.address) ⊎ (y.address + y.size ≤ x.address)
  live_apart end L v x y h k n =
      ⊎_elim (λ t. inl (no_overlap S end L v x y t)) (λ t. inr (no_overlap S end L v y x t)) (in_turn_lem x y (live S L) h k (λ e. n (ap (λ (z : Payload). z.address) e)))

  -- THE LAW: bytes copied into a live payload leave the heap's layout
  pub copied_here : (b : List ℕ) (L : Layout) → Here S b L → (y : Payload) → y ∈ live S L → (from k : ℕ) → k ≤ y.size → from + k ≤ length b → Here S (copied from y.address k b) L
  copied_here b L h y m from k small source =
      let area = in_area S (end_of (length b)) L h.valid y m in
      let target : y.address + k ≤ length b = omega (arith, area.1) in
      let len = length_copied b from y.address k source target in
      record {
        magic = word_agree 8 (copied from y.address k b) b 0 (λ i j l. copied_out b from y.address k source target i (λ p q. omega (arith, area.0))) ∙ h.magic;
        valid = rw len h.valid;
        shown = rw len (shows_same S.word (words S (end_of (length b)) L) b (copied from y.address k b) (λ i out. at i target out (dec_le y.address i) (dec_lt i (y.address + k))) h.shown);
      }
    where
      at : (i : ℕ) → y.address + k ≤ length b → (Outside S.word i (words S (end_of (length b)) L) → ⊥) → Dec (y.address ≤ i) → Dec (i < y.address + k) → get_or (copied from y.address k b) i 0 ≡ get_or b i 0
      at i target out (yes p) (yes q) =
          absurd (out (clear_outside S.word y.address (y.address + y.size) (words S (end_of (length b)) L) i p (omega arith) (words_clear S y (end_of (length b)) L (tiled S h.valid) m)))
      at i target out (no p) d = copied_out b from y.address k source target i (λ x z. p x)
      at i target out (yes p) (no q) = copied_out b from y.address k source target i (λ x z. q z)

  -- a variable block is large enough; an item in use that is still live is found again
  module _ (good : Good S) (end : ℕ) (L : Layout) (v : Valid S end L) where
    pub taken_large : (a : ℕ) (t : Spot) → find_from S a (start S) L.blocks ≡ block t → least_variable S ≤ t.size
    unfolding AllAllowed Allowed AllowedUse
    taken_large a t e =
        let f = block_found S good a (start S) L.blocks t e in
        let all : AllAllowed S (t.pre ++ ((used (variable t.size) ∷ []) ++ t.post)) = subst (λ (l : List Block). AllAllowed S l) f.blocks v.allowed in
        (allowed_right S t.pre ((used (variable t.size) ∷ []) ++ t.post) all).0.0

    -- the item is found with a size of which as much is shown
    pub item_again : (a o c n : ℕ) → InBlocks S c (item_at S o) (start S) L.blocks → a ≡ address_of S (item_at S o) → record { address = a; size = item_capacity S c; shown = item_shown S c n } ∈ live S L → (m : ℕ) × (find_from S a (start S) L.blocks ≡ thing o c m)
    item_again a o c n there at h = go (find_from S a (start S) L.blocks) refl (live_found (record { address = a; size = item_capacity S c; shown = item_shown S c n }) (start S) L.blocks good v.allowed h)
      where
        go : (f : Found) → find_from S a (start S) L.blocks ≡ f → Shown (record { address = a; size = item_capacity S c; shown = item_shown S c n }) f → (m : ℕ) × (f ≡ thing o c m)
        go (block t) e s =
            let f = block_found S good a (start S) L.blocks t e in
            absurd (no_block S c (item_at S o) (start S) t.size t.pre t.post (omega (arith, taken_large a t e)) (omega (arith, f.at, at)) (subst (λ (l : List Block). InBlocks S c (item_at S o) (start S) l) f.blocks there))
        go (thing o' c' m) e s =
            let i = item_found S good a o' c' m (start S) L.blocks (omega arith) v.allowed e in
            let eo : o' ≡ o = omega (arith, i.at) in
            let ec : c' ≡ c = omega (arith, s.large) in
            (m, rw (eo, ec) refl)
        go nothing e s = absurd (s.there refl)

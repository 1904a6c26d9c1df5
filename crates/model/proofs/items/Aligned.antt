-- Offsets of free items are multiples of a word, so a header's low part, its rest by 16 words, is its class and its flags.
use Rattle.std.proofs.Common.{ℕ, zero, suc, ◌+◌, ◌-◌, ◌*◌, ◌/◌, ◌%◌, ◌<◌, ◌≤◌, ◌≡◌, refl, sym, ap, ◌∙◌, List, [], ◌∷◌, ⊎_elim, arith, length, get_or, eq-eqb, ne_eqb}
use Rattle.std.proofs.Math.Decide.{dec_lt}
use Rattle.std.proofs.Math.ListN.{get_or-eq_default}
use Rattle.words.specs.Word.{word_at}
use Rattle.words.specs.Width.{Width}
use Rattle.model.specs.Shape.{shape, item_size, address_of, offset_of, start, end_of}
use Rattle.model.specs.Parts.{held_flags, flags_in, asked_in}
use Rattle.model.specs.Picture.{Shows}
use Rattle.model.specs.Layout.{Slot, idle, held, Layout, next_of, header, slot_words}
use Rattle.model.specs.Sound.{times, Valid, Here}
use Rattle.model.specs.inner.Laid.{Laid}
use Rattle.model.specs.Rules.{thing, nothing, in_slots}
use Rattle.model.proofs.Good.{shape_good}
use Rattle.model.proofs.pictures.Drawn.{next_of_lem, tiled}
use Rattle.model.proofs.Sizes.{start_eight, class_idle, class_held, zero_even}
use Rattle.model.proofs.items.Asked.{asked_in_lem}
use Rattle.model.proofs.items.Offsets.{items_off}
use Rattle.model.proofs.walks.Finding.{slots_below}

module _ {w : ℕ} (wd : Width w) where
  -- what a valid layout's lists name are multiples of a word
  listed_aligned : (end : ℕ) (L : Layout) → Valid (shape w) end L → (c o : ℕ) → 1 ≤ times o (get_or L.lists c []) → o % w ≡ 0
  listed_aligned end L v c o e = go (dec_lt c (4 * w))
    where
      go : Dec (c < 4 * w) → o % w ≡ 0
      go (yes l) = (items_off wd c o (start (shape w)) L.blocks v.allowed (omega arith) (start_eight wd) (rw (v.listed c o l) at e)).even
      go (no l) = absurd (unfold times in omega (arith, ap (λ (k : List ℕ). times o k) (get_or-eq_default L.lists [] {n = c} (omega (arith, v.classes)))))

  -- so a sound heap is laid out
  pub laid : {b : List ℕ} {L : Layout} → Here (shape w) b L → Laid w b L
  laid {b} {L} h = record { magic = h.magic; tiled = tiled (shape w) h.valid; aligned = listed_aligned (end_of (length b)) L h.valid; shown = h.shown }

  -- and the next of an item is one too
  pub next_even : (l : List ℕ) → ((o : ℕ) → 1 ≤ times o l → o % w ≡ 0) → (o : ℕ) → next_of o l % w ≡ 0
  next_even l a o = ⊎_elim (zero_even wd _) (λ e. a (next_of o l) e) (next_of_lem o l)

  pub next_aligned : (end : ℕ) (L : Layout) → Valid (shape w) end L → (c o : ℕ) → c < 4 * w → next_of o (get_or L.lists c []) % w ≡ 0
  next_aligned end L v c o l = next_even (get_or L.lists c []) (listed_aligned end L v c) o

  -- a page's items, as their headers tell them
  module _ (b : List ℕ) (l : List ℕ) (c : ℕ) (few : c < 4 * w) (aligned : (o : ℕ) → next_of o l % w ≡ 0) where
    pub class_read : (q : ℕ) (x : Slot) (ss : List Slot) → Shows w b (slot_words (shape w) c l q (x ∷ ss)) → word_at w b q % (16 * w) / 4 ≡ c
    unfolding slot_words header Shows
    class_read q idle ss s = rw s.0 (class_idle wd c (next_of (offset_of (shape w) q) l) few (aligned (offset_of (shape w) q)))
    class_read q (held n) ss s = rw s.0 (class_held wd c n few)

    -- the item with index i is in use exactly where its header says so, and then for the size that it says
    pub record SlotRead (a q : ℕ) (ss : List Slot) : Type 0 where
      pub in_use : flags_in (word_at w b (a - w)) ≡ held_flags → in_slots (shape w) a c q ss ≡ thing (offset_of (shape w) (a - w)) c (asked_in (word_at w b (a - w)))
      pub not_in_use : (flags_in (word_at w b (a - w)) ≡ held_flags → ⊥) → in_slots (shape w) a c q ss ≡ nothing

    pub slot_read : (a q i : ℕ) (ss : List Slot) → i < length ss → a ≡ q + i * item_size (shape w) c + w → Shows w b (slot_words (shape w) c l q ss) → SlotRead a q ss
    unfolding slot_words header Shows in_slots
    slot_read a q i [] h e s = absurd (omega arith)
    slot_read a q zero (idle ∷ ss) h e s =
        let z : a - w ≡ q = omega arith in
        record {
          in_use = λ k. absurd (omega (arith, s.0, ap (λ (x : ℕ). word_at w b x) z));
          not_in_use = λ k. slots_below (shape w) (shape_good wd) a c (q + item_size (shape w) c) ss (omega arith);
        }
    slot_read a q zero (held n ∷ ss) h e s =
        let z : a - w ≡ q = omega arith in
        let f : a ≡ address_of (shape w) q = omega arith in
        let g : asked_in (word_at w b (a - w)) ≡ n = ap asked_in (ap (λ (x : ℕ). word_at w b x) z ∙ s.0) ∙ asked_in_lem c n (omega (arith, wd)) in
        record {
          in_use = λ k. rw (eq-eqb a (address_of (shape w) q) f, g) (ap (λ (x : ℕ). thing (offset_of (shape w) x) c n) (sym z));
          not_in_use = λ k. absurd (k (ap (λ (x : ℕ). flags_in (word_at w b x)) z ∙ ap flags_in s.0 ∙ omega arith));
        }
    slot_read a q (suc i) (idle ∷ ss) h e s =
        let r = slot_read a (q + item_size (shape w) c) i ss (omega arith) (omega arith) s.1 in
        record { in_use = r.in_use; not_in_use = r.not_in_use }
    slot_read a q (suc i) (held m ∷ ss) h e s =
        let r = slot_read a (q + item_size (shape w) c) i ss (omega arith) (omega arith) s.1 in
        let n = ne_eqb a (address_of (shape w) q) (λ f. omega arith) in
        record { in_use = λ k. rw n (r.in_use k); not_in_use = λ k. rw n (r.not_in_use k) }

  -- an address that is no item's
  pub slots_none : (a c q : ℕ) (ss : List Slot) → ((i : ℕ) → i < length ss → a ≡ q + i * item_size (shape w) c + w → ⊥) → in_slots (shape w) a c q ss ≡ nothing
  unfolding in_slots
  slots_none a c q [] h = refl
  slots_none a c q (idle ∷ ss) h = slots_none a c (q + item_size (shape w) c) ss (λ i l e. h (suc i) (omega arith) (omega arith))
  slots_none a c q (held n ∷ ss) h =
      rw (ne_eqb a (address_of (shape w) q) (λ e. h 0 (omega arith) (omega arith))) (slots_none a c (q + item_size (shape w) c) ss (λ i l e. h (suc i) (omega arith) (omega arith)))

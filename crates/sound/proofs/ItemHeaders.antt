-- What a free item's header says, where blocks were read.
use Rattle.std.proofs.Common.{ℕ, ◌+◌, ◌-◌, ◌≤◌, ◌≡◌, List, [], ◌∷◌, arith, eq-eqb, ne_eqb}
use Rattle.std.proofs.Math.Decide.{ℕ_discrete, dec_le}
use Rattle.words.specs.Width.{Width}
use Rattle.words.specs.Word.{word_at}
use Rattle.model.specs.Shape.{shape, item_size, index, item_at}
use Rattle.model.specs.Parts.{class_and_flags, free_mark, first_item_at}
use Rattle.model.specs.Layout.{Slot, idle, held, variable, page, Block, free, used, use_size, size_of}
use Rattle.model.specs.Sound.{times, idle_slots, idle_in, idle_items}
use Rattle.model.proofs.pictures.Drawn.{times_append}
use Rattle.marking.specs.Uses.{Slots, Headers}
use Rattle.walking.specs.Onward.{Reads}

module _ {w : ℕ} (wd : Width w) where
  pub slots_header : (b : List ℕ) (c o p : ℕ) (ss : List Slot) → index (shape w) ≤ p → Slots w b c p ss → 1 ≤ times o (idle_slots (shape w) c p ss) → class_and_flags (shape w) (word_at w b (item_at (shape w) o)) ≡ free_mark c
  unfolding Slots idle_slots times
  slots_header b c o p [] h s k = absurd (omega arith)
  slots_header b c o p (held n ∷ ss) h s k = slots_header b c o (p + item_size (shape w) c) ss (omega arith) s.1 k
  slots_header b c o p (idle ∷ ss) h s k = go (ℕ_discrete o (p - index (shape w))) (slots_header b c o (p + item_size (shape w) c) ss (omega arith) s.1)
    where
      go : Dec (o ≡ p - index (shape w)) → (1 ≤ times o (idle_slots (shape w) c (p + item_size (shape w) c) ss) → class_and_flags (shape w) (word_at w b (item_at (shape w) o)) ≡ free_mark c) → class_and_flags (shape w) (word_at w b (item_at (shape w) o)) ≡ free_mark c
      go (yes e) r = let z : index (shape w) + (p - index (shape w)) ≡ p = omega arith in rw (e, z) s.0
      go (no e) r = r (omega (arith, rw (ne_eqb o (p - index (shape w)) e) at k))

  pub items_header : (b : List ℕ) (c o p prev : ℕ) (bs : List Block) → index (shape w) ≤ p → Reads w b p prev bs → 1 ≤ times o (idle_items (shape w) c p bs) → class_and_flags (shape w) (word_at w b (item_at (shape w) o)) ≡ free_mark c
  unfolding Reads Headers idle_items idle_in size_of
  items_header b c o p prev [] h r k = absurd (unfold times in omega arith)
  items_header b c o p prev (free s ∷ bs) h r k = items_header b c o (p + s) p bs (omega arith) r.1 k
  items_header b c o p prev (used (variable s) ∷ bs) h r k = items_header b c o (p + use_size (shape w) (variable s)) prev bs (omega arith) r.1 k
  items_header b c o p prev (used (page d j ss) ∷ bs) h r k =
      go (ℕ_discrete c d) (dec_le 1 (times o (idle_slots (shape w) d (first_item_at (shape w) p) ss))) (items_header b c o (p + use_size (shape w) (page d j ss)) prev bs (omega arith) r.1)
    where
      go : Dec (c ≡ d) → Dec (1 ≤ times o (idle_slots (shape w) d (first_item_at (shape w) p) ss)) → (1 ≤ times o (idle_items (shape w) c (p + use_size (shape w) (page d j ss)) bs) → class_and_flags (shape w) (word_at w b (item_at (shape w) o)) ≡ free_mark c) → class_and_flags (shape w) (word_at w b (item_at (shape w) o)) ≡ free_mark c
      go (no e) i f = f (omega (arith, rw (ne_eqb c d e) at k))
      go (yes e) (yes i) f = rw e (slots_header b d o (first_item_at (shape w) p) ss (omega arith) r.0.2 i)
      go (yes e) (no n) f = f (omega (arith, rw (eq-eqb c d e) at k, times_append o (idle_slots (shape w) d (first_item_at (shape w) p) ss) (idle_items (shape w) c (p + use_size (shape w) (page d j ss)) bs)))

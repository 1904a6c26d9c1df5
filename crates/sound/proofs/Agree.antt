-- The marks that the walk leaves and the marked items that the lists meet are the same exactly where each class's list visits its free items.
use Rattle.std.proofs.Common.{ℕ, ◌+◌, ◌%◌, ◌≤◌, ◌<◌, ◌≡◌, refl, sym, ap, ◌∙◌, List, [], ◌∷◌, ◌++◌, arith, get_or, eq-eqb, ne_eqb}
use Rattle.std.proofs.Math.Decide.{ℕ_discrete, dec_le}
use Rattle.words.specs.Width.{Width}
use Rattle.words.specs.Word.{word_at}
use Rattle.words.specs.Bits.{bit_at}
use Rattle.words.proofs.BitLaws.{beyond_clear}
use Rattle.model.specs.Shape.{shape, index, start, item_at}
use Rattle.model.specs.Parts.{head_at, first_item_at}
use Rattle.model.specs.Layout.{Slot, variable, page, Block, free, used, use_size, size_of}
use Rattle.model.specs.Sound.{times, idle_slots, idle_in, idle_items}
use Rattle.model.proofs.pictures.Drawn.{times_append}
use Rattle.model.proofs.items.Offsets.{items_off}
use Rattle.model.proofs.Sizes.{start_eight, class_few}
use Rattle.visiting.proofs.Flat.{class, flat_class}
use Rattle.marking.specs.Uses.{Slots, use_kind, Headers, free_in}
use Rattle.walking.specs.Onward.{Reads, free_items}
use Rattle.marking.specs.Maps.{offset_bit, offset_at_bit}
use Rattle.visiting.specs.Lists.{flat, Listed}
use Rattle.sound.specs.Told.{Filled}
use Rattle.walking.specs.Told.{WholeMarked}
use Rattle.sound.proofs.ItemHeaders.{slots_header, items_header}
use Rattle.visiting.proofs.Chained.{chain_item, chains_at}
use Rattle.sound.proofs.OneLayout.{blocks_one}
use Rattle.marking.proofs.Places.{offset_none, offset_back}

module _ {w : ℕ} (wd : Width w) (b : List ℕ) (x : ℕ) where
  none_slots : (d p : ℕ) (ss : List Slot) → index (shape w) ≤ p → Slots w b d p ss → (class wd b x ≡ d → ⊥) → times x (idle_slots (shape w) d p ss) ≡ 0
  none_slots d p ss h s n = go (dec_le 1 (times x (idle_slots (shape w) d p ss)))
    where
      go : Dec (1 ≤ times x (idle_slots (shape w) d p ss)) → times x (idle_slots (shape w) d p ss) ≡ 0
      go (yes i) = absurd (n (omega (arith, slots_header wd b d x p ss h s i)))
      go (no i) = omega arith

  -- the free items at x of all classes are those of its class
  free_class : (p prev : ℕ) (bs : List Block) → index (shape w) ≤ p → Reads w b p prev bs → times x (free_items w p bs) ≡ times x (idle_items (shape w) (class wd b x) p bs)
  unfolding Reads use_kind Headers free_items free_in idle_items idle_in size_of
  free_class p prev [] h r = refl
  free_class p prev (free s ∷ bs) h r = free_class (p + s) p bs (omega arith) r.1
  free_class p prev (used (variable s) ∷ bs) h r = free_class (p + use_size (shape w) (variable s)) prev bs (omega arith) r.1
  free_class p prev (used (page d k ss) ∷ bs) h r =
      times_append x (idle_slots (shape w) d (first_item_at (shape w) p) ss) (free_items w (p + use_size (shape w) (page d k ss)) bs)
      ∙ go (ℕ_discrete (class wd b x) d) (free_class (p + use_size (shape w) (page d k ss)) prev bs (omega arith) r.1)
    where
      rest : List ℕ
      rest = idle_items (shape w) (class wd b x) (p + use_size (shape w) (page d k ss)) bs

      go : Dec (class wd b x ≡ d) → times x (free_items w (p + use_size (shape w) (page d k ss)) bs) ≡ times x rest
          → times x (idle_slots (shape w) d (first_item_at (shape w) p) ss) + times x (free_items w (p + use_size (shape w) (page d k ss)) bs) ≡ times x (idle_in (shape w) (class wd b x) p (used (page d k ss)) ++ rest)
      go (yes e) f = rw (eq-eqb (class wd b x) d e) (omega (arith, f, times_append x (idle_slots (shape w) d (first_item_at (shape w) p) ss) rest))
      go (no e) f = rw (ne_eqb (class wd b x) d e) (omega (arith, f, none_slots d (first_item_at (shape w) p) ss (omega arith) r.0.2 e))

module _ {w : ℕ} (wd : Width w) (b : List ℕ) (end : ℕ) (m : List ℕ) (walk : WholeMarked w b end [] m) where
  mark : (j : ℕ) → bit_at m j ≡ times (offset_at_bit w j) (free_items w (start (shape w)) walk.onward.rest)
  mark j = omega (arith, walk.adds.at j, beyond_clear [] j (omega arith))

  -- the end of a list has no mark
  pub end_clear : bit_at m 0 ≡ 0
  end_clear =
      let f : bit_at m 0 ≡ times 0 (free_items w (start (shape w)) walk.onward.rest) = rw (offset_none wd) at (mark 0) in
      f
      ∙ free_class wd b 0 (start (shape w)) 0 walk.onward.rest (omega arith) walk.onward.reads
      ∙ go (dec_le 1 (times 0 (idle_items (shape w) (class wd b 0) (start (shape w)) walk.onward.rest)))
    where
      go : Dec (1 ≤ times 0 (idle_items (shape w) (class wd b 0) (start (shape w)) walk.onward.rest)) → times 0 (idle_items (shape w) (class wd b 0) (start (shape w)) walk.onward.rest) ≡ 0
      go (yes i) = absurd (omega (arith, (items_off wd (class wd b 0) 0 (start (shape w)) walk.onward.rest walk.onward.allowed (omega arith) (start_eight wd) i).low))
      go (no i) = omega arith

  pub agree_filled : Listed w b end m → Filled w b end
  agree_filled k = record { onward = walk.onward; lists = k.lists; chains = k.chains; same = λ c x h. go c x h (dec_le 1 (times x (get_or k.lists c []))) (dec_le 1 (times x (idle_items (shape w) c (start (shape w)) walk.onward.rest))) }
    where
      at : (x : ℕ) → x % w ≡ 0 → times x (get_or k.lists (class wd b x) []) ≡ times x (idle_items (shape w) (class wd b x) (start (shape w)) walk.onward.rest)
      at x e =
          let f : offset_at_bit w (offset_bit w x) ≡ x = offset_back wd x e in
          sym (flat_class wd b x end k.lists k.chains)
          ∙ (let g : times x (flat k.lists) ≡ times x (free_items w (start (shape w)) walk.onward.rest) = rw f at (sym (k.marks (offset_bit w x)) ∙ mark (offset_bit w x)) in g)
          ∙ free_class wd b x (start (shape w)) 0 walk.onward.rest (omega arith) walk.onward.reads

      go : (c x : ℕ) → c < (shape w).classes → Dec (1 ≤ times x (get_or k.lists c [])) → Dec (1 ≤ times x (idle_items (shape w) c (start (shape w)) walk.onward.rest)) → times x (get_or k.lists c []) ≡ times x (idle_items (shape w) c (start (shape w)) walk.onward.rest)
      go c x h (yes i) d =
          let it = chain_item wd b end c (word_at w b (head_at (shape w) c)) x (get_or k.lists c []) (chains_at wd b end k.lists k.chains c h) i in
          let e : c ≡ class wd b x = omega (arith, it.header) in
          rw e (at x it.even)
      go c x h (no n) (yes i) =
          let e : c ≡ class wd b x = omega (arith, items_header wd b c x (start (shape w)) 0 walk.onward.rest (omega arith) walk.onward.reads i) in
          rw e (at x (items_off wd c x (start (shape w)) walk.onward.rest walk.onward.allowed (omega arith) (start_eight wd) i).even)
      go c x h (no n) (no i) = omega arith

  pub agree_listed : Filled w b end → Listed w b end m
  agree_listed f = record { lists = f.lists; chains = f.chains; marks = λ j. mark j ∙ at (offset_at_bit w j) }
    where
      at : (x : ℕ) → times x (free_items w (start (shape w)) walk.onward.rest) ≡ times x (flat f.lists)
      at x =
          free_class wd b x (start (shape w)) 0 walk.onward.rest (omega arith) walk.onward.reads
          ∙ ap (λ (l : List Block). times x (idle_items (shape w) (class wd b x) (start (shape w)) l)) (blocks_one wd b (start (shape w)) 0 0 walk.onward.rest f.onward.rest walk.onward.reads f.onward.reads walk.onward.allowed f.onward.allowed (walk.onward.fills ∙ sym f.onward.fills))
          ∙ sym (f.same (class wd b x) x (class_few wd (word_at w b (item_at (shape w) x))))
          ∙ sym (flat_class wd b x end f.lists f.chains)

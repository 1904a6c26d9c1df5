-- A heap has one layout at most: the tags say which blocks it has, and the heads and headers which lists.
use Rattle.std.proofs.Common.{ℕ, ◌+◌, ◌*◌, ◌≡◌, refl, sym, ap, ap₂, subst, ◌∙◌, List, [], ◌∷◌, arith, length}
use Rattle.words.specs.Width.{Width}
use Rattle.model.specs.Shape.{shape, item_size, end_of, start}
use Rattle.model.specs.Parts.{tag_of, first_item_at}
use Rattle.model.specs.Layout.{Slot, idle, held, Use, variable, page, Block, free, used, Layout, use_size, size_of, ends}
use Rattle.model.specs.Sound.{AllowedUse, Allowed, AllAllowed, Here, heap_of}
use Rattle.model.specs.Promises.{OneLayout}
use Rattle.model.proofs.Sizes.{flags_idle}
use Rattle.model.proofs.blocks.Blocks.{le_ends}
use Rattle.words.specs.Word.{word_at}
use Rattle.marking.specs.Uses.{Slots, use_kind, Headers}
use Rattle.walking.specs.Onward.{Reads}
use Rattle.marking.proofs.PageLaws.{page_class}
use Rattle.walking.proofs.Walks.{use_size_lem, use_kind_lem}
use Rattle.visiting.proofs.Chained.{same_chains}
use Rattle.sound.proofs.HereFilled.{here_reads, here_chains}

module _ {w : ℕ} (wd : Width w) where
  slots_one : (b : List ℕ) (c p : ℕ) (ss ts : List Slot) → length ss ≡ length ts → Slots w b c p ss → Slots w b c p ts → ss ≡ ts
  unfolding Slots
  slots_one b c p [] [] e h k = refl
  slots_one b c p [] (t ∷ ts) e h k = absurd (omega arith)
  slots_one b c p (s ∷ ss) [] e h k = absurd (omega arith)
  slots_one b c p (idle ∷ ss) (idle ∷ ts) e h k = ap (λ (x : List Slot). idle ∷ x) (slots_one b c (p + item_size (shape w) c) ss ts (omega arith) h.1 k.1)
  slots_one b c p (held n ∷ ss) (held m ∷ ts) e h k =
      ap₂ (λ (x : ℕ) (xs : List Slot). held x ∷ xs) (omega (arith, h.0, k.0)) (slots_one b c (p + item_size (shape w) c) ss ts (omega arith) h.1 k.1)
  slots_one b c p (idle ∷ ss) (held m ∷ ts) e h k = absurd (omega (arith, flags_idle wd (word_at w b p) c h.0, k.0))
  slots_one b c p (held n ∷ ss) (idle ∷ ts) e h k = absurd (omega (arith, flags_idle wd (word_at w b p) c k.0, h.0))

  pages_one : (b : List ℕ) (p c k j : ℕ) (ss ts : List Slot) → AllowedUse (shape w) (page c k ss) → AllowedUse (shape w) (page c j ts) → use_size (shape w) (page c k ss) ≡ use_size (shape w) (page c j ts) → Slots w b c (first_item_at (shape w) p) ss → Slots w b c (first_item_at (shape w) p) ts → page c k ss ≡ page c j ts
  unfolding AllowedUse use_size
  pages_one b p c k j ss ts a b' e h g =
      let n : length ss ≡ length ts = a.1 ∙ sym b'.1 in
      ap₂ (λ (x : ℕ) (y : List Slot). page c x y) (omega (arith, e, ap (λ (x : ℕ). x * item_size (shape w) c) n)) (slots_one b c (first_item_at (shape w) p) ss ts n h g)

  use_one : (b : List ℕ) (p : ℕ) (u v : Use) → AllowedUse (shape w) u → AllowedUse (shape w) v → tag_of (use_size (shape w) u) (use_kind u) ≡ tag_of (use_size (shape w) v) (use_kind v) → Headers w b p u → Headers w b p v → u ≡ v
  unfolding use_kind Headers
  use_one b p (variable s) (variable t) a b' e h k = unfold use_size in ap (λ (x : ℕ). variable x) (omega (arith, e))
  use_one b p (variable s) (page d j ts) a b' e h k = absurd (omega (arith, use_size_lem wd (variable s) a, use_size_lem wd (page d j ts) b'))
  use_one b p (page c i ss) (variable t) a b' e h k = absurd (omega (arith, use_size_lem wd (page c i ss) a, use_size_lem wd (variable t) b'))
  use_one b p (page c i ss) (page d j ts) a b' e h k =
      subst (λ (x : ℕ). AllowedUse (shape w) (page x j ts) → use_size (shape w) (page c i ss) ≡ use_size (shape w) (page x j ts) → Slots w b x (first_item_at (shape w) p) ts → page c i ss ≡ page x j ts)
      (page_class wd b c i p ss a h ∙ sym (page_class wd b d j p ts b' k)) (λ b'' f g. pages_one b p c i j ss ts a b'' f h g) b' (omega (arith, e)) k

  pub blocks_one : (b : List ℕ) (p prev prev' : ℕ) (bs cs : List Block) → Reads w b p prev bs → Reads w b p prev' cs → AllAllowed (shape w) bs → AllAllowed (shape w) cs → ends (shape w) p bs ≡ ends (shape w) p cs → bs ≡ cs
  unfolding Reads AllAllowed Allowed ends size_of
  blocks_one b p q r [] [] h k a d e = refl
  blocks_one b p q r [] (free s ∷ cs) h k a d e = absurd (omega (arith, le_ends (shape w) (p + s) cs, d.0.0))
  blocks_one b p q r [] (used u ∷ cs) h k a d e = absurd (omega (arith, le_ends (shape w) (p + use_size (shape w) u) cs, use_size_lem wd u d.0))
  blocks_one b p q r (free s ∷ bs) [] h k a d e = absurd (omega (arith, le_ends (shape w) (p + s) bs, a.0.0))
  blocks_one b p q r (used u ∷ bs) [] h k a d e = absurd (omega (arith, le_ends (shape w) (p + use_size (shape w) u) bs, use_size_lem wd u a.0))
  blocks_one b p q r (free s ∷ bs) (used u ∷ cs) h k a d e = absurd (omega (arith, h.0.0, k.0.0, a.0.1, use_size_lem wd u d.0, use_kind_lem u))
  blocks_one b p q r (used u ∷ bs) (free s ∷ cs) h k a d e = absurd (omega (arith, h.0.0, k.0.0, d.0.1, use_size_lem wd u a.0, use_kind_lem u))
  blocks_one b p q r (free s ∷ bs) (free t ∷ cs) h k a d e =
      let f : t ≡ s = sym k.0.0 ∙ h.0.0 in
      ap₂ (λ (x : ℕ) (xs : List Block). free x ∷ xs) (sym f) (blocks_one b (p + s) p p bs cs h.1 (rw f at k.1) a.1 d.1 (rw f at e))
  blocks_one b p q r (used u ∷ bs) (used v ∷ cs) h k a d e =
      let f : v ≡ u = use_one b p v u d.0 a.0 (sym k.0.0 ∙ h.0.0) k.0.2 h.0.2 in
      ap₂ (λ (x : Use) (xs : List Block). used x ∷ xs) (sym f) (blocks_one b (p + use_size (shape w) u) q r bs cs h.1 (rw f at k.1) a.1 d.1 (rw f at e))

  heap_layout : (b : List ℕ) (L M : Layout) → Here (shape w) b L → Here (shape w) b M → L ≡ M
  heap_layout b L M h k =
      ap₂ (λ (x : List Block) (y : List (List ℕ)). record { blocks = x; lists = y })
      (blocks_one b (start (shape w)) 0 0 L.blocks M.blocks (here_reads wd b L h) (here_reads wd b M k) h.valid.allowed k.valid.allowed (h.valid.fills ∙ sym k.valid.fills))
      (same_chains wd b (end_of (length b)) 0 L.lists M.lists (here_chains wd b L h) (here_chains wd b M k))

  pub one_layout : OneLayout (shape w)
  one_layout b L M h k = heap_layout (heap_of (shape w) b) L M h.here k.here

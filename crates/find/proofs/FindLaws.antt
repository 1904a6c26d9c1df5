-- What each way through the search for a live address shows.
use Rattle.std.proofs.Common.{ℕ, ◌+◌, ◌-◌, ◌*◌, ◌/◌, ◌%◌, ◌≤◌, ◌<◌, ◌≡◌, refl, sym, ap, subst, ◌∙◌, Bool, List, [], ◌∷◌, ◌++◌, append-nil, div-add-mod', mul-div_cancel, arith, length, get_or, Some, None}
use Rattle.std.proofs.Math.Nat.{mul-mod_left}
use Rattle.std.proofs.Math.Decide.{ℕ_discrete}
use Rattle.words.specs.Width.{Width}
use Rattle.words.specs.Word.{word_at}
use Rattle.model.specs.Shape.{shape, least_free, item_size, offset_of, end_of, start}
use Rattle.model.specs.declared.Position.{Position}
use Rattle.model.specs.Picture.{Shows}
use Rattle.model.specs.Layout.{Slot, variable, page, Block, free, used, Layout, next_of, use_size, slot_words, use_words, own}
use Rattle.model.specs.Sound.{Allowed, AllowedUse, AllAllowed, Here, Sound}
use Rattle.model.specs.Rules.{Spot, Found, block, thing, nothing, find, find_from, in_slots}
use Rattle.model.proofs.Good.{shape_good}
use Rattle.model.proofs.Sizes.{per_page_bound}
use Rattle.model.proofs.pictures.Pictures.{shows_left}
use Rattle.model.proofs.blocks.Blocks.{allowed_left, le_ends}
use Rattle.model.proofs.walks.Standing.{PageThere, sized, is_variable_lem, is_free, is_page}
use Rattle.model.proofs.walks.Passing.{stands as stands_at}
use Rattle.model.specs.Parts.{free_kind, variable_kind, size_in, kind_in, class_in, held_flags, flags_in, asked_in, first_item_at}
use Rattle.model.specs.inner.Walks.{flag, Standing}
use Rattle.model.proofs.walks.Finding.{behinds, slots_below, find_past, find_below, find_at, find_not_at, find_free, find_page}
use Rattle.model.proofs.items.Aligned.{next_aligned, class_read, SlotRead, slot_read, slots_none, laid}
use Rattle.find.specs.declared.Live.TheVariants.{Item, Variable}
use Rattle.find.specs.Find.{Finds, OnBlock, OnPage, behind_at, touches_at, Clear, Nearest}
use Rattle.find.proofs.NearestLaws.{standing, behind_none, touches_free, touches_not, clear_past, gap}

module _ {w : ℕ} (wd : Width w) {b : List ℕ} {L : Layout} (h : Here (shape w) b L) {p prev left : ℕ} (s : Standing w L p prev left) where
  -- what is found is found from where the walk stands
  pub find_from_lem : (a : ℕ) → p ≤ a → find (shape w) a L ≡ behinds s.pre (find_from (shape w) a p s.rest)
  find_from_lem a l =
      let all : AllAllowed (shape w) (s.pre ++ s.rest) = subst (λ (l : List Block). AllAllowed (shape w) l) s.blocks h.valid.allowed in
      let e : find (shape w) a L ≡ find_from (shape w) a (start (shape w)) (s.pre ++ s.rest) = ap (λ (l : List Block). find_from (shape w) a (start (shape w)) l) s.blocks in
      e ∙ find_past (shape w) (shape_good wd) a (start (shape w)) s.pre s.rest (allowed_left (shape w) s.pre s.rest all) (omega (arith, s.begins))
      ∙ ap (λ (q : ℕ). behinds s.pre (find_from (shape w) a q s.rest)) s.begins

-- nothing is live behind the end
pub found_behind : {w : ℕ} → Width w → (b : List ℕ) (L : Layout) (a : ℕ) → Here (shape w) b L → end_of (length b) ≤ a → Finds w L a None
unfolding Finds find_from
found_behind {w} wd b L a h l =
    let e : find (shape w) a L ≡ find_from (shape w) a (start (shape w)) (L.blocks ++ []) = ap (λ (l : List Block). find_from (shape w) a (start (shape w)) l) (sym (append-nil L.blocks)) in
    e ∙ find_past (shape w) (shape_good wd) a (start (shape w)) L.blocks [] h.valid.allowed (omega (arith, h.valid.fills))

module _ {w : ℕ} {b : List ℕ} {p t prev : ℕ} {touching : Bool} {a : ℕ} (o : OnBlock w b p t prev touching a) (L : Layout) (h : Here (shape w) b L) where
  stands : Standing w L p prev (flag touching)
  stands = o.standing L h

  found_rest : (r : List Block) → stands.rest ≡ r → find (shape w) a L ≡ behinds stands.pre (find_from (shape w) a p r)
  found_rest r e = find_from_lem o.width h stands a o.from ∙ ap (λ (l : List Block). behinds stands.pre (find_from (shape w) a p l)) e

  pub found_in_free : kind_in t ≡ free_kind → Finds w L a None
  unfolding Finds
  found_in_free z =
      let r = is_free o.width (laid o.width h) stands t o.tag (omega (arith, o.from, o.below)) z in
      found_rest (free (t / 8 * 8) ∷ r.0) r.1 ∙ ap (λ (f : Found). behinds stands.pre f) (find_free (shape w) (shape_good o.width) a p (t / 8 * 8) r.0 o.reach)

  pub found_elsewhere : kind_in t ≡ variable_kind → (a ≡ p + w → ⊥) → Finds w L a None
  unfolding Finds
  found_elsewhere z n =
      let r = is_variable_lem o.width (laid o.width h) stands t o.tag (omega (arith, o.from, o.below)) z in
      found_rest (used (variable (t / 8 * 8)) ∷ r.0) r.1
      ∙ ap (λ (f : Found). behinds stands.pre f) (find_not_at (shape w) (shape_good o.width) a p (t / 8 * 8) r.0 n o.reach)

  pub found_variable : (at before : Position) (size : ℕ) → at.0 ≡ p → before.0 ≡ prev → size ≡ size_in t → kind_in t ≡ variable_kind → a ≡ p + w
      → Finds w L a (Some (Variable (record { at = at; size = size; prev = before; touching = touching })))
  unfolding Finds
  found_variable at before size ea eb es z e =
      let r = is_variable_lem o.width (laid o.width h) stands t o.tag (omega (arith, o.from, o.below)) z in
      let spot : Spot = record { pre = stands.pre; size = t / 8 * 8; post = r.0 } in (
        spot,
        record {
          found = found_rest (used (variable (t / 8 * 8)) ∷ r.0) r.1
              ∙ ap (λ (f : Found). behinds stands.pre f) (find_at (shape w) (shape_good o.width) a p (t / 8 * 8) r.0 e)
              ∙ ap (λ (l : List Block). block (record { pre = l; size = t / 8 * 8; post = r.0 })) (append-nil stands.pre);
          at = stands.begins ∙ sym ea;
          size = sym es;
          before = stands.before ∙ sym eb;
          touches = stands.touches;
        },
      )

module _ {w : ℕ} {b : List ℕ} {p a : ℕ} (o : OnPage w b p a) (L : Layout) (h : Here (shape w) b L) where
  on : OnBlock w b p o.tag o.prev o.touching a
  on = o.block

  there : PageThere on.width (laid on.width h) (stands on L h) o.tag on.tag (omega (arith, on.from, on.below))
  there = is_page on.width (laid on.width h) (stands on L h) o.tag on.tag (omega (arith, on.from, on.below)) o.not_free o.not_variable

  class : ℕ
  class = there.class

  class_few : class < 4 * w
  unfolding class Allowed AllowedUse
  class_few = there.met.allowed.0

  counted : length there.slots ≡ (shape w).per_page class
  unfolding class Allowed AllowedUse
  counted = there.met.allowed.1

  slots_shown : Shows w b (slot_words (shape w) class (get_or L.lists class []) (p + w) there.slots)
  unfolding class own use_words Shows
  slots_shown =
      shows_left w b (slot_words (shape w) there.class (get_or L.lists there.class []) (p + w) there.slots)
      (record { at = p + use_size (shape w) (page there.class there.spare there.slots) - w; is = use_size (shape w) (page there.class there.spare there.slots) + 3 } ∷ [])
      there.met.shown.1

  aligned : (x : ℕ) → next_of x (get_or L.lists class []) % w ≡ 0
  aligned x = next_aligned on.width (end_of (length b)) L h.valid class x class_few

  -- the class that the first header says is the page's
  class_is : (c : ℕ) → c ≡ word_at w b (p + w) % (16 * w) / 4 → c ≡ class
  class_is c e = go there.slots counted slots_shown
    where
      go : (ss : List Slot) → length ss ≡ (shape w).per_page class → Shows w b (slot_words (shape w) class (get_or L.lists class []) (p + w) ss) → c ≡ class
      go [] n s = absurd (omega (arith, per_page_bound on.width class))
      go (x ∷ ss) n s = e ∙ class_read on.width b (get_or L.lists class []) class class_few aligned (p + w) x ss s

  in_slots_lem : (f : Found) → in_slots (shape w) a class (p + w) there.slots ≡ f → find (shape w) a L ≡ behinds (stands on L h).pre f
  unfolding class
  in_slots_lem f e =
      found_rest on L h (used (page there.class there.spare there.slots) ∷ there.after) there.rest
      ∙ ap (λ (g : Found). behinds (stands on L h).pre g)
      (find_page (shape w) (shape_good on.width) a p there.class there.spare there.slots there.after (omega (arith, on.reach, there.size)) ∙ e)

  pub page_low : a < p + 2 * w → Finds w L a None
  unfolding Finds
  page_low l = in_slots_lem nothing (slots_below (shape w) (shape_good on.width) a class (p + w) there.slots (omega arith))

  -- f is the first header, c the class that it says, s the items' size and n their number, as code works them out
  module _ (f c s n d : ℕ) (ef : f ≡ word_at w b (first_item_at (shape w) p)) (ec : c ≡ class_in (shape w) f) (es : s ≡ item_size (shape w) c) (en : n ≡ (shape w).per_page c) (from : p + 2 * w ≤ a) (ed : d ≡ a - (p + 2 * w)) where
    class_same : c ≡ class
    class_same = class_is c (ec ∙ ap (λ (x : ℕ). x % (16 * w) / 4) ef)

    size_same : s ≡ item_size (shape w) class
    size_same = es ∙ ap (λ (x : ℕ). item_size (shape w) x) class_same

    count_same : n ≡ length there.slots
    count_same = en ∙ ap (λ (x : ℕ). (shape w).per_page x) class_same ∙ sym counted

    -- an address that is an item's is a whole number of items on
    whole : (i : ℕ) → a ≡ p + w + i * item_size (shape w) class + w → i * s ≡ d
    whole i e = rw (size_same, ed) (omega arith)

    pub page_uneven : (d % s ≡ 0 → ⊥) → Finds w L a None
    unfolding Finds
    page_uneven z =
        in_slots_lem nothing (slots_none on.width a class (p + w) there.slots (λ i l e. z (ap (λ (x : ℕ). x % s) (sym (whole i e)) ∙ mul-mod_left i s)))

    pub page_over : n ≤ d / s → Finds w L a None
    unfolding Finds
    page_over z = in_slots_lem nothing (slots_none on.width a class (p + w) there.slots (λ i l e. omega (arith, count_same, quotient i e)))
      where
        quotient : (i : ℕ) → a ≡ p + w + i * item_size (shape w) class + w → d / s ≡ i
        quotient i e = ap (λ (x : ℕ). x / s) (sym (whole i e)) ∙ mul-div_cancel i (omega (arith, size_same))

    module _ (even : d % s ≡ 0) (within : d / s < n) (x : ℕ) (q : Position) (eq : q.0 ≡ a - w) (eq-x : x ≡ word_at w b q.0) where
      ew : x ≡ word_at w b (a - w)
      ew = eq-x ∙ ap (λ (y : ℕ). word_at w b y) eq

      read : SlotRead on.width b (get_or L.lists class []) class class_few aligned a (p + w) there.slots
      read =
          let e : d / s * s ≡ d = omega (arith, div-add-mod' d s) in
          let g : d / s * item_size (shape w) class ≡ d = ap (λ (x : ℕ). d / s * x) (sym size_same) ∙ e in
          slot_read on.width b (get_or L.lists class []) class class_few aligned a (p + w) (d / s) there.slots (omega (arith, count_same)) (omega (arith, g, ed)) slots_shown

      pub page_idle : (flags_in x ≡ held_flags → ⊥) → Finds w L a None
      unfolding Finds
      page_idle z = in_slots_lem nothing (read.not_in_use (λ e. z (ap flags_in ew ∙ e)))

      pub page_held : flags_in x ≡ held_flags → (n : ℕ) → n ≡ asked_in x → Finds w L a (Some (Item q c n))
      unfolding Finds
      page_held z n en =
          (omega (arith, start_low, eq), in_slots_lem (thing (offset_of (shape w) (a - w)) class (asked_in (word_at w b (a - w)))) (read.in_use (ap flags_in (sym ew) ∙ z)) ∙ rw (eq, class_same, en, ew) refl)
        where
          start_low : (start (shape w)) ≤ p
          start_low = omega (arith, (stands on L h).begins, le_ends (shape w) (start (shape w)) (stands on L h).pre)

-- nothing is live before the data area
pub found_before : {w : ℕ} → Width w → (L : Layout) (a : ℕ) → a < (start (shape w)) → Finds w L a None
unfolding Finds
found_before {w} wd L a l = find_below (shape w) (shape_good wd) a (start (shape w)) L.blocks (omega arith)

-- nor in a free block
pub found_gap : {w : ℕ} (wd : Width w) {b : List ℕ} (L : Layout) (h : Here (shape w) b L) (a prev begin : ℕ) → Nearest w b L a prev → begin ≡ behind_at w b prev → start (shape w) ≤ a → a < begin → Finds w L a None
unfolding Finds
found_gap {w} wd {b} L h a prev begin n e l m = go (ℕ_discrete prev 0)
  where
    go : Dec (prev ≡ 0) → Finds w L a None
    go (yes z) = absurd (omega (arith, e, behind_none w b prev z))
    go (no z) =
        let g = gap (rw (touches_free prev (behind_at w b prev) z) at n.clear.between) in
        find_from_lem wd h (stands_at g.passed) a n.low ∙ ap (λ (f : Found). behinds g.pre f) (find_free (shape w) (shape_good wd) a prev g.size g.rest (omega (arith, g.reach)))

-- the walk towards a stands at p; it came from `begin`, behind the last free block below a, which is at prev
pub record Looking (w : ℕ) (b : List ℕ) (a prev begin p : ℕ) : Type 0 where
  pub width : Width w
  pub sound : Sound (shape w) b
  pub clear : (L : Layout) → Here (shape w) b L → Clear w L a p prev (touches_at prev begin p)
  pub behind : begin ≤ p
  pub from : p ≤ a
  pub below : a < end_of (length b)

pub look_start : {w : ℕ} → Width w → (b : List ℕ) (a prev begin : ℕ) → Sound (shape w) b → ((L : Layout) → Here (shape w) b L → Nearest w b L a prev) → begin ≡ behind_at w b prev → begin ≤ a → a < end_of (length b) → Looking w b a prev begin begin
look_start {w} wd b a prev begin s n e l m =
    record { width = wd; sound = s; clear = λ L h. rw e (n L h).clear; behind = omega arith; from = l; below = m }

module _ {w : ℕ} {b : List ℕ} {a prev begin p : ℕ} (k : Looking w b a prev begin p) where
  stands_here : (L : Layout) → Here (shape w) b L → Standing w L p prev (flag (touches_at prev begin p))
  stands_here L h = standing (k.clear L h).between

  -- the block at p is within the heap
  pub look_inside : (t : ℕ) → t ≡ word_at w b p → (least_free (shape w) ≤ size_in t) × (p + size_in t ≤ end_of (length b))
  look_inside t e =
      let z = sized k.width (laid k.width k.sound.here) (stands_here k.sound.layout k.sound.here) t e (omega (arith, k.from, k.below)) in
      (z.least, z.inside)

  pub look_on : (t : ℕ) → t ≡ word_at w b p → (touching : Bool) → touching ≡ touches_at prev begin p → a < p + size_in t → OnBlock w b p t prev touching a
  look_on t e touching f r = record { width = k.width; sound = k.sound; standing = λ L h. rw f (stands_here L h); tag = e; from = k.from; reach = r; below = k.below }

  pub look_past : (t s : ℕ) → t ≡ word_at w b p → s ≡ size_in t → p + s ≤ a → Looking w b a prev begin (p + s)
  look_past t s e es r =
      let n = look_inside t e in
      record {
        width = k.width;
        sound = k.sound;
        clear = λ L h. rw (touches_not prev begin (p + s) (omega (arith, k.behind, n.0, k.width, es)), es) (clear_past k.width h (k.clear L h) t e (omega (arith, n.0, k.width)) k.below (omega arith));
        behind = omega (arith, k.behind);
        from = r;
        below = k.below;
      }

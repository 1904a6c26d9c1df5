-- Laws of a walk over the blocks: what the tests at a tag tell of a run, and a run made longer by the block before it.
use Rattle.std.proofs.Common.{◌≡◌, ℕ, ◌+◌, ◌-◌, ◌*◌, ◌%◌, ◌^◌, ◌≤◌, ◌<◌, Bool, true, false, List, [], ◌∷◌, length, eqb, Option, Some, None, refl, sym, ap, subst, ◌∙◌, arith, eq-eqb, ne_eqb}
use Rattle.std.proofs.Math.Decide.{ℕ_discrete}
use Rattle.std.proofs.lemmas.Option.{none-some, same_Some}
use Rattle.words.specs.Width.{Width}
use Rattle.words.specs.Word.{word_at}
use Rattle.model.specs.Shape.{shape, start, least_free, least_variable}
use Rattle.model.specs.Parts.{free_kind, variable_kind, page_kind, size_in, kind_in, tag_of, far_tag_at, next_at, previous_at}
use Rattle.model.specs.Layout.{Use, variable, page, Block, free, used, use_size, size_of, ends, first_free}
use Rattle.model.specs.Sound.{Allowed, AllowedUse, AllAllowed, Apart}
use Rattle.model.specs.inner.Walks.{flag}
use Rattle.model.specs.inner.Links.{link_of}
use Rattle.model.proofs.blocks.Blocks.{le_ends}
use Rattle.model.proofs.walks.Standing.{sizes}
use Rattle.marking.specs.Uses.{use_kind, UseAt, free_in}
use Rattle.walking.specs.Onward.{Reads, Onward, Whole, free_items}
use Rattle.marking.specs.Maps.{map_end}
use Rattle.telling.specs.Told.{SizeIf}
use Rattle.marking.specs.Told.{Marking, UseMarked}
use Rattle.walking.specs.Told.{BlocksMarked, WholeMarked, WalkRoom, WalkRoomAt, Stood, StoodAt, Paused, Halted, HaltsIn, PassTold, WalkTold, end_from}
use Rattle.telling.specs.Neighbours.{touches, expected}
use Rattle.walking.specs.declared.Stand.{Stand}
use Rattle.walking.specs.declared.Reached.{Reached}
use Rattle.walking.specs.declared.Reached.TheVariants.{Beyond, On}
use Rattle.marking.proofs.PageLaws.{other_in, variable_in}
use Rattle.marking.proofs.MapLaws.{adds_none, adds_append, marking_on}

pub use_size_lem : {w : ℕ} → Width w → (u : Use) → AllowedUse (shape w) u → (least_free (shape w) ≤ use_size (shape w) u) × (use_size (shape w) u % 8 ≡ 0)
unfolding Allowed size_of
use_size_lem wd u a = sizes wd (used u) a

-- what touches, as a number
flag_most : (t : Bool) → flag t ≤ 1
flag_most true = omega arith
flag_most false = omega arith

flag_none : (t : Bool) → flag t + 1 ≤ 1 → t ≡ false
flag_none true h = absurd (omega arith)
flag_none false h = refl

pub use_kind_lem : (u : Use) → (2 ≤ use_kind u) × (use_kind u ≤ 3)
unfolding use_kind
use_kind_lem (variable s) = omega arith
use_kind_lem (page c k ss) = omega arith

module _ {w : ℕ} (wd : Width w) {b : List ℕ} {end p prev : ℕ} {touching : Bool} {link : ℕ} where
  -- at the end
  pub stop_in : p ≡ end → Onward w b end p prev touching link → link ≡ 0
  unfolding first_free ends AllAllowed Allowed size_of
  stop_in e r = go r.rest r.fills r.allowed r.links
    where
      go : (bs : List Block) → ends (shape w) p bs ≡ end → AllAllowed (shape w) bs → first_free (shape w) p bs 0 ≡ link → link ≡ 0
      go [] f a l = sym l
      go (free s ∷ bs) f a l = absurd (omega (arith, le_ends (shape w) (p + s) bs, a.0.0))
      go (used u ∷ bs) f a l = absurd (omega (arith, le_ends (shape w) (p + use_size (shape w) u) bs, use_size_lem wd u a.0))

  pub stop_out : (m : List ℕ) → p ≡ end → link ≡ 0 → BlocksMarked w b end p prev touching link m m
  unfolding Reads ends AllAllowed Apart first_free free_items
  stop_out m e l = record { onward = record { rest = []; reads = tt; fills = e; allowed = tt; apart = tt; links = sym l }; adds = adds_none wd m }

-- what the tests at p find, where t is the tag there and s the size that it says
pub record BlockPassed (w : ℕ) (b : List ℕ) (end p prev : ℕ) (touching : Bool) (link t s : ℕ) : Type 0 where
  pub big : least_free (shape w) ≤ s
  pub inside : p + s ≤ end
  pub tag : word_at w b (far_tag_at (shape w) p s) ≡ t
  pub when_free : kind_in t ≡ free_kind → (touching ≡ false) × (link ≡ p) × (word_at w b (previous_at (shape w) p s) ≡ prev) × Onward w b end (p + s) p true (word_at w b (next_at (shape w) p))
  pub when_used : (kind_in t ≡ free_kind → ⊥) → UseAt w b p s (kind_in t) × Onward w b end (p + s) prev false link

module _ {w : ℕ} (wd : Width w) {b : List ℕ} {end p prev : ℕ} {touching : Bool} {link : ℕ} (t s : ℕ) (et : t ≡ word_at w b p) (es : s ≡ size_in t) where
  pub passed : p < end → Onward w b end p prev touching link → BlockPassed w b end p prev touching link t s
  unfolding first_free ends AllAllowed Allowed size_of Reads Apart
  passed q r = go r.rest r.reads r.fills r.allowed r.apart r.links
    where
      go : (bs : List Block) → Reads w b p prev bs → ends (shape w) p bs ≡ end → AllAllowed (shape w) bs → Apart (flag touching) bs → first_free (shape w) p bs 0 ≡ link → BlockPassed w b end p prev touching link t s
      go [] h f a n l = absurd (omega arith)
      go (free x ∷ bs) h f a n l =
          let e : s ≡ x = omega (arith, h.0.0, a.0.1) in
          rw e (record {
            big = a.0.0;
            inside = omega (arith, le_ends (shape w) (p + x) bs);
            tag = h.0.3 ∙ sym (et ∙ h.0.0);
            when_free = λ _. (flag_none touching n.0, sym l, h.0.2, record { rest = bs; reads = h.1; fills = f; allowed = a.1; apart = n.1; links = sym h.0.1 });
            when_used = λ z. absurd (z (omega (arith, h.0.0, a.0.1)));
          })
      go (used u ∷ bs) h f a n l =
          let z = use_size_lem wd u a.0 in
          let y = use_kind_lem u in
          let walk : t ≡ tag_of (use_size (shape w) u) (use_kind u) = et ∙ h.0.0 in
          let e : s ≡ use_size (shape w) u = omega (arith, z, y) in
          let k : kind_in t ≡ use_kind u = omega (arith, z, y) in
          rw e (record {
            big = (use_size_lem wd u a.0).0;
            inside = omega (arith, le_ends (shape w) (p + use_size (shape w) u) bs);
            tag = h.0.1 ∙ sym walk;
            when_free = λ z. absurd (omega (arith, y));
            when_used = λ _. (record { use_is = u; allowed = a.0; size = refl; kind_is = sym k; headers = h.0.2 }, record { rest = bs; reads = h.1; fills = f; allowed = a.1; apart = n.1; links = l });
          })

  pub free_back : {m m' : List ℕ} → kind_in t ≡ free_kind → least_free (shape w) ≤ s → word_at w b (far_tag_at (shape w) p s) ≡ t → touching ≡ false → link ≡ p → word_at w b (previous_at (shape w) p s) ≡ prev → BlocksMarked w b end (p + s) p true (word_at w b (next_at (shape w) p)) m m' → BlocksMarked w b end p prev touching link m m'
  unfolding first_free ends AllAllowed Allowed size_of Reads Apart free_items
  free_back a big tag alone linked back walk =
      let r = walk.onward in
      record {
        onward = record {
          rest = free s ∷ r.rest;
          reads = ((omega arith, sym r.links, back, tag ∙ omega arith), r.reads);
          fills = r.fills;
          allowed = ((big, omega arith), r.allowed);
          apart = (rw alone (omega arith), r.apart);
          links = sym linked;
        };
        adds = walk.adds;
      }

  pub used_back : {m m₁ m' : List ℕ} → word_at w b (far_tag_at (shape w) p s) ≡ t → UseMarked w b p s (kind_in t) m m₁ → BlocksMarked w b end (p + s) prev false link m₁ m' → BlocksMarked w b end p prev touching link m m'
  unfolding first_free ends AllAllowed Allowed size_of Reads Apart free_items
  used_back tag u walk =
      let r = walk.onward in
      let a = u.use_at_lem in
      record {
        onward = record {
          rest = used a.use_is ∷ r.rest;
          reads = rw (a.size, a.kind_is) ((omega arith, tag ∙ omega arith, a.headers), r.reads);
          fills = rw a.size r.fills;
          allowed = (a.allowed, r.allowed);
          apart = (omega (arith, flag_most touching), r.apart);
          links = rw a.size r.links;
        };
        adds = rw a.size (adds_append wd (free_in w p a.use_is) (free_items w (p + s) r.rest) u.adds walk.adds);
      }

-- the tag of a block is the tag right before the next
touches_is : (w : ℕ) (b : List ℕ) (p s t : ℕ) → word_at w b (far_tag_at (shape w) p s) ≡ t → touches w b (p + s) ≡ eqb (kind_in t) free_kind
touches_is w b p s t e = ap (λ (x : ℕ). eqb (kind_in x) free_kind) e

-- the size that a tag says: of this kind where it is within what is left, and beyond that where it is not
pub size_near : {t kind k left : ℕ} → SizeIf t kind k → k ≤ left → left < 2 ^ 61 → (kind_in t ≡ kind) × (8 * k ≡ size_in t)
size_near {t} {kind} {k} i h l = go (ℕ_discrete (kind_in t) kind)
  where
    go : Dec (kind_in t ≡ kind) → (kind_in t ≡ kind) × (8 * k ≡ size_in t)
    go (yes e) = (e, i.near e)
    go (no e) = absurd (omega (arith, i.far e))

pub size_beyond : {t kind k left : ℕ} → SizeIf t kind k → left < k → kind_in t ≡ kind → 8 * left < size_in t
size_beyond i h e = omega (arith, i.near e)

-- what a block that a walk passes has, in eights of bytes
module _ {w : ℕ} {b : List ℕ} {end p prev t : ℕ} {touching : Bool} {link : ℕ} (y : BlockPassed w b end p prev touching link t (size_in t)) (k : ℕ) (ek : 8 * k ≡ size_in t) where
  pub passed_tag : word_at w b (far_tag_at (shape w) p (8 * k)) ≡ t
  passed_tag = rw ek y.tag

  pub passed_variable : kind_in t ≡ variable_kind → least_variable (shape w) ≤ 8 * k
  passed_variable e = rw ek (variable_in b p (size_in t) (rw e at (y.when_used (λ a. omega (arith, e, a))).0))

  pub passed_free : kind_in t ≡ free_kind → (least_free (shape w) ≤ 8 * k) × (link ≡ p) × (touching ≡ false) × (word_at w b (previous_at (shape w) p (8 * k)) ≡ prev)
  passed_free e = let z = y.when_free e in rw ek (y.big, z.1, z.0, z.2)

-- the word that names the free block behind the one at prev
pub link_room : {w : ℕ} → Width w → (prev n : ℕ) → start (shape w) ≤ n → prev + 2 * w ≤ n → link_of (shape w) prev + w ≤ n
link_room {w} wd prev n h k = go (ℕ_discrete prev 0)
  where
    go : Dec (prev ≡ 0) → link_of (shape w) prev + w ≤ n
    go (yes e) = rw (eq-eqb prev 0 e) (omega arith)
    go (no e) = rw (ne_eqb prev 0 e) (omega arith)

-- the answers of a walk are different, and say where it stands
on_beyond : {s x : Stand} → On s ≡ Beyond x → ⊥
on_beyond {s} {x} e = let z : ◌≡◌ {A = ℕ} 0 1 = cc in omega arith

beyond_same : {s x : Stand} → Beyond s ≡ Beyond x → s ≡ x
beyond_same e = cc

on_same : {s x : Stand} → On s ≡ On x → s ≡ x
on_same e = cc

-- answers of a walk
module _ {w : ℕ} {b : List ℕ} {end : ℕ} {P : Stand → Type 0} {m : List ℕ} where
  pub walk_wrong : (Whole w b end → ⊥) → WalkTold w b end P None m
  walk_wrong f = record { is_no = λ _. f; is_beyond = λ s y. absurd (none-some _ y); is_on = λ s y. absurd (none-some _ y) }

  pub walk_beyond : (s : Stand) → Halted w b end s m → map_end w (length m) < end → WalkTold w b end P (Some (Beyond s)) m
  walk_beyond s v l = record { is_no = λ y. absurd (none-some _ (sym y)); is_beyond = λ x y. subst (λ (z : Stand). Halted w b end z m × (map_end w (length m) < end)) (beyond_same (same_Some _ _ y)) (v, l); is_on = λ x y. absurd (on_beyond (sym (same_Some _ _ y))) }

  pub walk_on : (s : Stand) → StoodAt w b end s m → P s → WalkTold w b end P (Some (On s)) m
  walk_on s v l = record { is_no = λ y. absurd (none-some _ (sym y)); is_beyond = λ x y. absurd (on_beyond (same_Some _ _ y)); is_on = λ x y. subst (λ (z : Stand). StoodAt w b end z m × P z) (on_same (same_Some _ _ y)) (v, l) }

  pub pass_wrong : (Whole w b end → ⊥) → PassTold w b end P None m
  pass_wrong f = record { is_no = λ _. f; is_to = λ s y. absurd (none-some _ y) }

  pub pass_to : (s : Stand) → StoodAt w b end s m → P s → PassTold w b end P (Some s) m
  pass_to s v l = record { is_no = λ y. absurd (none-some _ (sym y)); is_to = λ x y. subst (λ (z : Stand). StoodAt w b end z m × P z) (same_Some _ _ y) (v, l) }

-- a place by its parts
abbrev pub Parts : Stand → ℕ → ℕ → ℕ → ℕ → ℕ → Type 0
Parts s p left prev link n = (s.at.0 ≡ p) × (s.left ≡ left) × (s.prev.0 ≡ prev) × (s.link.0 ≡ link) × (s.marks ≡ n)

pub stood_at : {w : ℕ} {b m : List ℕ} {end p left prev link n : ℕ} (s : Stand) → Parts s p left prev link n → Stood w b end p left prev link n m → StoodAt w b end s m
stood_at s e v = rw (e.0, e.1, e.2, e.3, e.4) v

-- what a walk may read stays so, past a block
module _ {w : ℕ} {b : List ℕ} {end p left prev link : ℕ} (v : WalkRoom w b end p left prev link) (k : ℕ) (within : k ≤ left) where
  pub room_used : WalkRoom w b end (p + 8 * k) (left - k) prev link
  room_used = record { sizes = v.sizes; low = omega (arith, v.low); stops = omega (arith, v.stops); eight = omega (arith, v.eight); before = omega (arith, v.before); linked = v.linked }

  pub room_free : least_free (shape w) ≤ 8 * k → WalkRoom w b end (p + 8 * k) (left - k) p (next_at (shape w) p)
  room_free big = record { sizes = v.sizes; low = omega (arith, v.low); stops = omega (arith, v.stops); eight = omega (arith, v.eight); before = omega arith; linked = sym (rw (ne_eqb p 0 (λ z. omega (arith, v.low))) refl) }

module _ {w : ℕ} {b m : List ℕ} {end p left prev link n : ℕ} (v : Stood w b end p left prev link n m) where
  wd : Width w
  wd = v.room.sizes.width

  named : {x : ℕ} → x ≡ word_at w b link → x ≡ expected w b prev
  named e = e ∙ ap (λ (q : ℕ). word_at w b q) v.room.linked

  -- at the end
  pub stood_end : left ≡ 0 → word_at w b link ≡ 0 → WholeMarked w b end [] m
  stood_end h e = v.back m (stop_out wd m (omega (arith, v.room.stops)) (sym (named (sym e))))

  pub stood_open : left ≡ 0 → (word_at w b link ≡ 0 → ⊥) → Whole w b end → ⊥
  stood_open h e r = e (named refl ∙ stop_in wd (omega (arith, v.room.stops)) (v.ahead r))

  module _ (h : 0 < left) (t : ℕ) (et : t ≡ word_at w b p) where
    here : Whole w b end → BlockPassed w b end p prev (touches w b p) (expected w b prev) t (size_in t)
    here r = passed wd t (size_in t) et refl (omega (arith, v.room.stops)) (v.ahead r)

    -- a test that failed
    pub stood_no : (BlockPassed w b end p prev (touches w b p) (expected w b prev) t (size_in t) → ⊥) → Whole w b end → ⊥
    stood_no f r = f (here r)

    -- a tag that says no page within what is left, where the walk has halted
    pub stood_out : Paused w b p left → (kind_in t ≡ page_kind → 8 * left < size_in t) → Whole w b end → ⊥
    stood_out q f = stood_no (λ y. go y (ℕ_discrete (kind_in t) free_kind) (ℕ_discrete (kind_in t) variable_kind) (ℕ_discrete (kind_in t) page_kind))
      where
        go : BlockPassed w b end p prev (touches w b p) (expected w b prev) t (size_in t) → Dec (kind_in t ≡ free_kind) → Dec (kind_in t ≡ variable_kind) → Dec (kind_in t ≡ page_kind) → ⊥
        go y (yes e) d c = omega (arith, y.inside, v.room.stops, rw (← et) at (q.free (rw et at e)))
        go y (no n) (yes e) c = omega (arith, y.inside, v.room.stops, rw (← et) at (q.variable (rw et at e)))
        go y (no n) (no d) (yes e) = omega (arith, y.inside, v.room.stops, f e)
        go y (no n) (no d) (no c) = other_in b p (size_in t) (kind_in t) d c (y.when_used n).0

    module _ (k : ℕ) (ek : 8 * k ≡ size_in t) (within : k ≤ left) (tag : word_at w b (far_tag_at (shape w) p (8 * k)) ≡ t) where
      pub stood_free : kind_in t ≡ free_kind → least_free (shape w) ≤ 8 * k → word_at w b link ≡ p → touches w b p ≡ false → word_at w b (previous_at (shape w) p (8 * k)) ≡ prev → Stood w b end (p + 8 * k) (left - k) p (next_at (shape w) p) n m
      stood_free a big linked alone prior =
          let f : touches w b (p + 8 * k) ≡ true = touches_is w b p (8 * k) t tag ∙ eq-eqb (kind_in t) free_kind a in
          let g : link_of (shape w) p ≡ next_at (shape w) p = rw (ne_eqb p 0 (λ z. omega (arith, v.room.low))) refl in
          record {
            room = room_free v.room k within big;
            ahead = λ r. rw (f, g, ek) ((here r).when_free a).3;
            back = λ m' walk. v.back m' (free_back wd t (8 * k) et ek a big tag alone (sym (named (sym linked))) prior (rw (f, g) at walk));
            marking = marking_on (omega arith) v.marking;
          }

      -- a block in use of this kind, whose items are marked
      pub stood_used : (kind : ℕ) → kind_in t ≡ kind → (kind ≡ free_kind → ⊥) → (m₁ : List ℕ) (r : ℕ) → UseMarked w b p (8 * k) kind m m₁ → Marking w m₁ r (p + 8 * k) → Stood w b end (p + 8 * k) (left - k) prev link r m₁
      stood_used kind e in_use m₁ r u z =
          let f : touches w b (p + 8 * k) ≡ false = touches_is w b p (8 * k) t tag ∙ ne_eqb (kind_in t) free_kind (λ y. in_use (sym e ∙ y)) in
          record {
            room = room_used v.room k within;
            ahead = λ y. rw (f, ek) ((here y).when_used (λ a. in_use (sym e ∙ a))).1;
            back = λ m' walk. v.back m' (used_back wd t (8 * k) et ek tag (rw e u) (rw f at walk));
            marking = z;
          }

    -- a block in use of this kind that is none
    pub stood_wrong : (k kind : ℕ) → 8 * k ≡ size_in t → kind_in t ≡ kind → (kind ≡ free_kind → ⊥) → (UseAt w b p (8 * k) kind → ⊥) → Whole w b end → ⊥
    stood_wrong k kind ek e in_use f = stood_no (λ y. f (rw (ek, ← e) (y.when_used (λ a. in_use (sym e ∙ a))).0))

-- a walk from one place to another, over blocks without items: whatever the map
pub record Passing (w : ℕ) (b : List ℕ) (end : ℕ) (from s : Stand) : Type 0 where
  pub room : WalkRoomAt w b end s
  pub less : s.left ≤ from.left
  pub onto : (m : List ℕ) → StoodAt w b end from m → StoodAt w b end s m

-- a walk that has halted at s, with a map as long as at first
pub record Halts (w : ℕ) (b : List ℕ) (end : ℕ) (m₀ m : List ℕ) (s : Stand) : Type 0 where
  pub halted : Halted w b end s m
  pub size : length m ≡ length m₀

-- where a walk that has halted ends is where it ends from every place that it comes to: what the passes from there tell
pub paged : {w : ℕ} {b m₀ m m' : List ℕ} {end : ℕ} {s : Stand} {P : Stand → Type 0} {r : Option Reached} → Halts w b end m₀ m s → WalkTold w b (end_from s) P r m' → WalkTold w b end P r m'
paged v t = rw v.halted.stood.room.stops at t

pub passed_on : {w : ℕ} {b m : List ℕ} {end : ℕ} {s : Stand} {r : Option Stand} → StoodAt w b end s m → ((m : List ℕ) → StoodAt w b (end_from s) s m → PassTold w b (end_from s) (HaltsIn w b s.left) r m) → PassTold w b end (HaltsIn w b s.left) r m
passed_on {w} {b} {m} v t = rw v.room.stops at (t m (rw v.room.stops v))

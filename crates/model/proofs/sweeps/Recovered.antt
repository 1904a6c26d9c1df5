-- Pages with no live item are given back, one after the other: what that leaves, and what it changes.
use Rattle.std.proofs.Common.{ℕ, zero, suc, ◌+◌, ◌≤◌, ◌≡◌, refl, sym, ap, subst, ◌∙◌, cond, List, [], ◌∷◌, ◌++◌, arith, eqb, eq-eqb}
use Rattle.std.proofs.Math.Option.{some}
use Rattle.words.specs.Width.{Width}
use Rattle.model.specs.Shape.{Shape, shape, start, item_size}
use Rattle.model.specs.Parts.{first_item_at}
use Rattle.model.specs.Layout.{Slot, idle, held, Use, page, Block, free, used, Layout, size_of, ends}
use Rattle.model.specs.Sound.{times, AllAllowed, idle_items}
use Rattle.model.specs.Rules.{Spot, released}
use Rattle.model.specs.Live.{Payload, slots_live, use_live, live_from, live}
use Rattle.model.specs.Reading.{total, held_in, of_block, of_page, counted}
use Rattle.model.specs.Sweeping.{empties, empty_page, page_freed}
use Rattle.model.specs.inner.Laid.{Tiled}
use Rattle.model.proofs.blocks.Blocks.{allowed_right}
use Rattle.model.proofs.blocks.Releasing.{freed_use_tiled, freed_use_idle}
use Rattle.model.proofs.lives.Lives.{live_append}
use Rattle.model.proofs.walks.Standing.{sizes}
use Rattle.model.proofs.walks.Totals.{total_append}
use Rattle.model.proofs.rules.OnLayouts.{recovered}
use Rattle.model.proofs.sweeps.EmptyPage.{EmptyAt, empty_some, some_empty}
use Rattle.model.proofs.blocks.Joined.{released_total, released_live}

-- M is L with k of its pages without a live item given back: nothing else is changed
pub record Given (S : Shape) (end k : ℕ) (L M : Layout) : Type 0 where
  pub tiled : Tiled S end M
  pub lists : M.lists ≡ L.lists
  pub live : live S M ≡ live S L
  pub empties : empties M.blocks + k ≡ empties L.blocks
  pub pages : (counted M.blocks).pages + k ≡ (counted L.blocks).pages
  pub idles : (c o : ℕ) → times o (idle_items S c (start S) M.blocks) ≤ times o (idle_items S c (start S) L.blocks)

module _ (S : Shape) where
  -- nothing is live in a page with no live item
  slots_none : (c p : ℕ) (ss : List Slot) → held_in ss ≡ 0 → slots_live S c p ss ≡ []
  unfolding slots_live held_in
  slots_none c p [] z = refl
  slots_none c p (idle ∷ ss) z = slots_none c (p + item_size S c) ss z
  slots_none c p (held n ∷ ss) z = absurd (omega arith)

  page_none : (p : ℕ) (post : List Block) {bs : List Block} {t : Spot} (m : EmptyAt S bs t) → live_from S p (used (page m.class m.spare m.slots) ∷ post) ≡ live_from S p (free t.size ∷ post)
  unfolding live_from use_live
  page_none p post m = rw (slots_none m.class (first_item_at S p) m.slots m.bare, m.size) refl

  -- so a page given back leaves what is live
  page_live : {bs : List Block} {t : Spot} → EmptyAt S bs t → live_from S (start S) (released t) ≡ live_from S (start S) bs
  page_live {bs} {t} m =
      released_live S t (start S)
      ∙ live_append S (start S) t.pre (free t.size ∷ t.post)
      ∙ ap (λ (l : List Payload). live_from S (start S) t.pre ++ l) (sym (page_none (ends S (start S) t.pre) t.post m))
      ∙ sym (live_append S (start S) t.pre (used (page m.class m.spare m.slots) ∷ t.post))
      ∙ ap (λ (l : List Block). live_from S (start S) l) (sym m.blocks)

  -- and one page less
  page_total : (g : ℕ → List Slot → ℕ) {bs : List Block} {t : Spot} (m : EmptyAt S bs t) → total (of_page g) (released t) + g m.class m.slots ≡ total (of_page g) bs
  unfolding total of_block
  page_total g {bs} {t} m =
      omega (arith, released_total g t, ap (λ (l : List Block). total (of_page g) l) m.blocks, total_append (of_page g) t.pre (used (page m.class m.spare m.slots) ∷ t.post))

  page_empties : {bs : List Block} {t : Spot} → EmptyAt S bs t → empties (released t) + 1 ≡ empties bs
  page_empties {bs} {t} m = rw (eq-eqb (held_in m.slots) 0 m.bare) at (page_total (λ c ss. cond (eqb (held_in ss) 0) 1 0) m)

  page_pages : {bs : List Block} {t : Spot} → EmptyAt S bs t → (counted (released t)).pages + 1 ≡ (counted bs).pages
  unfolding counted
  page_pages m = page_total (λ c ss. 1) m

module _ {w : ℕ} (wd : Width w) {end : ℕ} where
  -- one page
  pub page_given : {L : Layout} {t : Spot} → Tiled (shape w) end L → EmptyAt (shape w) L.blocks t → Given (shape w) end 1 L (record { blocks = released t; lists = L.lists })
  unfolding AllAllowed size_of
  page_given {L} {t} v m =
      let u : Use = page m.class m.spare m.slots in
      let a = (allowed_right (shape w) t.pre (used u ∷ t.post) (subst (λ (l : List Block). AllAllowed (shape w) l) m.blocks v.allowed)).0 in
      let z = sizes wd (used u) a in
      record {
        tiled = freed_use_tiled (shape w) end L t u m.size v.apart m.blocks v (omega (arith, z.0, m.size)) (omega (arith, z.1, m.size));
        lists = refl;
        live = page_live (shape w) m;
        empties = page_empties (shape w) m;
        pages = page_pages (shape w) m;
        idles = freed_use_idle (shape w) end L t u m.size v.apart m.blocks;
      }

  -- THE LAW: k pages
  pub recovered_given : (k : ℕ) {L : Layout} → Tiled (shape w) end L → k ≤ empties L.blocks → Given (shape w) end k L (recovered (shape w) k L)
  unfolding recovered
  recovered_given zero v l = record { tiled = v; lists = refl; live = refl; empties = omega arith; pages = omega arith; idles = λ c o. omega arith }
  recovered_given (suc k) {L} v l = go (some_empty (shape w) L.blocks (omega arith)) (λ M x y. recovered_given k {L = M} x y)
    where
      go : (t : Spot) × (empty_page (shape w) L.blocks ≡ some t)
          → ((M : Layout) → Tiled (shape w) end M → k ≤ empties M.blocks → Given (shape w) end k M (recovered (shape w) k M))
          → Given (shape w) end (suc k) L (recovered (shape w) k (page_freed (shape w) (empty_page (shape w) L.blocks) L))
      go (t, e) r =
          rw e
          let one = page_given v (empty_some (shape w) e) in
          let more = r (record { blocks = released t; lists = L.lists }) one.tiled (omega (arith, one.empties)) in
          record {
            tiled = more.tiled;
            lists = more.lists;
            live = more.live ∙ one.live;
            empties = omega (arith, more.empties, one.empties);
            pages = omega (arith, more.pages, one.pages);
            idles = λ c o. omega (arith, more.idles c o, one.idles c o);
          }

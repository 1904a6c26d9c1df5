-- Pages with no live item are given back: where the walk stands, and what each step leaves.
use Rattle.std.proofs.Common.{ℕ, suc, ◌+◌, ◌*◌, ◌^◌, ◌≤◌, ◌<◌, ◌≡◌, refl, sym, ap, subst, ◌∙◌, Bool, true, false, List, [], ◌∷◌, ◌++◌, arith, length, get_or, eq-eqb, ne_eqb, eqb-true, eqb}
use Rattle.std.proofs.Math.Option.{some}
use borrow.Author.Tests.{eqb-false}
use Rattle.words.specs.Width.{Width}
use Rattle.words.specs.Word.{word_at}
use Rattle.model.specs.Shape.{shape, end_of, start}
use Rattle.model.specs.Parts.{free_kind, page_kind, size_in, kind_in}
use Rattle.model.specs.Layout.{Slot, Use, variable, page, Block, free, used, Layout, head_of, if_free, size_of, ends}
use Rattle.model.specs.Sound.{times, idle_items, Here}
use Rattle.model.specs.Rules.{Spot, released}
use Rattle.model.specs.Reading.{total, held_in, of_block}
use Rattle.model.specs.Sweeping.{is_empty, empties, empty_page, linked_anew, stages}
use Rattle.model.specs.Calls.{drawn, drawn_in_turn}
use Rattle.model.specs.inner.Walks.{flag, last_free, ends_free, Passed}
use Rattle.model.specs.inner.Laid.{Laid}
use Rattle.model.proofs.Good.{shape_good}
use Rattle.model.proofs.Sizes.{most_bound}
use Rattle.model.proofs.blocks.Blocks.{last_append}
use Rattle.model.proofs.blocks.Valid.{ends_free_append}
use Rattle.model.proofs.items.Aligned.{laid}
use Rattle.model.proofs.pictures.Heads.{empty_list, none_idle}
use Rattle.model.proofs.pictures.Shown.{head_read}
use Rattle.model.proofs.walks.Passing.{pass_start, pass, stands, passed_end}
use Rattle.model.proofs.walks.Standing.{Met, met, block_tag, sized, there, size_is, is_free, PageThere, is_page}
use Rattle.model.proofs.walks.Totals.{total_append}
use Rattle.model.proofs.rules.OnLayouts.{recovered}
use Rattle.model.proofs.sweeps.EmptyPage.{empty_at}
use Rattle.model.proofs.sweeps.Recovered.{Given, recovered_given}
use Rattle.model.proofs.sweeps.Stages.{recovered_bytes, stages_drawn, recovered_next, recovered_drawn, recovered_length, recovered_stage}
use Rattle.find.specs.declared.UsedBlock.{UsedBlock}
use Rattle.reading.specs.Counting.{AtPage, PageAt, PageTold}
use Rattle.reading.specs.declared.counting.Page.{Page}
use Rattle.reading.proofs.ReadingLaws.{laid_page}
use Rattle.releasing.specs.Release.{left_at, left_free, right_at, right_free, BlockAt, BlockIn, GivenBack}
use Rattle.releasing.proofs.ReleaseLaws.{Joining, joining, released_blocks}
use Rattle.model.specs.inner.Links.{link_of}
use Rattle.recovering.specs.Recover.{EmptyTold, Recovered}

-- what is told of a page: whether it has no live item
module _ (w : ℕ) (b : List ℕ) (p t : ℕ) where
  module _ (z : kind_in t ≡ page_kind) (r : Page) (f : (c k : ℕ) (ss : List Slot) → PageAt w b p c k ss → PageTold r c ss) where
    pub told_page : EmptyTold w b p t (eqb r.held 0)
    told_page =
        record {
          page = λ _. z;
          bare = λ e c k ss a. sym (f c k ss a).held ∙ eqb-true r.held 0 e;
          not_bare = λ e _ c k ss a y. eqb-false r.held 0 e ((f c k ss a).held ∙ y);
        }

-- the free block at o ends behind p, within the heap
pub record Behind (w : ℕ) (b : List ℕ) (p o : ℕ) : Type 0 where
  pub room : o + w ≤ length b
  pub on : p < o + word_at w b o
  pub fits : o + word_at w b o < 2 ^ 63

-- k pages are given back, and the walk stands at p; no page before p is without a live item
pub record Midway (w : ℕ) (b₀ b : List ℕ) (L : Layout) (p prev : ℕ) (touching : Bool) (k : ℕ) : Type 0 where
  pub few : k ≤ empties L.blocks
  pub small : k ≤ p
  pub bytes : b ≡ recovered_bytes (shape w) k L b₀
  pub pre : List Block
  pub rest : List Block
  pub passed : Passed w (recovered (shape w) k L) p pre rest
  pub before : last_free (shape w) (start (shape w)) pre 0 ≡ prev
  pub touches : ends_free 0 pre ≡ flag touching
  pub clear : empties pre ≡ 0

pub midway_length : {w : ℕ} {b₀ b : List ℕ} {L : Layout} {p prev : ℕ} {touching : Bool} {k : ℕ} → Midway w b₀ b L p prev touching k → length b ≡ length b₀
midway_length {w} {b₀} {L = L} {k = k} m = ap length m.bytes ∙ recovered_length (shape w) k L b₀

pub midway_start : (w : ℕ) (b : List ℕ) (L : Layout) (p : ℕ) → p ≡ start (shape w) → Midway w b b L p 0 false 0
unfolding recovered recovered_bytes last_free ends_free total
midway_start w b L p e =
    record {
      few = omega arith;
      small = omega arith;
      bytes = refl;
      pre = [];
      rest = L.blocks;
      passed = rw e (pass_start w L);
      before = refl;
      touches = refl;
      clear = refl;
    }

module _ {w : ℕ} (wd : Width w) {b₀ : List ℕ} {L : Layout} (h : Here (shape w) b₀ L) (short : length b₀ ≤ (shape w).most) {b : List ℕ} {p prev : ℕ} {touching : Bool} {k : ℕ} (m : Midway w b₀ b L p prev touching k) where
  abbrev now : Layout
  now = recovered (shape w) k L

  pub laid_now : Laid w b now
  laid_now = rw m.bytes (recovered_stage wd b₀ L (laid wd h) short k m.few).laid

  same : length b ≡ length b₀
  same = midway_length m

  given : Given (shape w) (end_of (length b₀)) k L now
  given = recovered_given wd k (laid wd h).tiled m.few

  -- the walk has come to the end
  pub midway_done : end_of (length b) ≤ p → Recovered w b₀ L k b
  midway_done l =
      let all : empties L.blocks ≡ k = omega (arith, given.empties, m.clear, ap empties (passed_end m.passed wd laid_now l)) in
      record {
        same = same;
        count = sym all;
        layout = now;
        linkable = record { laid = laid_now; none_left = λ c cl z o. omega (arith, given.idles c o, none c cl z o) };
        bytes = ap (λ (n : ℕ). drawn_in_turn (shape w) (stages (shape w) n L) b₀) all ∙ stages_drawn (shape w) k L b₀ ∙ ap (λ (y : List ℕ). drawn (shape w) (linked_anew (shape w) now) y) (sym m.bytes);
      }
    where
      none : (c : ℕ) → c < (shape w).classes → head_of (get_or now.lists c []) ≡ 0 → (o : ℕ) → times o (idle_items (shape w) c (start (shape w)) L.blocks) ≡ 0
      none c cl z o =
          none_idle (shape w) (shape_good wd) b₀ L h c cl
          (empty_list (shape w) (shape_good wd) b₀ L h c cl short (head_read (shape w) b₀ L h c cl ∙ ap (λ (ls : List (List ℕ)). head_of (get_or ls c [])) (sym given.lists) ∙ z)) o

  -- the walk goes on behind the block x, that is no page without a live item
  past : (x : Block) (after : List Block) → m.rest ≡ x ∷ after → is_empty x ≡ 0 → (s prev' : ℕ) (touching' : Bool) → size_of (shape w) x ≡ s → if_free x p prev ≡ prev' → if_free x 1 0 ≡ flag touching'
      → Midway w b₀ b L (p + s) prev' touching' k
  unfolding last_free ends_free total
  past x after e z s prev' touching' es ep et =
      record {
        few = m.few;
        small = omega (arith, m.small);
        bytes = m.bytes;
        pre = m.pre ++ (x ∷ []);
        rest = after;
        passed = subst (λ (y : ℕ). Passed w now (p + y) (m.pre ++ (x ∷ [])) after) es (pass m.passed x after e);
        before = last_append (shape w) (start (shape w)) m.pre (x ∷ []) 0 ∙ rw (m.passed.begins, m.before) ep;
        touches = ends_free_append 0 m.pre (x ∷ []) ∙ et;
        clear = omega (arith, total_append is_empty m.pre (x ∷ []), m.clear);
      }

  module _ (t : ℕ) (e : t ≡ word_at w b p) (l : p < end_of (length b)) where
    pub midway_inside : (4 * w ≤ size_in t) × (p + size_in t ≤ end_of (length b))
    midway_inside = let z = sized wd laid_now (stands m.passed) t e l in (z.least, z.inside)

    pub past_free : kind_in t ≡ free_kind → Midway w b₀ b L (p + size_in t) p true k
    unfolding size_of of_block
    past_free z = let r = is_free wd laid_now (stands m.passed) t e l z in past (free (size_in t)) r.0 r.1 refl (size_in t) p true refl refl refl

    -- the page at p
    pub page_told : kind_in t ≡ page_kind → PageThere wd laid_now (stands m.passed) t e l
    page_told z = is_page wd laid_now (stands m.passed) t e l (λ y. omega arith) (λ y. omega arith)

    pub midway_page : kind_in t ≡ page_kind → AtPage w b p
    midway_page z = let q = page_told z in record { class = q.class; spare = q.spare; slots = q.slots; at = laid_page wd laid_now (stands m.passed) q }

    -- a block in use that is no page without a live item
    pub past_used : (kind_in t ≡ free_kind → ⊥) → (r : Bool) → EmptyTold w b p t r → r ≡ false → (n : ℕ) → n ≡ 0 → Midway w b₀ b L (p + size_in t) prev false (k + n)
    unfolding block_tag of_block
    past_used n r a z i ei = let none : k + i ≡ k = omega (arith, ei) in let x = there wd laid_now (stands m.passed) l in rw none (go x.block x.after x.rest x.met)
      where
        go : (x : Block) (after : List Block) → m.rest ≡ x ∷ after → Met w b now p (last_free (shape w) (start (shape w)) m.pre 0) x after → Midway w b₀ b L (p + size_in t) prev false k
        go (free s) after f y = absurd (n (unfold size_of in omega (arith, y.tag, y.eight)))
        go (used (variable s)) after f y = past (used (variable s)) after f refl (size_in t) prev false (size_is wd laid_now (stands m.passed) t e l (used (variable s)) after y) refl refl
        go (used (page c j ss)) after f y =
            past (used (page c j ss)) after f (rw (ne_eqb (held_in ss) 0 some_held) refl) (size_in t) prev false (size_is wd laid_now (stands m.passed) t e l (used (page c j ss)) after y) refl refl
          where
            paged : kind_in t ≡ page_kind
            paged = unfold size_of in omega (arith, y.tag, y.eight)

            there_is : PageThere wd laid_now (stands m.passed) t e l
            there_is = record { class = c; spare = j; slots = ss; after = after; rest = f; met = y; size = unfold size_of in size_is wd laid_now (stands m.passed) t e l (used (page c j ss)) after y }

            some_held : held_in ss ≡ 0 → ⊥
            some_held = a.not_bare z paged c j ss (laid_page wd laid_now (stands m.passed) there_is)

    -- a page without a live item is given back
    module _ (r : Bool) (a : EmptyTold w b p t r) (z : r ≡ true) (x : UsedBlock) (ea : x.at.0 ≡ p) (es : x.size ≡ size_in t) (ep : x.prev.0 ≡ prev) (et : x.touching ≡ touching) where
      q : PageThere wd laid_now (stands m.passed) t e l
      q = page_told (a.page z)

      abbrev u : Use
      u = page q.class q.spare q.slots

      abbrev spot : Spot
      spot = record { pre = m.pre; size = size_in t; post = q.after }

      bare : held_in q.slots ≡ 0
      bare = a.bare z q.class q.spare q.slots (laid_page wd laid_now (stands m.passed) q)

      in_use : BlockAt w now spot u x
      in_use =
          record {
            blocks = m.passed.blocks ∙ ap (λ (r : List Block). m.pre ++ r) q.rest;
            fits = q.size;
            at = m.passed.begins ∙ sym ea;
            size = sym es;
            before = m.before ∙ sym ep;
            touches = m.touches ∙ ap flag (sym et);
          }

      pub page_used : BlockIn w b x
      page_used = record { width = wd; layout = now; laid = laid_now; short = rw same short; spot = spot; block = u; in_use = in_use }

      -- the heap then: its layout, its bytes, and the joined block in it
      abbrev next : Layout
      next = recovered (shape w) (suc k) L

      found : empty_page (shape w) now.blocks ≡ some spot
      unfolding of_block size_of
      found =
          ap (empty_page (shape w)) (m.passed.blocks ∙ ap (λ (r : List Block). m.pre ++ r) q.rest)
          ∙ empty_at (shape w) m.pre (used u) q.after m.clear (rw (eq-eqb (held_in q.slots) 0 bare) refl)
          ∙ ap (λ (s : ℕ). some (record { pre = m.pre; size = s; post = q.after })) q.size

      next_is : next ≡ record { blocks = released spot; lists = now.lists }
      next_is = recovered_next (shape w) k L ∙ rw found refl

      next_few : suc k ≤ empties L.blocks
      unfolding of_block total
      next_few =
          let one : empties now.blocks ≡ empties m.pre + empties (used u ∷ q.after) = ap empties (m.passed.blocks ∙ ap (λ (r : List Block). m.pre ++ r) q.rest) ∙ total_append is_empty m.pre (used u ∷ q.after) in
          let mine : is_empty (used u) ≡ 1 = rw (eq-eqb (held_in q.slots) 0 bare) refl in
          omega (arith, given.empties, one, mine)

      abbrev from : ℕ
      from = left_at x.at.0 x.prev.0 x.touching

      abbrev link : ℕ
      link = word_at w b (link_of (shape w) x.prev.0)

      abbrev to : ℕ
      to = right_at w b (x.at.0 + x.size) link

      j : Joining w b now spot from to (left_free w b x.at.0 x.prev.0 x.touching) (right_free w b (x.at.0 + x.size) link)
      j = joining wd b now spot u x laid_now in_use link from to (left_free w b x.at.0 x.prev.0 x.touching) (right_free w b (x.at.0 + x.size) link) refl refl refl refl refl

      abbrev size : ℕ
      size = j.l + (size_in t + j.r)

      next_blocks : next.blocks ≡ j.pre ++ (free size ∷ j.post)
      next_blocks = ap (λ (M : Layout). M.blocks) next_is ∙ released_blocks wd b now spot u x from to (left_free w b x.at.0 x.prev.0 x.touching) (right_free w b (x.at.0 + x.size) link) laid_now in_use j

      module _ (c : List ℕ) (g : GivenBack w b x c) where
        next_bytes : c ≡ recovered_bytes (shape w) (suc k) L b₀
        next_bytes =
            g.draws now spot u laid_now in_use ∙ ap (λ (M : Layout). drawn (shape w) M b) (sym next_is) ∙ ap (λ (y : List ℕ). drawn (shape w) next y) m.bytes ∙ sym (recovered_drawn (shape w) k L b₀)

        laid_next : Laid w c next
        laid_next = rw next_bytes (recovered_stage wd b₀ L (laid wd h) short (suc k) next_few).laid

        before_joined : Passed w next from j.pre (free size ∷ j.post)
        before_joined = record { blocks = next_blocks; begins = j.begins }

        joined : Met w c next from (last_free (shape w) (start (shape w)) j.pre 0) (free size) j.post
        joined = met wd laid_next (stands before_joined) (free size) j.post refl

        tag : word_at w c from ≡ size
        unfolding block_tag
        tag = joined.tag

        reach : from + j.l ≡ p
        reach = j.reach ∙ m.passed.begins

        pub behind : (o : ℕ) → o ≡ from → Behind w c p o
        unfolding size_of
        behind o e =
            rw e
            (record { room = omega (arith, joined.least, joined.inside); on = omega (arith, tag, reach, midway_inside.0, wd); fits = omega (arith, tag, joined.inside, ap length next_bytes ∙ recovered_length (shape w) (suc k) L b₀, short, most_bound wd) })

        -- THE STEP: the walk goes on behind it
        pub past_page : (o p' i : ℕ) → o ≡ from → p' ≡ o + word_at w c o → i ≡ 1 → Midway w b₀ c L p' o true (k + i)
        unfolding last_free ends_free total of_block size_of ends
        past_page o p' i eo ep' ei =
            let one : k + i ≡ suc k = omega (arith, ei) in
            rw one
            let n : p' ≡ from + size = ep' ∙ rw eo (ap (λ (y : ℕ). from + y) tag) in
            let none : empties j.pre ≡ 0 = omega (arith, m.clear, ap empties j.pre_is, total_append is_empty j.pre j.lefts) in
            record {
              few = next_few;
              small = omega (arith, m.small, reach, n, midway_inside.0, wd);
              bytes = next_bytes;
              pre = j.pre ++ (free size ∷ []);
              rest = j.post;
              passed = rw n (pass before_joined (free size) j.post refl);
              before = last_append (shape w) (start (shape w)) j.pre (free size ∷ []) 0 ∙ j.begins ∙ sym eo;
              touches = ends_free_append 0 j.pre (free size ∷ []);
              clear = omega (arith, total_append is_empty j.pre (free size ∷ []), none);
            }

-- what a turn of the walk knows of the block at p, below the heap's end: it has room, and the walk gets past it
module _ {w : ℕ} (wd : Width w) {b₀ : List ℕ} {L : Layout} (h : Here (shape w) b₀ L) (short : length b₀ ≤ (shape w).most) {b : List ℕ} {p prev : ℕ} {touching : Bool} {k : ℕ} (m : Midway w b₀ b L p prev touching k) {e : ℕ}
    (ee : e ≡ end_of (length b₀)) (l : p < e) where
  pub turn_below : p < end_of (length b)
  turn_below = omega (arith, ee, midway_length m)

  pub turn_inside : (t : ℕ) → t ≡ word_at w b p → (0 < size_in t) × (p + size_in t ≤ e) × (p + w ≤ length b) × (e < 2 ^ 63) × (k ≤ p)
  turn_inside t et = omega (arith, wd, short, most_bound wd, ee, midway_length m, m.small, midway_inside wd h short m t et turn_below)

-- What is found, made and taken is what the rule allocates.
use Rattle.std.proofs.Common.{ℕ, ◌+◌, ◌-◌, ◌<◌, ◌≤◌, ◌≡◌, refl, sym, ap, ◌∙◌, List, [], arith, length, get_or, get_or-set_same, le-leb, Option, Some, None}
use Rattle.std.proofs.lemmas.Bool.{lt-leb}
use Rattle.words.specs.Word.{word_at, Bytes}
use Rattle.model.specs.declared.Address.{Address}
use Rattle.model.specs.declared.Position.{Position}
use Rattle.model.specs.Shape.{shape, end_of, class_of, need_of, page_need, index, start, largest_item, address_of}
use Rattle.model.specs.Parts.{head_at}
use Rattle.model.specs.Picture.{draw}
use Rattle.model.specs.Layout.{Layout, head_of, words}
use Rattle.model.specs.Sound.{Here}
use Rattle.model.specs.Rules.{Spot, fit, popped, paged, from_list, from_page, an_item, a_block, allocate, spot_at}
use Rattle.model.specs.Calls.{drawn}
use Rattle.model.proofs.Good.{shape_good}
use Rattle.model.proofs.pictures.Pictures.{length_draw}
use Rattle.model.proofs.blocks.Blocks.{le_ends}
use Rattle.model.proofs.blocks.FreeWalk.{here_room}
use Rattle.model.specs.inner.Walks.{SpotIn, Spotted}
use Rattle.model.proofs.pictures.Shown.{head_read}
use Rattle.model.proofs.blocks.Placed.{placed_here}
use Rattle.model.proofs.pictures.Heads.{empty_list}
use Rattle.model.proofs.items.Asked.{within_own}
use Rattle.model.proofs.items.PageWords.{first_offset}
use Rattle.model.proofs.items.Paged.{paged_here}
use Rattle.model.proofs.items.Pop.{popped_here, popped_over}
use Rattle.model.proofs.items.PopReads.{first_item}
use Rattle.fitting.specs.Fitting.{position_of}
use Rattle.fitting.proofs.FitLaws.{found_fit, no_fit}
use Rattle.placing.specs.Blocks.{Needed, Placed}
use Rattle.items.specs.Items.{HasItem, TookItem}
use Rattle.pages.specs.Pages.{NoItem, MadePage}
use Rattle.engine.specs.Allocate.{GivesItem, GivesBlock, GivesSize}
use Rattle.engine.specs.Ready.{Ready}
use Rattle.model.proofs.Sizes.{page_eight, per_page_bound}

-- p is where a block of size need fits first
abbrev pub FindsFit : ℕ → List ℕ → ℕ → Option Position → Type 0
FindsFit w b need p = (L : Layout) → Here (shape w) b L → p ≡ position_of w (fit need L.blocks)

-- the same of a number that is known to be a page's need
pub finds_page : {w : ℕ} {b : List ℕ} {need : ℕ} {r : Option Position} (c : ℕ) → need ≡ page_need (shape w) c → FindsFit w b need r → FindsFit w b (page_need (shape w) c) r
finds_page c e f L h = rw e at (f L h)

-- the word where the list of a class begins
pub head_is : (w : ℕ) (b : List ℕ) (c : ℕ) {at x : ℕ} → at ≡ head_at (shape w) c → x ≡ word_at w b at → x ≡ word_at w b (head_at (shape w) c)
head_is w b c e f = f ∙ ap (λ (y : ℕ). word_at w b y) e

module _ {w : ℕ} {b : List ℕ} (k : Ready w b) where
  pub ready_long : start (shape w) ≤ length b
  ready_long = here_room (shape w) b k.sound.layout k.sound.here

  pub spotted : {need : ℕ} {p : Position} → FindsFit w b need (Some p) → Spotted (shape w) b p.0 need
  spotted {need} {p} f =
      let s = found_fit w need k.sound.layout p k.sound.here (f k.sound.layout k.sound.here) in
      record { layout = k.sound.layout; spot = s.0; is = s.2 }

  -- a variable block
  pub block_none : {need : ℕ} → FindsFit w b need None → GivesBlock w b need None b
  unfolding a_block
  block_none {need} f = record { is = λ L h. rw (no_fit w need L (f L h)) (record { answer = refl; bytes = refl; here = h }) }

  pub block_taken : {need : ℕ} (p : Position) (a : List ℕ) (r : Address) → FindsFit w b need (Some p) → Needed w (length b) need → Placed w b p.0 need a → r.0 ≡ address_of (shape w) p.0 → GivesBlock w b need (Some r) a
  unfolding a_block
  block_taken {need} p a r f n d e =
      record {
        is = λ L h.
            let s = found_fit w need L p h (f L h) in
            let x = s.2 in
            rw s.1
            (record {
              answer = ap (λ (y : ℕ). Some (record { 0 = y })) (omega (arith, e, x.at));
              bytes = d.draws L s.0 x;
              here = rw (d.draws L s.0 x) (placed_here (shape w) x (shape_good k.width) n.large n.eight k.short);
            });
      }

  module _ {c : ℕ} (cl : c < (shape w).classes) where
    -- the first item of the list
    pub has_item : {n : ℕ} → class_of n ≡ c → (word_at w b (head_at (shape w) c) ≡ 0 → ⊥) → HasItem w b c n
    has_item own z = record { width = k.width; sound = k.sound; class = cl; short = k.short; some_item = z; own = own }

    pub item_given : {n : ℕ} → class_of n ≡ c → (a : List ℕ) (r : Address) → (word_at w b (head_at (shape w) c) ≡ 0 → ⊥) → TookItem w b c n r.0 a → GivesItem w b c n (Some r) a
    unfolding an_item from_list
    item_given {n} own a r z d =
        record {
          is = λ L h.
              let o = word_at w b (head_at (shape w) c) in
              let f = first_item k.width b L h c cl o refl z in
              let i = d.is L o f.0 h f.1 in
              rw f.1
              (record {
                answer = ap (λ (y : ℕ). Some (record { 0 = y })) i.0;
                bytes = i.1;
                here = rw i.1 (popped_here (shape w) (shape_good k.width) b L h c o f.0 cl f.1 k.short n (within_own c n own));
              });
        }

    -- an item of a new page
    module _ (zero-head : word_at w b (head_at (shape w) c) ≡ 0) where
      pub no_item : NoItem w b c
      no_item = record { width = k.width; class = cl; short = k.short; none = zero-head }

      empty : (L : Layout) → Here (shape w) b L → get_or L.lists c [] ≡ []
      empty L h = empty_list (shape w) (shape_good k.width) b L h c cl k.short zero-head

      pub page_none : {n : ℕ} → FindsFit w b (page_need (shape w) c) None → GivesItem w b c n None b
      unfolding an_item from_page
      page_none f = record { is = λ L h. rw (empty L h, no_fit w (page_need (shape w) c) L (f L h)) (record { answer = refl; bytes = refl; here = h }) }

      module _ (at : Position) (b₁ : List ℕ) (m : MadePage w b at.0 c b₁) where
        abbrev p : ℕ
        p = at.0

        -- the heap with the new page
        made_long : (L : Layout) (t : Spot) → SpotIn (shape w) b p (page_need (shape w) c) L t → length b₁ ≡ length b
        made_long L t x = ap length (m.draws L t x) ∙ length_draw w (words (shape w) (end_of (length b)) (paged (shape w) c t L)) b

        made_here : (L : Layout) (t : Spot) → SpotIn (shape w) b p (page_need (shape w) c) L t → Here (shape w) b₁ (paged (shape w) c t L)
        made_here L t x = rw (m.draws L t x) (paged_here (shape w) c x (shape_good k.width) cl (page_eight k.width c) (empty L x.here) k.short)

        made_head : (L : Layout) (t : Spot) → SpotIn (shape w) b p (page_need (shape w) c) L t → word_at w b₁ (head_at (shape w) c) ≡ 0 → ⊥
        made_head L t x e =
            let l = (paged (shape w) c t L).lists in
            let f : get_or l c [] ≡ _ = get_or-set_same L.lists c _ [] (omega (arith, x.here.valid.classes)) in
            let g : word_at w b₁ (head_at (shape w) c) ≡ spot_at (shape w) t + w - index (shape w) = head_read (shape w) b₁ (paged (shape w) c t L) (made_here L t x) c cl ∙ ap head_of f ∙ first_offset (shape w) c (spot_at (shape w) t + w) ((shape w).per_page c) (omega (arith, per_page_bound k.width c)) in
            omega (arith, e, g, le_ends (shape w) (start (shape w)) t.pre)

        pub made_item : {n : ℕ} → class_of n ≡ c → Spotted (shape w) b p (page_need (shape w) c) → HasItem w b₁ c n
        made_item own s =
            record {
              width = k.width;
              sound = record { layout = paged (shape w) c s.spot s.layout; here = made_here s.layout s.spot s.is };
              class = cl;
              short = rw (made_long s.layout s.spot s.is) k.short;
              some_item = made_head s.layout s.spot s.is;
              own = own;
            }

        pub page_given : {n : ℕ} → class_of n ≡ c → FindsFit w b (page_need (shape w) c) (Some at) → (a : List ℕ) (r : Address) → TookItem w b₁ c n r.0 a → Bytes b → GivesItem w b c n (Some r) a
        unfolding an_item from_page from_list
        page_given {n} own f a r d bytes =
            record {
              is = λ L h.
                  let s = found_fit w (page_need (shape w) c) L at h (f L h) in
                  let t = s.0 in
                  let x = s.2 in
                  let new = paged (shape w) c t L in
                  let o = word_at w b₁ (head_at (shape w) c) in
                  let here₁ = made_here L t x in
                  let g = first_item k.width b₁ new here₁ c cl o refl (made_head L t x) in
                  let i = d.is new o g.0 here₁ g.1 in
                  let len = made_long L t x in
                  let short : length b₁ ≤ (shape w).most = rw len k.short in
                  let drawn-new : b₁ ≡ draw w (words (shape w) (end_of (length b₁)) new) b = rw len (m.draws L t x) in
                  let all : a ≡ drawn (shape w) (popped (shape w) n c o g.0 new) b =
                  i.1
                  ∙ ap (λ (y : List ℕ). draw w (words (shape w) (end_of (length b₁)) (popped (shape w) n c o g.0 new)) y) drawn-new
                  ∙ popped_over (shape w) (shape_good k.width) b₁ new here₁ c o g.0 cl g.1 short n (within_own c n own) b (sym len) bytes
                  ∙ ap (λ (y : ℕ). draw w (words (shape w) (end_of y) (popped (shape w) n c o g.0 new)) b) len in
                  rw (empty L h, s.1, g.1)
                  (record {
                    answer = ap (λ (y : ℕ). Some (record { 0 = y })) i.0;
                    bytes = all;
                    here = rw i.1 (popped_here (shape w) (shape_good k.width) b₁ new here₁ c o g.0 cl g.1 short n (within_own c n own));
                  });
            }

-- the two ways of allocate
pub small_way : {w : ℕ} {b a : List ℕ} {r : Option Address} (n c : ℕ) → c ≡ class_of n → n ≤ largest_item (shape w) → GivesItem w b c n r a → GivesSize w b n r a
unfolding allocate
small_way {w} n c e l g = record { is = λ L h. rw (le-leb n (largest_item (shape w)) l, ← e) (g.is L h) }

pub large_way : {w : ℕ} {b a : List ℕ} {r : Option Address} (n need : ℕ) → need ≡ need_of (shape w) n → largest_item (shape w) < n → GivesBlock w b need r a → GivesSize w b n r a
unfolding allocate
large_way {w} n need e l g = record { is = λ L h. rw (lt-leb n (largest_item (shape w)) l, ← e) (g.is L h) }

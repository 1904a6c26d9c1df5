-- The items of a new page, linked one after the other.
use Rattle.std.proofs.Common.{ℕ, zero, suc, ◌+◌, ◌-◌, ◌*◌, ◌<◌, ◌≤◌, ◌≡◌, refl, sym, ap, subst, ◌∙◌, List, arith, length, get_or}
use Rattle.words.specs.Width.{Width}
use Rattle.words.specs.Word.{put, Bytes}
use Rattle.words.proofs.WordLaws.{length_put, put_out, word_same, bytes_put}
use Rattle.model.specs.Shape.{shape, item_size, offset_of, index}
use Rattle.model.specs.Parts.{free_header, free_mark}
use Rattle.model.specs.Picture.{Shows, draw}
use Rattle.model.specs.inner.Links.{item_words}
use Rattle.model.proofs.pictures.Pictures.{Rise, Outside, rise_down, shows_put, drawn}
use Rattle.model.proofs.Sizes.{per_page_bound, words_fit}
use Rattle.pages.specs.Pages.{ItemsRoom}

-- the headers stand apart, one in each item
rise_items : {w : ℕ} → Width w → (c p n hi : ℕ) → p + n * item_size (shape w) c ≤ hi → Rise w p (item_words (shape w) c p n) hi
unfolding Rise item_words
rise_items wd c p zero hi l = omega arith
rise_items wd c p (suc zero) hi l = (omega arith, omega arith)
rise_items {w} wd c p (suc (suc n)) hi l =
    (omega arith, rise_down w (p + w) (p + item_size (shape w) c) (item_words (shape w) c (p + item_size (shape w) c) (suc n)) hi (omega arith) (rise_items wd c (p + item_size (shape w) c) (suc n) hi (omega arith)))

-- a header names an item that is one size further on than the one before it names
header_before : (w c p size m : ℕ) → index (shape w) ≤ p → free_header c (offset_of (shape w) (p + (size + m))) - (free_header c size - free_mark c) ≡ free_header c (offset_of (shape w) (p + m))
header_before w c p size m l = omega arith

-- a byte in none of them is not in the last one
outside_last : (w c p k i : ℕ) → Outside w i (item_words (shape w) c p (suc k)) → p + k * item_size (shape w) c ≤ i → i < p + k * item_size (shape w) c + w → ⊥
unfolding Outside item_words
outside_last w c p zero i o l m = o.0 (omega arith) (omega arith)
outside_last w c p (suc k) i o l m = outside_last w c (p + item_size (shape w) c) k i o.1 (omega arith) (omega arith)

-- in h₀ the last of a page's n items is written; in h `before` of them are not yet, the one that is `left` bytes from p on and the `after` ones behind it are
pub record Linking (w : ℕ) (h₀ : List ℕ) (c p size step n : ℕ) (h : List ℕ) (header left : ℕ) : Type 0 where
  pub width : Width w
  pub class : c < (shape w).classes
  pub short : length h₀ ≤ (shape w).most
  pub low : index (shape w) ≤ p
  pub same : length h ≡ length h₀
  pub bytes : Bytes h
  pub size_is : size ≡ item_size (shape w) c
  pub step_is : step ≡ free_header c size - free_mark c
  pub before : ℕ
  pub after : ℕ
  pub left_is : left ≡ before * item_size (shape w) c
  pub all : before + suc after ≡ n
  pub room : p + left + suc after * item_size (shape w) c ≤ length h₀
  pub header_is : header ≡ free_header c (offset_of (shape w) (p + left))
  pub shown : Shows w h (item_words (shape w) c (p + left) (suc after))
  pub others : (i : ℕ) → Outside w i (item_words (shape w) c (p + left) (suc after)) → get_or h i 0 ≡ get_or h₀ i 0

-- where the last of n items begins, and what its place needs
module _ {w : ℕ} (h : List ℕ) {c n p : ℕ} (r : ItemsRoom w (length h) c n p) (size left : ℕ) (es : size ≡ item_size (shape w) c) (el : left ≡ (n - 1) * size) where
  count : suc (n - 1) ≡ (shape w).per_page c
  count = omega (arith, r.all, per_page_bound r.width c)

  pub last_room : p + left + size ≤ length h
  last_room =
      let e : p + suc (n - 1) * item_size (shape w) c ≤ length h = rw count r.inside in
      let f : left ≡ (n - 1) * item_size (shape w) c = el ∙ ap (λ (x : ℕ). (n - 1) * x) es in
      omega (arith, es)

  pub link_start : Bytes h → (step last o header : ℕ) (h' : List ℕ) → step ≡ free_header c size - free_mark c → last ≡ p + left → o ≡ offset_of (shape w) last → header ≡ free_header c o → h' ≡ put w h last (free_mark c)
      → Linking w h' c p size step ((shape w).per_page c) h' header left
  unfolding Shows item_words
  link_start k step last o header h' et ea eo eh e =
      let len : length h' ≡ length h = ap length e ∙ length_put w h last (free_mark c) in
      record {
        width = r.width;
        class = r.class;
        short = omega (arith, len, r.short);
        low = r.low;
        same = refl;
        bytes = rw e (bytes_put w h last (free_mark c) k);
        size_is = es;
        step_is = et;
        before = n - 1;
        after = 0;
        left_is = el ∙ ap (λ (x : ℕ). (n - 1) * x) es;
        all = omega (arith, count);
        room = omega (arith, len, last_room, es);
        header_is = rw (eh, eo, ea) refl;
        shown = rw (e, ea) (word_same w h (p + left) (free_mark c) (omega (arith, last_room, es, r.width)) (omega (arith, words_fit r.width 0 (omega arith), r.class)), tt);
        others = λ i q. refl;
      }

module _ {w : ℕ} {h₀ : List ℕ} {c p size step n : ℕ} {h : List ℕ} {header left : ℕ} (i : Linking w h₀ c p size step n h header left) where
  -- where an item is left, it is before the last one written
  pub link_one : (left ≡ 0 → ⊥) → size ≤ left
  link_one z = go i.before refl
    where
      go : (k : ℕ) → i.before ≡ k → size ≤ left
      go zero e = absurd (z (omega (arith, rw e at i.left_is)))
      go (suc k) e = omega (arith, i.size_is, rw e at i.left_is)

  pub link_room : p + left + size ≤ length h
  link_room = omega (arith, i.size_is, i.same, i.room)

  pub link_step : (left ≡ 0 → ⊥) → step ≤ header
  link_step z = omega (arith, link_one z, i.step_is, i.header_is, i.low)

  pub link_turn : (left ≡ 0 → ⊥) → (h' : List ℕ) → h' ≡ put w h (p + left - size) header → Linking w h₀ c p size step n h' (header - step) (left - size)
  unfolding Shows Outside item_words
  link_turn z h' e = go i.before refl
    where
      go : (k : ℕ) → i.before ≡ k → Linking w h₀ c p size step n h' (header - step) (left - size)
      go zero f = absurd (z (omega (arith, rw f at i.left_is)))
      go (suc k) f =
          let l : left ≡ suc k * item_size (shape w) c = rw f at i.left_is in
          let s = i.size_is in
          let q : p + left - size ≡ p + (left - size) = omega arith in
          let g : p + (left - size) + item_size (shape w) c ≡ p + left = omega arith in
          let apart : size + (left - size) ≡ left = omega arith in
          let e' : h' ≡ put w h (p + (left - size)) header = rw q at e in
          record {
            width = i.width;
            class = i.class;
            short = i.short;
            low = i.low;
            same = ap length e ∙ length_put w h (p + left - size) header ∙ i.same;
            bytes = rw e (bytes_put w h (p + left - size) header i.bytes);
            size_is = s;
            step_is = i.step_is;
            before = k;
            after = suc i.after;
            left_is = omega arith;
            all = omega (arith, f, i.all);
            room = omega (arith, i.room);
            header_is = rw (i.header_is, i.step_is) (rw apart at (header_before w c p size (left - size) i.low));
            shown = subst (λ (x : List ℕ). Shows w x (item_words (shape w) c (p + (left - size)) (suc (suc i.after)))) (sym e') (rw g (
              word_same w h (p + (left - size)) header (omega (arith, link_room)) (omega (arith, i.header_is, i.class, words_fit i.width (offset_of (shape w) (p + left)) (omega (arith, i.room, i.short)))) ∙ i.header_is,
              shows_put w h (p + left) (item_words (shape w) c (p + left) (suc i.after)) (length h) (p + (left - size)) header (rise_items i.width c (p + left) (suc i.after) (length h) (omega (arith, i.room, i.same))) (λ x y. omega (arith, g)) i.shown,
            ));
            others = λ j o. rw e' (put_out w h (p + (left - size)) header j o.0 ∙ i.others j (rw g at o.1));
          }

  -- b is the heap before all
  pub link_done : left ≡ 0 → (b : List ℕ) (last : ℕ) → h₀ ≡ put w b last (free_mark c) → last ≡ p + (n - 1) * size → h ≡ draw w (item_words (shape w) c p n) b
  link_done z b last eb el =
      let e : p + left ≡ p = omega arith in
      let none : i.before ≡ 0 = nothing i.before (rw z at i.left_is) in
      let f : suc i.after ≡ n = omega (arith, i.all) in
      let a : i.after ≡ n - 1 = omega arith in
      let s : Shows w h (item_words (shape w) c p n) = rw (e, f) at i.shown in
      let g : last ≡ p + i.after * item_size (shape w) c = el ∙ rw (i.size_is, a) refl in
      let o : (j : ℕ) → Outside w j (item_words (shape w) c p (suc i.after)) → get_or h j 0 ≡ get_or b j 0 = λ j q. i.others j (rw e q) ∙ ap (λ (x : List ℕ). get_or x j 0) eb ∙ put_out w b last (free_mark c) j (λ x y. outside_last w c p i.after j q (omega arith) (omega arith)) in
      drawn w (item_words (shape w) c p n) b h i.bytes (i.same ∙ ap length eb ∙ length_put w b last (free_mark c)) s (λ j l q. o j (rw f q))
    where
      nothing : (k : ℕ) → 0 ≡ k * item_size (shape w) c → k ≡ 0
      nothing zero y = refl
      nothing (suc k) y = absurd (omega arith)

-- The free items of a page are pushed, from the last to the first.
use Rattle.std.proofs.Common.{ℕ, zero, suc, ◌+◌, ◌-◌, ◌*◌, ◌^◌, ◌≤◌, ◌<◌, ◌≡◌, refl, sym, ap, subst, ◌∙◌, List, [], ◌∷◌, ◌++◌, arith, length, get_or, drop, mul-le-mul_left}
use Rattle.std.proofs.Math.Seq.{drop-length}
use Rattle.words.specs.Word.{word_at, put, Bytes}
use Rattle.words.proofs.WordLaws.{length_put, word_same, word_other, word_fits, put_over, put_swap}
use Rattle.model.specs.Shape.{shape, start, index, item_size, offset_of}
use Rattle.model.specs.Parts.{first_item_at, used_in, free_header, head_at}
use Rattle.model.specs.Layout.{Slot, idle, Layout, use_size, header}
use Rattle.model.specs.Sound.{idle_slots}
use Rattle.model.specs.inner.Laid.{Laid}
use Rattle.model.specs.inner.Items.{InBlocks}
use Rattle.model.proofs.Sizes.{words_fit}
use Rattle.model.proofs.pictures.Pictures.{put_again}
use Rattle.items.proofs.GiveLaws.{Numbers, give_numbers, give_at}
use Rattle.model.proofs.items.Items.{blocks_range}
use Rattle.items.specs.Items.{ItemIn, GaveItem}
use Rattle.relinking.specs.Relink.{PageThere, in_front, Became, PageReady, PagePushed}
use Rattle.relinking.proofs.Front.{became_length, became_bytes, became_start, front_none, push_front}
use Rattle.relinking.proofs.PageItems.{item_word, said_idle, said_held, idle_first, held_first, page_few, page_count, page_inside, page_shown, item_in, item_stays, item_even, there_listing}

-- the free items of the page from number i on
abbrev pub from : ℕ → ℕ → ℕ → ℕ → List Slot → List ℕ
from w first c i ss = idle_slots (shape w) c (first + i * item_size (shape w) c) (drop i ss)

-- those from number `left` on, whose header stands at q, are pushed
pub record Pushing (w : ℕ) (b : List ℕ) (c size first : ℕ) (h : List ℕ) (q : ℕ) : Type 0 where
  pub page : PageReady w b (first - w) c
  pub bytes : Bytes b
  pub low : w ≤ first
  pub step : size ≡ item_size (shape w) c
  pub left : ℕ
  pub few : left ≤ (shape w).per_page c
  pub at : q ≡ first + left * item_size (shape w) c
  pub became : (L : Layout) (ss : List Slot) → Laid w b L → PageThere w L (first - w) c ss → Became w b (in_front c (from w first c left ss) L) h

module _ {w : ℕ} {b : List ℕ} {p c : ℕ} (k : PageReady w b p c) where
  pub on_class : c < (shape w).classes
  on_class = page_few k.width k.laid k.there

  -- its items are within the bytes
  pub on_room : first_item_at (shape w) p + (shape w).per_page c * item_size (shape w) c ≤ length b
  unfolding use_size
  on_room =
      let n : first_item_at (shape w) p + length k.slots * item_size (shape w) c ≤ length b = omega (arith, page_inside k.width k.laid k.there) in
      rw (page_count k.width k.laid k.there) at n

  pub pushing_start : Bytes b → (size n first q : ℕ) → size ≡ item_size (shape w) c → n ≡ (shape w).per_page c → first ≡ first_item_at (shape w) p → q ≡ first + n * size → Pushing w b c size first b q
  unfolding idle_slots
  pushing_start bytes size n first q es en ef eq =
      let z : p ≡ first - w = omega arith in
      record {
        page = subst (λ (y : ℕ). PageReady w b y c) z k;
        bytes = bytes;
        low = omega arith;
        step = es;
        left = n;
        few = omega (arith, en);
        at = eq ∙ ap (λ (y : ℕ). first + n * y) es;
        became = λ L ss h t.
            let e : drop n ss ≡ [] = ap (λ (y : ℕ). drop y ss) (en ∙ sym (page_count k.width h t)) ∙ drop-length ss in
            subst (λ (l : List Slot). Became w b (in_front c (idle_slots (shape w) c (first + n * item_size (shape w) c) l) L) b) (sym e)
            (front_none c (became_start k.width bytes k.short h));
      }

module _ {w : ℕ} {b : List ℕ} {c size first : ℕ} {h : List ℕ} {q : ℕ} (i : Pushing w b c size first h q) where
  first_is : first_item_at (shape w) (first - w) ≡ first
  first_is = omega (arith, i.low)

  module _ (l : first < q) where
    -- the number of the item, and its place
    number : (n : ℕ) × (i.left ≡ suc n)
    number = go i.left refl
      where
        go : (m : ℕ) → i.left ≡ m → (n : ℕ) × (i.left ≡ suc n)
        go zero e = let z : q ≡ first + 0 * item_size (shape w) c = i.at ∙ ap (λ (y : ℕ). first + y * item_size (shape w) c) e in absurd (omega (arith, z))
        go (suc n) e = (n, e)

    place : q - size ≡ first + number.0 * item_size (shape w) c
    place =
        let z : q ≡ first + suc number.0 * item_size (shape w) c = i.at ∙ ap (λ (y : ℕ). first + y * item_size (shape w) c) number.1 in
        omega (arith, z, i.step)

    module _ {L : Layout} {ss : List Slot} (d' : Laid w b L) (t : PageThere w L (first - w) c ss) where
      k : Became w b (in_front c (from w first c i.left ss) L) h
      k = i.became L ss d' t

      in_page_lem : number.0 < length ss
      in_page_lem = omega (arith, number.1, i.few, page_count i.page.width d' t)

      place_in : first_item_at (shape w) (first - w) + number.0 * item_size (shape w) c ≡ q - size
      place_in = omega (arith, place, first_is)

      place_there : InBlocks (shape w) c (q - size) (start (shape w)) L.blocks
      place_there = rw (← place_in) (item_in i.page.width d' t number.0 in_page_lem)

      header_is : (x : ℕ) → x ≡ word_at w h (q - size) → x ≡ header (shape w) c (get_or (in_front c (from w first c i.left ss) L).lists c []) (q - size) (get_or ss number.0 idle)
      header_is x ex =
          let s = page_shown i.page.width k.laid (there_listing c (from w first c i.left ss ++ get_or L.lists c []) t) in
          ex ∙ subst (λ (y : ℕ). word_at w h y ≡ header (shape w) c (get_or (in_front c (from w first c i.left ss) L).lists c []) y (get_or ss number.0 idle)) place_in
          (item_word (shape w) c w h (get_or (in_front c (from w first c i.left ss) L).lists c []) (first_item_at (shape w) (first - w)) number.0 ss in_page_lem s)

      -- the item is pushed where it is free, and passed over where it is in use
      push_one : (x : ℕ) → x ≡ word_at w h (q - size) → used_in x ≡ 0 → {d : List ℕ} → GaveItem w h (q - size) c d → Became w b (in_front c (from w first c number.0 ss) L) d
      push_one x ex f {d} g =
          let e = said_idle (shape w) c (get_or (in_front c (from w first c i.left ss) L).lists c []) (q - size) x (get_or ss number.0 idle) (header_is x ex) f in
          let low : index (shape w) ≤ q - size = omega (arith, (blocks_range (shape w) c (q - size) (start (shape w)) L.blocks place_there).0) in
          let p = push_front i.page.width i.bytes i.page.short L c (page_few i.page.width d' t) (from w first c i.left ss) k low place_there (rw (← place_in) (item_stays i.page.width d' t number.0 in_page_lem e)) (rw (← place_in) (item_even i.page.width d' t number.0 in_page_lem e)) g in
          let is : from w first c number.0 ss ≡ offset_of (shape w) (q - size) ∷ from w first c i.left ss =
          idle_first (shape w) c first number.0 ss in_page_lem e ∙ ap (λ (y : ℕ). offset_of (shape w) y ∷ from w first c (suc number.0) ss) (sym place) ∙ ap (λ (m : ℕ). offset_of (shape w) (q - size) ∷ from w first c m ss) (sym number.1) in
          subst (λ (l : List ℕ). Became w b (in_front c l L) d) (sym is) p

      pass_one : (x : ℕ) → x ≡ word_at w h (q - size) → (used_in x ≡ 0 → ⊥) → Became w b (in_front c (from w first c number.0 ss) L) h
      pass_one x ex f =
          let e = said_held (shape w) c (get_or (in_front c (from w first c i.left ss) L).lists c []) (q - size) x (get_or ss number.0 idle) (header_is x ex) f in
          let is : from w first c number.0 ss ≡ from w first c i.left ss = held_first (shape w) c first number.0 ss in_page_lem e.0 e.1 ∙ ap (λ (m : ℕ). from w first c m ss) (sym number.1) in
          subst (λ (l : List ℕ). Became w b (in_front c l L) h) (sym is) k

    -- where the item is read and given
    pub pushing_room : (size ≤ q) × (q - size + w ≤ length h) × (q - size < q)
    pushing_room =
        let P = i.page in
        let n = became_length (k P.laid P.there) in
        let r = blocks_range (shape w) c (q - size) (start (shape w)) P.layout.blocks (place_there P.laid P.there) in
        let z : q ≡ first + suc number.0 * item_size (shape w) c = i.at ∙ ap (λ (y : ℕ). first + y * item_size (shape w) c) number.1 in
        (omega (arith, z, i.step), omega (arith, n, r.1, P.laid.tiled.fills), omega (arith, z, i.step))

    pub pushing_item : ItemIn w h (q - size) c
    pushing_item =
        let P = i.page in
        let g = k P.laid P.there in
        record { width = P.width; layout = in_front c (from w first c i.left P.slots) P.layout; laid = g.laid; short = omega (arith, became_length g, P.short); there = place_there P.laid P.there }

    next : (d : List ℕ) → ((L : Layout) (ss : List Slot) → Laid w b L → PageThere w L (first - w) c ss → Became w b (in_front c (from w first c number.0 ss) L) d) → Pushing w b c size first d (q - size)
    next d f = record { page = i.page; bytes = i.bytes; low = i.low; step = i.step; left = number.0; few = omega (arith, i.few, number.1); at = place; became = f }

    pub pushing_idle : (x m : ℕ) → x ≡ word_at w h (q - size) → m ≡ used_in x → m ≡ 0 → {d : List ℕ} → GaveItem w h (q - size) c d → Pushing w b c size first d (q - size)
    pushing_idle x m ex em f {d} g = next d (λ L ss y t. push_one y t x ex (sym em ∙ f) g)

    pub pushing_held : (x m : ℕ) → x ≡ word_at w h (q - size) → m ≡ used_in x → (m ≡ 0 → ⊥) → Pushing w b c size first h (q - size)
    pushing_held x m ex em f = next h (λ L ss y t. pass_one y t x ex (λ e. f (em ∙ e)))

  -- at the first item all are
  pub pushing_done : (p : ℕ) → first ≡ first_item_at (shape w) p → q ≤ first → PagePushed w b p c h
  pushing_done p ef l =
      let z : first - w ≡ p = omega (arith, ef) in
      let none : i.left ≡ 0 = go i.left (omega (arith, i.at)) in
      record {
        is = λ L ss y t.
            let g = i.became L ss y (subst (λ (y : ℕ). PageThere w L y c ss) (sym z) t) in
            let e : from w first c i.left ss ≡ idle_slots (shape w) c (first_item_at (shape w) p) ss =
            ap (λ (m : ℕ). from w first c m ss) none ∙ ap (λ (y : ℕ). idle_slots (shape w) c y ss) (omega (arith, ef)) in
            subst (λ (l : List ℕ). Became w b (in_front c l L) h) e g;
      }
    where
      go : (m : ℕ) → m * item_size (shape w) c ≡ 0 → m ≡ 0
      go zero e = refl
      go (suc m) e = absurd (omega arith)

  pub pushing_length : length h ≡ length b
  pushing_length = became_length (i.became i.page.layout i.page.slots i.page.laid i.page.there)

-- the same with the head carried along, and not written yet
pub record Carrying (w : ℕ) (b : List ℕ) (c size at first : ℕ) (h : List ℕ) (head q : ℕ) : Type 0 where
  pub place : at ≡ head_at (shape w) c
  pub fits : head < 256 ^ w
  pub pushing : Pushing w b c size first (put w h at head) q

module _ {w : ℕ} {b : List ℕ} {p c : ℕ} (k : PageReady w b p c) where
  pub carrying_start : Bytes b → (size n at first head q : ℕ) → size ≡ item_size (shape w) c → n ≡ (shape w).per_page c → at ≡ head_at (shape w) c → first ≡ first_item_at (shape w) p → head ≡ word_at w b at → q ≡ first + n * size
      → Carrying w b c size at first b head q
  carrying_start bytes size n at first head q es en ea ef eh eq =
      record { place = ea; fits = omega (arith, eh, word_fits w b at bytes); pushing = subst (λ (y : List ℕ). Pushing w b c size first y q) (sym (ap (put w b at) eh ∙ put_again w b at bytes)) (pushing_start k bytes size n first q es en ef eq) }

module _ {w : ℕ} {b : List ℕ} {c size at first : ℕ} {h : List ℕ} {head q : ℕ} (v : Carrying w b c size at first h head q) where
  pub carrying_length : length h ≡ length b
  carrying_length = sym (length_put w h at head) ∙ pushing_length v.pushing

  pub carrying_done : (p : ℕ) → first ≡ first_item_at (shape w) p → q ≤ first → (d : List ℕ) → d ≡ put w h at head → PagePushed w b p c d
  carrying_done p ef l d e = rw e (pushing_done v.pushing p ef l)

  module _ (l : first < q) where
    carried : ItemIn w (put w h at head) (q - size) c
    carried = pushing_item v.pushing l

    numbers : Numbers carried.width (put w h at head) carried.layout (q - size) c carried.laid carried.short carried.there
    numbers = give_numbers (put w h at head) (q - size) c carried

    bytes_now : Bytes (put w h at head)
    bytes_now = let P = v.pushing.page in became_bytes (v.pushing.became P.layout P.slots P.laid P.there) v.pushing.bytes

    -- the head's place is below the blocks, so it and the items are apart
    apart : at + w ≤ start (shape w)
    apart = omega (arith, v.place, numbers.class, mul-le-mul_left w numbers.class)

    long : length h ≡ length (put w h at head)
    long = sym (length_put w h at head)

    read : word_at w (put w h at head) at ≡ head
    read = word_same w h at head (omega (arith, apart, numbers.from, numbers.inside, long)) v.fits

    -- what code needs to know of the item, and of the head
    pub record Carried : Type 0 where
      pub step : size ≤ q
      pub below : q - size < q
      pub inside : q - size + w ≤ length h
      pub from : start (shape w) ≤ q - size
      pub class : c < (shape w).classes
      pub head_small : head ≤ (shape w).most

    pub carrying_room : Carried
    carrying_room =
        let r = pushing_room v.pushing l in
        record {
          step = r.0;
          below = r.2;
          inside = omega (arith, r.1, long);
          from = numbers.from;
          class = numbers.class;
          head_small = omega (arith, numbers.head, numbers.read, ap (word_at w (put w h at head)) v.place, read);
        }

    same_word : (x : ℕ) → x ≡ word_at w h (q - size) → x ≡ word_at w (put w h at head) (q - size)
    same_word x e = e ∙ sym (word_other w h at head (q - size) (λ i j. omega (arith, apart, numbers.from)))

    -- the item is linked where it is free, and passed over where it is in use
    pub carrying_idle : (x m o y : ℕ) → x ≡ word_at w h (q - size) → m ≡ used_in x → m ≡ 0 → o ≡ offset_of (shape w) (q - size) → y ≡ free_header c head → (d : List ℕ) → d ≡ put w h (q - size) y → Carrying w b c size at first d o (q - size)
    carrying_idle x m o y ex em f eo ey d ed =
        let g = put w h at head in
        let written : put w d at o ≡ put w (put w g at (offset_of (shape w) (q - size))) (q - size) (free_header c head) =
        rw (ed, ey, eo) (sym (put_swap w h at (offset_of (shape w) (q - size)) (q - size) (free_header c head) (omega (arith, apart, numbers.from)))
        ∙ ap (λ (y : List ℕ). put w y (q - size) (free_header c head)) (sym (put_over w h at head (offset_of (shape w) (q - size))))) in
        let gave = give_at g (q - size) c carried bytes_now at head v.place (sym read) (put w g at (offset_of (shape w) (q - size))) (put w d at o) refl written in
        record {
          place = v.place;
          fits = omega (arith, eo, numbers.inside, words_fit carried.width (length g) carried.short);
          pushing = pushing_idle v.pushing l x m (same_word x ex) em f gave;
        }

    pub carrying_held : (x m : ℕ) → x ≡ word_at w h (q - size) → m ≡ used_in x → (m ≡ 0 → ⊥) → Carrying w b c size at first h head (q - size)
    carrying_held x m ex em f = record { place = v.place; fits = v.fits; pushing = pushing_held v.pushing l x m (same_word x ex) em f }

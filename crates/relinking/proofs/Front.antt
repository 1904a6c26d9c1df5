-- A list of a class changes from one layout to another with the same blocks, and what the bytes become.
use Rattle.std.proofs.Common.{ℕ, ◌+◌, ◌%◌, ◌≤◌, ◌<◌, ◌≡◌, refl, sym, ap, subst, ◌∙◌, List, [], ◌∷◌, ◌++◌, append_assoc, arith, length, get_or, set, length-set, get_or-set_same, get_or-set_other, set-set, ne_eqb}
use Rattle.std.proofs.Math.Decide.{ℕ_discrete}
use Rattle.std.proofs.Math.Seq.{set-get_or}
use Rattle.words.specs.Width.{Width}
use Rattle.words.specs.Word.{word_at, put, Bytes}
use Rattle.words.proofs.WordLaws.{length_put, put_out, bytes_put, word_agree}
use Rattle.model.specs.Shape.{shape, start, index, offset_of, end_of}
use Rattle.model.specs.Parts.{head_at}
use Rattle.model.specs.Picture.{draw}
use Rattle.model.specs.Layout.{idle, Block, Layout, head_of, words}
use Rattle.model.specs.Sound.{times}
use Rattle.model.specs.Rules.{item_to, pushed}
use Rattle.model.specs.Calls.{drawn}
use Rattle.model.specs.inner.Laid.{Tiled, Laid}
use Rattle.model.specs.inner.Items.{InBlocks}
use Rattle.model.proofs.Good.{shape_good}
use Rattle.model.proofs.Sizes.{words_fit}
use Rattle.model.proofs.items.Push.{push_tiled}
use Rattle.model.proofs.pictures.Pictures.{length_draw, bytes_draw, put_again}
use Rattle.model.proofs.pictures.Shown.{head_in}
use Rattle.model.proofs.pictures.Relist.{NextsStay, head_shown, head_over}
use Rattle.model.proofs.pictures.Places.{drawn_over, drawn_laid, laid_drawn}
use Rattle.items.specs.Items.{GaveItem}
use Rattle.relinking.specs.Relink.{Became, listing, in_front}

-- what bytes became has as many bytes
pub became_length : {w : ℕ} {b d : List ℕ} {M : Layout} → Became w b M d → length d ≡ length b
became_length {w} {b} {d} {M} k = ap length k.is ∙ length_draw w (words (shape w) (end_of (length b)) M) b

pub became_bytes : {w : ℕ} {b d : List ℕ} {M : Layout} → Became w b M d → Bytes b → Bytes d
became_bytes {w} {b} {d} {M} k bytes = subst Bytes (sym k.is) (bytes_draw w (words (shape w) (end_of (length b)) M) b bytes)

module _ {w : ℕ} (wd : Width w) {b : List ℕ} (bytes : Bytes b) (short : length b ≤ (shape w).most) where
  -- at first, nothing has changed
  pub became_start : {L : Layout} → Laid w b L → Became w b L b
  became_start {L} h = record { laid = h; is = laid_drawn wd b L h bytes }

  -- a layout with the same blocks, drawn over a heap that was drawn, is as if drawn alone
  over : {d : List ℕ} {M N : Layout} → Became w b M d → Tiled (shape w) (end_of (length d)) N → N.blocks ≡ M.blocks → drawn (shape w) N d ≡ drawn (shape w) N b
  over {d} {M} {N} k t e =
      let n = became_length k in
      let t' : Tiled (shape w) (end_of (length b)) N = subst (λ (y : ℕ). Tiled (shape w) (end_of y) N) n t in
      ap (drawn (shape w) N) k.is ∙ drawn_over (shape w) (shape_good wd) b M N bytes short e (t'.classes ∙ sym k.laid.tiled.classes) t'

  pub became_then : {d a : List ℕ} {M N : Layout} → Became w b M d → Became w d N a → N.blocks ≡ M.blocks → Became w b N a
  became_then {d} {a} {M} {N} k g e = record { laid = g.laid; is = g.is ∙ over k (subst (λ (y : ℕ). Tiled (shape w) (end_of y) N) (became_length g) g.laid.tiled) e }

  -- bytes that have another layout too, with the same blocks, became that one
  pub became_as : {d : List ℕ} {M N : Layout} → Became w b M d → Laid w d N → N.blocks ≡ M.blocks → Became w b N d
  became_as {d} {M} {N} k g e = record { laid = g; is = laid_drawn wd d N g (became_bytes k bytes) ∙ over k g.tiled e }

-- what a list names, where it is that of class c
module _ {w : ℕ} {end : ℕ} {L : Layout} (t : Tiled (shape w) end L) {c : ℕ} (cl : c < (shape w).classes) (l : List ℕ) where
  list_is : get_or (listing c l L).lists c [] ≡ l
  list_is = get_or-set_same L.lists c l [] (omega (arith, cl, t.classes))

  names : {P : ℕ → Type 0} → ((d o : ℕ) → 1 ≤ times o (get_or L.lists d []) → P o) → ((o : ℕ) → 1 ≤ times o l → P o) → (d o : ℕ) → 1 ≤ times o (get_or (listing c l L).lists d []) → P o
  names {P} old new d o e = go (ℕ_discrete d c)
    where
      go : Dec (d ≡ c) → P o
      go (no k) = old d o (rw (get_or-set_other L.lists c d l [] k) at e)
      go (yes k) = let f : 1 ≤ times o (get_or (listing c l L).lists c []) = rw k at e in new o (rw list_is at f)

  listing_tiled : ((o : ℕ) → 1 ≤ times o l → o ≤ end) → Tiled (shape w) end (listing c l L)
  listing_tiled low = record { fills = t.fills; allowed = t.allowed; apart = t.apart; classes = length-set L.lists c l ∙ t.classes; below = names {P = λ o. o ≤ end} t.below low }

  listing_aligned : ((d o : ℕ) → 1 ≤ times o (get_or L.lists d []) → o % w ≡ 0) → ((o : ℕ) → 1 ≤ times o l → o % w ≡ 0) → (d o : ℕ) → 1 ≤ times o (get_or (listing c l L).lists d []) → o % w ≡ 0
  listing_aligned old new = names {P = λ o. o % w ≡ 0} old new

-- the list of class c becomes l, of which the same comes after each free item: only its head is written
module _ {w : ℕ} (wd : Width w) {b : List ℕ} (bytes : Bytes b) (short : length b ≤ (shape w).most) {L : Layout} (h : Laid w b L) {c : ℕ} (cl : c < (shape w).classes) (l : List ℕ)
    (low : (o : ℕ) → 1 ≤ times o l → o ≤ end_of (length b)) (even : (o : ℕ) → 1 ≤ times o l → o % w ≡ 0)
    (same : NextsStay (shape w) (shape_good wd) (end_of (length b)) L h.tiled c cl l) (fits : head_of l ≤ end_of (length b)) where
  head_laid : Laid w (put w b (head_at (shape w) c) (head_of l)) (listing c l L)
  head_laid =
      let e = length_put w b (head_at (shape w) c) (head_of l) in
      record {
        magic = word_agree 8 (put w b (head_at (shape w) c) (head_of l)) b 0 (λ i k m. put_out w b (head_at (shape w) c) (head_of l) i (λ x y. omega arith)) ∙ h.magic;
        tiled = rw e (listing_tiled h.tiled cl l low);
        aligned = listing_aligned h.tiled cl l h.aligned even;
        shown = rw e (head_shown (shape w) (shape_good wd) (end_of (length b)) L h.tiled c cl l b (omega arith) (omega (arith, fits, words_fit wd (length b) short)) (omega arith) same h.shown);
      }

  pub head_became : Became w b (listing c l L) (put w b (head_at (shape w) c) (head_of l))
  head_became =
      let e = length_put w b (head_at (shape w) c) (head_of l) in
      record {
        laid = head_laid;
        is = laid_drawn wd (put w b (head_at (shape w) c) (head_of l)) (listing c l L) head_laid (bytes_put w b (head_at (shape w) c) (head_of l) bytes)
            ∙ ap (λ (y : ℕ). draw w (words (shape w) (end_of y) (listing c l L)) (put w b (head_at (shape w) c) (head_of l))) e
            ∙ head_over (shape w) (shape_good wd) (end_of (length b)) L h.tiled c cl l b (listing c l L) (omega arith) bytes (omega arith) (listing_tiled h.tiled cl l low);
      }

  -- and where the head is the same, nothing is
  pub listing_laid : head_of l ≡ head_of (get_or L.lists c []) → Laid w b (listing c l L)
  listing_laid e =
      let read : head_of l ≡ word_at w b (head_at (shape w) c) = e ∙ sym (head_in (shape w) b (end_of (length b)) L h.shown h.tiled.classes c cl) in
      subst (λ (y : List ℕ). Laid w y (listing c l L)) (ap (λ (v : ℕ). put w b (head_at (shape w) c) v) read ∙ put_again w b (head_at (shape w) c) bytes) head_laid

-- an item that is free goes to the head of the list, in front of what is there already
module _ {w : ℕ} (wd : Width w) {b : List ℕ} (bytes : Bytes b) (short : length b ≤ (shape w).most) (L : Layout) (c : ℕ) (cl : c < (shape w).classes) (xs : List ℕ) {h : List ℕ} (k : Became w b (in_front c xs L) h) where
  pub front_list : get_or (in_front c xs L).lists c [] ≡ xs ++ get_or L.lists c []
  front_list = get_or-set_same L.lists c (xs ++ get_or L.lists c []) [] (omega (arith, cl, sym (length-set L.lists c (xs ++ get_or L.lists c [])) ∙ k.laid.tiled.classes))

  -- two times in front are one
  front_front : (ys : List ℕ) → in_front c ys (in_front c xs L) ≡ in_front c (ys ++ xs) L
  front_front ys =
      ap (λ (ls : List (List ℕ)). record { blocks = L.blocks; lists = ls })
      (set-set L.lists c (xs ++ get_or L.lists c []) (ys ++ get_or (in_front c xs L).lists c []) ∙ ap (λ (l : List ℕ). set L.lists c l) (ap (λ (l : List ℕ). ys ++ l) front_list ∙ sym (append_assoc ys xs (get_or L.lists c []))))

  pub front_then : (ys : List ℕ) {d : List ℕ} → Became w h (in_front c ys (in_front c xs L)) d → Became w b (in_front c (ys ++ xs) L) d
  front_then ys {d} g = subst (λ (M : Layout). Became w b M d) (front_front ys) (became_then wd bytes short k g refl)

  module _ {q : ℕ} {d : List ℕ} (from : index (shape w) ≤ q) (there : InBlocks (shape w) c q (start (shape w)) L.blocks) (stays : item_to (shape w) idle q (start (shape w)) L.blocks ≡ L.blocks) (even : offset_of (shape w) q % w ≡ 0) (g : GaveItem w h q c d) where
    q_is : index (shape w) + offset_of (shape w) q ≡ q
    q_is = omega arith

    pushed_is : pushed (shape w) c (offset_of (shape w) q) (in_front c xs L) ≡ in_front c (offset_of (shape w) q ∷ []) (in_front c xs L)
    pushed_is = ap (λ (bs : List Block). record { blocks = bs; lists = set (in_front c xs L).lists c (offset_of (shape w) q ∷ get_or (in_front c xs L).lists c []) }) (ap (λ (y : ℕ). item_to (shape w) idle y (start (shape w)) L.blocks) q_is ∙ stays)

    pushed_even : (x : ℕ) → 1 ≤ times x (offset_of (shape w) q ∷ get_or (in_front c xs L).lists c []) → x % w ≡ 0
    unfolding times
    pushed_even x e = go (ℕ_discrete x (offset_of (shape w) q))
      where
        go : Dec (x ≡ offset_of (shape w) q) → x % w ≡ 0
        go (yes z) = rw z even
        go (no z) = k.laid.aligned c x (omega (arith, rw (ne_eqb x (offset_of (shape w) q) z) at e))

    pushed_laid : Laid w (drawn (shape w) (pushed (shape w) c (offset_of (shape w) q) (in_front c xs L)) h) (pushed (shape w) c (offset_of (shape w) q) (in_front c xs L))
    pushed_laid =
        let n : length h ≤ (shape w).most = omega (arith, became_length k, short) in
        drawn_laid wd h (pushed (shape w) c (offset_of (shape w) q) (in_front c xs L)) k.laid.magic
        (push_tiled (shape w) (shape_good wd) h (in_front c xs L) k.laid.tiled k.laid.shown c (offset_of (shape w) q) cl (rw q_is there) n)
        (listing_aligned k.laid.tiled cl (offset_of (shape w) q ∷ get_or (in_front c xs L).lists c []) k.laid.aligned pushed_even) n

    pub push_front : Became w b (in_front c (offset_of (shape w) q ∷ xs) L) d
    push_front =
        let is = g.draws (in_front c xs L) k.laid there in
        front_then (offset_of (shape w) q ∷ [])
        (subst (λ (M : Layout). Became w h M d) pushed_is (record { laid = subst (λ (y : List ℕ). Laid w y (pushed (shape w) c (offset_of (shape w) q) (in_front c xs L))) (sym is) pushed_laid; is = is }))

-- nothing in front is no change
pub front_none : {w : ℕ} {b d : List ℕ} {L : Layout} (c : ℕ) → Became w b L d → Became w b (in_front c [] L) d
front_none {w} {b} {d} {L} c k = subst (λ (ls : List (List ℕ)). Became w b (record { blocks = L.blocks; lists = ls }) d) (sym (set-get_or L.lists c [])) k

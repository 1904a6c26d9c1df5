-- An item goes to the head of its list, or one in use is for another size from now on: what is read and what is written.
use Rattle.std.proofs.Common.{ℕ, ◌+◌, ◌*◌, ◌<◌, ◌≤◌, ◌≡◌, sym, ap, subst, ◌∙◌, List, [], arith, length, get_or}
use Rattle.words.specs.Width.{Width}
use Rattle.words.specs.Word.{word_at, put, Bytes}
use Rattle.model.specs.Shape.{shape, class_of, offset_of, end_of, index, start}
use Rattle.model.specs.Parts.{free_header, held_header, head_at}
use Rattle.model.specs.Layout.{Layout, head_of}
use Rattle.model.specs.Sound.{Here, Sound}
use Rattle.model.specs.Rules.{thing, find, freed, pushed, renewed}
use Rattle.model.specs.Calls.{drawn}
use Rattle.model.specs.inner.Laid.{Laid}
use Rattle.model.specs.inner.Items.{InBlocks}
use Rattle.model.proofs.Good.{shape_good}
use Rattle.model.proofs.pictures.Drawn.{head_of_lem, listed_below}
use Rattle.model.proofs.items.Items.{blocks_range, blocks_class}
use Rattle.model.proofs.pictures.Shown.{head_in}
use Rattle.model.proofs.items.Aligned.{laid}
use Rattle.model.proofs.items.Asked.{within_own}
use Rattle.model.proofs.items.Push.{pushed_here, push_law, renewed_here, renew_law}
use Rattle.model.proofs.walks.Finding.{ItemFound, item_found}
use Rattle.items.specs.Items.{ItemIn, GaveItem, ItemLive, RenewedItem}
use Rattle.model.proofs.Sizes.{words_fit}

-- an item of a heap that is laid out
module _ {w : ℕ} (wd : Width w) (b : List ℕ) (L : Layout) (q c : ℕ) (h : Laid w b L) (short : length b ≤ (shape w).most) (there : InBlocks (shape w) c q (start (shape w)) L.blocks) where
  pub record Numbers : Type 0 where
    pub class : c < (shape w).classes
    pub from : start (shape w) ≤ q
    pub inside : q + (8 + 2 * w) ≤ length b
    pub head : head_of (get_or L.lists c []) ≤ (shape w).most
    pub read : word_at w b (head_at (shape w) c) ≡ head_of (get_or L.lists c [])

  pub numbers : Numbers
  numbers =
      let r = blocks_range (shape w) c q (start (shape w)) L.blocks there in
      let cl = blocks_class (shape w) c q (start (shape w)) L.blocks h.tiled.allowed there in
      record {
        class = cl;
        from = r.0;
        inside = omega (arith, r.1, h.tiled.fills);
        head = omega (arith, listed_below (shape w) (shape_good wd) (end_of (length b)) L h.tiled (omega arith) c (head_of (get_or L.lists c [])) (head_of_lem (get_or L.lists c [])));
        read = head_in (shape w) b (end_of (length b)) L h.shown h.tiled.classes c cl;
      }

  pub given_drawn : Bytes b → (first : ℕ) → first ≡ word_at w b (head_at (shape w) c) → put w (put w b (head_at (shape w) c) (offset_of (shape w) q)) q (free_header c first) ≡ drawn (shape w) (pushed (shape w) c (offset_of (shape w) q) L) b
  given_drawn bytes first e =
      let n = numbers in
      let q' : index (shape w) + offset_of (shape w) q ≡ q = omega (arith, n.from) in
      let fe : first ≡ head_of (get_or L.lists c []) = e ∙ n.read in
      let law = push_law (shape w) (shape_good wd) b L h.tiled h.shown c (offset_of (shape w) q) n.class (rw q' there) short bytes (omega (arith, n.inside, words_fit wd (length b) short)) (omega (arith, n.class, words_fit wd (head_of (get_or L.lists c [])) n.head)) in
      rw fe (ap (λ (y : ℕ). put w (put w b (head_at (shape w) c) (offset_of (shape w) q)) y (free_header c (head_of (get_or L.lists c [])))) (sym q') ∙ law)

module _ {w : ℕ} (b : List ℕ) (q c : ℕ) (k : ItemIn w b q c) where
  pub give_numbers : Numbers k.width b k.layout q c k.laid k.short k.there
  give_numbers = numbers k.width b k.layout q c k.laid k.short k.there

  give_law : Bytes b → (first : ℕ) → first ≡ word_at w b (head_at (shape w) c) → (d e : List ℕ) → d ≡ put w b (head_at (shape w) c) (offset_of (shape w) q) → e ≡ put w d q (free_header c first) → GaveItem w b q c e
  give_law bytes first ef d e ed ee = let all : e ≡ put w (put w b (head_at (shape w) c) (offset_of (shape w) q)) q (free_header c first) = rw ed at ee in record { draws = λ L h i. all ∙ given_drawn k.width b L q c h k.short i bytes first ef }

  -- the same where the head's place was worked out
  pub give_at : Bytes b → (head first : ℕ) → head ≡ head_at (shape w) c → first ≡ word_at w b head → (d e : List ℕ) → d ≡ put w b head (offset_of (shape w) q) → e ≡ put w d q (free_header c first) → GaveItem w b q c e
  give_at bytes head first eh ef d e ed ee = give_law bytes first (rw eh at ef) d e (rw eh at ed) ee

  pub give_first : (head first : ℕ) → head ≡ head_at (shape w) c → first ≡ word_at w b head → first ≤ (shape w).most
  give_first head first eh ef = let n = give_numbers in omega (arith, rw eh at ef, n.read, n.head)

-- an item in use of a sound heap
module _ {w : ℕ} (wd : Width w) (b : List ℕ) (L : Layout) (a q c k : ℕ) (h : Here (shape w) b L) (low : index (shape w) ≤ q) (f : find (shape w) a L ≡ thing (offset_of (shape w) q) c k) where
  found : ItemFound (shape w) (shape_good wd) a (offset_of (shape w) q) c k (start (shape w)) L.blocks
  found = item_found (shape w) (shape_good wd) a (offset_of (shape w) q) c k (start (shape w)) L.blocks (omega arith) h.valid.allowed f

  found_there : InBlocks (shape w) c q (start (shape w)) L.blocks
  found_there = let q' : index (shape w) + offset_of (shape w) q ≡ q = omega arith in rw (← q') found.there

  given_here : length b ≤ (shape w).most → Here (shape w) (drawn (shape w) (freed (shape w) (thing (offset_of (shape w) q) c k) L) b) (freed (shape w) (thing (offset_of (shape w) q) c k) L)
  unfolding freed
  given_here short = pushed_here (shape w) (shape_good wd) b L h c (offset_of (shape w) q) k found.class found.there found.in_use short

  -- and where it is for n bytes from now on
  module _ (short : length b ≤ (shape w).most) (n : ℕ) (own : class_of n ≡ c) where
    renewed_here_at : Here (shape w) (drawn (shape w) (renewed (shape w) n (offset_of (shape w) q) L) b) (renewed (shape w) n (offset_of (shape w) q) L)
    renewed_here_at = renewed_here (shape w) (shape_good wd) b L h c (offset_of (shape w) q) k found.class found.there found.in_use short n (within_own c n own)

    renewed_drawn : Bytes b → put w b q (held_header c n) ≡ drawn (shape w) (renewed (shape w) n (offset_of (shape w) q) L) b
    renewed_drawn bytes =
        let q' : index (shape w) + offset_of (shape w) q ≡ q = omega arith in
        let law = renew_law (shape w) (shape_good wd) b L h c (offset_of (shape w) q) k found.class found.there found.in_use short n (within_own c n own) bytes in
        ap (λ (y : ℕ). put w b y (held_header c n)) (sym q') ∙ law

-- where it is given back the rule's layout is drawn
pub gave_draws : {w : ℕ} → Width w → {b : List ℕ} {q c : ℕ} {d : List ℕ} → index (shape w) ≤ q → GaveItem w b q c d → (L : Layout) (a k : ℕ) → Here (shape w) b L → find (shape w) a L ≡ thing (offset_of (shape w) q) c k
    → d ≡ drawn (shape w) (freed (shape w) (thing (offset_of (shape w) q) c k) L) b
unfolding freed
gave_draws wd {b} {q} {c} low g L a k h f = g.draws L (laid wd h) (found_there wd b L a q c k h low f)

module _ {w : ℕ} {b : List ℕ} {q c : ℕ} (k : ItemLive w b q c) where
  pub live_in : ItemIn w b q c
  live_in =
      record {
        width = k.width;
        layout = k.layout;
        laid = laid k.width k.here;
        short = k.short;
        there = found_there k.width b k.layout k.address q c k.asked k.here k.low k.found;
      }

  -- and a sound heap stays sound
  pub gave_sound : {d : List ℕ} → GaveItem w b q c d → Sound (shape w) d
  gave_sound g =
      record {
        layout = freed (shape w) (thing (offset_of (shape w) q) c k.asked) k.layout;
        here = subst (λ (y : List ℕ). Here (shape w) y (freed (shape w) (thing (offset_of (shape w) q) c k.asked) k.layout))
            (sym (gave_draws k.width k.low g k.layout k.address k.asked k.here k.found))
            (given_here k.width b k.layout k.address q c k.asked k.here k.low k.found k.short);
      }

  pub renew_numbers : Numbers live_in.width b live_in.layout q c live_in.laid live_in.short live_in.there
  renew_numbers = give_numbers b q c live_in

  pub renew_at : (n : ℕ) → class_of n ≡ c → Bytes b → (d : List ℕ) → d ≡ put w b q (held_header c n) → RenewedItem w b q c n d
  renew_at n own bytes d ed =
      record {
        draws = λ L a m h f. ed ∙ renewed_drawn k.width b L a q c m h k.low f k.short n own bytes;
        sound = record {
          layout = renewed (shape w) n (offset_of (shape w) q) k.layout;
          here = subst (λ (y : List ℕ). Here (shape w) y (renewed (shape w) n (offset_of (shape w) q) k.layout))
              (sym (ed ∙ renewed_drawn k.width b k.layout k.address q c k.asked k.here k.low k.found k.short n own bytes))
              (renewed_here_at k.width b k.layout k.address q c k.asked k.here k.low k.found k.short n own);
        };
      }

-- The bytes of a heap as the first of a buffer's.
use Rattle.std.proofs.Common.{ℕ, ◌+◌, ◌-◌, ◌%◌, ◌≤◌, ◌<◌, ◌≡◌, sym, ap, subst, ◌∙◌, List, append-nil, arith, length, get_or, take, drop, length-append, length-drop, take-append-drop, length-take-le, take_all, get_or-append-add, get_or-drop, get_or-take}
use Rattle.std.proofs.Math.Decide.{dec_le, dec_lt}
use Rattle.std.proofs.Math.ListN.{get_or-append, get_or-eq_default}
use Rattle.std.proofs.Math.Seq.{drop-length, take-append_seam, take-append-le, drop-append-le}
use Rattle.words.specs.Word.{word_at, Bytes}
use Rattle.words.proofs.WordLaws.{word_agree}
use Rattle.model.specs.Shape.{Shape, start, end_of}
use Rattle.model.specs.Parts.{end_at}
use Rattle.model.specs.Picture.{Shows}
use Rattle.model.specs.Layout.{Layout, fixed_low, fixed_high, words}
use Rattle.model.specs.Sound.{Here, MayEnd, stored_end, heap_of, HereIn}
use Rattle.model.specs.Live.{Payload, content}
use Rattle.model.specs.Calls.{refused, Opened, fronted, in_buffer}
use Rattle.model.proofs.blocks.Blocks.{le_ends}

-- the first bytes of a buffer put back change nothing
pub fronted_own : (e : ℕ) (b : List ℕ) → fronted (take e b) b ≡ b
fronted_own e b = go (dec_le e (length b))
  where
    go : Dec (e ≤ length b) → fronted (take e b) b ≡ b
    go (yes l) = rw (length-take-le e b l) (take-append-drop e b)
    go (no l) = rw (take_all e b (omega (arith, l)), drop-length b) (append-nil b)

pub refused_own : (S : Shape) (b : List ℕ) (k : ℕ) → in_buffer b (refused (heap_of S b) k) ≡ refused b k
refused_own S b k = ap (λ (c : List ℕ). refused c k) (fronted_own (stored_end S b) b)

module _ (h b : List ℕ) where
  pub front_length : length h ≤ length b → length (fronted h b) ≡ length b
  front_length l = length-append h (drop (length h) b) ∙ omega (arith, l, length-drop (length h) b)

  -- each byte is the heap's or the buffer's
  pub front_below : (i : ℕ) → i < length h → get_or (fronted h b) i 0 ≡ get_or h i 0
  front_below i l = get_or-append h (drop (length h) b) 0 i l

  pub front_behind : (i : ℕ) → length h ≤ i → get_or (fronted h b) i 0 ≡ get_or b i 0
  front_behind i l =
      let e : length h + (i - length h) ≡ i = omega (arith, l) in
      subst (λ (j : ℕ). get_or (fronted h b) j 0 ≡ get_or b j 0) e (get_or-append-add h (drop (length h) b) (i - length h) 0 ∙ get_or-drop (length h) b (i - length h) 0)

  pub front_bytes : Bytes h → Bytes b → Bytes (fronted h b)
  front_bytes x y i = go (dec_lt i (length h))
    where
      go : Dec (i < length h) → get_or (fronted h b) i 0 < 256
      go (yes l) = rw (front_below i l) (x i)
      go (no l) = rw (front_behind i (omega (arith, l))) (y i)

  pub front_word : (w p : ℕ) → p + w ≤ length h → word_at w (fronted h b) p ≡ word_at w h p
  front_word w p l = word_agree w (fronted h b) h p (λ i lo hi. front_below i (omega (arith, l, hi)))

  -- what lies within the heap has the same bytes in the buffer
  pub front_content : (x : Payload) → x.address + x.size ≤ length h → content (fronted h b) x ≡ content h x
  front_content x l =
      ap (λ (c : List ℕ). take x.size c) (drop-append-le x.address h (drop (length h) b) (omega (arith, l)))
      ∙ take-append-le x.size (drop x.address h) (drop (length h) b) (omega (arith, l, length-drop x.address h))

pub take_word : (w e : ℕ) (b : List ℕ) (p : ℕ) → p + w ≤ e → word_at w (take e b) p ≡ word_at w b p
take_word w e b p l = word_agree w (take e b) b p (λ i lo hi. get_or-take e b i 0 (omega (arith, l, hi)))

pub take_content : (e : ℕ) (b : List ℕ) (x : Payload) → e ≤ length b → x.address + x.size ≤ e → content (take e b) x ≡ content b x
take_content e b x l m = sym (front_content (take e b) b x (omega (arith, m, length-take-le e b l))) ∙ ap (λ (c : List ℕ). content c x) (fronted_own e b)

pub take_bytes : (e : ℕ) (b : List ℕ) → e ≤ length b → Bytes b → Bytes (take e b)
take_bytes e b l k i = go (dec_lt i e)
  where
    go : Dec (i < e) → get_or (take e b) i 0 < 256
    go (yes m) = rw (get_or-take e b i 0 m) (k i)
    go (no m) = rw (get_or-eq_default (take e b) 0 {n = i} (omega (arith, m, length-take-le e b l))) (omega arith)

module _ (S : Shape) where
  -- a heap's bytes name their end, and reach behind the index page
  pub named_end : (h : List ℕ) (L : Layout) → Here S h L → stored_end S h ≡ end_of (length h)
  unfolding words fixed_low fixed_high Shows
  named_end h L x = x.shown.1.1.1.0

  pub past_start : (h : List ℕ) (L : Layout) → Here S h L → start S ≤ length h
  past_start h L x = omega (arith, x.valid.fills, le_ends S (start S) L.blocks)

  module _ (h b : List ℕ) (L : Layout) (x : Here S h L) (eight : length h % 8 ≡ 0) where
    -- the buffer names the same end
    pub front_end : stored_end S (fronted h b) ≡ length h
    front_end = front_word h b S.word (end_at S) (omega (arith, past_start h L x)) ∙ named_end h L x ∙ omega (arith, eight)

    pub front_heap : heap_of S (fronted h b) ≡ h
    front_heap = ap (λ (e : ℕ). take e (fronted h b)) front_end ∙ take-append_seam h (drop (length h) b)

    -- THE LAW: a heap put at the front of a buffer stands in it
    pub front_here : MayEnd S (length b) (length h) → HereIn S (fronted h b) L
    front_here m =
        record {
          ended = subst (λ (e : ℕ). MayEnd S (length (fronted h b)) e) (sym front_end) (subst (λ (n : ℕ). MayEnd S n (length h)) (sym (front_length h b (omega (arith, m.1)))) m);
          here = subst (λ (c : List ℕ). Here S c L) (sym front_heap) x;
        }

  -- the heap in a buffer: its length, and its first bytes
  module _ (b : List ℕ) (L : Layout) (x : HereIn S b L) where
    pub own_length : length (heap_of S b) ≡ stored_end S b
    own_length = length-take-le (stored_end S b) b (omega (arith, x.ended.1))

    pub own_eight : length (heap_of S b) % 8 ≡ 0
    own_eight = rw own_length x.ended.2

    pub own_ends : end_of (length (heap_of S b)) ≡ stored_end S b
    own_ends = omega (arith, own_length, x.ended.2)

    pub own_start : start S ≤ stored_end S b
    own_start = omega (arith, own_length, past_start (heap_of S b) L x.here)

    pub own_opened : Opened S b
    own_opened = sym (take_word 8 (stored_end S b) b 0 (omega (arith, own_start))) ∙ x.here.magic

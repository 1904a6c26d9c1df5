-- A heap that grows: when it cannot, and what is written where it does.
use Rattle.std.proofs.Common.{Option, ℕ, ◌+◌, ◌-◌, ◌%◌, ◌≤◌, ◌<◌, ◌≡◌, refl, sym, ap, ap₂, subst, ◌∙◌, Bool, true, false, List, [], ◌∷◌, ◌++◌, append-nil, Some, None, arith, length, get_or, take, drop, length-take-le, get_or-take, leb, le-leb, leb-true}
use Rattle.std.proofs.Math.Option.{none}
use Rattle.model.specs.declared.Position.{Position}
use Rattle.std.proofs.Math.Decide.{dec_lt}
use Rattle.words.specs.Width.{Width}
use Rattle.words.specs.Word.{put, Bytes}
use Rattle.std.proofs.lemmas.Bool.{lt-leb}
use Rattle.model.specs.Shape.{shape, start, end_of, largest_item, class_of, page_need, need_of}
use Rattle.model.specs.Parts.{end_at}
use Rattle.model.specs.Picture.{Shows, draw}
use Rattle.model.specs.Layout.{Block, free, Layout, ends, end_in, first_free, own, block_words, words}
use Rattle.model.specs.Sound.{AllAllowed, Valid, stored_end, heap_of, HereIn}
use Rattle.model.specs.Rules.{allocate, wanted, longer}
use Rattle.model.specs.Calls.{drawn, fronted}
use Rattle.model.specs.inner.Walks.{last_free}
use Rattle.model.specs.inner.Links.{link_of}
use Rattle.model.specs.inner.Edges.{Edged}
use Rattle.model.proofs.Good.{shape_good}
use Rattle.model.proofs.pictures.Pictures.{Outside, rise_out, shows_left, shows_same, length_draw}
use Rattle.model.proofs.pictures.Drawn.{tiled}
use Rattle.model.proofs.pictures.Fronts.{take_bytes, own_length, own_eight, own_ends}
use Rattle.model.proofs.blocks.Blocks.{ends_append, le_ends, allowed_left}
use Rattle.model.proofs.blocks.Replace.{front, three, words_parts, rise_front}
use Rattle.model.proofs.blocks.Middle.{link_in, prev_in, middle_of}
use Rattle.model.proofs.blocks.Grown.{regrown}
use Rattle.model.proofs.rules.Growth.{wanted_allowed, at_end, longer_ends, longer_valid, longer_eight, longer_further}
use Rattle.links.specs.Links.{free_words, linked_bytes}
use Rattle.telling.specs.Tells.{Tells}
use Rattle.telling.proofs.Tellings.{clash, tells_no}
use Rattle.engine.specs.Allocate.{Asked}
use Rattle.growing.specs.Growing.{Whole, EdgeAt, FreeBefore, ExtendRoom, extended_bytes, Holding, RoomToGrow, Grown}

-- the need, by the size
pub by_page : (w n : ℕ) → n ≤ largest_item (shape w) → wanted (shape w) n ≡ page_need (shape w) (class_of n)
by_page w n l = rw (le-leb n (largest_item (shape w)) l) refl

pub by_block : (w n : ℕ) → largest_item (shape w) < n → wanted (shape w) n ≡ need_of (shape w) n
by_block w n l = rw (lt-leb n (largest_item (shape w)) l) refl

-- whether it has room to grow: no; or by the bytes behind its end
pub tells_fixed : (w n e : ℕ) → (shape w).grows ≡ false → Tells false (RoomToGrow w n e)
tells_fixed w n e g = tells_no (RoomToGrow w n e) (λ m. clash (shape w).grows g m.0)

pub tells_more : (w n e : ℕ) → e ≤ n → (shape w).grows ≡ true → Tells (leb 8 (n - e)) (RoomToGrow w n e)
tells_more w n e l g = record { yes_is = λ q. (g, omega (arith, leb-true 8 (n - e) q, l)); is_yes = λ m. le-leb 8 (n - e) (omega (arith, m.1)) }

module _ {w : ℕ} (b : List ℕ) (x : Holding w b) (n : ℕ) (asked : Asked w n) where
  abbrev e : ℕ
  e = stored_end (shape w) b

  abbrev wd : Width w
  wd = x.width

  inside : e ≤ length b
  inside = omega (arith, x.sound.here.ended.1)

  pub end_within : (end : ℕ) → end ≡ stored_end (shape w) b → end ≤ length b
  end_within end k = omega (arith, k, inside)

  -- the heap's part of the buffer
  pub part_whole : (end : ℕ) → end ≡ stored_end (shape w) b → Whole w (take (end - 0) b)
  part_whole end k =
      let same : end - 0 ≡ e = omega (arith, k) in
      let h = x.sound.here in
      subst (λ (y : ℕ). Whole w (take y b)) (sym same)
      (record { width = wd; sound = record { layout = x.sound.layout; here = h.here }; eight = own_eight (shape w) b x.sound.layout h; short = omega (arith, own_length (shape w) b x.sound.layout h, inside, x.lent.1) })

  module _ (L : Layout) (h : HereIn (shape w) b L) where
    was : Valid (shape w) e L
    was = subst (λ (y : ℕ). Valid (shape w) y L) (own_ends (shape w) b L h) h.here.valid

    abbrev G : Layout
    G = longer (shape w) n L

    pub further : allocate (shape w) n L ≡ none → e < end_in (shape w) G
    further = longer_further wd n asked.some_byte e L was

    eight : end_in (shape w) G % 8 ≡ 0
    eight = longer_eight wd n asked.some_byte e L was h.ended.2

    abbrev pre : List Block
    pre = (at_end wd n asked.some_byte e L was).pre

    abbrev old : List Block
    old = (at_end wd n asked.some_byte e L was).old

    edged : Edged L pre old
    edged = let y = at_end wd n asked.some_byte e L was in record { blocks = y.was; last = y.last }

    -- where the new block begins, and the end then
    to_is : (from : ℕ) → EdgeAt w (heap_of (shape w) b) from → end_in (shape w) G ≡ from + wanted (shape w) n
    to_is from y = longer_ends wd n asked.some_byte e L was ∙ ap (λ (z : ℕ). z + wanted (shape w) n) (sym (y.is L h.here pre old edged))

    -- what stood before it is shown by the longer part too
    module _ (to : ℕ) (more : e ≤ to) (room : to ≤ length b) where
      abbrev p : ℕ
      p = ends (shape w) (start (shape w)) pre

      pre_allowed : AllAllowed (shape w) pre
      pre_allowed = allowed_left (shape w) pre old (subst (λ (bs : List Block). AllAllowed (shape w) bs) edged.blocks was.allowed)

      p_le : p ≤ e
      p_le =
          let f : ends (shape w) p old ≡ e = sym (ends_append (shape w) (start (shape w)) pre old) ∙ ap (λ (bs : List Block). ends (shape w) (start (shape w)) bs) (sym edged.blocks) ∙ was.fills in
          omega (arith, f, le_ends (shape w) p old)

      abbrev next : ℕ
      next = first_free (shape w) p old 0

      front_was : Shows w (heap_of (shape w) b) (front (shape w) e L.lists pre next)
      front_was =
          let split : L.blocks ≡ pre ++ (old ++ []) = edged.blocks ∙ ap (λ (bs : List Block). pre ++ bs) (sym (append-nil old)) in
          let s : Shows w (heap_of (shape w) b) (words (shape w) e (three (shape w) L.lists pre old [])) =
          subst (λ (bs : List Block). Shows w (heap_of (shape w) b) (words (shape w) e (record { blocks = bs; lists = L.lists }))) split
          (subst (λ (y : ℕ). Shows w (heap_of (shape w) b) (words (shape w) y L)) (own_ends (shape w) b L h) h.here.shown) in
          shows_left w (heap_of (shape w) b) (front (shape w) e L.lists pre next) _
          (rw (words_parts (shape w) e L.lists pre old [] p (ends (shape w) p old) (last_free (shape w) (start (shape w)) pre 0) 0 (record { begins = refl; finishes = refl; before = refl; behind = unfold first_free in refl })) at s)

      front_shown : Shows w (take to b) (front (shape w) e L.lists pre next)
      front_shown = shows_same w (front (shape w) e L.lists pre next) (heap_of (shape w) b) (take to b) (λ i o. at i o (dec_lt i p)) front_was
        where
          at : (i : ℕ) → (Outside w i (front (shape w) e L.lists pre next) → ⊥) → Dec (i < p) → get_or (take to b) i 0 ≡ get_or (heap_of (shape w) b) i 0
          at i o (yes l) = get_or-take to b i 0 (omega (arith, l, p_le, more)) ∙ sym (get_or-take e b i 0 (omega (arith, l, p_le)))
          at i o (no l) = absurd (o (rise_out w 8 (front (shape w) e L.lists pre next) p i (rise_front (shape w) e L.lists pre next was.classes pre_allowed) (λ _ k. l k)))

      -- THE LAW: the new block and the end, written, are the longer heap's picture, drawn
      grown_bytes_lem : Bytes b → allocate (shape w) n L ≡ none → to ≡ end_in (shape w) G → extended_bytes w (take to b) p (last_free (shape w) (start (shape w)) pre 0) ≡ drawn (shape w) G (take to b)
      unfolding linked_bytes free_words block_words own first_free
      grown_bytes_lem bytes none_found at =
          let need = wanted (shape w) n in
          let y = at_end wd n asked.some_byte e L was in
          let long : length (take to b) ≡ to = length-take-le to b room in
          let prev = last_free (shape w) (start (shape w)) pre 0 in
          let v : Valid (shape w) to (record { blocks = pre ++ (free need ∷ []); lists = L.lists }) =
          subst (λ (bs : List Block). Valid (shape w) to (record { blocks = bs; lists = L.lists })) y.is (subst (λ (z : ℕ). Valid (shape w) z G) (sym at) (longer_valid wd n asked.some_byte e L was)) in
          let size : to - p ≡ need = omega (arith, at, longer_ends wd n asked.some_byte e L was) in
          let end-of : end_of (length (take to b)) ≡ to = omega (arith, long, at, eight) in
          let r = regrown (shape w) (shape_good wd) e to L.lists pre (free need ∷ []) p prev next (take to b) (take_bytes to b room bytes) (omega (arith, long)) (omega (arith, room, x.lent.1)) refl refl (tiled (shape w) v) front_shown in
          ap (λ (z : ℕ). linked_bytes w (put w (take to b) (end_at (shape w)) z) p z prev 0) long
          ∙ ap (λ (z : ℕ). draw w (record { at = link_of (shape w) prev; is = p } ∷ free_words w p z prev 0) (put w (take to b) (end_at (shape w)) to)) size
          ∙ r
          ∙ ap (λ (bs : List Block). draw w (words (shape w) to (record { blocks = bs; lists = L.lists })) (take to b)) (sym y.is)
          ∙ ap (λ (z : ℕ). draw w (words (shape w) z G) (take to b)) (sym end-of)

  module _ (end : ℕ) (k : end ≡ stored_end (shape w) b) where
    -- it cannot: it ends with its buffer; or there are not 8 bytes more; or not so many as it needs
    ends_there : (shape w).grows ≡ false → Grown w b n None b
    ends_there g = record { grows = λ L h f r. absurd (omega (arith, further L h f, r, rw g at h.ended.0)); stays = λ L h f r. (refl, refl) }

    too_near : length b - end < 8 → Grown w b n None b
    too_near l = record { grows = λ L h f r. absurd (omega (arith, further L h f, r, eight L h, h.ended.2, l, k, inside)); stays = λ L h f r. (refl, refl) }

    pub ends_with : (RoomToGrow w (length b) end → ⊥) → Grown w b n None b
    ends_with f = go (shape w).grows refl
      where
        go : (v : Bool) → (shape w).grows ≡ v → Grown w b n None b
        go false g = ends_there g
        go true g = near (dec_lt (length b - end) 8)
          where
            near : Dec (length b - end < 8) → Grown w b n None b
            near (yes l) = too_near l
            near (no l) = absurd (f (g, omega (arith, l, k, inside)))

    module _ (from need : ℕ) (i : need ≡ wanted (shape w) n) (y : EdgeAt w (take (end - 0) b) from) where
      own_edge : EdgeAt w (heap_of (shape w) b) from
      own_edge = let q : end - 0 ≡ e = omega (arith, k) in subst (λ (z : ℕ). EdgeAt w (take z b) from) q y

      -- for the heap that is there
      from_within : from ≤ length b
      from_within =
          let L = x.sound.layout in
          let h = x.sound.here in
          omega (arith, own_edge.is L h.here (pre L h) (old L h) (edged L h), p_le L h e (omega arith) inside, inside)

      pub edge_within : from ≤ length b
      edge_within = from_within

      pub too_little : length b - from < need → Grown w b n None b
      too_little l = record { grows = λ L h f r. absurd (omega (arith, to_is L h from own_edge, r, l, i, from_within)); stays = λ L h f r. (refl, refl) }

      module _ (room : need ≤ length b - from) (before : ℕ) (z : FreeBefore w (take (end - 0) b) before) where
        own_before : FreeBefore w (heap_of (shape w) b) before
        own_before = let q : end - 0 ≡ e = omega (arith, k) in subst (λ (v : ℕ). FreeBefore w (take v b) before) q z

        pub to_within : from + need ≤ length b
        to_within = omega (arith, room, from_within)

        pub extend_room : ExtendRoom w (length (take (from + need - 0) b)) from before
        extend_room =
            let L = x.sound.layout in
            let h = x.sound.here in
            let f = own_edge.is L h.here (pre L h) (old L h) (edged L h) in
            let g = own_before.is L h.here (pre L h) (old L h) (edged L h) in
            let long : length (take (from + need - 0) b) ≡ from + need = rw (plain (from + need)) (length-take-le (from + need) b to_within) in
            let m = middle_of (shape w) (heap_of (shape w) b) L (pre L h) (old L h) [] (ends (shape w) (start (shape w)) (pre L h)) h.here ((edged L h).blocks ∙ ap (λ (bs : List Block). pre L h ++ bs) (sym (append-nil (old L h)))) refl in
            let a = wanted_allowed wd n asked.some_byte in
            record {
              width = wd;
              past = omega (arith, long, f, le_ends (shape w) (start (shape w)) (pre L h));
              least = omega (arith, long, i, a.0);
              linked = rw g (omega (arith, long, f, link_in (shape w) m));
              short = omega (arith, long, f, g, prev_in (shape w) m);
              most = omega (arith, long, to_within, x.lent.1);
            }
          where
            plain : (v : ℕ) → v - 0 ≡ v
            plain v = omega arith

        -- where it can
        pub grown_there : Bytes b → (c : List ℕ) → c ≡ extended_bytes w (take (from + need - 0) b) from before → Grown w b n (Some (record { 0 = from + need })) (c ++ drop (from + need - 0) b)
        grown_there bytes c v = record { grows = λ L h f r. does L h f; stays = λ L h f r. absurd (omega (arith, to_is L h from own_edge, r, i, to_within, eight L h)) }
          where
            plain : from + need - 0 ≡ from + need
            plain = omega arith

            does : (L : Layout) (h : HereIn (shape w) b L) → allocate (shape w) n L ≡ none
                → (◌≡◌ {A = Option Position} (Some (record { 0 = from + need })) (Some (record { 0 = end_in (shape w) (longer (shape w) n L) }))) × (c ++ drop (from + need - 0) b ≡ fronted (drawn (shape w) (longer (shape w) n L) (take (end_in (shape w) (longer (shape w) n L)) b)) b)
            does L h f =
                let t : from + need ≡ end_in (shape w) (longer (shape w) n L) = sym (to_is L h from own_edge ∙ ap (λ (y : ℕ). from + y) (sym i)) in
                let fp = own_edge.is L h.here (pre L h) (old L h) (edged L h) in
                let bp = own_before.is L h.here (pre L h) (old L h) (edged L h) in
                let d = drawn (shape w) (longer (shape w) n L) (take (from + need) b) in
                let long : length d ≡ from + need = length_draw w (words (shape w) (end_of (length (take (from + need) b))) (longer (shape w) n L)) (take (from + need) b) ∙ length-take-le (from + need) b to_within in
                let is : c ≡ d =
                v ∙ ap (λ (y : ℕ). extended_bytes w (take y b) from before) plain
                ∙ ap₂ (λ (y q : ℕ). extended_bytes w (take (from + need) b) y q) fp bp
                ∙ grown_bytes_lem L h (from + need) (omega (arith, further L h f, t)) to_within bytes f t in
                (ap {B = Option Position} (λ (y : ℕ). Some (record { 0 = y })) t, ap₂ (λ (q : List ℕ) (y : ℕ). q ++ drop y b) is (plain ∙ sym long) ∙ ap (λ (y : ℕ). fronted (drawn (shape w) (longer (shape w) n L) (take y b)) b) t)

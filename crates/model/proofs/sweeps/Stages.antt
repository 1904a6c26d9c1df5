-- The bytes that a sweep leaves: the picture of each stage is drawn over those before it.
use Rattle.std.proofs.Common.{ℕ, zero, suc, ◌+◌, ◌%◌, ◌≤◌, ◌<◌, ◌≡◌, refl, sym, ap, subst, ◌∙◌, List, [], arith, length, get_or}
use Rattle.words.specs.Word.{Bytes}
use Rattle.words.specs.Width.{Width}
use Rattle.model.specs.Shape.{Shape, shape, end_of}
use Rattle.model.specs.Parts.{magic_bytes}
use Rattle.model.specs.Picture.{draw}
use Rattle.model.specs.Layout.{Layout, head_of, words}
use Rattle.model.specs.Sound.{times, Valid, Here}
use Rattle.model.specs.Live.{◌∈◌, Payload, content, live}
use Rattle.model.specs.Reading.{counted}
use Rattle.model.specs.Sweeping.{empties, empty_page, page_freed, linked_anew, stages, swept}
use Rattle.model.specs.Calls.{drawn, drawn_in_turn}
use Rattle.model.specs.inner.Laid.{Tiled, Laid, Linkable}
use Rattle.model.proofs.Good.{shape_good}
use Rattle.model.proofs.items.Aligned.{laid}
use Rattle.model.proofs.lives.Payloads.{tiled_kept}
use Rattle.model.proofs.pictures.Drawn.{tiled, magic_stays, drawn_magic, drawn_shown, drawn_here, drawn_same}
use Rattle.model.proofs.pictures.Heads.{empty_list, none_idle}
use Rattle.model.proofs.pictures.Shown.{head_read}
use Rattle.model.proofs.pictures.Pictures.{length_draw, bytes_draw, draw_twice}
use Rattle.model.proofs.rules.OnLayouts.{recovered, swept_layout}
use Rattle.model.proofs.sweeps.Recovered.{Given, recovered_given}
use Rattle.model.proofs.sweeps.Relinked.{linked_valid}

module _ (S : Shape) where
  -- the bytes when k pages are given back, and no list is linked anew yet
  unfoldable pub recovered_bytes : ℕ → Layout → List ℕ → List ℕ
  recovered_bytes zero L b = b
  recovered_bytes (suc k) L b = let next = page_freed S (empty_page S L.blocks) L in recovered_bytes k next (drawn S next b)

  -- the layout with its lists linked anew is drawn over these
  pub stages_drawn : (k : ℕ) (L : Layout) (b : List ℕ) → drawn_in_turn S (stages S k L) b ≡ drawn S (linked_anew S (recovered S k L)) (recovered_bytes k L b)
  unfolding stages drawn_in_turn recovered recovered_bytes
  stages_drawn zero L b = refl
  stages_drawn (suc k) L b = let next = page_freed S (empty_page S L.blocks) L in stages_drawn k next (drawn S next b)

  -- one page more: its layout, and its bytes, from those before it
  pub recovered_next : (k : ℕ) (L : Layout) → recovered S (suc k) L ≡ page_freed S (empty_page S (recovered S k L).blocks) (recovered S k L)
  unfolding recovered
  recovered_next zero L = refl
  recovered_next (suc k) L = recovered_next k (page_freed S (empty_page S L.blocks) L)

  pub recovered_drawn : (k : ℕ) (L : Layout) (b : List ℕ) → recovered_bytes (suc k) L b ≡ drawn S (recovered S (suc k) L) (recovered_bytes k L b)
  unfolding recovered recovered_bytes
  recovered_drawn zero L b = refl
  recovered_drawn (suc k) L b = let next = page_freed S (empty_page S L.blocks) L in recovered_drawn k next (drawn S next b)

  pub recovered_length : (k : ℕ) (L : Layout) (b : List ℕ) → length (recovered_bytes k L b) ≡ length b
  unfolding recovered_bytes
  recovered_length zero L b = refl
  recovered_length (suc k) L b =
      let next = page_freed S (empty_page S L.blocks) L in
      recovered_length k next (drawn S next b) ∙ length_draw S.word (words S (end_of (length b)) next) b

  pub recovered_bytes_lem : (k : ℕ) (L : Layout) (b : List ℕ) → Bytes b → Bytes (recovered_bytes k L b)
  unfolding recovered_bytes
  recovered_bytes_lem zero L b h = h
  recovered_bytes_lem (suc k) L b h =
      let next = page_freed S (empty_page S L.blocks) L in
      recovered_bytes_lem k next (drawn S next b) (bytes_draw S.word (words S (end_of (length b)) next) b h)

module _ {w : ℕ} (wd : Width w) where
  -- a layout drawn over the bytes of a heap that is laid out
  pub drawn_laid : {b : List ℕ} {L M : Layout} → Laid w b L → length b ≤ (shape w).most → Tiled (shape w) (end_of (length b)) M → M.lists ≡ L.lists → Laid w (drawn (shape w) M b) M
  drawn_laid {b} {L} {M} h short v e =
      let n = length_draw w (words (shape w) (end_of (length b)) M) b in
      record {
        magic = drawn_magic (shape w) (shape_good wd) b M v short ∙ h.magic;
        tiled = rw n v;
        aligned = subst (λ (ls : List (List ℕ)). (c o : ℕ) → 1 ≤ times o (get_or ls c []) → o % w ≡ 0) (sym e) h.aligned;
        shown = rw n (drawn_shown (shape w) (shape_good wd) b M v short);
      }

  -- when k pages are given back the heap is laid out, and neither a live payload nor the magic number is changed
  pub record Stage (b : List ℕ) (L : Layout) (k : ℕ) : Type 0 where
    pub laid : Laid w (recovered_bytes (shape w) k L b) (recovered (shape w) k L)
    pub kept : (x : Payload) → x ∈ live (shape w) L → content (recovered_bytes (shape w) k L b) x ≡ content b x
    pub magic : (i : ℕ) → i < magic_bytes → get_or (recovered_bytes (shape w) k L b) i 0 ≡ get_or b i 0

  pub recovered_stage : (b : List ℕ) (L : Layout) → Laid w b L → length b ≤ (shape w).most → (k : ℕ) → k ≤ empties L.blocks → Stage b L k
  recovered_stage b L h short zero l = unfold recovered_bytes recovered in record { laid = h; kept = λ x i. refl; magic = λ i l. refl }
  recovered_stage b L h short (suc k) l = go (recovered_stage b L h short k (omega arith))
    where
      before : List ℕ
      before = recovered_bytes (shape w) k L b

      next : Layout
      next = recovered (shape w) (suc k) L

      given : Given (shape w) (end_of (length b)) (suc k) L next
      given = recovered_given wd (suc k) h.tiled l

      fits : Tiled (shape w) (end_of (length before)) next
      fits = rw (recovered_length (shape w) k L b) given.tiled

      go : Stage b L k → Stage b L (suc k)
      go r =
          record {
            laid = rw (recovered_drawn (shape w) k L b) (drawn_laid r.laid (omega (arith, short, recovered_length (shape w) k L b)) fits (given.lists ∙ sym (recovered_given wd k h.tiled (omega arith)).lists));
            kept = λ x i.
                rw (recovered_drawn (shape w) k L b)
                (tiled_kept (shape w) (end_of (length before)) next before fits x (subst (λ (l : List Payload). x ∈ l) (sym given.live) i) ∙ r.kept x i);
            magic = λ i l. rw (recovered_drawn (shape w) k L b) (magic_stays (shape w) (shape_good wd) before next fits (omega (arith, short, recovered_length (shape w) k L b)) i l ∙ r.magic i l);
          }

  -- and a class whose list is empty has no free item
  pub recovered_linkable : (b : List ℕ) (L : Layout) → Here (shape w) b L → length b ≤ (shape w).most → (k : ℕ) → k ≤ empties L.blocks → Linkable w (recovered_bytes (shape w) k L b) (recovered (shape w) k L)
  recovered_linkable b L h short k l =
      let given = recovered_given wd k (tiled (shape w) h.valid) l in
      record {
        laid = (recovered_stage b L (laid wd h) short k l).laid;
        none_left = λ c cl e o.
            let was : head_of (get_or L.lists c []) ≡ 0 = ap (λ (ls : List (List ℕ)). head_of (get_or ls c [])) (sym given.lists) ∙ e in
            let empty = empty_list (shape w) (shape_good wd) b L h c cl short (head_read (shape w) b L h c cl ∙ was) in
            omega (arith, given.idles c o, none_idle (shape w) (shape_good wd) b L h c cl empty o);
      }

  -- a whole sweep of a sound heap
  module _ (b : List ℕ) (L : Layout) (h : Here (shape w) b L) (short : length b ≤ (shape w).most) where
    abbrev swept_bytes : List ℕ
    swept_bytes = drawn_in_turn (shape w) (swept (shape w) L) b

    abbrev last : List ℕ
    last = recovered_bytes (shape w) (empties L.blocks) L b

    given : Given (shape w) (end_of (length b)) (empties L.blocks) L (recovered (shape w) (empties L.blocks) L)
    given = recovered_given wd (empties L.blocks) (tiled (shape w) h.valid) (omega arith)

    stage : Stage b L (empties L.blocks)
    stage = recovered_stage b L (laid wd h) short (empties L.blocks) (omega arith)

    swept_is : swept_bytes ≡ drawn (shape w) (swept_layout (shape w) L) last
    swept_is = stages_drawn (shape w) (empties L.blocks) L b

    same : length last ≡ length b
    same = recovered_length (shape w) (empties L.blocks) L b

    pub swept_valid : Valid (shape w) (end_of (length b)) (swept_layout (shape w) L)
    swept_valid = linked_valid (shape w) given.tiled

    valid : Valid (shape w) (end_of (length last)) (swept_layout (shape w) L)
    valid = rw same swept_valid

    -- what is live, and how many pages there are
    pub swept_live : live (shape w) (swept_layout (shape w) L) ≡ live (shape w) L
    swept_live = given.live

    pub swept_empties : empties (swept_layout (shape w) L).blocks ≡ 0
    swept_empties = omega (arith, given.empties)

    pub swept_pages : (counted (swept_layout (shape w) L).blocks).pages + empties L.blocks ≡ (counted L.blocks).pages
    swept_pages = given.pages

    -- THE LAW: the bytes that are left have the layout that is left
    pub swept_here : Here (shape w) swept_bytes (swept_layout (shape w) L)
    swept_here = rw swept_is (drawn_here (shape w) (shape_good wd) last (swept_layout (shape w) L) stage.laid.magic valid (omega (arith, short, same)))

    -- they were drawn over others, and only the magic number is left of these before the data area
    pub swept_drawn : (c : List ℕ) × (length c ≡ length b) × (swept_bytes ≡ drawn (shape w) (swept_layout (shape w) L) c)
    swept_drawn = (last, same, swept_is)

    pub swept_magic : (i : ℕ) → i < magic_bytes → get_or swept_bytes i 0 ≡ get_or b i 0
    swept_magic i l = rw swept_is (magic_stays (shape w) (shape_good wd) last (swept_layout (shape w) L) (tiled (shape w) valid) (omega (arith, short, same)) i l ∙ stage.magic i l)

    pub swept_length : length swept_bytes ≡ length b
    swept_length = ap length swept_is ∙ length_draw w (words (shape w) (end_of (length last)) (swept_layout (shape w) L)) last ∙ same

    pub swept_bytes_lem : Bytes b → Bytes swept_bytes
    swept_bytes_lem k = rw swept_is (bytes_draw w (words (shape w) (end_of (length last)) (swept_layout (shape w) L)) last (recovered_bytes_lem (shape w) (empties L.blocks) L b k))

    -- no live payload changes
    pub swept_kept : (x : Payload) → x ∈ live (shape w) L → content swept_bytes x ≡ content b x
    swept_kept x i =
        ap (λ (d : List ℕ). content d x) swept_is
        ∙ tiled_kept (shape w) (end_of (length last)) (swept_layout (shape w) L) last (tiled (shape w) valid) x (subst (λ (l : List Payload). x ∈ l) (sym swept_live) i)
        ∙ stage.kept x i

    -- a second sweep changes no byte
    again : drawn (shape w) (swept_layout (shape w) L) swept_bytes ≡ swept_bytes
    again =
        let M = swept_layout (shape w) L in
        let ws = words (shape w) (end_of (length last)) M in
        ap (λ (d : List ℕ). drawn (shape w) M d) swept_is
        ∙ ap (λ (n : ℕ). draw w (words (shape w) (end_of n) M) (draw w ws last)) (length_draw w ws last)
        ∙ draw_twice w ws last
        ∙ sym swept_is

    pub swept_again : drawn_in_turn (shape w) (swept (shape w) (swept_layout (shape w) L)) swept_bytes ≡ swept_bytes
    unfolding stages drawn_in_turn
    swept_again = ap (λ (n : ℕ). drawn_in_turn (shape w) (stages (shape w) n (swept_layout (shape w) L)) swept_bytes) swept_empties ∙ again

    -- and none changes where the layout is as it was: then no page was given back
    pub swept_still : swept_layout (shape w) L ≡ L → Bytes b → swept_bytes ≡ b
    unfolding stages drawn_in_turn recovered
    swept_still e k =
        let z : empties L.blocks ≡ 0 = omega (arith, swept_pages, ap (λ (N : Layout). (counted N.blocks).pages) e) in
        let l : linked_anew (shape w) L ≡ L = ap (λ (n : ℕ). linked_anew (shape w) (recovered (shape w) n L)) (sym z) ∙ e in
        ap (λ (n : ℕ). drawn_in_turn (shape w) (stages (shape w) n L) b) z ∙ ap (λ (N : Layout). drawn (shape w) N b) l ∙ sym (drawn_same (shape w) b L h k)

-- A block is resized where it stands: what is read around it, and what is written for it.
use Rattle.std.proofs.Common.{ℕ, ◌+◌, ◌-◌, ◌*◌, ◌≤◌, ◌<◌, ◌≡◌, refl, sym, ap, subst, ◌∙◌, true, false, List, [], ◌∷◌, ◌++◌, ◌⊎◌, inl, inr, ⊎_elim, arith, length}
use Rattle.std.proofs.Math.Option.{some}
use Rattle.std.proofs.Math.Decide.{dec_le}
use Rattle.words.specs.Width.{Width}
use Rattle.words.specs.Word.{word_at, Bytes}
use Rattle.model.specs.Shape.{shape, end_of, need_of}
use Rattle.model.specs.Picture.{draw}
use Rattle.model.specs.Layout.{variable, Block, used, Layout, use_size, use_words}
use Rattle.model.specs.Sound.{Here}
use Rattle.model.specs.Rules.{Spot, block, stays}
use Rattle.model.specs.Calls.{drawn}
use Rattle.model.proofs.Good.{shape_good}
use Rattle.model.proofs.blocks.Middle.{Middle, middle_at, next_in_lem}
use Rattle.model.specs.inner.Links.{link_of, back_of, put_if, takes, rest_at}
use Rattle.model.proofs.pictures.Drawn.{drawn_here, drawn_same}
use Rattle.model.proofs.blocks.Taken.{parts, takes_of}
use Rattle.model.proofs.blocks.Replace.{three}
use Rattle.model.proofs.blocks.Resizing.{both_ends, resized_in, resized_valid, stays_same, stays_cut, stays_grown, stays_none}
use Rattle.find.specs.declared.UsedBlock.{UsedBlock}
use Rattle.placing.specs.declared.Gap.{Gap}
use Rattle.find.specs.Find.{BlockFound}
use Rattle.links.specs.Links.{BackRoom}
use Rattle.placing.specs.Blocks.{PartRoom, low_words, high_words}
use Rattle.releasing.specs.Release.{right_at, right_free, BlockLive}
use Rattle.reshaping.specs.Reshape.{Reach, Large, Stays, Reshaped}
use Rattle.releasing.proofs.ReleaseLaws.{found_in_use, next_free, RightOf, right_of}
use Rattle.model.proofs.items.Aligned.{laid}
use Rattle.placing.proofs.Taking.{GapIs, part_need, part_drawn}
use Rattle.model.proofs.Sizes.{most_bound}

-- where the block x ends, and the next free block as the link to it says
abbrev stop_of : UsedBlock → ℕ
stop_of x = x.at.0 + x.size

abbrev next_of : ℕ → List ℕ → UsedBlock → ℕ
next_of w b x = word_at w b (link_of (shape w) x.prev.0)

-- the block and its right neighbour in the middle
module _ {w : ℕ} (wd : Width w) (b : List ℕ) (L : Layout) (a : ℕ) (t : Spot) (x : UsedBlock) (h : Here (shape w) b L) (f : BlockFound w L a t x) where
  pub right : RightOf wd b L t (variable t.size) x (laid wd h) (found_in_use wd L a t x f) (right_at w b (stop_of x) (next_of w b x)) (right_free w b (stop_of x) (next_of w b x))
  right =
      right_of wd b L t (variable t.size) x (laid wd h) (found_in_use wd L a t x f) (next_of w b x) (next_free wd b L t (variable t.size) x (laid wd h) (found_in_use wd L a t x f) (next_of w b x) refl) (right_at w b (stop_of x) (next_of w b x)) (right_free w b (stop_of x) (next_of w b x)) refl refl

  pub pair : Middle (shape w) b (end_of (length b)) L.lists t.pre (used (variable t.size) ∷ right.rights) right.post x.at.0 (right_at w b (stop_of x) (next_of w b x)) x.prev.0 (right_free w b (stop_of x) (next_of w b x))
  pair =
      middle_at (shape w) b L t.pre (used (variable t.size) ∷ right.rights) right.post x.at.0 (right_at w b (stop_of x) (next_of w b x)) x.prev.0 (right_free w b (stop_of x) (next_of w b x)) h
      ((found_in_use wd L a t x f).blocks ∙ ap (λ (l : List Block). t.pre ++ (used (variable t.size) ∷ l)) right.post_is)
      (record {
        begins = f.at;
        finishes = both_ends (shape w) t.size x.at.0 right.r right.side ∙ omega (arith, right.extent, f.size);
        before = f.before;
        behind = right.behind_is;
      })

  pub next_room : BackRoom w b (right_free w b (stop_of x) (next_of w b x))
  next_room = record { width = wd; block = λ z. ⊎_elim (λ e. absurd (z e)) (λ e. (omega (arith, e.least), omega (arith, e.high))) (next_in_lem (shape w) pair) }

  module _ (g : Gap) (q : Reach w b x g) where
    extent : x.at.0 + (t.size + right.r) ≡ right_at w b (stop_of x) (next_of w b x)
    extent = omega (arith, right.extent, f.size)

    gap_is : GapIs w b x.at.0 (t.size + right.r) x.prev.0 (right_free w b (stop_of x) (next_of w b x)) g
    gap_is =
        record {
          at = q.at;
          size = omega (arith, q.size, extent);
          next_is = q.next;
          prev_is = q.prev;
          link = q.link;
          back = q.back ∙ ap (λ (y : ℕ). back_of (shape w) b y) q.next;
        }

    pub whole_size : g.size ≡ x.size + right.r
    whole_size = omega (arith, gap_is.size, f.size)

    pub part : (need u n : ℕ) → need ≤ g.size → u ≡ takes (shape w) need g.size → n ≡ length b → length b ≤ (shape w).most → 2 * w ≤ need → PartRoom w n g u 2
    part need u n l eu en short low =
        part_need wd pair (t.size + right.r) extent g gap_is need u 2 n (omega (arith, gap_is.size)) eu en (omega (arith, most_bound wd)) low (omega arith)

    -- each way through the call
    module _ (n need : ℕ) (big : Large w n) (en : need ≡ need_of (shape w) n) where
      pub too_small : g.size < need → Stays w b L (stays (shape w) n (block t) L) false b
      too_small l =
          rw (stays_none (shape w) n L t right.rights right.post right.r right.side right.post_is right.clear big.above (omega (arith, gap_is.size)))
          (record { answer = refl; bytes = refl; here = h })

      pub unchanged : need ≤ x.size → x.size < need + 4 * w → Bytes b → Stays w b L (stays (shape w) n (block t) L) true b
      unchanged l m bytes =
          let same : record { blocks = t.pre ++ (used (variable t.size) ∷ t.post); lists = L.lists } ≡ L = ap (λ (bs : List Block). record { blocks = bs; lists = L.lists }) (sym (found_in_use wd L a t x f).blocks) in
          rw (stays_same (shape w) n L t right.rights right.post right.r right.side right.post_is right.clear big.above (omega (arith, f.size)) (omega (arith, f.size)), same)
          (record { answer = refl; bytes = drawn_same (shape w) b L h bytes; here = h })

      resized_layout : Layout
      resized_layout = resized_in (shape w) n L t right.rights right.post right.r right.side right.post_is right.clear big.above

      pub written : need ≤ g.size → (need + 4 * w ≤ x.size) ⊎ (x.size < need) → Bytes b → length b ≤ (shape w).most → (u : ℕ) → u ≡ takes (shape w) need g.size → (h₁ h₂ : List ℕ) → h₁ ≡ draw w (low_words w g u 2) b
          → h₂ ≡ put_if (shape w) (draw w (high_words w g u 2) h₁) g.back.0 (rest_at (shape w) u g.size g.at.0 g.prev.0) → Stays w b L (stays (shape w) n (block t) L) true h₂
      unfolding resized_layout use_words use_size draw
      written l way bytes short u eu h₁ h₂ e₁ e₂ =
          let v = resized_valid (shape w) n L t right.rights right.post right.r right.side right.post_is right.clear big.above (end_of (length b)) (shape_good wd) (omega (arith, gap_is.size)) h.valid (found_in_use wd L a t x f).blocks in
          let u_is : u ≡ takes (shape w) (need_of (shape w) n) (t.size + right.r) = eu ∙ ap (λ (y : ℕ). takes (shape w) y g.size) en ∙ ap (λ (y : ℕ). takes (shape w) (need_of (shape w) n) y) gap_is.size in
          let k = takes_of (shape w) (need_of (shape w) n) (t.size + right.r) (omega (arith, gap_is.size)) in
          let d : h₂ ≡ drawn (shape w) resized_layout b =
          part_drawn wd pair (t.size + right.r) extent g gap_is u 2 (variable u) [] refl (omega (arith, u_is, k.within)) refl bytes short (rw u_is v) h₁ h₁ h₂ e₁ refl e₂
          ∙ ap (λ (y : ℕ). drawn (shape w) (three (shape w) L.lists t.pre (parts (shape w) y (t.size + right.r) (variable y)) right.post) b) u_is in
          let o : stays (shape w) n (block t) L ≡ some resized_layout =
          ⊎_elim
          (λ z. stays_cut (shape w) n L t right.rights right.post right.r right.side right.post_is right.clear big.above (omega (arith, z, f.size)) (shape_good wd))
          (λ z. stays_grown (shape w) n L t right.rights right.post right.r right.side right.post_is right.clear big.above (omega (arith, z, f.size)) (omega (arith, gap_is.size)) (shape_good wd))
          way in
          rw o
          (record {
            answer = refl;
            bytes = d;
            here = subst (λ (y : List ℕ). Here (shape w) y resized_layout) (sym d) (drawn_here (shape w) (shape_good wd) b resized_layout h.magic v short);
          })

-- what code reads and writes, in its own numbers
module _ {w : ℕ} (b : List ℕ) (x : UsedBlock) (k : BlockLive w b x) where
  module _ (link next : ℕ) (el : link ≡ link_of (shape w) x.prev.0) (en : next ≡ word_at w b link) where
    next_is : next ≡ next_of w b x
    next_is = en ∙ ap (λ (y : ℕ). word_at w b y) el

    module _ (to behind : ℕ) (et : to ≡ right_at w b (stop_of x) next) (eb : behind ≡ right_free w b (stop_of x) next) where
      to_is : to ≡ right_at w b (stop_of x) (next_of w b x)
      to_is = et ∙ ap (λ (y : ℕ). right_at w b (stop_of x) y) next_is

      behind_is : behind ≡ right_free w b (stop_of x) (next_of w b x)
      behind_is = eb ∙ ap (λ (y : ℕ). right_free w b (stop_of x) y) next_is

      pub behind_room : BackRoom w b behind
      behind_room = rw behind_is (next_room k.width b k.layout k.address k.spot x k.here k.found)

      pub reach_above : x.at.0 ≤ to
      reach_above = omega (arith, to_is, (right k.width b k.layout k.address k.spot x k.here k.found).extent)

      pub reached : (g : Gap) → g.at.0 ≡ x.at.0 → g.size ≡ to - x.at.0 → g.next.0 ≡ behind → g.prev.0 ≡ x.prev.0 → g.link.0 ≡ link → g.back.0 ≡ back_of (shape w) b behind → Reach w b x g
      reached g ea es en ep ek eb =
          record {
            at = ea;
            size = es ∙ ap (λ (y : ℕ). y - x.at.0) to_is;
            next = en ∙ behind_is;
            prev = ep;
            link = ek ∙ el;
            back = eb ∙ ap (λ (y : ℕ). back_of (shape w) b y) (sym en);
          }

  module _ (g : Gap) (q : Reach w b x g) (n need : ℕ) (big : Large w n) (en : need ≡ need_of (shape w) n) where
    pub must_move : g.size < need → Reshaped w b x n false b
    must_move l = record { is = λ L a t h f. too_small k.width b L a t x h f g q n need big en l }

    pub stays_so : need ≤ x.size → x.size < need + 4 * w → Bytes b → Reshaped w b x n true b
    stays_so l m bytes = record { is = λ L a t h f. unchanged k.width b L a t x h f g q n need big en l m bytes }

    pub room_for : need ≤ g.size → (u bytes : ℕ) → u ≡ takes (shape w) need g.size → bytes ≡ length b → PartRoom w bytes g u 2
    room_for l u bytes eu eb =
        part k.width b k.layout k.address k.spot x k.here k.found g q need u bytes l eu eb k.short (omega arith)

    pub resizes : need ≤ g.size → (need ≤ x.size → need + 4 * w ≤ x.size) → Bytes b → (u : ℕ) → u ≡ takes (shape w) need g.size → (h₁ h₂ : List ℕ) → h₁ ≡ draw w (low_words w g u 2) b
        → h₂ ≡ put_if (shape w) (draw w (high_words w g u 2) h₁) g.back.0 (rest_at (shape w) u g.size g.at.0 g.prev.0) → Reshaped w b x n true h₂
    resizes l way bytes u eu h₁ h₂ e₁ e₂ =
        record { is = λ L a t h f. written k.width b L a t x h f g q n need big en l (go (dec_le need x.size)) bytes k.short u eu h₁ h₂ e₁ e₂ }
      where
        go : Dec (need ≤ x.size) → (need + 4 * w ≤ x.size) ⊎ (x.size < need)
        go (yes z) = inl (way z)
        go (no z) = inr (omega arith)

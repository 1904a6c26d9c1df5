-- Everything comes back: of a fresh heap, after any run, then all live payloads freed in any order, then a sweep, a fresh heap is left.
use Rattle.std.proofs.Common.{ℕ, ◌≤◌, ◌<◌, ◌≡◌, refl, sym, ap, subst, ◌∙◌, List, [], ◌∷◌, ◌++◌, ⊎_elim, arith, length, get_or, take, ext_get_or, get_or-take, length-take-le}
use Rattle.std.proofs.Math.Decide.{dec_lt}
use Rattle.words.specs.Width.{Width}
use Rattle.words.specs.Word.{put}
use Rattle.words.proofs.WordLaws.{length_put, put_out}
use Rattle.model.specs.Shape.{shape, start, end_of}
use Rattle.model.specs.Parts.{magic_bytes, end_at}
use Rattle.model.specs.Picture.{draw}
use Rattle.model.specs.Layout.{Layout, first_free, words}
use Rattle.model.specs.Sound.{Valid, Here, stored_end, HereIn}
use Rattle.model.specs.Rules.{Found, block, thing, nothing, find, fresh}
use Rattle.model.specs.Live.{◌∈◌, live}
use Rattle.model.specs.Calls.{Outcome, Lent, ordinary, fronted, drawn, without, swept_all}
use Rattle.model.specs.Promises.{freeing, sweeping, Any, freeing_all, Reply, replied, Comes, Run, AsFresh, EverythingBack}
use Rattle.model.proofs.Good.{shape_good}
use Rattle.model.proofs.pictures.Pictures.{length_draw, draw_agree}
use Rattle.model.proofs.pictures.Drawn.{tiled}
use Rattle.model.proofs.pictures.Header.{header_drawn, end_put}
use Rattle.model.proofs.pictures.Fronts.{front_below, own_ends, own_length, own_start}
use Rattle.model.proofs.pictures.Written.{written_here}
use Rattle.model.proofs.lives.LiveFound.{is_there, live_is_there}
use Rattle.model.proofs.lives.FreeLives.{freed_removes}
use Rattle.model.proofs.lives.Addresses.{Names, names, names_first, names_rest, names_none}
use Rattle.model.proofs.rules.Emptied.{emptied_fresh}
use Rattle.model.proofs.rules.OnLayouts.{Done, grant, doing, swept_layout}
use Rattle.model.proofs.sweeps.Stages.{swept_valid, swept_live, swept_empties, swept_drawn}
use Rattle.promises.proofs.Opened.{opened_fresh}
use Rattle.promises.proofs.Doing.{does}
use Rattle.promises.proofs.Ends.{end_stays}
use Rattle.promises.proofs.SweepKept.{own, on, leaves}
use Rattle.promises.proofs.Runs.{First, Parted, parted, lent_same, ran}

module _ {w : ℕ} (wd : Width w) where
  -- bytes over which the layout of a fresh heap with the end e was drawn, and what is behind that end
  record DrawnFresh (h : List ℕ) (e : ℕ) : Type 0 where
    begun : List ℕ
    behind : List ℕ
    long : length begun ≡ e
    is : h ≡ fronted (drawn (shape w) (fresh (shape w) e) begun) behind
    here : HereIn (shape w) h (fresh (shape w) e)
    end : stored_end (shape w) h ≡ e

  -- two such heaps with the same magic number have the same bytes before the data area, but for the end
  module _ (h d : List ℕ) (e f : ℕ) (x : DrawnFresh h e) (y : DrawnFresh d f) (magic : (i : ℕ) → i < magic_bytes → get_or d i 0 ≡ get_or h i 0) where
    past : (b : List ℕ) (n : ℕ) → DrawnFresh b n → start (shape w) ≤ n
    past b n z = omega (arith, own_start (shape w) b (fresh (shape w) n) z.here, z.end)

    -- what was drawn, with its end by its name
    drawn_is : (b : List ℕ) (n : ℕ) (z : DrawnFresh b n) (i : ℕ) → i < start (shape w) → get_or b i 0 ≡ get_or (draw w (words (shape w) n (fresh (shape w) n)) z.begun) i 0
    drawn_is b n z i l =
        let own = drawn (shape w) (fresh (shape w) n) z.begun in
        let ends : end_of (length z.begun) ≡ n = omega (arith, z.long, z.end, z.here.ended.2) in
        ap (λ (c : List ℕ). get_or c i 0) z.is
        ∙ front_below own z.behind i (omega (arith, l, past b n z, z.long, length_draw w (words (shape w) (end_of (length z.begun)) (fresh (shape w) n)) z.begun))
        ∙ ap (λ (k : ℕ). get_or (draw w (words (shape w) k (fresh (shape w) n)) z.begun) i 0) ends

    behind_magic : (i : ℕ) → magic_bytes ≤ i → i < start (shape w) → get_or d i 0 ≡ get_or (put w h (end_at (shape w)) f) i 0
    unfolding first_free draw
    behind_magic i lo hi =
        let t = tiled (shape w) x.here.here.valid in
        let own = draw w (words (shape w) e (fresh (shape w) e)) x.begun in
        drawn_is d f y i hi
        ∙ header_drawn (shape w) (fresh (shape w) e) (fresh (shape w) f) t (tiled (shape w) y.here.here.valid) refl refl f x.begun y.begun (omega (arith, x.long, past h e x)) (omega (arith, y.long, past d f y)) i lo hi
        ∙ ap (λ (c : List ℕ). get_or c i 0) (sym (end_put (shape w) (fresh (shape w) e) t e f x.begun))
        ∙ draw_agree w (record { at = end_at (shape w); is = f } ∷ []) h own i
        (omega (arith, hi, own_start (shape w) h (fresh (shape w) e) x.here, x.here.ended.1))
        (omega (arith, hi, past h e x, x.long, length_draw w (words (shape w) e (fresh (shape w) e)) x.begun))
        (λ o. sym (drawn_is h e x i hi))

    header_byte : (i : ℕ) → i < start (shape w) → get_or d i 0 ≡ get_or (put w h (end_at (shape w)) f) i 0
    header_byte i l = go (dec_lt i magic_bytes)
      where
        go : Dec (i < magic_bytes) → get_or d i 0 ≡ get_or (put w h (end_at (shape w)) f) i 0
        go (yes m) = magic i m ∙ sym (put_out w h (end_at (shape w)) f i (λ lo hi. omega (arith, lo, m)))
        go (no m) = behind_magic i (omega (arith, m)) l

    as_fresh : AsFresh (shape w) h d
    as_fresh =
        let n = start (shape w) in
        let moved = put w h (end_at (shape w)) f in
        let long-d : n ≤ length d = omega (arith, own_start (shape w) d (fresh (shape w) f) y.here, y.here.ended.1) in
        let long-h : n ≤ length moved = omega (arith, own_start (shape w) h (fresh (shape w) e) x.here, x.here.ended.1, length_put w h (end_at (shape w)) f) in
        let same : take n d ≡ take n moved =
        ext_get_or 0 (take n d) (take n moved) (length-take-le n d long-d ∙ sym (length-take-le n moved long-h))
        (λ i l. let k : i < n = omega (arith, l, length-take-le n d long-d) in get_or-take n d i 0 k ∙ header_byte i k ∙ sym (get_or-take n moved i 0 k)) in
        record {
          header = subst (λ (k : ℕ). take n d ≡ take n (put w h (end_at (shape w)) k)) (sym y.end) same;
          rest = subst (λ (k : ℕ). HereIn (shape w) d (fresh (shape w) k)) (sym y.end) y.here;
        }

  -- a sweep of a heap in which nothing is live
  module _ (b : List ℕ) (L : Layout) (l : Lent (shape w) b) (h : HereIn (shape w) b L) (none : live (shape w) L ≡ []) (r : Outcome) (c : Comes (shape w) b sweeping r) where
    abbrev mine : List ℕ
    mine = own wd b L l h

    here : Here (shape w) mine L
    here = h.here

    short : length mine ≤ (shape w).most
    short = (on wd b L l h).lent.1

    swept_is : r ≡ ordinary (shape w) b (swept_all (shape w)) L
    unfolding Comes
    swept_is = c.sound l L h

    left : swept_layout (shape w) L ≡ fresh (shape w) (stored_end (shape w) b)
    left =
        emptied_fresh (shape w) (stored_end (shape w) b) (swept_layout (shape w) L)
        (subst (λ (n : ℕ). Valid (shape w) n (swept_layout (shape w) L)) (own_ends (shape w) b L h) (swept_valid wd mine L here short))
        (omega (arith, (on wd b L l h).lent.0, own_length (shape w) b L h))
        (swept_live wd mine L here short ∙ none)
        (swept_empties wd mine L here short)

    swept_fresh : DrawnFresh r.heap (stored_end (shape w) b)
    swept_fresh =
        let z = swept_drawn wd mine L here short in
        record {
          begun = z.0;
          behind = b;
          long = z.1 ∙ own_length (shape w) b L h;
          is = ap (λ (o : Outcome). o.heap) swept_is ∙ ap (λ (d : List ℕ). fronted d b) (z.2 ∙ ap (λ (M : Layout). drawn (shape w) M z.0) left);
          here = subst (λ (M : Layout). HereIn (shape w) r.heap M) left (subst (λ (o : Outcome). HereIn (shape w) o.heap (swept_layout (shape w) L)) (sym swept_is) (leaves wd b L l h));
          end = end_stays wd b sweeping r c (record { layout = L; here = h }) (λ g. g);
        }

  -- all calls of a run were granted
  abbrev AllGranted : List Reply → Type 0
  AllGranted ts = (t : Reply) → t ∈ ts → t.refusal ≡ 0

  granted_more : (r : Outcome) (later ts : List Reply) → ts ≡ replied r ∷ later → r.refusal ≡ 0 → AllGranted later → AllGranted ts
  unfolding ◌∈◌
  granted_more r later ts is g more t i = ⊎_elim (λ e. ap (λ (s : Reply). s.refusal) e ∙ g) (λ j. more t j) (subst (λ (l : List Reply). t ∈ l) is i)

  -- what frees of all that is live and a sweep leave
  record Back (d : List ℕ) (ts : List Reply) : Type 0 where
    all_granted : AllGranted ts
    end : ℕ
    drawn : DrawnFresh d end

  -- what is live is freed
  frees : (E a : ℕ) (L : Layout) → is_there (find (shape w) a L) ≡ 1 → doing (shape w) E (freeing a) L ≡ grant 0 (without (shape w) a L)
  unfolding doing
  frees E a L i = go (find (shape w) a L) refl
    where
      go : (f : Found) → find (shape w) a L ≡ f → doing (shape w) E (freeing a) L ≡ grant 0 (without (shape w) a L)
      go nothing e = absurd (omega (arith, i, ap is_there e))
      go (block t) e = rw e refl
      go (thing o c n) e = rw e refl

  -- the sweep, which comes last
  last_back : (b : List ℕ) (L : Layout) (ts : List Reply) (d : List ℕ) → Lent (shape w) b → HereIn (shape w) b L → Names (shape w) [] L → First wd Any b sweeping [] ts d → Back d ts
  unfolding Parted ◌∈◌
  last_back b L ts d l h n u =
      let lu = lent_same wd b u.heap u.written.0 l in
      let hu = written_here (shape w) b u.heap L h u.written in
      let over : (u.later ≡ []) × (d ≡ u.outcome.heap) = parted wd Any u.rest in
      let s = swept_fresh u.heap L lu hu (names_none (shape w) L n) u.outcome u.comes in
      let g = ap (λ (o : Outcome). o.refusal) (swept_is u.heap L lu hu (names_none (shape w) L n) u.outcome u.comes) in
      record {
        all_granted = granted_more u.outcome u.later ts u.is g (subst (λ (z : List Reply). AllGranted z) (sym over.0) (λ t i. absurd i));
        end = stored_end (shape w) u.heap;
        drawn = subst (λ (z : List ℕ). DrawnFresh z (stored_end (shape w) u.heap)) (sym over.1) s;
      }

  all_back : (order : List ℕ) (b : List ℕ) (L : Layout) (ts : List Reply) (d : List ℕ) → Lent (shape w) b → HereIn (shape w) b L → Names (shape w) order L
      → Run (shape w) Any b (freeing_all order ++ sweeping ∷ []) ts d → Back d ts
  unfolding freeing_all Parted
  all_back [] b L ts d l h n x = last_back b L ts d l h n (parted wd Any x)
  all_back (a ∷ rest) b L ts d l h n x = go (parted wd Any x) (all_back rest)
    where
      go : First wd Any b (freeing a) (freeing_all rest ++ sweeping ∷ []) ts d
          → ((b : List ℕ) (L : Layout) (ts : List Reply) (d : List ℕ) → Lent (shape w) b → HereIn (shape w) b L → Names (shape w) rest L → Run (shape w) Any b (freeing_all rest ++ sweeping ∷ []) ts d → Back d ts)
          → Back d ts
      go u later =
          let lu = lent_same wd b u.heap u.written.0 l in
          let hu = written_here (shape w) b u.heap L h u.written in
          let x = names_first (shape w) a rest L n in
          let i = live_is_there (shape w) (shape_good wd) hu.here.valid a x.0 x.1 x.2 in
          let gone = freed_removes (shape w) (shape_good wd) hu.here.valid a (find (shape w) a L) refl (λ e. omega (arith, i, ap is_there e)) in
          let s = does wd u.heap L lu hu (freeing a) u.outcome u.comes in
          let f = frees (end_of (length u.heap)) a L i in
          let there : HereIn (shape w) u.outcome.heap (without (shape w) a L) = subst (λ (y : Done). HereIn (shape w) u.outcome.heap y.layout) f s.here in
          let r = later u.outcome.heap (without (shape w) a L) u.later d (lent_same wd u.heap u.outcome.heap s.same lu) there (names_rest (shape w) a rest gone.payload gone.at gone.adds n) u.rest in
          record { all_granted = granted_more u.outcome u.later ts u.is (s.refusal ∙ ap (λ (y : Done). y.refusal) f) r.all_granted; end = r.end; drawn = r.drawn }

  pub everything_back : EverythingBack (shape w)
  everything_back b e r x g qs rs c run L h order same ts d frees-and-sweep =
      let o = opened_fresh wd b e r x g in
      let begun : DrawnFresh r.heap e = record { begun = o.drawn.0; behind = b; long = o.drawn.1; is = o.drawn.2; here = o.here; end = o.end } in
      let first = ran wd Any qs r.heap (fresh (shape w) e) rs c (lent_same wd b r.heap o.same o.lent) o.here run in
      let second = ran wd Any (freeing_all order ++ sweeping ∷ []) c L ts d first.lent h frees-and-sweep in
      let back = all_back order c L ts d first.lent h (names (shape w) _ order L h.here.valid same) frees-and-sweep in
      (back.all_granted, as_fresh r.heap d e back.end begun back.drawn (λ i m. second.magic i m ∙ first.magic i m))

-- Where an allocation runs: on the heap's own bytes, or on those of the heap that has grown for it.
use Rattle.std.proofs.Common.{ℕ, ◌%◌, ◌≤◌, ◌<◌, ◌≡◌, refl, sym, subst, ◌∙◌, List, arith, length, get_or, take, get_or-take, length-take-le}
use Rattle.std.proofs.Math.Option.{Option, none, some}
use Rattle.words.specs.Width.{Width}
use Rattle.words.specs.Word.{Bytes}
use Rattle.model.specs.Shape.{Shape, shape, shortest, end_of}
use Rattle.model.specs.Parts.{magic_bytes}
use Rattle.model.specs.Layout.{Layout, end_in, words}
use Rattle.model.specs.Sound.{Valid, Here, MayEnd, stored_end, heap_of, HereIn}
use Rattle.model.specs.Rules.{Made, allocate, longer, growth}
use Rattle.model.specs.Live.{◌∈◌, Payload, content, live}
use Rattle.model.specs.Refusals.{no_room}
use Rattle.model.specs.Calls.{Outcome, refused, granted, Lent, drawn, made, in_buffer, grown_to, growing}
use Rattle.model.proofs.Good.{shape_good}
use Rattle.words.proofs.WidthLaws.{widths}
use Rattle.model.proofs.Sizes.{end_room}
use Rattle.model.proofs.pictures.Pictures.{length_draw, bytes_draw}
use Rattle.model.proofs.pictures.Drawn.{tiled, magic_stays, drawn_here}
use Rattle.model.proofs.pictures.Fronts.{refused_own, take_word, take_content, take_bytes, own_length, own_eight, own_ends, own_start, own_opened}
use Rattle.model.proofs.lives.Payloads.{in_area, content_kept}
use Rattle.model.proofs.rules.Growth.{Grows, found, full, grown, grows, longer_valid, longer_live, longer_eight, longer_further}
use Rattle.model.proofs.rules.OnLayouts.{Done, refuse, grant, grown_or, readied, made_on}

module _ (S : Shape) (b : List ℕ) (n : ℕ) (L : Layout) where
  -- the bytes and the layout on which it runs
  pub data Ready : List ℕ → Layout → Type 0 where
    own : Ready (heap_of S b) L
    grew : allocate S n L ≡ none → end_in S (longer S n L) ≤ end_of (length b) → Ready (drawn S (longer S n L) (take (end_in S (longer S n L)) b)) (longer S n L)

  -- what comes of a rule that allocates n bytes: "no room", or what is made where it runs
  pub data Runs (bytes : List ℕ → Layout → Made → List ℕ) (then : Made → Layout) : Outcome → Done → Type 0 where
    none_fits : allocate S n L ≡ none → end_of (length b) < end_in S (longer S n L) → Runs bytes then (refused b no_room) (refuse no_room L)
    ran_on : (h : List ℕ) (G : Layout) → Ready h G → (m : Made) → allocate S n G ≡ some m → Runs bytes then (in_buffer b (granted m.at (bytes h G m))) (grant m.at (then m))

  -- THE LAW, where a heap that has grown has room
  pub runs : (allocate S n (longer S n L) ≡ none → ⊥) → (bytes : List ℕ → Layout → Made → List ℕ) (then : Made → Layout)
      → Runs bytes then (growing S n b (λ h M. made S h (allocate S n M) (bytes h M)) L) (made_on S L (allocate S n (readied S (end_of (length b)) n L)) then)
  runs finds bytes then = go (growth S (end_of (length b)) n L) (grows S (end_of (length b)) n L)
    where
      rule : List ℕ → Layout → Outcome
      rule h M = made S h (allocate S n M) (bytes h M)

      go : (g : Option Layout) → Grows S (end_of (length b)) n L g → Runs bytes then (grown_to S b rule L g) (made_on S L (allocate S n (grown_or S L g)) then)
      go g (found m e) = rw e (ran_on (heap_of S b) L own m e)
      go g (full e l) = rw (e, refused_own S b no_room) (none_fits e l)
      go g (grown e l) = at (allocate S n (longer S n L)) refl
        where
          at : (o : Option Made) → allocate S n (longer S n L) ≡ o → Runs bytes then (grown_to S b rule L (some (longer S n L))) (made_on S L (allocate S n (longer S n L)) then)
          at none z = absurd (finds z)
          at (some m) z = rw z (ran_on (drawn S (longer S n L) (take (end_in S (longer S n L)) b)) (longer S n L) (grew e l) m z)

-- a heap may not end before the shortest does
pub may_shortest : {w : ℕ} → Width w → (n e : ℕ) → shortest (shape w) ≤ n → MayEnd (shape w) n e → shortest (shape w) ≤ e
may_shortest {w} wd n e l m = widths (λ w. Width w → shortest (shape w) ≤ n → MayEnd (shape w) n e → shortest (shape w) ≤ e) (λ wd l m. omega (arith, m.0, end_room wd n l)) (λ wd l m. omega (arith, m.0)) w wd wd l m

module _ {w : ℕ} (wd : Width w) where
  -- the heap in a buffer is lent as the buffer is
  pub own_lent : (b : List ℕ) (L : Layout) → Lent (shape w) b → HereIn (shape w) b L → Lent (shape w) (heap_of (shape w) b)
  own_lent b L l x =
      let e = own_length (shape w) b L x in
      (rw e (may_shortest wd (length b) (stored_end (shape w) b) l.0 x.ended), omega (arith, e, l.1, x.ended.1))

  -- what holds of a heap h with layout M on which a rule runs, in a buffer b with layout L
  pub record RunsOn (b : List ℕ) (L : Layout) (h : List ℕ) (M : Layout) : Type 0 where
    pub lent : Lent (shape w) h
    pub here : Here (shape w) h M
    pub eight : length h % 8 ≡ 0
    pub may : MayEnd (shape w) (length b) (length h)
    pub rises : stored_end (shape w) b ≤ length h
    pub still : length h ≡ stored_end (shape w) b → (h ≡ heap_of (shape w) b) × (M ≡ L)
    pub lives : live (shape w) M ≡ live (shape w) L
    pub lists : M.lists ≡ L.lists
    pub content : (x : Payload) → x ∈ live (shape w) L → content h x ≡ content b x
    pub bytes : Bytes b → Bytes h
    pub magic : (i : ℕ) → i < magic_bytes → get_or h i 0 ≡ get_or b i 0

  module _ (b : List ℕ) (L : Layout) (l : Lent (shape w) b) (x : HereIn (shape w) b L) where
    abbrev e : ℕ
    e = stored_end (shape w) b

    inside : e ≤ length b
    inside = omega (arith, x.ended.1)

    -- on the heap's own bytes
    pub runs_own : RunsOn b L (heap_of (shape w) b) L
    runs_own =
        let k = own_length (shape w) b L x in
        record {
          lent = own_lent b L l x;
          here = x.here;
          eight = own_eight (shape w) b L x;
          may = subst (λ (y : ℕ). MayEnd (shape w) (length b) y) (sym k) x.ended;
          rises = omega (arith, k);
          still = λ z. (refl, refl);
          lives = refl;
          lists = refl;
          content = λ y i. take_content e b y inside (omega (arith, (in_area (shape w) (end_of (length (heap_of (shape w) b))) L x.here.valid y i).1, own_ends (shape w) b L x));
          bytes = take_bytes e b inside;
          magic = λ i m. get_or-take e b i 0 (omega (arith, m, own_start (shape w) b L x));
        }

    -- on those of the heap that has grown
    module _ (n : ℕ) (one : 1 ≤ n) (none_found : allocate (shape w) n L ≡ none) (room : end_in (shape w) (longer (shape w) n L) ≤ end_of (length b)) where
      abbrev G : Layout
      G = longer (shape w) n L

      abbrev to : ℕ
      to = end_in (shape w) G

      was : Valid (shape w) e L
      was = subst (λ (y : ℕ). Valid (shape w) y L) (own_ends (shape w) b L x) x.here.valid

      grown_valid : Valid (shape w) to G
      grown_valid = longer_valid wd n one e L was

      further : e < to
      further = longer_further wd n one e L was none_found

      grown_eight : to % 8 ≡ 0
      grown_eight = longer_eight wd n one e L was x.ended.2

      front_is : length (take to b) ≡ to
      front_is = length-take-le to b (omega (arith, room))

      grown_length : length (drawn (shape w) G (take to b)) ≡ to
      grown_length = length_draw w (words (shape w) (end_of (length (take to b))) G) (take to b) ∙ front_is

      valid_there : Valid (shape w) (end_of (length (take to b))) G
      valid_there = subst (λ (y : ℕ). Valid (shape w) y G) (omega (arith, front_is, grown_eight)) grown_valid

      pub runs_grown : RunsOn b L (drawn (shape w) G (take to b)) G
      runs_grown =
          let s = may_shortest wd (length b) e l.0 x.ended in
          record {
            lent = (omega (arith, grown_length, further, s), omega (arith, grown_length, room, l.1));
            here = drawn_here (shape w) (shape_good wd) (take to b) G (take_word 8 to b 0 (omega (arith, s, further)) ∙ own_opened (shape w) b L x) valid_there (omega (arith, front_is, room, l.1));
            eight = rw grown_length grown_eight;
            may = rw grown_length (omega (arith, further, x.ended.0), room, grown_eight);
            rises = omega (arith, grown_length, further);
            still = λ z. absurd (omega (arith, z, grown_length, further));
            lives = longer_live wd n one e L was;
            lists = refl;
            content = λ y i.
                content_kept (shape w) (end_of (length (take to b))) G (take to b) valid_there y (subst (λ (ys : List Payload). y ∈ ys) (sym (longer_live wd n one e L was)) i)
                ∙ take_content to b y (omega (arith, room)) (omega (arith, (in_area (shape w) e L was y i).1, further));
            bytes = λ k. bytes_draw w (words (shape w) (end_of (length (take to b))) G) (take to b) (take_bytes to b (omega (arith, room)) k);
            magic = λ i m.
                magic_stays (shape w) (shape_good wd) (take to b) G (tiled (shape w) valid_there) (omega (arith, front_is, room, l.1)) i m
                ∙ get_or-take to b i 0 (omega (arith, m, further, own_start (shape w) b L x));
          }

    -- THE LAW: wherever an allocation runs
    pub ready_runs : (n : ℕ) → 1 ≤ n → {h : List ℕ} {M : Layout} → Ready (shape w) b n L h M → RunsOn b L h M
    ready_runs n one own = runs_own
    ready_runs n one (grew k r) = runs_grown n one k r

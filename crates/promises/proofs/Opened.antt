-- A heap that is opened is sound: it has the fresh layout, up to the end that was asked for.
use Rattle.std.proofs.Common.{ℕ, ◌≤◌, ◌%◌, ◌≡◌, sym, ap, subst, ◌∙◌, List, arith, length, take, get_or, length-take-le}
use Rattle.std.proofs.Math.Decide.{ℕ_discrete, dec_le}
use Rattle.words.specs.Width.{Width}
use Rattle.words.specs.Word.{word_at, put, Bytes}
use Rattle.words.proofs.WordLaws.{length_put, bytes_put, word_same}
use Rattle.model.specs.Shape.{shape, shortest, least_end, end_of}
use Rattle.model.specs.Layout.{words}
use Rattle.model.specs.Sound.{Here, MayEnd, stored_end, HereIn}
use Rattle.model.specs.Rules.{fresh}
use Rattle.model.specs.Calls.{Outcome, Lent, Opened, granted, fronted, in_buffer, drawn, Initialises}
use Rattle.model.specs.Promises.{OpensSound}
use Rattle.model.proofs.Sizes.{magic_fits}
use Rattle.model.proofs.pictures.Pictures.{length_draw, bytes_draw}
use Rattle.model.proofs.pictures.Fronts.{front_length, front_behind, front_bytes, front_end, front_here, take_bytes}
use Rattle.model.proofs.rules.Fresh.{fresh_here}
use Rattle.model.proofs.rules.Ready.{may_shortest}

module _ {w : ℕ} (wd : Width w) where
  -- what a granted initialise leaves
  pub record Fresh (b : List ℕ) (e : ℕ) (r : Outcome) : Type 0 where
    pub lent : Lent (shape w) b
    pub may : MayEnd (shape w) (length b) e
    pub same : length r.heap ≡ length b
    pub here : HereIn (shape w) r.heap (fresh (shape w) e)
    pub end : stored_end (shape w) r.heap ≡ e
    pub behind : (i : ℕ) → e ≤ i → get_or r.heap i 0 ≡ get_or b i 0
    pub bytes : Bytes b → Bytes r.heap
    pub drawn : (begun : List ℕ) × (length begun ≡ e) × (r.heap ≡ fronted (drawn (shape w) (fresh (shape w) e) begun) b)

  module _ (b : List ℕ) (e : ℕ) (r : Outcome) (c : Initialises (shape w) b e r) where
    pub fresh_of_lem : Lent (shape w) b → (Opened (shape w) b → ⊥) → MayEnd (shape w) (length b) e → Fresh b e r
    fresh_of_lem l n m =
        record {
          lent = l;
          may = m;
          same = ap (λ (o : Outcome). length o.heap) is ∙ front_length own b (omega (arith, long, m.1));
          here = subst (λ (o : Outcome). HereIn (shape w) o.heap (fresh (shape w) e)) (sym is) (front_here (shape w) own b (fresh (shape w) e) there eight (subst (λ (x : ℕ). MayEnd (shape w) (length b) x) (sym long) m));
          end = ap (λ (o : Outcome). stored_end (shape w) o.heap) is ∙ front_end (shape w) own b (fresh (shape w) e) there eight ∙ long;
          behind = λ i k. ap (λ (o : Outcome). get_or o.heap i 0) is ∙ front_behind own b i (omega (arith, long, k));
          bytes = λ x. subst (λ (o : Outcome). Bytes o.heap) (sym is) (front_bytes own b (bytes_draw w (words (shape w) (end_of (length begun)) (fresh (shape w) e)) begun (bytes_put 8 (take e b) 0 (shape w).magic (take_bytes e b (omega (arith, m.1)) x))) x);
          drawn = (begun, begun_long, ap (λ (o : Outcome). o.heap) is);
        }
      where
        begun : List ℕ
        begun = put 8 (take e b) 0 (shape w).magic

        own : List ℕ
        own = drawn (shape w) (fresh (shape w) e) begun

        is : r ≡ in_buffer b (granted 0 own)
        is = c.opens l n m

        begun_long : length begun ≡ e
        begun_long = length_put 8 (take e b) 0 (shape w).magic ∙ length-take-le e b (omega (arith, m.1))

        long : length own ≡ e
        long = length_draw w (words (shape w) (end_of (length begun)) (fresh (shape w) e)) begun ∙ begun_long

        eight : length own % 8 ≡ 0
        eight = rw long m.2

        ends : end_of (length begun) ≡ e
        ends = omega (arith, begun_long, m.2)

        there : Here (shape w) own (fresh (shape w) e)
        there =
            let s = may_shortest wd (length b) e l.0 m in
            subst (λ (x : ℕ). Here (shape w) (drawn (shape w) (fresh (shape w) x) begun) (fresh (shape w) x)) ends
            (fresh_here wd begun (word_same 8 (take e b) 0 (shape w).magic (omega (arith, s, length-take-le e b (omega (arith, m.1)))) (magic_fits wd)) (omega (arith, s, begun_long)) (omega (arith, begun_long, m.1, l.1)))

    pub opened_fresh : r.refusal ≡ 0 → Fresh b e r
    opened_fresh g = go (dec_le (shortest (shape w)) (length b)) (dec_le (length b) (shape w).most) (ℕ_discrete (word_at 8 b 0) (shape w).magic) (dec_le (least_end (shape w) (end_of (length b))) e) (dec_le e (end_of (length b))) (ℕ_discrete (e % 8) 0)
      where
        go : Dec (shortest (shape w) ≤ length b) → Dec (length b ≤ (shape w).most) → Dec (word_at 8 b 0 ≡ (shape w).magic) → Dec (least_end (shape w) (end_of (length b)) ≤ e) → Dec (e ≤ end_of (length b)) → Dec (e % 8 ≡ 0) → Fresh b e r
        go (no m) y z p q s = absurd (omega (arith, g, ap (λ (o : Outcome). o.refusal) (c.one (λ l. m l.0))))
        go (yes x) (no m) z p q s = absurd (omega (arith, g, ap (λ (o : Outcome). o.refusal) (c.one (λ l. m l.1))))
        go (yes x) (yes y) (yes z) p q s = absurd (omega (arith, g, ap (λ (o : Outcome). o.refusal) (c.seven (x, y) z)))
        go (yes x) (yes y) (no m) (no p) q s = absurd (omega (arith, g, ap (λ (o : Outcome). o.refusal) (c.eight (x, y) m (λ k. p k.0))))
        go (yes x) (yes y) (no m) (yes p) (no q) s = absurd (omega (arith, g, ap (λ (o : Outcome). o.refusal) (c.eight (x, y) m (λ k. q k.1))))
        go (yes x) (yes y) (no m) (yes p) (yes q) (no s) = absurd (omega (arith, g, ap (λ (o : Outcome). o.refusal) (c.eight (x, y) m (λ k. s k.2))))
        go (yes x) (yes y) (no m) (yes p) (yes q) (yes s) = fresh_of_lem (x, y) m (p, q, s)

  pub opens_sound : OpensSound (shape w)
  opens_sound b e r c g = let f = opened_fresh b e r c g in (record { layout = fresh (shape w) e; here = f.here }, f.end)

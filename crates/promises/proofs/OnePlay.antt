-- Any two results that a call list's record may have are equal. Of document 01's heap, as the call list is.
use Rattle.std.proofs.Common.{ℕ, ◌≤◌, ◌<◌, ◌≡◌, sym, ap, ap₂, ◌∙◌, List, [], ◌∷◌, ◌++◌, arith, length, take, drop}
use Rattle.std.proofs.Math.Decide.{ℕ_discrete, dec_lt}
use Rattle.words.specs.Word.{word_at}
use Rattle.model.specs.Shape.{wide, end_of}
use Rattle.model.specs.Reading as reading
use Rattle.model.specs.Calls.{Outcome, Told, Initialises, Allocates, Frees, Resizes}
use Rattle.model.specs.Promises.{initialising, allocating, freeing, resizing, Comes}
use Rattle.records.specs.declared.Line.{Line}
use Rattle.records.specs.declared.Played.{Played}
use Rattle.records.specs.Lines.{Called, CountsIn, OpensIn, CallPlayed, clip}
use Rattle.promises.specs.Listed.{OnePlay}
use Rattle.promises.proofs.Stable.{tolds, statistics}
use Rattle.promises.proofs.Determined.{checked_one, determined}

-- two lines and buffers that a call of a list may give
called_one : (allows : Outcome → Type 0) → ((o o' : Outcome) → allows o → allows o' → o ≡ o') → (b : List ℕ) (n : ℕ) (l l' : Line) (c c' : List ℕ) → Called allows b n l c → Called allows b n l' c' → (l ≡ l') × (c ≡ c')
called_one allows one b n l l' c c' x y =
    let e : x.outcome ≡ y.outcome = one x.outcome y.outcome x.allowed y.allowed in (
      ap₂ (λ (k : ℕ) (v : List ℕ). record { refusal = k; numbers = v })
          (x.refusal ∙ ap (λ (o : Outcome). o.refusal) e ∙ sym y.refusal)
          (x.numbers ∙ ap (λ (o : Outcome). o.address ∷ 0 ∷ 0 ∷ 0 ∷ 0 ∷ 0 ∷ []) e ∙ sym y.numbers),
      x.bytes ∙ ap (λ (o : Outcome). o.heap ++ drop n b) e ∙ sym y.bytes,
    )

counts_one : (b : List ℕ) (n : ℕ) (l l' : Line) → CountsIn b n l → CountsIn b n l' → l ≡ l'
counts_one b n l l' x y =
    let e : x.answer ≡ y.answer = checked_one wide (take n b) (tolds statistics) _ _ x.answer y.answer x.counts y.counts in
    ap₂ (λ (k : ℕ) (v : List ℕ). record { refusal = k; numbers = v })
    (x.refusal ∙ ap (λ (o : Told reading.Statistics). o.refusal) e ∙ sym y.refusal)
    (x.numbers
    ∙ ap (λ (o : Told reading.Statistics). o.answer.free_bytes ∷ o.answer.free_blocks ∷ o.answer.largest_free ∷ o.answer.variables ∷ o.answer.pages ∷ o.answer.items ∷ []) e
    ∙ sym y.numbers)

above_four : (k : ℕ) → 0 < k → (k ≡ 1 → ⊥) → (k ≡ 2 → ⊥) → (k ≡ 3 → ⊥) → (k ≡ 4 → ⊥) → 4 < k
above_four k a b c d e = omega arith

call_one : (b : List ℕ) (n kind : ℕ) (body : List ℕ) (l l' : Line) (c c' : List ℕ) → 0 < kind → CallPlayed b n kind body l c → CallPlayed b n kind body l' c' → (l ≡ l') × (c ≡ c')
unfolding Comes
call_one b n kind body l l' c c' some-kind x y = go (ℕ_discrete kind 1) (ℕ_discrete kind 2) (ℕ_discrete kind 3) (ℕ_discrete kind 4)
  where
    go : Dec (kind ≡ 1) → Dec (kind ≡ 2) → Dec (kind ≡ 3) → Dec (kind ≡ 4) → (l ≡ l') × (c ≡ c')
    go (yes e) k m o = called_one (Allocates wide (take n b) (word_at 4 body 0)) (determined wide (take n b) (allocating (word_at 4 body 0))) b n l l' c c' (x.allocates e) (y.allocates e)
    go (no d) (yes e) m o = called_one (Resizes wide (take n b) (word_at 4 body 0) (word_at 4 body 4)) (determined wide (take n b) (resizing (word_at 4 body 0) (word_at 4 body 4))) b n l l' c c' (x.resizes e) (y.resizes e)
    go (no d) (no k) (yes e) o = called_one (Frees wide (take n b) (word_at 4 body 0)) (determined wide (take n b) (freeing (word_at 4 body 0))) b n l l' c c' (x.frees e) (y.frees e)
    go (no d) (no k) (no m) (yes e) = (counts_one b n l l' (x.counts e).0 (y.counts e).0, (x.counts e).1 ∙ sym (y.counts e).1)
    go (no d) (no k) (no m) (no o) =
        let z = above_four kind some-kind d k m o in
        ((x.unknown z).0 ∙ sym (y.unknown z).0, (x.unknown z).1 ∙ sym (y.unknown z).1)

opens_one : (b : List ℕ) (lent n : ℕ) (r r' : Played) (c c' : List ℕ) → OpensIn b lent n r c → OpensIn b lent n r' c' → (r ≡ r') × (c ≡ c')
unfolding Comes
opens_one b lent n r r' c c' x y = go (dec_lt (length b) n)
  where
    go : Dec (length b < n) → (r ≡ r') × (c ≡ c')
    go (yes l) = ((x.beyond l).0 ∙ sym (y.beyond l).0, (x.beyond l).1 ∙ sym (y.beyond l).1)
    go (no l) =
        let m : n ≤ length b = omega (arith, l) in
        let e = called_one (Initialises wide (take n b) (end_of n)) (determined wide (take n b) (initialising (end_of n))) b n r.line r'.line c c' (x.within m) (y.within m) in
        (ap₂ (λ (z : Line) (k : ℕ). record { line = z; lent = k }) e.0 (kept m e.0 (ℕ_discrete r.line.refusal 0)), e.1)
      where
        kept : n ≤ length b → r.line ≡ r'.line → Dec (r.line.refusal ≡ 0) → r.lent ≡ r'.lent
        kept m e (yes z) = x.granted m z ∙ sym (y.granted m (sym (ap (λ (v : Line). v.refusal) e) ∙ z))
        kept m e (no z) = x.refused m z ∙ sym (y.refused m (λ k. z (ap (λ (v : Line). v.refusal) e ∙ k)))

pub one_play : OnePlay
one_play b lent kind body r r' c c' x y = go (ℕ_discrete kind 0)
  where
    go : Dec (kind ≡ 0) → (r ≡ r') × (c ≡ c')
    go (yes e) = opens_one b lent (word_at 4 body 0) r r' c c' (x.opens e) (y.opens e)
    go (no n) =
        let z : 0 < kind = omega (arith, n) in
        let e = call_one b (clip lent (length b)) kind body r.line r'.line c c' z (x.calls z) (y.calls z) in
        (ap₂ (λ (v : Line) (k : ℕ). record { line = v; lent = k }) e.0 (x.still z ∙ sym (y.still z)), e.1)

-- Initialise: what each way through the call shows of its contract.
use Rattle.std.proofs.Common.{ℕ, ◌-◌, ◌≡◌, refl, sym, ap, subst, ◌∙◌, Bool, true, false, List, ◌++◌, arith, length, take, drop, length-take-le}
use Rattle.words.specs.Word.{word_at, put}
use Rattle.model.specs.Shape.{shape, end_of}
use Rattle.model.specs.Parts.{magic_bytes}
use Rattle.model.specs.Sound.{MayEnd}
use Rattle.model.specs.Rules.{fresh}
use Rattle.model.specs.Refusals.{bad_length, already_opened, bad_end}
use Rattle.model.specs.Calls.{refused, granted, in_buffer, Lent, drawn, Initialises}
use Rattle.telling.specs.Tells.{Tells}
use Rattle.telling.proofs.Tellings.{clash}

pub opens_not_lent : (w : ℕ) (b : List ℕ) (e : ℕ) → (Lent (shape w) b → ⊥) → Initialises (shape w) b e (refused b bad_length)
opens_not_lent w b e n = record { one = λ _. refl; seven = λ l. absurd (n l); eight = λ l. absurd (n l); opens = λ l. absurd (n l) }

module _ (w : ℕ) (b : List ℕ) (e : ℕ) (l : Lent (shape w) b) (m : ℕ) (k : m ≡ word_at magic_bytes b 0) where
  pub opens_again : m ≡ (shape w).magic → Initialises (shape w) b e (refused b already_opened)
  opens_again i = record { one = λ n. absurd (n l); seven = λ _ _. refl; eight = λ _ n. absurd (n (sym k ∙ i)); opens = λ _ n. absurd (n (sym k ∙ i)) }

  module _ (n : m ≡ (shape w).magic → ⊥) (r : Bool) (t : Tells r (MayEnd (shape w) (length b) e)) where
    pub opens_badly : r ≡ false → Initialises (shape w) b e (refused b bad_end)
    opens_badly f = record { one = λ i. absurd (i l); seven = λ _ i. absurd (n (k ∙ i)); eight = λ _ _ _. refl; opens = λ _ _ i. absurd (clash r f (t.is_yes i)) }

    -- with a heap in the first bytes, up to its end
    pub opens_fresh : r ≡ true → (c : List ℕ) → length c ≡ length (take (e - 0) b)
        → c ≡ drawn (shape w) (fresh (shape w) (end_of (length (take (e - 0) b)))) (put magic_bytes (take (e - 0) b) 0 (shape w).magic) → Initialises (shape w) b e (granted 0 (c ++ drop (e - 0) b))
    opens_fresh f c same is = record { one = λ i. absurd (i l); seven = λ _ i. absurd (n (k ∙ i)); eight = λ _ _ i. absurd (i may); opens = λ _ _ _. opened }
      where
        may : MayEnd (shape w) (length b) e
        may = t.yes_is f

        plain : e - 0 ≡ e
        plain = omega arith

        long : length (take e b) ≡ e
        long = length-take-le e b (omega (arith, may.1))

        drew : c ≡ drawn (shape w) (fresh (shape w) e) (put magic_bytes (take e b) 0 (shape w).magic)
        drew =
            let z : end_of (length (take e b)) ≡ e = omega (arith, long, may.2) in
            subst (λ (y : ℕ). c ≡ drawn (shape w) (fresh (shape w) y) (put magic_bytes (take e b) 0 (shape w).magic)) z
            (subst (λ (y : ℕ). c ≡ drawn (shape w) (fresh (shape w) (end_of (length (take y b)))) (put magic_bytes (take y b) 0 (shape w).magic)) plain is)

        opened : granted 0 (c ++ drop (e - 0) b) ≡ in_buffer b (granted 0 (drawn (shape w) (fresh (shape w) e) (put magic_bytes (take e b) 0 (shape w).magic)))
        opened =
            let z : e - 0 ≡ length c = plain ∙ sym (same ∙ ap (λ (y : ℕ). length (take y b)) plain ∙ long) in
            ap (λ (y : ℕ). granted 0 (c ++ drop y b)) z ∙ ap (λ (d : List ℕ). in_buffer b (granted 0 d)) drew

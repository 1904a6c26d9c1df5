-- The size that was asked for of an item in use: what its class and its header say of it.
use Rattle.std.proofs.Common.{ℕ, zero, suc, ◌^◌, ◌≤◌, ◌<◌, ◌≡◌, inl, inr, arith, replicate, eq-eqb, ne_eqb}
use Rattle.std.proofs.Math.Decide.{ℕ_discrete}
use Rattle.model.specs.Shape.{Shape, class_of, item_capacity, item_shown}
use Rattle.model.specs.Parts.{held_header, asked_in}
use Rattle.model.specs.Layout.{idle, held}
use Rattle.model.specs.Sound.{Within, AllWithin}
use Rattle.model.proofs.Good.{Good}

-- an item that is taken for n bytes is within its class
pub within_own : (c n : ℕ) → class_of n ≡ c → Within c (held n)
unfolding Within
within_own c n e = inr e

pub idle_within : (c : ℕ) → Within c idle
unfolding Within
idle_within c = tt

pub all_idle : (c n : ℕ) → AllWithin c (replicate n idle)
unfolding AllWithin
all_idle c zero = tt
all_idle c (suc n) = (idle_within c, all_idle c n)

-- the header of an item in use says its size
pub asked_in_lem : (c n : ℕ) → c < 32 → asked_in (held_header c n) ≡ n
asked_in_lem c n l = omega arith

module _ (S : Shape) where
  -- no more was asked for than the item holds, and so no more is shown
  pub within_capacity : (c n : ℕ) → Within c (held n) → n ≤ item_capacity S c
  unfolding Within
  within_capacity c n (inl e) = omega arith
  within_capacity c n (inr e) = omega (arith, e)

  -- the header of an item in use fits a word
  pub held_fits : Good S → (c n : ℕ) → c < S.classes → Within c (held n) → held_header c n < 256 ^ S.word
  held_fits good c n cl w = omega (arith, good.fits 0 (omega arith), within_capacity c n w)

  -- what is shown of an item: as much as was asked for, or all
  pub shown_asked : (c n : ℕ) → 1 ≤ n → item_shown S c n ≡ n
  shown_asked c n l = rw (ne_eqb n 0 (λ e. omega arith)) (omega arith)

  pub shown_all : (c n : ℕ) → n ≡ 0 → item_shown S c n ≡ item_capacity S c
  shown_all c n e = rw (eq-eqb n 0 e) (omega arith)

  -- never none of it, and never more than it holds
  pub shown_some : (c n : ℕ) → 1 ≤ item_shown S c n
  shown_some c n = go (ℕ_discrete n 0)
    where
      go : Dec (n ≡ 0) → 1 ≤ item_shown S c n
      go (yes e) = omega (arith, shown_all c n e)
      go (no e) = omega (arith, shown_asked c n (omega arith))

  pub shown_within : (c n : ℕ) → Within c (held n) → item_shown S c n ≤ item_capacity S c
  shown_within c n w = go (ℕ_discrete n 0)
    where
      go : Dec (n ≡ 0) → item_shown S c n ≤ item_capacity S c
      go (yes e) = omega (arith, shown_all c n e)
      go (no e) = omega (arith, shown_asked c n (omega arith), within_capacity c n w)

-- The window's start as the code finds it, by its branch on c. Assumes nothing.
use mathlib.Core.Path.{◌≡◌, refl}
use Prim.Native.Nat.{ℕ, zero, suc}
use lib.IntN.{ℤ, pos, ◌-ℤ◌}
use Rattle.integers.specs.Extremes.{max0}
use Rattle.instant.specs.Order.{◌÷◌}
use Rattle.path.specs.Window.{start_of}

-- for a closing speed above 0
module _ (p : ℕ) (r : ℤ) where
  pub moving_start : (c : ℕ) → ¬ (c ≡ 0) → max0 (r -ℤ pos p) ÷ c ≡ start_of c r p
  moving_start zero h = absurd (h refl)
  moving_start (suc c) h = refl

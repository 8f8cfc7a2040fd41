-- Equal tests have the same first second. Assumes nothing.
use Rattle.std.specs.Prelude.{Option, Some}
use mathlib.Core.Path.{◌≡◌, refl, ap₂}
use mathlib.Core.Bool.{Bool, true, false}
use Prim.Native.Nat.{ℕ, zero, suc}
use Rattle.instant.specs.declared.Instant.{Instant}
use Rattle.instant.specs.Order.{◌÷◌}
use Rattle.shown.specs.TimeShown.{first_second}

pub second_same : (test test' : ℕ → Bool) → ((j : ℕ) → test j ≡ test' j) → (f i : ℕ) → first_second test f i ≡ first_second test' f i
second_same test test' h zero i = refl
second_same test test' h (suc f) i = ap₂ (λ (b : Bool) (m : Option Instant). elim b as (λ _. (Option Instant)) [ true ↦ Some (i ÷ 1) | false ↦ m ]) (h i) (second_same test test' h f (suc i))

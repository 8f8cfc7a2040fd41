-- The instants that the time rule tries. Lower: "window start; d; d + max(0, −u_d)/a if q ≥ 0; window end". Upper: "Window start, else window end".
use Rattle.std.specs.Prelude.{◌≡◌, cond, List, [], ◌∷◌, ◌++◌, ◌⊎◌, ℕ, ◌+◌, ◌*◌, ℤ, neg_ℤ, None, Option, Some}
use Rattle.std.specs.Option.{option_to_list}
use Rattle.std.specs.Int.Signed.{non_neg}
use Rattle.integers.specs.Extremes.{max0}
use Rattle.instant.specs.declared.Instant.{Instant}
use Rattle.instant.specs.Order.{◌÷◌}
use Rattle.path.specs.declared.SensedQuestion.{SensedQuestion}
use Rattle.path.specs.declared.Side.{Side}
use Rattle.path.specs.declared.Side.TheVariants.{Lower, Upper}
use Rattle.path.specs.Letters.{q, a, d}
use Rattle.path.specs.Paths.{u_d}
use Rattle.path.specs.Window.{window_start, window_end}

-- x is one of the list
abbrev pub Among : {A : Type 0} → A → List A → Type 0
Among x [] = ⊥
Among x (y ∷ l) = (x ≡ y) ⊎ Among x l

-- The turning instant, where the path is lowest after d: "d + max(0, −u_d)/a if q ≥ 0". Target is q, strength is a, delay is d, speed is u_d.
abbrev pub turning_instant : ℤ → ℕ → ℕ → ℤ → Option Instant
turning_instant target strength delay speed = cond (non_neg target) (Some ((delay * strength + max0 (neg_ℤ speed)) ÷ strength)) None

-- the instants of a path itself: of the lower, d and the turning instant
abbrev pub path_instants : Side → SensedQuestion → List Instant
path_instants Lower s = (d s ÷ 1) ∷ option_to_list (turning_instant (q s) (a s) (d s) (u_d s))
path_instants Upper s = []

-- all of them, in document 01's order
abbrev pub instants : Side → SensedQuestion → List Instant
instants side s = window_start s ∷ (path_instants side s ++ option_to_list (window_end s))

-- Definitions that only inner contracts use; an instructor need not read them.
-- The window and conflict once more, as tests that compute; and the window's first time.
use Rattle.std.specs.Prelude.{Bool, true, ◌&&◌, ℕ, ◌*◌, leb, nat_abs, None, Option, Some}
use Rattle.std.specs.Bool.{then_some}
use Rattle.std.specs.Int.Signed.{le_z}
use Rattle.path.specs.declared.SensedQuestion.{SensedQuestion}
use Rattle.path.specs.declared.Side.{Side}
use Rattle.path.specs.declared.Side.TheVariants.{Lower, Upper}
use Rattle.path.specs.Letters.{p}
use Rattle.path.specs.Paths.{advice_gain, delay_height, continued, lower_path, upper_path}
use Rattle.path.specs.Window.{distance_at, window_start}
use Rattle.path.specs.Conflict.{lower_edge, upper_edge}
use Rattle.instant.specs.declared.Instant.{Instant}

-- the tests of `InTime`, `Window`, `NotBeyond` and `Conflict`
abbrev pub in_time : Option ℕ → ℕ → ℕ → Bool
in_time None n m = true
in_time (Some L) n m = leb n (L * m)

unfoldable pub in_window : SensedQuestion → ℕ → ℕ → Bool
in_window s n m = leb (nat_abs (distance_at s n m)) (p s * m) && in_time s.limit n m

unfoldable pub not_beyond : Side → SensedQuestion → ℕ → ℕ → Bool
unfolding advice_gain delay_height continued
not_beyond Lower s n m = le_z (lower_path s n m) (lower_edge s m)
not_beyond Upper s n m = le_z (upper_edge s m) (upper_path s n m)

unfoldable pub in_conflict : Side → SensedQuestion → ℕ → ℕ → Bool
unfolding in_window not_beyond
in_conflict side s n m = in_window s n m && not_beyond side s n m

-- The window's first time: its start, or none where the window does not hold it, as then it is empty.
unfoldable pub opening : SensedQuestion → Option Instant
unfolding in_window
opening s = then_some (in_window s (window_start s).n (window_start s).m) (window_start s)

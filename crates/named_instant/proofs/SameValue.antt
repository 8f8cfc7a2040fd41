-- The window and a conflict are of a rational time, however it is written: 1/2 and 2/4 are in them together. Assumes nothing.
use Rattle.std.specs.Prelude.{None, Option, Some}
use mathlib.Core.Path.{subst}
use mathlib.Core.List.{[], ◌∷◌}
use Prim.Native.Nat.{ℕ, ◌*◌, ◌<◌}
use native.Mathlib.Nat.{mul-le-mul_right, le_of_mul-le-mul_right}
use native.Mathlib.Omega.{arith}
use Rattle.integers.proofs.Quotation.{quote}
use Rattle.integers.proofs.Certificates.{by≤, div≤, gap≤, ◌⊠◌, 0≤pos, pos<}
use Rattle.instant.specs.declared.Instant.{Instant}
use Rattle.instant.specs.Order.{◌≈◌}
use Rattle.path.specs.declared.SensedQuestion.{SensedQuestion}
use Rattle.path.specs.declared.Side.{Side}
use Rattle.path.specs.declared.Side.TheVariants.{Lower, Upper}
use Rattle.path.specs.Window.{InTime, Window}
use Rattle.path.specs.Conflict.{NotBeyond, Conflict}
use Rattle.path.proofs.Profile.{scaled_up, scaled_down}
use Rattle.path.proofs.SideProfiles.{lower_scale, lower_edge_scale, upper_scale, upper_edge_scale}
use Rattle.path.proofs.WindowEnds.{window_from, window_till, window_by}

-- ---- the limit
in_time_up : (l : Option ℕ) (n m x : ℕ) → InTime l n m → InTime l (n * x) (m * x)
in_time_up None n m x h = tt
in_time_up (Some L) n m x h = omega (arith, mul-le-mul_right x h)

in_time_down : (l : Option ℕ) (n m x : ℕ) → 0 < x → InTime l (n * x) (m * x) → InTime l n m
in_time_down None n m x p h = tt
in_time_down (Some L) n m x p h = le_of_mul-le-mul_right {m = n} {n = L * m} {k = x} (omega (arith, h)) p

module _ (s : SensedQuestion) (n m x : ℕ) where
  window_up : Window s n m → Window s (n * x) (m * x)
  window_up w = window_by
      (by≤ (s.closing_speed ∷ s.radius ∷ n ∷ m ∷ x ∷ []) (s.distance ∷ []) (0≤pos x ⊠ gap≤ (window_from w)) (λ v. search quote depth 20) tt)
      (by≤ (s.closing_speed ∷ s.radius ∷ n ∷ m ∷ x ∷ []) (s.distance ∷ []) (0≤pos x ⊠ gap≤ (window_till w)) (λ v. search quote depth 20) tt)
      (in_time_up s.limit n m x w.intime)

  window_down : 0 < x → Window s (n * x) (m * x) → Window s n m
  window_down p w = window_by
      (div≤ (s.closing_speed ∷ s.radius ∷ n ∷ m ∷ x ∷ []) (s.distance ∷ []) (pos< p) (gap≤ (window_from w)) (λ v. search quote depth 20) tt)
      (div≤ (s.closing_speed ∷ s.radius ∷ n ∷ m ∷ x ∷ []) (s.distance ∷ []) (pos< p) (gap≤ (window_till w)) (λ v. search quote depth 20) tt)
      (in_time_down s.limit n m x p w.intime)

  not_beyond_up : (side : Side) → NotBeyond side s n m → NotBeyond side s (n * x) (m * x)
  not_beyond_up Lower h = scaled_up x (lower_scale s n m x) (lower_edge_scale s m x) h
  not_beyond_up Upper h = scaled_up x (upper_edge_scale s m x) (upper_scale s n m x) h

  not_beyond_down : (side : Side) → 0 < x → NotBeyond side s (n * x) (m * x) → NotBeyond side s n m
  not_beyond_down Lower p h = scaled_down x (lower_scale s n m x) (lower_edge_scale s m x) p h
  not_beyond_down Upper p h = scaled_down x (upper_edge_scale s m x) (upper_scale s n m x) p h

-- ---- of two fractions of one value: both over the product of their divisors
module _ (s : SensedQuestion) (t u : Instant) (pt : 0 < t.m) (e : t ≈ u) where
  over_both : (H : ℕ → ℕ → Type 0) → H (t.n * u.m) (t.m * u.m) → H (u.n * t.m) (u.m * t.m)
  over_both H h = subst (λ (n : ℕ). H n (u.m * t.m)) e (subst (λ (m : ℕ). H (t.n * u.m) m) (omega arith) h)

  pub same_window : Window s t.n t.m → Window s u.n u.m
  same_window w = window_down s u.n u.m t.m pt (over_both (Window s) (window_up s t.n t.m u.m w))

  pub same_conflict : (side : Side) → Conflict side s t.n t.m → Conflict side s u.n u.m
  same_conflict side c = record {
    window = same_window c.window;
    vertical = not_beyond_down s u.n u.m t.m side pt (over_both (NotBeyond side s) (not_beyond_up s t.n t.m u.m side c.vertical));
  }

-- For a target that is not negative the lower path rises from the turning instant on: if it is not beyond the puck's edge at a time, it was not at any
-- time between the turning instant and that one. So no later time need be tried. Nor need one on the upper side where the upper target is not positive: the upper
-- path falls throughout. Assumes nothing.
use mathlib.Core.Path.{◌≡◌, subst}
use Prim.Native.Nat.{ℕ, ◌+◌, ◌*◌, ◌-◌, ◌<◌, ◌≤◌}
use native.Mathlib.Nat.{mul-le-mul_right, le_of_mul-le-mul_right, mul-sub}
use native.Mathlib.Omega.{arith}
use lib.IntN.{ℤ, pos, negsuc, neg_ℤ}
use lib.Signed.{◌≤ℤ◌}
use Rattle.integers.specs.Extremes.{max0}
use Rattle.integers.proofs.Laws.{≤ℤ_trans, maxℤ_right}
use Rattle.instant.specs.declared.Instant.{Instant}
use Rattle.instant.specs.Order.{◌÷◌, ◌≼◌}
use Rattle.path.specs.declared.SensedQuestion.{SensedQuestion}
use Rattle.path.specs.declared.Side.TheVariants.{Lower, Upper}
use Rattle.path.specs.Paths.{advice_gain, delay_height, u_d, lower_path, speed_reached, upper_target, upper_path}
use Rattle.path.specs.Conflict.{lower_edge, upper_edge, NotBeyond}
use Rattle.path.proofs.AdviceRule.{gain_zero, rises_from_turning}
use Rattle.path.proofs.Continued.{after_keeps}
use Rattle.path.proofs.Profile.{scaled_up, scaled_down}
use Rattle.path.proofs.SideProfiles.{lower_scale, lower_edge_scale, upper_falling, upper_scale, upper_edge_scale}

gain_risen : (a n₁ n₂ m : ℕ) (q x : ℤ) → pos 0 ≤ℤ q → n₁ ≤ n₂ → max0 (neg_ℤ x) * m ≤ a * n₁ → advice_gain a q x n₁ m ≤ℤ advice_gain a q x n₂ m
gain_risen a n₁ n₂ m (pos q) x h l t = rises_from_turning a n₁ n₂ m q x l t
gain_risen a n₁ n₂ m (negsuc q) x h l t = absurd h.le

module _ (s : SensedQuestion) (pa : 0 < s.strength) (h : pos 0 ≤ℤ s.target) where
  -- over one denominator
  rises : (x y m : ℕ) → x ≤ y → s.delay * s.strength * m + max0 (neg_ℤ (u_d s)) * m ≤ x * s.strength → lower_path s x m ≤ℤ lower_path s y m
  rises x y m l t =
      let d : s.delay * m ≤ x = le_of_mul-le-mul_right {m = s.delay * m} {n = x} {k = s.strength} (omega arith) pa in
      after_keeps s.strength (delay_height (neg_ℤ (pos s.delay_acceleration)) s.speed) s.delay 1 (advice_gain s.strength s.target (u_d s)) (λ m. gain_zero s.strength m s.target (u_d s)) m x y d (omega arith)
      (gain_risen s.strength (x - s.delay * m) (y - s.delay * m) m s.target (u_d s) h (omega arith) (omega (arith, mul-sub s.strength x (s.delay * m))))

  pub risen : (x t : Instant) → 0 < x.m → 0 < t.m → s.delay * s.strength + max0 (neg_ℤ (u_d s)) ÷ s.strength ≼ x → x ≼ t → NotBeyond Lower s t.n t.m → NotBeyond Lower s x.n x.m
  risen x t px pt after l c =
      let later = scaled_up x.m (lower_scale s t.n t.m x.m) (lower_edge_scale s t.m x.m) c in
      let rise = rises (x.n * t.m) (t.n * x.m) (t.m * x.m) l (omega (arith, mul-le-mul_right t.m after)) in
      let one : t.m * x.m ≡ x.m * t.m = omega arith in
      scaled_down t.m (lower_scale s x.n x.m t.m) (lower_edge_scale s x.m t.m) pt
      (subst (λ (m : ℕ). lower_path s (x.n * t.m) m ≤ℤ lower_edge s m) one (≤ℤ_trans rise later))

pub fallen : (s : SensedQuestion) → upper_target s ≤ℤ pos 0 → (x t : Instant) → 0 < t.m → x ≼ t → NotBeyond Upper s t.n t.m → NotBeyond Upper s x.n x.m
fallen s h x t pt l c =
    let later = scaled_up x.m (upper_edge_scale s t.m x.m) (upper_scale s t.n t.m x.m) c in
    let fall = upper_falling s.upper_strength s.delay_acceleration s.delay (t.m * x.m) s.speed (upper_target s) (maxℤ_right s.upper_target (speed_reached s)) h (x.n * t.m) (t.n * x.m) l in
    let one : t.m * x.m ≡ x.m * t.m = omega arith in
    scaled_down t.m (upper_edge_scale s x.m t.m) (upper_scale s x.n x.m t.m) pt
    (subst (λ (m : ℕ). upper_edge s m ≤ℤ upper_path s (x.n * t.m) m) one (≤ℤ_trans later fall))

-- Where a path goes towards the intruder for ever, the whole seconds with a conflict from `search_start` on are all that follow the first of them: if 0,
-- `search_start` and a later second have none, no second before that one has. So a search may halve. Assumes nothing.
use mathlib.Core.Logic.{◌⊎◌, inl, inr, ⊎_elim}
use Prim.Native.Nat.{ℕ, ◌*◌, ◌-◌, ◌<◌, ◌≤◌}
use native.Mathlib.Omega.{arith}
use lib.IntN.{ℤ, pos, neg_ℤ, ◌*ℤ◌}
use lib.Signed.{◌≤ℤ◌, ◌<ℤ◌}
use Rattle.integers.proofs.Certificates.{split<}
use Rattle.integers.proofs.Laws.{<ℤ_≤ℤ, ≤ℤ_trans, split≤, maxℤ_right}
use Rattle.path.specs.declared.SensedQuestion.{SensedQuestion}
use Rattle.path.specs.declared.Side.{Side}
use Rattle.path.specs.declared.Side.TheVariants.{Lower, Upper}
use Rattle.path.specs.Paths.{advice_gain, delay_height, u_d, lower_path, speed_reached, upper_target, upper_path}
use Rattle.path.specs.Conflict.{NotBeyond}
use Rattle.path.specs.inner.Sizes.{search_start}
use Rattle.path.proofs.AdviceRule.{gain_zero, gain_sinks, delay_rises, delay_falls}
use Rattle.path.proofs.Continued.{before_keeps, after_keeps}
use Rattle.path.proofs.SideProfiles.{Approaches, upper_valley}

module _ (s : SensedQuestion) where
  abbrev path : ℕ → ℤ
  path n = lower_path s n 1

  -- up to d: a hill
  before_delay : (j : ℕ) → j ≤ s.delay → (path s.delay ≤ℤ path j) ⊎ (path 0 ≤ℤ path j)
  before_delay j l = ⊎_elim
      (λ (h : (s.speed *ℤ pos 1) <ℤ (pos s.delay_acceleration *ℤ pos j)). inl (kept s.delay j (omega arith) l (delay_falls s.delay_acceleration j s.delay 1 s.speed l (<ℤ_≤ℤ h))))
      (λ (h : (pos s.delay_acceleration *ℤ pos j) ≤ℤ (s.speed *ℤ pos 1)). inr (kept 0 j (omega arith) l (delay_rises s.delay_acceleration 0 j 1 s.speed (omega arith) h)))
      (split< (s.speed *ℤ pos 1) (pos s.delay_acceleration *ℤ pos j))
    where
      kept : (x z : ℕ) → x ≤ s.delay → z ≤ s.delay → delay_height (neg_ℤ (pos s.delay_acceleration)) s.speed x 1 ≤ℤ delay_height (neg_ℤ (pos s.delay_acceleration)) s.speed z 1 → path x ≤ℤ path z
      kept x z i j h = before_keeps s.strength (delay_height (neg_ℤ (pos s.delay_acceleration)) s.speed) s.delay 1 (advice_gain s.strength s.target (u_d s)) (λ m. gain_zero s.strength m s.target (u_d s)) 1 x z (omega arith) (omega arith) h

  -- from d on: down
  after_delay : s.target <ℤ pos 0 → (j k : ℕ) → s.delay ≤ j → j ≤ k → path k ≤ℤ path j
  after_delay h j k l i = after_keeps s.strength (delay_height (neg_ℤ (pos s.delay_acceleration)) s.speed) s.delay 1 (advice_gain s.strength s.target (u_d s)) (λ m. gain_zero s.strength m s.target (u_d s)) 1 k j (omega arith) (omega arith)
      (gain_sinks s.strength (j - s.delay * 1) (k - s.delay * 1) 1 s.target (u_d s) (<ℤ_≤ℤ h) (omega arith))

  -- the upper path is a valley
  upper_between : (j k : ℕ) → j ≤ k → (upper_path s j 1 ≤ℤ upper_path s 0 1) ⊎ (upper_path s j 1 ≤ℤ upper_path s k 1)
  upper_between j k l = upper_valley s.upper_strength s.delay_acceleration s.delay 1 s.speed (upper_target s) (maxℤ_right s.upper_target (speed_reached s)) 0 j k (omega arith) l

pub none_before : (side : Side) (s : SensedQuestion) → Approaches side s → ¬ NotBeyond side s 0 1 → ¬ NotBeyond side s (search_start side s) 1 → (k : ℕ) → search_start side s ≤ k → ¬ NotBeyond side s k 1 → (j : ℕ) → j ≤ k → ¬ NotBeyond side s j 1
none_before Lower s h e₀ e₁ k l e j i c = ⊎_elim
    (λ (g : j ≤ s.delay). ⊎_elim (λ p. e₁ (≤ℤ_trans p c)) (λ p. e₀ (≤ℤ_trans p c)) (before_delay s j g))
    (λ (g : s.delay < j). e (≤ℤ_trans (after_delay s h j k (omega arith) i) c))
    (split≤ j s.delay)
none_before Upper s h e₀ e₁ k l e j i c = ⊎_elim (λ p. e₀ (≤ℤ_trans c p)) (λ p. e (≤ℤ_trans c p)) (upper_between s j k i)

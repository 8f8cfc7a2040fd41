-- The heights above a path as fractions are those of `path`: a numerator and its divisor have a positive factor in common with a height and its scale. Assumes nothing.
use mathlib.Core.Path.{◌≡◌, ap, ◌∙◌}
use mathlib.Core.Bool.{cond}
use mathlib.Core.List.{[], ◌∷◌}
use Prim.Native.Nat.{ℕ, ◌*◌, ◌-◌, ◌<◌, ◌≤◌}
use native.Mathlib.Omega.{arith}
use lib.Dec.{ltb, ltb→lt, nltb→le}
use lib.IntN.{ℤ, pos, ◌+ℤ◌, ◌-ℤ◌, ◌*ℤ◌}
use Rattle.integers.specs.Extremes.{max0}
use Rattle.integers.proofs.Difference.{cond_by}
use Rattle.integers.proofs.Quotation.{quote}
use Rattle.integers.proofs.Certificates.{ring, modulo}
use Rattle.path.specs.declared.SensedQuestion.{SensedQuestion}
use Rattle.path.specs.declared.Side.{Side}
use Rattle.path.specs.declared.Side.TheVariants.{Lower, Upper}
use Rattle.path.specs.Letters.{wh, u, q, a, d, b}
use Rattle.path.specs.Paths.{advice_gain, delay_height, continued, u_d, speed_reached, upper_target}
use Rattle.path.specs.inner.Sizes.{Sized}
use Rattle.path.proofs.AdviceRule.{gain_zero, gain_arc, gain_straight}
use Rattle.path.proofs.Continued.{continued_before, continued_after}
use Rattle.conflict.specs.inner.Divided.{bend}
use Rattle.meaning.specs.declared.gaps.Fraction.{Fraction}
use Rattle.meaning.specs.Gaps.{height_above}
use Rattle.meaning.specs.inner.Fractions.{IsAbove, curve, rule_above}

-- ---- a side of strength b: g is the delay's bend, v the speed at its end, q the target
module _ (b d : ℕ) (g u q v level : ℤ) (n m : ℕ) where
  abbrev path : ℤ
  path = continued b (delay_height g u) d 1 (advice_gain b q v) n m

  abbrev Is : Fraction → Type 0
  Is f = f.n *ℤ pos (2 * b * m * m) ≡ (pos (2 * b * m * m) *ℤ level -ℤ path) *ℤ pos f.d

  -- up to d
  delayed : n ≤ d * m → Is (curve (pos 2 *ℤ level) u (g *ℤ pos n *ℤ pos n) n m)
  unfolding delay_height curve
  delayed l =
      modulo (pos 2 *ℤ pos m *ℤ pos m) (continued_before b (delay_height g u) d 1 (advice_gain b q v) (λ m. gain_zero b m q v) n m l)
      (ring (b ∷ n ∷ m ∷ []) (g ∷ u ∷ level ∷ path ∷ []) (λ v. search quote depth 20) tt)

  -- from d on
  module _ (l : d * m ≤ n) where
    abbrev i : ℕ
    i = n - d * m

    abbrev left : ℤ
    left = pos 2 *ℤ level -ℤ delay_height g u d 1

    after : (gain : ℤ) → advice_gain b q v i m ≡ gain → path ≡ pos b *ℤ delay_height g u (d * m) m +ℤ pos 1 *ℤ gain
    after gain e = continued_after b (delay_height g u) d 1 (advice_gain b q v) (λ m. gain_zero b m q v) n m l ∙ ap (λ (x : ℤ). pos b *ℤ delay_height g u (d * m) m +ℤ pos 1 *ℤ x) e

    arced : 0 < b → b * i < max0 (q -ℤ v) * m → Is (curve left v (pos (b * i * i)) i m)
    unfolding delay_height curve
    arced p h =
        modulo (pos 2 *ℤ pos m *ℤ pos m) (after _ (gain_arc b i m q v p (omega arith)))
        (ring (b ∷ d ∷ i ∷ m ∷ []) (g ∷ u ∷ v ∷ level ∷ path ∷ []) (λ v. search quote depth 20) tt)

    straightened : max0 (q -ℤ v) * m ≤ b * i → Is (record { n = left *ℤ pos (b * m) -ℤ (pos 2 *ℤ q *ℤ pos (b * i) -ℤ pos (max0 (q -ℤ v)) *ℤ pos (max0 (q -ℤ v)) *ℤ pos m); d = 2 * (b * m) })
    unfolding delay_height
    straightened h =
        modulo (pos 2 *ℤ pos b *ℤ pos m) (after _ (gain_straight b i m q v h))
        (ring (b ∷ d ∷ i ∷ m ∷ max0 (q -ℤ v) ∷ []) (g ∷ u ∷ q ∷ level ∷ path ∷ []) (λ v. search quote depth 20) tt)

    ruled : 0 < b → Is (cond (ltb (b * i) (max0 (q -ℤ v) * m)) (curve left v (pos (b * i * i)) i m) (record { n = left *ℤ pos (b * m) -ℤ (pos 2 *ℤ q *ℤ pos (b * i) -ℤ pos (max0 (q -ℤ v)) *ℤ pos (max0 (q -ℤ v)) *ℤ pos m); d = 2 * (b * m) }))
    ruled p = cond_by (ltb (b * i) (max0 (q -ℤ v) * m)) _ _ Is
        (λ t. arced p (ltb→lt (b * i) (max0 (q -ℤ v) * m) t))
        (λ t. straightened (nltb→le (b * i) (max0 (q -ℤ v) * m) t))

-- ---- a question's side
pub delay_is : (side : Side) (s : SensedQuestion) (n m : ℕ) → n ≤ d s * m → IsAbove side s n m (curve (pos 2 *ℤ wh s) (u s) (bend side s *ℤ pos n *ℤ pos n) n m)
unfolding height_above
delay_is Lower s n m l = delayed (a s) (d s) (bend Lower s) (u s) (q s) (u_d s) (wh s) n m l
delay_is Upper s n m l = delayed (b s) (d s) (bend Upper s) (u s) (upper_target s) (speed_reached s) (wh s) n m l

pub rule_is : (side : Side) (s : SensedQuestion) (n m : ℕ) → Sized side s → d s * m ≤ n → IsAbove side s n m (rule_above side s (n - d s * m) m)
unfolding height_above
rule_is Lower s n m z l = ruled (a s) (d s) (bend Lower s) (u s) (q s) (u_d s) (wh s) n m l z.a_lo
rule_is Upper s n m z l = ruled (b s) (d s) (bend Upper s) (u s) (upper_target s) (speed_reached s) (wh s) n m l z.1.b_lo

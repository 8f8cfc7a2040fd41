-- The gap of the fraction that the code has is that of the definition. Assumes nothing.
use mathlib.Core.Path.{◌≡◌, ap, ◌∙◌}
use mathlib.Core.List.{[], ◌∷◌}
use Prim.Native.Nat.{ℕ, ◌*◌, ◌<◌, ◌≤◌}
use native.Mathlib.Nat.{mul-le-mul}
use native.Mathlib.Omega.{arith}
use lib.Dec.{T}
use lib.IntN.{ℤ, ◌*ℤ◌}
use Rattle.advisory.specs.declared.Sense.{Sense}
use Rattle.advisory.specs.Sign.{sign, sensed}
use Rattle.integers.proofs.Quotation.{quote}
use Rattle.integers.proofs.Certificates.{ring, modulo}
use Rattle.integers.proofs.Machine.{Reading}
use Rattle.path.specs.declared.SensedQuestion.{SensedQuestion}
use Rattle.path.specs.declared.Side.{Side}
use Rattle.path.specs.declared.Side.TheVariants.{Lower, Upper}
use Rattle.path.specs.Letters.{k, a, b}
use Rattle.path.specs.inner.Sizes.{Sized}
use Rattle.meaning.specs.declared.gaps.Fraction.{Fraction}
use Rattle.meaning.specs.declared.gaps.Gap.{Gap}
use Rattle.meaning.specs.Gaps.{scale, height_above, gap_of}
use Rattle.meaning.specs.inner.Fractions.{IsAbove, SizedFraction}
use Rattle.meaning.proofs.Scaled.{same_gap}

-- a gap of a machine term is that of the number
pub gap_by : {r : Gap} {g : ℤ} (x : Reading g) (divisor half : ℕ) → r ≡ gap_of g divisor half → T x.guard → r ≡ gap_of x.number divisor half
gap_by x divisor half h t = h ∙ ap (λ (y : ℤ). gap_of y divisor half) (x.is t)

positive : (a m : ℕ) → 1 ≤ a → 1 ≤ m → 0 < 2 * a * m * m
positive a m p h =
    let x : 1 ≤ a * m = omega (arith, mul-le-mul p h) in
    omega (arith, mul-le-mul x h)

scale_positive : (side : Side) (s : SensedQuestion) (m : ℕ) → Sized side s → 1 ≤ m → 0 < scale side s m
scale_positive Lower s m z h = positive (a s) m z.a_lo h
scale_positive Upper s m z h = positive (b s) m z.1.b_lo h

pub sensed_gap : (w : Sense) (side : Side) (s : SensedQuestion) (n m : ℕ) → Sized side s → 1 ≤ m → (f : Fraction) → SizedFraction f → IsAbove side s n m f
    → gap_of (sign w *ℤ f.n) f.d (k s) ≡ gap_of (sensed w (height_above side s n m)) (scale side s m) (k s)
sensed_gap w side s n m z p f i e =
    same_gap (sign w *ℤ f.n) (sensed w (height_above side s n m)) f.d (scale side s m) (k s) (omega (arith, i.divisor_lo)) (scale_positive side s m z p)
    (modulo (sign w) e (ring (scale side s m ∷ f.d ∷ []) (sign w ∷ f.n ∷ height_above side s n m ∷ []) (λ v. search quote depth 20) tt))

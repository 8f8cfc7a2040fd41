-- The bounds of the heights' parts, as rules for `search`. Assumes nothing.
use mathlib.Core.Path.{◌≡◌, ap}
use mathlib.Core.List.{[], ◌∷◌}
use mathlib.Core.Logic.{inl, inr}
use Prim.Native.Nat.{ℕ, ◌*◌, ◌≤◌}
use native.Mathlib.Nat.{mul-le-mul}
use native.Mathlib.Omega.{arith}
use lib.Dec.{T, leb, leb→le}
use lib.Ieee.Fits.{and_l, and_r}
use mathlib.Core.Bool.{◌&&◌}
use lib.IntN.{ℤ, pos, ◌+ℤ◌, ◌-ℤ◌, ◌*ℤ◌, nat_abs}
use Rattle.limits.specs.Limits.{max_height, max_closing_speed, max_strength}
use Rattle.integers.proofs.Quotation.{quote}
use Rattle.integers.proofs.Certificates.{ring}
use Rattle.integers.proofs.Machine.{Reading, bounded, bounded_absolute, bounded_natural, equal_to}
use Rattle.advisory.specs.declared.Sense.{Sense}
use Rattle.advisory.specs.declared.Sense.TheVariants.{Climb, Descend}
use Rattle.advisory.specs.Sign.{sign}
use Rattle.path.specs.declared.SensedQuestion.{SensedQuestion}
use Rattle.path.specs.declared.Side.{Side}
use Rattle.path.specs.declared.Side.TheVariants.{Lower, Upper}
use Rattle.path.specs.declared.side_question.SideQuestion.{SideQuestion}
use Rattle.path.specs.Letters.{wh, u, d, e}
use Rattle.path.specs.Paths.{delay_height}
use Rattle.path.specs.inner.Sizes.{max_speed_after_delay, Sizes, farthest, InReach, Compared}
use Rattle.path.proofs.Reach.{compared_in_upper}
use Rattle.path.proofs.SideSizes.{sized_of}
use Rattle.window.proofs.Fields.{size}
use Rattle.conflict.specs.inner.Divided.{bend, speed_after_delay, strength_of, target_of, rule_of, missing}
use Rattle.conflict.specs.inner.RuleSizes.{most_start, most_missing, most_bend}
use Rattle.conflict.proofs.Fields.{numbers, start_size, rule_sizes, missing_size}
use Rattle.meaning.specs.declared.gaps.Fraction.{Fraction}
use Rattle.meaning.specs.inner.Fractions.{SizedFraction, level_left, most_level, curve, straight}

-- ---- an instant: n × m and m × m
abbrev pub most_product : ℕ
most_product = farthest Lower * max_closing_speed

pub product_size : (n m : ℕ) → Compared Lower n m → n * m ≤ most_product
product_size n m (inl h) = mul-le-mul h.n_hi h.m_hi
product_size n m (inr (h, e)) = omega (arith, ap (λ (x : ℕ). n * x) e, h.n_hi)

abbrev pub most_square : ℕ
most_square = max_closing_speed * max_closing_speed

pub square_size : (n m : ℕ) → Compared Lower n m → m * m ≤ most_square
square_size n m h = mul-le-mul (compared_in_upper Lower h).m_hi (compared_in_upper Lower h).m_hi

-- ---- a fraction is its two numbers, and a curve its three
pub same_fraction : {n n' : ℤ} {d d' : ℕ} → n ≡ n' → d ≡ d' → ◌≡◌ {A = Fraction} (record { n = n; d = d }) (record { n = n'; d = d' })
same_fraction e f = cc

pub curve_by : {f : Fraction} {l l' x x' g g' : ℤ} (n m : ℕ) → f ≡ curve l x g n m → l ≡ l' → x ≡ x' → g ≡ g' → f ≡ curve l' x' g' n m
curve_by n m h i j k = cc

-- ---- twice the height at the delay's end is the two speeds' sum times d
module _ (s : SensedQuestion) where
  start_is : (side : Side) → (u s +ℤ speed_after_delay side s) *ℤ pos (d s) ≡ delay_height (bend side s) (u s) (d s) 1
  unfolding delay_height
  start_is Lower = ring (e s ∷ d s ∷ []) (u s ∷ []) (λ v. search quote depth 20) tt
  start_is Upper = ring (e s ∷ d s ∷ []) (u s ∷ []) (λ v. search quote depth 20) tt

  pub level_left_is : (side : Side) → pos 2 *ℤ wh s -ℤ (u s +ℤ speed_after_delay side s) *ℤ pos (d s) ≡ level_left side s
  level_left_is side = ap (λ (start : ℤ). pos 2 *ℤ wh s -ℤ start) (start_is side)

  pub level_left_size : (side : Side) → Sizes s → nat_abs (level_left side s) ≤ most_level
  level_left_size side z =
      let level = bounded (wh s) max_height z.wh_lo z.wh_hi in
      let start = bounded_absolute (delay_height (bend side s) (u s) (d s) 1) most_start (start_size s z side) in
      size (level_left side s) (search numbers depth 20) tt

-- ---- a call's result is the definition's, and small
module _ (asked : SideQuestion) where
  abbrev pub read_level_left : {r : ℤ} → r ≡ level_left asked.side asked.question.sensed → Reading r
  read_level_left h = equal_to h (bounded_absolute (level_left asked.side asked.question.sensed) most_level (level_left_size asked.question.sensed asked.side asked.question.sizes))

  abbrev pub read_rule_target : {r : ℤ} → r ≡ target_of asked.side asked.question.sensed → Reading r
  read_rule_target h = equal_to h (bounded_absolute (target_of asked.side asked.question.sensed) max_speed_after_delay (rule_sizes asked.side asked.question.sensed (sized_of asked)).target_hi)

-- ---- the size of a term is within a bound that its reading has
pub within_size : {t : ℤ} {B : ℕ} (x : Reading t) → T (x.guard && leb x.bound B) → nat_abs t ≤ B
within_size {t} {B} x g = omega (arith, size t x (and_l x.guard (leb x.bound B) g), leb→le x.bound B (and_r x.guard (leb x.bound B) g))

-- ---- a sense's factor
pub sign_small : (w : Sense) → nat_abs (sign w) ≤ 1
sign_small Climb = omega arith
sign_small Descend = omega arith

-- ---- a fraction is small
module _ (n m : ℕ) (h : Compared Lower n m) where
  reach : InReach Upper n m
  reach = compared_in_upper Lower h

  pub curve_sized : (level speed gained : ℤ) → nat_abs level ≤ most_level → nat_abs speed ≤ max_speed_after_delay → nat_abs gained ≤ most_bend → SizedFraction (curve level speed gained n m)
  unfolding curve
  curve_sized level speed gained i j k =
      let l = bounded_absolute level most_level i in
      let v = bounded_absolute speed max_speed_after_delay j in
      let b = bounded_absolute gained most_bend k in
      let square = bounded_natural (m * m) most_square (square_size n m h) in
      let product = bounded_natural (n * m) most_product (product_size n m h) in
      record {
        numerator = omega (arith, size (level *ℤ pos (m * m) -ℤ (pos 2 *ℤ speed *ℤ pos (n * m) +ℤ gained)) (search numbers depth 20) tt);
        divisor_lo = omega (arith, mul-le-mul reach.m_lo reach.m_lo);
        divisor_hi = omega (arith, square_size n m h);
      }

  pub straight_sized : (asked : SideQuestion) → SizedFraction (straight asked.side asked.question.sensed n m)
  straight_sized asked =
      let s = asked.question.sensed in
      let rule = rule_sizes asked.side s (sized_of asked) in
      let a = strength_of asked.side s in
      let G = missing (rule_of asked.side s) in
      let step_size = mul-le-mul rule.strength_hi reach.m_hi in
      let l = bounded_absolute (level_left asked.side s) most_level (level_left_size s asked.side asked.question.sizes) in
      let target = bounded_absolute (target_of asked.side s) max_speed_after_delay rule.target_hi in
      let run = bounded_natural (a * n) (max_strength * farthest Upper) (mul-le-mul rule.strength_hi reach.n_hi) in
      let step = bounded_natural (a * m) (max_strength * max_closing_speed) step_size in
      let gap = bounded_natural G (most_missing Lower) (missing_size (rule_of asked.side s) rule) in
      let divisor = bounded_natural m max_closing_speed reach.m_hi in
      record {
        numerator = omega (arith, size (level_left asked.side s *ℤ pos (a * m) -ℤ (pos 2 *ℤ target_of asked.side s *ℤ pos (a * n) -ℤ pos G *ℤ pos G *ℤ pos m)) (search numbers depth 20) tt);
        divisor_lo = omega (arith, mul-le-mul rule.strength_lo reach.m_lo);
        divisor_hi = omega (arith, step_size);
      }

-- The bounds of a question's and a rule's numbers, as rules for `search`. Assumes nothing.
use mathlib.Core.Path.{◌≡◌, refl, ap, ap₂, ◌∙◌}
use mathlib.Core.Bool.{◌&&◌}
use mathlib.Core.List.{[], ◌∷◌}
use mathlib.Core.Logic.{inl, inr}
use Prim.Native.Nat.{ℕ, ◌+◌, ◌*◌, ◌<◌, ◌≤◌}
use native.Mathlib.Nat.{mul-le-mul}
use native.Mathlib.Omega.{arith}
use lib.Dec.{T, lit≤}
use lib.Ieee.Fits.{and_l, and_r}
use lib.IntN.{ℤ, pos, negsuc, ◌+ℤ◌, ◌-ℤ◌, ◌*ℤ◌, nat_abs}
use lib.Signed.{le_z}
use mir.Syntax.{w64}
use mir.Val.{SFits, to_z, of_z}
use mir.Facts.{to_z-of_z}
use Rattle.limits.specs.Limits.{max_height, max_closing_speed, max_half_height, max_strength, max_delay_acceleration, max_delay}
use Rattle.std.specs.Int.{int_max}
use Rattle.std.proofs.lemmas.Bool.Decides.{nat_tests}
use Rattle.integers.specs.Extremes.{maxℤ}
use Rattle.integers.proofs.Difference.{cond_by}
use Rattle.integers.proofs.Quotation.{quote}
use Rattle.integers.proofs.Certificates.{ring, by≤, gap≤}
use Rattle.integers.proofs.Laws.{max0_size, maxℤ_above, nat_abs_in}
use Rattle.integers.proofs.Machine.{Reading, Plain, bounded, bounded_natural, bounded_word, bounded_absolute, unbounded, equal_to, plain_terms}
use Rattle.path.specs.declared.SensedQuestion.{SensedQuestion}
use Rattle.path.specs.declared.Side.{Side}
use Rattle.path.specs.declared.Side.TheVariants.{Lower, Upper}
use Rattle.path.specs.declared.side_question.SideQuestion.{SideQuestion}
use Rattle.path.specs.declared.sized_question.SizedQuestion.{SizedQuestion}
use Rattle.path.specs.Letters.{k, wh, u, q, d, e, upper_q}
use Rattle.path.specs.Paths.{delay_height, u_d, speed_reached, upper_target}
use Rattle.path.specs.inner.Sizes.{max_speed_difference, max_speed_after_delay, Sizes, Sized, farthest, Compared}
use Rattle.window.proofs.Fields.{read_n, read_m, size}
use Rattle.conflict.specs.declared.AdviceRule.{AdviceRule}
use Rattle.conflict.specs.inner.Divided.{height_not_beyond, bend, speed_after_delay, edge_height, target_of, rule_edge, rule_of, missing}
use Rattle.conflict.specs.inner.RuleSizes.{most_start, most_edge, RuleSizes, most_missing, most_bend}

-- ---- a call's result, which fits and equals t; no bound is known
abbrev pub read_call : {x t : ℤ} → SFits w64 x → x ≡ t → Reading (to_z w64 (of_z w64 x))
read_call {x} {t} f h = equal_to (to_z-of_z f ∙ h) (unbounded t)

-- ---- a question
module _ (s : SensedQuestion) (z : Sizes s) where
  abbrev pub read_half_height : Reading (to_z w64 s.half_height)
  read_half_height = bounded_word (k s) max_half_height z.k_hi

  abbrev pub read_level : Reading s.level
  read_level = bounded (wh s) max_height z.wh_lo z.wh_hi

  abbrev pub read_speed : Reading s.speed
  read_speed = bounded (u s) max_speed_difference z.u_lo z.u_hi

  abbrev pub read_target : Reading s.target
  read_target = bounded (q s) max_speed_difference z.q_lo z.q_hi

  abbrev pub read_delay : Reading (to_z w64 s.delay)
  read_delay = bounded_word (d s) max_delay z.d_hi

  abbrev pub read_delay_acceleration : Reading (to_z w64 s.delay_acceleration)
  read_delay_acceleration = bounded_word (e s) max_delay_acceleration z.e_hi

-- ---- a rule
module _ (rule : AdviceRule) (z : RuleSizes rule) where
  abbrev pub read_rule_strength : Reading (to_z w64 rule.strength)
  read_rule_strength = bounded_word rule.strength max_strength z.strength_hi

  abbrev pub read_rule_target : Reading rule.target
  read_rule_target = bounded_absolute rule.target max_speed_after_delay z.target_hi

  abbrev pub read_rule_speed : Reading rule.speed
  read_rule_speed = bounded_absolute rule.speed max_speed_after_delay z.speed_hi

  abbrev pub read_rule_edge : Reading rule.edge
  read_rule_edge = bounded_absolute rule.edge most_edge z.edge_hi

-- a side's rule is its four numbers
pub same_rule : {side : Side} {a a' : ℕ} {q q' x x' i i' : ℤ} → a ≡ a' → q ≡ q' → x ≡ x' → i ≡ i' → ◌≡◌ {A = AdviceRule} (record { side = side; strength = a; target = q; speed = x; edge = i }) (record { side = side; strength = a'; target = q'; speed = x'; edge = i' })
same_rule f g h k = cc

-- a side's comparison of two numbers that the code reads
module _ (side : Side) {s t : ℤ} (x : Reading s) (y : Reading t) where
  pub comparison_is : T (x.guard && y.guard) → height_not_beyond side s t ≡ height_not_beyond side x.number y.number
  comparison_is g = ap₂ (height_not_beyond side) (x.is (and_l x.guard y.guard g)) (y.is (and_r x.guard y.guard g))

abbrev pub plain_comparison : (side : Side) {s t : ℤ} → Reading s → Reading t → Plain (height_not_beyond side s t)
plain_comparison side x y = record { value = height_not_beyond side x.number y.number; guard = x.guard && y.guard; is = comparison_is side x y }

-- `search numbers` finds the reading of a machine term, where the sizes of its question or rule and the reach of its instant are in scope
pub ruleset numbers = (
  plain_terms,
  plain_comparison,
  read_n,
  read_m,
  read_half_height,
  read_level,
  read_speed,
  read_target,
  read_delay,
  read_delay_acceleration,
  read_rule_strength,
  read_rule_target,
  read_rule_speed,
  read_rule_edge,
)

-- the library's larger of two numbers is the paths', also of two that the code reads
int_max_is : (x y : ℤ) → int_max x y ≡ maxℤ x y
int_max_is (pos a) (pos b) = grind (arith, nat_tests)
int_max_is (pos a) (negsuc b) = refl
int_max_is (negsuc a) (pos b) = refl
int_max_is (negsuc a) (negsuc b) = grind (arith, nat_tests)

pub larger_is : {m s t : ℤ} (x : Reading s) (y : Reading t) → T x.guard → T y.guard → m ≡ int_max s t → m ≡ maxℤ x.number y.number
larger_is x y f g h = h ∙ (ap₂ int_max (x.is f) (y.is g) ∙ int_max_is x.number y.number)

-- ---- the parts of a side's delay and rule
module _ (s : SensedQuestion) (z : Sizes s) where
  pub bend_natural : (side : Side) → nat_abs (bend side s) ≤ max_delay_acceleration
  bend_natural Lower = let acceleration = bounded_natural (e s) max_delay_acceleration z.e_hi in size (bend Lower s) (search numbers depth 20) tt
  bend_natural Upper = z.e_hi

  pub after_delay_size : (side : Side) → nat_abs (speed_after_delay side s) ≤ max_speed_after_delay
  after_delay_size Lower =
      let acceleration = bounded_natural (e s) max_delay_acceleration z.e_hi in
      let delay = bounded_natural (d s) max_delay z.d_hi in
      size (u_d s) (search numbers depth 20) tt
  after_delay_size Upper =
      let acceleration = bounded_natural (e s) max_delay_acceleration z.e_hi in
      let delay = bounded_natural (d s) max_delay z.d_hi in
      size (speed_reached s) (search numbers depth 20) tt

  pub edge_height_size : (side : Side) → nat_abs (edge_height side s) ≤ max_height + max_half_height
  edge_height_size Lower = let half-height = bounded_natural (k s) max_half_height z.k_hi in size (edge_height Lower s) (search numbers depth 20) tt
  edge_height_size Upper = let half-height = bounded_natural (k s) max_half_height z.k_hi in size (edge_height Upper s) (search numbers depth 20) tt

  pub start_size : (side : Side) → nat_abs (delay_height (bend side s) (u s) (d s) 1) ≤ most_start
  unfolding delay_height
  start_size side =
      let acceleration = bounded_absolute (bend side s) max_delay_acceleration (bend_natural side) in
      let delay = bounded_natural (d s) max_delay z.d_hi in
      size (delay_height (bend side s) (u s) (d s) 1) (search numbers depth 20) tt

  pub rule_edge_size : (side : Side) → nat_abs (rule_edge side s) ≤ most_edge
  rule_edge_size side =
      let edge = bounded_absolute (edge_height side s) (max_height + max_half_height) (edge_height_size side) in
      let start = bounded_absolute (delay_height (bend side s) (u s) (d s) 1) most_start (start_size side) in
      size (rule_edge side s) (search numbers depth 20) tt

  -- twice the height at the delay's end: the two speeds' sum times d
  start_is : (side : Side) → (u s +ℤ speed_after_delay side s) *ℤ pos (d s) ≡ delay_height (bend side s) (u s) (d s) 1
  unfolding delay_height
  start_is Lower = ring (e s ∷ d s ∷ []) (u s ∷ []) (λ v. search quote depth 20) tt
  start_is Upper = ring (e s ∷ d s ∷ []) (u s ∷ []) (λ v. search quote depth 20) tt

  pub rule_edge_is : (side : Side) → pos 2 *ℤ edge_height side s -ℤ (u s +ℤ speed_after_delay side s) *ℤ pos (d s) ≡ rule_edge side s
  rule_edge_is side = ap (λ (start : ℤ). pos 2 *ℤ edge_height side s -ℤ start) (start_is side)

-- a call's result is the definition's, and small
module _ (side : Side) (question : SizedQuestion) {r : ℤ} where
  abbrev pub read_bend : r ≡ bend side question.sensed → Reading r
  read_bend h = equal_to h (bounded_absolute (bend side question.sensed) max_delay_acceleration (bend_natural question.sensed question.sizes side))

module _ (asked : SideQuestion) {r : ℤ} where
  abbrev pub read_speed_after_delay : r ≡ speed_after_delay asked.side asked.question.sensed → Reading r
  read_speed_after_delay h = equal_to h (bounded_absolute (speed_after_delay asked.side asked.question.sensed) max_speed_after_delay (after_delay_size asked.question.sensed asked.question.sizes asked.side))

  abbrev pub read_edge_height : r ≡ edge_height asked.side asked.question.sensed → Reading r
  read_edge_height h = equal_to h (bounded_absolute (edge_height asked.side asked.question.sensed) (max_height + max_half_height) (edge_height_size asked.question.sensed asked.question.sizes asked.side))

-- an upper rule's target is the larger of the advice's and the speed that the rule begins with
pub upper_target_is : (side : Side) (s : SensedQuestion) → side ≡ Upper → maxℤ (upper_q s) (speed_after_delay side s) ≡ target_of side s
upper_target_is Lower s is = cc
upper_target_is Upper s is = refl

pub upper_target_size : (s : SensedQuestion) → Sized Upper s → nat_abs (upper_target s) ≤ max_speed_after_delay
upper_target_size s z =
    cond_by (le_z (upper_q s) (speed_reached s)) (speed_reached s) (upper_q s) (λ x. nat_abs x ≤ max_speed_after_delay)
    (λ t. after_delay_size s z.0 Upper)
    (λ t. omega (arith, nat_abs_in (upper_q s) max_speed_difference z.1.upper_q_lo z.1.upper_q_hi))

pub rule_sizes : (side : Side) (s : SensedQuestion) → Sized side s → RuleSizes (rule_of side s)
rule_sizes Lower s z = record {
  strength_lo = z.a_lo;
  strength_hi = z.a_hi;
  target_hi = omega (arith, nat_abs_in (q s) max_speed_difference z.q_lo z.q_hi);
  speed_hi = after_delay_size s z Lower;
  edge_hi = rule_edge_size s z Lower;
}
rule_sizes Upper s z = record {
  strength_lo = z.1.b_lo;
  strength_hi = z.1.b_hi;
  target_hi = upper_target_size s z;
  speed_hi = after_delay_size s z.0 Upper;
  edge_hi = rule_edge_size s z.0 Upper;
}

-- ---- the missing speed
pub missing_size : (rule : AdviceRule) → RuleSizes rule → missing rule ≤ most_missing Lower
missing_size rule z = omega (arith, max0_size (rule.target -ℤ rule.speed), size (rule.target -ℤ rule.speed) (search numbers depth 20) tt)

pub missing_most : (side : Side) (s : SensedQuestion) → Sized side s → missing (rule_of side s) ≤ most_missing side
missing_most Lower s z = missing_size (rule_of Lower s) (rule_sizes Lower s z)
missing_most Upper s z = maxℤ_above (upper_q s) (speed_reached s) max_speed_difference (by≤ (e s ∷ d s ∷ []) (u s ∷ upper_q s ∷ []) (gap≤ z.1.change) (λ v. search quote depth 20) tt)

-- ---- an arc: its strength times n is below the missing speed times m
missing_most_lower : (side : Side) → most_missing side ≤ most_missing Lower
missing_most_lower Lower = lit≤ tt
missing_most_lower Upper = lit≤ tt

most_bend_lem : (side : Side) → most_missing side * max_closing_speed * farthest side ≤ most_bend
most_bend_lem Lower = lit≤ tt
most_bend_lem Upper = lit≤ tt

pub bend_size : (side : Side) (g i n m : ℕ) → g ≤ most_missing side → Compared side n m → i < g * m → i * n ≤ most_bend
bend_size side g i n m z (inl h) l =
    let x : i ≤ most_missing side * max_closing_speed = omega (arith, mul-le-mul z h.m_hi) in
    omega (arith, mul-le-mul x h.n_hi, most_bend_lem side)
bend_size side g i n m z (inr (h, e)) l =
    let x : i ≤ most_missing Lower = omega (arith, l, ap (λ (x : ℕ). g * x) e, missing_most_lower side, z) in
    omega (arith, mul-le-mul x h.n_hi)

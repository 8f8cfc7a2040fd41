-- The divided comparisons are those of `path`: both sides of a comparison have a positive factor in common, and where a rule begins at a height, that
-- height is taken from both sides. Assumes nothing.
use mathlib.Core.Path.{◌≡◌, sym}
use mathlib.Core.List.{[], ◌∷◌}
use Prim.Native.Nat.{ℕ, ◌*◌, ◌-◌, ◌<◌, ◌≤◌}
use native.Mathlib.Omega.{arith}
use lib.IntN.{ℤ, pos, negsuc, ◌-ℤ◌, ◌*ℤ◌}
use lib.Signed.{◌≤ℤ◌, le_z, le_z_yes}
use Rattle.integers.proofs.Quotation.{quote}
use Rattle.integers.proofs.Certificates.{ring, modulo, by≤, div≤, gap≤, ◌⊞◌, ◌⊠◌, 0≤pos, pos<}
use Rattle.integers.proofs.Laws.{≤ℤ-of-≡, same_test}
use Rattle.path.specs.declared.SensedQuestion.{SensedQuestion}
use Rattle.path.specs.declared.Side.{Side}
use Rattle.path.specs.declared.Side.TheVariants.{Lower, Upper}
use Rattle.path.specs.Letters.{u, q, a, d, b}
use Rattle.path.specs.Paths.{advice_gain, delay_height, continued, u_d, speed_reached, upper_target}
use Rattle.path.specs.inner.Sizes.{Sized}
use Rattle.path.specs.inner.Tests.{not_beyond}
use Rattle.path.proofs.AdviceRule.{gain_zero, gain_arc, gain_straight}
use Rattle.path.proofs.Continued.{continued_before, continued_after}
use Rattle.conflict.specs.declared.AdviceRule.{AdviceRule}
use Rattle.conflict.specs.inner.Divided.{height_not_beyond, bend, edge_height, delay_not_beyond, rule_of, missing, arc_not_beyond, straight_not_beyond, rule_not_beyond}

-- y - x is i times y' - x', with i positive: the two orders are one
module _ (x y x' y' : ℤ) (i : ℕ) (p : 0 < i) (f : y -ℤ x ≡ pos i *ℤ (y' -ℤ x')) where
  times≤ : x' ≤ℤ y' → x ≤ℤ y
  times≤ h = by≤ (i ∷ []) (x ∷ y ∷ x' ∷ y' ∷ []) (0≤pos i ⊠ gap≤ h ⊞ gap≤ (≤ℤ-of-≡ (sym f))) (λ v. search quote depth 20) tt

  over≤ : x ≤ℤ y → x' ≤ℤ y'
  over≤ h = div≤ (i ∷ []) (x ∷ y ∷ x' ∷ y' ∷ []) (pos< p) (gap≤ h ⊞ gap≤ (≤ℤ-of-≡ f)) (λ v. search quote depth 20) tt

  one_order : le_z x' y' ≡ le_z x y
  one_order = same_test (le_z x' y') (le_z x y) (λ t. (times≤ (le_z_yes t)).le) (λ t. (over≤ (le_z_yes t)).le)

pub divided : (side : Side) (h x h' x' : ℤ) (i : ℕ) → 0 < i → x -ℤ h ≡ pos i *ℤ (x' -ℤ h') → height_not_beyond side h' x' ≡ height_not_beyond side h x
divided Lower h x h' x' i p f = one_order h x h' x' i p f
divided Upper h x h' x' i p f = one_order x h x' h' i p (modulo (negsuc 0) f (ring (i ∷ []) (h ∷ x ∷ h' ∷ x' ∷ []) (λ v. search quote depth 20) tt))

-- ---- the rule's two branches
module _ (rule : AdviceRule) (n m : ℕ) where
  abbrev gain : ℤ
  gain = advice_gain rule.strength rule.target rule.speed n m

  pub arc_divided : 0 < rule.strength → rule.strength * n < missing rule * m → arc_not_beyond rule n m ≡ rule_not_beyond rule n m
  arc_divided p l =
      divided rule.side _ _ _ _ rule.strength p
      (modulo (negsuc 0) (gain_arc rule.strength n m rule.target rule.speed p (omega arith))
      (ring (rule.strength ∷ n ∷ m ∷ []) (rule.speed ∷ rule.edge ∷ gain ∷ []) (λ v. search quote depth 20) tt))

  pub straight_divided : 0 < m → missing rule * m ≤ rule.strength * n → straight_not_beyond rule n m ≡ rule_not_beyond rule n m
  straight_divided p l =
      divided rule.side _ _ _ _ m p
      (modulo (negsuc 0) (gain_straight rule.strength n m rule.target rule.speed l)
      (ring (rule.strength ∷ n ∷ m ∷ missing rule ∷ []) (rule.target ∷ rule.edge ∷ gain ∷ []) (λ v. search quote depth 20) tt))

-- ---- a side: up to d the delay, with the strength divided out; then the rule, with the height at the delay's end taken from both sides
module _ (side : Side) (b d : ℕ) (g u q v level : ℤ) (n m : ℕ) where
  abbrev after : ℕ → ℕ → ℤ
  after = advice_gain b q v

  abbrev height : ℤ
  height = continued b (delay_height g u) d 1 (advice_gain b q v) n m

  abbrev edge : ℤ
  edge = pos 2 *ℤ pos b *ℤ pos m *ℤ pos m *ℤ level

  delayed : 0 < b → n ≤ d * m → height_not_beyond side (delay_height g u n m) (pos 2 *ℤ pos m *ℤ pos m *ℤ level) ≡ height_not_beyond side height edge
  delayed p l =
      divided side height edge (delay_height g u n m) (pos 2 *ℤ pos m *ℤ pos m *ℤ level) b p
      (modulo (negsuc 0) (continued_before b (delay_height g u) d 1 after (λ m. gain_zero b m q v) n m l)
      (ring (b ∷ m ∷ []) (level ∷ height ∷ delay_height g u n m ∷ []) (λ v. search quote depth 20) tt))

  ruled : d * m ≤ n → height_not_beyond side (after (n - d * m) m) (pos b *ℤ pos m *ℤ pos m *ℤ (pos 2 *ℤ level -ℤ delay_height g u d 1)) ≡ height_not_beyond side height edge
  unfolding delay_height
  ruled l =
      divided side height edge (after (n - d * m) m) (pos b *ℤ pos m *ℤ pos m *ℤ (pos 2 *ℤ level -ℤ delay_height g u d 1)) 1 (omega arith)
      (modulo (negsuc 0) (continued_after b (delay_height g u) d 1 after (λ m. gain_zero b m q v) n m l)
      (ring (b ∷ m ∷ d ∷ []) (g ∷ u ∷ level ∷ height ∷ after (n - d * m) m ∷ []) (λ v. search quote depth 20) tt))

pub delay_divided : (side : Side) (s : SensedQuestion) (n m : ℕ) → Sized side s → n ≤ d s * m → delay_not_beyond side s n m ≡ not_beyond side s n m
unfolding not_beyond
delay_divided Lower s n m z l = delayed Lower (a s) (d s) (bend Lower s) (u s) (q s) (u_d s) (edge_height Lower s) n m z.a_lo l
delay_divided Upper s n m z l = delayed Upper (b s) (d s) (bend Upper s) (u s) (upper_target s) (speed_reached s) (edge_height Upper s) n m z.1.b_lo l

pub rule_divided : (side : Side) (s : SensedQuestion) (n m : ℕ) → d s * m ≤ n → rule_not_beyond (rule_of side s) (n - d s * m) m ≡ not_beyond side s n m
unfolding not_beyond
rule_divided Lower s n m l = ruled Lower (a s) (d s) (bend Lower s) (u s) (q s) (u_d s) (edge_height Lower s) n m l
rule_divided Upper s n m l = ruled Upper (b s) (d s) (bend Upper s) (u s) (upper_target s) (speed_reached s) (edge_height Upper s) n m l

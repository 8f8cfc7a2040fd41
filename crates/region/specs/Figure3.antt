-- The article's Figure 3, "Explicit formulation": the safe region for an immediate response, line by line.
-- Letters: r is the article's r, c its r_v, p its r_p, k its h_p, a its a_lo; u is w·v, q is w·v_lo, and 2wh is 2·w·h, doubled because Figure 5's h^d has a
-- half. The speeds are relative to the intruder's, as the article's coordinates are fixed to the intruder. a is positive; c may be 0. Over each definition
-- stands the printed formula; an inequality with divisors, which are 2 and a_lo, is multiplied by them and by nothing else.
use Rattle.std.specs.Prelude.{ℤ, pos, neg_ℤ, ◌+ℤ◌, ◌-ℤ◌, ◌*ℤ◌}
use Rattle.integers.specs.Extremes.{maxℤ, minℤ}
use Rattle.region.specs.Formula.{Formula, ◌at_most◌, ◌less_than◌, ◌equals◌, ◌at_least◌, ◌more_than◌, ◌and◌, ◌or◌, ◌implies◌, ◌²}

module _ (c p k a : ℤ) (r 2wh u q : ℤ) where
  -- −r_p ≤ r < −r_p − r_v min(0, wv)/a_lo; the second times a_lo
  abbrev pub case₁ : Formula
  case₁ = neg_ℤ p at_most r and a *ℤ r less_than neg_ℤ (a *ℤ p) -ℤ c *ℤ minℤ (pos 0) u

  -- −r_p − r_v min(0, wv)/a_lo ≤ r ≤ r_p − r_v min(0, wv)/a_lo; both times a_lo
  abbrev pub case₂ : Formula
  case₂ = neg_ℤ (a *ℤ p) -ℤ c *ℤ minℤ (pos 0) u at_most a *ℤ r and a *ℤ r at_most a *ℤ p -ℤ c *ℤ minℤ (pos 0) u

  -- w r_v² h < a_lo/2 (r + r_p)² + w r_v v (r + r_p) − r_v² h_p; times 2
  abbrev pub bound₁ : Formula
  bound₁ = c ² *ℤ 2wh less_than a *ℤ (r +ℤ p) ² +ℤ pos 2 *ℤ c *ℤ u *ℤ (r +ℤ p) -ℤ pos 2 *ℤ c ² *ℤ k

  -- w h < −min(0, wv)²/(2 a_lo) − h_p; times 2 a_lo
  abbrev pub bound₂ : Formula
  bound₂ = a *ℤ 2wh less_than neg_ℤ (minℤ (pos 0) u ²) -ℤ pos 2 *ℤ a *ℤ k

  -- r_p − r_v min(0, wv)/a_lo < r ≤ r_p + r_v max(0, w(v_lo − v))/a_lo; both times a_lo
  abbrev pub case₃ : Formula
  case₃ = a *ℤ p -ℤ c *ℤ minℤ (pos 0) u less_than a *ℤ r and a *ℤ r at_most a *ℤ p +ℤ c *ℤ maxℤ (pos 0) (q -ℤ u)

  -- r_p + r_v max(0, w(v_lo − v))/a_lo < r; times a_lo
  abbrev pub case₄ : Formula
  case₄ = a *ℤ p +ℤ c *ℤ maxℤ (pos 0) (q -ℤ u) less_than a *ℤ r

  -- w r_v² h < a_lo/2 (r − r_p)² + w r_v v (r − r_p) − r_v² h_p; times 2
  abbrev pub bound₃ : Formula
  bound₃ = c ² *ℤ 2wh less_than a *ℤ (r -ℤ p) ² +ℤ pos 2 *ℤ c *ℤ u *ℤ (r -ℤ p) -ℤ pos 2 *ℤ c ² *ℤ k

  -- (r_v = 0) ∨ (w r_v h < w v_lo (r − r_p) − r_v max(0, w(v_lo − v))²/(2 a_lo) − r_v h_p); the second times 2 a_lo. The
  -- text's equation 2 and its case 4 print a_r for a_lo; the paths decide for a_lo.
  abbrev pub bound₄ : Formula
  bound₄ =
      c equals pos 0
      or a *ℤ c *ℤ 2wh less_than pos 2 *ℤ a *ℤ q *ℤ (r -ℤ p) -ℤ c *ℤ maxℤ (pos 0) (q -ℤ u) ² -ℤ pos 2 *ℤ a *ℤ c *ℤ k

  -- −r_p ≤ r < −r_p + r_v max(0, w(v_lo − v))/a_lo; the second times a_lo
  abbrev pub case₅ : Formula
  case₅ = neg_ℤ p at_most r and a *ℤ r less_than neg_ℤ (a *ℤ p) +ℤ c *ℤ maxℤ (pos 0) (q -ℤ u)

  -- −r_p + r_v max(0, w(v_lo − v))/a_lo ≤ r; times a_lo
  abbrev pub case₆ : Formula
  case₆ = neg_ℤ (a *ℤ p) +ℤ c *ℤ maxℤ (pos 0) (q -ℤ u) at_most a *ℤ r

  -- w r_v² h < a_lo/2 (r + r_p)² + w r_v v (r + r_p) − r_v² h_p; times 2
  abbrev pub bound₅ : Formula
  bound₅ = c ² *ℤ 2wh less_than a *ℤ (r +ℤ p) ² +ℤ pos 2 *ℤ c *ℤ u *ℤ (r +ℤ p) -ℤ pos 2 *ℤ c ² *ℤ k

  -- (r_v = 0 ∧ r > r_p) ∨ (w r_v h < w v_lo (r + r_p) − r_v max(0, w(v_lo − v))²/(2 a_lo) − r_v h_p); the last times 2 a_lo
  abbrev pub bound₆ : Formula
  bound₆ =
      (c equals pos 0 and r more_than p)
      or a *ℤ c *ℤ 2wh less_than pos 2 *ℤ a *ℤ q *ℤ (r +ℤ p) -ℤ c *ℤ maxℤ (pos 0) (q -ℤ u) ² -ℤ pos 2 *ℤ a *ℤ c *ℤ k

  -- L_expl^−1: (w v_lo ≥ 0 → ⋀ i=1..4 (case_i → bound_i)) ∧ (w v_lo < 0 → ⋀ i=5..6 (case_i → bound_i)). The −1 says: no time limit.
  abbrev pub L_expl⁻¹ : Formula
  L_expl⁻¹ =
      (q at_least pos 0 implies (case₁ implies bound₁) and (case₂ implies bound₂) and (case₃ implies bound₃) and (case₄ implies bound₄))
      and (q less_than pos 0 implies (case₅ implies bound₅) and (case₆ implies bound₆))

-- The article's Figure 5, "Explicit formulation": the safe region for a delayed response, line by line.
-- Letters: as in Figure 3; e is the article's a^d, and d its d. rᵈ is r^d, uᵈ is w·v^d, and 2whᵈ is 2·w·h^d, which is whole; w·w is 1. max(0, d) stands as
-- printed, though no delay here is negative. Over each definition stands the printed formula, and what it is multiplied by.
use Rattle.std.specs.Prelude.{ℤ, pos, neg_ℤ, ◌+ℤ◌, ◌-ℤ◌, ◌*ℤ◌}
use Rattle.integers.specs.Extremes.{maxℤ}
use Rattle.region.specs.Formula.{Formula, ◌at_most◌, ◌less_than◌, ◌and◌, ◌implies◌, ◌²}
use Rattle.region.specs.Figure3.{L_expl⁻¹}

module _ (c p k a e d : ℤ) (r 2wh u q : ℤ) where
  -- r^d = r_v max(0, d)
  abbrev pub rᵈ : ℤ
  rᵈ = c *ℤ maxℤ (pos 0) d

  -- v^d = v − w a^d max(0, d); times w
  abbrev pub uᵈ : ℤ
  uᵈ = u -ℤ e *ℤ maxℤ (pos 0) d

  -- h^d = −w a^d/2 max(0, d)² + v max(0, d); times 2 w
  abbrev pub 2whᵈ : ℤ
  2whᵈ = neg_ℤ (e *ℤ maxℤ (pos 0) d ²) +ℤ pos 2 *ℤ u *ℤ maxℤ (pos 0) d

  -- −r_p ≤ r ≤ r_p
  abbrev pub case₇ : Formula
  case₇ = neg_ℤ p at_most r and r at_most p

  -- w h < −h_p; times 2
  abbrev pub bound₇ : Formula
  bound₇ = 2wh less_than neg_ℤ (pos 2 *ℤ k)

  -- r_p < r ≤ r^d + r_p
  abbrev pub case₈ : Formula
  case₈ = p less_than r and r at_most rᵈ +ℤ p

  -- −r_p ≤ r < r^d − r_p
  abbrev pub case₉ : Formula
  case₉ = neg_ℤ p at_most r and r less_than rᵈ -ℤ p

  -- w r_v² h < −a^d/2 (r − r_p)² + w r_v v (r − r_p) − r_v² h_p; times 2
  abbrev pub bound₈ : Formula
  bound₈ = c ² *ℤ 2wh less_than neg_ℤ (e *ℤ (r -ℤ p) ²) +ℤ pos 2 *ℤ c *ℤ u *ℤ (r -ℤ p) -ℤ pos 2 *ℤ c ² *ℤ k

  -- w r_v² h < −a^d/2 (r + r_p)² + w r_v v (r + r_p) − r_v² h_p; times 2
  abbrev pub bound₉ : Formula
  bound₉ = c ² *ℤ 2wh less_than neg_ℤ (e *ℤ (r +ℤ p) ²) +ℤ pos 2 *ℤ c *ℤ u *ℤ (r +ℤ p) -ℤ pos 2 *ℤ c ² *ℤ k

  -- D_expl^d: (⋀ i=7..9 (case_i → bound_i)) ∧ L_expl^−1(r − r^d, h − h^d, v^d, w, v_lo). The figure's implicit form passes v where its text,
  -- and this one, have v^d; by document 01 the paths decide, and their speed after the delay is u_d.
  abbrev pub D_explᵈ : Formula
  D_explᵈ =
      ((case₇ implies bound₇) and (case₈ implies bound₈) and (case₉ implies bound₉))
      and L_expl⁻¹ c p k a (r -ℤ rᵈ) (2wh -ℤ 2whᵈ) uᵈ q

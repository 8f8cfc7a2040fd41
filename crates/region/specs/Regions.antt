-- The two regions of a sensed question, with document 01's letters for the article's (`path`'s `Letters`). They ask for a question without a limit.
use Rattle.std.specs.Prelude.{pos, ◌*ℤ◌}
use Rattle.path.specs.declared.SensedQuestion.{SensedQuestion}
use Rattle.path.specs.Letters.{r, c, p, k, wh, u, q, a, d, e}
use Rattle.region.specs.Formula.{Formula}
use Rattle.region.specs.Figure3.{L_expl⁻¹}
use Rattle.region.specs.Figure5.{D_explᵈ}

-- Figure 3, for a question without a delay
unfoldable pub L_expl : SensedQuestion → Formula
L_expl s = L_expl⁻¹ (pos (c s)) (pos (p s)) (pos (k s)) (pos (a s)) (r s) (pos 2 *ℤ wh s) (u s) (q s)

-- Figure 5
unfoldable pub D_expl : SensedQuestion → Formula
D_expl s = D_explᵈ (pos (c s)) (pos (p s)) (pos (k s)) (pos (a s)) (pos (e s)) (pos (d s)) (r s) (pos 2 *ℤ wh s) (u s) (q s)

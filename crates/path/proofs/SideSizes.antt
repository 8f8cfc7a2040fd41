-- The sizes that a side needs hold those that both need, and a side's question has them. Assumes nothing.
use mathlib.Core.Path.{◌≡◌, refl}
use Rattle.path.specs.declared.SensedQuestion.{SensedQuestion}
use Rattle.path.specs.declared.Side.{Side}
use Rattle.path.specs.declared.Side.TheVariants.{Lower, Upper}
use Rattle.path.specs.declared.side_question.SideQuestion.{SideQuestion}
use Rattle.path.specs.inner.Sizes.{Sizes, UpperSizes, Sized}

pub sizes_of : (side : Side) (s : SensedQuestion) → Sized side s → Sizes s
sizes_of Lower s z = z
sizes_of Upper s z = z.0

pub sized_of : (asked : SideQuestion) → Sized asked.side asked.question.sensed
sized_of asked = go asked.side asked.question.sensed asked.question.sizes asked.upper_sizes
  where
    go : (side : Side) (s : SensedQuestion) → Sizes s → (side ≡ Upper → UpperSizes s) → Sized side s
    go Lower s z h = z
    go Upper s z h = (z, h refl)

-- The sense as a number.
use Rattle.std.specs.Prelude.{ℤ, pos, negsuc, ◌*ℤ◌}
use Rattle.advisory.specs.declared.Sense.{Sense}
use Rattle.advisory.specs.declared.Sense.TheVariants.{Climb, Descend}

-- "The sense w is +1 for climb, −1 for descend."
abbrev pub sign : Sense → ℤ
sign Climb = pos 1
sign Descend = negsuc 0

-- "Sensed height is w times height": w × z, for heights, speeds and targets alike.
abbrev pub sensed : Sense → ℤ → ℤ
sensed sense z = sign sense *ℤ z

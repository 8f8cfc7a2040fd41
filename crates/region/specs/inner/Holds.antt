-- Definitions that only proofs and inner contracts use; an instructor need not read them.
use Rattle.std.specs.Prelude.{Bool, not, ◌&&◌, ◌||◌}
use Rattle.std.specs.Int.Signed.{le_z, lt_z}
use Rattle.region.specs.Formula.{Formula, ◌at_most◌, ◌less_than◌, ◌equals◌, ◌and◌, ◌or◌, ◌implies◌}

-- whether a formula holds: `Says` as a test
abbrev pub holds : Formula → Bool
holds (x at_most y) = le_z x y
holds (x less_than y) = lt_z x y
holds (x equals y) = le_z x y && le_z y x
holds (f and g) = holds f && holds g
holds (f or g) = holds f || holds g
holds (f implies g) = not (holds f) || holds g

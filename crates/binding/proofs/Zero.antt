-- A derived Default's float, all of whose bits are 0, is the float of 0. Assumes nothing.
use mathlib.Core.Path.{◌≡◌, refl}
use lib.Ieee.{binary64, of_bits, of_int}
use Rattle.binding.specs.Screen.{no_number}

pub default_float : of_bits binary64 0 ≡ no_number
unfolding of_bits of_int
default_float = refl

-- Texts and the instants that they name. Assumes nothing.
use Rattle.std.specs.Prelude.{None, Some, codes}
use mathlib.Core.Path.{◌≡◌, refl}
use Rattle.instant.specs.Order.{◌÷◌}
use Rattle.words.specs.InstantTexts.{number, parts, mixed_value, mixed, fraction, decimal, whole_number, instant_in}

pub mixed_example : instant_in (codes "17 1/2") ≡ Some (35 ÷ 2)
unfolding number parts mixed_value mixed instant_in
mixed_example = refl

pub decimal_example : instant_in (codes "17.05") ≡ Some (1705 ÷ 100)
unfolding number parts mixed_value decimal instant_in
decimal_example = refl

pub fraction_example : instant_in (codes "35/2") ≡ Some (35 ÷ 2)
unfolding number parts fraction instant_in
fraction_example = refl

pub whole_example : instant_in (codes "17") ≡ Some (17 ÷ 1)
unfolding number parts whole_number instant_in
whole_example = refl

-- as it is written; that it is no time is the judge's answer
pub no_time_example : instant_in (codes "5/0") ≡ Some (5 ÷ 0)
unfolding number parts fraction instant_in
no_time_example = refl

pub largest_example : instant_in (codes "18446744073709551615") ≡ Some (18446744073709551615 ÷ 1)
unfolding number parts whole_number instant_in
largest_example = refl

pub too_large_example : instant_in (codes "18446744073709551616") ≡ None
unfolding number parts whole_number instant_in
too_large_example = refl

pub comma_example : instant_in (codes "17,5") ≡ None
unfolding number parts whole_number instant_in
comma_example = refl

pub sign_example : instant_in (codes "+17") ≡ None
unfolding number parts whole_number instant_in
sign_example = refl

pub no_places_example : instant_in (codes "17.") ≡ None
unfolding number parts mixed_value decimal instant_in
no_places_example = refl

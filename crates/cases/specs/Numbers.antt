-- What a case's numbers say, where its encounter, settings and question come first: numbers of eight bytes, in two's complement.
use Rattle.std.specs.Prelude.{List, ℕ, ℤ, slice_index}
use Rattle.std.specs.Int.{w64, cast_signed}
use Rattle.question.specs.declared.Encounter.{Encounter}
use Rattle.question.specs.declared.Settings.{Settings}
use Rattle.question.specs.declared.Question.{Question}

-- the number at a position, signed
abbrev pub signed_at : List ℕ → ℕ → ℤ
signed_at numbers at = cast_signed w64 (slice_index numbers at)

abbrev pub encounter_in : List ℕ → Encounter
encounter_in numbers = record {
  distance = signed_at numbers 0;
  height = signed_at numbers 1;
  closing_speed = signed_at numbers 2;
  speed = signed_at numbers 3;
  intruder_speed = signed_at numbers 4;
}

abbrev pub settings_in : List ℕ → Settings
settings_in numbers = record {
  radius = signed_at numbers 5;
  half_height = signed_at numbers 6;
  delay_acceleration = signed_at numbers 7;
}

abbrev pub question_in : List ℕ → Question
question_in numbers = record {
  sides = signed_at numbers 8;
  sense = signed_at numbers 9;
  target = signed_at numbers 10;
  upper_target = signed_at numbers 11;
  strength = signed_at numbers 12;
  upper_strength = signed_at numbers 13;
  delay = signed_at numbers 14;
  limit = signed_at numbers 15;
}

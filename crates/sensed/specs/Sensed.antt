-- A question of plain numbers as a sensed question: "Write u = w × (v − vi), q = w × (target − vi)"; the intruder's height is w × h.
use Rattle.std.specs.Prelude.{ℕ, cond, ℤ, ◌-ℤ◌, None, Option, Some}
use Rattle.limits.specs.Limits.{no_limit}
use Rattle.integers.specs.Extremes.{max0}
use Rattle.advisory.specs.Sign.{sensed}
use Rattle.path.specs.declared.SensedQuestion.{SensedQuestion}
use Rattle.question.specs.declared.Encounter.{Encounter}
use Rattle.question.specs.declared.Settings.{Settings}
use Rattle.question.specs.declared.Question.{Question}
use Rattle.sensed.specs.declared.Motion.{Motion}
use Rattle.question.specs.Refusals.{is_number, sense_of}

-- "Limit 65,535 means none"; every other number is the limit itself
abbrev pub limit_of : ℤ → Option ℕ
limit_of l = cond (is_number no_limit l) None (Some (max0 l))

-- w × h, u, q, and w × (upper target − vi)
abbrev pub sensed_motion : Encounter → Question → Motion
sensed_motion x z =
    let w = sensed (sense_of z) in
    record {
      level = w x.height;
      speed = w (x.speed -ℤ x.intruder_speed);
      target = w (z.target -ℤ x.intruder_speed);
      upper_target = w (z.upper_target -ℤ x.intruder_speed);
    }

-- the fields that are natural numbers are not negative where the limits hold
unfoldable pub sensed_question : Encounter → Settings → Question → SensedQuestion
sensed_question x y z = record {
  distance = x.distance;
  closing_speed = max0 x.closing_speed;
  radius = max0 y.radius;
  half_height = max0 y.half_height;
  level = (sensed_motion x z).level;
  speed = (sensed_motion x z).speed;
  target = (sensed_motion x z).target;
  strength = max0 z.strength;
  delay = max0 z.delay;
  delay_acceleration = max0 y.delay_acceleration;
  upper_target = (sensed_motion x z).upper_target;
  upper_strength = max0 z.upper_strength;
  limit = limit_of z.limit;
}

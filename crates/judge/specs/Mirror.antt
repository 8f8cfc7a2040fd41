-- "M3: descend to −1,500, else as M1": an encounter and a question mirrored, with the sense turned and all heights and speeds negated.
use Rattle.std.specs.Prelude.{pos, neg_ℤ, ◌-ℤ◌}
use Rattle.question.specs.declared.Encounter.{Encounter}
use Rattle.question.specs.declared.Question.{Question}

abbrev pub mirrored : Encounter → Encounter
mirrored x = record { distance = x.distance; height = neg_ℤ x.height; closing_speed = x.closing_speed; speed = neg_ℤ x.speed; intruder_speed = neg_ℤ x.intruder_speed }

-- sense 0 becomes 1, and 1 becomes 0
abbrev pub turned : Question → Question
turned z = record {
  sides = z.sides;
  sense = pos 1 -ℤ z.sense;
  target = neg_ℤ z.target;
  upper_target = neg_ℤ z.upper_target;
  strength = z.strength;
  upper_strength = z.upper_strength;
  delay = z.delay;
  limit = z.limit;
}

-- Two examples with all three pieces. The lower one is M10's question (document 01, "Marked for proof"): code 12 climbs to 1,500 with 483 after 5 s, from v 0, with e 966. So
-- u_d is −4,830, G 6,330, and the last straight begins at 5 + 6,330/483, which is 18 and 17/161.
use Rattle.std.specs.Prelude.{List, [], ◌∷◌, ℤ, pos, neg_ℤ, None}
use Rattle.instant.specs.declared.Time.{Time}
use Rattle.instant.specs.Order.{◌÷◌}
use Rattle.path.specs.declared.SensedQuestion.{SensedQuestion}
use Rattle.pieces.specs.declared.WholePiece.{WholePiece}

abbrev pub example_question : SensedQuestion
example_question = record {
  distance = pos 0;
  closing_speed = 0;
  radius = 30000;
  half_height = 6000;
  level = neg_ℤ (pos 42225);
  speed = pos 0;
  target = pos 1500;
  strength = 483;
  delay = 5;
  delay_acceleration = 966;
  upper_target = pos 0;
  upper_strength = 0;
  limit = None;
}

abbrev pub example_pieces : List WholePiece
example_pieces =
    record { from = 0 ÷ 1; square = neg_ℤ (pos 466578); linear = pos 0; constant = pos 0 }
    ∷ record { from = 5 ÷ 1; square = pos 233289; linear = neg_ℤ (pos 6998670); constant = pos 17496675 }
    ∷ record { from = 8745 ÷ 483; square = pos 0; linear = pos 1449000; constant = neg_ℤ (pos 58978350) }
    ∷ []

abbrev pub example_meetings : List Time
example_meetings = record { seconds = 5; remainder = 0; divisor = 1 } ∷ record { seconds = 18; remainder = 17; divisor = 161 } ∷ []

-- The upper one climbs to a target with 500 after 2 s, from v 0, with e 300, so the speed reached is 600. With the target 2,500 G is 1,900, and the last straight
-- begins at 2 + 1,900/500, which is 5 and 4/5. With the target 100 the speed reached is kept: no speed is missing, and the last straight begins at 2.
abbrev pub upper_example_question : ℤ → SensedQuestion
upper_example_question target = record {
  distance = pos 0;
  closing_speed = 0;
  radius = 30000;
  half_height = 6000;
  level = pos 0;
  speed = pos 0;
  target = pos 0;
  strength = 400;
  delay = 2;
  delay_acceleration = 300;
  upper_target = target;
  upper_strength = 500;
  limit = None;
}

abbrev pub upper_example_pieces : List WholePiece
upper_example_pieces =
    record { from = 0 ÷ 1; square = pos 150000; linear = pos 0; constant = pos 0 }
    ∷ record { from = 2 ÷ 1; square = pos 250000; linear = neg_ℤ (pos 400000); constant = pos 400000 }
    ∷ record { from = 2900 ÷ 500; square = pos 0; linear = pos 2500000; constant = neg_ℤ (pos 8010000) }
    ∷ []

abbrev pub kept_speed_pieces : List WholePiece
kept_speed_pieces =
    record { from = 0 ÷ 1; square = pos 150000; linear = pos 0; constant = pos 0 }
    ∷ record { from = 1000 ÷ 500; square = pos 0; linear = pos 600000; constant = neg_ℤ (pos 600000) }
    ∷ []

abbrev pub upper_example_meetings : List Time
upper_example_meetings = record { seconds = 2; remainder = 0; divisor = 1 } ∷ record { seconds = 5; remainder = 4; divisor = 5 } ∷ []

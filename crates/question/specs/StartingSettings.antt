-- "Every sheet starts with the puck 30,000 by 6,000, e = 966."
use Rattle.std.specs.Prelude.{pos}
use Rattle.question.specs.declared.Settings.{Settings}

abbrev pub starting_settings : Settings
starting_settings = record { radius = pos 30000; half_height = pos 6000; delay_acceleration = pos 966 }

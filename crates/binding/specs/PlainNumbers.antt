-- A question's sixteen numbers, and an advice's five, as C and Rust pass them, by document 01's letters.
use Rattle.std.specs.Prelude.{ℤ}
use Rattle.question.specs.declared.Encounter.{Encounter}
use Rattle.question.specs.declared.Settings.{Settings}
use Rattle.question.specs.declared.Question.{Question}
use Rattle.candidate.specs.declared.OneSidedAdvice.{OneSidedAdvice}

abbrev pub plain_encounter : ℤ → ℤ → ℤ → ℤ → ℤ → Encounter
plain_encounter r h c v vi = record { distance = r; height = h; closing_speed = c; speed = v; intruder_speed = vi }

abbrev pub plain_settings : ℤ → ℤ → ℤ → Settings
plain_settings p k e = record { radius = p; half_height = k; delay_acceleration = e }

abbrev pub plain_question : ℤ → ℤ → ℤ → ℤ → ℤ → ℤ → ℤ → ℤ → Question
plain_question sides sense target upper a b d limit = record { sides = sides; sense = sense; target = target; upper_target = upper; strength = a; upper_strength = b; delay = d; limit = limit }

abbrev pub plain_advice : ℤ → ℤ → ℤ → ℤ → ℤ → OneSidedAdvice
plain_advice sense target a d limit = record { sense = sense; target = target; strength = a; delay = d; limit = limit }

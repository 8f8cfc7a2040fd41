-- For the verdict "conflict" nothing is promised of flights: of two flights that obey the advice of M5 (document 01: climb to 0 at 500, v −1,000, r 0, c 10,000,
-- h −7,000), one is inside the puck and the other is not. A third obeys before and after a delay, each rule on its side. Assumes nothing.
use Rattle.std.specs.Prelude.{None, Some}
use mathlib.Core.Path.{refl}
use mathlib.Core.List.{List, [], ◌∷◌}
use Prim.Native.Nat.{ℕ}
use native.Mathlib.Omega.{arith}
use lib.IntN.{ℤ, pos, neg_ℤ}
use Rattle.limits.specs.Limits.{no_limit}
use Rattle.path.specs.declared.SensedQuestion.{SensedQuestion}
use Rattle.question.specs.declared.Encounter.{Encounter}
use Rattle.question.specs.declared.Question.{Question}
use Rattle.question.specs.StartingSettings.{starting_settings}
use Rattle.question.specs.Refusals.{sense_of}
use Rattle.sensed.specs.Sensed.{sensed_question}
use Rattle.shown.specs.TimeShown.{time_shown}
use Rattle.verdict.specs.Verdicts.{verdict}
use Rattle.judge.specs.Demand3.{SaysConflict}
use Rattle.judge.specs.Examples.{meet}
use Rattle.flight.specs.declared.Stretch.{Stretch}
use Rattle.flight.specs.SensedFlight.{sensed_flight}
use Rattle.flight.specs.Obeying.{Obeys}
use Rattle.flight.specs.Inside.{RightEntry}
use Rattle.flight.specs.inner.Tests.{obeys_test, first_inside}
use Rattle.flight.proofs.ObeyingTests.{obeys_decided}
use Rattle.flight.proofs.InsideTests.{right_entry}

abbrev pub asked : ℤ → ℤ → Question
asked target delay = record { sides = pos 1; sense = pos 1; target = target; upper_target = pos 0; strength = pos 500; upper_strength = pos 0; delay = delay; limit = no_limit }

abbrev pub stretch : ℤ → ℕ → Stretch
stretch g t = record { acceleration = g; seconds = t }

-- ---- M5
abbrev pub m5_encounter : Encounter
m5_encounter = meet (pos 0) (neg_ℤ (pos 7000)) (pos 10000) (neg_ℤ (pos 1000))

abbrev pub m5 : SensedQuestion
m5 = sensed_question m5_encounter starting_settings (asked (pos 0) (pos 0))

abbrev pub in_m5 : List Stretch → List Stretch
in_m5 = sensed_flight (sense_of (asked (pos 0) (pos 0)))

pub m5_conflict : SaysConflict (verdict (asked (pos 0) (pos 0)) m5)
unfolding verdict time_shown sensed_question
m5_conflict = tt

-- the lower path itself: at 2 it is k above the intruder, which is the edge
abbrev pub just : List Stretch
just = stretch (pos 500) 2 ∷ stretch (pos 0) 5 ∷ []

pub m5_inside : Obeys m5 (in_m5 just) × RightEntry m5 (in_m5 just) (Some 2)
unfolding sensed_question obeys_test first_inside
m5_inside = ((obeys_decided m5 (in_m5 just)).0 refl, right_entry m5 (in_m5 just) (omega arith))

-- quicker than asked
abbrev pub quick : List Stretch
quick = stretch (pos 2000) 1 ∷ stretch (pos 0) 6 ∷ []

pub m5_outside : Obeys m5 (in_m5 quick) × RightEntry m5 (in_m5 quick) None
unfolding sensed_question obeys_test first_inside
m5_outside = ((obeys_decided m5 (in_m5 quick)).0 refl, right_entry m5 (in_m5 quick) (omega arith))

-- ---- M1 with a delay of 5 seconds: it sinks by e, then climbs
abbrev m1 : SensedQuestion
m1 = sensed_question (meet (pos 300000) (pos 32249) (pos 10000) (pos 0)) starting_settings (asked (pos 1500) (pos 5))

abbrev slow : List Stretch
slow = stretch (neg_ℤ (pos 966)) 5 ∷ stretch (pos 500) 13 ∷ stretch (pos 0) 20 ∷ []

pub m1_delayed : Obeys m1 (sensed_flight (sense_of (asked (pos 1500) (pos 5))) slow) × RightEntry m1 (sensed_flight (sense_of (asked (pos 1500) (pos 5))) slow) None
unfolding sensed_question obeys_test first_inside
m1_delayed = ((obeys_decided m1 (sensed_flight (sense_of (asked (pos 1500) (pos 5))) slow)).0 refl, right_entry m1 (sensed_flight (sense_of (asked (pos 1500) (pos 5))) slow) (omega arith))

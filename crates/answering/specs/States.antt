-- What a sheet keeps: the settings and the last accepted encounter.
use Rattle.std.specs.Prelude.{cond, List, [], ◌∷◌, T, ℤ, None, Option, Some}
use Rattle.question.specs.declared.Encounter.{Encounter}
use Rattle.question.specs.declared.Settings.{Settings}
use Rattle.question.specs.StartingSettings.{starting_settings}
use Rattle.question.specs.Refusals.{encounter_within, puck_within, delay_acceleration_within}
use Rattle.record.specs.declared.Record.{Record}
use Rattle.record.specs.declared.Record.TheVariants.{Puck, DelayAcceleration, Coded, Free}
use Rattle.answering.specs.declared.State.{State}

-- "Every sheet starts with the puck 30,000 by 6,000, e = 966 and no encounter."
abbrev pub starting_state : State
starting_state = record { settings = starting_settings; encounter = None }

-- the settings with another puck, and with another e
abbrev pub with_puck : Settings → ℤ → ℤ → Settings
with_puck y p k = record { radius = p; half_height = k; delay_acceleration = y.delay_acceleration }

abbrev pub with_delay_acceleration : Settings → ℤ → Settings
with_delay_acceleration y e = record { radius = y.radius; half_height = y.half_height; delay_acceleration = e }

abbrev pub with_settings : State → Settings → State
with_settings state y = record { settings = y; encounter = state.encounter }

abbrev pub with_encounter : State → Encounter → State
with_encounter state x = record { settings = state.settings; encounter = Some x }

-- The state after a record: within its limits an encounter, a puck or an e is kept; "one record of kind 68, settings and encounter unchanged". A question
-- changes nothing.
unfoldable pub state_after : State → Record → State
state_after state (Record.Encounter x) = cond (encounter_within x) (with_encounter state x) state
state_after state (Puck p k) = cond (puck_within (with_puck state.settings p k)) (with_settings state (with_puck state.settings p k)) state
state_after state (DelayAcceleration e) =
    cond (delay_acceleration_within (with_delay_acceleration state.settings e)) (with_settings state (with_delay_acceleration state.settings e)) state
state_after state (Coded code limit) = state
state_after state (Free question) = state

-- the state after records in order
unfoldable pub state_after_all : State → List Record → State
state_after_all state [] = state
state_after_all state (first ∷ rest) = state_after_all (state_after state first) rest

-- Stored values are within their limits (question, specs/Refusals.antt).
abbrev pub StoredEncounterWithin : Option Encounter → Type 0
StoredEncounterWithin None = Unit {0}
StoredEncounterWithin (Some x) = T (encounter_within x)

pub record StoredWithin (state : State) : Type 0 where
  pub encounter : StoredEncounterWithin state.encounter
  pub puck : T (puck_within state.settings)
  pub acceleration : T (delay_acceleration_within state.settings)

-- The stored settings and the stored encounter are within their limits in every state that a sheet can reach, and a refused record leaves the state as
-- it was. Assumes nothing.
use Rattle.std.specs.Prelude.{Result, Some}
use mathlib.Core.Path.{◌≡◌, refl}
use mathlib.Core.Bool.{Bool, true, false, cond}
use mathlib.Core.List.{List, [], ◌∷◌}
use Rattle.std.proofs.lemmas.Float.{T_from_true}
use Rattle.question.specs.Refusals.{encounter_within, puck_within, delay_acceleration_within}
use Rattle.record.specs.declared.Record.{Record}
use Rattle.record.specs.declared.Record.TheVariants.{Encounter, Puck, DelayAcceleration, Coded, Free}
use Rattle.answering.specs.declared.State.{State}
use Rattle.answering.specs.States.{starting_state, with_puck, with_delay_acceleration, with_settings, with_encounter, state_after, state_after_all, StoredWithin}
use Rattle.answering.specs.Replies.{settings_reply, reply_to}
use Rattle.question.specs.declared.refusal.Refusal.{Refusal}
use Rattle.verdict.specs.declared.Verdict.{Verdict}

pub starting_within : StoredWithin starting_state
starting_within = record { encounter = tt; puck = tt; acceleration = tt }

pub record_keeps_within : (st : State) (r : Record) → StoredWithin st → StoredWithin (state_after st r)
unfolding state_after
record_keeps_within st (Encounter x) w = go (encounter_within x) refl
  where
    go : (b : Bool) → encounter_within x ≡ b → StoredWithin (cond b (with_encounter st x) st)
    go true e = record { encounter = T_from_true _ e; puck = w.puck; acceleration = w.acceleration }
    go false e = w
record_keeps_within st (Puck p k) w = go (puck_within (with_puck st.settings p k)) refl
  where
    go : (b : Bool) → puck_within (with_puck st.settings p k) ≡ b → StoredWithin (cond b (with_settings st (with_puck st.settings p k)) st)
    go true e = record { encounter = w.encounter; puck = T_from_true _ e; acceleration = w.acceleration }
    go false e = w
record_keeps_within st (DelayAcceleration a) w = go (delay_acceleration_within (with_delay_acceleration st.settings a)) refl
  where
    go : (b : Bool) → delay_acceleration_within (with_delay_acceleration st.settings a) ≡ b → StoredWithin (cond b (with_settings st (with_delay_acceleration st.settings a)) st)
    go true e = record { encounter = w.encounter; puck = w.puck; acceleration = T_from_true _ e }
    go false e = w
record_keeps_within st (Coded code limit) w = w
record_keeps_within st (Free z) w = w

pub records_keep_within : (st : State) (rs : List Record) → StoredWithin st → StoredWithin (state_after_all st rs)
unfolding state_after_all
records_keep_within st [] w = w
records_keep_within st (r ∷ rs) w = records_keep_within (state_after st r) rs (record_keeps_within st r w)

-- whatever records a sheet has had
pub stored_within : (rs : List Record) → StoredWithin (state_after_all starting_state rs)
stored_within rs = records_keep_within starting_state rs starting_within

-- ---- "one record of kind 68, settings and encounter unchanged"
picked : (b : Bool) (n : Refusal) (a : Result Verdict Refusal) (new old : State) → settings_reply b n ≡ Some a → cond b new old ≡ old
picked true n a new old e = cc
picked false n a new old e = refl

-- a record that gets an answer, a refusal among them, changes nothing
pub answered_unchanged : (st : State) (r : Record) (a : Result Verdict Refusal) → reply_to st r ≡ Some a → state_after st r ≡ st
unfolding state_after reply_to
answered_unchanged st (Encounter x) a e = picked (encounter_within x) Refusal.EncounterOutside a (with_encounter st x) st e
answered_unchanged st (Puck p k) a e = picked (puck_within (with_puck st.settings p k)) Refusal.PuckOutside a (with_settings st (with_puck st.settings p k)) st e
answered_unchanged st (DelayAcceleration d) a e =
    picked (delay_acceleration_within (with_delay_acceleration st.settings d)) Refusal.DelayAccelerationOutside a (with_settings st (with_delay_acceleration st.settings d)) st e
answered_unchanged st (Coded code limit) a e = refl
answered_unchanged st (Free z) a e = refl

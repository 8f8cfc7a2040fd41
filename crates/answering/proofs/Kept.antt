-- What is left, and the reply, where a test says whether the next state is kept. Assumes nothing.
use Rattle.std.specs.Prelude.{Err, Ok, Result, Option}
use Rattle.std.specs.Option.{option_map}
use Rattle.std.specs.Result.{result_unwrap_or, result_err}
use mathlib.Core.Path.{◌≡◌, refl}
use mathlib.Core.Bool.{Bool, true, false, cond}
use Rattle.answering.specs.declared.State.{State}
use Rattle.answering.specs.Replies.{settings_reply}
use Rattle.question.specs.declared.refusal.Refusal.{Refusal}
use Rattle.verdict.specs.declared.Verdict.{Verdict}

module _ (accepted : Bool) (next : State) (why : Refusal) where
  abbrev tested : Result State Refusal
  tested = cond accepted (Ok next) (Err why)

  pub kept_state : (old : State) → result_unwrap_or tested old ≡ cond accepted next old
  kept_state old = go accepted
    where
      go : (b : Bool) → result_unwrap_or {T = State} {E = Refusal} (cond b (Ok next) (Err why)) old ≡ cond b next old
      go true = refl
      go false = refl

  pub kept_reply : ◌≡◌ {A = Option (Result Verdict Refusal)} (option_map Err (result_err tested)) (settings_reply accepted why)
  kept_reply = go accepted
    where
      go : (b : Bool) → ◌≡◌ {A = Option (Result Verdict Refusal)} (option_map Err (result_err {T = State} {E = Refusal} (cond b (Ok next) (Err why)))) (settings_reply b why)
      go true = refl
      go false = refl

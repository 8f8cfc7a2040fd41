-- `shown::time_shown` meets its contract: the window's first time has a conflict or not, and the rest is tried from d on, or at the window's end.
use Rattle.std.specs.Prelude.{Option, Some}
use Rattle.std.specs.Option.{option_to_list}
use mathlib.Core.Path.{◌≡◌, sym, ap, ◌∙◌, subst}
use mathlib.Core.Bool.{false}
use mathlib.Core.List.{◌++◌}
use mathlib.Core.Logic.{inl}
use Rattle.instant.specs.declared.Instant.{Instant}
use Rattle.path.specs.declared.SensedQuestion.{SensedQuestion}
use Rattle.path.specs.declared.Side.{Side}
use Rattle.path.specs.declared.Side.TheVariants.{Lower, Upper}
use Rattle.path.specs.Window.{window_end}
use Rattle.path.specs.Instants.{path_instants}
use Rattle.path.specs.inner.Tests.{opening, not_beyond}
use Rattle.path.proofs.Reach.{side_reach}
use Rattle.window.proofs.EndsInReach.{Near, window_start_near}
use Rattle.shown.specs.TimeShown.{approaches, shown_from, time_shown}
use Rattle.shown.specs.inner.Steps.{StartTried, InstantsTried}
use Rattle.shown.proofs.OpenWindow.{opened_at, first_tried, first_hit, first_miss, fallen_shown}
use Rattle.shown.proofs.time_shown.Goals as goal

-- what is left where the window's first time has no conflict
record Missed (side : Side) (s : SensedQuestion) (shown : Option Instant) : Type 0 where
  start : StartTried side s
  rest : shown_from side s (path_instants side s ++ option_to_list (window_end s)) ≡ shown

missed : (side x : Side) (s : SensedQuestion) (start : Instant) → side ≡ x → opening s ≡ Some start → not_beyond side s start.n start.m ≡ false → Missed x s (time_shown side s)
missed side x s start is e n = subst (λ (x : Side). Missed x s (time_shown side s)) is (record { start = first_tried s start e side n; rest = first_miss s start e side n })

pub not_beyond-requires : goal.not_beyond-requires
not_beyond-requires c =
    let s = c.args.asked.question.sensed in
    inl (side_reach c.args.asked.side (subst Near (sym (opened_at s c.args.start c.requires).0) (window_start_near s c.args.asked.question.sizes)))

pub returns-then-not_beyond : goal.returns-then-not_beyond
returns-then-not_beyond c = first_hit c.args.asked.question.sensed c.args.start c.requires c.args.asked.side (sym c.not_beyond.ensures ∙ c.if-not_beyond.true)

pub invariant_of-from_delay : goal.invariant_of-from_delay
invariant_of-from_delay c = let opens = opened_at c.args.asked.question.sensed c.args.start c.requires in record { starts = opens.0; opened = opens.1 }

pub from_delay-requires : goal.from_delay-requires
from_delay-requires c =
    (missed c.args.asked.side Lower c.args.asked.question.sensed c.args.start c.in-Lower.is c.requires (sym c.not_beyond.ensures ∙ c.if-not_beyond.false)).start

pub returns-in-Lower : goal.returns-in-Lower
returns-in-Lower c =
    c.from_delay.ensures ∙ (missed c.args.asked.side Lower c.args.asked.question.sensed c.args.start c.in-Lower.is c.requires (sym c.not_beyond.ensures ∙ c.if-not_beyond.false)).rest

pub from_end-requires-clause-opened : goal.from_end-requires-clause-opened
from_end-requires-clause-opened c = (opened_at c.args.asked.question.sensed c.args.start c.requires).1

pub from_end-requires-clause-tried : goal.from_end-requires-clause-tried
from_end-requires-clause-tried c =
    let s = c.args.asked.question.sensed in
    subst (λ (side : Side). InstantsTried side s) (sym c.in-Upper.is)
    (missed c.args.asked.side Upper s c.args.start c.in-Upper.is c.requires (sym c.not_beyond.ensures ∙ c.if-not_beyond.false)).start

pub returns-in-Upper : goal.returns-in-Upper
returns-in-Upper c =
    let s = c.args.asked.question.sensed in
    c.from_end.ensures
    ∙ ap (λ (side : Side). shown_from side s (option_to_list (window_end s))) c.in-Upper.is
    ∙ (missed c.args.asked.side Upper s c.args.start c.in-Upper.is c.requires (sym c.not_beyond.ensures ∙ c.if-not_beyond.false)).rest

pub returns-in-Upper-2 : goal.returns-in-Upper-2
returns-in-Upper-2 c =
    let s = c.args.asked.question.sensed in
    let left = missed c.args.asked.side Upper s c.args.start c.in-Upper.is c.requires (sym c.not_beyond.ensures ∙ c.if-not_beyond.false) in
    fallen_shown s (ap (λ (side : Side). approaches side s) (sym c.in-Upper.is) ∙ (sym c.approaching.ensures ∙ c.if-approaching.false)) (opened_at s c.args.start c.requires).1 left.start
    ∙ left.rest

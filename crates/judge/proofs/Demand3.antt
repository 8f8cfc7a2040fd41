-- Demand 3, for every accepted question: the answer is judged, and its verdict is right in the sense of specs/Demand3.antt, for one and for two sides. The only
-- premise is that the ordered refusals give none. Assumes nothing.
use Rattle.std.specs.Prelude.{None, Ok, Option, Result, Some, ⊤}
use mathlib.Core.Path.{◌≡◌, refl, sym, ap, ◌∙◌, subst}
use mathlib.Core.Bool.{Bool, true, false, cond}
use mathlib.Core.Logic.{◌↔◌}
use Rattle.instant.specs.declared.Instant.{Instant}
use Rattle.instant.proofs.LowestTerms.{lowest_is, lowest_sized}
use Rattle.path.specs.declared.SensedQuestion.{SensedQuestion}
use Rattle.path.specs.declared.Side.{Side}
use Rattle.path.specs.declared.Side.TheVariants.{Lower, Upper}
use Rattle.path.specs.Conflict.{ConflictExists}
use Rattle.path.specs.inner.Sizes.{Sized}
use Rattle.shown.specs.TimeShown.{time_shown}
use Rattle.shown.proofs.RulePicks.{rule_picks, never_none, shown_conflict}
use Rattle.shown.proofs.InstantsInReach.{picked_sized}
use Rattle.question.specs.declared.Encounter.{Encounter}
use Rattle.question.specs.declared.Settings.{Settings}
use Rattle.question.specs.declared.Question.{Question}
use Rattle.verdict.specs.declared.ClearSides.{ClearSides}
use Rattle.verdict.specs.declared.Verdict.{Verdict}
use Rattle.verdict.specs.declared.Verdict.TheVariants.{Clear, Conflict, Conflicts}
use Rattle.question.specs.Refusals.{two_sided, refusal}
use Rattle.sensed.specs.Sensed.{sensed_question}
use Rattle.verdict.specs.Verdicts.{time_of, one_sided_verdict, two_sided_verdict, verdict}
use Rattle.judge.specs.Answers.{checked_answer, answer, answer_record}
use Rattle.judge.specs.Demand3.{ShownTime, RightOneSided, RightTwoSided, RightVerdict, RightAnswer, SaysConflict}
use Rattle.judge.proofs.AnswerRecords.{record_determines}
use Rattle.sensed.proofs.AcceptedSizes.{accepted_sizes, accepted_upper_sizes}
use Rattle.question.specs.declared.refusal.Refusal.{Refusal}

-- ---- one side: no conflict time, or a time shown
abbrev RightSide : Side → SensedQuestion → Option Instant → Type 0
RightSide side s None = ¬ ConflictExists side s
RightSide side s (Some t) = ShownTime side s (time_of t)

right_side : (side : Side) (s : SensedQuestion) → Sized side s → RightSide side s (time_shown side s)
right_side side s z = go (time_shown side s) refl
  where
    go : (m : Option Instant) → time_shown side s ≡ m → RightSide side s m
    go None e = never_none side s z e
    go (Some t) e =
        let picked = subst (λ (m : Option Instant). Rattle.shown.specs.TimeRule.Picks side s m) e (rule_picks side s z) in
        let conflict = shown_conflict side s z t e in
        record { instant = t; conflict = conflict; picked = picked; lowest = lowest_is t.n t.m conflict.divisor; small = lowest_sized t.n t.m (picked_sized side s z t picked) }

exists : (side : Side) (s : SensedQuestion) (t : Instant) → ShownTime side s (time_of t) → ConflictExists side s
exists side s t h = (h.instant, h.conflict)

one_right : (s : SensedQuestion) (m : Option Instant) → RightSide Lower s m → RightOneSided s (one_sided_verdict m)
one_right s None h = h
one_right s (Some t) h = h

two_right : (s : SensedQuestion) (m n : Option Instant) → RightSide Lower s m → RightSide Upper s n → RightTwoSided s (two_sided_verdict m n)
two_right s None None h k = (h, k)
two_right s None (Some u) h k = (h, exists Upper s u k)
two_right s (Some t) None h k = (exists Lower s t h, k)
two_right s (Some t) (Some u) h k = (h, k)

-- ---- the theorems
module _ (x : Encounter) (y : Settings) (z : Question) (accepted : refusal x y z ≡ Ok tt) where
  -- an accepted question is judged
  pub judged : answer x y z ≡ Ok (verdict z (sensed_question x y z))
  unfolding answer
  judged = ap (λ (c : Result ⊤ Refusal). checked_answer c (verdict z (sensed_question x y z))) accepted

  pub one_sided_lem : two_sided z ≡ false → RightOneSided (sensed_question x y z) (verdict z (sensed_question x y z))
  unfolding verdict
  one_sided_lem e =
      let s = sensed_question x y z in
      subst (λ (b : Bool). RightOneSided s (cond b (two_sided_verdict (time_shown Lower s) (time_shown Upper s)) (one_sided_verdict (time_shown Lower s)))) (sym e)
      (one_right s (time_shown Lower s) (right_side Lower s (accepted_sizes x y z accepted)))

  pub two_sided_lem : two_sided z ≡ true → RightTwoSided (sensed_question x y z) (verdict z (sensed_question x y z))
  unfolding verdict
  two_sided_lem e =
      let s = sensed_question x y z in
      let sizes = accepted_sizes x y z accepted in
      subst (λ (b : Bool). RightTwoSided s (cond b (two_sided_verdict (time_shown Lower s) (time_shown Upper s)) (one_sided_verdict (time_shown Lower s)))) (sym e)
      (two_right s (time_shown Lower s) (time_shown Upper s) (right_side Lower s sizes) (right_side Upper s (sizes, accepted_upper_sizes x y z accepted e)))

  -- "conflict" exactly if a rational conflict time exists; two-sided, on each side
  one_iff : (v : Verdict) → RightOneSided (sensed_question x y z) v → SaysConflict v ↔ ConflictExists Lower (sensed_question x y z)
  one_iff (Clear ClearSides.Lower) h = (λ c. absurd c, λ c. h c)
  one_iff (Clear ClearSides.Upper) h = absurd h
  one_iff (Clear ClearSides.Both) h = absurd h
  one_iff (Conflict t) h = (λ _. (h.instant, h.conflict), λ _. tt)
  one_iff (Conflicts t u) h = absurd h

  two_iff : (v : Verdict) → RightTwoSided (sensed_question x y z) v → SaysConflict v ↔ (ConflictExists Lower (sensed_question x y z) × ConflictExists Upper (sensed_question x y z))
  two_iff (Clear ClearSides.Lower) h = (λ c. absurd c, λ c. h.0 c.0)
  two_iff (Clear ClearSides.Upper) h = (λ c. absurd c, λ c. h.1 c.1)
  two_iff (Clear ClearSides.Both) h = (λ c. absurd c, λ c. h.0 c.0)
  two_iff (Conflict t) h = absurd h
  two_iff (Conflicts t u) h = (λ _. ((h.0.instant, h.0.conflict), (h.1.instant, h.1.conflict)), λ _. tt)

  pub one_sided_exactly : two_sided z ≡ false → SaysConflict (verdict z (sensed_question x y z)) ↔ ConflictExists Lower (sensed_question x y z)
  one_sided_exactly e = one_iff (verdict z (sensed_question x y z)) (one_sided_lem e)

  pub two_sided_exactly : two_sided z ≡ true → SaysConflict (verdict z (sensed_question x y z)) ↔ (ConflictExists Lower (sensed_question x y z) × ConflictExists Upper (sensed_question x y z))
  two_sided_exactly e = two_iff (verdict z (sensed_question x y z)) (two_sided_lem e)

-- ---- demand 3 of the entry's result: whatever has the record of the answer is a right answer
pub demand_3 : (x : Encounter) (y : Settings) (z : Question) → refusal x y z ≡ Ok tt → (r : Result Verdict Refusal) → answer_record r ≡ answer_record (answer x y z) → RightAnswer z (sensed_question x y z) r
demand_3 x y z accepted r e = subst (RightAnswer z (sensed_question x y z)) (sym (record_determines r (answer x y z) e ∙ judged x y z accepted)) (go (two_sided z) refl)
  where
    go : (b : Bool) → two_sided z ≡ b → RightVerdict b (sensed_question x y z) (verdict z (sensed_question x y z))
    go false h = one_sided_lem x y z accepted h
    go true h = two_sided_lem x y z accepted h

-- The demands of an answer to plain numbers, from the judge's theorems: demand 3 with its conflict times spelled out, demand 2 for one-sided questions, the band for
-- two-sided ones. Assumes nothing.
use Rattle.std.specs.Prelude.{None, Ok, Option, Result, Some, ⊤}
use mathlib.Core.Path.{◌≡◌, refl, sym, ap, subst}
use mathlib.Core.Bool.{Bool, true, false}
use mathlib.Core.Logic.Iff
use mathlib.Core.Logic.{◌↔◌}
use Prim.Native.Nat.{ℕ}
use Rattle.instant.specs.declared.Time.{Time}
use Rattle.path.specs.declared.SensedQuestion.{SensedQuestion}
use Rattle.path.specs.declared.Side.{Side}
use Rattle.path.specs.declared.Side.TheVariants.{Lower, Upper}
use Rattle.path.specs.Window.{InTime}
use Rattle.path.specs.Conflict as conflict
use Rattle.question.specs.declared.Encounter.{Encounter}
use Rattle.question.specs.declared.Settings.{Settings}
use Rattle.question.specs.declared.Question.{Question}
use Rattle.question.specs.Refusals.{two_sided, refusal}
use Rattle.sensed.specs.Sensed.{sensed_question}
use Rattle.verdict.specs.declared.ClearSides.{ClearSides}
use Rattle.verdict.specs.declared.Verdict.{Verdict}
use Rattle.verdict.specs.declared.Verdict.TheVariants.{Clear, Conflict, Conflicts}
use Rattle.verdict.specs.Verdicts.{verdict}
use Rattle.judge.specs.Answers.{checked_answer, answer}
use Rattle.judge.specs.Demand3 as judge
use Rattle.judge.proofs.Demand3.{judged, demand_3, one_sided_exactly, two_sided_exactly}
use Rattle.judge.proofs.WithoutDelay.{answer_without_delay}
use Rattle.region.proofs.VerdictRegion.{clear_is_delayed_region, clear_is_immediate_region}
use Rattle.band.proofs.AcceptedBand.{clear_outside_band}
use Rattle.demands.specs.Demand2.{Demand2}
use Rattle.demands.specs.Demand3.{WithinLimit, NotStrictlyBeyond, ConflictAt, SomeConflict, ConflictOnEachSide, SaysConflict, Shown, Said}
use Rattle.demands.specs.PlainAnswer.{JudgedAs, RightlyAnswered}
use Rattle.question.specs.declared.refusal.Refusal.{Refusal}

-- ---- conflict times spelled out
pub limited : (l : Option ℕ) (n m : ℕ) → InTime l n m ↔ WithinLimit l n m
limited None n m = (λ h. h, λ h. h)
limited (Some limit) n m = (λ h. h, λ h. h)

vertical : (side : Side) (s : SensedQuestion) (n m : ℕ) → conflict.NotBeyond side s n m ↔ NotStrictlyBeyond side s n m
vertical Lower s n m = (λ h. h, λ h. h)
vertical Upper s n m = (λ h. h, λ h. h)

module _ (side : Side) (s : SensedQuestion) where
  pub spelled : (n m : ℕ) → conflict.ConflictTime side s (record { n = n; m = m }) → ConflictAt side s n m
  spelled n m h = record {
    rational = h.divisor;
    near = h.conflict.window.near;
    limited = (limited s.limit n m).0 h.conflict.window.intime;
    vertical = (vertical side s n m).0 h.conflict.vertical;
  }

  pub unspelled : (n m : ℕ) → ConflictAt side s n m → conflict.ConflictTime side s (record { n = n; m = m })
  unspelled n m h = record {
    divisor = h.rational;
    conflict = record {
      window = record { near = h.near; intime = (limited s.limit n m).1 h.limited };
      vertical = (vertical side s n m).1 h.vertical;
    };
  }

  some : conflict.ConflictExists side s → SomeConflict side s
  some h = (h.0.n, h.0.m, spelled h.0.n h.0.m h.1)

  exists : SomeConflict side s → conflict.ConflictExists side s
  exists h = (record { n = h.0; m = h.1 }, unspelled h.0 h.1 h.2)

  shown : (t : Time) → judge.ShownTime side s t → Shown side s t
  shown t h = record { n = h.instant.n; m = h.instant.m; conflict = spelled h.instant.n h.instant.m h.conflict; picked = h.picked; lowest = h.lowest; small = h.small }

-- ---- demand 3 of a right verdict
module _ (s : SensedQuestion) where
  said : (two : Bool) (v : Verdict) → judge.RightVerdict two s v → Said two s v
  said false (Clear ClearSides.Lower) h = λ c. h (exists Lower s c)
  said false (Clear ClearSides.Upper) h = h
  said false (Clear ClearSides.Both) h = h
  said false (Conflict t) h = shown Lower s t h
  said false (Conflicts t u) h = h
  said true (Clear ClearSides.Lower) h = (λ c. h.0 (exists Lower s c), some Upper s h.1)
  said true (Clear ClearSides.Upper) h = (some Lower s h.0, λ c. h.1 (exists Upper s c))
  said true (Clear ClearSides.Both) h = (λ c. h.0 (exists Lower s c), λ c. h.1 (exists Upper s c))
  said true (Conflict t) h = h
  said true (Conflicts t u) h = (shown Lower s t h.0, shown Upper s u h.1)

says : (v : Verdict) → SaysConflict v ↔ judge.SaysConflict v
says (Clear sides) = (λ h. h, λ h. h)
says (Conflict t) = (λ h. h, λ h. h)
says (Conflicts t u) = (λ h. h, λ h. h)

module _ (x : Encounter) (y : Settings) (z : Question) (accepted : refusal x y z ≡ Ok tt) where
  exactly : (two : Bool) → two_sided z ≡ two → SaysConflict (verdict z (sensed_question x y z)) ↔ ConflictOnEachSide two (sensed_question x y z)
  exactly false e =
      let s = sensed_question x y z in
      Iff.trans (says (verdict z s)) (Iff.trans (one_sided_exactly x y z accepted e) (some Lower s, exists Lower s))
  exactly true e =
      let s = sensed_question x y z in
      Iff.trans (says (verdict z s))
      (Iff.trans (two_sided_exactly x y z accepted e) (λ h. (some Lower s h.0, some Upper s h.1), λ h. (exists Lower s h.0, exists Upper s h.1)))

  right : judge.RightVerdict (two_sided z) (sensed_question x y z) (verdict z (sensed_question x y z))
  right = subst (judge.RightAnswer z (sensed_question x y z)) (judged x y z accepted) (demand_3 x y z accepted (answer x y z) refl)

  pub judged_as : JudgedAs x y z (answer x y z)
  judged_as =
      let s = sensed_question x y z in
      (verdict z s, judged x y z accepted, record { exactly = exactly (two_sided z) refl; said = said s (two_sided z) (verdict z s) right })

  region : two_sided z ≡ false → Demand2 x y z (answer x y z)
  region one = record {
    figure_5 = λ no-limit. (clear_is_delayed_region x y z accepted one no-limit).by_result (answer x y z) refl;
    figure_3 = λ no-limit at_once. (clear_is_immediate_region x y z accepted one no-limit at_once).by_result (answer x y z) refl;
  }

-- ---- the answer of the definitions
pub answer_right : (x : Encounter) (y : Settings) (z : Question) → RightlyAnswered x y z (answer x y z)
unfolding answer
answer_right x y z = record {
  refused = λ why e. ap (λ (k : Result ⊤ Refusal). checked_answer k (verdict z (sensed_question x y z))) e;
  judged = judged_as x y z;
  one_sided_lem = region x y z;
  two_sided_lem = clear_outside_band x y z;
  without_delay = answer_without_delay x y z;
}

pub rightly : (x : Encounter) (y : Settings) (z : Question) (r : Result Verdict Refusal) → r ≡ answer x y z → RightlyAnswered x y z r
rightly x y z r e = subst (RightlyAnswered x y z) (sym e) (answer_right x y z)

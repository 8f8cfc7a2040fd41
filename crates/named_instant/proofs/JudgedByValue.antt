-- What holds at an instant is what holds at its value: an instant in reach is a rational time, and its lowest terms are the same time. Assumes nothing.
use Rattle.std.specs.Prelude.{None, Ok, Result, Some, ⊤}
use Rattle.std.specs.Bool.{then_some}
use mathlib.Core.Path.{◌≡◌, refl, sym, ap, ◌∙◌}
use mathlib.Core.Bool.{Bool, true, false, cond}
use Prim.Native.Nat.{ℕ, zero, suc, ◌<◌}
use native.Mathlib.Omega.{arith}
use Rattle.integers.proofs.Laws.{same_test}
use Rattle.instant.specs.declared.Instant.{Instant}
use Rattle.instant.specs.Order.{◌≈◌}
use Rattle.instant.proofs.LowestTerms.{lowest_is, lowest_divisor_pos}
use Rattle.path.specs.declared.SensedQuestion.{SensedQuestion}
use Rattle.path.specs.declared.Side.{Side}
use Rattle.path.specs.declared.Side.TheVariants.{Lower, Upper}
use Rattle.path.specs.inner.Tests.{in_window, in_conflict}
use Rattle.path.proofs.Decisions.{window_decided, conflict_decided}
use Rattle.question.specs.declared.Encounter.{Encounter}
use Rattle.question.specs.declared.Settings.{Settings}
use Rattle.question.specs.declared.Question.{Question}
use Rattle.question.specs.declared.refusal.Refusal.{Refusal}
use Rattle.question.specs.Refusals.{refusal, two_sided}
use Rattle.sensed.specs.Sensed.{sensed_question}
use Rattle.named_instant.specs.declared.Standing.{Standing}
use Rattle.named_instant.specs.declared.InstantAnswer.TheVariants.{Judged, OutOfReach}
use Rattle.named_instant.specs.Reach.{value, in_reach}
use Rattle.named_instant.specs.InstantAnswers.{standing, reached_answer, checked_instant, instant_answer}
use Rattle.named_instant.proofs.SameValue.{same_window, same_conflict}

-- ---- of two fractions of one value
module _ (s : SensedQuestion) (t u : Instant) (pt : 0 < t.m) (pu : 0 < u.m) (e : t ≈ u) where
  turned : u ≈ t
  turned = sym e

  window_test : in_window s t.n t.m ≡ in_window s u.n u.m
  window_test = same_test (in_window s t.n t.m) (in_window s u.n u.m)
      (λ h. (window_decided s u.n u.m).1 (same_window s t u pt e ((window_decided s t.n t.m).0 h)))
      (λ h. (window_decided s t.n t.m).1 (same_window s u t pu turned ((window_decided s u.n u.m).0 h)))

  conflict_test : (side : Side) → in_conflict side s t.n t.m ≡ in_conflict side s u.n u.m
  conflict_test side = same_test (in_conflict side s t.n t.m) (in_conflict side s u.n u.m)
      (λ h. (conflict_decided s u.n u.m side).1 (same_conflict s t u pt e side ((conflict_decided s t.n t.m side).0 h)))
      (λ h. (conflict_decided s t.n t.m side).1 (same_conflict s u t pu turned side ((conflict_decided s u.n u.m side).0 h)))

  pub same_standing : (z : Question) → standing z s t ≡ standing z s u
  unfolding standing
  same_standing z = λ i. record {
    in_window = window_test i;
    lower = conflict_test Lower i;
    upper = cond (two_sided z) (Some (conflict_test Upper i)) None;
  }

-- ---- an instant and its value
pub reached_divisor : (t : Instant) → in_reach (value t) ≡ true → 0 < t.m
reached_divisor t h = go t.n t.m h
  where
    go : (n m : ℕ) → in_reach (value (record { n = n; m = m })) ≡ true → 0 < m
    go n zero h = absurd (cc)
    go n (suc m) h = omega arith

pub value_is : (t : Instant) → 0 < t.m → value t ≈ t
value_is t p = (lowest_is t.n t.m p).value

pub judged_by_value : (z : Question) (s : SensedQuestion) (t : Instant) → in_reach (value t) ≡ true → standing z s (value t) ≡ standing z s t
judged_by_value z s t h =
    let p = reached_divisor t h in
    same_standing s (value t) t (lowest_divisor_pos t.n t.m p) p (value_is t p) z

-- ---- the entry's answer at an accepted question
module _ (x : Encounter) (y : Settings) (z : Question) (t : Instant) (accepted : refusal x y z ≡ Ok tt) where
  pub answered : instant_answer x y z t ≡ Ok (reached_answer (in_reach (value t)) (standing z (sensed_question x y z) t))
  unfolding instant_answer
  answered = ap (λ (c : Result ⊤ Refusal). checked_instant c (reached_answer (in_reach (value t)) (standing z (sensed_question x y z) t))) accepted

  -- where the instant in lowest terms, if it is in reach, is v
  pub answered_in_reach : (v : Instant) → then_some (in_reach (value t)) (value t) ≡ Some v → instant_answer x y z t ≡ Ok (Judged (standing z (sensed_question x y z) v))
  answered_in_reach v e = go (in_reach (value t)) refl
    where
      s : SensedQuestion
      s = sensed_question x y z

      go : (b : Bool) → in_reach (value t) ≡ b → instant_answer x y z t ≡ Ok (Judged (standing z s v))
      go true h =
          let same : value t ≡ v = cc in
          answered
          ∙ ap (λ (b : Bool). Ok (reached_answer b (standing z s t))) h
          ∙ ap (λ (f : Standing). Ok (Judged f)) (sym (judged_by_value z s t h) ∙ ap (λ (u : Instant). standing z s u) same)
      go false h = absurd cc

  pub answered_out_of_reach : then_some (in_reach (value t)) (value t) ≡ None → instant_answer x y z t ≡ Ok OutOfReach
  answered_out_of_reach e = go (in_reach (value t)) refl
    where
      go : (b : Bool) → in_reach (value t) ≡ b → instant_answer x y z t ≡ Ok OutOfReach
      go true h = absurd cc
      go false h = answered ∙ ap (λ (b : Bool). Ok (reached_answer b (standing z (sensed_question x y z) t))) h

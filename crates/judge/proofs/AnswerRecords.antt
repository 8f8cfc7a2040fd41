-- Document 01's number and values determine the answer: two answers with the same record are the same.
use Rattle.std.specs.Prelude.{Err, Ok, Result}
use mathlib.Core.Path.{◌≡◌, refl, ap, ap₂, ◌∙◌}
use mathlib.Core.List.{List, [], ◌∷◌}
use Prim.Native.Nat.{ℕ, zero, suc}
use native.Mathlib.Omega.{arith}
use Rattle.instant.specs.declared.Time.{Time}
use Rattle.verdict.specs.declared.ClearSides.{ClearSides}
use Rattle.verdict.specs.declared.Verdict.TheVariants.{Clear, Conflict, Conflicts}
use Rattle.question.proofs.RefusalNumbers.{number_determines}
use Rattle.judge.specs.Answers.{AnswerRecord, sides_number, answer_record}
use Rattle.question.specs.declared.refusal.Refusal.{Refusal}
use Rattle.verdict.specs.declared.Verdict.{Verdict}

-- a record's value at a place
abbrev nth : ℕ → List ℕ → ℕ
nth i [] = 0
nth zero (x ∷ l) = x
nth (suc i) (x ∷ l) = nth i l

values : (i : ℕ) {a b : AnswerRecord} → a ≡ b → nth i a.values ≡ nth i b.values
values i e = ap (λ (r : AnswerRecord). nth i r.values) e

same_sides : (a b : ClearSides) → sides_number a ≡ sides_number b → a ≡ b
same_sides ClearSides.Lower ClearSides.Lower e = refl
same_sides ClearSides.Lower ClearSides.Upper e = absurd (omega arith)
same_sides ClearSides.Lower ClearSides.Both e = absurd (omega arith)
same_sides ClearSides.Upper ClearSides.Lower e = absurd (omega arith)
same_sides ClearSides.Upper ClearSides.Upper e = refl
same_sides ClearSides.Upper ClearSides.Both e = absurd (omega arith)
same_sides ClearSides.Both ClearSides.Lower e = absurd (omega arith)
same_sides ClearSides.Both ClearSides.Upper e = absurd (omega arith)
same_sides ClearSides.Both ClearSides.Both e = refl

abbrev time : ℕ → ℕ → ℕ → Time
time s r d = record { seconds = s; remainder = r; divisor = d }

same_time : (t u : Time) → t.seconds ≡ u.seconds → t.remainder ≡ u.remainder → t.divisor ≡ u.divisor → t ≡ u
same_time t u e f g = ap (λ (s : ℕ). time s t.remainder t.divisor) e ∙ ap₂ (time u.seconds) f g

-- two kinds that differ
differ : {X : Type 0} {a b : AnswerRecord} → a ≡ b → ¬ (a.kind ≡ b.kind) → X
differ e h = absurd (h (ap (λ (r : AnswerRecord). r.kind) e))

pub record_determines : (a b : Result Verdict Refusal) → answer_record a ≡ answer_record b → a ≡ b
record_determines (Ok (Clear s)) (Ok (Clear t)) e = ap (λ (x : ClearSides). Ok (Clear x)) (same_sides s t (values 0 e))
record_determines (Ok (Clear s)) (Ok (Conflict t)) e = differ e (λ h. omega arith)
record_determines (Ok (Clear s)) (Ok (Conflicts t u)) e = differ e (λ h. omega arith)
record_determines (Ok (Clear s)) (Err n) e = differ e (λ h. omega arith)
record_determines (Ok (Conflict t)) (Ok (Clear s)) e = differ e (λ h. omega arith)
record_determines (Ok (Conflict t)) (Ok (Conflict u)) e = ap (λ (x : Time). Ok (Conflict x)) (same_time t u (values 0 e) (values 1 e) (values 2 e))
record_determines (Ok (Conflict t)) (Ok (Conflicts u v)) e = differ e (λ h. omega arith)
record_determines (Ok (Conflict t)) (Err n) e = differ e (λ h. omega arith)
record_determines (Ok (Conflicts t u)) (Ok (Clear s)) e = differ e (λ h. omega arith)
record_determines (Ok (Conflicts t u)) (Ok (Conflict v)) e = differ e (λ h. omega arith)
record_determines (Ok (Conflicts t u)) (Ok (Conflicts v w)) e =
    let x = same_time t v (values 0 e) (values 1 e) (values 2 e) in
    let y = same_time u w (values 3 e) (values 4 e) (values 5 e) in
    cc
record_determines (Ok (Conflicts t u)) (Err n) e = differ e (λ h. omega arith)
record_determines (Err n) (Ok (Clear s)) e = differ e (λ h. omega arith)
record_determines (Err n) (Ok (Conflict t)) e = differ e (λ h. omega arith)
record_determines (Err n) (Ok (Conflicts t u)) e = differ e (λ h. omega arith)
record_determines (Err r) (Err s) e = ap Err (number_determines r s (values 0 e))

-- M1 to M15 are accepted and answered as the table has it, each by one test computed over the table; that each answer is right is demand 3. Assumes nothing.
use Rattle.std.specs.Prelude.{Err, Ok, Result, ⊤}
use mathlib.Core.Path.{◌≡◌, refl}
use mathlib.Core.List.{List, [], ◌∷◌, map}
use mathlib.Core.Logic.{⊎_elim}
use Prim.Native.Nat.{ℕ}
use native.Mathlib.Omega.{arith}
use Rattle.advisory.specs.Catalogue.{article_entries, not_judged, catalogue_of}
use Rattle.advisory.specs.ReactionTable.{reaction_table}
use Rattle.advisory.specs.Advised.{advised_of}
use Rattle.path.specs.Instants.{Among}
use Rattle.question.specs.declared.Encounter.{Encounter}
use Rattle.question.specs.Refusals.{refusal}
use Rattle.question.specs.StartingSettings.{starting_settings}
use Rattle.coded.specs.Coded.{coded_question}
use Rattle.judge.specs.Answers.{answer, answer_record}
use Rattle.judge.specs.Examples.{Example, examples}
use Rattle.judge.proofs.ExampleAnswers.{answer_to, answered}
use Rattle.judge.proofs.ExamplesHold.{examples_hold}
use Rattle.judge.specs.Marked.{Proved}
use Rattle.judge.proofs.Demand3.{demand_3}
use Rattle.question.specs.declared.refusal.Refusal.{Refusal}
use Rattle.question.specs.declared.Question.{Question}

-- two maps that agree on a list agree at each of its members
at_each : {A : Type 0} (f g : Example → A) (l : List Example) → map f l ≡ map g l → (m : Example) → Among m l → f m ≡ g m
at_each f g [] e m h = absurd h
at_each f g (x ∷ l) e m h = ⊎_elim (λ p. cc) (λ h. at_each f g l (tail e) m h) h
  where
    tail : map f (x ∷ l) ≡ map g (x ∷ l) → map f l ≡ map g l
    tail e = cc

-- the check of what is asked
abbrev checked : Encounter → Result Question Refusal → Result ⊤ Refusal
checked x (Ok z) = refusal x starting_settings z
checked x (Err n) = Err n

examples_accepted : map (λ (m : Example). checked m.encounter m.question) examples ≡ map (λ (m : Example). (Ok tt)) examples
unfolding examples refusal coded_question advised_of catalogue_of article_entries not_judged reaction_table
examples_accepted = refl

proved : (m : Example) (q : Result Question Refusal) → m.question ≡ q → checked m.encounter q ≡ Ok tt → answer_record (answer_to m.encounter starting_settings q) ≡ m.answer → Proved m
proved m (Ok z) asked accepted answered = record { question = z; asked = asked; accepted = accepted; answered = answered; right = demand_3 m.encounter starting_settings z accepted (answer m.encounter starting_settings z) refl }
proved m (Err n) asked accepted answered = absurd (let z : ◌≡◌ {A = ℕ} 0 1 = cc in omega arith)

pub all_proved : (m : Example) → Among m examples → Proved m
all_proved m h =
    proved m m.question refl
    (at_each (λ (m : Example). checked m.encounter m.question) (λ (m : Example). (Ok tt)) examples examples_accepted m h)
    (at_each answered (λ (m : Example). m.answer) examples examples_hold m h)

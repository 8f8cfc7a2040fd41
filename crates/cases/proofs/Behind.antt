-- What is written of a file behind its name is what is written of it with its name.
use Rattle.std.proofs.Common.{◌≡◌, ℕ, List, [], ◌++◌, Option, Some, None, Result, OnOk, inr, rules, ap, subst, ◌∙◌}
use mathlib.Core.List.{append_assoc}
use Rattle.std.specs.Io.KnownBytes.{Appends}
use Rattle.std.proofs.lemmas.Option.{IfSome_then}
use Rattle.std.proofs.lemmas.Result.{on_ok_weaker}
use Rattle.cases.specs.Reports.{report_text, unread_text, WritesReport, WritesArgument}

appended_behind : (old named new : Option (List ℕ)) (name text : List ℕ) → Appends old named name → Appends named new text → Appends old new (name ++ text)
appended_behind None named new name text first then = search rules
appended_behind (Some xs) None new name text first then = elim first [ ]
appended_behind (Some xs) (Some ys) None name text first then = elim then [ ]
appended_behind (Some xs) (Some ys) (Some zs) name text first then = then ∙ ap (λ bytes. bytes ++ text) first ∙ append_assoc xs name text

text_behind : (name line report : List ℕ) → name ++ report_text [] line report ≡ report_text name line report
text_behind name line report = search (rules, append_assoc)

pub reported_behind : {T : Type 0} (output : T → Option (List ℕ)) (Reports : List ℕ → T → Type 0) (old named new : Option (List ℕ)) (name file : List ℕ) →
    Appends old named name → WritesReport output Reports named [] file new → WritesReport output Reports old name file new
reported_behind output Reports old named new name file first wrote =
    (wrote.0, wrote.1, IfSome_then (output wrote.0) wrote.2 (λ text then. subst (Appends old new) (text_behind name _ text) (appended_behind old named new name _ first then)))

-- For the search of `report_argument`.
pub unread_behind : {T E : Type 0} (output : T → Option (List ℕ)) (Reports : List ℕ → T → Type 0) (result : Result (Unit {0}) E) (old named new : Option (List ℕ)) (name : List ℕ) →
    Appends old named name → OnOk result (Appends named new (unread_text [])) → OnOk result ((argument : List ℕ) × WritesArgument output Reports old argument new)
unread_behind output Reports result old named new name first unread = on_ok_weaker result (λ wrote. (name, inr (appended_behind old named new name _ first wrote))) unread

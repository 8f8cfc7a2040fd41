-- What was read of the input is written for, and that is enough.
use Rattle.std.proofs.Common.{◌≡◌, ℕ, List, length, take, ap, ◌∙◌, Option, Some, None, IfSome, subst}
use Rattle.std.proofs.lemmas.List.{length-replicate}
use Rattle.program.specs.Output.{read_room, program_output, area_with}
use Rattle.program.proofs.ReadEnough.{reads_enough}
use Rattle.program.proofs.answer_read.Goals as goal

same : (n : ℕ) (area read : List ℕ) (room : ℕ) (input : Option (List ℕ)) → room ≡ read_room → IfSome input (λ xs. read ≡ take room xs)
    → (n ≡ length (program_output read)) × (area ≡ area_with (program_output read)) → IfSome input (λ sheet. (n ≡ length (program_output sheet)) × (area ≡ area_with (program_output sheet)))
same n area read room None l e o = tt
same n area read room (Some xs) l e o =
    subst (λ output. (n ≡ length output) × (area ≡ area_with output)) (ap program_output (e ∙ ap (λ k. take k xs) l) ∙ reads_enough xs) o

pub returns : goal.returns
returns g c = same _ _ _ _ _ (ap length c.read_room-room.ensures ∙ length-replicate {A = ℕ} read_room 0) c.in_ok-sheet.ensures.bytes c.program_output.ensures

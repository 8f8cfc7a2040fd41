-- What is written is the output for what was read, and that is the output for the whole input.
use Rattle.std.proofs.Common.{◌≡◌, ℕ, List, length, take, arith, ap, ◌∙◌, subst, Option, Some, None, IfSome, Result, Ok, Err, OnOk, take_all}
use Rattle.std.proofs.lemmas.List.{length-replicate}
use lib.Seq.{take-append-le}
use Rattle.std.specs.Io.KnownBytes.{Appends}
use Rattle.program.specs.Output.{read_room, program_output, area_with}
use Rattle.program.proofs.ReadEnough.{reads_enough}
use Rattle.lifgorund.proofs.answer_input.Goals as goal

-- the bytes of the area that are written
written : (output area : List ℕ) (n : ℕ) → n ≡ length output → area ≡ area_with output → take n area ≡ output
written output area n e f = ap (take n) f ∙ take-append-le n output _ (omega arith) ∙ take_all n output (omega arith)

appended : {T E : Type 0} (result : Result T E) (input before after : Option (List ℕ)) (room : ℕ) (bytes wrote : List ℕ) → room ≡ read_room
    → IfSome input (λ xs. bytes ≡ take room xs) → wrote ≡ program_output bytes → OnOk result (Appends before after wrote)
    → OnOk result (IfSome input (λ sheet. Appends before after (program_output sheet)))
appended (Err _) input before after room bytes wrote l e o w = tt
appended (Ok _) None before after room bytes wrote l e o w = tt
appended (Ok _) (Some xs) before after room bytes wrote l e o w =
    subst (Appends before after) (o ∙ ap program_output (e ∙ ap (λ n. take n xs) l) ∙ reads_enough xs) w

pub returns : goal.returns
returns g c =
    let output = c.program_output-answer.ensures in
    let room : length c.read_room-room.result ≡ read_room = ap length c.read_room-room.ensures ∙ length-replicate {A = ℕ} read_room 0 in
    let wrote = written _ _ _ output.0 output.1 in
    appended _ _ _ _ _ _ _ room c.in_ok-sheet.ensures.bytes (search (arith, wrote)) c.write_all.ensures.bytes

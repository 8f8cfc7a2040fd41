-- What whoever sends the sheet can cause: refusals 10, 11 and 12.
use Rattle.std.specs.Prelude.{cond, List, [], ◌∷◌, ℕ, zero, suc, leb, length, Err, Ok, Result, ⊤, is_some}
use Rattle.record.specs.Kinds.{kind_of, body_after}
use Rattle.question.specs.declared.refusal.Refusal.{Refusal}

-- "11 unknown kind; 12 a body cut short; the earlier in the sheet is reported": the first fault of the bytes that follow, where so many bytes of a body are
-- still to come
unfoldable pub fault_after : ℕ → List ℕ → Result ⊤ Refusal
fault_after zero [] = Ok tt
fault_after (suc left) [] = Err Refusal.RecordCutShort
fault_after (suc left) (byte ∷ rest) = fault_after left rest
fault_after zero (kind ∷ rest) = cond (is_some (kind_of kind)) (fault_after (body_after (kind_of kind)) rest) (Err Refusal.KindUnknown)

-- "10 longer than 8,192 bytes", tested first
abbrev pub longest_sheet : ℕ
longest_sheet = 8192

abbrev pub sheet_check : List ℕ → Result ⊤ Refusal
sheet_check sheet = cond (leb (length sheet) longest_sheet) (fault_after 0 sheet) (Err Refusal.SheetTooLong)

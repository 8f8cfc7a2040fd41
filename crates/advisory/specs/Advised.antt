-- Catalogue and reaction table together: what a code advises.
use Rattle.std.specs.Prelude.{ℕ, Option, Some, None, Result, Ok, Err}
use Rattle.advisory.specs.Catalogue.{catalogue_of}
use Rattle.advisory.specs.ReactionTable.{reaction_table, row_of}
use Rattle.advisory.specs.declared.Advice.{Advice}
use Rattle.advisory.specs.declared.Reaction.{Reaction}
use Rattle.advisory.specs.declared.Instruction.{Instruction}
use Rattle.advisory.specs.declared.CodeError.{CodeError}

-- "The catalogue gives the sense and target of each code; the reaction table holds one row per code: strength and delay."
abbrev pub instruction : Advice → Reaction → Instruction
instruction advice row =
    record { sense = advice.sense; target = advice.target; strength = row.strength; delay = row.delay }

-- A code is judged where both tables have it. The second line is never met: each listed code has its row.
abbrev pub together : Result Advice CodeError → Option Reaction → Result Instruction CodeError
together (Ok advice) (Some row) = Ok (instruction advice row)
together (Ok advice) None = Err CodeError.Unknown
together (Err why) reacted = Err why

-- What a code advises.
unfoldable pub advised_of : ℕ → Result Instruction CodeError
advised_of code = together (catalogue_of code) (row_of reaction_table code)

-- The instruction of a judged code.
abbrev pub instruction_in : Result Instruction CodeError → Option Instruction
instruction_in (Ok i) = Some i
instruction_in (Err why) = None

-- Definitions that only inner contracts use; an instructor need not read them.
-- What is known of a line on its way to an output.
use Rattle.std.specs.Prelude.{ℕ, List, take, Option}
use Rattle.std.specs.Io.KnownBytes.{append_known}
use Rattle.cases.specs.declared.line.output.LineOutput.{LineOutput}

-- what the output holds, and then what was gathered
abbrev pub known : {O : Type 0} → (O → Option (List ℕ)) → LineOutput O → Option (List ℕ)
known contents l = append_known (contents l.output.now) (take l.line.length l.line.room)

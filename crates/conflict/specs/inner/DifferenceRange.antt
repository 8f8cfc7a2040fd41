-- Definitions that only inner contracts use; an instructor need not read them.
-- The numbers whose difference `positive_difference` takes, as document 02 asks for it: "any two numbers from −200,000 to 200,000".
use Rattle.std.specs.Prelude.{ℕ}

abbrev pub max_operand : ℕ
max_operand = 200000

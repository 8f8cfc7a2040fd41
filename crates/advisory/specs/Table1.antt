-- Table 1 of the article: the advisories and their modelling variables.
use Rattle.std.specs.Prelude.{option_map, slice_get, None, Option, ◌≡◌, List, [], ◌∷◌, ℕ, zero, suc, ◌/◌, Err}
use Prim.Native.String.{String}
use Rattle.advisory.specs.Catalogue.{up, level, down, catalogue_of}
use Rattle.advisory.specs.ReactionTable.{reaction_table, rows_with}
use Rattle.advisory.specs.Advised.{advised_of}
use Rattle.advisory.specs.declared.Sense.{Sense}
use Rattle.advisory.specs.declared.Sense.TheVariants.{Climb, Descend}
use Rattle.advisory.specs.declared.Target.{Target}
use Rattle.advisory.specs.declared.Target.TheVariants.{Current}
use Rattle.advisory.specs.declared.Instruction.{Instruction}
use Rattle.advisory.specs.declared.CodeError.{CodeError}

-- "The course takes g as 1,932 grains/s²."
abbrev pub g : ℕ
g = 1932

-- A strength as Table 1 prints it, g/4 or g/3.
abbrev pub g_over : ℕ → ℕ
g_over n = g / n

-- A line of Table 1: its name and the columns a_lo, δ (s), w (+1 is a climb, −1 a descent) and v_lo (ft/min).
pub record Advisory : Type 0 where
  pub name : String
  pub strength : ℕ
  pub delay : ℕ
  pub sense : Sense
  pub target : Target

abbrev pub advisory : String → ℕ → ℕ → Sense → Target → Advisory
advisory name strength delay sense target =
    record { name = name; strength = strength; delay = delay; sense = sense; target = target }

-- The sixteen lines that have these columns, in the article's order; the last two lines, COC and MTLO, have none.
unfoldable pub table1 : List Advisory
table1 =
    advisory "DNC2000" (g_over 4) 5 Descend (up 2000)
    ∷ advisory "DND2000" (g_over 4) 5 Climb (down 2000)
    ∷ advisory "DNC1000" (g_over 4) 5 Descend (up 1000)
    ∷ advisory "DND1000" (g_over 4) 5 Climb (down 1000)
    ∷ advisory "DNC500" (g_over 4) 5 Descend (up 500)
    ∷ advisory "DND500" (g_over 4) 5 Climb (down 500)
    ∷ advisory "DNC" (g_over 4) 5 Descend level
    ∷ advisory "DND" (g_over 4) 5 Climb level
    ∷ advisory "MDES" (g_over 4) 5 Descend Current
    ∷ advisory "MCL" (g_over 4) 5 Climb Current
    ∷ advisory "DES1500" (g_over 4) 5 Descend (down 1500)
    ∷ advisory "CL1500" (g_over 4) 5 Climb (up 1500)
    ∷ advisory "SDES1500" (g_over 3) 3 Descend (down 1500)
    ∷ advisory "SCL1500" (g_over 3) 3 Climb (up 1500)
    ∷ advisory "SDES2500" (g_over 3) 3 Descend (down 2500)
    ∷ advisory "SCL2500" (g_over 3) 3 Climb (up 2500)
    ∷ []

-- The advisory of a code: the code is the place in Table 1, counted from 1.
abbrev pub table1_at : ℕ → Option Advisory
table1_at zero = None
table1_at (suc before) = slice_get table1 before

-- The names in order, numbered on from a code.
abbrev pub numbered : ℕ → List Advisory → List (ℕ × String)
numbered code [] = []
numbered code (a ∷ advisories) = (code, a.name) ∷ numbered (suc code) advisories

-- What a line of Table 1 tells the pilot.
abbrev pub printed : Advisory → Instruction
printed a = record { sense = a.sense; target = a.target; strength = a.strength; delay = a.delay }

-- What Table 1 tells the pilot of a code.
abbrev pub printed_at : ℕ → Option Instruction
printed_at code = option_map printed (table1_at code)

-- "Codes 17 (COC) and 18 (MTLO) .. are in neither table": neither sense and target, nor strength and delay, here or in the article.
pub record InNeitherTable (code : ℕ) : Type 0 where
  pub not_listed : catalogue_of code ≡ Err CodeError.NotJudged
  pub no_row : rows_with reaction_table code ≡ 0
  pub not_in_table_1 : table1_at code ≡ None
  pub not_judged_lem : advised_of code ≡ Err CodeError.NotJudged

-- The reaction table of document 01: "the reaction table holds one row per code: strength and delay."
use Rattle.std.specs.Prelude.{slice_get, cond, List, [], ◌∷◌, ℕ, ◌+◌, eqb, None, Option, Some}
use Rattle.advisory.specs.declared.Reaction.{Reaction}

-- A row: code, strength in grains/s² and delay in seconds.
abbrev pub row : ℕ → ℕ → ℕ → Reaction
row code strength delay = record { code = code; strength = strength; delay = delay }

-- "Codes 1 to 10 have 483 and 5 s, 11 and 12 also; 13 to 16 have 644 and 3 s."
unfoldable pub reaction_table : List Reaction
reaction_table =
    row 1 483 5
    ∷ row 2 483 5
    ∷ row 3 483 5
    ∷ row 4 483 5
    ∷ row 5 483 5
    ∷ row 6 483 5
    ∷ row 7 483 5
    ∷ row 8 483 5
    ∷ row 9 483 5
    ∷ row 10 483 5
    ∷ row 11 483 5
    ∷ row 12 483 5
    ∷ row 13 644 3
    ∷ row 14 644 3
    ∷ row 15 644 3
    ∷ row 16 644 3
    ∷ []

-- The row at a place, counted from 0.
abbrev pub row_at : List Reaction → ℕ → Option Reaction
row_at rows place = slice_get rows place

-- The first row with this code.
abbrev pub row_of : List Reaction → ℕ → Option Reaction
row_of [] code = None
row_of (r ∷ rows) code = cond (eqb r.code code) (Some r) (row_of rows code)

-- How many rows have this code.
abbrev pub rows_with : List Reaction → ℕ → ℕ
rows_with [] code = 0
rows_with (r ∷ rows) code = cond (eqb r.code code) 1 0 + rows_with rows code

-- A search by code from the table's end on finds no row. (`reaction_to` needs it no more; docs/PORT.md names it.) Assumes nothing.
use Rattle.std.specs.Prelude.{None}
use mathlib.Core.Path.{◌≡◌, refl}
use mathlib.Core.List.{List, [], ◌∷◌}
use Prim.Native.Nat.{ℕ, zero, suc}
use native.Mathlib.Omega.{arith}
use lib.ListN.{drop}
use Rattle.advisory.specs.ReactionTable.{row_at, row_of}
use Rattle.advisory.specs.declared.Reaction.{Reaction}

pub search_end_lem : (rows : List Reaction) (place code : ℕ) → None ≡ row_at rows place → row_of (drop place rows) code ≡ None
search_end_lem [] zero code e = refl
search_end_lem [] (suc place) code e = refl
search_end_lem (q ∷ rows) zero code e = let z : ◌≡◌ {A = ℕ} 0 1 = cc in absurd (omega arith)
search_end_lem (q ∷ rows) (suc place) code e = search_end_lem rows place code e

-- The calls of a closure at some names in turn, none of which fails.
use Rattle.std.specs.Prelude.{List, ℕ, Result, Ok, ⊤}
use Rattle.std.specs.Fn.{Mut, CalledAt}
use Rattle.std.specs.List.{FoldsTo}
use denote.Ref.{Bor}

abbrev pub CalledInTurn : {F E : Type 0} → Mut F (Bor (List ℕ) × Unit {0}) (Result ⊤ E) → F → List (List ℕ) → F → Type 0
CalledInTurn closure first names last = FoldsTo (λ f name g. CalledAt closure f name (Ok tt) g) first names last

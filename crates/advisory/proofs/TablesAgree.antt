-- Catalogue and reaction table have the same codes, and together they are Table 1: each by one test computed over all codes or all rows.
use Rattle.std.specs.Prelude.{None, Option, Some}
use mathlib.Core.Path.{◌≡◌, refl, subst, subst⁻¹}
use mathlib.Core.Logic.Iff
use mathlib.Core.Logic.{◌↔◌, ⊎_elim}
use mathlib.Core.Bool.{Bool, true}
use mathlib.Core.List.Memᴰ
use mathlib.Core.List.{map, Memᴰ}
use Prim.Native.String.{String}
use Prim.Native.Nat.{ℕ, ◌<◌, ◌*◌}
use native.Mathlib.Decide.{dec_lt}
use native.Mathlib.Omega.{arith}
use lib.Dec.{T, eqb, eqb→eq, eqb_refl}
use Rattle.std.proofs.lemmas.Option.{slice_get_past}
use Rattle.advisory.specs.Catalogue.{Entry, article_entries, Named, not_judged, catalogue_of, Listed}
use Rattle.advisory.specs.ReactionTable.{reaction_table, row_at, rows_with}
use Rattle.advisory.specs.Advised.{advised_of, instruction_in}
use Rattle.advisory.specs.Table1.{g, g_over, table1, numbered, printed_at, InNeitherTable}
use Rattle.advisory.specs.declared.Reaction.{Reaction}
use Rattle.advisory.proofs.EveryBelow.{below, iff_below}
use Rattle.advisory.proofs.CodeRanges.{is_article, article_iff}
use Rattle.advisory.proofs.SameInstruction.{same_optional, same_optional_lem}

-- Sense, target, strength and delay of every code are those that Table 1 prints at its place; where Table 1 has no line, a code has no instruction.
pub advised_is_table_1 : (code : ℕ) → code < 256 → instruction_in (advised_of code) ≡ printed_at code
unfolding advised_of catalogue_of article_entries not_judged reaction_table table1
advised_is_table_1 code h =
    same_optional_lem (instruction_in (advised_of code)) (printed_at code)
    (below (λ (k : ℕ). same_optional (instruction_in (advised_of k)) (printed_at k)) 256 tt code h)

-- The parts g/4 and g/3 are whole.
pub strengths_are_exact : (g_over 4 * 4 ≡ g) × (g_over 3 * 3 ≡ g)
strengths_are_exact = (refl, refl)

abbrev pub code_and_name : Entry → ℕ × String
code_and_name e = (e.code, e.name)

-- The catalogue's names are those of Table 1 in order, with the codes from 1 on.
pub names_are_table_1 : map code_and_name article_entries ≡ numbered 1 table1
unfolding article_entries table1
names_are_table_1 = refl

equal_iff : (m n : ℕ) → T (eqb m n) ↔ (m ≡ n)
equal_iff m n = (eqb→eq m n, λ e. subst (λ (k : ℕ). T (eqb m k)) e (eqb_refl m))

-- The catalogue lists a code if and only if exactly one row of the reaction table has it.
pub listed_has_one_row : (code : ℕ) → code < 256 → Listed code ↔ (rows_with reaction_table code ≡ 1)
unfolding catalogue_of article_entries not_judged reaction_table
listed_has_one_row code h =
    Iff.trans (article_iff (catalogue_of code))
    (Iff.trans (iff_below (λ (k : ℕ). is_article (catalogue_of k)) (λ (k : ℕ). eqb (rows_with reaction_table k) 1) 256 refl code h)
    (equal_iff (rows_with reaction_table code) 1))

abbrev is_listed : Option Reaction → Bool
is_listed (Some r) = is_article (catalogue_of r.code)
is_listed None = true

-- The catalogue lists the code of every row.
pub row_is_listed : (place : ℕ) (r : Reaction) → row_at reaction_table place ≡ Some r → Listed r.code
unfolding catalogue_of article_entries not_judged reaction_table
row_is_listed place r e = go (dec_lt place 16)
  where
    go : Dec (place < 16) → Listed r.code
    go (yes h) =
        (article_iff (catalogue_of r.code)).1
        (subst (λ (x : Option Reaction). T (is_listed x)) e (below (λ (k : ℕ). is_listed (row_at reaction_table k)) 16 tt place h))
    go (no h) =
        let past : row_at reaction_table place ≡ None = slice_get_past reaction_table place (omega arith) in
        let z : ◌≡◌ {A = ℕ} 0 1 = cc in
        absurd (omega arith)

coc : InNeitherTable 17
unfolding advised_of catalogue_of article_entries not_judged reaction_table table1
coc = record { not_listed = refl; no_row = refl; not_in_table_1 = refl; not_judged_lem = refl }

mtlo : InNeitherTable 18
unfolding advised_of catalogue_of article_entries not_judged reaction_table table1
mtlo = record { not_listed = refl; no_row = refl; not_in_table_1 = refl; not_judged_lem = refl }

-- The codes that are only named are in neither table.
pub named_is_in_neither_table : (n : Named) → Memᴰ n not_judged → InNeitherTable n.code
unfolding not_judged
named_is_in_neither_table n member =
    ⊎_elim (λ e. subst⁻¹ (λ (x : Named). InNeitherTable x.code) e coc)
    (λ rest. subst⁻¹ (λ (x : Named). InNeitherTable x.code) (Memᴰ.eq_of_singleton rest) mtlo)
    (Memᴰ.cases_cons member)

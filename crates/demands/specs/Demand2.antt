-- Demand 2: without a limit the one-sided verdict, with or without delay, equals the region formulas of the article's Figures 3 and 5 in whole numbers; the sixteen
-- advisories have Table 1's sense, target, strength and delay; catalogue and reaction table list identical codes.
use Rattle.std.specs.Prelude.{◌≡◌, ◌↔◌, ℕ, ◌*◌, ◌<◌, pos, Result, Some}
use mathlib.Core.List.{map, Memᴰ}
use Rattle.advisory.specs.declared.Instruction.{Instruction}
use Rattle.advisory.specs.declared.Reaction.{Reaction}
use Rattle.advisory.specs.Catalogue.{article_entries, Named, not_judged, Listed, CodeWithin}
use Rattle.advisory.specs.ReactionTable.{reaction_table, row_at, rows_with}
use Rattle.advisory.specs.Advised.{advised_of, instruction_in}
use Rattle.advisory.specs.Table1.{g, g_over, table1, numbered, printed_at, InNeitherTable}
use Rattle.advisory.proofs.CodeRanges as codes
use Rattle.advisory.proofs.TablesAgree as tables
use Rattle.question.specs.declared.Encounter.{Encounter}
use Rattle.question.specs.declared.Settings.{Settings}
use Rattle.question.specs.declared.Question.{Question}
use Rattle.limits.specs.Limits.{no_limit}
use Rattle.sensed.specs.Sensed.{sensed_question}
use Rattle.judge.specs.Answers.{answer_record}
use Rattle.region.specs.Formula.{Formula, Says}
use Rattle.region.specs.Regions.{L_expl, D_expl}
use Rattle.region.specs.JudgedRegion.{clear_record, advisory_region}
use Rattle.question.specs.declared.refusal.Refusal.{Refusal}
use Rattle.verdict.specs.declared.Verdict.{Verdict}

-- the answer is "clear" exactly in a region
abbrev pub ClearIn : Result Verdict Refusal → Formula → Type 0
ClearIn answer region = (answer_record answer ≡ clear_record) ↔ Says region

-- a one-sided question without a limit: Figure 5 with any delay, Figure 3 without one
pub record Demand2 (x : Encounter) (y : Settings) (z : Question) (answer : Result Verdict Refusal) : Type 0 where
  pub figure_5 : z.limit ≡ no_limit → ClearIn answer (D_expl (sensed_question x y z))
  pub figure_3 : z.limit ≡ no_limit → z.delay ≡ pos 0 → ClearIn answer (L_expl (sensed_question x y z))

-- a question by one of the sixteen codes without a limit: Figure 5 with the columns of the code's line in Table 1
pub record CodeDemand2 (x : Encounter) (y : Settings) (code : ℕ) (answer : Result Verdict Refusal) : Type 0 where
  pub line : Instruction
  pub in_table_1 : printed_at code ≡ Some line
  pub figure_5 : ClearIn answer (advisory_region x y line)

-- ---- the tables
-- the sixteen advisories have Table 1's sense, target, strength and delay
pub table_1 : (code : ℕ) → code < 256 → instruction_in (advised_of code) ≡ printed_at code
table_1 = tables.advised_is_table_1

pub sixteen : (code : ℕ) → code < 256 → Listed code ↔ CodeWithin 1 16 code
sixteen = codes.lists_1_to_16

-- catalogue and reaction table list identical codes: a code is listed exactly if one row has it, and every row's code is listed
pub identical_codes : (code : ℕ) → code < 256 → Listed code ↔ (rows_with reaction_table code ≡ 1)
identical_codes = tables.listed_has_one_row

pub rows_are_listed : (place : ℕ) (row : Reaction) → row_at reaction_table place ≡ Some row → Listed row.code
rows_are_listed = tables.row_is_listed

-- the names are Table 1's, in its order, with the codes from 1 on; g/4 and g/3 are whole; "Codes 17 (COC) and 18 (MTLO) are named but not judged, and are in neither
-- table"
pub names : map tables.code_and_name article_entries ≡ numbered 1 table1
names = tables.names_are_table_1

pub whole_strengths : (g_over 4 * 4 ≡ g) × (g_over 3 * 3 ≡ g)
whole_strengths = tables.strengths_are_exact

pub in_neither : (named : Named) → Memᴰ named not_judged → InNeitherTable named.code
in_neither = tables.named_is_in_neither_table

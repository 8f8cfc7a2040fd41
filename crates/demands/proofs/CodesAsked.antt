-- What C and Rust get of a code is the demanded question or refusal: by where the code stands, Table 1's line, and the law of 17. Assumes nothing.
use Rattle.std.specs.Prelude.{option_map, Err, None, Ok, Result, Some}
use mathlib.Core.Path.{◌≡◌, refl, ap, ◌∙◌}
use mathlib.Core.Logic.{⊎_elim}
use Prim.Native.Nat.{ℕ, zero, suc, ◌<◌, ◌≤◌}
use native.Mathlib.Omega.{arith}
use lib.IntN.{ℤ}
use Rattle.integers.proofs.Laws.{split≤}
use Rattle.std.proofs.lemmas.Option.{slice_get_past}
use Rattle.advisory.specs.declared.CodeError.{CodeError}
use Rattle.advisory.specs.declared.Instruction.{Instruction}
use Rattle.advisory.specs.Catalogue.{CodeWithin}
use Rattle.advisory.specs.Advised.{advised_of, instruction_in}
use Rattle.advisory.specs.Table1.{table1, printed, printed_at}
use Rattle.advisory.specs.inner.Codes.{Standing}
use Rattle.advisory.proofs.CodeRanges.{standing}
use Rattle.advisory.proofs.TablesAgree.{advised_is_table_1}
use Rattle.coded.specs.Coded.{asked, coded_question}
use Rattle.coded.proofs.EarlierCodes.{earlier_asked, earlier_question, only_17}
use Rattle.binding.specs.declared.QuestionResult.{QuestionResult}
use Rattle.binding.specs.Coded.{flat_question}
use Rattle.binding.proofs.GreaterCodes.{greater_code_unknown}
use Rattle.demands.specs.Maintain.{NeverIssued}
use Rattle.demands.specs.Codes.{refused_code, asked_line, RightlyCoded}

-- Table 1 has no line past its sixteenth
no_line : (code : ℕ) → 255 < code → printed_at code ≡ None
unfolding table1
no_line zero h = absurd (omega arith)
no_line (suc place) h = ap (option_map printed) (slice_get_past table1 place (omega arith))

module _ (code : ℕ) (v limit : ℤ) where
  abbrev found : Result Instruction CodeError → QuestionResult
  found a = flat_question (asked code a v limit)

  by_advice : (a : Result Instruction CodeError) → advised_of code ≡ a → flat_question (coded_question code v limit) ≡ found a
  unfolding coded_question
  by_advice a e = ap found e

  -- past a byte
  unknown : 255 < code → flat_question (coded_question code v limit) ≡ refused_code 8
  unknown h = ap flat_question (greater_code_unknown code h v limit)

  outside_byte : (a : Result Instruction CodeError) → advised_of code ≡ a → Standing code a → ¬ CodeWithin 1 18 code → flat_question (coded_question code v limit) ≡ refused_code 8
  outside_byte (Ok i) e h other = absurd (other (omega (arith, h.0), omega (arith, h.1)))
  outside_byte (Err CodeError.NotJudged) e h other = absurd (other (omega (arith, h.0), omega (arith, h.1)))
  outside_byte (Err CodeError.Unknown) e h other = by_advice (Err CodeError.Unknown) e

  named_byte : (a : Result Instruction CodeError) → advised_of code ≡ a → Standing code a → CodeWithin 17 18 code → flat_question (coded_question code v limit) ≡ refused_code 9
  named_byte (Ok i) e h w = absurd (omega (arith, h.1, w.0))
  named_byte (Err CodeError.NotJudged) e h w = by_advice (Err CodeError.NotJudged) e
  named_byte (Err CodeError.Unknown) e h w = absurd (⊎_elim (λ low. omega (arith, low, w.0)) (λ high. omega (arith, high, w.1)) h)

  line_byte : (a : Result Instruction CodeError) → (line : Instruction) → instruction_in a ≡ Some line → a ≡ Ok line
  line_byte (Ok i) line e = cc
  line_byte (Err why) line e = absurd cc

  asked_byte : code < 256 → (line : Instruction) → printed_at code ≡ Some line → ¬ NeverIssued code v → flat_question (coded_question code v limit) ≡ asked_line line v limit
  unfolding earlier_question
  asked_byte h line e issued =
      let law = only_17 code v limit in
      ap flat_question
      (law.otherwise (λ x. issued (law.refused.0 x))
      ∙ ap (λ a. earlier_asked a v limit) (line_byte (advised_of code) line (advised_is_table_1 code h ∙ e)))

  abbrev here : QuestionResult
  here = flat_question (coded_question code v limit)

  right : RightlyCoded code v limit here
  right = record {
    outside = λ other. ⊎_elim (λ (h : code ≤ 255). outside_byte (advised_of code) refl (standing code (omega (arith, h))) other) unknown (split≤ code 255);
    named = λ w. named_byte (advised_of code) refl (standing code (omega (arith, w.1))) w;
    never_issued = λ n. ap flat_question ((only_17 code v limit).refused.1 n);
    asked = λ line e issued. ⊎_elim
        (λ (h : code ≤ 255). asked_byte (omega (arith, h)) line e issued)
        (λ (h : 255 < code). absurd (let none = no_line code h in cc))
        (split≤ code 255);
  }

  pub rightly_coded : (out : QuestionResult) → out ≡ flat_question (coded_question code v limit) → RightlyCoded code v limit out
  rightly_coded out e = rw e right

-- `instant_text::number` meets its contract: where no plus stands first, `parse` reads digits alone.
use Rattle.std.proofs.Common.{◌≡◌, ◌<◌, ◌^◌, ◌≢◌, ℕ, length, get_or, true, List, sym, ◌∙◌, arith}
use Rattle.std.proofs.lemmas.Bool.{false≢true}
use Rattle.std.specs.Prelude.{Ok, Err, Result}
use Rattle.std.specs.Str.{all_ascii_digits}
use Rattle.std.specs.Str.Parse.{digits_value}
use Rattle.std.specs.Result.{OkIff, result_ok}
use Rattle.std.proofs.lemmas.Bool.Decides.{nat_tests}
use Rattle.std.proofs.lemmas.Str.Pattern.{starts_char}
use Rattle.std.proofs.lemmas.Str.Parse.{IsNumeralModel, numerals_by_value, tells_all_ascii_digits, parse_plain}
use Rattle.words.specs.InstantTexts.{number}
use Rattle.words.proofs.instant_text.number.Goals as goal

own : IsNumeralModel (λ ds. all_ascii_digits ds ≡ true) (digits_value 10)
own = numerals_by_value _ tells_all_ascii_digits

read_number : {E : Type 0} (ds : List ℕ) (r : Result ℕ E)
    → OkIff r ((all_ascii_digits ds ≡ true) × (0 < length ds) × (digits_value 10 ds < 2 ^ 64)) (digits_value 10 ds) → result_ok r ≡ number ds
unfolding number
read_number ds (Ok x) h = grind (arith, nat_tests)
read_number ds (Err e) h = grind (arith, nat_tests)

pub returns : goal.returns
returns c =
    let ds = c.args.text.now in
    let plus = starts_char 43 ds c.starts_with.result c.starts_with.ensures.cases (omega arith) (omega arith) in
    let no_plus : get_or ds 0 0 ≢ 43 = λ e. false≢true (sym c.if-starts_with.false ∙ plus.1 e) in
    c.ok.ensures.value ∙ read_number ds c.parse.result (parse_plain own 64 ds c.parse.result c.parse.ensures.value.0 no_plus)

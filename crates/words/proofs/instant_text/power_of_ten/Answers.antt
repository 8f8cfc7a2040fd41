-- `instant_text::power_of_ten` meets its contract: an exponent beyond 32 bits gives no number of 64.
use Rattle.std.proofs.Common.{◌≡◌, ◌≤◌, ◌<◌, ◌^◌, ℕ, None, sym, ◌∙◌, arith}
use Rattle.std.specs.Prelude.{Ok, Err, Result}
use Rattle.std.specs.Result.{OkIff, result_ok}
use Rattle.std.proofs.lemmas.Bool.Decides.{nat_tests}
use Rattle.std.proofs.Math.Nat.{pow-le-pow_right}
use Rattle.words.specs.InstantTexts.{fitting}
use Rattle.words.proofs.instant_text.power_of_ten.Goals as goal

too_large : (k : ℕ) → 20 ≤ k → fitting (10 ^ k) ≡ None
too_large k h =
    let e = pow-le-pow_right {n = 10} (omega arith) {i = 20} {j = k} h in
    grind (arith, nat_tests)

exponent_large : {E : Type 0} (k : ℕ) (r : Result ℕ E) → OkIff r (k < 2 ^ 32) k → result_ok r ≡ None → 20 ≤ k
exponent_large k (Ok x) h e = absurd (cc)
exponent_large k (Err x) h e = omega arith

pub returns-in_err-ok : goal.returns-in_err-ok
returns-in_err-ok c =
    let k = c.args.exponent in
    let none : c.ok.result ≡ None = c.in_err-ok.was in
    c.from_residual.ensures ∙ sym (too_large k (exponent_large k c.try_from.result c.try_from.ensures (sym c.ok.ensures.value ∙ none)))

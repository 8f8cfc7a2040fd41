-- A call more is one more step; one that fails is the last.
use Rattle.std.proofs.Common.{◌≡◌, Result, Ok, Err, IfErr, ◌++◌, [], ◌∷◌, rules, of_calls, refl, sym, subst}
use Rattle.std.specs.Prelude.{IsErrAnd}
use Rattle.std.proofs.lemmas.Fn.{FoldsTo-push}
use Rattle.reading.proofs.each_argument.Goals as goal

pub loop-k-preserved : goal.loop-k-preserved
loop-k-preserved g c =
    let before = c.loop-k.invariant.called in
    let name = c.argument_part.result.now in
    record {
      callable = search (rules, of_calls);
      called = (before.0 ++ name ∷ [], FoldsTo-push _ _ before.0 _ name _ before.1 (record { shown = c.argument_part.result; shows = refl; called = c.in_ok-f.ensures }));
    }

for_error : {A E : Type 0} (P : E → Type 0) (r : Result A E) (error : E) → IsErrAnd r (λ e. e ≡ error) → P error → IfErr r P
for_error P (Ok _) error is p = tt
for_error P (Err e) error is p = subst P (sym is) p

pub returns-in_err-f-clause-stops : goal.returns-in_err-f-clause-stops
returns-in_err-f-clause-stops g c =
    let before = c.loop-k.invariant.called in
    for_error _ _ c.in_err-f.field-0.0 c.from_residual.ensures.1
    (before.0, c.argument_part.result.now, c.loop-k.f, before.1, record { shown = c.argument_part.result; shows = refl; called = c.in_err-f.ensures })

-- `screen::accept_second` meets its contract: a question that is refused keeps its refusal.
use Rattle.std.specs.Prelude.{◌≡◌, Err}
use native.Mathlib.Omega.{arith}
use Rattle.screen.proofs.PointChecks.{refused_point}
use Rattle.screen.proofs.accept_second.Goals as goal

pub returns-in_err-asked-clause-refused : goal.returns-in_err-asked-clause-refused
returns-in_err-asked-clause-refused c =
    let why = c.in_err-asked.field-0.0 in
    let refused : c.from_residual.result ≡ Err why = grind arith in
    rw refused (refused_point _ _ _ _ why c.in_err-asked.ensures.refused)

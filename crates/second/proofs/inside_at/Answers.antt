-- `second::inside_at` meets its contract: each number fits, and both tests are the definition's.
use Rattle.std.proofs.Common.{◌≡◌, ap, ap₂, ℕ, ◌*◌, ◌&&◌, leb, arith}
use Rattle.std.specs.Prelude.{pos, ◌-ℤ◌, ◌*ℤ◌, nat_abs}
use Rattle.integers.proofs.Machine.{equal_to, plain_call}
use Rattle.path.specs.Letters.{p, k, wh}
use Rattle.path.specs.Window.{distance_at}
use Rattle.second.proofs.Fields.{second_terms, read_ahead}
use Rattle.second.proofs.inside_at.Goals as goal

pub returns : goal.returns
returns c =
    let s = c.args.s.sensed in
    let z = c.args.s.sizes in
    let m = c.args.second.sizes in
    let v = equal_to c.distance_at-ahead.ensures (read_ahead s c.args.second.n z c.args.second.early) in
    let apart : c.unsigned_abs.result ≡ nat_abs (distance_at s c.args.second.n 1) = plain_call c.unsigned_abs.ensures.value (search second_terms depth 20) tt in
    let above : c.unsigned_abs-2.result ≡ nat_abs (pos 2 *ℤ wh s -ℤ c.args.second.motion.height) = plain_call c.unsigned_abs-2.ensures.value (search second_terms depth 20) tt in
    let one : p s ≡ p s * 1 = omega arith in
    ap₂ ◌&&◌ (ap₂ leb apart one) (ap (λ (i : ℕ). leb i (2 * k s)) above)

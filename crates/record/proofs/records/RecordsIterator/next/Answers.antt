-- Bytes without a fault begin with a known kind.
use Rattle.record.proofs.Scan.{known_here}
use Rattle.record.proofs.records.RecordsIterator.next.Goals as goal

pub unwrap-kind-requires : goal.unwrap-kind-requires
unwrap-kind-requires c = rw c.try_from.ensures (known_here c.in_ok-first.ensures.cases.0 c.args.self.now.faultless)

pub mod WholeFloats
pub mod Evaluation
-- (docs/PORT.md names it: no proof cites it.)
pub mod StoredNumbers
pub mod PointChecks
pub mod DrawnPath

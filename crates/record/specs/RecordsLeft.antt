-- What an iterator over a sheet's records has still to give.
use Rattle.std.specs.Prelude.{List}
use Rattle.record.specs.declared.Record.{Record}
use Rattle.record.specs.declared.records.Records.{Records}
use Rattle.record.specs.Records.{records}

abbrev pub records_left : Records → List Record
records_left given = records given.rest.now

-- Definitions that only inner contracts use; an instructor need not read them. The size of the instants that the code compares.
use Rattle.std.specs.Prelude.{◌^◌, ◌<◌}
use Rattle.instant.specs.declared.Instant.{Instant}

-- small enough that the products fit 64 bits; the limits of document 01 keep n and m far below
pub record SizedInstant (a : Instant) : Type 0 where
  pub n : a.n < 2 ^ 32
  pub m : a.m < 2 ^ 32

-- The tests of orders decide them: what `Decides` (library) is told of numbers. Assumes nothing.
use Prim.Native.Nat.{ℕ, ◌≤◌}
use lib.Dec.{leb, leb→le, le→leb}
use lib.Ieee.Bits.{is_true}
use lib.IntN.{ℤ}
use lib.Signed.{◌≤ℤ◌, ◌<ℤ◌, le_z, lt_z, le_z_yes, lt_z_yes}
use Rattle.std.specs.Bool.{Decides, passes}

pub le_decides : (x y : ℤ) → Decides (le_z x y) (x ≤ℤ y)
le_decides x y = (λ e. le_z_yes (passes _ e), λ h. is_true _ h.le)

pub lt_decides : (x y : ℤ) → Decides (lt_z x y) (x <ℤ y)
lt_decides x y = (λ e. lt_z_yes (passes _ e), λ h. is_true _ h.lt)

pub nat_decides : (m n : ℕ) → Decides (leb m n) (m ≤ n)
nat_decides m n = (λ e. leb→le m n (passes _ e), λ h. is_true _ (le→leb m n h))

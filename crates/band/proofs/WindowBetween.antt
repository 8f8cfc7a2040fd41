-- The window over one denominator: a time may be written with any, and what lies between two times of the window is in it. Assumes nothing.
use Prim.Native.Nat.{ℕ, ◌*◌, ◌<◌, ◌≤◌}
use native.Mathlib.Nat.{mul-le-mul_right}
use native.Mathlib.Omega.{arith}
use Rattle.path.specs.declared.SensedQuestion.{SensedQuestion}
use Rattle.path.specs.Window.{Window, window_start}
use Rattle.path.proofs.WindowEnds.{window_between, between_window}

module _ (s : SensedQuestion) where
  pub window_scaled : (n m x : ℕ) → 0 < m → Window s n m → Window s (n * x) (m * x)
  window_scaled n m x pm w =
      let b = window_between s n m w in
      between_window s n m (n * x) (m * x) pm w (record { after = omega (arith, mul-le-mul_right x b.after); before = λ t i. omega (arith, mul-le-mul_right x (b.before t i)) })

  pub window_within : (n i e m : ℕ) → 0 < m → n ≤ i → i ≤ e → Window s n m → Window s e m → Window s i m
  window_within n i e m pm j k w z =
      let b = window_between s n m w in
      let c = window_between s e m z in
      between_window s n m i m pm w (record {
        after = omega (arith, b.after, mul-le-mul_right (window_start s).m j);
        before = λ t l. omega (arith, c.before t l, mul-le-mul_right t.m k);
      })

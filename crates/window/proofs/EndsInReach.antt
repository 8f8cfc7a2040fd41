-- The window's ends are small: the comparisons at them fit 64 bits. Assumes nothing.
use Rattle.std.specs.Prelude.{None, Option, Some}
use Rattle.std.specs.Option.{option_to_list}
use mathlib.Core.Path.{◌≡◌, sym, subst}
use mathlib.Core.List.{[], ◌∷◌}
use Prim.Native.Nat.{ℕ, zero, suc, ◌≤◌}
use native.Mathlib.Omega.{arith}
use lib.IntN.{ℤ, pos, ◌+ℤ◌, ◌-ℤ◌}
use lib.Signed.{◌≤ℤ◌}
use Rattle.limits.specs.Limits.{max_distance, max_closing_speed, max_radius, max_limit}
use Rattle.integers.specs.Extremes.{max0}
use Rattle.integers.proofs.Quotation.{quote}
use Rattle.integers.proofs.Certificates.{by≤, gap≤, ◌⊞◌, pos≤}
use Rattle.integers.proofs.Laws.{max0_le}
use Rattle.instant.specs.declared.Instant.{Instant}
use Rattle.instant.specs.Order.{◌÷◌, earlier}
use Rattle.instant.specs.inner.Sizes.{SizedInstant}
use Rattle.instant.proofs.TimeOrder.{earlier_elim}
use Rattle.path.specs.declared.SensedQuestion.{SensedQuestion}
use Rattle.path.specs.declared.Side.TheVariants.{Lower}
use Rattle.path.specs.Window.{start_of, end_of, window_start, window_end}
use Rattle.path.specs.Instants.{Among}
use Rattle.path.specs.inner.Sizes.{LimitSize, Sizes, farthest, InReach}
use Rattle.path.proofs.Membership.{among_one}
use Rattle.window.proofs.CodeStart.{moving_start}

abbrev pub Near : Instant → Type 0
Near t = InReach Lower t.n t.m

pub near_sized : (t : Instant) → Near t → SizedInstant t
near_sized t h = record { n = omega (arith, h.n_hi); m = omega (arith, h.m_hi) }

-- ---- the ends, from their numbers
start_near : (c p : ℕ) (r : ℤ) → c ≤ max_closing_speed → r ≤ℤ pos max_distance → Near (start_of c r p)
start_near zero p r hc hr = record { n_hi = omega arith; m_lo = omega arith; m_hi = omega arith }
start_near (suc c) p r hc hr = record {
  n_hi = max0_le (r -ℤ pos p) (farthest Lower) (by≤ (p ∷ []) (r ∷ []) (gap≤ hr) (λ v. search quote depth 20) tt);
  m_lo = omega arith;
  m_hi = hc;
}

exit_near : (c p : ℕ) (r : ℤ) → suc c ≤ max_closing_speed → p ≤ max_radius → r ≤ℤ pos max_distance → Near (max0 (r +ℤ pos p) ÷ suc c)
exit_near c p r hc hp hr = record {
  n_hi = max0_le (r +ℤ pos p) (farthest Lower) (by≤ (p ∷ []) (r ∷ []) (gap≤ hr ⊞ gap≤ (pos≤ hp)) (λ v. search quote depth 20) tt);
  m_lo = omega arith;
  m_hi = hc;
}

pub second_near : (L : ℕ) → L ≤ max_limit → Near (L ÷ 1)
second_near L h = record { n_hi = omega arith; m_lo = omega arith; m_hi = omega arith }

end_near : (c p : ℕ) (r : ℤ) (l : Option ℕ) → c ≤ max_closing_speed → p ≤ max_radius → r ≤ℤ pos max_distance → LimitSize l → (t : Instant) → Among t (option_to_list (end_of c r p l)) → Near t
end_near zero p r None hc hp hr hl t i = absurd i
end_near zero p r (Some L) hc hp hr hl t i = among_one Near (L ÷ 1) t (second_near L hl) i
end_near (suc c) p r None hc hp hr hl t i = among_one Near (max0 (r +ℤ pos p) ÷ suc c) t (exit_near c p r hc hp hr) i
end_near (suc c) p r (Some L) hc hp hr hl t i = among_one Near (earlier (max0 (r +ℤ pos p) ÷ suc c) (L ÷ 1)) t
    (earlier_elim (max0 (r +ℤ pos p) ÷ suc c) (L ÷ 1) Near (λ _. exit_near c p r hc hp hr) (λ _. second_near L hl)) i

-- ---- and from a question
module _ (s : SensedQuestion) (z : Sizes s) where
  pub window_start_near : Near (window_start s)
  window_start_near = start_near s.closing_speed s.radius s.distance z.c_hi z.r_hi

  pub moving_start_near : ¬ (s.closing_speed ≡ 0) → Near (max0 (s.distance -ℤ pos s.radius) ÷ s.closing_speed)
  moving_start_near h = subst Near (sym (moving_start s.radius s.distance s.closing_speed h)) window_start_near

  pub window_end_near : (t : Instant) → Among t (option_to_list (window_end s)) → Near t
  window_end_near = end_near s.closing_speed s.radius s.distance s.limit z.c_hi z.p_hi z.r_hi z.limit_hi

-- The window's first time, by the code's cases: the start is in the window or not, as r + p, the radius and the limit say. Assumes nothing.
use Rattle.std.specs.Prelude.{None, Option, Some}
use mathlib.Core.Path.{◌≡◌, refl, sym, ap, ◌∙◌}
use mathlib.Core.Bool.{Bool, true, false}
use mathlib.Core.List.{[], ◌∷◌}
use Prim.Native.Nat.{ℕ}
use native.Mathlib.Omega.{arith}
use borrow.Author.Tests.{eqb-true, eqb-false}
use lib.Dec.{eqb}
use lib.IntN.{ℤ, pos, negsuc, ◌+ℤ◌, ◌-ℤ◌, ◌*ℤ◌}
use lib.Signed.{◌≤ℤ◌, ◌<ℤ◌, <ℤ_irrefl}
use Rattle.std.specs.Bool.{then_some}
use Rattle.integers.specs.Extremes.{max0}
use Rattle.integers.proofs.Quotation.{quote}
use Rattle.integers.proofs.Certificates.{by≤, by<, gap≤, gap<, ◌⊞◌, ◌⊠◌, 0≤pos, pos<}
use Rattle.integers.proofs.Laws.{≤ℤ-of-≡, same_test, max0_ge, max0_none}
use Rattle.instant.specs.declared.Instant.{Instant}
use Rattle.instant.specs.Order.{◌÷◌}
use Rattle.path.specs.declared.SensedQuestion.{SensedQuestion}
use Rattle.path.specs.Letters.{r, c, p}
use Rattle.path.specs.Window.{InTime, start_of, window_start}
use Rattle.path.specs.inner.Tests.{in_time, in_window, opening}
use Rattle.path.proofs.Decisions.{intime_decided, window_decided}
use Rattle.path.proofs.WindowEnds.{window_from, window_till, window_by, window_start_divisor}
use Rattle.window.proofs.CodeStart.{moving_start}

-- 0 is within every limit
zero_intime : (l : Option ℕ) → InTime l 0 1
zero_intime None = tt
zero_intime (Some L) = omega arith

-- max(0, z) is at most y where z and 0 are
max0_under : (z y : ℤ) → pos 0 ≤ℤ y → z ≤ℤ y → pos (max0 z) ≤ℤ y
max0_under (pos n) y h k = k
max0_under (negsuc n) y h k = h

module _ (s : SensedQuestion) where
  abbrev pub ahead : ℕ
  ahead = max0 (r s -ℤ pos (p s))

  -- the start t, and whether it is in the window
  at_start : (t : Instant) (held : Bool) → window_start s ≡ t → in_window s t.n t.m ≡ held → then_some held t ≡ opening s
  unfolding opening
  at_start t held e h = sym (ap (λ (x : Instant). then_some (in_window s x.n x.m) x) e ∙ ap (λ (x : Bool). then_some x t) h)

  -- r + p < 0: the intruder has passed
  pub passed_opening : (r s +ℤ pos (p s)) <ℤ pos 0 → None ≡ opening s
  passed_opening l = at_start (window_start s) false refl (same_test _ false (λ t. no (window_till ((window_decided s _ _).0 t))) (λ f. absurd f))
    where
      no : (pos (c s) *ℤ pos (window_start s).n) ≤ℤ ((r s +ℤ pos (p s)) *ℤ pos (window_start s).m) → ⊥
      no k = <ℤ_irrefl {a = pos 0}
          (by< (c s ∷ p s ∷ (window_start s).n ∷ (window_start s).m ∷ []) (r s ∷ []) (gap≤ k ⊞ gap< l ⊠ 0≤pos (window_start s).m ⊞ gap< (pos< (window_start_divisor s))) (λ v. search quote depth 20) tt)

  -- c = 0: the window starts at 0, or has no time
  still_start : c s ≡ 0 → window_start s ≡ 0 ÷ 1
  still_start e = ap (λ (k : ℕ). start_of k (r s) (p s)) e

  still_inside : c s ≡ 0 → pos 0 ≤ℤ (r s +ℤ pos (p s)) → ahead ≡ 0 → Some (0 ÷ 1) ≡ opening s
  still_inside e l k = at_start (0 ÷ 1) true (still_start e) (same_test _ true (λ _. tt) (λ _. (window_decided s 0 1).1 (window_by from till (zero_intime s.limit))))
    where
      from : ((r s -ℤ pos (p s)) *ℤ pos 1) ≤ℤ (pos (c s) *ℤ pos 0)
      from = by≤ (c s ∷ p s ∷ ahead ∷ []) (r s ∷ []) (gap≤ (max0_ge (r s -ℤ pos (p s))) ⊞ gap≤ (≤ℤ-of-≡ (ap pos k))) (λ v. search quote depth 20) tt

      till : (pos (c s) *ℤ pos 0) ≤ℤ ((r s +ℤ pos (p s)) *ℤ pos 1)
      till = by≤ (c s ∷ p s ∷ []) (r s ∷ []) (gap≤ l) (λ v. search quote depth 20) tt

  still_outside : c s ≡ 0 → ¬ (ahead ≡ 0) → None ≡ opening s
  still_outside e k = at_start (0 ÷ 1) false (still_start e) (same_test _ false (λ t. k (max0_none (r s -ℤ pos (p s)) (from (window_from ((window_decided s 0 1).0 t))))) (λ f. absurd f))
    where
      from : ((r s -ℤ pos (p s)) *ℤ pos 1) ≤ℤ (pos (c s) *ℤ pos 0) → (r s -ℤ pos (p s)) ≤ℤ pos 0
      from h = by≤ (c s ∷ p s ∷ []) (r s ∷ []) (gap≤ h) (λ v. search quote depth 20) tt

  pub still_opening : c s ≡ 0 → pos 0 ≤ℤ (r s +ℤ pos (p s)) → then_some (eqb ahead 0) (0 ÷ 1) ≡ opening s
  still_opening e l = go (eqb ahead 0) refl
    where
      go : (b : Bool) → eqb ahead 0 ≡ b → then_some b (0 ÷ 1) ≡ opening s
      go true h = still_inside e l (eqb-true ahead 0 h)
      go false h = still_outside e (eqb-false ahead 0 h)

  -- c above 0: the limit decides
  pub moving_opening : ¬ (c s ≡ 0) → pos 0 ≤ℤ (r s +ℤ pos (p s)) → then_some (in_time s.limit ahead (c s)) (ahead ÷ c s) ≡ opening s
  moving_opening h l = at_start (ahead ÷ c s) (in_time s.limit ahead (c s)) (sym (moving_start (p s) (r s) (c s) h)) (same_test _ _
      (λ t. (intime_decided s.limit ahead (c s)).1 ((window_decided s ahead (c s)).0 t).intime)
      (λ t. (window_decided s ahead (c s)).1 (window_by from till ((intime_decided s.limit ahead (c s)).0 t))))
    where
      from : ((r s -ℤ pos (p s)) *ℤ pos (c s)) ≤ℤ (pos (c s) *ℤ pos ahead)
      from = by≤ (c s ∷ p s ∷ ahead ∷ []) (r s ∷ []) (0≤pos (c s) ⊠ gap≤ (max0_ge (r s -ℤ pos (p s)))) (λ v. search quote depth 20) tt

      till : (pos (c s) *ℤ pos ahead) ≤ℤ ((r s +ℤ pos (p s)) *ℤ pos (c s))
      till = by≤ (c s ∷ p s ∷ ahead ∷ []) (r s ∷ []) (0≤pos (c s) ⊠ gap≤ (max0_under (r s -ℤ pos (p s)) (r s +ℤ pos (p s)) l (by≤ (p s ∷ []) (r s ∷ []) (0≤pos 0) (λ v. search quote depth 20) tt))) (λ v. search quote depth 20) tt

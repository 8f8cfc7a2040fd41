-- A lower conflict time and an upper conflict time give a time with both. On a grid that holds both and is so fine that the lower path moves by less than 2*k in a step,
-- go from the one to the other: where the upper conflict begins or ends, its neighbour has the upper path more than k below the intruder, hence the lower path too
-- (`paths_ordered`), which is then too near to be more than k above it a step away. Assumes nothing.
use mathlib.Core.Path.{◌≡◌, subst}
use mathlib.Core.List.{[], ◌∷◌}
use mathlib.Core.Logic.{◌⊎◌, inl, inr, ⊎_elim}
use Prim.Native.Nat.{ℕ, suc, ◌*◌, ◌<◌, ◌≤◌}
use native.Mathlib.Nat.{mul-pos, mul-le-mul_right}
use native.Mathlib.Omega.{arith}
use lib.IntN.{ℤ, pos, ◌+ℤ◌, ◌-ℤ◌, ◌*ℤ◌}
use lib.Signed.{◌≤ℤ◌, ◌<ℤ◌, clash_ℤ}
use Rattle.integers.proofs.Quotation.{quote}
use Rattle.integers.proofs.Certificates.{by≤, div≤, gap≤, gap<, ◌⊞◌, ◌⊠◌, 0≤pos, pos≤, pos<, split<}
use Rattle.integers.proofs.Laws.{split≤}
use Rattle.path.specs.declared.SensedQuestion.{SensedQuestion}
use Rattle.path.specs.declared.Side.TheVariants.{Lower, Upper}
use Rattle.path.specs.Letters.{k, wh, a, b}
use Rattle.path.specs.Paths.{lower_path, upper_path}
use Rattle.path.specs.Window.{Window}
use Rattle.path.specs.Conflict.{lower_edge, upper_edge, Conflict}
use Rattle.path.proofs.Profile.{scaled_up}
use Rattle.path.proofs.SideProfiles.{lower_scale, lower_edge_scale, upper_scale, upper_edge_scale}
use Rattle.grid.proofs.Neighbours.{neighbours}
use Rattle.grid.proofs.LowerMoves.{top_speed, lower_moves}
use Rattle.band.proofs.WindowBetween.{window_scaled, window_within}

-- a time with a conflict on both sides
pub record Meeting (s : SensedQuestion) : Type 0 where
  pub n : ℕ
  pub m : ℕ
  pub divisor : 1 ≤ m
  pub lower : Conflict Lower s n m
  pub upper : Conflict Upper s n m

-- f is the lower path at one instant, g at its neighbour, j the upper path at the first
lower_there : (a b M k : ℕ) (h f j : ℤ) → 0 < b → (pos b *ℤ f) ≤ℤ (pos a *ℤ j) → j <ℤ (pos 2 *ℤ pos b *ℤ pos M *ℤ pos M *ℤ (h -ℤ pos k)) → f ≤ℤ (pos 2 *ℤ pos a *ℤ pos M *ℤ pos M *ℤ (h -ℤ pos k))
lower_there a b M k h f j pb o l = div≤ (a ∷ b ∷ M ∷ k ∷ []) (h ∷ f ∷ j ∷ []) (pos< pb) (gap≤ o ⊞ 0≤pos a ⊠ gap< l) (λ v. search quote depth 20) tt

lower_here : (a M S k : ℕ) (h f g : ℤ) → S ≤ M → 1 ≤ k → f ≤ℤ (pos 2 *ℤ pos a *ℤ pos M *ℤ pos M *ℤ (h -ℤ pos k)) → g ≤ℤ (f +ℤ pos 2 *ℤ pos a *ℤ pos M *ℤ pos S) → g ≤ℤ (pos 2 *ℤ pos a *ℤ pos M *ℤ pos M *ℤ (h +ℤ pos k))
lower_here a M S k h f g i pk l n = by≤ (a ∷ M ∷ S ∷ k ∷ []) (h ∷ f ∷ g ∷ []) (gap≤ l ⊞ gap≤ n ⊞ 0≤pos (2 * a * M) ⊠ (0≤pos (2 * M) ⊠ gap≤ (pos≤ pk) ⊞ gap≤ (pos≤ i))) (λ v. search quote depth 20) tt

module _ (s : SensedQuestion) where
  lower_scaled : (n m x : ℕ) → 0 < m → Conflict Lower s n m → Conflict Lower s (n * x) (m * x)
  lower_scaled n m x pm c = record { window = window_scaled s n m x pm c.window; vertical = scaled_up x (lower_scale s n m x) (lower_edge_scale s m x) c.vertical }

  upper_scaled : (n m x : ℕ) → 0 < m → Conflict Upper s n m → Conflict Upper s (n * x) (m * x)
  upper_scaled n m x pm c = record { window = window_scaled s n m x pm c.window; vertical = scaled_up x (upper_edge_scale s m x) (upper_scale s n m x) c.vertical }

module _ (s : SensedQuestion) (order : (n m : ℕ) → (pos (b s) *ℤ lower_path s n m) ≤ℤ (pos (a s) *ℤ upper_path s n m)) (pb : 0 < b s) (pk : 1 ≤ k s) where
  -- over one denominator M, no smaller than the top speed
  module _ (M : ℕ) (pM : 1 ≤ M) (fine : top_speed s ≤ M) where
    abbrev High : ℕ → Type 0
    High i = upper_edge s M ≤ℤ upper_path s i M

    abbrev Short : ℕ → Type 0
    Short i = upper_path s i M <ℤ upper_edge s M

    short_high : (i : ℕ) → Short i ⊎ High i
    short_high i = split< (upper_path s i M) (upper_edge s M)

    high_short : (i : ℕ) → High i ⊎ Short i
    high_short i = ⊎_elim (λ l. inr l) (λ l. inl l) (short_high i)

    there : (i : ℕ) → Short i → lower_path s i M ≤ℤ (pos 2 *ℤ pos (a s) *ℤ pos M *ℤ pos M *ℤ (wh s -ℤ pos (k s)))
    there i l = lower_there (a s) (b s) M (k s) (wh s) (lower_path s i M) (upper_path s i M) pb (order i M) l

    met : (i : ℕ) → Window s i M → lower_path s i M ≤ℤ lower_edge s M → High i → Meeting s
    met i w l h = record { n = i; m = M; divisor = pM; lower = record { window = w; vertical = l }; upper = record { window = w; vertical = h } }

    upper_later : (n e : ℕ) → n ≤ e → Conflict Lower s n M → Short n → Conflict Upper s e M → Meeting s
    upper_later n e l x z y =
        let c = neighbours Short High short_high (λ i. clash_ℤ) n z e l y.vertical in
        met (suc c.i) (window_within s n (suc c.i) e M pM (omega (arith, c.from)) (omega (arith, c.to)) x.window y.window)
        (lower_here (a s) M (top_speed s) (k s) (wh s) (lower_path s c.i M) (lower_path s (suc c.i) M) fine pk (there c.i c.here) (lower_moves s c.i M).up) c.next

    upper_sooner : (n e : ℕ) → n ≤ e → Conflict Upper s n M → Conflict Lower s e M → Short e → Meeting s
    upper_sooner n e l y x z =
        let c = neighbours High Short high_short (λ i h l. clash_ℤ l h) n y.vertical e l z in
        met c.i (window_within s n c.i e M pM c.from (omega (arith, c.to)) y.window x.window)
        (lower_here (a s) M (top_speed s) (k s) (wh s) (lower_path s (suc c.i) M) (lower_path s c.i M) fine pk (there (suc c.i) c.next) (lower_moves s c.i M).down) c.here

    meeting_on_grid : (n e : ℕ) → Conflict Lower s n M → Conflict Upper s e M → Meeting s
    meeting_on_grid n e x y = ⊎_elim
        (λ (z : Short n). ⊎_elim (λ (l : n ≤ e). upper_later n e l x z y) (λ (l : e < n). upper_sooner e n (omega arith) y x z) (split≤ n e))
        (λ (h : High n). met n x.window x.vertical h)
        (short_high n)

  pub meeting : (n m n' m' : ℕ) → 1 ≤ m → 1 ≤ m' → Conflict Lower s n m → Conflict Upper s n' m' → Meeting s
  meeting n m n' m' pm pm' x y =
      let K = suc (top_speed s) in
      let M = m * (m' * K) in
      let same : m' * (m * K) ≡ M = omega arith in
      let size : 1 * K ≤ m * m' * K = mul-le-mul_right K (mul-pos pm pm') in
      meeting_on_grid M (omega arith) (omega arith) (n * (m' * K)) (n' * (m * K)) (lower_scaled s n m (m' * K) pm x)
      (subst (λ (z : ℕ). Conflict Upper s (n' * (m * K)) z) same (upper_scaled s n' m' (m * K) pm' y))

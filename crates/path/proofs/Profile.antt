-- One theorem for every side: a conflict somewhere in the window is a conflict at an instant of the list, unless the window has no end and the path
-- sinks for ever. A profile is a height that is in conflict at an edge and below it; the upper side is turned over. The given time and the listed instants
-- are brought over one denominator, where the path is a list of pieces. Assumes nothing.
use Rattle.std.specs.Prelude.{None, Option, Some}
use Rattle.std.specs.Option.{option_to_list}
use mathlib.Core.Path.{◌≡◌, refl, sym, ap, subst}
use mathlib.Core.List.{List, [], ◌∷◌, ◌++◌}
use mathlib.Core.Logic.{inl, inr}
use Prim.Native.Nat.{ℕ, ◌*◌, ◌<◌, ◌≤◌}
use native.Mathlib.Nat.{mul-pos, mul-le-mul_right, le_of_mul-le-mul_right}
use native.Mathlib.Omega.{arith}
use lib.IntN.{ℤ, pos, ◌*ℤ◌}
use lib.Signed.{◌≤ℤ◌}
use Rattle.integers.proofs.Quotation.{quote}
use Rattle.integers.proofs.Certificates.{by≤, div≤, gap≤, ◌⊠◌, 0≤pos, pos<}
use Rattle.integers.proofs.Laws.{≤ℤ_trans}
use Rattle.instant.specs.declared.Instant.{Instant}
use Rattle.instant.specs.Order.{◌÷◌, ◌≼◌}
use Rattle.path.specs.Instants.{Among}
use Rattle.path.proofs.Membership.{among_left, among_right, among_one}
use Rattle.path.proofs.Pieces.{Pieces, EndsInHill, least_closed, least_open}
use Rattle.path.proofs.Interval.{Between, denominator, denominator_positive, Multiple, denominator_multiple, Over, over_multiple, Place, over_le, over_ge, le_over, ge_over}

-- the pieces of F over the denominator M, whose marks are instants of the list; the last may be a hill where `sinks` holds
pub record Shape (F : ℕ → ℕ → ℤ) (mids : List Instant) (sinks : Type 0) (M : ℕ) : Type 0 where
  pub marks : List ℕ
  pub pieces : Pieces (λ n. F n M) 0 marks
  pub places : (x : ℕ) → Among x marks → Place mids x M
  pub tail : EndsInHill pieces → sinks

pub record Profile : Type 1 where
  -- the window: what lies between `first` and `last`, if any time is in it
  pub In : ℕ → ℕ → Type 0
  pub first : Instant
  pub last : Option Instant
  pub in_between : (n m : ℕ) → 0 < m → In n m → Between first last n m
  pub between_in : (n m x y : ℕ) → 0 < m → In n m → Between first last x y → In x y
  -- the height, and the edge at which a conflict begins; both on a scale of m*m
  pub height : ℕ → ℕ → ℤ
  pub edge : ℕ → ℤ
  pub height_scale : (n m s : ℕ) → height (n * s) (m * s) ≡ pos s *ℤ pos s *ℤ height n m
  pub edge_scale : (m s : ℕ) → edge (m * s) ≡ pos s *ℤ pos s *ℤ edge m
  -- the path's own instants, and its shape over a denominator that theirs divide
  pub mids : List Instant
  pub sinks : Type 0
  pub shape : (M : ℕ) → 0 < M → ((t : Instant) → Among t mids → Multiple M t) → Shape height mids sinks M
  pub divisor : (t : Instant) → Among t (first ∷ (mids ++ option_to_list last)) → 0 < t.m

-- in the window, and at the edge or below it
pub record Low (P : Profile) (n m : ℕ) : Type 0 where
  pub window : P.In n m
  pub below : P.height n m ≤ℤ P.edge m

-- all that the time rule tries
abbrev pub tried : Profile → List Instant
tried P = P.first ∷ (P.mids ++ option_to_list P.last)

-- ---- an order between two heights, and between the same on a scale that is s*s larger
module _ (s : ℕ) {x y x' y' : ℤ} (e : x' ≡ pos s *ℤ pos s *ℤ x) (f : y' ≡ pos s *ℤ pos s *ℤ y) where
  pub scaled_up : x ≤ℤ y → x' ≤ℤ y'
  scaled_up h = subst (λ (t : ℤ). t ≤ℤ y') (sym e) (subst (λ (t : ℤ). (pos s *ℤ pos s *ℤ x) ≤ℤ t) (sym f) (by≤ (s ∷ []) (x ∷ y ∷ []) (0≤pos (s * s) ⊠ gap≤ h) (λ v. search quote depth 20) tt))

  pub scaled_down : 0 < s → x' ≤ℤ y' → x ≤ℤ y
  scaled_down p h = div≤ (s ∷ []) (x ∷ y ∷ []) (pos< {m = 0} {n = s * s} (omega (arith, mul-le-mul_right s p)))
      (gap≤ (subst (λ (t : ℤ). (pos s *ℤ pos s *ℤ x) ≤ℤ t) f (subst (λ (t : ℤ). t ≤ℤ y') e h))) (λ v. search quote depth 20) tt

-- a low time may be written with any denominator
module _ (P : Profile) (n m s : ℕ) (pm : 0 < m) (ps : 0 < s) where
  low_up : Low P n m → Low P (n * s) (m * s)
  low_up x =
      let b = P.in_between n m pm x.window in
      record {
        window = P.between_in n m (n * s) (m * s) pm x.window (record { after = omega (arith, mul-le-mul_right s b.after); before = λ t i. omega (arith, mul-le-mul_right s (b.before t i)) });
        below = scaled_up s (P.height_scale n m s) (P.edge_scale m s) x.below;
      }

  low_down : Low P (n * s) (m * s) → Low P n m
  low_down x =
      let b = P.in_between (n * s) (m * s) (mul-pos pm ps) x.window in
      record {
        window = P.between_in (n * s) (m * s) n m (mul-pos pm ps) x.window (record {
          after = le_of_mul-le-mul_right {m = P.first.n * m} {n = n * P.first.m} {k = s} (omega (arith, b.after)) ps;
          before = λ t i. le_of_mul-le-mul_right {m = n * t.m} {n = t.n * m} {k = s} (omega (arith, b.before t i)) ps;
        });
        below = scaled_down s (P.height_scale n m s) (P.edge_scale m s) ps x.below;
      }

-- ---- the theorem, in the form: whatever follows from a low instant of the list, and from a path that sinks in a window without an end, holds
module _ (P : Profile) (n m : ℕ) (pm : 0 < m) (L : Low P n m) (Y : Type 0)
    (found : (t : Instant) → Among t (tried P) → Low P t.n t.m → Y)
    (sunk : P.last ≡ None → P.sinks → ((j : ℕ) → P.first ≼ j ÷ 1 → P.In j 1) → Y) where
  G : ℕ
  G = denominator (tried P)

  M : ℕ
  M = m * G

  G_positive : 0 < G
  unfolding G
  G_positive = denominator_positive (tried P) P.divisor

  M_positive : 0 < M
  unfolding M
  M_positive = mul-pos pm G_positive

  -- the given time is y/M
  y : ℕ
  y = n * G

  given : Low P y M
  unfolding M y
  given = low_up P n m G pm G_positive L

  multiple : (t : Instant) → Among t (tried P) → Multiple M t
  unfolding M G
  multiple t i = let d = denominator_multiple (tried P) t i in let h = d.1 in (m * d.0, omega (arith, ap (λ (z : ℕ). m * z) h))

  over : (t : Instant) → Among t (tried P) → (x : ℕ) × Over t x M
  over t i = let d = multiple t i in (t.n * d.0, over_multiple t d.0 M M_positive d.1)

  mid_tried : (t : Instant) → Among t P.mids → Among t (tried P)
  mid_tried t i = inr (among_left t P.mids (option_to_list P.last) i)

  last_tried : (t : Instant) → Among t (option_to_list P.last) → Among t (tried P)
  last_tried t i = inr (among_right t P.mids (option_to_list P.last) i)

  -- an instant of the list in the window, no higher than the given time, is low
  reach : (t : Instant) → Among t (tried P) → (x : ℕ) → Over t x M → P.In x M → P.height x M ≤ℤ P.height y M → Y
  reach t i x o w h = found t i (low_down P t.n t.m o.factor (P.divisor t i) o.positive
      (subst (λ (z : ℕ). Low P (t.n * o.factor) z) o.divisor (subst (λ (z : ℕ). Low P z M) o.numerator (record { window = w; below = ≤ℤ_trans h given.below }))))

  S : (x : ℕ) × Over P.first x M
  S = over P.first (inl refl)

  inside : (E : ℕ) → ((x : ℕ) → x ≤ E → (t : Instant) → Among t (option_to_list P.last) → x ÷ M ≼ t) → (x : ℕ) → S.0 ≤ x → x ≤ E → P.In x M
  inside E f x i j = P.between_in y M x M M_positive given.window (record { after = ge_over P.first S.0 M S.1 x i; before = f x j })

  S_y : S.0 ≤ y
  S_y = over_ge P.first S.0 M S.1 y (P.divisor P.first (inl refl)) (P.in_between y M M_positive given.window).after

  g : Shape P.height P.mids P.sinks M
  g = P.shape M M_positive (λ t i. multiple t (mid_tried t i))

  closed : (e : Instant) → P.last ≡ Some e → Y
  closed e same =
      let i : Among e (option_to_list P.last) = subst (λ (l : Option Instant). Among e (option_to_list l)) (sym same) (inl refl) in
      let o = over e (last_tried e i) in
      let here : (x : ℕ) → x ≤ o.0 → (t : Instant) → Among t (option_to_list P.last) → x ÷ M ≼ t =
      λ x h t a. among_one (λ z. x ÷ M ≼ z) e t (le_over e o.0 M o.1 x h) (subst (λ (l : Option Instant). Among t (option_to_list l)) same a) in
      let w = inside o.0 here in
      let h : y ≤ o.0 = over_le e o.0 M o.1 y (P.divisor e (last_tried e i)) ((P.in_between y M M_positive given.window).before e i) in
      let s = S_y in
      least_closed g.pieces S.0 y S_y Y
      (λ k. reach P.first (inl refl) S.0 S.1 (w S.0 (omega arith) (omega arith)) k)
      o.0 h
      (λ x k a b l. let q = g.places x k in reach q.t (mid_tried q.t q.among) x q.over (w x a b) l)
      (λ k. reach e (last_tried e i) o.0 o.1 (w o.0 (omega arith) (omega arith)) k)

  unending : P.last ≡ None → Y
  unending same =
      least_open g.pieces S.0 y S_y Y
      (λ h. reach P.first (inl refl) S.0 S.1 (w S.0 (omega arith)) h)
      (λ x k i h. let q = g.places x k in reach q.t (mid_tried q.t q.among) x q.over (w x i) h)
      (λ h. sunk same (g.tail h) (λ j a. P.between_in y M j 1 M_positive given.window (record { after = a; before = none j 1 })))
    where
      none : (x z : ℕ) (t : Instant) → Among t (option_to_list P.last) → x ÷ z ≼ t
      none x z t i = absurd (subst (λ (l : Option Instant). Among t (option_to_list l)) same i)

      w : (x : ℕ) → S.0 ≤ x → P.In x M
      w x i = inside x (λ z j. none z M) x i (omega arith)

  pub low_instant : Y
  low_instant = go P.last refl
    where
      go : (l : Option Instant) → P.last ≡ l → Y
      go None e = unending e
      go (Some t) e = closed t e

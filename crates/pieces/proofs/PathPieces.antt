-- The pieces split their side's path: each is the path where it holds, by one polynomial identity each, and the tests of `piece_at` find the piece that
-- holds. Assumes nothing.
use mathlib.Core.Path.{◌≡◌, refl, sym, ap, ◌∙◌}
use mathlib.Core.Bool.{Bool, true, false, cond}
use mathlib.Core.List.{List, [], ◌∷◌}
use mathlib.Core.Logic.{◌↔◌, inl, inr, ⊎_elim}
use Prim.Native.Nat.{ℕ, zero, suc, ◌+◌, ◌*◌, ◌-◌, ◌<◌, ◌≤◌}
use native.Mathlib.Nat.{zero-lt-suc, le_of_lt, mul-le-mul, mul-le-mul_left, mul-sub}
use native.Mathlib.Omega.{arith}
use lib.Dec.{eqb}
use lib.IntN.{ℤ, pos, neg_ℤ, ◌+ℤ◌, ◌-ℤ◌, ◌*ℤ◌}
use borrow.Author.Tests.{eqb-true, eqb-false}
use Rattle.integers.proofs.Quotation.{quote}
use Rattle.integers.proofs.Certificates.{ring, nat≡}
use Rattle.integers.proofs.Laws.{split≤}
use Rattle.instant.specs.declared.Instant.{Instant}
use Rattle.instant.specs.declared.Time.{Time}
use Rattle.instant.specs.Order.{◌÷◌, ◌≼◌, ◌≺◌, ◌≈◌}
use Rattle.instant.specs.Lowest.{lowest}
use Rattle.instant.proofs.LowestTerms.{lowest_same}
use Rattle.instant.proofs.TimeOrder.{no_later_true, no_later_false, ≼_trans, ≈-≼, ≈-sym}
use Rattle.path.specs.declared.SensedQuestion.{SensedQuestion}
use Rattle.path.specs.declared.Side.{Side}
use Rattle.path.specs.declared.Side.TheVariants.{Lower, Upper}
use Rattle.path.specs.Letters.{u, d, e}
use Rattle.path.specs.Paths.{delay_height, advice_gain, continued}
use Rattle.path.proofs.AdviceRule.{gain_zero, gain_arc, gain_straight}
use Rattle.path.proofs.Continued.{continued_before, continued_after}
use Rattle.conflict.specs.inner.Divided.{bend, speed_after_delay, strength_of, target_of}
use Rattle.pieces.specs.declared.WholePiece.{WholePiece}
use Rattle.pieces.specs.Pieces.{height_after_delay, missing_speed, delay_piece, arc_piece, last_piece, unless, pieces, has_begun, piece_at, piece_height}
use Rattle.pieces.specs.RightPieces.{path_of, FromStart, InOrder, FollowPath, Agree, meeting_times, RightPieces, Holds}

-- ---- times from d on, as products
module _ (a d g n m : ℕ) where
  cancel : 0 < a → d * a * m ≤ n * a → d * m ≤ n
  cancel p h = ⊎_elim (λ (l : d * m ≤ n). l) (λ (l : n < d * m). absurd (omega (arith, mul-le-mul_left a l))) (split≤ (d * m) n)

  up_to : 0 < a → n * a ≤ d * a * m → n ≤ d * m
  up_to p h = ⊎_elim (λ (l : n ≤ d * m). l) (λ (l : d * m < n). absurd (omega (arith, mul-le-mul_left a l))) (split≤ n (d * m))

  since : (d * a + g) * m ≤ n * a → g * m ≤ a * (n - d * m)
  since h = omega (arith, mul-sub a n (d * m))

  until : n * a ≤ (d * a + g) * m → a * (n - d * m) ≤ g * m
  until h = omega (arith, mul-sub a n (d * m))

-- ---- whether a piece has begun
module _ (p : WholePiece) (t : Instant) where
  begun : has_begun p t ≡ true → p.from ≼ t
  begun x = (no_later_true p.from t).0 x

  to_come : has_begun p t ≡ false → t ≺ p.from
  to_come x = (no_later_false p.from t).0 x

above_zero : (k : ℕ) → eqb k 0 ≡ false → 0 < k
above_zero zero x = absurd (eqb-false 0 0 x refl)
above_zero (suc k) x = omega arith

-- ---- no product of something above 0 and something is 0, unless that is
no_product : (k n : ℕ) → 0 < k → pos (k * n) ≡ pos 0 → n ≡ 0
no_product k zero h x = refl
no_product k (suc n) h x = absurd (let y : k * suc n ≡ 0 = nat≡ x in omega (arith, mul-le-mul_left k (zero-lt-suc n)))

no_negated_product : (k n : ℕ) → 0 < k → pos k *ℤ neg_ℤ (pos n) ≡ pos 0 → n ≡ 0
no_negated_product k n h x = no_product k n h (ring (k ∷ n ∷ []) [] (λ v. search quote depth 20) tt ∙ ap neg_ℤ x)

no_negation : (k n : ℕ) → n ≡ 0 → pos k *ℤ neg_ℤ (pos n) ≡ pos 0
no_negation k n x = ap (λ (m : ℕ). pos k *ℤ neg_ℤ (pos m)) x ∙ ring (k ∷ []) [] (λ v. search quote depth 20) tt

times_none : (k n : ℕ) → n ≡ 0 → pos (k * n) ≡ pos 0
times_none k n x = ap pos (omega (arith, ap (λ (n : ℕ). k * n) x))

-- ---- where two pieces meet both are the path, so they agree
abbrev Divisors : List WholePiece → Type 0
Divisors [] = Unit {0}
Divisors (p ∷ l) = (0 < p.from.m) × Divisors l

-- x has begun where y begins
earlier_begun : (x y t : Instant) → 0 < y.m → x ≺ y → t ≈ y → x ≼ t
earlier_begun x y t h l e = ≼_trans x y t h (le_of_lt l) (≈-≼ y t (≈-sym t y e))

-- x begins before y, which begins before z: where x begins z has not
later_begins : (x z t : Instant) → 0 < x.m → x ≺ z → t ≈ x → t ≼ z
later_begins x z t h l e = ≼_trans t x z h (≈-≼ t x e) (le_of_lt l)

agree : (side : Side) (s : SensedQuestion) (l : List WholePiece) → Divisors l → InOrder l → FollowPath side s l → Agree l
agree side s [] h o f = tt
agree side s (p ∷ []) h o f = tt
agree side s (p ∷ r ∷ []) h o f = (λ n m i e. f.0 n m i (earlier_begun p.from r.from (n ÷ m) h.1.0 o.0 e) (≈-≼ (n ÷ m) r.from e) ∙ sym (f.1 n m i (≈-≼ r.from (n ÷ m) (≈-sym (n ÷ m) r.from e))), tt)
agree side s (p ∷ r ∷ x ∷ l) h o f = (
  λ n m i e.
      f.0 n m i (earlier_begun p.from r.from (n ÷ m) h.1.0 o.0 e) (≈-≼ (n ÷ m) r.from e)
      ∙ sym (f.1.0 n m i (≈-≼ r.from (n ÷ m) (≈-sym (n ÷ m) r.from e)) (later_begins r.from x.from (n ÷ m) h.1.0 o.1.0 e)),
  agree side s (r ∷ x ∷ l) h.1 o.1 f.1,
)

module _ (side : Side) (s : SensedQuestion) where
  abbrev a : ℕ
  a = strength_of side s

  abbrev q : ℤ
  q = target_of side s

  abbrev u_d : ℤ
  u_d = speed_after_delay side s

  abbrev G : ℕ
  G = missing_speed side s

  -- the path before d, times 2 × m², and what it gains after d, times 2 × a × m²
  abbrev before : ℕ → ℕ → ℤ
  before = delay_height (bend side s) (u s)

  abbrev gain : ℕ → ℕ → ℤ
  gain = advice_gain a q u_d

  -- ---- the path before and after d
  both_parts : (n m : ℕ) → continued a before (d s) 1 gain n m ≡ path_of side s n m
  both_parts n m = go side
    where
      go : (x : Side) → continued (strength_of x s) (delay_height (bend x s) (u s)) (d s) 1 (advice_gain (strength_of x s) (target_of x s) (speed_after_delay x s)) n m ≡ path_of x s n m
      go Lower = refl
      go Upper = refl

  path_before : (n m : ℕ) → n ≤ d s * m → path_of side s n m ≡ pos a *ℤ before n m
  path_before n m l = sym (both_parts n m) ∙ continued_before a before (d s) 1 gain (λ k. gain_zero a k q u_d) n m l

  path_after : (n m : ℕ) → d s * m ≤ n → path_of side s n m ≡ pos a *ℤ before (d s * m) m +ℤ pos 1 *ℤ gain (n - d s * m) m
  path_after n m l = sym (both_parts n m) ∙ continued_after a before (d s) 1 gain (λ k. gain_zero a k q u_d) n m l

  -- ---- each piece is the path between its rule's two ends; after d, n is k + d × m
  delay_identity : (n m : ℕ) → piece_height (delay_piece side s) n m ≡ pos a *ℤ before n m
  unfolding delay_height
  delay_identity n m = ring (a ∷ n ∷ m ∷ []) (bend side s ∷ u s ∷ []) (λ v. search quote depth 20) tt

  delay_follows : (n m : ℕ) → n ≤ d s * m → piece_height (delay_piece side s) n m ≡ path_of side s n m
  delay_follows n m l = delay_identity n m ∙ sym (path_before n m l)

  arc_identity : (k m : ℕ) → piece_height (arc_piece side s) (k + d s * m) m
      ≡ pos a *ℤ before (d s * m) m +ℤ pos 1 *ℤ (pos a *ℤ (pos 2 *ℤ u_d *ℤ pos k *ℤ pos m +ℤ pos a *ℤ pos k *ℤ pos k))
  unfolding height_after_delay delay_height
  arc_identity k m = ring (a ∷ d s ∷ k ∷ m ∷ []) (bend side s ∷ u s ∷ u_d ∷ []) (λ v. search quote depth 20) tt

  straight_identity : (k m : ℕ) → piece_height (last_piece side s) (k + d s * m) m
      ≡ pos a *ℤ before (d s * m) m +ℤ pos 1 *ℤ (pos 2 *ℤ pos a *ℤ q *ℤ pos k *ℤ pos m -ℤ pos G *ℤ pos G *ℤ pos m *ℤ pos m)
  unfolding height_after_delay delay_height
  straight_identity k m = ring (a ∷ d s ∷ G ∷ k ∷ m ∷ []) (bend side s ∷ u s ∷ q ∷ []) (λ v. search quote depth 20) tt

  module _ (n m : ℕ) (l : d s * m ≤ n) where
    split_time : n ≡ (n - d s * m) + d s * m
    split_time = omega arith

    gained : {g : ℤ} (p : WholePiece) → gain (n - d s * m) m ≡ g
        → piece_height p ((n - d s * m) + d s * m) m ≡ pos a *ℤ before (d s * m) m +ℤ pos 1 *ℤ g → piece_height p n m ≡ path_of side s n m
    gained p f i =
        ap (λ (k : ℕ). piece_height p k m) split_time ∙ i
        ∙ ap (λ (z : ℤ). pos a *ℤ before (d s * m) m +ℤ pos 1 *ℤ z) (sym f)
        ∙ sym (path_after n m l)

    arc_follows : 0 < a → a * (n - d s * m) ≤ G * m → piece_height (arc_piece side s) n m ≡ path_of side s n m
    arc_follows p h = gained (arc_piece side s) (gain_arc a (n - d s * m) m q u_d p h) (arc_identity (n - d s * m) m)

    last_follows : G * m ≤ a * (n - d s * m) → piece_height (last_piece side s) n m ≡ path_of side s n m
    last_follows h = gained (last_piece side s) (gain_straight a (n - d s * m) m q u_d h) (straight_identity (n - d s * m) m)

  -- ---- the same by the pieces' times
  module _ (p : 0 < a) where
    delay_to_arc : (n m : ℕ) → 1 ≤ m → 0 ÷ 1 ≼ n ÷ m → n ÷ m ≼ (arc_piece side s).from → piece_height (delay_piece side s) n m ≡ path_of side s n m
    delay_to_arc n m i h k = delay_follows n m (omega arith)

    delay_to_last : G ≡ 0 → (n m : ℕ) → 1 ≤ m → 0 ÷ 1 ≼ n ÷ m → n ÷ m ≼ (last_piece side s).from → piece_height (delay_piece side s) n m ≡ path_of side s n m
    delay_to_last z n m i h k = delay_follows n m (up_to a (d s) 0 n m p (omega (arith, ap (λ (g : ℕ). g * m) z)))

    arc_to_last : (n m : ℕ) → 1 ≤ m → (arc_piece side s).from ≼ n ÷ m → n ÷ m ≼ (last_piece side s).from → piece_height (arc_piece side s) n m ≡ path_of side s n m
    arc_to_last n m i h k = arc_follows n m (omega arith) p (until a (d s) G n m k)

    from_last : (n m : ℕ) → 1 ≤ m → (last_piece side s).from ≼ n ÷ m → piece_height (last_piece side s) n m ≡ path_of side s n m
    from_last n m i h = last_follows n m (cancel a (d s) 0 n m p (omega arith)) (since a (d s) G n m h)

    -- at every rational time the piece that holds there is the path
    pub held_follows : (n m : ℕ) → 1 ≤ m → piece_height (piece_at side s (n ÷ m)) n m ≡ path_of side s n m
    held_follows n m i = go (has_begun (last_piece side s) (n ÷ m)) (has_begun (arc_piece side s) (n ÷ m)) refl refl
      where
        go : (l k : Bool) → has_begun (last_piece side s) (n ÷ m) ≡ l → has_begun (arc_piece side s) (n ÷ m) ≡ k → piece_height (cond l (last_piece side s) (cond k (arc_piece side s) (delay_piece side s))) n m ≡ path_of side s n m
        go true k x y = from_last n m i (begun (last_piece side s) (n ÷ m) x)
        go false true x y = let h = to_come (last_piece side s) (n ÷ m) x in arc_to_last n m i (begun (arc_piece side s) (n ÷ m) y) (omega arith)
        go false false x y = let h = to_come (arc_piece side s) (n ÷ m) y in delay_follows n m (omega arith)

    -- ---- the list of pieces, by whether d and G are 0
    abbrev list : Bool → Bool → List WholePiece
    list b c = unless b (delay_piece side s) (unless c (arc_piece side s) (last_piece side s ∷ []))

    starts : (b c : Bool) → eqb (d s) 0 ≡ b → eqb G 0 ≡ c → FromStart (list b c)
    starts true true x y = let z = eqb-true (d s) 0 x in let w = eqb-true G 0 y in omega (arith, ap (λ (k : ℕ). k * a) z)
    starts true false x y = let z = eqb-true (d s) 0 x in omega arith
    starts false true x y = refl
    starts false false x y = refl

    in_order : (b c : Bool) → eqb (d s) 0 ≡ b → eqb G 0 ≡ c → InOrder (list b c)
    in_order true true x y = tt
    in_order true false x y = let w = above_zero G y in (omega arith, tt)
    in_order false true x y = let z = above_zero (d s) x in (omega (arith, mul-le-mul z p), tt)
    in_order false false x y = let z = above_zero (d s) x in let w = above_zero G y in (omega arith, (omega arith, tt))

    follows : (b c : Bool) → eqb G 0 ≡ c → FollowPath side s (list b c)
    follows true true y = from_last
    follows true false y = (arc_to_last, from_last)
    follows false true y = (delay_to_last (eqb-true G 0 y), from_last)
    follows false false y = (delay_to_arc, (arc_to_last, from_last))

    divisors : (b c : Bool) → Divisors (list b c)
    divisors true true = (p, tt)
    divisors true false = (omega arith, (p, tt))
    divisors false true = (omega arith, (p, tt))
    divisors false false = (omega arith, (omega arith, (p, tt)))

    -- without an arc the last piece begins at d
    last_at_delay : G ≡ 0 → lowest (d s * a + G) a ≡ lowest (d s) 1
    last_at_delay z = (lowest_same (d s * a + G) a (d s) 1 p (omega arith)).1 (omega arith)

    meet : (b c : Bool) → eqb G 0 ≡ c → meeting_times (list b c) ≡ cond b (cond c [] (lowest (d s * a + G) a ∷ [])) (lowest (d s) 1 ∷ cond c [] (lowest (d s * a + G) a ∷ []))
    meet true true y = refl
    meet true false y = refl
    meet false true y = ap (λ (t : Time). t ∷ []) (last_at_delay (eqb-true G 0 y))
    meet false false y = refl

    pub right_pieces : RightPieces side s (pieces side s)
    right_pieces =
        let b = eqb (d s) 0 in
        let c = eqb G 0 in
        record {
          start = starts b c refl refl;
          order = in_order b c refl refl;
          follow = follows b c refl;
          agree = agree side s (list b c) (divisors b c) (in_order b c refl refl) (follows b c refl);
          meetings = meet b c refl;
        }

    -- ---- the piece that the tests find is the one that holds
    pub held_holds : (t : Instant) → Holds (pieces side s) (piece_at side s t) t
    held_holds t = go (eqb (d s) 0) (eqb G 0) (has_begun (last_piece side s) t) (has_begun (arc_piece side s) t) refl refl refl refl
      where
        go : (b c l k : Bool) → eqb (d s) 0 ≡ b → eqb G 0 ≡ c → has_begun (last_piece side s) t ≡ l → has_begun (arc_piece side s) t ≡ k
            → Holds (list b c) (cond l (last_piece side s) (cond k (arc_piece side s) (delay_piece side s))) t
        go true true true k x y z w = (refl, begun (last_piece side s) t z)
        go true true false k x y z w =
            let i = eqb-true (d s) 0 x in
            let j = eqb-true G 0 y in
            let h = to_come (last_piece side s) t z in
            absurd (omega (arith, ap (λ (n : ℕ). n * a * t.m) i, ap (λ (n : ℕ). n * t.m) j))
        go true false true k x y z w = inr (refl, begun (last_piece side s) t z)
        go true false false true x y z w = inl (refl, begun (arc_piece side s) t w, to_come (last_piece side s) t z)
        go true false false false x y z w =
            let i = eqb-true (d s) 0 x in
            let h = to_come (arc_piece side s) t w in
            absurd (omega (arith, ap (λ (n : ℕ). n * t.m) i))
        go false true true k x y z w = inr (refl, begun (last_piece side s) t z)
        go false true false true x y z w =
            let j = eqb-true G 0 y in
            let h = to_come (last_piece side s) t z in
            absurd (omega (arith, mul-le-mul_left a (begun (arc_piece side s) t w), ap (λ (n : ℕ). n * t.m) j))
        go false true false false x y z w = inl (refl, omega arith, to_come (last_piece side s) t z)
        go false false true k x y z w = inr (inr (refl, begun (last_piece side s) t z))
        go false false false true x y z w = inr (inl (refl, begun (arc_piece side s) t w, to_come (last_piece side s) t z))
        go false false false false x y z w = inl (refl, omega arith, to_come (arc_piece side s) t w)

    -- ---- which pieces are straights: the delay exactly if e is 0, the arc never, the last always
    pub delay_straight : ((delay_piece side s).square ≡ pos 0) ↔ (e s ≡ 0)
    delay_straight = go side p
      where
        go : (x : Side) → 0 < strength_of x s → ((delay_piece x s).square ≡ pos 0) ↔ (e s ≡ 0)
        go Lower p = (no_negated_product (strength_of Lower s) (e s) p, λ x. no_negation (strength_of Lower s) (e s) x)
        go Upper p = (no_product (strength_of Upper s) (e s) p, times_none (strength_of Upper s) (e s))

    pub arc_bent : ¬ ((arc_piece side s).square ≡ pos 0)
    arc_bent x = let z : a * a ≡ 0 = nat≡ x in omega (arith, mul-le-mul p p)

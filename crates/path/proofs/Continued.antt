-- A path that goes on by another from a whole second w on: its value before and after, its scale, that two valleys may make one, and its pieces, which are the
-- first's up to there and the second's, shifted, after it. Assumes nothing.
use mathlib.Core.Path.{◌≡◌, refl, sym, ap, ◌∙◌}
use mathlib.Core.List.{List, [], ◌∷◌, ◌++◌}
use mathlib.Core.Logic.{◌⊎◌, inl, inr, ⊎_elim}
use Prim.Native.Nat.{ℕ, ◌+◌, ◌*◌, ◌-◌, ◌<◌, ◌≤◌}
use native.Mathlib.Nat.{mul-le-mul_right}
use native.Mathlib.Omega.{arith}
use lib.Dec.{leb, leb→le, nleb→lt}
use lib.IntN.{ℤ, pos, ◌+ℤ◌, ◌*ℤ◌}
use lib.Signed.{◌≤ℤ◌}
use Rattle.integers.proofs.Difference.{cond_by}
use Rattle.integers.proofs.Quotation.{quote}
use Rattle.integers.proofs.Certificates.{ring, modulo, by≤, gap≤, ◌⊠◌, 0≤pos}
use Rattle.integers.proofs.Laws.{≤ℤ-of-≡, ≤ℤ_trans, split≤}
use Rattle.path.specs.Paths.{continued}
use Rattle.path.specs.Instants.{Among}
use Rattle.path.proofs.AdviceRule.{difference_scale}
use Rattle.path.proofs.Pieces.{Pieces, hill, valley, last_hill, last_rise, last_valley, EndsInHill}
use Rattle.path.proofs.Membership.{among_right}

module _ (j : ℕ) (p : ℕ → ℕ → ℤ) (w k : ℕ) (h : ℕ → ℕ → ℤ) (h-zero : (m : ℕ) → h 0 m ≡ pos 0) where
  pub continued_before : (n m : ℕ) → n ≤ w * m → continued j p w k h n m ≡ pos j *ℤ p n m
  unfolding continued
  continued_before n m l = cond_by (leb n (w * m)) _ _ (λ z. z ≡ pos j *ℤ p n m) (λ t. refl) (λ t. absurd (omega (arith, nleb→lt n (w * m) t)))

  pub continued_after : (n m : ℕ) → w * m ≤ n → continued j p w k h n m ≡ pos j *ℤ p (w * m) m +ℤ pos k *ℤ h (n - w * m) m
  unfolding continued
  continued_after n m l = cond_by (leb n (w * m)) _ _ (λ z. z ≡ pos j *ℤ p (w * m) m +ℤ pos k *ℤ h (n - w * m) m)
      (λ t. let i = leb→le n (w * m) t in
      ap (λ (s : ℕ). pos j *ℤ p s m) {x = n} {y = w * m} (omega arith)
      ∙ sym (modulo {x = h (n - w * m) m} {y = pos 0} (pos k) (ap (λ (s : ℕ). h s m) {x = n - w * m} {y = 0} (omega arith) ∙ h-zero m) (ring (j ∷ k ∷ []) (p (w * m) m ∷ h (n - w * m) m ∷ []) (λ v. search quote depth 20) tt)))
      (λ t. refl)

  pub continued_scale : ((n m s : ℕ) → p (n * s) (m * s) ≡ pos s *ℤ pos s *ℤ p n m) → ((n m s : ℕ) → h (n * s) (m * s) ≡ pos s *ℤ pos s *ℤ h n m)
      → (n m s : ℕ) → continued j p w k h (n * s) (m * s) ≡ pos s *ℤ pos s *ℤ continued j p w k h n m
  continued_scale f g n m s = ⊎_elim
      (λ (l : n ≤ w * m).
      continued_before (n * s) (m * s) (omega (arith, mul-le-mul_right s l))
      ∙ modulo (pos j) (f n m s) (ring (j ∷ s ∷ []) (p (n * s) (m * s) ∷ p n m ∷ []) (λ v. search quote depth 20) tt)
      ∙ ap (λ (z : ℤ). pos s *ℤ pos s *ℤ z) (sym (continued_before n m l)))
      (λ (l : w * m < n).
      continued_after (n * s) (m * s) (omega (arith, mul-le-mul_right s l))
      ∙ modulo (pos j) (ap (λ (t : ℕ). p t (m * s)) {x = w * (m * s)} {y = w * m * s} (omega arith) ∙ f (w * m) m s)
      (modulo (pos k) (ap (λ (t : ℕ). h t (m * s)) (difference_scale n (w * m) s (n * s) (w * (m * s)) (omega arith) (omega arith)) ∙ g (n - w * m) m s)
      (ring (j ∷ k ∷ s ∷ []) (p (w * (m * s)) (m * s) ∷ h (n * s - w * (m * s)) (m * s) ∷ p (w * m) m ∷ h (n - w * m) m ∷ []) (λ v. search quote depth 20) tt))
      ∙ ap (λ (z : ℤ). pos s *ℤ pos s *ℤ z) (sym (continued_after n m (omega arith))))
      (split≤ n (w * m))

  pub before_keeps : (m x z : ℕ) → x ≤ w * m → z ≤ w * m → p x m ≤ℤ p z m → continued j p w k h x m ≤ℤ continued j p w k h z m
  before_keeps m x z a b l = ≤ℤ_trans (≤ℤ-of-≡ (continued_before x m a)) (≤ℤ_trans (by≤ (j ∷ []) (p x m ∷ p z m ∷ []) (0≤pos j ⊠ gap≤ l) (λ v. search quote depth 20) tt) (≤ℤ-of-≡ (sym (continued_before z m b))))

  pub after_keeps : (m x z : ℕ) → w * m ≤ x → w * m ≤ z → h (x - w * m) m ≤ℤ h (z - w * m) m → continued j p w k h x m ≤ℤ continued j p w k h z m
  after_keeps m x z a b l = ≤ℤ_trans (≤ℤ-of-≡ (continued_after x m a)) (≤ℤ_trans (by≤ (j ∷ k ∷ []) (p (w * m) m ∷ h (x - w * m) m ∷ h (z - w * m) m ∷ []) (0≤pos k ⊠ gap≤ l) (λ v. search quote depth 20) tt) (≤ℤ-of-≡ (sym (continued_after z m b))))

-- ---- a valley, wherever it turns: falling up to y or rising from y on, at each y
abbrev pub Valley : (ℕ → ℤ) → Type 0
Valley F = (x y z : ℕ) → x ≤ y → y ≤ z → (F y ≤ℤ F x) ⊎ (F y ≤ℤ F z)

abbrev pub Rising : (ℕ → ℤ) → Type 0
Rising F = (x z : ℕ) → x ≤ z → F x ≤ℤ F z

abbrev pub Falling : (ℕ → ℤ) → Type 0
Falling F = (x z : ℕ) → x ≤ z → F z ≤ℤ F x

abbrev pub FallingTo : ℕ → (ℕ → ℤ) → Type 0
FallingTo B F = (x z : ℕ) → x ≤ z → z ≤ B → F z ≤ℤ F x

-- two valleys make one where the slope does not jump from up to down: the first falls to the end of its part, or the second rises from its start
module _ (j : ℕ) (p : ℕ → ℕ → ℤ) (w k : ℕ) (h : ℕ → ℕ → ℤ) (h-zero : (m : ℕ) → h 0 m ≡ pos 0) (m : ℕ) where
  abbrev B : ℕ
  B = w * m

  abbrev before : (x z : ℕ) → x ≤ B → z ≤ B → p x m ≤ℤ p z m → continued j p w k h x m ≤ℤ continued j p w k h z m
  before = before_keeps j p w k h h-zero m

  abbrev after : (x z : ℕ) → B ≤ x → B ≤ z → h (x - B) m ≤ℤ h (z - B) m → continued j p w k h x m ≤ℤ continued j p w k h z m
  after = after_keeps j p w k h h-zero m

  pub joined_valley : Valley (λ n. p n m) → Valley (λ n. h n m) → FallingTo (w * m) (λ n. p n m) ⊎ Rising (λ n. h n m) → Valley (λ n. continued j p w k h n m)
  joined_valley f g (inl down) x y z l i = ⊎_elim
      (λ (o : y ≤ B). inl (before y x o (omega arith) (down x y l o)))
      (λ (o : B < y). ⊎_elim
      (λ (t : x ≤ B). ⊎_elim
      (λ c. inl (≤ℤ_trans (after y B (omega arith) (omega arith) c) (before B x (omega arith) t (down x B t (omega arith)))))
      (λ c. inr (after y z (omega arith) (omega arith) c))
      (g (B - B) (y - B) (z - B) (omega arith) (omega arith)))
      (λ (t : B < x). ⊎_elim
      (λ c. inl (after y x (omega arith) (omega arith) c))
      (λ c. inr (after y z (omega arith) (omega arith) c))
      (g (x - B) (y - B) (z - B) (omega arith) (omega arith)))
      (split≤ x B))
      (split≤ y B)
  joined_valley f g (inr up) x y z l i = ⊎_elim
      (λ (o : y ≤ B). ⊎_elim
      (λ (t : z ≤ B). ⊎_elim
      (λ c. inl (before y x o (omega arith) c))
      (λ c. inr (before y z o t c))
      (f x y z l i))
      (λ (t : B < z). ⊎_elim
      (λ c. inl (before y x o (omega arith) c))
      (λ c. inr (≤ℤ_trans (before y B o (omega arith) c) (after B z (omega arith) (omega arith) (up (B - B) (z - B) (omega arith)))))
      (f x y B l o))
      (split≤ z B))
      (λ (o : B < y). inr (after y z (omega arith) (omega arith) (up (y - B) (z - B) (omega arith))))
      (split≤ y B)

  pub joined_falling : FallingTo (w * m) (λ n. p n m) → Falling (λ n. h n m) → Falling (λ n. continued j p w k h n m)
  joined_falling f g x z l = ⊎_elim
      (λ (o : z ≤ B). before z x o (omega arith) (f x z l o))
      (λ (o : B < z). ⊎_elim
      (λ (t : x ≤ B). ≤ℤ_trans (after z B (omega arith) (omega arith) (g (B - B) (z - B) (omega arith))) (before B x (omega arith) t (f x B t (omega arith))))
      (λ (t : B < x). after z x (omega arith) (omega arith) (g (x - B) (z - B) (omega arith)))
      (split≤ x B))
      (split≤ z B)

-- ---- the second's pieces, B later
abbrev pub later : ℕ → List ℕ → List ℕ
later B [] = []
later B (x ∷ l) = (B + x) ∷ later B l

both : {X Y X' Y' : Type 0} → (X → X') → (Y → Y') → X ⊎ Y → X' ⊎ Y'
both f g (inl a) = inl (f a)
both f g (inr b) = inr (g b)

module _ (P F : ℕ → ℤ) (B : ℕ) (up : (x z : ℕ) → B ≤ x → B ≤ z → P (x - B) ≤ℤ P (z - B) → F x ≤ℤ F z) where
  shifted : {A : ℕ} {l : List ℕ} → Pieces P A l → (C : ℕ) → C ≡ B + A → Pieces F C (later B l)
  shifted (hill {A = A} {B = D} h p) C e = hill (λ (x y z : ℕ) (a : C ≤ x) (i : x ≤ y) (j : y ≤ z) (k : z ≤ B + D). both (up x y (omega arith) (omega arith)) (up z y (omega arith) (omega arith)) (h (x - B) (y - B) (z - B) (omega arith) (omega arith) (omega arith) (omega arith))) (shifted p (B + D) refl)
  shifted (valley {A = A} {B = D} T f r p) C e = valley (B + T)
      (λ (x z : ℕ) (a : C ≤ x) (i : x ≤ z) (j : z ≤ B + T) (k : z ≤ B + D). up z x (omega arith) (omega arith) (f (x - B) (z - B) (omega arith) (omega arith) (omega arith) (omega arith)))
      (λ (x z : ℕ) (a : C ≤ x) (j : B + T ≤ x) (i : x ≤ z) (k : z ≤ B + D). up x z (omega arith) (omega arith) (r (x - B) (z - B) (omega arith) (omega arith) (omega arith) (omega arith)))
      (shifted p (B + D) refl)
  shifted (last_hill {A = A} h) C e = last_hill (λ (x y z : ℕ) (a : C ≤ x) (i : x ≤ y) (j : y ≤ z). both (up x y (omega arith) (omega arith)) (up z y (omega arith) (omega arith)) (h (x - B) (y - B) (z - B) (omega arith) (omega arith) (omega arith)))
  shifted (last_rise {A = A} r) C e = last_rise (λ (x z : ℕ) (a : C ≤ x) (i : x ≤ z). up x z (omega arith) (omega arith) (r (x - B) (z - B) (omega arith) (omega arith)))
  shifted (last_valley {A = A} T b f r) C e = last_valley {A = C} (B + T) (omega arith)
      (λ (x z : ℕ) (a : C ≤ x) (i : x ≤ z) (j : z ≤ B + T). up z x (omega arith) (omega arith) (f (x - B) (z - B) (omega arith) (omega arith) (omega arith)))
      (λ (x z : ℕ) (j : B + T ≤ x) (i : x ≤ z). up x z (omega arith) (omega arith) (r (x - B) (z - B) (omega arith) (omega arith)))

  shifted_ends : {A : ℕ} {l : List ℕ} (p : Pieces P A l) (C : ℕ) (e : C ≡ B + A) → EndsInHill (shifted p C e) → EndsInHill p
  unfolding shifted
  shifted_ends (hill {B = D} h p) C e g = shifted_ends p (B + D) refl g
  shifted_ends (valley {B = D} T f r p) C e g = shifted_ends p (B + D) refl g
  shifted_ends (last_hill h) C e g = tt
  shifted_ends (last_rise r) C e g = g
  shifted_ends (last_valley T b f r) C e g = g

-- ---- the first's pieces up to B, and others from there on
pub record Cut (F : ℕ → ℤ) (A : ℕ) (l : List ℕ) (tail : Type 0) : Type 0 where
  pub marks : List ℕ
  pub pieces : Pieces F A marks
  pub among : (x : ℕ) → Among x marks → Among x l
  pub hilly : EndsInHill pieces → tail

module _ (P F : ℕ → ℤ) (B : ℕ) (up : (x z : ℕ) → x ≤ B → z ≤ B → P x ≤ℤ P z → F x ≤ℤ F z) (k : List ℕ) (rest : Pieces F B k) where
  cut : {A : ℕ} {l : List ℕ} → Pieces P A l → Cut F A (l ++ (B ∷ k)) (EndsInHill rest)
  cut (hill {A = A} {B = D} {l = l} h p) = ⊎_elim
      (λ (d : D ≤ B). let c = cut p in record {
        marks = D ∷ c.marks;
        pieces = hill (λ (x y z : ℕ) (a : A ≤ x) (i : x ≤ y) (j : y ≤ z) (e : z ≤ D). both (up x y (omega arith) (omega arith)) (up z y (omega arith) (omega arith)) (h x y z a i j e)) c.pieces;
        among = λ x. both (λ e. e) (c.among x);
        hilly = c.hilly;
      })
      (λ (d : B < D). record {
        marks = B ∷ k;
        pieces = hill (λ (x y z : ℕ) (a : A ≤ x) (i : x ≤ y) (j : y ≤ z) (e : z ≤ B). both (up x y (omega arith) (omega arith)) (up z y (omega arith) (omega arith)) (h x y z a i j (omega arith))) rest;
        among = λ x m. among_right x (D ∷ l) (B ∷ k) m;
        hilly = λ g. g;
      })
      (split≤ D B)
  cut (valley {A = A} {B = D} {l = l} T f r p) = ⊎_elim
      (λ (d : D ≤ B). let c = cut p in record {
        marks = T ∷ D ∷ c.marks;
        pieces = valley T
            (λ (x z : ℕ) (a : A ≤ x) (i : x ≤ z) (j : z ≤ T) (e : z ≤ D). up z x (omega arith) (omega arith) (f x z a i j e))
            (λ (x z : ℕ) (a : A ≤ x) (j : T ≤ x) (i : x ≤ z) (e : z ≤ D). up x z (omega arith) (omega arith) (r x z a j i e)) c.pieces;
        among = λ x. both (λ e. e) (both (λ e. e) (c.among x));
        hilly = c.hilly;
      })
      (λ (d : B < D). record {
        marks = T ∷ B ∷ k;
        pieces = valley T
            (λ (x z : ℕ) (a : A ≤ x) (i : x ≤ z) (j : z ≤ T) (e : z ≤ B). up z x e (omega arith) (f x z a i j (omega arith)))
            (λ (x z : ℕ) (a : A ≤ x) (j : T ≤ x) (i : x ≤ z) (e : z ≤ B). up x z (omega arith) e (r x z a j i (omega arith))) rest;
        among = λ x. both (λ e. e) (λ m. among_right x (D ∷ l) (B ∷ k) m);
        hilly = λ g. g;
      })
      (split≤ D B)
  cut (last_hill {A = A} h) = record {
    marks = B ∷ k;
    pieces = hill (λ (x y z : ℕ) (a : A ≤ x) (i : x ≤ y) (j : y ≤ z) (e : z ≤ B). both (up x y (omega arith) (omega arith)) (up z y e (omega arith)) (h x y z a i j)) rest;
    among = λ x m. m;
    hilly = λ g. g;
  }
  cut (last_rise {A = A} r) = record {
    marks = B ∷ k;
    pieces = hill (λ (x y z : ℕ) (a : A ≤ x) (i : x ≤ y) (j : y ≤ z) (e : z ≤ B). inl (up x y (omega arith) (omega arith) (r x y a i))) rest;
    among = λ x m. m;
    hilly = λ g. g;
  }
  cut (last_valley {A = A} T b f r) = record {
    marks = T ∷ B ∷ k;
    pieces = valley T
        (λ (x z : ℕ) (a : A ≤ x) (i : x ≤ z) (j : z ≤ T) (e : z ≤ B). up z x e (omega arith) (f x z a i j))
        (λ (x z : ℕ) (a : A ≤ x) (j : T ≤ x) (i : x ≤ z) (e : z ≤ B). up x z (omega arith) e (r x z j i)) rest;
    among = λ x m. m;
    hilly = λ g. g;
  }

-- ---- together
module _ (j : ℕ) (p : ℕ → ℕ → ℤ) (w k : ℕ) (h : ℕ → ℕ → ℤ) (h-zero : (m : ℕ) → h 0 m ≡ pos 0) (M : ℕ) {l l' : List ℕ} (a : Pieces (λ n. p n M) 0 l) (b : Pieces (λ n. h n M) 0 l') where
  pub continued_pieces : Cut (λ n. continued j p w k h n M) 0 (l ++ (w * M ∷ later (w * M) l')) (EndsInHill b)
  continued_pieces =
      let P : ℕ → ℤ = λ n. p n M in
      let F : ℕ → ℤ = λ n. continued j p w k h n M in
      let up = after_keeps j p w k h h-zero M in
      let c = cut P F (w * M) (before_keeps j p w k h h-zero M) (later (w * M) l') (shifted (λ n. h n M) F (w * M) up b (w * M) (omega arith)) a in
      record { marks = c.marks; pieces = c.pieces; among = c.among; hilly = λ g. shifted_ends (λ n. h n M) F (w * M) up b (w * M) (omega arith) (c.hilly g) }

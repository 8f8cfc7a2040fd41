-- A path of pieces, over one denominator: where its least height over a window stands. A piece is a hill, whose least height is at its two ends, or a
-- valley, whose least height is where it turns; so it stands at the window's ends or at a mark, where pieces meet or turn. Assumes nothing.
use mathlib.Core.Path.{refl, subst}
use mathlib.Core.List.{List, [], ◌∷◌}
use mathlib.Core.Logic.{◌⊎◌, inl, inr, ⊎_elim}
use Prim.Native.Nat.{ℕ, ◌+◌, ◌<◌, ◌≤◌}
use native.Mathlib.Omega.{arith}
use lib.IntN.{ℤ}
use lib.Signed.{◌≤ℤ◌}
use Rattle.integers.proofs.Laws.{split≤}
use Rattle.path.specs.Instants.{Among}

-- the pieces of F from A on, and their marks
pub data Pieces (F : ℕ → ℤ) : ℕ → List ℕ → Type 0 where
  hill : {A B : ℕ} {l : List ℕ} → ((x y z : ℕ) → A ≤ x → x ≤ y → y ≤ z → z ≤ B → (F x ≤ℤ F y) ⊎ (F z ≤ℤ F y)) → Pieces F B l → Pieces F A (B ∷ l)
  valley : {A B : ℕ} {l : List ℕ} (T : ℕ) → ((x z : ℕ) → A ≤ x → x ≤ z → z ≤ T → z ≤ B → F z ≤ℤ F x) → ((x z : ℕ) → A ≤ x → T ≤ x → x ≤ z → z ≤ B → F x ≤ℤ F z) → Pieces F B l → Pieces F A (T ∷ B ∷ l)
  -- the last piece has no end
  last_hill : {A : ℕ} → ((x y z : ℕ) → A ≤ x → x ≤ y → y ≤ z → (F x ≤ℤ F y) ⊎ (F z ≤ℤ F y)) → Pieces F A []
  last_rise : {A : ℕ} → ((x z : ℕ) → A ≤ x → x ≤ z → F x ≤ℤ F z) → Pieces F A []
  last_valley : {A : ℕ} (T : ℕ) → A ≤ T → ((x z : ℕ) → A ≤ x → x ≤ z → z ≤ T → F z ≤ℤ F x) → ((x z : ℕ) → T ≤ x → x ≤ z → F x ≤ℤ F z) → Pieces F A (T ∷ [])

-- the last piece, which has no end, is a hill
abbrev pub EndsInHill : {F : ℕ → ℤ} {A : ℕ} {l : List ℕ} → Pieces F A l → Type 0
EndsInHill (hill h p) = EndsInHill p
EndsInHill (valley T f r p) = EndsInHill p
EndsInHill (last_hill h) = Unit {0}
EndsInHill (last_rise r) = ⊥
EndsInHill (last_valley T a f r) = ⊥

-- E stands before a mark
abbrev Before : ℕ → List ℕ → Type 0
Before E [] = ⊥
Before E (x ∷ l) = (E < x) ⊎ Before E l

-- F at the window's start S, at a mark in the window, or at its end E is no higher than at y, so that whatever follows from each of these holds
module _ (F : ℕ → ℤ) (S E y : ℕ) (s : S ≤ y) (e : y ≤ E) (X : Type 0) (kS : F S ≤ℤ F y → X) where
  -- the piece's own part of the window begins at S or at A
  left : (A : ℕ) → A ≤ y → (S ≤ A → F A ≤ℤ F y → X) → (x : ℕ) × (A ≤ x) × (x ≤ y) × (F x ≤ℤ F y → X) × (S ≤ x)
  left A a kA = ⊎_elim (λ (h : A ≤ S). (S, h, s, kS, omega arith)) (λ (h : S < A). (A, omega arith, a, kA (omega arith), omega arith)) (split≤ A S)

  best : {A : ℕ} {l : List ℕ} (p : Pieces F A l) → A ≤ y → (S ≤ A → F A ≤ℤ F y → X) → ((x : ℕ) → Among x l → S ≤ x → x ≤ E → F x ≤ℤ F y → X) → (EndsInHill p ⊎ Before E l → F E ≤ℤ F y → X) → X
  best (hill {A = A} {B = B} h p) a kA k kE = ⊎_elim
      (λ (i : y ≤ B). let x = left A a kA in ⊎_elim
      (λ (j : B ≤ E). ⊎_elim x.3 (λ f. k B (inl refl) (omega arith) j f) (h x.0 y B x.1 x.2 i (omega arith)))
      (λ (j : E < B). ⊎_elim x.3 (λ f. kE (inr (inl j)) f) (h x.0 y E x.1 x.2 e (omega arith)))
      (split≤ B E))
      (λ (i : B < y). best p (omega arith) (λ j f. k B (inl refl) j (omega arith) f) (λ x m. k x (inr m)) (⊎_elim (λ g. kE (inl g)) (λ g. kE (inr (inr g)))))
      (split≤ y B)
  best (valley {A = A} {B = B} T f r p) a kA k kE = ⊎_elim
      (λ (i : y ≤ B). ⊎_elim
      (λ (h : y ≤ T). ⊎_elim
      (λ (j : T ≤ E). ⊎_elim
      (λ (g : T ≤ B). k T (inl refl) (omega arith) j (f y T a h (omega arith) g))
      (λ (g : B < T). k B (inr (inl refl)) (omega arith) (omega arith) (f y B a i (omega arith) (omega arith)))
      (split≤ T B))
      (λ (j : E < T). ⊎_elim
      (λ (g : E ≤ B). kE (inr (inl j)) (f y E a e (omega arith) g))
      (λ (g : B < E). k B (inr (inl refl)) (omega arith) (omega arith) (f y B a i (omega arith) (omega arith)))
      (split≤ E B))
      (split≤ T E))
      (λ (h : T < y). let x = left A a kA in ⊎_elim
      (λ (j : T ≤ x.0). x.3 (r x.0 y x.1 j x.2 i))
      (λ (j : x.0 < T). let sx = x.4 in let ax = x.1 in k T (inl refl) (omega arith) (omega arith) (r T y (omega arith) (omega arith) (omega arith) i))
      (split≤ T x.0))
      (split≤ y T))
      (λ (i : B < y). best p (omega arith) (λ j f. k B (inr (inl refl)) j (omega arith) f) (λ x m. k x (inr (inr m))) (⊎_elim (λ g. kE (inl g)) (λ g. kE (inr (inr (inr g))))))
      (split≤ y B)
  best (last_hill {A = A} h) a kA k kE = let x = left A a kA in ⊎_elim x.3 (λ f. kE (inl tt) f) (h x.0 y E x.1 x.2 e)
  best (last_rise {A = A} r) a kA k kE = let x = left A a kA in x.3 (r x.0 y x.1 x.2)
  best (last_valley {A = A} T b f r) a kA k kE = ⊎_elim
      (λ (h : y ≤ T). ⊎_elim
      (λ (j : T ≤ E). k T (inl refl) (omega arith) j (f y T a h (omega arith)))
      (λ (j : E < T). kE (inr (inl j)) (f y E a e (omega arith)))
      (split≤ T E))
      (λ (h : T < y). ⊎_elim
      (λ (j : T ≤ S). kS (r S y j s))
      (λ (j : S < T). k T (inl refl) (omega arith) (omega arith) (r T y (omega arith) (omega arith)))
      (split≤ T S))
      (split≤ y T)

-- past every mark
sum : List ℕ → ℕ
sum [] = 0
sum (x ∷ l) = x + sum l

past : (E : ℕ) (l : List ℕ) → sum l ≤ E → ¬ Before E l
unfolding sum
past E [] h g = g
past E (x ∷ l) h (inl g) = omega arith
past E (x ∷ l) h (inr g) = past E l (omega arith) g

-- ---- a window from S to E, and one from S on without an end
module _ {F : ℕ → ℤ} {l : List ℕ} (p : Pieces F 0 l) (S y : ℕ) (s : S ≤ y) (X : Type 0) (kS : F S ≤ℤ F y → X) where
  first : S ≤ 0 → F 0 ≤ℤ F y → X
  first h f = kS (subst (λ (z : ℕ). F z ≤ℤ F y) {x = 0} {y = S} (omega arith) f)

  pub least_closed : (E : ℕ) → y ≤ E → ((x : ℕ) → Among x l → S ≤ x → x ≤ E → F x ≤ℤ F y → X) → (F E ≤ℤ F y → X) → X
  least_closed E e k kE = best F S E y s e X kS p (omega arith) first k (λ _. kE)

  pub least_open : ((x : ℕ) → Among x l → S ≤ x → F x ≤ℤ F y → X) → (EndsInHill p → X) → X
  least_open k kH = best F S (y + sum l) y s (omega arith) X kS p (omega arith) first (λ x m i j. k x m i) (⊎_elim (λ h f. kH h) (λ h f. absurd (past (y + sum l) l (omega arith) h)))

-- Certificates: an equation or an order of ℤ, proved by a polynomial identity that computes. `ring` proves an equation; `by≤` and `by<` an
-- order from a certificate, a sum of products that cannot be negative; `div≤` and `div<` one whose two sides have a positive factor.
-- `Lib.antt` teaches their use. Assumes nothing.
use mathlib.Core.Path.{◌≡◌, sym, ap, ◌∙◌, subst}
use mathlib.Core.Bool.{Bool, true, false, not}
use mathlib.Core.List.{List, [], ◌∷◌}
use mathlib.Core.Logic.{◌⊎◌, inl, inr, ⊎_elim}
use Prim.Native.Nat.{ℕ, zero, suc, ◌+◌, ◌*◌, ◌-◌, ◌<◌, ◌≤◌}
use native.Mathlib.Nat.{mul-le-mul_left}
use native.Mathlib.Omega.{arith}
use lib.Dec.{T}
use lib.IntN.{ℤ, pos, negsuc, neg_ℤ, ◌+ℤ◌, ◌-ℤ◌, ◌*ℤ◌, zero-*ℤ}
use lib.Signed.{◌≤ℤ◌, ◌<ℤ◌, lt_z, lt_z_yes, lt_z_no, <ℤ_irrefl}
use Rattle.integers.proofs.Difference.{as_difference, natural, sum, negated, product, to_ℤ≤, to_ℤ<, to-ℤ≡, to_ℕ≤, to_ℕ<, to-ℕ≡}
use Rattle.integers.proofs.Polynomial.{add, neg, lookup, evaluate, monomial, Polynomial, nil, term, value, normalise, leftover, NothingLeft, leftover_absurd, normalise_value, leftover_zero}
use Rattle.integers.proofs.Quotation.{quote, Quoted, Quoted2, Quoted3, Quoted4, quote_sum, quote_product, quote_negation, quote_natural, atoms, Variables, variables}

-- ---- numbers that are not negative: naturals, their sums and products, and what an order leaves between its sides
pub 0≤pos : (n : ℕ) → pos 0 ≤ℤ pos n
0≤pos n = to_ℤ≤ (natural 0) (natural n) (omega arith)

infixl 6 ◌⊞◌
pub ◌⊞◌ : {a b : ℤ} → pos 0 ≤ℤ a → pos 0 ≤ℤ b → pos 0 ≤ℤ (a +ℤ b)
◌⊞◌ {a} {b} h k = to_ℤ≤ (natural 0) (sum (as_difference a) (as_difference b)) (omega (arith, to_ℕ≤ h (natural 0) (as_difference a), to_ℕ≤ k (natural 0) (as_difference b)))

cross : (a b c d : ℕ) → a ≤ b → c ≤ d → b * c + a * d ≤ a * c + b * d
cross a b c d h k = by (b - a) (omega arith)
  where
    by : (x : ℕ) → a + x ≡ b → b * c + a * d ≤ a * c + b * d
    by x e = omega (arith, mul-le-mul_left x k, ap (λ (t : ℕ). t * c) e, ap (λ (t : ℕ). t * d) e)

infixl 7 ◌⊠◌
pub ◌⊠◌ : {a b : ℤ} → pos 0 ≤ℤ a → pos 0 ≤ℤ b → pos 0 ≤ℤ (a *ℤ b)
◌⊠◌ {a} {b} h k = to_ℤ≤ (natural 0) (product (as_difference a) (as_difference b)) (omega (arith, cross (as_difference a).minus (as_difference a).plus (as_difference b).minus (as_difference b).plus (omega (arith, to_ℕ≤ h (natural 0) (as_difference a))) (omega (arith, to_ℕ≤ k (natural 0) (as_difference b)))))

-- b - a is not negative where a ≤ b, and b - a - 1 is not where a < b
pub gap≤ : {a b : ℤ} → a ≤ℤ b → pos 0 ≤ℤ (b -ℤ a)
gap≤ {a} {b} h = to_ℤ≤ (natural 0) (sum (as_difference b) (negated (as_difference a))) (omega (arith, to_ℕ≤ h (as_difference a) (as_difference b)))

pub gap< : {a b : ℤ} → a <ℤ b → pos 0 ≤ℤ (b -ℤ a -ℤ pos 1)
gap< {a} {b} h = to_ℤ≤ (natural 0) (sum (sum (as_difference b) (negated (as_difference a))) (negated (natural 1))) (omega (arith, to_ℕ< h (as_difference a) (as_difference b)))

-- ---- a polynomial that cannot be negative: no coefficient is, and each monomial is of naturals
abbrev pub is_natural : List ℕ → ℕ → Bool
is_natural [] i = false
is_natural (n ∷ ν) zero = true
is_natural (n ∷ ν) (suc i) = is_natural ν i

abbrev pub all_natural : List ℕ → List ℕ → Bool
all_natural ν [] = true
all_natural ν (i ∷ m) = elim (is_natural ν i) [ true ↦ all_natural ν m | false ↦ false ]

abbrev pub safe_term : List ℕ → ℤ → List ℕ → Bool
safe_term ν (pos zero) m = true
safe_term ν (pos (suc n)) m = all_natural ν m
safe_term ν (negsuc n) m = false

-- the terms that may be negative
abbrev pub doubtful : List ℕ → Polynomial → Polynomial
doubtful ν nil = nil
doubtful ν (term k m s) = elim (safe_term ν k m) [ true ↦ doubtful ν s | false ↦ term k m (doubtful ν s) ]

-- ---- soundness of the test
natural_atom : (ν : List ℕ) (σ : List ℤ) (i : ℕ) → T (is_natural ν i) → pos 0 ≤ℤ lookup (atoms ν σ) i
natural_atom [] σ i t = absurd t
natural_atom (n ∷ ν) σ zero t = 0≤pos n
natural_atom (n ∷ ν) σ (suc i) t = natural_atom ν σ i t

natural_monomial : (ν : List ℕ) (σ : List ℤ) (m : List ℕ) → T (all_natural ν m) → pos 0 ≤ℤ monomial m (atoms ν σ)
natural_monomial ν σ [] t = 0≤pos 1
natural_monomial ν σ (i ∷ m) t = go (is_natural ν i) (natural_atom ν σ i) (natural_monomial ν σ m) t
  where
    go : (b : Bool) → (T b → pos 0 ≤ℤ lookup (atoms ν σ) i) → (T (all_natural ν m) → pos 0 ≤ℤ monomial m (atoms ν σ)) → T (elim b [ true ↦ all_natural ν m | false ↦ false ]) → pos 0 ≤ℤ (lookup (atoms ν σ) i *ℤ monomial m (atoms ν σ))
    go true f g s = f tt ⊠ g s
    go false f g s = absurd s

safe_term_holds : (ν : List ℕ) (σ : List ℤ) (k : ℤ) (m : List ℕ) → T (safe_term ν k m) → pos 0 ≤ℤ (k *ℤ monomial m (atoms ν σ))
safe_term_holds ν σ (pos zero) m t = subst (λ (z : ℤ). pos 0 ≤ℤ z) (sym (zero-*ℤ (monomial m (atoms ν σ)))) (0≤pos 0)
safe_term_holds ν σ (pos (suc n)) m t = 0≤pos (suc n) ⊠ natural_monomial ν σ m t
safe_term_holds ν σ (negsuc n) m t = absurd t

doubtful_none : (ν : List ℕ) (σ : List ℤ) (p : Polynomial) → NothingLeft (doubtful ν p) → pos 0 ≤ℤ value p (atoms ν σ)
doubtful_none ν σ nil t = 0≤pos 0
doubtful_none ν σ (term k m s) t = go (safe_term ν k m) (safe_term_holds ν σ k m) (doubtful_none ν σ s) t
  where
    go : (b : Bool) → (T b → pos 0 ≤ℤ (k *ℤ monomial m (atoms ν σ))) → (NothingLeft (doubtful ν s) → pos 0 ≤ℤ value s (atoms ν σ)) → NothingLeft (elim b [ true ↦ doubtful ν s | false ↦ term k m (doubtful ν s) ]) → pos 0 ≤ℤ (k *ℤ monomial m (atoms ν σ) +ℤ value s (atoms ν σ))
    go true f g u = f tt ⊞ g u
    go false f g u = leftover_absurd k m (doubtful ν s) u

-- ---- equations
zero_difference : (a b : ℤ) → a +ℤ neg_ℤ b ≡ pos 0 → a ≡ b
zero_difference a b h = to-ℤ≡ (as_difference a) (as_difference b) (omega (arith, to-ℕ≡ h (sum (as_difference a) (negated (as_difference b))) (natural 0)))

-- The two sides are one polynomial. Example, over the naturals n and m and the integer u:
--   ring (n ∷ m ∷ []) (u ∷ []) (λ v. search quote depth 20) tt : u *ℤ pos (n * m) ≡ pos m *ℤ (u *ℤ pos n)
module _ (ν : List ℕ) (σ : List ℤ) {a b : ℤ} (q : Variables ν σ → Quoted2 (atoms ν σ) a b) where
  pub ring : NothingLeft (leftover (normalise (add (q (variables ν σ)).first.expression (neg (q (variables ν σ)).second.expression)))) → a ≡ b
  ring t = sym x.meaning ∙ zero_difference (evaluate x.expression ρ) (evaluate y.expression ρ) (sym (normalise_value (add x.expression (neg y.expression)) ρ) ∙ leftover_zero (normalise (add x.expression (neg y.expression))) ρ t) ∙ y.meaning
    where
      ρ : List ℤ
      ρ = atoms ν σ

      x : Quoted ρ a
      x = (q (variables ν σ)).first

      y : Quoted ρ b
      y = (q (variables ν σ)).second

-- An equation from another one, e : x ≡ y: a is the polynomial b + k*(x - y). Example, where e : u ≡ q -ℤ pos g:
--   modulo (pos 2) e (ring (g ∷ []) (u ∷ q ∷ []) (λ v. search quote depth 20) tt) : pos 2 *ℤ u ≡ pos 2 *ℤ q -ℤ pos (2 * g)
pub modulo : {a b x y : ℤ} (k : ℤ) → x ≡ y → a ≡ b +ℤ k *ℤ (x -ℤ y) → a ≡ b
modulo {a} {b} {x} {y} k e h = h ∙ subst (λ (t : ℤ). b +ℤ k *ℤ (x -ℤ t) ≡ b) e (ring [] (b ∷ k ∷ x ∷ []) (λ v. search quote depth 20) tt)

-- ---- orders
-- a quoted term whose polynomial has no doubtful monomial is not negative
non_negative : (ν : List ℕ) (σ : List ℤ) {z : ℤ} (q : Quoted (atoms ν σ) z) → NothingLeft (doubtful ν (normalise q.expression)) → pos 0 ≤ℤ z
non_negative ν σ q t = subst (λ (z : ℤ). pos 0 ≤ℤ z) (normalise_value q.expression (atoms ν σ) ∙ q.meaning) (doubtful_none ν σ (normalise q.expression) t)

-- what a certificate s leaves of b - a, and of b - a - 1
abbrev pub rest≤ : {ρ : List ℤ} {a b s : ℤ} → Quoted3 ρ a b s → Quoted ρ (b +ℤ neg_ℤ a +ℤ neg_ℤ s)
rest≤ q = quote_sum (quote_sum q.second (quote_negation q.first)) (quote_negation q.third)

abbrev pub rest< : {ρ : List ℤ} {a b s : ℤ} → Quoted3 ρ a b s → Quoted ρ (b +ℤ neg_ℤ a +ℤ neg_ℤ s +ℤ neg_ℤ (pos 1))
rest< q = quote_sum (rest≤ q) (quote_negation (quote_natural 1 tt))

le_of : (a b s : ℤ) → pos 0 ≤ℤ s → pos 0 ≤ℤ (b +ℤ neg_ℤ a +ℤ neg_ℤ s) → a ≤ℤ b
le_of a b s h k = to_ℤ≤ (as_difference a) (as_difference b) (omega (arith, to_ℕ≤ h (natural 0) (as_difference s), to_ℕ≤ k (natural 0) (sum (sum (as_difference b) (negated (as_difference a))) (negated (as_difference s)))))

lt_of : (a b s : ℤ) → pos 0 ≤ℤ s → pos 0 ≤ℤ (b +ℤ neg_ℤ a +ℤ neg_ℤ s +ℤ neg_ℤ (pos 1)) → a <ℤ b
lt_of a b s h k = to_ℤ< (as_difference a) (as_difference b) (omega (arith, to_ℕ≤ h (natural 0) (as_difference s), to_ℕ≤ k (natural 0) (sum (sum (sum (as_difference b) (negated (as_difference a))) (negated (as_difference s))) (negated (natural 1)))))

module _ (ν : List ℕ) (σ : List ℤ) {a b s : ℤ} (h : pos 0 ≤ℤ s) (q : Variables ν σ → Quoted3 (atoms ν σ) a b s) where
  -- a ≤ b, as b - a is the certificate s and monomials of naturals. Example, where h : a ≤ℤ b:
  --   by≤ (k ∷ []) (a ∷ b ∷ []) (0≤pos k ⊠ gap≤ h) (λ v. search quote depth 20) tt : (pos k *ℤ a) ≤ℤ (pos k *ℤ b)
  pub by≤ : NothingLeft (doubtful ν (normalise (rest≤ (q (variables ν σ))).expression)) → a ≤ℤ b
  by≤ t = le_of a b s h (non_negative ν σ (rest≤ (q (variables ν σ))) t)

  -- a < b, as b - a - 1 is. Example, where h : a <ℤ b:
  --   by< [] (a ∷ b ∷ c ∷ []) (gap< h) (λ v. search quote depth 20) tt : (a +ℤ c) <ℤ (b +ℤ c)
  pub by< : NothingLeft (doubtful ν (normalise (rest< (q (variables ν σ))).expression)) → a <ℤ b
  by< t = lt_of a b s h (non_negative ν σ (rest< (q (variables ν σ))) t)

-- ---- orders whose two sides have a positive factor k
-- the two cases of an order
pub split< : (a b : ℤ) → (a <ℤ b) ⊎ (b ≤ℤ a)
split< a b = go (lt_z a b) (λ t. lt_z_yes t) (λ t. lt_z_no t)
  where
    go : (c : Bool) → (T c → a <ℤ b) → (T (not c) → b ≤ℤ a) → (a <ℤ b) ⊎ (b ≤ℤ a)
    go true f g = inl (f tt)
    go false f g = inr (g tt)

abbrev pub divided≤ : {ρ : List ℤ} {a b s k : ℤ} → Quoted4 ρ a b s k → Quoted ρ (k *ℤ (b +ℤ neg_ℤ a) +ℤ neg_ℤ s)
divided≤ q = quote_sum (quote_product q.fourth (quote_sum q.second (quote_negation q.first))) (quote_negation q.third)

abbrev pub divided< : {ρ : List ℤ} {a b s k : ℤ} → Quoted4 ρ a b s k → Quoted ρ (k *ℤ (b +ℤ neg_ℤ a) +ℤ neg_ℤ s +ℤ neg_ℤ k)
divided< q = quote_sum (divided≤ q) (quote_negation q.fourth)

module _ (a b s k : ℤ) (hk : pos 0 <ℤ k) (hs : pos 0 ≤ℤ s) where
  factor : pos 0 ≤ℤ k
  factor = to_ℤ≤ (natural 0) (as_difference k) (omega (arith, to_ℕ< hk (natural 0) (as_difference k)))

  divided_le : pos 0 ≤ℤ (k *ℤ (b +ℤ neg_ℤ a) +ℤ neg_ℤ s) → a ≤ℤ b
  divided_le h = ⊎_elim (λ y. absurd (<ℤ_irrefl (no y))) (λ y. y) (split< b a)
    where
      no : b <ℤ a → pos 0 <ℤ pos 0
      no y = by< [] (a ∷ b ∷ s ∷ k ∷ []) (gap< hk ⊞ hs ⊞ h ⊞ gap≤ factor ⊠ gap< y) (λ v. search quote depth 20) tt

  divided_lt : pos 0 ≤ℤ (k *ℤ (b +ℤ neg_ℤ a) +ℤ neg_ℤ s +ℤ neg_ℤ k) → a <ℤ b
  divided_lt h = ⊎_elim (λ y. y) (λ y. absurd (<ℤ_irrefl (no y))) (split< a b)
    where
      no : b ≤ℤ a → pos 0 <ℤ pos 0
      no y = by< [] (a ∷ b ∷ s ∷ k ∷ []) (gap< hk ⊞ hs ⊞ h ⊞ gap≤ factor ⊠ gap≤ y) (λ v. search quote depth 20) tt

module _ (ν : List ℕ) (σ : List ℤ) {a b s k : ℤ} (hk : pos 0 <ℤ k) (h : pos 0 ≤ℤ s) (q : Variables ν σ → Quoted4 (atoms ν σ) a b s k) where
  -- a ≤ b, as k*(b - a) is the certificate s and monomials of naturals. Example, where p : pos 0 <ℤ k and h : (k *ℤ a) ≤ℤ (k *ℤ b):
  --   div≤ [] (k ∷ a ∷ b ∷ []) p (gap≤ h) (λ v. search quote depth 20) tt : a ≤ℤ b
  pub div≤ : NothingLeft (doubtful ν (normalise (divided≤ (q (variables ν σ))).expression)) → a ≤ℤ b
  div≤ t = divided_le a b s k hk h (non_negative ν σ (divided≤ (q (variables ν σ))) t)

  -- a < b, as k*(b - a) - k is. Example, where p : 0 < i + j, h : c <ℤ a and l : c <ℤ b:
  --   div< (i ∷ j ∷ []) (a ∷ b ∷ c ∷ x ∷ []) (pos< p) (0≤pos i ⊠ gap< h ⊞ 0≤pos j ⊠ gap< l) .. : c <ℤ x, for x with (i + j)*x = i*a + j*b
  pub div< : NothingLeft (doubtful ν (normalise (divided< (q (variables ν σ))).expression)) → a <ℤ b
  div< t = divided_lt a b s k hk h (non_negative ν σ (divided< (q (variables ν σ))) t)

-- ---- between ℕ and ℤ
pub pos≤ : {m n : ℕ} → m ≤ n → pos m ≤ℤ pos n
pos≤ {m} {n} h = to_ℤ≤ (natural m) (natural n) (omega arith)

pub pos< : {m n : ℕ} → m < n → pos m <ℤ pos n
pos< {m} {n} h = to_ℤ< (natural m) (natural n) (omega arith)

pub nat≤ : {m n : ℕ} → pos m ≤ℤ pos n → m ≤ n
nat≤ {m} {n} h = omega (arith, to_ℕ≤ h (natural m) (natural n))

pub nat< : {m n : ℕ} → pos m <ℤ pos n → m < n
nat< {m} {n} h = omega (arith, to_ℕ< h (natural m) (natural n))

pub nat≡ : {m n : ℕ} → pos m ≡ pos n → m ≡ n
nat≡ {m} {n} h = omega (arith, to-ℕ≡ h (natural m) (natural n))

-- ---- more that is not negative, for certificates
pub 0≤square : (z : ℤ) → pos 0 ≤ℤ (z *ℤ z)
0≤square (pos n) = 0≤pos (n * n)
0≤square (negsuc n) = 0≤pos (suc n * suc n)

-- The search by tests: what it finds passes the test and is the first to, and it finds something where something passes. Assumes nothing.
use Rattle.std.specs.Prelude.{None, Option, Some}
use mathlib.Core.Path.{◌≡◌, refl, sym, subst}
use mathlib.Core.Bool.{Bool, true, false}
use mathlib.Core.List.{List, [], ◌∷◌, ◌++◌}
use mathlib.Core.Logic.{inl, inr, ⊎_elim, ◌↔◌}
use Prim.Native.Nat.{ℕ, zero, suc, ◌+◌, ◌<◌, ◌≤◌}
use native.Mathlib.Omega.{arith}
use lib.Dec.{T}
use Rattle.integers.proofs.Laws.{split≤}
use Rattle.instant.specs.declared.Instant.{Instant}
use Rattle.instant.specs.Order.{◌÷◌, ◌≼◌}
use Rattle.path.specs.Instants.{Among}
use Rattle.path.proofs.Membership.{among_either}
use Rattle.shown.specs.TimeShown.{first_of, first_second}

-- ---- a list in time's order, as far as the instants with C are concerned
abbrev pub Ordered : (Instant → Type 0) → List Instant → Type 0
Ordered C [] = Unit {0}
Ordered C (x ∷ l) = ((y : Instant) → Among y l → C x → C y → x ≼ y) × Ordered C l

pub ordered-++ : (C : Instant → Type 0) (l k : List Instant) → Ordered C l → Ordered C k → ((x y : Instant) → Among x l → Among y k → C x → C y → x ≼ y) → Ordered C (l ++ k)
ordered-++ C [] k o p h = p
ordered-++ C (x ∷ l) k o p h = (λ y i. ⊎_elim (o.0 y) (λ j. h x y (inl refl) j) (among_either y l k i), ordered-++ C l k o.1 p (λ x y i j. h x y (inr i) j))

-- ---- the first of a list
pub record FirstIn (C : Instant → Type 0) (l : List Instant) (t : Instant) : Type 0 where
  pub among : Among t l
  pub passes : C t
  pub first : (x : Instant) → Among x l → C x → t ≼ x

abbrev pub FirstOf : (Instant → Type 0) → List Instant → Option Instant → Type 0
FirstOf C l (Some t) = FirstIn C l t
FirstOf C l None = (x : Instant) → Among x l → ¬ C x

pub first_of_lem : (test : Instant → Bool) (C : Instant → Type 0) → ((x : Instant) → T (test x) ↔ C x) → (l : List Instant) → Ordered C l → FirstOf C l (first_of test l)
first_of_lem test C d [] o = λ x i. absurd i
first_of_lem test C d (y ∷ l) o = go (test y) (d y) (first_of test l) (first_of_lem test C d l o.1)
  where
    go : (b : Bool) → T b ↔ C y → (r : Option Instant) → FirstOf C l r → FirstOf C (y ∷ l) (elim b [ true ↦ Some y | false ↦ r ])
    go true e r h = record {
      among = inl refl;
      passes = e.0 tt;
      first = λ x i c. ⊎_elim (λ q. subst (λ (z : Instant). y ≼ z) (sym q) (omega arith)) (λ j. o.0 x j (e.0 tt) c) i;
    }
    go false e None h = λ x i c. ⊎_elim (λ q. absurd (e.1 (subst C q c))) (λ j. absurd (h x j c)) i
    go false e (Some x) h = record {
      among = inr h.among;
      passes = h.passes;
      first = λ z i c. ⊎_elim (λ q. absurd (e.1 (subst C q c))) (λ j. h.first z j c) i;
    }

-- ---- the first whole second
pub record FirstAt (C : ℕ → Type 0) (t : Instant) : Type 0 where
  pub whole : t.m ≡ 1
  pub passes : C t.n
  pub first : (j : ℕ) → j < t.n → ¬ C j

-- of f seconds from i on, where none before i passes
abbrev pub FirstFrom : (ℕ → Type 0) → ℕ → Option Instant → Type 0
FirstFrom C e (Some t) = FirstAt C t
FirstFrom C e None = (j : ℕ) → j < e → ¬ C j

pub first_second_lem : (test : ℕ → Bool) (C : ℕ → Type 0) → ((j : ℕ) → T (test j) ↔ C j) → (f i : ℕ) → ((j : ℕ) → j < i → ¬ C j) → FirstFrom C (i + f) (first_second test f i)
first_second_lem test C d zero i h = λ j k. h j (omega arith)
first_second_lem test C d (suc f) i h = go (test i) (d i) (first_second_lem test C d f (suc i))
  where
    next : ¬ C i → (j : ℕ) → j < suc i → ¬ C j
    next n j l c = ⊎_elim (λ (m : suc j ≤ i). h j m c) (λ (m : i < suc j). n (subst C {x = j} {y = i} (omega arith) c)) (split≤ (suc j) i)

    go : (b : Bool) → T b ↔ C i → (((j : ℕ) → j < suc i → ¬ C j) → FirstFrom C (suc i + f) (first_second test f (suc i))) → FirstFrom C (i + suc f) (elim b [ true ↦ Some (i ÷ 1) | false ↦ first_second test f (suc i) ])
    go true e k = record { whole = refl; passes = e.0 tt; first = h }
    go false e k = subst (λ (x : ℕ). FirstFrom C x (first_second test f (suc i))) {x = suc i + f} {y = i + suc f} (omega arith) (k (next e.1))

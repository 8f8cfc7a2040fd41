-- The laws of `gcd`: it is a common divisor that every common divisor divides, and it takes out a common factor. By induction on Euclid's steps.
-- Assumes nothing.
use mathlib.Core.Path.{◌≡◌, refl, sym, ap, subst, ◌∙◌}
use Prim.Native.Nat.{ℕ, zero, suc, ◌+◌, ◌*◌, ◌/◌, ◌%◌, ◌≤◌, ◌<◌, ◌∣◌}
use native.Mathlib.Nat.{le_refl, not-suc-le-zero, zero-lt-suc, mul-pos, zero-mul, one-mul, le-mul_of_pos_right, mul-lt-mul_of_pos_right}
use native.Mathlib.Nat.{mod-lt, mod-eq_of_lt, div-add-mod', add-mul-mod_self_left}
use native.Mathlib.Nat.{dvd-mul_right, pos_of_dvd_of_pos}
use native.Mathlib.Omega.{arith}
use Rattle.std.specs.Int.{IsGcd}
use Rattle.std.proofs.lemmas.Nat.Gcd.{IsGcd-from_zero, IsGcd-from_mod}
use Rattle.instant.specs.Lowest.{euclid, gcd}

-- ---- the steps (f and g count steps)

euclid_zero : (f a : ℕ) → euclid f a 0 ≡ a
euclid_zero zero a = refl
euclid_zero (suc f) a = refl

euclid_step : (f a b : ℕ) → 0 < b → euclid (suc f) a b ≡ euclid f b (a % b)
euclid_step f a zero h = absurd (not-suc-le-zero h)
euclid_step f a (suc b) h = refl

-- a remainder by suc b is at most b, so a step leaves one step fewer to do
fewer : (a b : ℕ) {f : ℕ} → suc b ≤ suc f → a % suc b ≤ f
fewer a b h = omega (arith, mod-lt a (zero-lt-suc b))

-- b steps are enough: more give the same
enough : (f g a b : ℕ) → b ≤ f → b ≤ g → euclid f a b ≡ euclid g a b
enough zero g a zero hf hg = sym (euclid_zero g a)
enough zero g a (suc b) hf hg = absurd (not-suc-le-zero hf)
enough (suc f) g a zero hf hg = sym (euclid_zero g a)
enough (suc f) zero a (suc b) hf hg = absurd (not-suc-le-zero hg)
enough (suc f) (suc g) a (suc b) hf hg = enough f g (suc b) (a % suc b) (fewer a b hf) (fewer a b hg)

-- one turn of Euclid's loop
pub gcd_step : (a b : ℕ) → 0 < b → gcd a b ≡ gcd b (a % b)
gcd_step a zero h = absurd (not-suc-le-zero h)
gcd_step a (suc b) h = enough b (a % suc b) (suc b) (a % suc b) (fewer a b (le_refl (suc b))) (le_refl (a % suc b))

-- ---- the greatest common divisor

euclid_greatest : (f a b : ℕ) → b ≤ f → IsGcd a b (euclid f a b)
euclid_greatest zero a zero h = IsGcd-from_zero a 0 refl
euclid_greatest zero a (suc b) h = absurd (not-suc-le-zero h)
euclid_greatest (suc f) a zero h = IsGcd-from_zero a 0 refl
euclid_greatest (suc f) a (suc b) h = IsGcd-from_mod a (suc b) _ (euclid_greatest f (suc b) (a % suc b) (fewer a b h))

pub gcd_greatest : (a b : ℕ) → IsGcd a b (gcd a b)
gcd_greatest a b = euclid_greatest b a b (le_refl b)

pub gcd_pos : (a b : ℕ) → 0 < a → 0 < gcd a b
gcd_pos a b h = pos_of_dvd_of_pos (gcd_greatest a b).0 h

-- ---- a common factor k

module _ (k : ℕ) (k-pos : 0 < k) where
  mod_scale : (a b : ℕ) → 0 < b → a * k % (b * k) ≡ a % b * k
  mod_scale a b h =
      ap (λ (x : ℕ). x % (b * k)) {x = a * k} {y = a % b * k + b * k * (a / b)} (omega (arith, ap (λ (x : ℕ). x * k) (div-add-mod' a b)))
      ∙ add-mul-mod_self_left (a % b * k) (b * k) (a / b)
      ∙ mod-eq_of_lt (mul-lt-mul_of_pos_right (mod-lt a h) k-pos)

  euclid_scale : (f a b : ℕ) → euclid f (a * k) (b * k) ≡ euclid f a b * k
  euclid_scale zero a b = refl
  euclid_scale (suc f) a zero = rw zero-mul
  euclid_scale (suc f) a (suc b) =
      euclid_step f (a * k) (suc b * k) (mul-pos (zero-lt-suc b) k-pos)
      ∙ ap (euclid f (suc b * k)) (mod_scale a (suc b) (zero-lt-suc b))
      ∙ euclid_scale f (suc b) (a % suc b)

  pub gcd_scale : (a b : ℕ) → gcd (a * k) (b * k) ≡ gcd a b * k
  gcd_scale a b = euclid_scale (b * k) a b ∙ ap (λ (g : ℕ). g * k) (enough (b * k) b a b (le-mul_of_pos_right b k-pos) (le_refl b))

-- Euclid's lemma: a divisor of r * x that shares no factor above 1 with r divides x
pub euclids_lemma : (d r x : ℕ) → 0 < d → 0 < x → ((k : ℕ) → k ∣ r → k ∣ d → k ≤ 1) → d ∣ r * x → d ∣ x
euclids_lemma d r x d-pos x_pos apart h =
    let G = gcd_greatest d r in
    let one : gcd d r ≡ 1 = omega (arith, apart (gcd d r) G.1 G.0, gcd_pos d r d-pos) in
    let is_x : gcd (d * x) (r * x) ≡ x = gcd_scale x x_pos d r ∙ ap (λ (g : ℕ). g * x) one ∙ one-mul x in
    subst (λ (g : ℕ). d ∣ g) is_x ((gcd_greatest (d * x) (r * x)).2 d (dvd-mul_right d x) h)

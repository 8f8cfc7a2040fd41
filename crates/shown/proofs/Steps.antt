-- The steps of the code: an instant with a conflict is shown, one without leaves the rest; a window with an end is not searched, and one without an end
-- holds every whole second where it holds 0. Assumes nothing.
use Rattle.std.specs.Prelude.{None, Option, Some}
use Rattle.std.specs.Option.{is_none, option_to_list}
use mathlib.Core.Path.{◌≡◌, refl, sym, ap, ap₂, ◌∙◌, subst}
use mathlib.Core.Bool.{Bool, true, false, ◌&&◌}
use mathlib.Core.List.{List, [], ◌∷◌}
use mathlib.Core.Logic.{⊎_elim}
use Prim.Native.Nat.{ℕ, zero, suc, ◌+◌, ◌<◌, ◌≤◌}
use native.Mathlib.Omega.{arith}
use lib.Dec.{T}
use lib.Ieee.Bits.{is_true}
use lib.Signed.{lt_z_yes}
use denote.Floats.{passes}
use Rattle.integers.proofs.Laws.{split≤}
use Rattle.instant.specs.declared.Instant.{Instant}
use Rattle.instant.specs.Order.{◌÷◌}
use Rattle.path.specs.declared.SensedQuestion.{SensedQuestion}
use Rattle.path.specs.declared.Side.{Side}
use Rattle.path.specs.declared.Side.TheVariants.{Lower, Upper}
use Rattle.path.specs.Window.{window_end}
use Rattle.path.specs.inner.Tests.{in_window, not_beyond, in_conflict}
use Rattle.path.specs.Conflict.{NotBeyond}
use Rattle.path.specs.Instants.{Among}
use Rattle.path.specs.inner.Sizes.{Sized, search_start, search_end}
use Rattle.path.proofs.Decisions.{window_decided, not_beyond_decided}
use Rattle.path.proofs.WindowEnds.{between_window, endless_start_zero, endless_start}
use Rattle.path.proofs.SideProfiles.{Approaches, reaches_end}
use Rattle.path.proofs.WholeSeconds.{none_before}
use Rattle.shown.proofs.SameTests.{second_same}
use Rattle.shown.specs.TimeShown.{first_of, first_second, or_else, approaches, searches, seconds_tried, searched, shown_from}
use Rattle.shown.specs.inner.Steps.{StartTried, InstantsTried, Searchable, first_reached}

-- ---- tests as equations
pub no : (b : Bool) → b ≡ false → ¬ T b
no b e t = subst T e t

pub false_of : (b : Bool) → ¬ T b → b ≡ false
false_of true f = absurd (f tt)
false_of false f = refl

-- ---- one instant more
module _ (test : Instant → Bool) (t : Instant) (l : List Instant) (other : Option Instant) where
  or_hit : test t ≡ true → or_else (first_of test (t ∷ l)) other ≡ Some t
  or_hit e = go (test t) e
    where
      go : (b : Bool) → b ≡ true → or_else (elim b [ true ↦ Some t | false ↦ first_of test l ]) other ≡ Some t
      go true q = refl
      go false q = absurd (no true (sym q) tt)

  or_miss : test t ≡ false → or_else (first_of test (t ∷ l)) other ≡ or_else (first_of test l) other
  or_miss e = go (test t) e
    where
      go : (b : Bool) → b ≡ false → or_else (elim b [ true ↦ Some t | false ↦ first_of test l ]) other ≡ or_else (first_of test l) other
      go true q = absurd (no true q tt)
      go false q = refl

module _ (side : Side) (s : SensedQuestion) (t : Instant) (l : List Instant) where
  pub hit : in_conflict side s t.n t.m ≡ true → Some t ≡ shown_from side s (t ∷ l)
  unfolding shown_from
  hit e = sym (or_hit (λ x. in_conflict side s x.n x.m) t l (searched side s) e)

  pub miss : in_conflict side s t.n t.m ≡ false → shown_from side s l ≡ shown_from side s (t ∷ l)
  unfolding shown_from
  miss e = sym (or_miss (λ x. in_conflict side s x.n x.m) t l (searched side s) e)

module _ (side : Side) (s : SensedQuestion) where
  -- in the window a conflict is the path's alone
  pub inside : (n m : ℕ) → in_window s n m ≡ true → not_beyond side s n m ≡ in_conflict side s n m
  unfolding in_conflict
  inside n m w = ap (λ (b : Bool). b && not_beyond side s n m) (sym w)

  -- and outside it there is none
  pub outside_clear : (n m : ℕ) → in_window s n m ≡ false → in_conflict side s n m ≡ false
  unfolding in_conflict
  outside_clear n m w = ap (λ (b : Bool). b && not_beyond side s n m) w

  -- nothing left but the search
  pub only_search : searched side s ≡ shown_from side s []
  unfolding shown_from
  only_search = refl

  -- no search
  pub no_search : searches side s ≡ false → ◌≡◌ {A = Option Instant} None (searched side s)
  unfolding searched
  no_search e = go (searches side s) e
    where
      go : (b : Bool) → b ≡ false → ◌≡◌ {A = Option Instant} None (elim b [ true ↦ first_second (λ j. in_conflict side s j 1) (seconds_tried side) 0 | false ↦ None ])
      go true q = absurd (no true q tt)
      go false q = refl

  pub ended : (t : Instant) → window_end s ≡ Some t → None ≡ shown_from side s []
  ended t e = no_search (ap (λ (m : Option Instant). is_none m && (in_window s 0 1 && approaches side s)) e) ∙ only_search

  -- where the window has no end
  module _ (endless : window_end s ≡ None) where
    pub searches_is : searches side s ≡ (in_window s 0 1 && approaches side s)
    searches_is = ap (λ (m : Option Instant). is_none m && (in_window s 0 1 && approaches side s)) endless

    pub departing : in_window s 0 1 ≡ true → approaches side s ≡ false → None ≡ searched side s
    departing w e = no_search (searches_is ∙ ap₂ ◌&&◌ w e)

    -- every whole second is in the window where 0 is
    all_in : in_window s 0 1 ≡ true → (j : ℕ) → in_window s j 1 ≡ true
    all_in w j = is_true (in_window s j 1) ((window_decided s j 1).1
        (between_window s 0 1 j 1 (omega arith) ((window_decided s 0 1).0 (passes (in_window s 0 1) w))
        (record { after = endless_start s endless j; before = λ t i. absurd (subst (λ (m : Option Instant). Among t (option_to_list m)) endless i) })))

    at_second : in_window s 0 1 ≡ true → (j : ℕ) → not_beyond side s j 1 ≡ in_conflict side s j 1
    at_second w j = inside j 1 (all_in w j)

    found_is : (f : ℕ) (b : Bool) → b ≡ true → ((j : ℕ) → not_beyond side s j 1 ≡ in_conflict side s j 1) → first_second (λ j. not_beyond side s j 1) f 0 ≡ elim b [ true ↦ first_second (λ j. in_conflict side s j 1) f 0 | false ↦ None ]
    found_is f true e h = second_same (λ j. not_beyond side s j 1) (λ j. in_conflict side s j 1) h f 0
    found_is f false e h = absurd (no true (sym e) tt)

    pub found : in_window s 0 1 ≡ true → approaches side s ≡ true → first_reached side s ≡ searched side s
    unfolding first_reached searched
    found w e = found_is (seconds_tried side) (searches side s) (searches_is ∙ ap₂ ◌&&◌ w e) (at_second w)

    zero_clear : in_window s 0 1 ≡ true → StartTried side s → not_beyond side s 0 1 ≡ false
    zero_clear w h = at_second w 0 ∙ ap (λ (t : Instant). in_conflict side s t.n t.m) (sym (endless_start_zero s endless)) ∙ h

-- ---- the search may begin
pub searchable : (side : Side) (s : SensedQuestion) → window_end s ≡ None → in_window s 0 1 ≡ true → approaches side s ≡ true → InstantsTried side s → Searchable side s
searchable Lower s e w a h = record { approach = a; zero = zero_clear Lower s e w h.0; start = at_second Lower s e w s.delay ∙ h.1 }
searchable Upper s e w a h = record { approach = a; zero = zero_clear Upper s e w h; start = zero_clear Upper s e w h }

-- ---- its invariant: lo is clear, hi is not
pub record Bracket (side : Side) (s : SensedQuestion) (lo hi : ℕ) : Type 0 where
  pub from : search_start side s ≤ lo
  pub less : lo < hi
  pub till : hi ≤ search_end side s
  pub clear : not_beyond side s lo 1 ≡ false
  pub reached : not_beyond side s hi 1 ≡ true

approaching : (side : Side) (s : SensedQuestion) → approaches side s ≡ true → Approaches side s
approaching Lower s e = lt_z_yes (passes (approaches Lower s) e)
approaching Upper s e = lt_z_yes (passes (approaches Upper s) e)

start_before_end : (side : Side) (s : SensedQuestion) → search_start side s < search_end side s
start_before_end Lower s = omega arith
start_before_end Upper s = omega arith

pub bracket_start : (side : Side) (s : SensedQuestion) → Sized side s → Searchable side s → Bracket side s (search_start side s) (search_end side s)
bracket_start side s z h = record {
  from = omega arith;
  less = start_before_end side s;
  till = omega arith;
  clear = h.start;
  reached = is_true (not_beyond side s (search_end side s) 1) ((not_beyond_decided side s (search_end side s) 1).1 (reaches_end side s z (approaching side s h.approach)));
}

first_is : (test : ℕ → Bool) (f i r : ℕ) → i ≤ r → r < i + f → ((j : ℕ) → j < r → test j ≡ false) → test r ≡ true → first_second test f i ≡ Some (r ÷ 1)
first_is test zero i r l h n y = absurd (omega arith)
first_is test (suc f) i r l h n y = ⊎_elim
    (λ (g : r ≤ i). let e : i ≡ r = omega arith in picks (test i) (ap test e ∙ y) ∙ ap (λ (k : ℕ). Some (k ÷ 1)) e)
    (λ (g : i < r). skips (test i) (n i g) ∙ first_is test f (suc i) r g (omega arith) n y)
    (split≤ r i)
  where
    picks : (b : Bool) → b ≡ true → elim b [ true ↦ Some (i ÷ 1) | false ↦ first_second test f (suc i) ] ≡ Some (i ÷ 1)
    picks true e = refl
    picks false e = absurd (no true (sym e) tt)

    skips : (b : Bool) → b ≡ false → elim b [ true ↦ Some (i ÷ 1) | false ↦ first_second test f (suc i) ] ≡ first_second test f (suc i)
    skips true e = absurd (no true e tt)
    skips false e = refl

-- the definition tries seconds enough
pub enough : (side : Side) (s : SensedQuestion) → Sized side s → search_end side s < seconds_tried side
enough Lower s z = omega (arith, z.d_hi)
enough Upper s z = omega arith

-- where lo and hi meet, hi is the first
pub bracket_found : (side : Side) (s : SensedQuestion) → Sized side s → Searchable side s → (lo hi : ℕ) → Bracket side s lo hi → hi ≤ lo + 1 → first_reached side s ≡ Some (hi ÷ 1)
unfolding first_reached
bracket_found side s z h lo hi b l =
    let clear : (j : ℕ) → not_beyond side s j 1 ≡ false → ¬ NotBeyond side s j 1 = λ j e c. no (not_beyond side s j 1) e ((not_beyond_decided side s j 1).1 c) in
    first_is (λ j. not_beyond side s j 1) (seconds_tried side) 0 hi (omega arith) (omega (arith, enough side s z, b.till))
    (λ j i. false_of (not_beyond side s j 1) (λ t. none_before side s (approaching side s h.approach) (clear 0 h.zero) (clear (search_start side s) h.start) lo b.from (clear lo b.clear) j (omega (arith, b.less)) ((not_beyond_decided side s j 1).0 t)))
    b.reached

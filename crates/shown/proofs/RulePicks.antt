-- The time shown is the moment that document 01's rule picks; where it is an instant, that is a conflict time, and where it is none, no conflict time
-- exists. The instants stand in time's order; a conflict anywhere gives one among them, or a search that ends (crate `path`). Assumes nothing.
use Rattle.std.specs.Prelude.{None, Option, Some}
use Rattle.std.specs.Option.{is_none, option_to_list}
use mathlib.Core.Path.{◌≡◌, refl, sym, subst}
use mathlib.Core.Bool.{Bool, true, false, not, ◌&&◌}
use mathlib.Core.Logic.{inl, inr, ⊎_elim}
use Prim.Native.Nat.{ℕ, ◌+◌, ◌*◌, ◌<◌, ◌≤◌}
use native.Mathlib.Omega.{arith}
use lib.Dec.{T}
use lib.Ieee.Fits.{and_i, and_l}
use lib.IntN.{ℤ, pos, negsuc, neg_ℤ}
use Rattle.integers.specs.Extremes.{max0}
use Rattle.instant.specs.declared.Instant.{Instant}
use Rattle.instant.specs.Order.{◌÷◌, ◌≼◌}
use Rattle.path.specs.declared.SensedQuestion.{SensedQuestion}
use Rattle.path.specs.declared.Side.{Side}
use Rattle.path.specs.declared.Side.TheVariants.{Lower, Upper}
use Rattle.path.specs.Paths.{u_d}
use Rattle.path.specs.Window.{Window, window_end}
use Rattle.path.specs.inner.Tests.{in_window, in_conflict}
use Rattle.path.specs.Conflict.{Conflict, ConflictTime, ConflictExists}
use Rattle.path.specs.Instants.{Among, turning_instant, path_instants, instants}
use Rattle.path.specs.inner.Sizes.{Sized, search_end}
use Rattle.path.proofs.Membership.{among_one}
use Rattle.path.proofs.Decisions.{window_decided, conflict_decided}
use Rattle.path.proofs.WindowEnds.{window_between, endless_start}
use Rattle.path.proofs.SideProfiles.{Approaches, Hit, Endless, conflict_instant, instants_divisor, reaches_end}
use Rattle.shown.specs.TimeRule.{NoneConflicts, Picks}
use Rattle.shown.specs.TimeShown.{first_of, first_second, or_else, approaches, searches, seconds_tried, searched, shown_from, time_shown}
use Rattle.shown.proofs.Steps.{enough}
use Rattle.shown.proofs.FirstOf.{Ordered, ordered-++, FirstOf, first_of_lem, FirstFrom, first_second_lem}

-- ---- the instants stand in time's order
module _ (side : Side) (s : SensedQuestion) where
  abbrev C : Instant → Type 0
  C t = Conflict side s t.n t.m

  before_end : (x y : Instant) → C x → Among y (option_to_list (window_end s)) → x ≼ y
  before_end x y c i = (window_between s x.n x.m c.window).before y i

  one_ordered : (m : Option Instant) → Ordered C (option_to_list m)
  one_ordered None = tt
  one_ordered (Some t) = (λ y i. absurd i, tt)

  delay_turning : (q : ℤ) (y : Instant) → Among y (option_to_list (turning_instant q s.strength s.delay (u_d s))) → s.delay ÷ 1 ≼ y
  delay_turning (pos q) y i = among_one (λ x. s.delay ÷ 1 ≼ x) (s.delay * s.strength + max0 (neg_ℤ (u_d s)) ÷ s.strength) y (omega arith) i
  delay_turning (negsuc q) y i = absurd i

  path_ordered : (side' : Side) → Ordered C (path_instants side' s)
  path_ordered Lower = (λ y i cx cy. delay_turning s.target y i, one_ordered (turning_instant s.target s.strength s.delay (u_d s)))
  path_ordered Upper = tt

  instants_ordered : Ordered C (instants side s)
  instants_ordered = (
    λ y i cx cy. (window_between s y.n y.m cy.window).after,
    ordered-++ C (path_instants side s) (option_to_list (window_end s)) (path_ordered side) (one_ordered (window_end s)) (λ x y i j cx cy. before_end x y cx j),
  )

-- ---- the tests of the search
approaches_decided : (side : Side) (s : SensedQuestion) → Approaches side s → T (approaches side s)
approaches_decided Lower s h = h.lt
approaches_decided Upper s h = h.lt

never_is : (m : Option Instant) → T (is_none m) → m ≡ None
never_is (Some t) h = absurd h
never_is None h = refl

is_never_lem : (m : Option Instant) → m ≡ None → T (is_none m)
is_never_lem m e = subst (λ (x : Option Instant). T (is_none x)) (sym e) tt

module _ (side : Side) (s : SensedQuestion) (z : Sized side s) where
  -- where the instants have no conflict, and the search, if there is one, found none, no time has one
  none_at_all : NoneConflicts side s → (T (searches side s) → ¬ Conflict side s (search_end side s) 1) → (n m : ℕ) → 0 < m → ¬ Conflict side s n m
  none_at_all none search n m pm c = ⊎_elim
      (λ (h : Hit side s). none h.t h.among h.conflict)
      (λ (e : Endless side s).
      let at : (j : ℕ) → Window s j 1 = λ j. e.inside j (endless_start s e.endless j) in
      search (and_i (is_none (window_end s)) (in_window s 0 1 && approaches side s) (is_never_lem (window_end s) e.endless)
      (and_i (in_window s 0 1) (approaches side s) ((window_decided s 0 1).1 (at 0)) (approaches_decided side s e.approaches)))
      (record { window = at (search_end side s); vertical = reaches_end side s z e.approaches }))
      (conflict_instant side s z n m pm c)

  -- what the rule picks, and that without a moment no time has a conflict
  pub record Right (m : Option Instant) : Type 0 where
    pub picks : Picks side s m
    pub none : m ≡ None → (n d : ℕ) → 0 < d → ¬ Conflict side s n d

  shown_first : (t : Instant) (other : Option Instant) → FirstOf (C side s) (instants side s) (Some t) → Right (Some t)
  shown_first t other h = record { picks = inl (record { among = h.among; conflict = h.passes; first = h.first }); none = λ e. absurd (subst (λ (m : Option Instant). T (not (is_none m))) e tt) }

  shown_never : NoneConflicts side s → (T (searches side s) → ¬ Conflict side s (search_end side s) 1) → Right None
  shown_never none search = record { picks = (none, λ e j. none_at_all none search j 1 (omega arith)); none = λ e. none_at_all none search }

  shown_second : NoneConflicts side s → T (searches side s) → (f : ℕ) → search_end side s < f → (m : Option Instant) → FirstFrom (λ j. Conflict side s j 1) (0 + f) m → Right m
  shown_second none t f l (Some x) h = record {
    picks = inr (record { none = none; endless = never_is (window_end s) (and_l (is_none (window_end s)) (in_window s 0 1 && approaches side s) t); whole = h.whole; conflict = h.passes; first = h.first });
    none = λ e. absurd (subst (λ (m : Option Instant). T (not (is_none m))) e tt);
  }
  shown_second none t f l None h = shown_never none (λ _. h (search_end side s) (omega arith))

  shown_searched : NoneConflicts side s → (f : ℕ) → search_end side s < f → (b : Bool) → searches side s ≡ b → Right (elim b [ true ↦ first_second (λ j. in_conflict side s j 1) f 0 | false ↦ None ])
  shown_searched none f l true e =
      shown_second none (subst T (sym e) tt) f l (first_second (λ j. in_conflict side s j 1) f 0)
      (first_second_lem (λ j. in_conflict side s j 1) (λ j. Conflict side s j 1) (λ j. conflict_decided s j 1 side) f 0 (λ j k. absurd (omega arith)))
  shown_searched none f l false e = shown_never none (λ t. absurd (subst T e t))

  shown_either : (f : ℕ) → search_end side s < f → (m : Option Instant) → FirstOf (C side s) (instants side s) m → Right (or_else m (elim (searches side s) [ true ↦ first_second (λ j. in_conflict side s j 1) f 0 | false ↦ None ]))
  shown_either f l (Some t) h = shown_first t None h
  shown_either f l None h = shown_searched h f l (searches side s) refl

shown_right : (side : Side) (s : SensedQuestion) (z : Sized side s) → Right side s z (time_shown side s)
unfolding time_shown shown_from searched
shown_right side s z =
    shown_either side s z (seconds_tried side) (enough side s z) (first_of (λ t. in_conflict side s t.n t.m) (instants side s))
    (first_of_lem (λ t. in_conflict side s t.n t.m) (C side s) (λ t. conflict_decided s t.n t.m side) (instants side s) (instants_ordered side s))

-- ---- the theorems
module _ (side : Side) (s : SensedQuestion) (z : Sized side s) where
  -- the form that computes agrees with the rule
  pub rule_picks : Picks side s (time_shown side s)
  rule_picks = (shown_right side s z).picks

  -- without a time shown there is no conflict time
  pub never_none : time_shown side s ≡ None → ¬ ConflictExists side s
  never_none e c = (shown_right side s z).none e c.0.n c.0.m c.1.divisor c.1.conflict

  -- a time shown is a conflict time
  picked_conflict : (t : Instant) → Picks side s (Some t) → ConflictTime side s t
  picked_conflict t (inl e) = record { divisor = instants_divisor side s z t e.among; conflict = e.conflict }
  picked_conflict t (inr e) = record { divisor = subst (λ (x : ℕ). 1 ≤ x) (sym e.whole) (omega arith); conflict = subst (λ (x : ℕ). Conflict side s t.n x) (sym e.whole) e.conflict }

  pub shown_conflict : (t : Instant) → time_shown side s ≡ Some t → ConflictTime side s t
  shown_conflict t e = picked_conflict t (subst (Picks side s) e rule_picks)

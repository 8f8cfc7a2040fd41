-- What the window's start decides: a window that does not hold it is empty, and one that does holds its end. And what the turning instant decides: the
-- path rises from there on, so where it is beyond the puck's edge at a later time, it stays so, and its lowest point leaves what there is to show.
-- Assumes nothing.
use Rattle.std.specs.Prelude.{None, Option, Some}
use Rattle.std.specs.Option.{is_none, option_to_list}
use mathlib.Core.Path.{◌≡◌, refl, sym, ap, ◌∙◌, subst}
use mathlib.Core.Bool.{Bool, true, false, cond, ◌&&◌}
use mathlib.Core.List.{List, [], ◌∷◌, ◌++◌}
use mathlib.Core.Logic.{inl, inr, ⊎_elim}
use Prim.Native.Nat.{ℕ, ◌+◌, ◌*◌, ◌<◌, ◌≤◌}
use native.Mathlib.Omega.{arith}
use lib.IntN.{ℤ, pos, negsuc, neg_ℤ}
use lib.Ieee.Bits.{is_true}
use lib.Signed.{◌≤ℤ◌, lt_z_yes, clash_ℤ}
use denote.Floats.{passes}
use Rattle.std.specs.Bool.{then_some}
use Rattle.integers.specs.Extremes.{max0}
use Rattle.integers.proofs.Certificates.{pos≤, split<}
use Rattle.instant.specs.declared.Instant.{Instant}
use Rattle.instant.specs.Order.{◌÷◌, ◌≼◌, no_later}
use Rattle.instant.proofs.TimeOrder.{≼_refl, ≼_trans, no_later_true}
use Rattle.path.specs.declared.SensedQuestion.{SensedQuestion}
use Rattle.path.specs.declared.Side.{Side}
use Rattle.path.specs.declared.Side.TheVariants.{Lower, Upper}
use Rattle.path.specs.Paths.{u_d, lower_path, upper_target}
use Rattle.path.specs.Window.{Window, window_start, window_end}
use Rattle.path.specs.inner.Tests.{in_window, opening, not_beyond, in_conflict}
use Rattle.path.specs.Conflict.{lower_edge, NotBeyond, Conflict}
use Rattle.path.specs.Instants.{Among, turning_instant, path_instants, instants}
use Rattle.path.specs.inner.Sizes.{Sizes, Sized}
use Rattle.path.proofs.Membership.{among_one}
use Rattle.path.proofs.Decisions.{window_decided, not_beyond_decided, conflict_decided}
use Rattle.path.proofs.WindowEnds.{window_between, between_window, window_start_divisor, window_end_divisor, endless_start_zero}
use Rattle.path.proofs.Profile.{scaled_up}
use Rattle.path.proofs.SideProfiles.{lower_scale, lower_edge_scale, instants_divisor}
use Rattle.path.proofs.Risen.{risen, fallen}
use Rattle.shown.specs.TimeShown.{approaches, searches, searched, shown_from, time_shown}
use Rattle.shown.specs.declared.LowestPoint.{LowestPoint}
use Rattle.shown.specs.declared.LowestPoint.TheVariants.{Passed, Inside, Beyond}
use Rattle.shown.specs.inner.Steps.{Opened, StartTried, shown_at, turning_of, lowest_by, lowest_point}
use Rattle.shown.proofs.Steps.{no, false_of, inside, outside_clear, hit, miss, no_search, only_search, ended, searches_is}

-- where no instant of a list has a conflict, and nothing is searched, nothing is shown
none_shown : (side : Side) (s : SensedQuestion) (l : List Instant) → ((x : Instant) → Among x l → ¬ Conflict side s x.n x.m) → searches side s ≡ false → None ≡ shown_from side s l
none_shown side s [] h e = no_search side s e ∙ only_search side s
none_shown side s (x ∷ l) h e = none_shown side s l (λ y i. h y (inr i)) e
    ∙ miss side s x l (false_of (in_conflict side s x.n x.m) (λ t. h x (inl refl) ((conflict_decided s x.n x.m side).0 t)))

module _ (s : SensedQuestion) where
  -- ---- a window with a time holds its start
  start_in : (n m : ℕ) → 0 < m → Window s n m → Window s (window_start s).n (window_start s).m
  start_in n m pm w =
      let b = window_between s n m w in
      between_window s n m (window_start s).n (window_start s).m pm w (record { after = ≼_refl (window_start s); before = λ t i. ≼_trans (window_start s) (n ÷ m) t pm b.after (b.before t i) })

  unopened : (side : Side) → Sized side s → in_window s (window_start s).n (window_start s).m ≡ false → None ≡ time_shown side s
  unfolding time_shown
  unopened side z e = none_shown side s (instants side s)
      (λ x i c. no (in_window s (window_start s).n (window_start s).m) e ((window_decided s (window_start s).n (window_start s).m).1 (start_in x.n x.m (instants_divisor side s z x i) c.window)))
      (not_searched (window_end s) refl)
    where
      not_searched : (m : Option Instant) → window_end s ≡ m → searches side s ≡ false
      not_searched (Some t) q = ap (λ (m : Option Instant). is_none m && (in_window s 0 1 && approaches side s)) q
      not_searched None q = searches_is side s q ∙ ap (λ (b : Bool). b && approaches side s) (ap (λ (t : Instant). in_window s t.n t.m) (sym (endless_start_zero s q)) ∙ e)

  pub opened_at : (t : Instant) → opening s ≡ Some t → (t ≡ window_start s) × Opened s
  unfolding opening
  opened_at t e = go (in_window s (window_start s).n (window_start s).m) refl e
    where
      go : (b : Bool) → in_window s (window_start s).n (window_start s).m ≡ b → then_some b (window_start s) ≡ Some t → (t ≡ window_start s) × Opened s
      go true o h = (cc, o)
      go false o h = cc

  pub empty_shown : (side : Side) → Sized side s → opening s ≡ None → None ≡ time_shown side s
  unfolding opening
  empty_shown side z e = go (in_window s (window_start s).n (window_start s).m) refl e
    where
      go : (b : Bool) → in_window s (window_start s).n (window_start s).m ≡ b → then_some b (window_start s) ≡ None → None ≡ time_shown side s
      go true o h = cc
      go false o h = unopened side z o

  -- ---- and, with it, its end, or without one every whole second
  module _ (o : Opened s) where
    start_window : Window s (window_start s).n (window_start s).m
    start_window = (window_decided s (window_start s).n (window_start s).m).0 (passes (in_window s (window_start s).n (window_start s).m) o)

    pub end_in : (t : Instant) → window_end s ≡ Some t → in_window s t.n t.m ≡ true
    end_in t e =
        let i : Among t (option_to_list (window_end s)) = subst (λ (m : Option Instant). Among t (option_to_list m)) (sym e) (inl refl) in
        is_true (in_window s t.n t.m) ((window_decided s t.n t.m).1
        (between_window s (window_start s).n (window_start s).m t.n t.m (window_start_divisor s) start_window (record {
          after = (window_between s (window_start s).n (window_start s).m start_window).before t i;
          before = λ x j. among_one (λ y. t ≼ y) t x (≼_refl t) (subst (λ (m : Option Instant). Among x (option_to_list m)) e j);
        })))

    pub zero_in : window_end s ≡ None → in_window s 0 1 ≡ true
    zero_in e = ap (λ (t : Instant). in_window s t.n t.m) (sym (endless_start_zero s e)) ∙ o

    -- so at the end a conflict is the path's alone
    pub end_shown : (side : Side) (t : Instant) → window_end s ≡ Some t → shown_at side s t ≡ shown_from side s (option_to_list (window_end s))
    unfolding shown_at
    end_shown side t e = go (not_beyond side s t.n t.m) refl ∙ ap (λ (m : Option Instant). shown_from side s (option_to_list m)) (sym e)
      where
        go : (b : Bool) → not_beyond side s t.n t.m ≡ b → then_some b t ≡ shown_from side s (t ∷ [])
        go true h = hit side s t [] (sym (inside side s t.n t.m (end_in t e)) ∙ h)
        go false h = ended side s t e ∙ miss side s t [] (sym (inside side s t.n t.m (end_in t e)) ∙ h)

    -- a window that starts no earlier than d has d at most as its start
    pub late_start : StartTried Lower s → s.delay * (window_start s).m ≤ (window_start s).n → in_conflict Lower s s.delay 1 ≡ false
    late_start h l = false_of (in_conflict Lower s s.delay 1) (λ k.
        let c = (conflict_decided s s.delay 1 Lower).0 k in
        no (in_conflict Lower s (window_start s).n (window_start s).m) h ((conflict_decided s (window_start s).n (window_start s).m Lower).1 (record { window = start_window; vertical = same c.window c.vertical })))
      where
        same : Window s s.delay 1 → NotBeyond Lower s s.delay 1 → NotBeyond Lower s (window_start s).n (window_start s).m
        same w c =
            let after = (window_between s s.delay 1 w).after in
            subst (λ (t : Instant). lower_path s t.n t.m ≤ℤ lower_edge s t.m) {x = s.delay * (window_start s).m ÷ (1 * (window_start s).m)} {y = window_start s}
            (ap (λ (n : ℕ). n ÷ (1 * (window_start s).m)) {x = s.delay * (window_start s).m} {y = (window_start s).n} (omega arith) ∙ ap (λ (m : ℕ). (window_start s).n ÷ m) {x = 1 * (window_start s).m} {y = (window_start s).m} (omega arith))
            (scaled_up (window_start s).m (lower_scale s s.delay 1 (window_start s).m) (lower_edge_scale s 1 (window_start s).m) c)

    -- without an end the search is left
    pub search_shown : (side : Side) → window_end s ≡ None → searched side s ≡ shown_from side s (option_to_list (window_end s))
    search_shown side e = only_search side s ∙ ap (λ (m : Option Instant). shown_from side s (option_to_list m)) (sym e)

  -- ---- the window's first time is tried first
  module _ (t : Instant) (e : opening s ≡ Some t) (side : Side) where
    at_start : not_beyond side s t.n t.m ≡ in_conflict side s (window_start s).n (window_start s).m
    at_start = ap (λ (x : Instant). not_beyond side s x.n x.m) (opened_at t e).0 ∙ inside side s (window_start s).n (window_start s).m (opened_at t e).1

    pub first_tried : not_beyond side s t.n t.m ≡ false → StartTried side s
    first_tried h = sym at_start ∙ h

    pub first_hit : not_beyond side s t.n t.m ≡ true → Some t ≡ time_shown side s
    unfolding time_shown
    first_hit h = ap Some (opened_at t e).0 ∙ hit side s (window_start s) (path_instants side s ++ option_to_list (window_end s)) (sym at_start ∙ h)

    pub first_miss : not_beyond side s t.n t.m ≡ false → shown_from side s (path_instants side s ++ option_to_list (window_end s)) ≡ time_shown side s
    unfolding time_shown
    first_miss h = miss side s (window_start s) (path_instants side s ++ option_to_list (window_end s)) (first_tried h)

  -- ---- from the turning instant on
  turned : (q : ℤ) (a d : ℕ) (x : ℤ) (t : Instant) → turning_instant q a d x ≡ Some t → (pos 0 ≤ℤ q) × (d * a + max0 (neg_ℤ x) ÷ a ≡ t)
  turned (pos q) a d x t e = (pos≤ {m = 0} {n = q} (omega arith), cc)
  turned (negsuc q) a d x t e = cc

  -- a path that does not approach is not searched
  departing : (side : Side) → approaches side s ≡ false → searches side s ≡ false
  departing side = none (is_none (window_end s)) (in_window s 0 1) (approaches side s)
    where
      none : (a b c : Bool) → c ≡ false → (a && (b && c)) ≡ false
      none true true c h = h
      none true false c h = refl
      none false b c h = refl

  -- an upper path that does not approach falls throughout: clear at the window's start, it is clear
  pub fallen_shown : approaches Upper s ≡ false → Opened s → StartTried Upper s → None ≡ shown_from Upper s (option_to_list (window_end s))
  fallen_shown e o h =
      let target : upper_target s ≤ℤ pos 0 = ⊎_elim (λ l. absurd (no (approaches Upper s) e l.lt)) (λ l. l) (split< (pos 0) (upper_target s)) in
      none_shown Upper s (option_to_list (window_end s))
      (λ y i c. no (in_conflict Upper s (window_start s).n (window_start s).m) h ((conflict_decided s (window_start s).n (window_start s).m Upper).1 (record {
        window = start_window o;
        vertical = fallen s target (window_start s) y (window_end_divisor s y i) (window_between s y.n y.m c.window).after c.vertical;
      })))
      (departing Upper e)

  module _ (z : Sizes s) (t : Instant) (e : turning_of s ≡ Some t) where
    departs : searches Lower s ≡ false
    departs = departing Lower (false_of (approaches Lower s) (λ k. clash_ℤ (lt_z_yes k) (turned s.target s.strength s.delay (u_d s) t e).0))

    -- beyond the edge at x, no earlier than t, and so from there on
    risen_shown : (x : Instant) → 0 < x.m → t ≼ x → ¬ NotBeyond Lower s x.n x.m → (l : List Instant) → ((y : Instant) → Among y l → (0 < y.m) × (Conflict Lower s y.n y.m → x ≼ y)) → None ≡ shown_from Lower s l
    risen_shown x px l h k f =
        let q = turned s.target s.strength s.delay (u_d s) t e in
        none_shown Lower s k (λ y i c. h (risen s z.a_lo q.0 x y px (f y i).0 (subst (λ (v : Instant). v ≼ x) (sym q.1) l) ((f y i).1 c) c.vertical)) departs

    positive : 0 < t.m
    positive = subst (λ (v : Instant). 0 < v.m) (turned s.target s.strength s.delay (u_d s) t e).1 z.a_lo

    divisors : (y : Instant) → Among y (t ∷ option_to_list (window_end s)) → 0 < y.m
    divisors y i = ⊎_elim (λ g. subst (λ (v : Instant). 0 < v.m) (sym g) positive) (window_end_divisor s y) i

    -- turned by the window's start
    pub turned_before : Opened s → StartTried Lower s → t ≼ window_start s → None ≡ shown_from Lower s (t ∷ option_to_list (window_end s))
    turned_before o h l = risen_shown (window_start s) (window_start_divisor s) l
        (λ c. no (in_conflict Lower s (window_start s).n (window_start s).m) h ((conflict_decided s (window_start s).n (window_start s).m Lower).1 (record { window = start_window o; vertical = c })))
        (t ∷ option_to_list (window_end s)) (λ y i. (divisors y i, λ c. (window_between s y.n y.m c.window).after))

    -- beyond the edge at its lowest
    pub lowest_beyond : in_window s t.n t.m ≡ true → not_beyond Lower s t.n t.m ≡ false → None ≡ shown_from Lower s (t ∷ option_to_list (window_end s))
    lowest_beyond w h = risen_shown t positive (≼_refl t) (λ c. no (not_beyond Lower s t.n t.m) h ((not_beyond_decided Lower s t.n t.m).1 c)) (t ∷ option_to_list (window_end s))
        (λ y i. (divisors y i, λ c. ⊎_elim (λ g. subst (λ (v : Instant). t ≼ v) (sym g) (≼_refl t)) ((window_between s t.n t.m ((window_decided s t.n t.m).0 (passes (in_window s t.n t.m) w))).before y) i))

-- what is shown after d, by the path's lowest point
abbrev pub after_lowest : SensedQuestion → LowestPoint → Option Instant
after_lowest s Passed = None
after_lowest s (Inside t) = shown_at Lower s t
after_lowest s Beyond = shown_from Lower s (option_to_list (window_end s))

module _ (s : SensedQuestion) (z : Sizes s) (o : Opened s) (h : StartTried Lower s) where
  module _ (t : Instant) (e : turning_of s ≡ Some t) where
    at_lowest : in_window s t.n t.m ≡ true → (b : Bool) → not_beyond Lower s t.n t.m ≡ b → then_some b t ≡ shown_from Lower s (t ∷ option_to_list (window_end s))
    at_lowest w true q = hit Lower s t (option_to_list (window_end s)) (sym (inside Lower s t.n t.m w) ∙ q)
    at_lowest w false q = lowest_beyond s z t e w q

    by_tests : (b : Bool) → no_later t (window_start s) ≡ b → (w : Bool) → in_window s t.n t.m ≡ w → after_lowest s (cond b Passed (cond w (Inside t) Beyond)) ≡ shown_from Lower s (t ∷ option_to_list (window_end s))
    unfolding shown_at
    by_tests true q w r = turned_before s z t e o h ((no_later_true t (window_start s)).0 q)
    by_tests false q true r = at_lowest r (not_beyond Lower s t.n t.m) refl
    by_tests false q false r = miss Lower s t (option_to_list (window_end s)) (outside_clear Lower s t.n t.m r)

  pub lowest_shown : after_lowest s (lowest_point s) ≡ shown_from Lower s (option_to_list (turning_of s) ++ option_to_list (window_end s))
  unfolding lowest_point
  lowest_shown = go (turning_of s) refl
    where
      go : (m : Option Instant) → turning_of s ≡ m → after_lowest s (lowest_by s m) ≡ shown_from Lower s (option_to_list m ++ option_to_list (window_end s))
      go None e = refl
      go (Some t) e = by_tests t e (no_later t (window_start s)) refl (in_window s t.n t.m) refl

-- ---- a lowest point inside the window is the turning instant
pub inside_turning : (s : SensedQuestion) (t : Instant) → lowest_point s ≡ Inside t → turning_of s ≡ Some t
unfolding lowest_point
inside_turning s t e = go (turning_of s) e
  where
    picked : (x : Instant) (b w : Bool) → cond b Passed (cond w (Inside x) Beyond) ≡ Inside t → Some x ≡ Some t
    picked x true w h = cc
    picked x false true h = cc
    picked x false false h = cc

    go : (m : Option Instant) → lowest_by s m ≡ Inside t → m ≡ Some t
    go None h = cc
    go (Some x) h = picked x (no_later x (window_start s)) (in_window s x.n x.m) h

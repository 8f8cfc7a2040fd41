-- The demands of the answer at an instant, from the entry's equation, and against the judge's answer to the same question. Assumes nothing.
use Rattle.std.specs.Prelude.{Err, None, Ok, Option, Result, Some, ⊤}
use Rattle.std.proofs.lemmas.Bool.{cond-true}
use Rattle.std.specs.Bool.{passes}
use mathlib.Core.Path.{◌≡◌, refl, sym, ap, ap₂, ◌∙◌, subst}
use mathlib.Core.Bool.{Bool, true, false, cond}
use mathlib.Core.Logic.{◌↔◌, inl, inr}
use Prim.Native.Nat.{ℕ, ◌*◌, ◌<◌, ◌≤◌}
use native.Mathlib.Omega.{arith}
use lib.Dec.{eqb}
use lib.Ieee.Bits.{is_true}
use Rattle.instant.specs.declared.Instant.{Instant}
use Rattle.instant.specs.declared.Time.{Time}
use Rattle.instant.specs.Order.{◌÷◌, ◌≈◌}
use Rattle.instant.specs.LowestTerms.{shows}
use Rattle.instant.specs.Lowest.{lowest}
use Rattle.instant.proofs.LowestTerms.{lowest_is, lowest_unique, lowest_same}
use Rattle.instant.proofs.TimeOrder.{≈-trans}
use Rattle.path.specs.declared.SensedQuestion.{SensedQuestion}
use Rattle.path.specs.declared.Side.{Side}
use Rattle.path.specs.declared.Side.TheVariants.{Lower, Upper}
use Rattle.path.specs.inner.Tests.{in_window, in_conflict}
use Rattle.path.specs.inner.Sizes.{Sized}
use Rattle.path.proofs.Decisions.{window_decided, conflict_decided}
use Rattle.question.specs.declared.Encounter.{Encounter}
use Rattle.question.specs.declared.Settings.{Settings}
use Rattle.question.specs.declared.Question.{Question}
use Rattle.question.specs.declared.refusal.Refusal.{Refusal}
use Rattle.question.specs.RefusalNumbers.{with_number}
use Rattle.question.specs.Refusals.{two_sided, refusal}
use Rattle.sensed.specs.Sensed.{sensed_question}
use Rattle.sensed.proofs.AcceptedSizes.{accepted_sizes, accepted_upper_sizes}
use Rattle.shown.proofs.InstantsInReach.{picked_compared}
use Rattle.verdict.specs.declared.ClearSides.{ClearSides}
use Rattle.verdict.specs.declared.Verdict.{Verdict}
use Rattle.verdict.specs.declared.Verdict.TheVariants.{Clear, Conflict, Conflicts}
use Rattle.verdict.specs.Verdicts.{verdict}
use Rattle.judge.specs.Answers.{checked_answer, answer}
use Rattle.named_instant.specs.declared.Standing.{Standing}
use Rattle.named_instant.specs.declared.InstantAnswer.{InstantAnswer}
use Rattle.named_instant.specs.declared.InstantAnswer.TheVariants.{Judged, OutOfReach}
use Rattle.named_instant.specs.Reach.{value, in_reach}
use Rattle.named_instant.proofs.SameValue.{same_conflict}
use Rattle.named_instant.proofs.InReach.{Reached as Reach, reach_decided, compared_reached}
use Rattle.named_instant.proofs.JudgedByValue.{reached_divisor, answered, same_standing}
use Rattle.named_instant.specs.InstantAnswers.{standing, reached_answer, checked_instant, instant_answer}
use Rattle.candidate.specs.FlightAnswers.{yes_number}
use Rattle.binding.specs.declared.InstantResult.{InstantResult}
use Rattle.binding.specs.Instants.{side_number, flat_instant}
use Rattle.demands.specs.Demand3.{ConflictAt, SomeConflict, Shown, Said}
use Rattle.demands.specs.Instants.{WindowAt, WithinReach, Reached, UpperSaid, RightStanding, RightlyNamed, ShownOn, ClearOn, FoundOn, NamedOn, AgreesAt, standing_in, instant_in}
use Rattle.demands.proofs.RefusalNumbers.{number_held}
use Rattle.demands.proofs.PlainAnswers.{limited, spelled, unspelled, judged_as}

-- ---- what holds at an instant, spelled out
module _ (s : SensedQuestion) (n m : ℕ) where
  pub window_said : (in_window s n m ≡ true) ↔ WindowAt s n m
  window_said = (
    λ e. let w = (window_decided s n m).0 (passes _ e) in record { near = w.near; limited = (limited s.limit n m).0 w.intime },
    λ w. is_true _ ((window_decided s n m).1 (record { near = w.near; intime = (limited s.limit n m).1 w.limited })),
  )

  pub conflict_said : (side : Side) → 1 ≤ m → (in_conflict side s n m ≡ true) ↔ ConflictAt side s n m
  conflict_said side p = (
    λ e. spelled side s n m (record { divisor = p; conflict = (conflict_decided s n m side).0 (passes _ e) }),
    λ c. is_true _ ((conflict_decided s n m side).1 (unspelled side s n m c).conflict),
  )

pub right_standing : (z : Question) (s : SensedQuestion) (t : Instant) → 1 ≤ t.m → RightStanding (two_sided z) s t.n t.m (standing z s t)
unfolding standing
right_standing z s t p = record { window = window_said s t.n t.m; lower = conflict_said s t.n t.m Lower p; upper = upper (two_sided z) }
  where
    upper : (two : Bool) → UpperSaid two s t.n t.m (cond two (Some (in_conflict Upper s t.n t.m)) None)
    upper false = refl
    upper true = (in_conflict Upper s t.n t.m, refl, conflict_said s t.n t.m Upper p)

-- ---- two small laws
is_false : (b : Bool) → ¬ (b ≡ true) → b ≡ false
is_false true h = absurd (h refl)
is_false false h = refl

judged_is : {a b : Standing} → ◌≡◌ {A = Result InstantAnswer Refusal} (Ok (Judged a)) (Ok (Judged b)) → a ≡ b
judged_is e = cc

out_is : {b : Standing} → ◌≡◌ {A = Result InstantAnswer Refusal} (Ok OutOfReach) (Ok (Judged b)) → ⊥
out_is e = absurd cc

-- ---- the reach, spelled out
module _ (time : Time) where
  within : Reach (shows time) → WithinReach time
  within ((p, d), inl n) = (d, inl n)
  within ((p, d), inr (m, n)) = (d, inr (m, omega (arith, ap (λ (k : ℕ). time.seconds * k) m)))

  reach_of : time.remainder < time.divisor → WithinReach time → Reach (shows time)
  reach_of l (d, inl n) = ((omega arith, d), inl n)
  reach_of l (d, inr (m, n)) = ((omega arith, d), inr (m, omega (arith, ap (λ (k : ℕ). time.seconds * k) m)))

pub reached : (t : Instant) → in_reach (value t) ≡ true → Reached t.n t.m
reached t h =
    let p = reached_divisor t h in
    record { rational = p; time = lowest t.n t.m; lowest = lowest_is t.n t.m p; within = within (lowest t.n t.m) ((reach_decided (value t)).0 h) }

pub reach_found : (t : Instant) → Reached t.n t.m → in_reach (value t) ≡ true
reach_found t r =
    subst (λ (u : Time). in_reach (shows u) ≡ true) (lowest_unique t.n t.m r.rational r.time r.lowest) ((reach_decided (shows r.time)).1 (reach_of r.time r.lowest.below r.within))

-- ---- the struct of numbers holds the answer
upper_held : (upper : Option Bool) → cond (eqb (side_number upper) 0) None (Some (eqb (side_number upper) 2)) ≡ upper
upper_held None = refl
upper_held (Some false) = refl
upper_held (Some true) = refl

standing_held : (found : Standing) → standing_in (flat_instant (Ok (Judged found))) ≡ found
standing_held found = λ i. record { in_window = yes_held found.in_window i; lower = lower_held found.lower i; upper = upper_held found.upper i }
  where
    yes_held : (b : Bool) → eqb (yes_number b) 1 ≡ b
    yes_held true = refl
    yes_held false = refl

    lower_held : (b : Bool) → eqb (side_number (Some b)) 2 ≡ b
    lower_held true = refl
    lower_held false = refl

instant_held : (a : Result InstantAnswer Refusal) → instant_in (flat_instant a) ≡ with_number a
instant_held (Err why) = number_held why _
instant_held (Ok OutOfReach) = refl
instant_held (Ok (Judged found)) = ap (λ (f : Standing). Ok (Judged f)) (standing_held found)

abbrev numbered : Result InstantAnswer Refusal → Result InstantAnswer ℕ
numbered a = with_number a

-- ---- of the entry's result
module _ (x : Encounter) (y : Settings) (z : Question) (t : Instant) where
  refused : (why : Refusal) → refusal x y z ≡ Err why → instant_answer x y z t ≡ Err why
  unfolding instant_answer
  refused why e = ap (λ (c : Result ⊤ Refusal). checked_instant c (reached_answer (in_reach (value t)) (standing z (sensed_question x y z) t))) e

  by_reach : (b : Bool) → refusal x y z ≡ Ok tt → in_reach (value t) ≡ b → with_number (instant_answer x y z t) ≡ Ok (reached_answer b (standing z (sensed_question x y z) t))
  by_reach b e h = ap numbered (answered x y z t e ∙ ap (λ (b : Bool). Ok (reached_answer b (standing z (sensed_question x y z) t))) h)

  pub rightly_named : RightlyNamed x y z t (with_number (instant_answer x y z t))
  rightly_named = record {
    refused = λ why e. ap numbered (refused why e);
    out_of_reach = λ e h. by_reach false e (is_false (in_reach (value t)) (λ r. h (reached t r)));
    judged = λ e r. (standing z (sensed_question x y z) t, by_reach true e (reach_found t r), right_standing z (sensed_question x y z) t r.rational);
  }

  -- in the struct of numbers
  pub rightly_exported : (out : InstantResult) → out ≡ flat_instant (instant_answer x y z t) → RightlyNamed x y z t (instant_in out)
  rightly_exported out e = subst (RightlyNamed x y z t) (sym (ap instant_in e ∙ instant_held (instant_answer x y z t))) rightly_named

-- ---- the answer at a value
pub one_answer : (x : Encounter) (y : Settings) (z : Question) (t u : Instant) → 1 ≤ t.m → 1 ≤ u.m → t ≈ u → instant_answer x y z t ≡ instant_answer x y z u
unfolding instant_answer
one_answer x y z t u p q e = ap₂ (λ (b : Bool) (f : Standing). checked_instant (refusal x y z) (reached_answer b f))
    (ap (λ (w : Time). in_reach (shows w)) ((lowest_same t.n t.m u.n u.m p q).1 e))
    (same_standing (sensed_question x y z) t u p q e z)

-- ---- against the judge's answer to the same question
module _ (s : SensedQuestion) where
  -- a time that the verdict shows on a side is shown there, and only a two-sided verdict shows one on the upper
  shown_of : (two : Bool) (v : Verdict) → Said two s v → (side : Side) (time : Time) → ShownOn side v time → Shown side s time × (side ≡ Upper → two ≡ true)
  shown_of false (Conflict t) h Lower time e = (subst (Shown Lower s) e h, λ i. absurd cc)
  shown_of false (Conflicts t u) h side time e = absurd h
  shown_of true (Conflict t) h side time e = absurd h
  shown_of true (Conflicts t u) h Lower time e = (subst (Shown Lower s) e h.0, λ i. refl)
  shown_of true (Conflicts t u) h Upper time e = (subst (Shown Upper s) e h.1, λ i. refl)
  shown_of false (Conflict t) h Upper time e = absurd e
  shown_of two (Clear sides) h Lower time e = absurd e
  shown_of two (Clear sides) h Upper time e = absurd e

  clear_none : (two : Bool) (v : Verdict) → Said two s v → (side : Side) → ClearOn side v → ¬ SomeConflict side s
  clear_none false (Clear ClearSides.Lower) h Lower c = h
  clear_none false (Clear ClearSides.Lower) h Upper c = absurd c
  clear_none false (Clear ClearSides.Upper) h side c = absurd h
  clear_none false (Clear ClearSides.Both) h side c = absurd h
  clear_none true (Clear ClearSides.Lower) h Lower c = h.0
  clear_none true (Clear ClearSides.Lower) h Upper c = absurd c
  clear_none true (Clear ClearSides.Upper) h Lower c = absurd c
  clear_none true (Clear ClearSides.Upper) h Upper c = h.1
  clear_none true (Clear ClearSides.Both) h Lower c = h.0
  clear_none true (Clear ClearSides.Both) h Upper c = h.1
  clear_none two (Conflict t) h side c = absurd c
  clear_none two (Conflicts t u) h side c = absurd c

  -- what is found on a side is whether it is a conflict time there
  found_on : (z : Question) (t : Instant) (side : Side) → (side ≡ Upper → two_sided z ≡ true) → in_conflict side s t.n t.m ≡ true → FoundOn side (standing z s t) true
  unfolding standing
  found_on z t Lower two e = e
  found_on z t Upper two e = cond-true (two_sided z) (Some (in_conflict Upper s t.n t.m)) None (two refl) ∙ ap Some e

  conflict_found : (z : Question) (t : Instant) (side : Side) → FoundOn side (standing z s t) true → in_conflict side s t.n t.m ≡ true
  unfolding standing
  conflict_found z t Lower e = e
  conflict_found z t Upper e = go (two_sided z) (in_conflict Upper s t.n t.m) e
    where
      go : (two c : Bool) → cond two (Some c) None ≡ Some true → c ≡ true
      go true c f = cc
      go false c f = absurd cc

module _ (x : Encounter) (y : Settings) (z : Question) where
  pub accepted_where_judged : (v : Verdict) → answer x y z ≡ Ok v → refusal x y z ≡ Ok tt
  unfolding answer
  accepted_where_judged v e = go (refusal x y z) refl e
    where
      go : (r : Result ⊤ Refusal) → refusal x y z ≡ r → checked_answer r (verdict z (sensed_question x y z)) ≡ Ok v → refusal x y z ≡ Ok tt
      go (Ok _) h f = h
      go (Err why) h f = absurd cc

  said_where_judged : (v : Verdict) → answer x y z ≡ Ok v → Said (two_sided z) (sensed_question x y z) v
  said_where_judged v e =
      let j = judged_as x y z (accepted_where_judged v e) in
      let same : j.0 ≡ v = cc in
      subst (Said (two_sided z) (sensed_question x y z)) same j.2.said

  pub sized : (side : Side) → refusal x y z ≡ Ok tt → (side ≡ Upper → two_sided z ≡ true) → Sized side (sensed_question x y z)
  sized Lower e two = accepted_sizes x y z e
  sized Upper e two = (accepted_sizes x y z e, accepted_upper_sizes x y z e (two refl))

  module _ (t : Instant) where
    shown_named : refusal x y z ≡ Ok tt → (side : Side) (time : Time) → Shown side (sensed_question x y z) time → (side ≡ Upper → two_sided z ≡ true) → 1 ≤ t.m → t ≈ shows time → NamedOn side (instant_answer x y z t) true
    shown_named e side time h two p is =
        let u : Instant = h.n ÷ h.m in
        let pu = h.conflict.rational in
        let same : t ≈ u = ≈-trans t (shows time) u (omega (arith, h.lowest.below)) is h.lowest.value in
        let conflict = same_conflict (sensed_question x y z) u t pu (sym same) side (unspelled side (sensed_question x y z) h.n h.m h.conflict).conflict in
        let reach = compared_reached u pu (picked_compared side (sensed_question x y z) (sized side e two) u h.picked) in
        let reached_t : in_reach (value t) ≡ true = subst (λ (w : Time). in_reach (shows w) ≡ true) (sym ((lowest_same t.n t.m h.n h.m p pu).1 same)) reach in (
          standing z (sensed_question x y z) t,
          answered x y z t e ∙ ap (λ (b : Bool). Ok (reached_answer b (standing z (sensed_question x y z) t))) reached_t,
          found_on (sensed_question x y z) z t side two (is_true _ ((conflict_decided (sensed_question x y z) t.n t.m side).1 conflict)),
        )

    none_named : refusal x y z ≡ Ok tt → (side : Side) → ¬ SomeConflict side (sensed_question x y z) → ¬ NamedOn side (instant_answer x y z t) true
    none_named e side none (found, is, on) = go (in_reach (value t)) refl
      where
        go : (b : Bool) → in_reach (value t) ≡ b → ⊥
        go true h =
            let p = reached_divisor t h in
            let same : standing z (sensed_question x y z) t ≡ found = judged_is (sym (answered x y z t e ∙ ap (λ (b : Bool). Ok (reached_answer b (standing z (sensed_question x y z) t))) h) ∙ is) in
            let c = conflict_found (sensed_question x y z) z t side (subst (λ (f : Standing). FoundOn side f true) (sym same) on) in
            none (t.n, t.m, (conflict_said (sensed_question x y z) t.n t.m side p).0 c)
        go false h = out_is (sym (answered x y z t e ∙ ap (λ (b : Bool). Ok (reached_answer b (standing z (sensed_question x y z) t))) h) ∙ is)

    pub agrees_at : AgreesAt t (answer x y z) (instant_answer x y z t)
    agrees_at = record {
      shown = λ side v time e on p is.
          let h = shown_of (sensed_question x y z) (two_sided z) v (said_where_judged v e) side time on in
          shown_named (accepted_where_judged v e) side time h.0 h.1 p is;
      clear = λ side v e c. none_named (accepted_where_judged v e) side (clear_none (sensed_question x y z) (two_sided z) v (said_where_judged v e) side c);
    }

-- ---- of results that are the answers
module _ (x : Encounter) (y : Settings) (z : Question) where
  pub rightly : (t : Instant) (r : Result InstantAnswer Refusal) → r ≡ instant_answer x y z t → RightlyNamed x y z t (with_number r)
  rightly t r e = subst (λ (a : Result InstantAnswer Refusal). RightlyNamed x y z t (with_number a)) (sym e) (rightly_named x y z t)

  pub agrees : (t : Instant) (r : Result Verdict Refusal) (a : Result InstantAnswer Refusal) → r ≡ answer x y z → a ≡ instant_answer x y z t → AgreesAt t r a
  agrees t r a e f = subst (λ (r : Result Verdict Refusal). AgreesAt t r a) (sym e) (subst (AgreesAt t (answer x y z)) (sym f) (agrees_at x y z t))

  pub one : (t u : Instant) (a b : Result InstantAnswer Refusal) → a ≡ instant_answer x y z t → b ≡ instant_answer x y z u → 1 ≤ t.m → 1 ≤ u.m → t ≈ u → a ≡ b
  one t u a b e f p q h = e ∙ one_answer x y z t u p q h ∙ sym f

-- What a verdict means says what the verdict says, and of no conflict that the intruder is clear. Assumes nothing.
use Rattle.std.specs.Prelude.{Err, None, Ok, Option, Result, Some, ⊤}
use Rattle.std.specs.Bool.{passes, then_some}
use Rattle.std.specs.Option.{is_none, option_map}
use mathlib.Core.Path.{◌≡◌, refl, sym, ap, ap₂, ◌∙◌, subst}
use mathlib.Core.Bool.{Bool, true, false, cond}
use mathlib.Core.List.{[], ◌∷◌}
use Prim.Native.Nat.{ℕ, ◌*◌, ◌<◌, ◌≤◌}
use native.Mathlib.Omega.{arith}
use lib.Dec.{T, ltb, eqb}
use lib.IntN.{ℤ, pos, neg_ℤ, nat_abs}
use lib.Signed.{◌≤ℤ◌, ◌<ℤ◌, lt_z, lt_z_yes}
use Rattle.std.proofs.lemmas.Bool.Decides.{nat_tests}
use Rattle.advisory.specs.declared.Sense.{Sense}
use Rattle.advisory.specs.declared.Sense.TheVariants.{Climb, Descend}
use Rattle.advisory.specs.Sign.{sensed}
use Rattle.integers.proofs.Quotation.{quote}
use Rattle.integers.proofs.Certificates.{by≤, gap≤, gap<}
use Rattle.integers.proofs.Laws.{nat_abs_in}
use Rattle.instant.specs.declared.Instant.{Instant}
use Rattle.instant.specs.Order.{◌÷◌}
use Rattle.instant.proofs.TimeOrder.{≼_refl, ≼_trans}
use Rattle.path.specs.declared.SensedQuestion.{SensedQuestion}
use Rattle.path.specs.declared.Side.{Side}
use Rattle.path.specs.declared.Side.TheVariants.{Lower, Upper}
use Rattle.path.specs.Letters.{k, wh, a, b}
use Rattle.path.specs.Paths.{lower_path, upper_path}
use Rattle.path.specs.Window.{Window, window_start}
use Rattle.path.specs.Conflict.{NotBeyond}
use Rattle.path.specs.inner.Tests.{in_window, opening}
use Rattle.path.specs.inner.Sizes.{Sized}
use Rattle.path.proofs.Decisions.{window_decided}
use Rattle.path.proofs.WindowEnds.{window_between, between_window, window_start_divisor}
use Rattle.question.specs.declared.Encounter.{Encounter}
use Rattle.question.specs.declared.Settings.{Settings}
use Rattle.question.specs.declared.Question.{Question}
use Rattle.question.specs.declared.refusal.Refusal.{Refusal}
use Rattle.question.specs.Refusals.{two_sided, refusal, sense_of}
use Rattle.sensed.specs.Sensed.{sensed_question}
use Rattle.shown.specs.TimeShown.{time_shown}
use Rattle.shown.proofs.OpenWindow.{empty_shown}
use Rattle.shown.proofs.RulePicks.{shown_conflict}
use Rattle.verdict.specs.declared.Verdict.{Verdict}
use Rattle.verdict.specs.Verdicts.{one_sided_verdict, two_sided_verdict, verdict}
use Rattle.judge.specs.Answers.{checked_answer, answer}
use Rattle.meaning.specs.declared.gaps.Direction.TheVariants.{Above, Below}
use Rattle.meaning.specs.declared.gaps.Nearness.TheVariants.{Closer, Edge, Farther}
use Rattle.meaning.specs.declared.Explained.{Explained}
use Rattle.meaning.specs.declared.Finding.{Finding}
use Rattle.meaning.specs.declared.Finding.TheVariants.{NeverNear}
use Rattle.meaning.specs.declared.Meaning.{Meaning}
use Rattle.meaning.specs.Gaps.{scale, height_above, direction_of, nearness_of, gap_of, gap_at}
use Rattle.meaning.specs.Meanings.{explained_at, one_sided_finding, two_sided_finding, finding_on, meaning_of, checked_meaning, meaning_answer}
use Rattle.demands.specs.Meanings.{told, ExplainedOn, ClearBeyond, RightMeaning, RightlyExplained}
use Rattle.demands.proofs.InstantsRight.{window_said, accepted_where_judged, sized}

-- ---- a gap beyond k on the side that is clear
farther_is : (x y : ℕ) → nearness_of x y ≡ Farther → y < x
farther_is x y e = go (ltb x y) (eqb x y) refl refl e
  where
    go : (l m : Bool) → ltb x y ≡ l → eqb x y ≡ m → cond l Closer (cond m Edge Farther) ≡ Farther → y < x
    go true m i j h = absurd cc
    go false true i j h = absurd cc
    go false false i j h = grind (arith, nat_tests)

above_is : (g : ℤ) → direction_of g ≡ Some Above → pos 0 <ℤ g
above_is g e = go (lt_z (pos 0) g) (lt_z g (pos 0)) refl e
  where
    go : (x y : Bool) → lt_z (pos 0) g ≡ x → cond x (Some Above) (cond y (Some Below) None) ≡ Some Above → pos 0 <ℤ g
    go true y i h = lt_z_yes (passes (lt_z (pos 0) g) i)
    go false true i h = absurd cc
    go false false i h = absurd cc

below_is : (g : ℤ) → direction_of g ≡ Some Below → g <ℤ pos 0
below_is g e = go (lt_z (pos 0) g) (lt_z g (pos 0)) refl e
  where
    go : (x y : Bool) → lt_z g (pos 0) ≡ y → cond x (Some Above) (cond y (Some Below) None) ≡ Some Below → g <ℤ pos 0
    go true y i h = absurd cc
    go false true i h = lt_z_yes (passes (lt_z g (pos 0)) i)
    go false false i h = absurd cc

module _ (g : ℤ) (d half : ℕ) where
  near_below : neg_ℤ (pos (half * d)) ≤ℤ g → nearness_of (nat_abs g) (half * d) ≡ Farther → direction_of g ≡ Some Below → ⊥
  near_below l e f =
      let h : g ≤ℤ pos (half * d) = by≤ (half * d ∷ []) (g ∷ []) (gap< (below_is g f)) (λ v. search quote depth 20) tt in
      omega (arith, farther_is (nat_abs g) (half * d) e, nat_abs_in g (half * d) l h)

  near_above : g ≤ℤ pos (half * d) → nearness_of (nat_abs g) (half * d) ≡ Farther → direction_of g ≡ Some Above → ⊥
  near_above l e f =
      let h : neg_ℤ (pos (half * d)) ≤ℤ g = by≤ (half * d ∷ []) (g ∷ []) (gap< (above_is g f)) (λ v. search quote depth 20) tt in
      omega (arith, farther_is (nat_abs g) (half * d) e, nat_abs_in g (half * d) h l)

module _ (s : SensedQuestion) (n m : ℕ) where
  abbrev H : Side → ℤ
  H side = height_above side s n m

  not_beyond_clear : (side : Side) (w : Sense) → NotBeyond side s n m → ¬ ClearBeyond side w (gap_of (sensed w (H side)) (scale side s m) (k s))
  unfolding height_above
  not_beyond_clear Lower Climb c (e, f) = near_below (sensed Climb (H Lower)) (scale Lower s m) (k s)
      (by≤ (a s ∷ m ∷ k s ∷ []) (wh s ∷ lower_path s n m ∷ []) (gap≤ c) (λ v. search quote depth 20) tt) e f
  not_beyond_clear Lower Descend c (e, f) = near_above (sensed Descend (H Lower)) (scale Lower s m) (k s)
      (by≤ (a s ∷ m ∷ k s ∷ []) (wh s ∷ lower_path s n m ∷ []) (gap≤ c) (λ v. search quote depth 20) tt) e f
  not_beyond_clear Upper Climb c (e, f) = near_above (sensed Climb (H Upper)) (scale Upper s m) (k s)
      (by≤ (b s ∷ m ∷ k s ∷ []) (wh s ∷ upper_path s n m ∷ []) (gap≤ c) (λ v. search quote depth 20) tt) e f
  not_beyond_clear Upper Descend c (e, f) = near_below (sensed Descend (H Upper)) (scale Upper s m) (k s)
      (by≤ (b s ∷ m ∷ k s ∷ []) (wh s ∷ upper_path s n m ∷ []) (gap≤ c) (λ v. search quote depth 20) tt) e f

-- ---- the finding by the times shown
module _ (F : Side → Instant → Explained) where
  abbrev found : Bool → Option Instant → Option Instant → Finding
  found two l u = cond two (two_sided_finding (option_map (F Lower) l) (option_map (F Upper) u)) (one_sided_finding (option_map (F Lower) l))

  abbrev shown_on : Side → Option Instant → Option Instant → Option Instant
  shown_on Lower l u = l
  shown_on Upper l u = u

  record On (two : Bool) (l u : Option Instant) (side : Side) (e : Explained) : Type 0 where
    t : Instant
    shown : shown_on side l u ≡ Some t
    is : F side t ≡ e
    asked : side ≡ Upper → two ≡ true

  explained_by : (two : Bool) (l u : Option Instant) (side : Side) (e : Explained) → ExplainedOn side (found two l u) e → On two l u side e
  explained_by false (Some t) u Lower e h = record { t = t; shown = refl; is = h; asked = λ i. absurd cc }
  explained_by false (Some t) u Upper e h = absurd h
  explained_by false None u Lower e h = absurd h
  explained_by false None u Upper e h = absurd h
  explained_by true (Some t) (Some j) Lower e h = record { t = t; shown = refl; is = h; asked = λ i. refl }
  explained_by true (Some t) (Some j) Upper e h = record { t = j; shown = refl; is = h; asked = λ i. refl }
  explained_by true (Some t) None Lower e h = absurd h
  explained_by true (Some t) None Upper e h = absurd h
  explained_by true None (Some j) Lower e h = absurd h
  explained_by true None (Some j) Upper e h = absurd h
  explained_by true None None Lower e h = absurd h
  explained_by true None None Upper e h = absurd h

  found_near : (two : Bool) (l u : Option Instant) → found two l u ≡ NeverNear → ⊥
  found_near false (Some t) u h = absurd cc
  found_near false None u h = absurd cc
  found_near true (Some t) (Some j) h = absurd cc
  found_near true (Some t) None h = absurd cc
  found_near true None (Some j) h = absurd cc
  found_near true None None h = absurd cc

found_told : (w : Sense) (s : SensedQuestion) (two : Bool) (l u : Option Instant) → told two (found (λ side. explained_at w side s) two l u) ≡ cond two (two_sided_verdict l u) (one_sided_verdict l)
unfolding explained_at
found_told w s false (Some t) u = refl
found_told w s false None u = refl
found_told w s true (Some t) (Some j) = refl
found_told w s true (Some t) None = refl
found_told w s true None (Some j) = refl
found_told w s true None None = refl

-- ---- the window
start_held : (s : SensedQuestion) (n m : ℕ) → 1 ≤ m → Window s n m → Window s (window_start s).n (window_start s).m
start_held s n m p w =
    let between = window_between s n m w in
    between_window s n m (window_start s).n (window_start s).m p w
    (record { after = ≼_refl (window_start s); before = λ y i. ≼_trans (window_start s) (n ÷ m) y p between.after (between.before y i) })

-- ---- a question that is accepted
module _ (z : Question) (s : SensedQuestion) (sizes : (side : Side) → (side ≡ Upper → two_sided z ≡ true) → Sized side s) where
  abbrev F : Side → Instant → Explained
  F side = explained_at (sense_of z) side s

  abbrev opens : Bool
  opens = in_window s (window_start s).n (window_start s).m

  abbrev shown : Side → Option Instant
  shown side = time_shown side s

  abbrev Means : Finding → Type 0
  Means f = RightMeaning z s (verdict z s) (record { sense = sense_of z; two_sided = two_sided z; radius = s.radius; half_height = s.half_height; limit = s.limit; finding = f })

  none_shown : opening s ≡ None → (two : Bool) → two_sided z ≡ two → cond two (two_sided_verdict None None) (one_sided_verdict None) ≡ cond two (two_sided_verdict (shown Lower) (shown Upper)) (one_sided_verdict (shown Lower))
  none_shown e true two = ap₂ two_sided_verdict (empty_shown s Lower (sizes Lower (λ i. two)) e) (empty_shown s Upper (sizes Upper (λ i. two)) e)
  none_shown e false two = ap one_sided_verdict (empty_shown s Lower (sizes Lower (λ i. absurd cc)) e)

  told_away : (two : Bool) → told two NeverNear ≡ cond two (two_sided_verdict None None) (one_sided_verdict None)
  told_away true = refl
  told_away false = refl

  closed : opens ≡ false → Means NeverNear
  unfolding verdict opening
  closed o = record {
    sense = refl;
    two = refl;
    radius = refl;
    half = refl;
    limit = refl;
    verdict = told_away (two_sided z) ∙ none_shown (ap (λ (x : Bool). then_some x (window_start s)) o) (two_sided z) refl;
    away = (λ _ n d p w. shut (start_held s n d p ((window_decided s n d).0 (passes _ ((window_said s n d).1 w)))), λ _. refl);
    beyond = λ side e h. absurd (none side e h);
  }
    where
      shut : Window s (window_start s).n (window_start s).m → ⊥
      shut w = subst T o ((window_decided s (window_start s).n (window_start s).m).1 w)

      none : (side : Side) (e : Explained) → ExplainedOn side NeverNear e → ⊥
      none Lower e h = h
      none Upper e h = h

  open_on : opens ≡ true → Means (found F (two_sided z) (shown Lower) (shown Upper))
  unfolding verdict explained_at gap_at
  open_on o = record {
    sense = refl;
    two = refl;
    radius = refl;
    half = refl;
    limit = refl;
    verdict = found_told (sense_of z) s (two_sided z) (shown Lower) (shown Upper);
    away = (
      λ e. absurd (found_near F (two_sided z) (shown Lower) (shown Upper) e),
      λ none. absurd (none (window_start s).n (window_start s).m (window_start_divisor s) ((window_said s (window_start s).n (window_start s).m).0 o)),
    );
    beyond = beyond;
  }
    where
      on : (side : Side) → shown_on F side (shown Lower) (shown Upper) ≡ shown side
      on Lower = refl
      on Upper = refl

      beyond : (side : Side) (e : Explained) → ExplainedOn side (found F (two_sided z) (shown Lower) (shown Upper)) e → ¬ ClearBeyond side (sense_of z) e.gap
      beyond side e h c =
          let by = explained_by F (two_sided z) (shown Lower) (shown Upper) side e h in
          let conflict = (shown_conflict side s (sizes side by.asked) by.t (sym (on side) ∙ by.shown)).conflict in
          not_beyond_clear s by.t.n by.t.m side (sense_of z) conflict.vertical (subst (λ (f : Explained). ClearBeyond side (sense_of z) f.gap) (sym by.is) c)

  right_meaning : RightMeaning z s (verdict z s) (meaning_of z s)
  unfolding meaning_of finding_on opening
  right_meaning = go opens refl
    where
      go : (x : Bool) → opens ≡ x → Means (cond (is_none (then_some x (window_start s))) NeverNear (found F (two_sided z) (shown Lower) (shown Upper)))
      go true o = open_on o
      go false o = closed o

-- ---- of the entry's result
module _ (x : Encounter) (y : Settings) (z : Question) where
  refused_alike : (why : Refusal) → answer x y z ≡ Err why → meaning_answer x y z ≡ Err why
  unfolding answer meaning_answer
  refused_alike why e = go (refusal x y z) e
    where
      go : (r : Result ⊤ Refusal) → checked_answer r (verdict z (sensed_question x y z)) ≡ Err why → checked_meaning r (meaning_of z (sensed_question x y z)) ≡ Err why
      go (Ok _) h = absurd cc
      go (Err other) h = let same : other ≡ why = cc in ap Err same

  explained_right : (v : Verdict) → answer x y z ≡ Ok v → (m : Meaning) × (meaning_answer x y z ≡ Ok m) × RightMeaning z (sensed_question x y z) v m
  unfolding answer meaning_answer
  explained_right v e =
      let s = sensed_question x y z in
      let accepted = accepted_where_judged x y z v e in
      let same : verdict z s ≡ v = go (refusal x y z) accepted e in (
        meaning_of z s,
        ap (λ (r : Result ⊤ Refusal). checked_meaning r (meaning_of z s)) accepted,
        subst (λ (u : Verdict). RightMeaning z s u (meaning_of z s)) same (right_meaning z s (λ side two. sized x y z side accepted two)),
      )
    where
      go : (r : Result ⊤ Refusal) → r ≡ Ok tt → checked_answer r (verdict z (sensed_question x y z)) ≡ Ok v → verdict z (sensed_question x y z) ≡ v
      go (Ok _) i h = cc
      go (Err why) i h = absurd cc

  pub rightly_explained : (judged : Result Verdict Refusal) (found : Result Meaning Refusal) → judged ≡ answer x y z → found ≡ meaning_answer x y z → RightlyExplained x y z judged found
  rightly_explained judged found e f =
      subst (λ (j : Result Verdict Refusal). RightlyExplained x y z j found) (sym e)
      (subst (RightlyExplained x y z (answer x y z)) (sym f) (record { refused = refused_alike; explained = explained_right }))

-- What became of MCL and MDES. Document 01's rule for questions by code, before document 02 gave 17 to those that are never issued, and that nothing else changed: 17 is for
-- code 10 with v < 0 and code 9 with v > 0 exactly, and every other question by code is what it was. Assumes nothing.
use Rattle.std.specs.Prelude.{Err, Ok, Result}
use mathlib.Core.Path.{◌≡◌, refl, subst, ap, ap₂, ◌∙◌}
use mathlib.Core.Bool.{Bool, true, false, cond, not, ◌&&◌, ◌||◌, and-false}
use mathlib.Core.Logic.{◌⊎◌, inl, inr, ⊎_elim, ◌↔◌}
use Prim.Native.Nat.{ℕ}
use native.Mathlib.Omega.{arith}
use borrow.Author.Tests.{eqb-true, eq-eqb}
use Rattle.std.proofs.lemmas.Bool.{true≢false}
use lib.Dec.{T, eqb}
use lib.IntN.{ℤ, pos}
use lib.Signed.{le_z, ◌≤ℤ◌, ◌<ℤ◌, le_z_yes, clash_ℤ}
use Rattle.integers.proofs.Certificates.{split<}
use Rattle.integers.proofs.Laws.{same_test}
use Rattle.std.proofs.lemmas.Bool.{cond-true, cond-false}
use Rattle.advisory.specs.declared.Instruction.{Instruction}
use Rattle.advisory.specs.Catalogue.{article_entries, not_judged, catalogue_of}
use Rattle.advisory.specs.ReactionTable.{reaction_table}
use Rattle.advisory.specs.Advised.{advised_of}
use Rattle.coded.specs.Coded.{instructed, maintainable, asked, coded_question}
use Rattle.advisory.specs.declared.CodeError.{CodeError}
use Rattle.question.specs.declared.refusal.Refusal.{Refusal}
use Rattle.question.specs.declared.Question.{Question}

-- ---- the earlier rule: "8 code outside 1 to 18; 9 code 17 or 18", and every other code is asked
abbrev pub earlier_asked : Result Instruction CodeError → ℤ → ℤ → Result Question Refusal
earlier_asked (Ok i) v limit = Ok (instructed i v limit)
earlier_asked (Err CodeError.NotJudged) v limit = Err Refusal.CodeNotJudged
earlier_asked (Err CodeError.Unknown) v limit = Err Refusal.CodeUnknown

unfoldable pub earlier_question : ℕ → ℤ → ℤ → Result Question Refusal
earlier_question code v limit = earlier_asked (advised_of code) v limit

-- ---- what changed
-- "MCL with v < 0 and MDES with v > 0": MCL is code 10, MDES code 9
abbrev pub NeverIssued : ℕ → ℤ → Type 0
NeverIssued code v = ((code ≡ 10) × (v <ℤ pos 0)) ⊎ ((code ≡ 9) × (pos 0 <ℤ v))

pub record OnlySeventeen (code : ℕ) (v limit : ℤ) : Type 0 where
  pub refused : (coded_question code v limit ≡ Err Refusal.NeverIssued) ↔ NeverIssued code v
  pub otherwise : ¬ (coded_question code v limit ≡ Err Refusal.NeverIssued) → coded_question code v limit ≡ earlier_question code v limit

-- ---- the test, by its parts
either : (a b c d : Bool) → (not a || b) && (not c || d) ≡ false → ((a ≡ true) × (b ≡ false)) ⊎ ((c ≡ true) × (d ≡ false))
either true false c d e = inl (refl, refl)
either true true true false e = inr (refl, refl)
either true true true true e = absurd (true≢false e)
either true true false d e = absurd (true≢false e)
either false b true false e = inr (refl, refl)
either false b true true e = absurd (true≢false e)
either false b false d e = absurd (true≢false e)

fails : (a b c d : Bool) → ((a ≡ true) × (b ≡ false)) ⊎ ((c ≡ true) × (d ≡ false)) → (not a || b) && (not c || d) ≡ false
fails a b c d (inl h) = ap₂ (λ (a b : Bool). (not a || b) && (not c || d)) h.0 h.1
fails a b c d (inr h) = ap₂ (λ (c d : Bool). (not a || b) && (not c || d)) h.0 h.1 ∙ and-false (not a || b)

below : {a b : ℤ} → le_z a b ≡ false → b <ℤ a
below {a} {b} e = ⊎_elim (λ h. h) (λ (h : a ≤ℤ b). absurd (subst T e h.le)) (split< b a)

not_above : {a b : ℤ} → b <ℤ a → le_z a b ≡ false
not_above {a} {b} h = same_test (le_z a b) false (λ t. clash_ℤ h (le_z_yes t)) (λ t. absurd t)

-- ---- 17 is the two cases
module _ (code : ℕ) (v : ℤ) where
  pub never_issued : (maintainable code v ≡ false) ↔ NeverIssued code v
  never_issued = (
    λ e. ⊎_elim (λ h. inl (eqb-true code 10 h.0, below h.1)) (λ h. inr (eqb-true code 9 h.0, below h.1))
        (either (eqb code 10) (le_z (pos 0) v) (eqb code 9) (le_z v (pos 0)) e),
    λ n. fails (eqb code 10) (le_z (pos 0) v) (eqb code 9) (le_z v (pos 0))
        (⊎_elim (λ h. inl (eq-eqb code 10 h.0, not_above h.1)) (λ h. inr (eq-eqb code 9 h.0, not_above h.1)) n),
  )

  pub issued : ¬ NeverIssued code v → maintainable code v ≡ true
  issued may = go (maintainable code v) (λ e. may (never_issued.0 e))
    where
      go : (b : Bool) → ¬ (b ≡ false) → b ≡ true
      go true h = refl
      go false h = absurd (h refl)

  -- codes 9 and 10 are judged
  listed : NeverIssued code v → (i : Instruction) × (advised_of code ≡ Ok i)
  unfolding advised_of catalogue_of article_entries not_judged reaction_table
  listed (inl h) = (_, ap advised_of h.0)
  listed (inr h) = (_, ap advised_of h.0)

  module _ (limit : ℤ) where
    asked_17 : (a : Result Instruction CodeError) → asked code a v limit ≡ Err Refusal.NeverIssued → maintainable code v ≡ false
    asked_17 (Ok i) e = go (maintainable code v) e
      where
        go : (b : Bool) → cond b (Ok (instructed i v limit)) (Err Refusal.NeverIssued) ≡ Err Refusal.NeverIssued → b ≡ false
        go true e = absurd (let z : ◌≡◌ {A = ℕ} 0 1 = cc in omega arith)
        go false e = refl
    asked_17 (Err CodeError.NotJudged) e = absurd (let z : ◌≡◌ {A = ℕ} 9 17 = cc in omega arith)
    asked_17 (Err CodeError.Unknown) e = absurd (let z : ◌≡◌ {A = ℕ} 8 17 = cc in omega arith)

    as_before : (a : Result Instruction CodeError) → maintainable code v ≡ true → asked code a v limit ≡ earlier_asked a v limit
    as_before (Ok i) e = cond-true _ _ _ e
    as_before (Err CodeError.NotJudged) e = refl
    as_before (Err CodeError.Unknown) e = refl

    now_17 : NeverIssued code v → coded_question code v limit ≡ Err Refusal.NeverIssued
    unfolding coded_question
    now_17 n =
        let l = listed n in
        ap (λ (a : Result Instruction CodeError). asked code a v limit) l.1 ∙ cond-false _ _ _ (never_issued.1 n)

    pub only_17 : OnlySeventeen code v limit
    unfolding coded_question earlier_question
    only_17 = record {
      refused = (λ e. never_issued.0 (asked_17 (advised_of code) e), now_17);
      otherwise = λ other. as_before (advised_of code) (issued (λ n. other (now_17 n)));
    }

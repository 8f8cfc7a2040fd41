-- The codes that are listed, only named or unknown are ranges of the code byte: each by one test computed over all 256 codes.
use Rattle.std.specs.Prelude.{Err, Ok, Result}
use mathlib.Core.Path.{◌≡◌, refl, subst⁻¹}
use mathlib.Core.Logic.Iff
use mathlib.Core.Logic.{◌↔◌, inl, inr, ⊎_elim}
use mathlib.Core.Bool.{Bool, true, false, not, cond, ◌&&◌}
use Prim.Native.Nat.{ℕ, ◌<◌}
use native.Mathlib.Omega.{arith}
use borrow.Author.Tests.{le-leb, lt-leb}
use lib.Dec.{T, leb, leb→le, le→leb, nleb→lt}
use mir.Facts.{and_yes, yes_and, and_no}
use Rattle.std.proofs.lemmas.Bool.{agree_below_at}
use Rattle.advisory.specs.Catalogue.{article_entries, not_judged, among, article_codes, not_judged_codes, catalogue_of, Listed, CodeWithin}
use Rattle.advisory.specs.ReactionTable.{reaction_table}
use Rattle.advisory.specs.Advised.{advised_of}
use Rattle.advisory.specs.inner.Codes.{Standing}
use Rattle.advisory.specs.declared.Advice.{Advice}
use Rattle.advisory.proofs.EveryBelow.{below, iff_below}
use Rattle.advisory.specs.declared.CodeError.{CodeError}
use Rattle.advisory.specs.declared.Instruction.{Instruction}

abbrev pub within : ℕ → ℕ → ℕ → Bool
within low high code = leb low code && leb code high

pub within_iff : (low high code : ℕ) → T (within low high code) ↔ CodeWithin low high code
within_iff low high code = (
  λ t. let both = and_yes (leb low code) (leb code high) t in (leb→le low code both.0, leb→le code high both.1),
  λ w. yes_and (leb low code) (leb code high) (le→leb low code w.0) (le→leb code high w.1),
)

-- the codes of the catalogue's two lists
pub article_range : (code : ℕ) → code < 256 → among code article_codes ≡ within 1 16 code
unfolding article_entries
article_range code = agree_below_at (λ (k : ℕ). among k article_codes) (within 1 16) 256 code refl

pub not_judged_range : (code : ℕ) → code < 256 → among code not_judged_codes ≡ within 17 18 code
unfolding not_judged
not_judged_range code = agree_below_at (λ (k : ℕ). among k not_judged_codes) (within 17 18) 256 code refl

pub listing_past_16 : (code : ℕ) → code < 256 → 16 < code → catalogue_of code ≡ cond (within 17 18 code) (Err CodeError.NotJudged) (Err CodeError.Unknown)
unfolding catalogue_of
listing_past_16 code h past =
    simp (article_range code h, not_judged_range code h, le-leb 1 code (omega arith), lt-leb code 16 past)

abbrev pub is_article : Result Advice CodeError → Bool
is_article (Ok advice) = true
is_article (Err CodeError.NotJudged) = false
is_article (Err CodeError.Unknown) = false

pub article_iff : (l : Result Advice CodeError) → ((advice : Advice) × (l ≡ Ok advice)) ↔ T (is_article l)
article_iff l = (λ p. subst⁻¹ (λ (x : Result Advice CodeError). T (is_article x)) p.1 tt, found l)
  where
    found : (x : Result Advice CodeError) → T (is_article x) → (advice : Advice) × (x ≡ Ok advice)
    found (Ok advice) t = (advice, refl)
    found (Err CodeError.NotJudged) t = absurd t
    found (Err CodeError.Unknown) t = absurd t

-- The catalogue lists exactly the codes 1 to 16.
pub lists_1_to_16 : (code : ℕ) → code < 256 → Listed code ↔ CodeWithin 1 16 code
unfolding catalogue_of article_entries not_judged
lists_1_to_16 code h =
    Iff.trans (article_iff (catalogue_of code))
    (Iff.trans (iff_below (λ (k : ℕ). is_article (catalogue_of k)) (within 1 16) 256 refl code h) (within_iff 1 16 code))

abbrev stands : ℕ → Result Instruction CodeError → Bool
stands code (Ok i) = within 1 16 code
stands code (Err CodeError.NotJudged) = within 17 18 code
stands code (Err CodeError.Unknown) = not (within 1 18 code)

stood : (code : ℕ) (a : Result Instruction CodeError) → T (stands code a) → Standing code a
stood code (Ok i) t = (within_iff 1 16 code).0 t
stood code (Err CodeError.NotJudged) t = (within_iff 17 18 code).0 t
stood code (Err CodeError.Unknown) t =
    ⊎_elim (λ low. inl (nleb→lt 1 code low)) (λ high. inr (nleb→lt code 18 high)) (and_no (leb 1 code) (leb code 18) t)

-- The codes 1 to 16 are judged, 17 and 18 are not, and the codes outside 1 to 18 are unknown.
pub standing : (code : ℕ) → code < 256 → Standing code (advised_of code)
unfolding advised_of catalogue_of article_entries not_judged reaction_table
standing code h = stood code (advised_of code) (below (λ (k : ℕ). stands k (advised_of k)) 256 tt code h)

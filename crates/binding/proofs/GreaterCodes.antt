-- No table has a code past a byte: it is unknown, and gets 8. Assumes nothing.
use Rattle.std.specs.Prelude.{Err}
use mathlib.Core.Path.{◌≡◌, refl, ap, ap₂}
use mathlib.Core.Bool.{Bool, true, false, ◌&&◌, ◌||◌}
use mathlib.Core.List.{List, [], ◌∷◌}
use Prim.Native.Nat.{ℕ, ◌<◌}
use native.Mathlib.Omega.{arith}
use lib.Dec.{T, ltb, ltb→lt}
use lib.Ieee.Fits.{and_l, and_r}
use lib.IntN.{ℤ}
use borrow.Author.Tests.{ne_eqb}
use Rattle.advisory.specs.declared.CodeError.{CodeError}
use Rattle.advisory.specs.Catalogue.{article_entries, not_judged, among, article_codes, not_judged_codes, catalogue_of}
use Rattle.advisory.specs.ReactionTable.{reaction_table, row_of}
use Rattle.advisory.specs.Advised.{advised_of, together}
use Rattle.question.specs.declared.refusal.Refusal.{Refusal}
use Rattle.coded.specs.Coded.{asked, coded_question}

abbrev bytes : List ℕ → Bool
bytes [] = true
bytes (k ∷ codes) = ltb k 256 && bytes codes

not_among : (code : ℕ) (codes : List ℕ) → 255 < code → T (bytes codes) → among code codes ≡ false
not_among code [] h t = refl
not_among code (k ∷ codes) h t =
    let below = ltb→lt k 256 (and_l (ltb k 256) (bytes codes) t) in
    let other : ¬ (code ≡ k) = λ e. omega (arith, e, below, h) in
    ap₂ (λ (x y : Bool). x || y) (ne_eqb code k other) (not_among code codes h (and_r (ltb k 256) (bytes codes) t))

module _ (code : ℕ) (h : 255 < code) where
  not_listed : catalogue_of code ≡ Err CodeError.Unknown
  unfolding catalogue_of article_entries not_judged
  not_listed = rw (not_among code article_codes h tt, not_among code not_judged_codes h tt) refl

  not_advised : advised_of code ≡ Err CodeError.Unknown
  unfolding advised_of
  not_advised = ap (λ l. together l (row_of reaction_table code)) not_listed

  pub greater_code_unknown : (v limit : ℤ) → coded_question code v limit ≡ Err Refusal.CodeUnknown
  unfolding coded_question
  greater_code_unknown v limit = ap (λ l. asked code l v limit) not_advised

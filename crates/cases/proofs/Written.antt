-- What an output holds, once a line is on it.
use Rattle.std.proofs.Common.{◌≡◌, ℕ, List, [], ◌∷◌, ◌++◌, take, Option, Some, None, IfSome, Result, OnOk, refl, ap, subst, ◌∙◌, append-nil}
use Rattle.std.specs.Io.KnownBytes.{append_known, Appends, Keeps}
use Rattle.std.specs.Fmt.{WritesText, with_newline}
use Rattle.std.proofs.KnownBytes.{Appends-kept, Appends-of_writes}
use Rattle.std.proofs.lemmas.Result.{on_ok_weaker}
use Rattle.cases.specs.declared.line.output.LineOutput.{LineOutput}
use Rattle.cases.specs.inner.LineKnown.{known}

nothing_known : (held : Option (List ℕ)) (gathered : List ℕ) → gathered ≡ [] → append_known held gathered ≡ held
nothing_known None gathered e = refl
nothing_known (Some bytes) gathered e = ap (λ l. Some (bytes ++ l)) e ∙ ap Some (append-nil bytes)

-- nothing was gathered before
pub first_gathered : (held new : Option (List ℕ)) (gathered text : List ℕ) → gathered ≡ [] → Appends (append_known held gathered) new text → Appends held new text
first_gathered held new gathered text e a = subst (λ x. Appends x new text) (nothing_known held gathered e) a

-- a value's pieces are its text, and its line's end; nothing is gathered after them
module _ {O : Type 0} (held : O → Option (List ℕ)) (old between new : LineOutput O) where
  abbrev Holds : List ℕ → Type 0
  Holds text = (new.output.ghost_name ≡ old.output.ghost_name) × Appends (known held old) (held new.output.now) (text ++ 10 ∷ [])

  shown : (text : Option (List ℕ)) → WritesText (λ line more longer. (longer.output.ghost_name ≡ line.output.ghost_name) × Appends (known held line) (known held longer) more) old (with_newline text) between
      → new.output.ghost_name ≡ between.output.ghost_name → take new.line.length new.line.room ≡ [] → Keeps (known held between) (known held new) → IfSome text Holds
  shown None w same e kept = tt
  shown (Some bytes) w same e kept =
      let (kept_name, appended) = Appends-of_writes (λ line. line.output.ghost_name) (known held) old (bytes ++ 10 ∷ []) between w in
      (same ∙ kept_name, subst (λ x. Appends (known held old) x (bytes ++ 10 ∷ [])) (nothing_known (held new.output.now) _ e) (Appends-kept _ _ _ _ appended kept))

  pub displayed : {E : Type 0} (result : Result (Unit {0}) E) (text : Option (List ℕ))
      → WritesText (λ line more longer. (longer.output.ghost_name ≡ line.output.ghost_name) × Appends (known held line) (known held longer) more) old (with_newline text) between
      → new.output.ghost_name ≡ between.output.ghost_name → OnOk result (Keeps (known held between) (known held new)) → take new.line.length new.line.room ≡ []
      → OnOk result (IfSome text Holds)
  displayed result text w same kept e = on_ok_weaker result (shown text w same e) kept

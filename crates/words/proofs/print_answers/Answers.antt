-- A record of an accepted sheet is of a known kind.
use Rattle.std.specs.Option.{option_map}
use Rattle.std.proofs.Common.{◌≡◌, ap, sym, ◌∙◌, refl, ◌<◌, ◌+◌, ℕ, List, ◌∷◌, length, drop, drop-cons, add-one, is_ok, ok_or, Ok, Option, None, Some, IsOk, IsSome}
use Rattle.question.specs.declared.refusal.Refusal.{Refusal}
use Rattle.record.specs.declared.Kind.{Kind}
use Rattle.record.specs.Numbers.{byte_at}
use Rattle.record.specs.Kinds.{kind_of}
use Rattle.record.specs.Records.{record_of}
use Rattle.record.specs.SheetCheck.{fault_after}
use Rattle.record.proofs.Scan.{known_here}
use Rattle.words.proofs.print_answers.Goals as goal

record_there : (s : List ℕ) (at : ℕ) → at < length s → fault_after 0 (drop at s) ≡ Ok tt → IsSome (option_map (λ kind. record_of kind (drop (at + 1) s)) (kind_of (byte_at s at)))
record_there s at inside faultless = go (kind_of (byte_at s at)) (known_here here (ap is_ok faultless))
  where
    here : drop at s ≡ byte_at s at ∷ drop (at + 1) s
    here = drop-cons s at 0 inside ∙ ap (λ (n : ℕ). byte_at s at ∷ drop n s) (sym (add-one at))

    go : (k : Option Kind) → IsOk (ok_or k Refusal.KindUnknown) → IsSome (option_map (λ kind. record_of kind (drop (at + 1) s)) k)
    go None known = known
    go (Some kind) known = refl

pub unwrap-given-requires : goal.unwrap-given-requires
unwrap-given-requires g c = rw c.record_at.ensures (record_there _ _ c.loop-at-test.true c.loop-at.invariant.faultless)

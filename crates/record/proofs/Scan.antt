-- The scan for faults and the records of a sheet, from a record's first byte on: what lies within the sheet, and what follows. Assumes nothing.
use borrow.Author.Tests.{leb-true}
use native.Mathlib.Decide.{dec_lt}
use Rattle.std.proofs.lemmas.List.{length-drop}
use Rattle.std.proofs.Common.{◌≡◌, ap, sym, ◌∙◌, refl, ℕ, zero, suc, ◌≤◌, ◌<◌, Bool, true, false, cond, leb, List, [], ◌∷◌, length, drop, arith, ◌+◌, drop-cons, drop-drop, add-one, is_ok, Result, Option, None, Some, is_some, IsOk, subst, Ok, Err, ok_or}
use Rattle.record.specs.declared.Kind.{Kind}
use Rattle.record.specs.declared.Record.{Record}
use Rattle.record.specs.Numbers.{byte_at}
use Rattle.record.specs.Kinds.{kind_of, known_kind, body_length, body_after}
use Rattle.record.specs.Records.{record_of, record_before, records_after, records}
use Rattle.record.specs.SheetCheck.{fault_after, sheet_check}
use Rattle.question.specs.declared.refusal.Refusal.{Refusal}

-- ---- passing the bytes of a body
fault_passed : (n : ℕ) (l : List ℕ) → n ≤ length l → fault_after n l ≡ fault_after 0 (drop n l)
unfolding fault_after
fault_passed zero l h = refl
fault_passed (suc n) [] h = absurd (omega arith)
fault_passed (suc n) (b ∷ l) h = fault_passed n l (omega arith)

fault_cut_short : (n : ℕ) (l : List ℕ) → length l < n → fault_after n l ≡ Err Refusal.RecordCutShort
unfolding fault_after
fault_cut_short zero l h = absurd (omega arith)
fault_cut_short (suc n) [] h = refl
fault_cut_short (suc n) (b ∷ l) h = fault_cut_short n l (omega arith)

records_passed : (n : ℕ) (l : List ℕ) → records_after n l ≡ records_after 0 (drop n l)
unfolding records_after
records_passed zero l = refl
records_passed (suc n) [] = refl
records_passed (suc n) (b ∷ l) = records_passed n l

-- ---- a record's first byte, and the bytes after it
module _ {rest : List ℕ} {first : ℕ} {after : List ℕ} (here : rest ≡ first ∷ after) where
  fault_here : (k : Option Kind) → kind_of first ≡ k → fault_after 0 rest ≡ cond (is_some k) (fault_after (body_after k) after) (Err Refusal.KindUnknown)
  unfolding fault_after
  fault_here k e = ap (fault_after 0) here ∙ ap (λ (k : Option Kind). cond (is_some k) (fault_after (body_after k) after) (Err Refusal.KindUnknown)) e

  pub fault_unknown : {why : Refusal} → known_kind first ≡ Err why → fault_after 0 rest ≡ Err why
  fault_unknown {why} e = go (kind_of first) refl e
    where
      go : (k : Option Kind) → kind_of first ≡ k → ok_or k Refusal.KindUnknown ≡ Err why → fault_after 0 rest ≡ Err why
      go None p q = let z = fault_here None p in cc
      go (Some kind) p q = cc

  known : {kind : Kind} → known_kind first ≡ Ok kind → kind_of first ≡ Some kind
  known {kind} e = go (kind_of first) refl e
    where
      go : (k : Option Kind) → kind_of first ≡ k → ok_or k Refusal.KindUnknown ≡ Ok kind → kind_of first ≡ Some kind
      go None p q = cc
      go (Some kind) p q = cc

  pub fault_short : {kind : Kind} → known_kind first ≡ Ok kind → length after < body_length kind → fault_after 0 rest ≡ Err Refusal.RecordCutShort
  fault_short {kind} e h = fault_here _ (known e) ∙ fault_cut_short (body_length kind) after h

  pub fault_later : {kind : Kind} → known_kind first ≡ Ok kind → body_length kind ≤ length after → fault_after 0 rest ≡ fault_after 0 (drop (body_length kind) after)
  fault_later {kind} e h = fault_here _ (known e) ∙ fault_passed (body_length kind) after h

  pub records_here : {kind : Kind} → known_kind first ≡ Ok kind → records rest ≡ record_of kind after ∷ records (drop (body_length kind) after)
  unfolding records_after
  records_here {kind} e =
      ap records here
      ∙ ap (λ (k : Option Kind). record_before k after (records_after (body_after k) after)) (known e)
      ∙ ap (λ (l : List Record). record_of kind after ∷ l) (records_passed (body_length kind) after)

  -- a record of bytes without a fault is of a known kind and whole, and no fault follows
  module _ (faultless : IsOk (fault_after 0 rest)) where
    pub known_here : IsOk (known_kind first)
    known_here = go (known_kind first) refl
      where
        go : (k : Result Kind Refusal) → known_kind first ≡ k → IsOk k
        go (Ok kind) e = refl
        go (Err why) e = let z = fault_unknown e in cc

    pub whole_here : {kind : Kind} → known_kind first ≡ Ok kind → body_length kind ≤ length after
    whole_here {kind} e = go (dec_lt (length after) (body_length kind))
      where
        go : Dec (length after < body_length kind) → body_length kind ≤ length after
        go (yes h) = let z = fault_short e h in cc
        go (no h) = omega arith

    pub faultless_later : {kind : Kind} → known_kind first ≡ Ok kind → IsOk (fault_after 0 (drop (body_length kind) after))
    faultless_later e = subst IsOk (fault_later e (whole_here e)) faultless

-- the same by the position of the record's first byte
abbrev pub next_at : List ℕ → ℕ → ℕ
next_at s at = at + 1 + body_after (kind_of (byte_at s at))

module _ (s : List ℕ) (at : ℕ) (inside : at < length s) where
  from_here : drop at s ≡ byte_at s at ∷ drop (at + 1) s
  from_here = drop-cons s at 0 inside ∙ ap (λ (n : ℕ). byte_at s at ∷ drop n s) (sym (add-one at))

  pub whole_record : fault_after 0 (drop at s) ≡ Ok tt → (next_at s at ≤ length s) × (fault_after 0 (drop (next_at s at) s) ≡ Ok tt)
  whole_record e = go (known_kind (byte_at s at)) refl
    where
      faultless : IsOk (fault_after 0 (drop at s))
      faultless = ap is_ok e

      go : (k : Result Kind Refusal) → known_kind (byte_at s at) ≡ k → (next_at s at ≤ length s) × (fault_after 0 (drop (next_at s at) s) ≡ Ok tt)
      go (Ok kind) p =
          let next : at + 1 + body_length kind ≡ next_at s at = ap (λ (k : Option Kind). at + 1 + body_after k) (sym (known from_here p)) in
          let within = whole_here from_here faultless p in
          let later : fault_after 0 (drop (at + 1 + body_length kind) s) ≡ Ok tt =
          ap (fault_after 0) (sym (drop-drop (body_length kind) (at + 1) s)) ∙ sym (fault_later from_here p within) ∙ e in
          (omega (arith, simp length-drop at within), rw (← next) later)
      go (Err why) p = let z = fault_unknown from_here p in cc

-- an accepted sheet has at most 8,192 bytes and no fault
pub accepted_sheet : (s : List ℕ) → sheet_check s ≡ Ok tt → (length s ≤ 8192) × (fault_after 0 s ≡ Ok tt)
accepted_sheet s e = go (leb (length s) 8192) refl e
  where
    go : (b : Bool) → leb (length s) 8192 ≡ b → cond b (fault_after 0 s) (Err Refusal.SheetTooLong) ≡ Ok tt → (length s ≤ 8192) × (fault_after 0 s ≡ Ok tt)
    go true p h = (leb-true _ _ p, h)
    go false p h = cc

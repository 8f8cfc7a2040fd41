-- Refusals 10 to 12 come from a sheet's length and kinds alone: two sheets with the same are checked alike. Assumes nothing.
use Rattle.std.specs.Prelude.{⊤}
use Rattle.std.proofs.Common.{◌≡◌, ap, sym, ◌∙◌, refl, ℕ, zero, suc, cond, leb, List, [], ◌∷◌, length, arith, Option, is_some, Err, Result}
use Rattle.record.specs.declared.Kind.{Kind}
use Rattle.record.specs.Kinds.{kind_of, body_after}
use Rattle.record.specs.SheetCheck.{fault_after, sheet_check}
use Rattle.question.specs.declared.refusal.Refusal.{Refusal}

-- the kinds of a sheet's records, if known, where so many bytes of a body are left to pass over first
unfoldable pub kinds_after : ℕ → List ℕ → List (Option Kind)
kinds_after left [] = []
kinds_after (suc left) (byte ∷ rest) = kinds_after left rest
kinds_after zero (kind ∷ rest) = kind_of kind ∷ kinds_after (body_after (kind_of kind)) rest

abbrev pub kinds : List ℕ → List (Option Kind)
kinds = kinds_after 0

head_same : {a b : Option Kind} {l m : List (Option Kind)} → (a ∷ l) ≡ (b ∷ m) → a ≡ b
head_same e = cc

tail_same : {a b : Option Kind} {l m : List (Option Kind)} → (a ∷ l) ≡ (b ∷ m) → l ≡ m
tail_same e = cc

fault_by_kinds : (n : ℕ) (l m : List ℕ) → length l ≡ length m → kinds_after n l ≡ kinds_after n m → fault_after n l ≡ fault_after n m
unfolding fault_after kinds_after
fault_by_kinds n [] [] e h = refl
fault_by_kinds n [] (b ∷ m) e h = absurd (omega arith)
fault_by_kinds n (a ∷ l) [] e h = absurd (omega arith)
fault_by_kinds (suc n) (a ∷ l) (b ∷ m) e h = fault_by_kinds n l m (omega arith) h
fault_by_kinds zero (a ∷ l) (b ∷ m) e h =
    let k = head_same h in
    let t : kinds_after (body_after (kind_of a)) l ≡ kinds_after (body_after (kind_of a)) m = tail_same h ∙ ap (λ (k : Option Kind). kinds_after (body_after k) m) (sym k) in
    ap (λ (c : Result ⊤ Refusal). cond (is_some (kind_of a)) c (Err Refusal.KindUnknown)) (fault_by_kinds (body_after (kind_of a)) l m (omega arith) t)
    ∙ ap (λ (k : Option Kind). cond (is_some k) (fault_after (body_after k) m) (Err Refusal.KindUnknown)) k

pub check_by_kinds : (s t : List ℕ) → length s ≡ length t → kinds s ≡ kinds t → sheet_check s ≡ sheet_check t
check_by_kinds s t e h =
    ap (λ (n : ℕ). cond (leb n 8192) (fault_after 0 s) (Err Refusal.SheetTooLong)) e
    ∙ ap (λ (c : Result ⊤ Refusal). cond (leb (length t) 8192) c (Err Refusal.SheetTooLong)) (fault_by_kinds 0 s t e h)

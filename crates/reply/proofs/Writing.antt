-- Bytes stored one after the other are a run stored, and where a run that is stored stands in its area. Assumes nothing.
use Rattle.std.proofs.lemmas.List.{length-drop, take_rest, append-nil}
use Rattle.std.proofs.Common.{◌≡◌, ap, sym, ◌∙◌, ℕ, suc, ◌+◌, ◌-◌, ◌≤◌, List, [], ◌∷◌, ◌++◌, length, take, drop, arith, add-one, drop-drop}
use mathlib.Core.List.{append_assoc}
use native.Mathlib.Nat.{zero-add}
use borrow.Rule.Slice.PartMut.{mid_of, put_mid}
use lib.ListN.{set, drop_of_length-le}
use lib.Seq.{sets, sets-eq}

pub two_stores : (d : List ℕ) (w a b : ℕ) → set (set d w a) (w + 1) b ≡ sets d w (a ∷ b ∷ [])
two_stores d w a b = ap (λ (n : ℕ). set (set d w a) n b) (add-one w)

-- (These two are docs/PORT.md's: no proof cites them.)
pub four_stores : (d : List ℕ) (w a b c e : ℕ) → set (set (set (set d w a) (w + 1) b) (w + 2) c) (w + 3) e ≡ sets d w (a ∷ b ∷ c ∷ e ∷ [])
four_stores d w a b c e =
    ap (λ (n : ℕ). set (set (set (set d w a) n b) (w + 2) c) (w + 3) e) (add-one w)
    ∙ ap (λ (n : ℕ). set (set (set (set d w a) (suc w) b) n c) (w + 3) e) {x = w + 2} {y = suc (suc w)} (omega arith)
    ∙ ap (λ (n : ℕ). set (set (set (set d w a) (suc w) b) (suc (suc w)) c) n e) {x = w + 3} {y = suc (suc (suc w))} (omega arith)

-- a byte, then a run
pub one_then : (d : List ℕ) (w a : ℕ) (xs : List ℕ) → sets (set d w a) (w + 1) xs ≡ sets d w (a ∷ xs)
one_then d w a xs = ap (λ (n : ℕ). sets (set d w a) n xs) (add-one w)

-- a run stored from the start on, and the rest of the area
pub stored_first : (bytes area : List ℕ) → length bytes ≤ length area → sets area 0 bytes ≡ bytes ++ drop (length bytes) area
stored_first bytes area h = sets-eq bytes area 0 (omega arith) ∙ ap (λ (n : ℕ). bytes ++ drop n area) (zero-add (length bytes))

-- a run stored at the start of what is left from a position on
pub stored_from : (area bytes : List ℕ) (at : ℕ) → at + length bytes ≤ length area
    → put_mid at (length area - at) area (sets (mid_of at (length area - at) area) 0 bytes) ≡ sets area at bytes
stored_from area bytes at h =
    ap (λ (l : List ℕ). take at area ++ (sets l 0 bytes ++ drop (length area - at) (drop at area))) (take_rest area at)
    ∙ ap (λ (l : List ℕ). take at area ++ (sets (drop at area) 0 bytes ++ l)) (drop_of_length-le (drop at area) (simp length-drop (omega arith)))
    ∙ ap (λ (l : List ℕ). take at area ++ l) (append-nil (sets (drop at area) 0 bytes) ∙ stored_first bytes (drop at area) (simp length-drop (omega arith)))
    ∙ ap (λ (l : List ℕ). take at area ++ (bytes ++ l)) (drop-drop (length bytes) at area)
    ∙ sym (append_assoc (take at area) bytes (drop (at + length bytes) area)) ∙ sym (sets-eq bytes area at h)

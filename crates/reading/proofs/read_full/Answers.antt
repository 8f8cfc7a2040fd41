-- One read more: what stood before it stays, and what it gave follows.
use Rattle.std.proofs.Common.{◌≡◌, ℕ, ◌+◌, ◌-◌, ◌≤◌, List, ◌++◌, rules, arith, length, take, slice_range, sym, ap, ◌∙◌, subst, le_refl, drop_at, length-take-le}
use Rattle.std.proofs.lemmas.Slice.{take-put_mid_below}
use Rattle.std.specs.Io.KnownBytes.{Consumes}
use Rattle.std.proofs.KnownBytes.{Consumes-trans}
use borrow.Rule.Slice.PartMut.{put_mid, post_of}
use lib.Seq.{take-add, take-append-le}
use Rattle.reading.proofs.read_full.Goals as goal

part_put : (a k n : ℕ) (xs ys : List ℕ) → a ≤ length xs → n ≤ length ys → slice_range (put_mid a k xs ys) a (a + n) ≡ take n ys
part_put a k n xs ys within fits =
    let same : (a + n) - a ≡ n = omega arith in
    let after = post_of a k xs in
    ap (take ((a + n) - a)) (drop_at (take a xs) (ys ++ after) a (length-take-le a xs within)) ∙ ap (λ m. take m (ys ++ after)) same ∙ take-append-le n ys after fits

joined : (a n : ℕ) (old new : List ℕ) → take a new ≡ take a old → take a old ++ slice_range new a (a + n) ≡ take (a + n) new
joined a n old new front =
    let same : a + ((a + n) - a) ≡ a + n = omega arith in
    ap (λ l. l ++ slice_range new a (a + n)) (sym front) ∙ sym (take-add a ((a + n) - a) new) ∙ ap (λ m. take m new) same

pub loop-at-preserved : goal.loop-at-preserved
loop-at-preserved g c =
    let at = c.loop-at.at in
    let n = c.in_ok-n.n in
    let old = c.loop-at.room in
    let room = length old - at in
    let got = c.read.new.buf in
    let new = put_mid at room old got in
    let given = c.in_ok-n.ensures in
    let within = c.loop-at.invariant.1 in
    let all : take at old ++ take n got ≡ take (at + n) new = ap (λ l. take at old ++ l) (sym (part_put at room n old got within given.bound.0)) ∙ joined at n old new (take-put_mid_below _ _ _ _ _ (le_refl _) within) in
    (search rules, search rules, subst (Consumes _ _) all (Consumes-trans _ _ _ _ _ c.loop-at.invariant.2 given.bytes.0))

-- `screen::drawing_of` meets its contract: the delay is left out exactly if d is 0, the arc exactly if G is 0.
use mathlib.Core.Path.{◌≡◌, sym, ap, ap₂, subst, ◌∙◌}
use mathlib.Core.Bool.{Bool, true, false}
use mathlib.Core.List.{List, [], ◌∷◌}
use Prim.Native.Nat.{ℕ}
use lib.Dec.{eqb}
use borrow.Author.Tests.{eq-eqb, ne_eqb}
use Rattle.path.specs.declared.SensedQuestion.{SensedQuestion}
use Rattle.path.specs.declared.Side.{Side}
use Rattle.path.specs.Letters.{d}
use Rattle.path.proofs.SideSizes.{sized_of}
use Rattle.pieces.specs.Pieces.{missing_speed, delay_piece, arc_piece, last_piece, unless}
use Rattle.pieces.specs.inner.PieceSizes.{PieceSizes}
use Rattle.pieces.proofs.Fields.{delay_sizes, arc_sizes, last_sizes}
use Rattle.screen.specs.declared.DrawnPiece.{DrawnPiece}
use Rattle.screen.specs.Drawings.{drawn_piece, all_drawn, drawn_pieces}
use Rattle.screen.proofs.drawing_of.Goals as goal

-- the pieces by the two tests
by_tests : (side : Side) (s : SensedQuestion) (b c : Bool) → eqb (d s) 0 ≡ b → eqb (missing_speed side s) 0 ≡ c → all_drawn (unless b (delay_piece side s) (unless c (arc_piece side s) (last_piece side s ∷ []))) ≡ drawn_pieces side s
unfolding drawn_pieces
by_tests side s b c e f = ap₂ (λ (x y : Bool). all_drawn (unless x (delay_piece side s) (unless y (arc_piece side s) (last_piece side s ∷ [])))) (sym e) (sym f)

-- G as the code finds it is 0, or is not
no_gap : (side : Side) (s : SensedQuestion) {g : ℕ} → g ≡ missing_speed side s → g ≡ 0 → eqb (missing_speed side s) 0 ≡ true
no_gap side s e z = eq-eqb _ 0 (sym e ∙ z)

some_gap : (side : Side) (s : SensedQuestion) {g : ℕ} → g ≡ missing_speed side s → ¬ (g ≡ 0) → eqb (missing_speed side s) 0 ≡ false
some_gap side s e z = ne_eqb _ 0 (λ f. z (e ∙ f))

same_two : {p p' q q' : DrawnPiece} → p ≡ p' → q ≡ q' → ◌≡◌ {A = List DrawnPiece} (p ∷ q ∷ []) (p' ∷ q' ∷ [])
same_two e f = cc

same_three : {p p' q q' r r' : DrawnPiece} → p ≡ p' → q ≡ q' → r ≡ r' → ◌≡◌ {A = List DrawnPiece} (p ∷ q ∷ r ∷ []) (p' ∷ q' ∷ r' ∷ [])
same_three e f g = cc

pub drawn_piece-last-requires : goal.drawn_piece-last-requires
drawn_piece-last-requires c = subst PieceSizes (sym c.last_piece.ensures) (last_sizes c.args.asked.side c.args.asked.question.sensed (sized_of c.args.asked))

pub returns-then-asked-eq0 : goal.returns-then-asked-eq0
returns-then-asked-eq0 c =
    ap (λ (p : DrawnPiece). p ∷ []) (c.drawn_piece-last.ensures ∙ ap drawn_piece c.last_piece.ensures)
    ∙ (by_tests c.args.asked.side c.args.asked.question.sensed true true (eq-eqb _ 0 c.if-asked-eq0.true) (no_gap c.args.asked.side c.args.asked.question.sensed c.missing_speed.ensures c.if-missing_speed-eq0.true))

pub drawn_piece-requires : goal.drawn_piece-requires
drawn_piece-requires c = subst PieceSizes (sym c.delay_piece.ensures) (delay_sizes c.args.asked.side c.args.asked.question.sensed (sized_of c.args.asked))

pub returns-then-missing_speed-eq0 : goal.returns-then-missing_speed-eq0
returns-then-missing_speed-eq0 c =
    same_two (c.drawn_piece.ensures ∙ ap drawn_piece c.delay_piece.ensures) (c.drawn_piece-last.ensures ∙ ap drawn_piece c.last_piece.ensures)
    ∙ (by_tests c.args.asked.side c.args.asked.question.sensed false true (ne_eqb _ 0 c.if-asked-eq0.false) (no_gap c.args.asked.side c.args.asked.question.sensed c.missing_speed.ensures c.if-missing_speed-eq0.true))

pub drawn_piece-arc-requires : goal.drawn_piece-arc-requires
drawn_piece-arc-requires c = subst PieceSizes (sym c.arc_piece.ensures) (arc_sizes c.args.asked.side c.args.asked.question.sensed (sized_of c.args.asked))

pub returns-then-asked-eq0-2 : goal.returns-then-asked-eq0-2
returns-then-asked-eq0-2 c =
    same_two (c.drawn_piece-arc.ensures ∙ ap drawn_piece c.arc_piece.ensures) (c.drawn_piece-last.ensures ∙ ap drawn_piece c.last_piece.ensures)
    ∙ (by_tests c.args.asked.side c.args.asked.question.sensed true false (eq-eqb _ 0 c.if-asked-eq0-2.true) (some_gap c.args.asked.side c.args.asked.question.sensed c.missing_speed.ensures c.if-missing_speed-eq0.false))

pub drawn_piece-requires-2 : goal.drawn_piece-requires-2
drawn_piece-requires-2 c = subst PieceSizes (sym c.delay_piece-2.ensures) (delay_sizes c.args.asked.side c.args.asked.question.sensed (sized_of c.args.asked))

pub returns : goal.returns
returns c =
    same_three (c.drawn_piece-2.ensures ∙ ap drawn_piece c.delay_piece-2.ensures) (c.drawn_piece-arc.ensures ∙ ap drawn_piece c.arc_piece.ensures)
    (c.drawn_piece-last.ensures ∙ ap drawn_piece c.last_piece.ensures)
    ∙ (by_tests c.args.asked.side c.args.asked.question.sensed false false (ne_eqb _ 0 c.if-asked-eq0-2.false) (some_gap c.args.asked.side c.args.asked.question.sensed c.missing_speed.ensures c.if-missing_speed-eq0.false))

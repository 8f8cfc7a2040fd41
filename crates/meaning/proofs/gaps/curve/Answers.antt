-- `gaps::curve` meets its contract: each product fits, and the numerator is the definition's.
use mathlib.Core.Path.{refl, sym, subst}
use Prim.Native.Nat.{◌*◌}
use Rattle.path.specs.inner.Sizes.{max_speed_after_delay}
use Rattle.integers.proofs.Machine.{bounded_absolute, bounded_word, fits, result}
use Rattle.conflict.specs.inner.RuleSizes.{most_bend}
use Rattle.conflict.proofs.Fields.{numbers}
use Rattle.meaning.specs.inner.Fractions.{SizedFraction, most_level, curve}
use Rattle.meaning.proofs.Fields.{most_product, product_size, most_square, square_size, same_fraction, curve_sized}
use Rattle.meaning.proofs.gaps.curve.Goals as goal

pub overflow_mul-result : goal.overflow_mul-result
overflow_mul-result c =
    let t = c.args.t in
    let level = bounded_absolute c.args.level most_level c.requires.level_size in
    let square = bounded_word (t.m * t.m) most_square (square_size t.n t.m c.requires.compared) in
    fits (search numbers depth 20) tt

pub overflow_mul-result-3 : goal.overflow_mul-result-3
overflow_mul-result-3 c =
    let t = c.args.t in
    let speed = bounded_absolute c.args.speed max_speed_after_delay c.requires.speed_size in
    let product = bounded_word (t.n * t.m) most_product (product_size t.n t.m c.requires.compared) in
    fits (search numbers depth 20) tt

pub overflow_add-result : goal.overflow_add-result
overflow_add-result c =
    let t = c.args.t in
    let speed = bounded_absolute c.args.speed max_speed_after_delay c.requires.speed_size in
    let product = bounded_word (t.n * t.m) most_product (product_size t.n t.m c.requires.compared) in
    let gained = bounded_absolute c.args.gained most_bend c.requires.gained_size in
    fits (search numbers depth 20) tt

pub overflow_sub-result : goal.overflow_sub-result
overflow_sub-result c =
    let t = c.args.t in
    let level = bounded_absolute c.args.level most_level c.requires.level_size in
    let speed = bounded_absolute c.args.speed max_speed_after_delay c.requires.speed_size in
    let gained = bounded_absolute c.args.gained most_bend c.requires.gained_size in
    let square = bounded_word (t.m * t.m) most_square (square_size t.n t.m c.requires.compared) in
    let product = bounded_word (t.n * t.m) most_product (product_size t.n t.m c.requires.compared) in
    fits (search numbers depth 20) tt

pub returns-clause-is : goal.returns-clause-is
unfolding curve
returns-clause-is c =
    let t = c.args.t in
    let level = bounded_absolute c.args.level most_level c.requires.level_size in
    let speed = bounded_absolute c.args.speed max_speed_after_delay c.requires.speed_size in
    let gained = bounded_absolute c.args.gained most_bend c.requires.gained_size in
    let square = bounded_word (t.m * t.m) most_square (square_size t.n t.m c.requires.compared) in
    let product = bounded_word (t.n * t.m) most_product (product_size t.n t.m c.requires.compared) in
    same_fraction (result (search numbers depth 20) tt) refl

pub returns-clause-sized : goal.returns-clause-sized
returns-clause-sized c =
    subst SizedFraction (sym (returns-clause-is c))
    (curve_sized c.args.t.n c.args.t.m c.requires.compared c.args.level c.args.speed c.args.gained c.requires.level_size c.requires.speed_size c.requires.gained_size)

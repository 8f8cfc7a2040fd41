-- `advisory::reaction_to` meets its contract: the first row that passes the closure's test is the first with the code.
use Rattle.std.proofs.Common.{◌∙◌, rules}
use Rattle.std.proofs.lemmas.Iterator.{YieldsList-from_slice}
use Rattle.std.proofs.lemmas.Iterator.Search.{find_from_yields_List}
use borrow.Author.Tests.{tests}
use lib.Dec.{eqb}
use Rattle.advisory.specs.ReactionTable.{reaction_table}
use Rattle.advisory.specs.declared.Reaction.{Reaction}
use Rattle.advisory.proofs.reaction_to.Goals as goal

pub returns : goal.returns
unfolding reaction_table
returns c =
    c.copied.ensures ∙ find_from_yields_List (λ (r : Reaction). eqb r.code c.args.code) c.find.new.self _ c.find.result c.find.ensures.ran
    (YieldsList-from_slice reaction_table cc)
    (λ x b q k. search (rules, tests))

-- M1 to M15, and the two-sided questions with a delay: the judge's answer to each is the one in the table, by computation.
use mathlib.Core.Path.{◌≡◌, refl}
use mathlib.Core.List.{map}
use Rattle.advisory.specs.Catalogue.{article_entries, not_judged, catalogue_of}
use Rattle.advisory.specs.ReactionTable.{reaction_table}
use Rattle.advisory.specs.Advised.{advised_of}
use Rattle.shown.specs.TimeShown.{time_shown}
use Rattle.judge.specs.Answers.{answer}
use Rattle.judge.specs.Examples.{Example, examples, delayed_examples}
use Rattle.judge.proofs.ExampleAnswers.{answered}

pub examples_hold : map answered examples ≡ map (λ (m : Example). m.answer) examples
unfolding answer time_shown examples advised_of catalogue_of article_entries not_judged reaction_table
examples_hold = refl

pub delayed_hold : map answered delayed_examples ≡ map (λ (m : Example). m.answer) delayed_examples
unfolding answer time_shown delayed_examples
delayed_hold = refl

-- M1 to M6, M9 to M11, M14 and M15 through the figures: an example lies in the region exactly if the table calls it clear, by computation. Which examples
-- the test picks is computed too. Assumes nothing.
use mathlib.Core.Path.{◌≡◌, refl}
use mathlib.Core.List.{[], ◌∷◌, map}
use Rattle.advisory.specs.Catalogue.{article_entries, not_judged, catalogue_of}
use Rattle.advisory.specs.ReactionTable.{reaction_table}
use Rattle.advisory.specs.Advised.{advised_of}
use Rattle.sensed.specs.Sensed.{sensed_question}
use Rattle.judge.specs.Examples.{Example, examples}
use Rattle.region.specs.Regions.{L_expl, D_expl}
use Rattle.region.specs.inner.RegionExamples.{delayed_allowed, immediate_allowed, examples_with, in_region, is_clear}

-- Figure 5
pub delayed_examples_lem : map (in_region D_expl) (examples_with delayed_allowed) ≡ map is_clear (examples_with delayed_allowed)
unfolding D_expl sensed_question examples advised_of catalogue_of article_entries not_judged reaction_table
delayed_examples_lem = refl

pub delayed_names : map (λ (m : Example). m.name) (examples_with delayed_allowed) ≡ "M1" ∷ "M2" ∷ "M3" ∷ "M4" ∷ "M5" ∷ "M6" ∷ "M9" ∷ "M10" ∷ "M11" ∷ "M14" ∷ "M15" ∷ []
unfolding examples advised_of catalogue_of article_entries not_judged reaction_table
delayed_names = refl

-- Figure 3: M10 has a delay
pub immediate_examples : map (in_region L_expl) (examples_with immediate_allowed) ≡ map is_clear (examples_with immediate_allowed)
unfolding L_expl sensed_question examples advised_of catalogue_of article_entries not_judged reaction_table
immediate_examples = refl

pub immediate_names : map (λ (m : Example). m.name) (examples_with immediate_allowed) ≡ "M1" ∷ "M2" ∷ "M3" ∷ "M4" ∷ "M5" ∷ "M6" ∷ "M9" ∷ "M11" ∷ "M14" ∷ "M15" ∷ []
unfolding examples advised_of catalogue_of article_entries not_judged reaction_table
immediate_names = refl

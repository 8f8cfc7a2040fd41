-- What is printed of a verdict's meaning. Lengths are in grains, of which a foot has 60.
use Rattle.std.specs.Prelude.{Bool, true, false, List, ◌++◌, ◌==◌, ◌&&◌, ◌/◌, ◌%◌, ℕ, codes, if◌then◌else◌, None, Option, Some}
use Rattle.std.specs.Fmt.{decimal}
use Rattle.instant.specs.declared.Time.{Time}
use Rattle.instant.specs.Lowest.{lowest}
use Rattle.path.specs.declared.Side.{Side}
use Rattle.path.specs.declared.Side.TheVariants.{Lower, Upper}
use Rattle.verdict.specs.declared.ClearSides.{ClearSides}
use Rattle.meaning.specs.declared.gaps.Direction.{Direction}
use Rattle.meaning.specs.declared.gaps.Direction.TheVariants.{Above, Below}
use Rattle.meaning.specs.declared.gaps.Nearness.{Nearness}
use Rattle.meaning.specs.declared.gaps.Nearness.TheVariants.{Closer, Edge, Farther}
use Rattle.meaning.specs.declared.gaps.Gap.{Gap}
use Rattle.meaning.specs.declared.moments.Moment.{Moment}
use Rattle.meaning.specs.declared.moments.Moment.TheVariants.{WindowStart, DelayEnd, TurningInstant, WindowEnd, FirstWholeSecond}
use Rattle.meaning.specs.declared.Explained.{Explained}
use Rattle.meaning.specs.declared.Finding.{Finding}
use Rattle.meaning.specs.declared.Finding.TheVariants.{NeverNear, Clear, Conflict, Conflicts}
use Rattle.meaning.specs.declared.Meaning.{Meaning}
use Rattle.meaning.specs.Gaps.{clear_direction}

-- "100 ft", "116 2/3 ft", "2/3 ft", "0 ft": whole feet, and a fraction in lowest terms
abbrev pub mixed_feet : Time → List ℕ
mixed_feet t = if t.remainder == 0 then decimal t.seconds ++ codes " ft"
    else if t.seconds == 0 then decimal t.remainder ++ (codes "/" ++ (decimal t.divisor ++ codes " ft"))
    else decimal t.seconds ++ (codes " " ++ (decimal t.remainder ++ (codes "/" ++ (decimal t.divisor ++ codes " ft"))))

abbrev pub feet_text : ℕ → List ℕ
feet_text n = mixed_feet (lowest n 60)

-- "94.9 ft", with one decimal always
abbrev pub tenths_text : ℕ → List ℕ
tenths_text n = if n == 0 then codes "less than 0.1 ft" else decimal (n / 10) ++ (codes "." ++ (decimal (n % 10) ++ codes " ft"))

abbrev pub direction_text : Direction → List ℕ
direction_text Above = codes "above"
direction_text Below = codes "below"

-- ---- the moment, and the intruder as the subject of what follows; p is the puck's radius
abbrev pub is_limit : Option ℕ → ℕ → Bool
is_limit (Some last) seconds = last == seconds
is_limit None seconds = false

abbrev pub moment_text : ℕ → Option ℕ → Time → Moment → List ℕ
moment_text p limit t WindowStart = if t.remainder == 0 && t.seconds == 0 then codes "at the start; the intruder"
    else codes "as the intruder comes within " ++ (feet_text p ++ codes "; it")
moment_text p limit t DelayEnd = codes "as the delay ends; the intruder"
moment_text p limit t TurningInstant = codes "as the ownship's vertical speed comes to the intruder's; the intruder"
moment_text p limit t WindowEnd = if t.remainder == 0 && is_limit limit t.seconds then codes "at the time limit; the intruder"
    else codes "at the last instant within " ++ (feet_text p ++ codes "; the intruder")
moment_text p limit t FirstWholeSecond = codes "the first whole second in conflict; the intruder"

-- ---- where the intruder is; k is the puck's half height, which is given where it is the distance
abbrev pub size_text : ℕ → ℕ → Nearness → List ℕ
size_text k tenths Edge = feet_text k
size_text k tenths Closer = tenths_text tenths
size_text k tenths Farther = tenths_text tenths

abbrev pub directed_text : ℕ → ℕ → Nearness → Option Direction → List ℕ
directed_text k tenths near None = codes "level with the ownship"
directed_text k tenths near (Some direction) = size_text k tenths near ++ (codes " " ++ direction_text direction)

abbrev pub gap_text : ℕ → Gap → List ℕ
gap_text k g = directed_text k g.tenths g.nearness g.direction

-- ---- what that is by k
abbrev pub relation_text : ℕ → Direction → Nearness → List ℕ
relation_text k clear Closer = codes ", closer than " ++ feet_text k
relation_text k clear Edge = codes ", on the puck's edge"
relation_text k clear Farther = codes ", where only more than " ++ (feet_text k ++ (codes " " ++ (direction_text clear ++ codes " is clear")))

-- ---- a side in conflict, and one that is clear
abbrev pub explained_text : Meaning → Side → Explained → List ℕ
explained_text m side e =
    moment_text m.radius m.limit e.time e.moment
    ++ (codes " is "
    ++ (gap_text m.half_height e.gap
    ++ relation_text m.half_height (clear_direction side m.sense) e.gap.nearness))

abbrev pub path_text : Bool → Side → List ℕ
path_text false side = codes ""
path_text true Lower = codes " the lower path"
path_text true Upper = codes " the upper path"

abbrev pub limit_text : Option ℕ → List ℕ
limit_text (Some last) = codes ", up to the limit"
limit_text None = codes ""

abbrev pub clear_text : Meaning → Side → List ℕ
clear_text m side =
    codes "the intruder is more than "
    ++ (feet_text m.half_height
    ++ (codes " "
    ++ (direction_text (clear_direction side m.sense)
    ++ (path_text m.two_sided side
    ++ (codes " whenever it is within "
    ++ (feet_text m.radius
    ++ limit_text m.limit))))))

-- ---- the whole
abbrev pub away_text : ℕ → Option ℕ → List ℕ
away_text p (Some last) = codes "the intruder does not come within " ++ (feet_text p ++ codes " up to the limit")
away_text p None = codes "the intruder never comes within " ++ feet_text p

-- of two sides a line each, the second as far in as every line below an answer
abbrev pub two_lines : List ℕ → List ℕ → List ℕ
two_lines first second = first ++ (codes "\n    " ++ second)

abbrev pub finding_text : Meaning → Finding → List ℕ
finding_text m NeverNear = away_text m.radius m.limit
finding_text m (Clear ClearSides.Lower) = clear_text m Lower
finding_text m (Clear ClearSides.Upper) = clear_text m Upper
finding_text m (Clear ClearSides.Both) = two_lines (clear_text m Lower) (clear_text m Upper)
finding_text m (Conflict f) = explained_text m Lower f
finding_text m (Conflicts f j) = two_lines (codes "lower: " ++ explained_text m Lower f) (codes "upper: " ++ explained_text m Upper j)

abbrev pub meaning_text : Meaning → List ℕ
meaning_text m = finding_text m m.finding

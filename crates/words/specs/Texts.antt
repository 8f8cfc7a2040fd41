-- What is printed of an encounter, of a time, and of an instant that is named.
use Rattle.std.specs.Prelude.{Bool, true, false, List, ◌++◌, ◌||◌, ◌==◌, ℕ, codes, if◌then◌else◌, None, Option, Some, unwrap_or}
use Rattle.std.specs.Fmt.{decimal, signed_decimal}
use Rattle.instant.specs.declared.Instant.{Instant}
use Rattle.instant.specs.declared.Time.{Time}
use Rattle.instant.specs.Lowest.{lowest}
use Rattle.question.specs.declared.Encounter.{Encounter}
use Rattle.named_instant.specs.declared.Standing.{Standing}
use Rattle.named_instant.specs.declared.InstantAnswer.{InstantAnswer}
use Rattle.named_instant.specs.declared.InstantAnswer.TheVariants.{Judged, OutOfReach}
use Rattle.verdict.specs.declared.Verdict.{Verdict}
use Rattle.verdict.specs.declared.Verdict.TheVariants.{Clear, Conflict, Conflicts}

-- an encounter's letters, each with its number
abbrev pub encounter_text : Encounter → List ℕ
encounter_text x =
    codes "r " ++ (signed_decimal x.distance
    ++ (codes ", h " ++ (signed_decimal x.height
    ++ (codes ", c " ++ (signed_decimal x.closing_speed
    ++ (codes ", v " ++ (signed_decimal x.speed
    ++ (codes ", vi " ++ signed_decimal x.intruder_speed))))))))

-- "24 3/8 s", or "27 s" where the remainder is 0
abbrev pub time_text : Time → List ℕ
time_text t = if t.remainder == 0 then decimal t.seconds ++ codes " s"
    else decimal t.seconds ++ (codes " " ++ (decimal t.remainder ++ (codes "/" ++ (decimal t.divisor ++ codes " s"))))

-- as a time that is shown; n/0, which is no time, as it is
abbrev pub instant_text : Instant → List ℕ
instant_text t = if t.m == 0 then decimal t.n ++ codes "/0 s" else time_text (lowest t.n t.m)

-- what an instant is; its sides where it is in the window
abbrev pub sides_text : Bool → Option Bool → List ℕ
sides_text true None = codes "a conflict time"
sides_text false None = codes "in the window and no conflict time"
sides_text true (Some true) = codes "a conflict time on both sides"
sides_text true (Some false) = codes "a conflict time on the lower side and not on the upper"
sides_text false (Some true) = codes "a conflict time on the upper side and not on the lower"
sides_text false (Some false) = codes "in the window and no conflict time on either side"

abbrev pub standing_text : Standing → List ℕ
standing_text found = if found.in_window then sides_text found.lower found.upper else codes "outside the window"

-- Of a conflict time, what the judge shows; a clear verdict shows no time.
abbrev pub shown_text : Verdict → List ℕ
shown_text (Clear sides) = codes ""
shown_text (Conflict time) = codes "; the judge shows " ++ time_text time
shown_text (Conflicts lower upper) = codes "; the judge shows " ++ (time_text lower ++ (codes " on the lower side and " ++ (time_text upper ++ codes " on the upper")))

abbrev pub is_conflict_time : Standing → Bool
is_conflict_time found = found.lower || unwrap_or found.upper false

abbrev pub shown_after : Standing → Verdict → List ℕ
shown_after found verdict = if is_conflict_time found then shown_text verdict else codes ""

-- "17 1/2 s is a conflict time; the judge shows 27 s"
abbrev pub named_text : Instant → InstantAnswer → Verdict → List ℕ
named_text t OutOfReach verdict = instant_text t ++ codes " is out of the judge's reach"
named_text t (Judged found) verdict = instant_text t ++ (codes " is " ++ (standing_text found ++ shown_after found verdict))

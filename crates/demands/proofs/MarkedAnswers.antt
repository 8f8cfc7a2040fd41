-- Every row of the table of M1 to M15 is marked right: from the judge's theorem on the table, and what is proved of every answer. Assumes nothing.
use Rattle.path.specs.Instants.{Among}
use Rattle.question.specs.StartingSettings.{starting_settings}
use Rattle.judge.specs.Examples.{Example, examples}
use Rattle.judge.proofs.ExamplesRight.{all_proved}
use Rattle.demands.specs.Marked.{Marked}
use Rattle.demands.proofs.PlainAnswers.{answer_right}

pub marked : (m : Example) → Among m examples → Marked m
marked m h =
    let p = all_proved m h in
    record { question = p.question; asked = p.asked; accepted = p.accepted; answered = p.answered; right = answer_right m.encounter starting_settings p.question }

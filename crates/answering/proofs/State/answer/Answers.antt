-- A puck or an e is kept if its test says so, and gets no answer then.
use Rattle.std.proofs.Common.{rules}
use Rattle.answering.specs.States.{state_after}
use Rattle.answering.specs.Replies.{reply_to}
use Rattle.answering.proofs.Kept.{kept_state, kept_reply}
use Rattle.answering.proofs.State.answer.Goals as goal

pub returns-in-Puck-clause-left : goal.returns-in-Puck-clause-left
unfolding state_after
returns-in-Puck-clause-left c = rw (c.in-Puck.is, c.keep-in-Puck.ensures.left, c.with_puck.ensures, kept_state) (search rules)

pub returns-in-Puck-clause-reply : goal.returns-in-Puck-clause-reply
unfolding reply_to
returns-in-Puck-clause-reply c = rw (c.in-Puck.is, c.keep-in-Puck.ensures.reply, c.with_puck.ensures, kept_reply) (search rules)

pub returns-in-DelayAcceleration-clause-reply : goal.returns-in-DelayAcceleration-clause-reply
unfolding reply_to
returns-in-DelayAcceleration-clause-reply c = rw (c.in-DelayAcceleration.is, c.keep-in-DelayAcceleration.ensures.reply, c.with_delay_acceleration.ensures, kept_reply) (search rules)

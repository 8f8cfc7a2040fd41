-- The loop's invariant: the replies to come, stored from here on, make the whole answer, and so does their length with that of the replies so far.
use Rattle.std.proofs.Common.{◌≡◌, ◌+◌, length}
use Rattle.std.specs.List.{flat_map}
use lib.Seq.{sets}
use Rattle.reply.specs.AnswerBytes.{reply_bytes}
use Rattle.sheet.specs.WholeSheet.{sheet_answer}
use Rattle.sheet.specs.inner.Replies.{replies_left}
use Rattle.sheet.proofs.write_answer.Given as goal

abbrev pub invariant-loop-reply : goal.invariant-loop-reply
invariant-loop-reply l = record {
  can_next : (goal.iterator-loop-reply).can_next l.reply-iterator;
  is_finite : (goal.iterator-loop-reply).is_finite l.reply-iterator;
  counted : l.total + length (flat_map reply_bytes (replies_left l.reply-iterator)) ≡ length (sheet_answer l.sheet.bytes.now);
  stored : sets l.initial.area 0 (sheet_answer l.sheet.bytes.now) ≡ sets l.area l.total (flat_map reply_bytes (replies_left l.reply-iterator));
}

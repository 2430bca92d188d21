use borrow.Author.Tests.{lt-leb, le-leb}
use Rattle.unit.specs.Size.{result_header_size}
use Rattle.again.specs.LaidOut.{is_result_of}
use Rattle.again.proofs.is_result_of.Goals as goal

pub returns-then-res-lt-RESULT_HEADER : goal.returns-then-res-lt-RESULT_HEADER
unfolding is_result_of
returns-then-res-lt-RESULT_HEADER c = record { answer = rw (lt-leb result_header_size _ c.if-res-lt-RESULT_HEADER.true) }

pub returns : goal.returns
unfolding is_result_of
returns c =
    record { answer = rw (le-leb result_header_size _ c.if-res-lt-RESULT_HEADER.false, c.has_offsets.ensures.answer, c.output_room.ensures, c.word-n.ensures.value, c.word-l.ensures.value) }

use Rattle.std.proofs.Common.{◌≡◌, length}
use Rattle.wire_tests.proofs.writing.chunk_by_chunk.Given as goal

-- the body is the one that the message was begun with
abbrev pub invariant-loop : goal.invariant-loop
invariant-loop l = length l.body ≡ l.sending.begun.terms.length

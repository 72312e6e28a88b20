use Rattle.std.proofs.Common.{◌≤◌, ◌+◌, length}
use Rattle.media_tests.proofs.flv.feed_all.Given as goal

abbrev pub invariant-loop : goal.invariant-loop
invariant-loop l = length l.reader.fed + length l.rest ≤ length l.fn.reader.fed + length l.piece

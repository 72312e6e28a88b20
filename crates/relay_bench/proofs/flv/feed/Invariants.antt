use Rattle.std.proofs.Common.{◌≤◌, ◌+◌, length}
use Rattle.relay_bench.proofs.flv.feed.Given as goal

abbrev pub invariant-loop : goal.invariant-loop
invariant-loop l = length l.reader.fed + length l.rest ≤ length l.fn.reader.fed + length l.piece

use Rattle.std.proofs.Common.{◌≡◌, ◌++◌}
use Rattle.rtmp_handshake.specs.Answer.{random_bytes}
use Rattle.rtmp_handshake.proofs.answer.push_random.Given as goal

abbrev pub invariant-loop-i : goal.invariant-loop-i
invariant-loop-i l = l.list.items ≡ l.fn.list.items ++ random_bytes l.i

use Rattle.std.proofs.Common.{◌≡◌, ◌++◌, map, take}
use Rattle.relay_serve.specs.Counts.{counted_if}
use Rattle.relay_serve.specs.Texts.{lines_from}
use Rattle.relay_serve.proofs.counting.append_lines.Given as goal

abbrev pub invariant-loop-n : goal.invariant-loop-n
invariant-loop-n l = l.text.items ≡ l.fn.text.items ++ lines_from l.word 0 (map counted_if (take l.n l.list))

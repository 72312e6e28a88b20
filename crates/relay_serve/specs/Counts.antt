-- What is counted of the streams and the open tables, as the report has it
use Rattle.std.specs.Prelude.{ℕ, List, ◌++◌, codes, drop, map, take, Option, Some, None}
use Rattle.relay_serve.specs.declared.counting.Counts.{Counts}
use Rattle.relay_serve.specs.Texts.{Counted, lines_from}

abbrev pub counted_if : Option Counts → Option Counted
counted_if None = None
counted_if (Some c) = Some record { began = c.began; pushed = c.pushed; ended = c.ended; joined = c.joined; skips = c.skips }

-- THE REPORT: a line for each of the streams, of which there are so many, and then one for each open table
abbrev pub report_lines : ℕ → List (Option Counts) → List ℕ
report_lines streams counts =
    lines_from (codes "stream ") 0 (map counted_if (take streams counts)) ++ lines_from (codes "open ") 0 (map counted_if (drop streams counts))

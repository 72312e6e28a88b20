-- The line of an edge in the report: how it has ended, in the words of a replay
use Rattle.std.specs.Prelude.{ℕ, List, ◌++◌, codes, Option}
use Rattle.rtmp_client.specs.declared.end.ClientEnd.{ClientEnd}
use Rattle.origin_pull.specs.Words.{end_text}
use Rattle.origin_pull.specs.declared.end.EdgeEnd.{EdgeEnd}

-- THE LINE
abbrev pub edge_line : EdgeEnd → Option ClientEnd → List ℕ
edge_line e c = codes "edge " ++ end_text e c ++ codes "\n"

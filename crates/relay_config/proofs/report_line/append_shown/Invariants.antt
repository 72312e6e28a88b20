use Rattle.std.proofs.Common.{◌≡◌, ◌++◌, drop}
use Rattle.relay_config.specs.Report.{shown_text}
use Rattle.relay_config.proofs.report_line.append_shown.Given as goal

abbrev pub invariant-loop-b : goal.invariant-loop-b
invariant-loop-b l = l.line.items ++ shown_text l.before (drop l.b-index l.key) ≡ l.initial.line.items ++ shown_text 0 l.key

use Rattle.std.proofs.Common.{◌∙◌, [], take, rules}
use Rattle.relay_program.proofs.ReplaySteps.{piece_ahead, piece_stops, script_ends, source_kept, source_kept_by, stops_without_sink, ends_without_sink}
use Rattle.relay_program.proofs.replays.replay_lines.Goals as goal

pub loop-count-preserved : goal.loop-count-preserved
loop-count-preserved g c = record {
  fit = c.in_ok-piece-in-Bytes.ensures.fit;
  ahead = λ text e. piece_ahead c.loop-count.replay c.piece.new.self (take c.in-Bytes.count c.get.new.into) (g.S.Source.left c.loop-count.script)
      (g.S.Source.left c.get.new.self) text (c.loop-count.invariant.ahead text e) c.in-Bytes.ensures.bytes c.in_ok-piece-in-Bytes.ensures.goes;
  source = c.in-Bytes.ensures.cause ∙ c.loop-count.invariant.source;
}

pub returns-in_err-piece-in-Bytes-clause-ends : goal.returns-in_err-piece-in-Bytes-clause-ends
returns-in_err-piece-in-Bytes-clause-ends g c = λ text e.
    let h = piece_stops c.in_err-piece-in-Bytes.field-0.0 c.loop-count.replay (take c.in-Bytes.count c.get.new.into) (g.S.Source.left c.loop-count.script)
    (g.S.Source.left c.get.new.self) text (c.loop-count.invariant.ahead text e) c.in-Bytes.ensures.bytes c.in_err-piece-in-Bytes.ensures.goes in
    search (rules, h)

pub returns-in_err-piece-in-Bytes-clause-source : goal.returns-in_err-piece-in-Bytes-clause-source
returns-in_err-piece-in-Bytes-clause-source g c =
    let h = source_kept c.in_err-piece-in-Bytes.field-0.0 c.loop-count.replay (take c.in-Bytes.count c.get.new.into) (g.S.Source.faults c.args.script.now)
    (g.S.Source.faults c.get.new.self) (c.in_err-piece-in-Bytes.ensures.goes []) (c.in-Bytes.ensures.cause ∙ c.loop-count.invariant.source) in
    search (rules, h)

pub returns-in_err-piece-in-Bytes-clause-sink : goal.returns-in_err-piece-in-Bytes-clause-sink
returns-in_err-piece-in-Bytes-clause-sink g c =
    let h = stops_without_sink c.in_err-piece-in-Bytes.field-0.0 c.loop-count.replay (take c.in-Bytes.count c.get.new.into)
    (c.in_err-piece-in-Bytes.ensures.goes []) in
    search (rules, h)

pub returns-in-End-clause-ends : goal.returns-in-End-clause-ends
returns-in-End-clause-ends g c = λ text e.
    script_ends c.finish.result c.loop-count.replay (g.S.Source.left c.loop-count.script) text (c.loop-count.invariant.ahead text e) c.in-End.ensures.bytes.1
    c.finish.ensures

pub returns-in-End-clause-source : goal.returns-in-End-clause-source
returns-in-End-clause-source g c =
    source_kept_by c.finish.result c.loop-count.replay (g.S.Source.faults c.args.script.now) (g.S.Source.faults c.get.new.self) c.finish.ensures
    (c.in-End.ensures.cause ∙ c.loop-count.invariant.source)

pub returns-in-End-clause-sink : goal.returns-in-End-clause-sink
returns-in-End-clause-sink g c = ends_without_sink c.finish.result c.loop-count.replay c.finish.ensures

use Rattle.std.proofs.Common.{◌∙◌, ◌++◌, take, rules}
use Rattle.relay_program.proofs.Ahead.{piece_ahead, piece_fails, script_ends, part_written, stays_read, piece_read, end_read}
use Rattle.relay_program.proofs.Fails.{no_source_fault, no_source_fault_by, source_kept, source_kept_by, sink_faults, sink_faults_by}
use Rattle.relay_program.proofs.Whole.{whole_lines_written}
use Rattle.relay_program.proofs.drills.answer_lines.Goals as goal

pub loop-count-preserved : goal.loop-count-preserved
loop-count-preserved g c = record {
  fit = c.in_ok-piece-in-Bytes.ensures.fit;
  ahead = λ text e. piece_ahead c.loop-count.drill c.piece.new.self (take c.in-Bytes.count c.get.new.into) (g.S.Source.left c.loop-count.script)
      (g.S.Source.left c.get.new.self)
      (g.K.Sink.holds c.loop-count.out) (g.K.Sink.holds c.piece.new.out) text (g.K.Sink.holds c.args.out.now)
      (c.loop-count.invariant.ahead text e) c.in-Bytes.ensures.bytes c.in_ok-piece-in-Bytes.ensures.goes;
  source = c.in-Bytes.ensures.cause ∙ c.loop-count.invariant.source;
  sink = c.in_ok-piece-in-Bytes.ensures.faults ∙ c.loop-count.invariant.sink;
}

pub returns-in_err-piece-in-Bytes-clause-ends : goal.returns-in_err-piece-in-Bytes-clause-ends
returns-in_err-piece-in-Bytes-clause-ends g c = λ text e.
    let h = piece_fails c.in_err-piece-in-Bytes.field-0.0 c.loop-count.drill (take c.in-Bytes.count c.get.new.into) (g.S.Source.left c.loop-count.script)
    (g.S.Source.left c.get.new.self)
    (g.K.Sink.holds c.loop-count.out) (g.K.Sink.holds c.piece.new.out) text (g.K.Sink.holds c.args.out.now)
    (c.loop-count.invariant.ahead text e) c.in-Bytes.ensures.bytes c.in_err-piece-in-Bytes.ensures.goes in
    search (rules, h)

pub returns-in_err-piece-in-Bytes-clause-part_read : goal.returns-in_err-piece-in-Bytes-clause-part_read
returns-in_err-piece-in-Bytes-clause-part_read g c = λ read rest e p.
    piece_read c.in_err-piece-in-Bytes.field-0.0 c.loop-count.drill (take c.in-Bytes.count c.get.new.into) (g.S.Source.left c.loop-count.script)
    (g.S.Source.left c.get.new.self)
    (g.K.Sink.holds c.loop-count.out) (g.K.Sink.holds c.piece.new.out) read rest (g.K.Sink.holds c.args.out.now)
    (c.loop-count.invariant.ahead (read ++ rest) e) c.in-Bytes.ensures.bytes p c.in_err-piece-in-Bytes.ensures.goes

pub returns-in_err-piece-in-Bytes-clause-as_it_goes : goal.returns-in_err-piece-in-Bytes-clause-as_it_goes
returns-in_err-piece-in-Bytes-clause-as_it_goes g c =
    let h = no_source_fault c.in_err-piece-in-Bytes.field-0.0 (g.K.Sink.faults c.loop-count.out) (g.K.Sink.faults c.piece.new.out)
    (g.S.Source.left c.args.script.now) (g.S.Source.left c.get.new.self)
    (g.K.Sink.holds c.args.out.now) (g.K.Sink.holds c.piece.new.out) c.in_err-piece-in-Bytes.ensures.faults in
    search (rules, h)

pub returns-in_err-piece-in-Bytes-clause-source : goal.returns-in_err-piece-in-Bytes-clause-source
returns-in_err-piece-in-Bytes-clause-source g c =
    let h = source_kept c.in_err-piece-in-Bytes.field-0.0 (g.K.Sink.faults c.loop-count.out) (g.K.Sink.faults c.piece.new.out)
    (g.S.Source.faults c.args.script.now) (g.S.Source.faults c.get.new.self)
    c.in_err-piece-in-Bytes.ensures.faults (c.in-Bytes.ensures.cause ∙ c.loop-count.invariant.source) in
    search (rules, h)

pub returns-in_err-piece-in-Bytes-clause-sink : goal.returns-in_err-piece-in-Bytes-clause-sink
returns-in_err-piece-in-Bytes-clause-sink g c =
    let h = sink_faults c.in_err-piece-in-Bytes.field-0.0 (g.K.Sink.faults c.args.out.now) (g.K.Sink.faults c.piece.new.out)
    (rw c.loop-count.invariant.sink at c.in_err-piece-in-Bytes.ensures.faults) in
    search (rules, h)

pub returns-in-End-clause-ends : goal.returns-in-End-clause-ends
returns-in-End-clause-ends g c = λ text e.
    script_ends c.finish.result c.loop-count.drill (g.S.Source.left c.loop-count.script) (g.K.Sink.holds c.loop-count.out)
    (g.K.Sink.holds c.finish.new.out) text (g.K.Sink.holds c.args.out.now)
    (c.loop-count.invariant.ahead text e) c.in-End.ensures.bytes.1 c.finish.ensures.ends

pub returns-in-End-clause-part_read : goal.returns-in-End-clause-part_read
returns-in-End-clause-part_read g c = λ read rest e p.
    end_read c.finish.result (g.S.Source.left c.loop-count.script) (g.S.Source.left c.get.new.self) read rest (g.K.Sink.holds c.args.out.now)
    (g.K.Sink.holds c.finish.new.out)
    c.in-End.ensures.bytes.0 c.in-End.ensures.bytes.1 p
    (script_ends c.finish.result c.loop-count.drill (g.S.Source.left c.loop-count.script) (g.K.Sink.holds c.loop-count.out) (g.K.Sink.holds c.finish.new.out)
    (read ++ rest) (g.K.Sink.holds c.args.out.now)
    (c.loop-count.invariant.ahead (read ++ rest) e) c.in-End.ensures.bytes.1 c.finish.ensures.ends)

pub returns-in-End-clause-as_it_goes : goal.returns-in-End-clause-as_it_goes
returns-in-End-clause-as_it_goes g c =
    no_source_fault_by c.finish.result (g.K.Sink.faults c.loop-count.out) (g.K.Sink.faults c.finish.new.out) (g.S.Source.left c.args.script.now)
    (g.S.Source.left c.get.new.self)
    (g.K.Sink.holds c.args.out.now) (g.K.Sink.holds c.finish.new.out) c.finish.ensures.faults

pub returns-in-End-clause-source : goal.returns-in-End-clause-source
returns-in-End-clause-source g c =
    source_kept_by c.finish.result (g.K.Sink.faults c.loop-count.out) (g.K.Sink.faults c.finish.new.out) (g.S.Source.faults c.args.script.now)
    (g.S.Source.faults c.get.new.self)
    c.finish.ensures.faults (c.in-End.ensures.cause ∙ c.loop-count.invariant.source)

pub returns-in-End-clause-sink : goal.returns-in-End-clause-sink
returns-in-End-clause-sink g c =
    sink_faults_by c.finish.result (g.K.Sink.faults c.args.out.now) (g.K.Sink.faults c.loop-count.out)
    (g.K.Sink.faults c.finish.new.out) c.loop-count.invariant.sink c.finish.ensures.faults

pub returns-in-Failed-clause-ends : goal.returns-in-Failed-clause-ends
returns-in-Failed-clause-ends g c = λ text e.
    part_written c.loop-count.drill (g.S.Source.left c.loop-count.script) (g.K.Sink.holds c.loop-count.out) text (g.K.Sink.holds c.args.out.now)
    (c.loop-count.invariant.ahead text e)

pub returns-in-Failed-clause-part_read : goal.returns-in-Failed-clause-part_read
returns-in-Failed-clause-part_read g c = λ read rest e p.
    stays_read c.loop-count.drill (g.S.Source.left c.loop-count.script) (g.S.Source.left c.get.new.self) (g.K.Sink.holds c.loop-count.out) read rest
    (g.K.Sink.holds c.args.out.now)
    (c.loop-count.invariant.ahead (read ++ rest) e) c.in-Failed.ensures.bytes p

pub returns-in-Failed-clause-as_it_goes : goal.returns-in-Failed-clause-as_it_goes
returns-in-Failed-clause-as_it_goes g c =
    whole_lines_written c.loop-count.drill (g.S.Source.left c.args.script.now) (g.S.Source.left c.loop-count.script) (g.S.Source.left c.get.new.self)
    (g.K.Sink.holds c.loop-count.out) (g.K.Sink.holds c.args.out.now)
    c.loop-count.invariant.ahead c.in-Failed.ensures.bytes

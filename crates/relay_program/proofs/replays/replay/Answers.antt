use Rattle.std.proofs.Common.{sym}
use Rattle.relay_program.specs.Outcome.{in_out}
use Rattle.relay_program.proofs.ReplayEnds.{refused}
use Rattle.relay_program.proofs.replays.replay.Goals as goal

pub returns-then-not-is_replay-clause-outcome : goal.returns-then-not-is_replay-clause-outcome
returns-then-not-is_replay-clause-outcome g c =
    let now = in_out (g.S.Source.left c.args.script.now) (g.K.Sink.holds c.args.out.now) (g.S.Source.faults c.args.script.now)
    (g.K.Sink.faults c.args.out.now) in
    refused _ now (sym c.if-not-is_replay.ensures)

use Rattle.std.proofs.Common.{rules, ◌≡◌, sym, subst}
use Rattle.media_recorder.specs.Alone.{OneAtMost}
use Rattle.media_recorder.specs.Turns.{RecorderState}
use Rattle.relay_worker.specs.Filed.{state_of}
use Rattle.relay_worker.proofs.recorder.Recorder.turn.Goals as goal

pub returns-in-Flv-clause-alone : goal.returns-in-Flv-clause-alone
returns-in-Flv-clause-alone g c =
    let P = g.P.StreamPort in
    let same : state_of c.args.self.now ≡ c.in-Flv.recorder = search rules in
    subst (λ (r : RecorderState g.row.P-Pass.Denot). OneAtMost P.rules P.adds P.root P.seen P.kin P.branches c.args.port.now c.turn.new.port r.seat c.turn.new.self.seat) (sym same) c.turn.ensures.alone

pub returns-in-Ts-clause-alone : goal.returns-in-Ts-clause-alone
returns-in-Ts-clause-alone g c =
    let P = g.P.StreamPort in
    let same : state_of c.args.self.now ≡ c.in-Ts.recorder = search rules in
    subst (λ (r : RecorderState g.row.P-Pass.Denot). OneAtMost P.rules P.adds P.root P.seen P.kin P.branches c.args.port.now c.turn-in-Ts.new.port r.seat c.turn-in-Ts.new.self.seat) (sym same) c.turn-in-Ts.ensures.alone

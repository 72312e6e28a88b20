use Rattle.std.proofs.Common.{rules, ◌≡◌, sym, subst}
use Rattle.relay_replay.specs.Cast.{OneAsk, RecTurnsBy, recorder_of}
use Rattle.relay_replay.proofs.recording.Writer.turn.Goals as goal

pub returns-in-Flv-clause-turn : goal.returns-in-Flv-clause-turn
returns-in-Flv-clause-turn c =
    let same : recorder_of c.args.self.now ≡ c.in-Flv.recorder = search rules in
    subst (λ r. RecTurnsBy c.args.port.now r c.args.file.now c.turn.result c.turn.new.port c.turn.new.self c.turn.new.sink) (sym same) c.turn.ensures.turn

pub returns-in-Ts-clause-turn : goal.returns-in-Ts-clause-turn
returns-in-Ts-clause-turn c =
    let same : recorder_of c.args.self.now ≡ c.in-Ts.recorder = search rules in
    subst (λ r. RecTurnsBy c.args.port.now r c.args.file.now c.turn-in-Ts.result c.turn-in-Ts.new.port c.turn-in-Ts.new.self c.turn-in-Ts.new.sink) (sym same)
    c.turn-in-Ts.ensures.turn

pub returns-in-Flv-clause-alone : goal.returns-in-Flv-clause-alone
returns-in-Flv-clause-alone c =
    let same : recorder_of c.args.self.now ≡ c.in-Flv.recorder = search rules in
    subst (λ r. OneAsk c.args.port.now c.turn.new.port r.seat c.turn.new.self.seat) (sym same) c.turn.ensures.alone

pub returns-in-Ts-clause-alone : goal.returns-in-Ts-clause-alone
returns-in-Ts-clause-alone c =
    let same : recorder_of c.args.self.now ≡ c.in-Ts.recorder = search rules in
    subst (λ r. OneAsk c.args.port.now c.turn-in-Ts.new.port r.seat c.turn-in-Ts.new.self.seat) (sym same) c.turn-in-Ts.ensures.alone

use Rattle.std.proofs.Common.{◌∙◌, ap, arith, length}
use Rattle.stream_registry.specs.Names.{PortRules}
use Rattle.relay_worker.specs.Filed.{state_of}
use Rattle.relay_worker.proofs.Sounding.{ahead_serves, ahead_trans, ended_says, label_same}
use Rattle.relay_worker.proofs.recorder.Recorder.ready.Goals as goal

pub loop-preserved : goal.loop-preserved
loop-preserved g c =
    let i = c.loop.invariant in
    let e = c.turn-answer.ensures in
    let x = c.loop.port in
    let y = c.turn-answer.new.port in
    record {
      filed = record { there = omega (arith, i.filed.there, e.place, ap (λ (r : PortRules). length r.names) e.port.fixed); fit = e.fits };
      label = label_same c.loop.self c.turn-answer.new.self e.who e.place e.form e.longest ∙ i.label;
      ahead = ahead_trans g.P.StreamPort.fits g.P.StreamPort.rules g.P.StreamPort.root c.args.port.now x y i.ahead
          (ahead_serves g.P.StreamPort.fits g.P.StreamPort.rules g.P.StreamPort.root g.P.StreamPort.busies (state_of c.loop.self).seat.place x y e.port);
      tallies = λ t. e.tallies (i.tallies t);
    }

pub returns-in-Ended-clause-ahead : goal.returns-in-Ended-clause-ahead
returns-in-Ended-clause-ahead g c =
    ahead_trans g.P.StreamPort.fits g.P.StreamPort.rules g.P.StreamPort.root c.args.port.now c.loop.port c.turn-answer.new.port c.loop.invariant.ahead
    (ahead_serves g.P.StreamPort.fits g.P.StreamPort.rules g.P.StreamPort.root g.P.StreamPort.busies (state_of c.loop.self).seat.place c.loop.port c.turn-answer.new.port c.turn-answer.ensures.port)

pub returns-in-Ended-clause-label : goal.returns-in-Ended-clause-label
returns-in-Ended-clause-label g c =
    let e = c.turn-answer.ensures in
    label_same c.loop.self c.turn-answer.new.self e.who e.place e.form e.longest ∙ c.loop.invariant.label

pub returns-in-Ended-clause-ready : goal.returns-in-Ended-clause-ready
returns-in-Ended-clause-ready g c =
    ended_says g.P.StreamPort.mine (g.P.StreamPort.root c.loop.port (state_of c.loop.self).seat.place) (g.P.StreamPort.busies c.loop.port) (g.P.StreamPort.busies c.turn-answer.new.port)
    c.turn-answer.result c.turn-answer.new.self c.in-Ended.field-0 c.in-Ended.is c.turn-answer.ensures.says

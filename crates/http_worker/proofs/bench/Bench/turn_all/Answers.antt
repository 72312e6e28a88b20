use Rattle.std.proofs.Common.{ap, arith, refl}
use Rattle.stream_registry.specs.Names.{places}
use Rattle.relay_worker.proofs.Slabs.{past_end}
use Rattle.relay_worker.proofs.Sounding.{ahead_refl, ahead_trans, offered_on, walks_more}
use Rattle.http_worker.proofs.bench.Bench.turn_all.Goals as goal

pub loop-key-init : goal.loop-key-init
loop-key-init g c = record {
  sound = c.requires.sound;
  ahead = ahead_refl g.P.StreamPort.fits g.P.StreamPort.rules g.P.StreamPort.root c.args.self.now.port;
  offered = c.requires.offered;
  walk = refl;
}

pub loop-key-preserved : goal.loop-key-preserved
loop-key-preserved g c =
    let i = c.loop-key.invariant in
    let e = c.turn_at.ensures in
    record {
      sound = e.sound;
      ahead = ahead_trans g.P.StreamPort.fits g.P.StreamPort.rules g.P.StreamPort.root c.args.self.now.port c.loop-key.self.port c.turn_at.new.self.port
          i.ahead e.ahead;
      offered = offered_on (g.G.Desk.grants c.args.desk.now) (places (g.P.StreamPort.rules c.loop-key.self.port))
          (places (g.P.StreamPort.rules c.turn_at.new.self.port)) (ap places e.ahead.fixed) i.offered;
      walk = walks_more _ c.loop-key.key c.args.self.now c.loop-key.self c.turn_at.new.self i.walk e.turns;
    }

pub returns-clause-turns : goal.returns-clause-turns
returns-clause-turns g c = record {
  last = c.loop-key.key;
  all = past_end c.args.self.now.players c.loop-key.key (let a = c.capacity-key-end.ensures.slots in let t = c.loop-key-test.false in omega (arith, a, t));
  walk = c.loop-key.invariant.walk;
}

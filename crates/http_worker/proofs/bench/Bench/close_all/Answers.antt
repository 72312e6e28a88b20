use Rattle.std.proofs.Common.{arith, refl}
use Rattle.relay_worker.proofs.Slabs.{past_end}
use Rattle.relay_worker.proofs.Sounding.{ahead_refl, ahead_trans, walks_more}
use Rattle.http_worker.proofs.bench.Bench.close_all.Goals as goal

pub loop-key-init : goal.loop-key-init
loop-key-init g c = record {
  sound = c.requires.sound;
  ahead = ahead_refl g.P.StreamPort.fits g.P.StreamPort.rules g.P.StreamPort.root c.args.self.now.port;
  walk = refl;
}

pub loop-key-preserved : goal.loop-key-preserved
loop-key-preserved g c =
    let i = c.loop-key.invariant in
    let e = c.close_at.ensures in
    record {
      sound = e.sound;
      ahead = ahead_trans g.P.StreamPort.fits g.P.StreamPort.rules g.P.StreamPort.root c.args.self.now.port c.loop-key.self.port c.close_at.new.self.port
          i.ahead e.ahead;
      walk = walks_more _ c.loop-key.key c.args.self.now c.loop-key.self c.close_at.new.self i.walk e.closes;
    }

pub returns-clause-closes : goal.returns-clause-closes
returns-clause-closes g c = record {
  last = c.loop-key.key;
  all = past_end c.args.self.now.players c.loop-key.key (let a = c.capacity-key-end.ensures.slots in let t = c.loop-key-test.false in omega (arith, a, t));
  walk = c.loop-key.invariant.walk;
}

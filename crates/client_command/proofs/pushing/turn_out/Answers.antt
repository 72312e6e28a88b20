use Rattle.client_command.proofs.Pushed.{out_goes, out_stops}
use Rattle.client_command.proofs.pushing.turn_out.Goals as goal

pub loop-preserved-in-Moved : goal.loop-preserved-in-Moved
loop-preserved-in-Moved g c =
    let L = g.L.Link in
    let l = c.loop in
    let t = c.turn_once.new in
    let e = c.in-Moved.ensures in
    record {
      live = e.live;
      goes = λ k old left faults v.
          let h = l.invariant.goes k old left faults v in
          out_goes k l.client t.client old (L.told l.link) (L.told t.link) (L.counts l.link) (L.counts t.link) left faults h c.turn_once.ensures.lasts (e.goes k old.told old.counts h.runs);
    }

pub loop-preserved : goal.loop-preserved
loop-preserved g c =
    let L = g.L.Link in
    let l = c.loop in
    let t = c.turn_once.new in
    let e = c.in-Idle.ensures in
    record {
      live = e.live;
      goes = λ k old left faults v.
          let h = l.invariant.goes k old left faults v in
          out_goes k l.client t.client old (L.told l.link) (L.told t.link) (L.counts l.link) (L.counts t.link) left faults h c.turn_once.ensures.lasts (e.goes k old.told old.counts h.runs);
    }

pub returns-in-Ended : goal.returns-in-Ended
returns-in-Ended g c = λ k old left faults v.
    let L = g.L.Link in
    let l = c.loop in
    let t = c.turn_once.new in
    let h = l.invariant.goes k old left faults v in
    out_stops k l.client t.client old (L.told l.link) (L.told t.link) (L.counts l.link) (L.counts t.link) left faults h (c.in-Ended.ensures.goes k old.told old.counts h.runs)

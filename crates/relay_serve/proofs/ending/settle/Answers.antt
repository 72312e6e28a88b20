use Rattle.std.proofs.Common.{◌≡◌, ◌∙◌, ap, sym, subst, ℕ, arith, length}
use Rattle.turn_gate.specs.Histories.{Begins}
use Rattle.stream_registry.specs.Gates.{numbers, told_at}
use Rattle.stream_registry.specs.Names.{PortRules}
use Rattle.stream_registry.specs.SharedState.{shared_rules}
use Rattle.relay_worker.specs.Filed.{state_of}
use Rattle.relay_worker.specs.Running.{Label}
use Rattle.relay_serve.proofs.Counted.{later_at, later_then}
use Rattle.relay_serve.proofs.Recording.{settled_ended, settled_idle}
use Rattle.relay_serve.proofs.Ruled.{filed_by, label_same}
use Rattle.relay_serve.proofs.ending.settle.Goals as goal

pub loop-preserved-in-Moved : goal.loop-preserved-in-Moved
loop-preserved-in-Moved g c =
    let i = c.loop.invariant in
    let e = c.turn.ensures in
    let same : shared_rules c.turn.new.port ≡ shared_rules c.args.port.now = e.port.fixed ∙ i.rules in
    record {
      more = tt;
      finite = tt;
      filed = filed_by (shared_rules c.args.port.now) c.turn.new.port c.turn.new.self same
          (omega (arith, i.filed.there, e.place, ap (λ (q : PortRules). length q.names) same)) e.fits;
      tally = e.tallies i.tally;
      label = label_same c.loop.recorder c.turn.new.self e.who e.place e.form e.longest ∙ i.label;
      rules = same;
      grown = later_then (told_at c.args.port.now.roots) (told_at c.loop.port.roots) (told_at c.turn.new.port.roots) i.grown
          (later_at (told_at c.loop.port.roots) (told_at c.turn.new.port.roots) (state_of c.loop.recorder).seat.place e.port.here e.port.others);
    }

pub loop-preserved : goal.loop-preserved
loop-preserved g c =
    let i = c.loop.invariant in
    let e = c.turn.ensures in
    let same : shared_rules c.turn.new.port ≡ shared_rules c.args.port.now = e.port.fixed ∙ i.rules in
    record {
      more = tt;
      finite = tt;
      filed = filed_by (shared_rules c.args.port.now) c.turn.new.port c.turn.new.self same
          (omega (arith, i.filed.there, e.place, ap (λ (q : PortRules). length q.names) same)) e.fits;
      tally = e.tallies i.tally;
      label = label_same c.loop.recorder c.turn.new.self e.who e.place e.form e.longest ∙ i.label;
      rules = same;
      grown = later_then (told_at c.args.port.now.roots) (told_at c.loop.port.roots) (told_at c.turn.new.port.roots) i.grown
          (later_at (told_at c.loop.port.roots) (told_at c.turn.new.port.roots) (state_of c.loop.recorder).seat.place e.port.here e.port.others);
    }

pub returns-in-Idle : goal.returns-in-Idle
returns-in-Idle g c =
    let i = c.loop.invariant in
    let e = c.turn.ensures in
    let same : shared_rules c.turn.new.port ≡ shared_rules c.args.port.now = e.port.fixed ∙ i.rules in
    let begins : Begins (told_at c.args.port.now.roots (state_of c.args.recorder.now).seat.place) (told_at c.loop.port.roots (state_of c.loop.recorder).seat.place) =
    subst (λ (q : ℕ). Begins (told_at c.args.port.now.roots (state_of c.args.recorder.now).seat.place) (told_at c.loop.port.roots q))
    (sym (ap (λ (x : Label). x.place) i.label)) (i.grown.at (state_of c.args.recorder.now).seat.place) in
    record {
      filed = filed_by (shared_rules c.args.port.now) c.turn.new.port c.turn.new.self same
          (omega (arith, i.filed.there, e.place, ap (λ (q : PortRules). length q.names) same)) e.fits;
      tally = e.tallies i.tally;
      label = label_same c.loop.recorder c.turn.new.self e.who e.place e.form e.longest ∙ i.label;
      rules = same;
      grown = later_then (told_at c.args.port.now.roots) (told_at c.loop.port.roots) (told_at c.turn.new.port.roots) i.grown
          (later_at (told_at c.loop.port.roots) (told_at c.turn.new.port.roots) (state_of c.loop.recorder).seat.place e.port.here e.port.others);
      settled = settled_idle (λ p. numbers p.seen p.mine) _ _ c.loop.port.busies c.turn.new.port.busies c.turn.result (state_of c.turn.new.self) begins e.says c.in-Idle.is;
    }

pub returns-in-Ended : goal.returns-in-Ended
returns-in-Ended g c =
    let i = c.loop.invariant in
    let e = c.turn.ensures in
    let same : shared_rules c.turn.new.port ≡ shared_rules c.args.port.now = e.port.fixed ∙ i.rules in
    let begins : Begins (told_at c.args.port.now.roots (state_of c.args.recorder.now).seat.place) (told_at c.loop.port.roots (state_of c.loop.recorder).seat.place) =
    subst (λ (q : ℕ). Begins (told_at c.args.port.now.roots (state_of c.args.recorder.now).seat.place) (told_at c.loop.port.roots q))
    (sym (ap (λ (x : Label). x.place) i.label)) (i.grown.at (state_of c.args.recorder.now).seat.place) in
    record {
      filed = filed_by (shared_rules c.args.port.now) c.turn.new.port c.turn.new.self same
          (omega (arith, i.filed.there, e.place, ap (λ (q : PortRules). length q.names) same)) e.fits;
      tally = e.tallies i.tally;
      label = label_same c.loop.recorder c.turn.new.self e.who e.place e.form e.longest ∙ i.label;
      rules = same;
      grown = later_then (told_at c.args.port.now.roots) (told_at c.loop.port.roots) (told_at c.turn.new.port.roots) i.grown
          (later_at (told_at c.loop.port.roots) (told_at c.turn.new.port.roots) (state_of c.loop.recorder).seat.place e.port.here e.port.others);
      settled = settled_ended (λ p. numbers p.seen p.mine) _ _ c.loop.port.busies c.turn.new.port.busies c.turn.result (state_of c.turn.new.self) begins e.says c.in-Ended.end c.in-Ended.is;
    }

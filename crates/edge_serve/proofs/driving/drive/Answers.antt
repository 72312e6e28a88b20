use Rattle.std.proofs.Common.{◌∙◌, ap, is_some, refl}
use Rattle.edge_serve.specs.Coming.{on_link}
use Rattle.edge_serve.proofs.Coming.{no_turn, turn_more}
use Rattle.edge_serve.proofs.driving.drive.Goals as goal

pub loop-init : goal.loop-init
loop-init g c = record {
  lives = c.requires.lives;
  stands = c.requires.stands;
  at = c.requires.at;
  fixed = refl;
  known = λ s. s;
  turns = no_turn (on_link c.args.edge.now c.args.port.now c.args.link.now);
  goes = λ k max who place start d. d;
}

pub loop-preserved-in-Moved : goal.loop-preserved-in-Moved
loop-preserved-in-Moved g c =
    let t = c.turn_once.new in
    let e = c.in-Moved.ensures in
    record {
      lives = e.ended;
      stands = e.stands;
      at = e.at;
      fixed = e.fixed ∙ c.loop.invariant.fixed;
      known = λ s. e.known (c.loop.invariant.known s);
      turns = turn_more (on_link c.args.edge.now c.args.port.now c.args.link.now) (on_link c.loop.edge c.loop.port c.loop.link)
          (on_link t.edge t.port t.link) c.loop.invariant.turns (_, e.alone);
      goes = λ k max who place start d. e.goes k max who place start (c.loop.invariant.goes k max who place start d);
    }

pub loop-preserved : goal.loop-preserved
loop-preserved g c =
    let t = c.turn_once.new in
    let e = c.in-Idle.ensures in
    record {
      lives = e.ended;
      stands = e.stands;
      at = e.at;
      fixed = e.fixed ∙ c.loop.invariant.fixed;
      known = λ s. e.known (c.loop.invariant.known s);
      turns = turn_more (on_link c.args.edge.now c.args.port.now c.args.link.now) (on_link c.loop.edge c.loop.port c.loop.link)
          (on_link t.edge t.port t.link) c.loop.invariant.turns (_, e.alone);
      goes = λ k max who place start d. e.goes k max who place start (c.loop.invariant.goes k max who place start d);
    }

pub returns-in-Ended-clause-ended : goal.returns-in-Ended-clause-ended
returns-in-Ended-clause-ended g c = ap is_some c.in-Ended.ensures.ended

pub returns-in-Ended-clause-fixed : goal.returns-in-Ended-clause-fixed
returns-in-Ended-clause-fixed g c = c.in-Ended.ensures.fixed ∙ c.loop.invariant.fixed

pub returns-in-Ended-clause-known : goal.returns-in-Ended-clause-known
returns-in-Ended-clause-known g c = λ s. c.in-Ended.ensures.known (c.loop.invariant.known s)

pub returns-in-Ended-clause-turns : goal.returns-in-Ended-clause-turns
returns-in-Ended-clause-turns g c =
    let t = c.turn_once.new in
    turn_more (on_link c.args.edge.now c.args.port.now c.args.link.now) (on_link c.loop.edge c.loop.port c.loop.link)
    (on_link t.edge t.port t.link) c.loop.invariant.turns (_, c.in-Ended.ensures.alone)

pub returns-in-Ended-clause-driven : goal.returns-in-Ended-clause-driven
returns-in-Ended-clause-driven g c = λ k max who place start d. c.in-Ended.ensures.goes k max who place start (c.loop.invariant.goes k max who place start d)

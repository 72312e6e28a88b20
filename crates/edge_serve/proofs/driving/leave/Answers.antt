use Rattle.std.proofs.Common.{◌∙◌, refl}
use Rattle.stream_registry.specs.Names.{places}
use Rattle.relay_session.specs.declared.seat_answers.Leaving.TheVariants as leaving
use Rattle.edge_serve.specs.Coming.{at_port}
use Rattle.edge_serve.proofs.Coming.{close_more, no_close}
use Rattle.edge_serve.proofs.Leaving.{away_now, here_now, leaving_first, leaving_on, left_now}
use Rattle.edge_serve.proofs.driving.leave.Goals as goal

pub loop-init : goal.loop-init
loop-init g c =
    let P = g.P.StreamPort in
    record {
      fit = c.requires.at.fit;
      fixed = refl;
      known = λ s. s;
      client = refl;
      closes = no_close (at_port c.args.edge.now c.args.port.now);
      leaving = leaving_first (P.fits c.args.port.now) (places (P.rules c.args.port.now)) c.args.edge.now c.requires.at;
    }

pub loop-preserved-in-Busy : goal.loop-preserved-in-Busy
loop-preserved-in-Busy g c =
    let e = c.in-Busy.ensures in
    let i = c.loop.invariant in
    record {
      fit = e.fit;
      fixed = e.fixed ∙ i.fixed;
      known = λ s. e.seat (i.known s);
      client = e.client ∙ i.client;
      closes = close_more (at_port c.args.edge.now c.args.port.now) (at_port c.loop.edge c.loop.port) (at_port c.close.new.self c.close.new.port)
          i.closes (leaving.Busy, record { leaves = e.leaves; spot = e.spot; grows = e.adds; splits = e.splits });
      leaving = leaving_on c.args.edge.now.parts c.args.edge.now.seat.active c.args.edge.now.seat.visits c.loop.edge c.close.new.self leaving.Busy refl
          i.leaving e.leaves e.spot e.parts;
    }

pub loop-preserved : goal.loop-preserved
loop-preserved g c =
    let e = c.in-OutOfMemory.ensures in
    let i = c.loop.invariant in
    record {
      fit = e.fit;
      fixed = e.fixed ∙ i.fixed;
      known = λ s. e.seat (i.known s);
      client = e.client ∙ i.client;
      closes = close_more (at_port c.args.edge.now c.args.port.now) (at_port c.loop.edge c.loop.port) (at_port c.close.new.self c.close.new.port)
          i.closes (leaving.OutOfMemory, record { leaves = e.leaves; spot = e.spot; grows = e.adds; splits = e.splits });
      leaving = leaving_on c.args.edge.now.parts c.args.edge.now.seat.active c.args.edge.now.seat.visits c.loop.edge c.close.new.self leaving.OutOfMemory
          refl i.leaving e.leaves e.spot e.parts;
    }

pub returns-in-Done-clause-away : goal.returns-in-Done-clause-away
returns-in-Done-clause-away g c = away_now c.loop.edge c.close.new.self leaving.Done refl c.in-Done.ensures.spot

pub returns-in-Worn-clause-away : goal.returns-in-Worn-clause-away
returns-in-Worn-clause-away g c = away_now c.loop.edge c.close.new.self leaving.Worn refl c.in-Worn.ensures.spot

pub returns-in-Done-clause-here : goal.returns-in-Done-clause-here
returns-in-Done-clause-here g c =
    here_now c.args.edge.now.parts c.args.edge.now.seat.active c.args.edge.now.seat.visits c.loop.edge c.close.new.self leaving.Done
    c.loop.invariant.leaving c.in-Done.ensures.leaves

pub returns-in-Worn-clause-here : goal.returns-in-Worn-clause-here
returns-in-Worn-clause-here g c =
    here_now c.args.edge.now.parts c.args.edge.now.seat.active c.args.edge.now.seat.visits c.loop.edge c.close.new.self leaving.Worn
    c.loop.invariant.leaving c.in-Worn.ensures.leaves

pub returns-in-Done-clause-left : goal.returns-in-Done-clause-left
returns-in-Done-clause-left g c =
    left_now c.args.edge.now.parts c.args.edge.now.seat.active c.args.edge.now.seat.visits c.loop.edge c.close.new.self leaving.Done refl
    c.loop.invariant.leaving c.in-Done.ensures.leaves

pub returns-in-Worn-clause-left : goal.returns-in-Worn-clause-left
returns-in-Worn-clause-left g c =
    left_now c.args.edge.now.parts c.args.edge.now.seat.active c.args.edge.now.seat.visits c.loop.edge c.close.new.self leaving.Worn refl
    c.loop.invariant.leaving c.in-Worn.ensures.leaves

pub returns-in-Done-clause-closes : goal.returns-in-Done-clause-closes
returns-in-Done-clause-closes g c =
    let e = c.in-Done.ensures in
    close_more (at_port c.args.edge.now c.args.port.now) (at_port c.loop.edge c.loop.port) (at_port c.close.new.self c.close.new.port)
    c.loop.invariant.closes (leaving.Done, record { leaves = e.leaves; spot = e.spot; grows = e.adds; splits = e.splits })

pub returns-in-Worn-clause-closes : goal.returns-in-Worn-clause-closes
returns-in-Worn-clause-closes g c =
    let e = c.in-Worn.ensures in
    close_more (at_port c.args.edge.now c.args.port.now) (at_port c.loop.edge c.loop.port) (at_port c.close.new.self c.close.new.port)
    c.loop.invariant.closes (leaving.Worn, record { leaves = e.leaves; spot = e.spot; grows = e.adds; splits = e.splits })

use Rattle.std.proofs.Common.{rules, ◌+◌, ◌∙◌, inr, refl, sym, arith}
use Rattle.relay_session.specs.Places.{AskedAlone}
use Rattle.server_tests.proofs.Going.{goes_more}
use Rattle.server_tests.proofs.turn_often.Goals as goal

pub returns-in-None-clause-turns : goal.returns-in-None-clause-turns
returns-in-None-clause-turns g c =
    let e = c.turn.ensures in
    inr (record {
      k = c.loop.counter;
      fewer = search rules;
      last = record { session = c.loop.session; port = c.loop.port; link = c.loop.link };
      goes = c.loop.invariant.turns;
      answer = c.turn.result;
      turned = record { turn = e.turn; ended = e.ended; quit = e.quit };
      ends = sym c.moved_by.ensures.value ∙ c.in-None.is;
    })

pub loop-preserved : goal.loop-preserved
loop-preserved g c =
    let P = g.P.StreamPort in
    let i = c.loop.invariant in
    let e = c.turn.ensures in
    record {
      at = e.at;
      fixed = e.goes_on.fixed ∙ i.fixed;
      stands = λ s. e.stands (i.stands s);
      few = omega (arith, i.few, c.in-Some.ensures.once);
      turns = goes_more (AskedAlone P.fits P.rules P.root P.seen P.count P.wants P.busies P.adds P.kin P.branches) (g.D.Desk.grants c.args.desk.now) g.L.Link.hears g.L.Link.says c.loop.counter
          (record { session = c.args.session.now; port = c.args.port.now; link = c.args.link.now }) c.loop.moved (record { session = c.loop.session; port = c.loop.port; link = c.loop.link }) (c.loop.moved + c.in-Some.count)
          (record { session = c.turn.new.self; port = c.turn.new.port; link = c.turn.new.link }) i.turns
          (record { answer = c.turn.result; turned = record { turn = e.turn; ended = e.ended; quit = e.quit }; count = c.in-Some.count; moved = sym c.moved_by.ensures.value ∙ c.in-Some.is; sum = refl });
    }

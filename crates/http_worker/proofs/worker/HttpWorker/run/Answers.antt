use Rattle.std.proofs.Common.{ap, refl, subst, sym}
use Rattle.stream_registry.specs.Names.{places}
use Rattle.relay_worker.proofs.Sounding.{ahead_refl, offered_on}
use Rattle.http_worker.specs.Books.{HasBooks}
use Rattle.http_worker.specs.Running.{KeepsOn}
use Rattle.http_worker.proofs.Coming.{by_more, by_none}
use Rattle.http_worker.proofs.Sounding.{has_run, keeps_trans}
use Rattle.http_worker.proofs.worker.HttpWorker.run.Goals as goal

pub returns-then-round-eq0-clause-rounds : goal.returns-then-round-eq0-clause-rounds
returns-then-round-eq0-clause-rounds g c = by_more c.args.self.now c.loop.self c.round-round.new.self c.round-round.new.self c.loop.invariant.rounds
    (c.round-round.result, c.round-round.ensures.rounds) refl

pub returns-then-round-eq0-clause-keeps : goal.returns-then-round-eq0-clause-keeps
returns-then-round-eq0-clause-keeps g c = keeps_trans g.P.StreamPort.fits g.P.StreamPort.rules g.P.StreamPort.root c.args.self.now c.loop.self
    c.round-round.new.self c.loop.invariant.keeps c.round-round.ensures.keeps

pub returns-then-round-eq0-clause-run : goal.returns-then-round-eq0-clause-run
returns-then-round-eq0-clause-run g c =
    has_run g.D.Link.Link.told g.D.Link.Link.counts g.D.Door.told _ _ _ _ g.P.StreamPort.fits g.P.StreamPort.rules c.loop.self c.round-round.new.self
    c.round-round.result c.round-round.ensures.rounds c.law.ensures c.if-round.true c.if-round-eq0.true

pub loop-init : goal.loop-init
loop-init g c = record {
  offered = c.requires.offered;
  rounds = by_none c.args.self.now;
  keeps = record { terms = refl; port = ahead_refl g.P.StreamPort.fits g.P.StreamPort.rules g.P.StreamPort.root c.args.self.now.bench.port };
  books = λ b. b;
}

pub loop-preserved : goal.loop-preserved
loop-preserved g c =
    let e = c.round-round.ensures.keeps in
    record {
      offered = offered_on (g.G.Desk.grants c.args.desk.now) (places (g.P.StreamPort.rules c.loop.self.bench.port))
          (places (g.P.StreamPort.rules c.round-round.new.self.bench.port)) (ap places e.port.fixed) c.loop.invariant.offered;
      rounds = by_more c.args.self.now c.loop.self c.round-round.new.self c.round-round.new.self c.loop.invariant.rounds
          (c.round-round.result, c.round-round.ensures.rounds) refl;
      keeps = keeps_trans g.P.StreamPort.fits g.P.StreamPort.rules g.P.StreamPort.root c.args.self.now c.loop.self c.round-round.new.self
          c.loop.invariant.keeps e;
      books = λ b. c.round-round.ensures.books (c.loop.invariant.books b);
    }

pub loop-preserved-then-not-round : goal.loop-preserved-then-not-round
loop-preserved-then-not-round g c =
    let e = c.round-round.ensures.keeps in
    record {
      offered = offered_on (g.G.Desk.grants c.args.desk.now) (places (g.P.StreamPort.rules c.round-round.new.self.bench.port))
          (places (g.P.StreamPort.rules c.pause.new.self.bench.port)) (ap (λ w. places (g.P.StreamPort.rules w.bench.port)) c.pause.ensures)
          (offered_on (g.G.Desk.grants c.args.desk.now) (places (g.P.StreamPort.rules c.loop.self.bench.port))
          (places (g.P.StreamPort.rules c.round-round.new.self.bench.port)) (ap places e.port.fixed) c.loop.invariant.offered);
      rounds = by_more c.args.self.now c.loop.self c.round-round.new.self c.pause.new.self c.loop.invariant.rounds
          (c.round-round.result, c.round-round.ensures.rounds) c.pause.ensures;
      keeps = subst (λ w. KeepsOn g.P.StreamPort.fits g.P.StreamPort.rules g.P.StreamPort.root c.args.self.now w) (sym c.pause.ensures)
          (keeps_trans g.P.StreamPort.fits g.P.StreamPort.rules g.P.StreamPort.root c.args.self.now c.loop.self c.round-round.new.self
          c.loop.invariant.keeps e);
      books = λ b. subst (λ w. HasBooks g.P.StreamPort.rules g.P.StreamPort.root g.P.StreamPort.seen g.D.Link.Link.told g.D.Link.Link.counts g.D.Door.told
          (g.G.Desk.grants c.args.desk.now) w) (sym c.pause.ensures)
          (c.round-round.ensures.books (c.loop.invariant.books b));
    }

pub returns-then-round-eq0-clause-books : goal.returns-then-round-eq0-clause-books
returns-then-round-eq0-clause-books g c b = c.round-round.ensures.books (c.loop.invariant.books b)

use Rattle.std.proofs.Common.{rules, ◌≡◌, length, sym, ap, subst, arith}
use Rattle.relay_session.specs.Places.{IsOffered}
use Rattle.relay_worker.specs.Running.{Each}
use Rattle.stream_registry.specs.Names.{places}
use Rattle.relay_serve.specs.Beside.{SessionsRun}
use Rattle.relay_serve.proofs.Ruled.{kept_all}
use Rattle.relay_serve.proofs.beside.run_sessions.Goals as goal

pub run_all-requires-clause-offered : goal.run_all-requires-clause-offered
run_all-requires-clause-offered g c κs within =
    let same : c.as_mut_slice.result.now ≡ c.args.workers.items = search rules in
    subst (λ l. Each (λ w. IsOffered (g.G.Desk.grants c.args.desk.now) (places (g.P.StreamPort.rules w.bench.port))) l) (sym same) c.requires

pub returns : goal.returns
returns g c =
    let xs = c.run_all.new.workers in
    let long : length xs ≡ c.args.workers.len = search rules in
    let same : c.as_mut_slice.result.now ≡ c.args.workers.items = search rules in
    let R = SessionsRun g.P.StreamPort.fits g.P.StreamPort.rules g.P.StreamPort.root g.P.StreamPort.seen g.D.Link.Link.told g.D.Link.Link.counts g.D.Door.told (g.G.Desk.grants c.args.desk.now)
    g.P.StreamPort.count g.K.Sink.holds g.K.Sink.faults in
    let e = c.run_all.ensures in
    subst (λ l. R c.args.workers.items l) (sym (kept_all c.args.workers.len xs _ long))
    (subst (λ l. R l xs) same
    (record {
      each = omega (arith, long, ap length same, c.args.workers.ok.0);
      run = e.run;
      keeps = e.keeps;
      tallies = e.tallies;
      books = e.books;
    }))

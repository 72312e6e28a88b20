use Rattle.std.proofs.Common.{arith, refl}
use Rattle.series_medium.proofs.Sinking.{breaks, end_fails, end_taken, sink_as, sink_broken, tells_all}
use Rattle.series_medium.proofs.sink.SeriesSink.take_end.Goals as goal

pub invariant_of-self : goal.invariant_of-self
invariant_of-self g c =
    let works = rw (← c.self.view_is) at c.requires.works in
    let head = rw (← c.self.view_is) at c.requires.head in
    let told = tells_all _ _ c.self.inside.taken c.self.inside.handed c.self.inside.part c.self.inside.stopped works c.self.invariant in
    sink_as _ _ _ c.add_all.new.self c.self.inside.handed _ c.self.inside.stopped works c.add_all.ensures
    (end_taken c.self.inside.taken c.args.piece.now c.args.used _ _ _ c.self.inside.handed head c.requires.there c.requires.one told c.in-Ok.ensures.told)

pub returns-in-Ok : goal.returns-in-Ok
returns-in-Ok g c =
    let works = rw (← c.self.view_is) at c.requires.works in
    let head = rw (← c.self.view_is) at c.requires.head in
    let told = tells_all _ _ c.self.inside.taken c.self.inside.handed c.self.inside.part c.self.inside.stopped works c.self.invariant in
    rw (← c.self.view_is, c.add_all.ensures) (record {
      works = works;
      some = omega arith;
      within = omega (arith, c.requires.there);
      after = refl;
      faults_same = c.in-Ok.ensures.faults;
      tells = (end_taken c.self.inside.taken c.args.piece.now c.args.used _ _ _ c.self.inside.handed head c.requires.there c.requires.one told c.in-Ok.ensures.told).tells;
    })

pub invariant_of-self-in-Err : goal.invariant_of-self-in-Err
invariant_of-self-in-Err g c =
    let works = rw (← c.self.view_is) at c.requires.works in
    let head = rw (← c.self.view_is) at c.requires.head in
    let told = tells_all _ _ c.self.inside.taken c.self.inside.handed c.self.inside.part c.self.inside.stopped works c.self.invariant in
    let part = end_fails c.self.inside.taken c.args.piece.now c.args.used _ _ _ head c.requires.there c.requires.one told c.in-Err.ensures.told in
    sink_broken _ _ _ c.self.inside.taken c.args.piece.now c.self.inside.handed c.history.result c.self.inside.part c.self.inside.stopped c.in-Err.fail c.self.invariant part
    c.history.ensures

pub returns-in-Err : goal.returns-in-Err
returns-in-Err g c =
    let works = rw (← c.self.view_is) at c.requires.works in
    let head = rw (← c.self.view_is) at c.requires.head in
    let told = tells_all _ _ c.self.inside.taken c.self.inside.handed c.self.inside.part c.self.inside.stopped works c.self.invariant in
    let part = end_fails c.self.inside.taken c.args.piece.now c.args.used _ _ _ head c.requires.there c.requires.one told c.in-Err.ensures.told in
    breaks _ _ c.in-Err.fail c.args.self.now c.args.piece.now c.put_of.result _ c.put_of.ensures
    (rw (← c.self.view_is, c.history.ensures) (record { works = works; after = refl; cause = c.in-Err.ensures.faults; tells = part }))

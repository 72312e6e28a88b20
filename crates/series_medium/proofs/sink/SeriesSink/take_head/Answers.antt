use Rattle.std.proofs.Common.{arith, inr, refl}
use Rattle.series_medium.proofs.Sinking.{head_taken, no_frame, sink_as, tells_all}
use Rattle.series_medium.proofs.sink.SeriesSink.take_head.Goals as goal

pub invariant_of-self-2 : goal.invariant_of-self-2
invariant_of-self-2 g c =
    let works = rw (← c.self.view_is) at c.requires.works in
    let head = rw (← c.self.view_is) at c.requires.head in
    let told = tells_all _ _ c.self.inside.taken c.self.inside.handed c.self.inside.part c.self.inside.stopped works c.self.invariant in
    sink_as _ _ _ c.add_all.new.self c.self.inside.handed c.args.part c.self.inside.stopped works c.add_all.ensures
    (head_taken c.self.inside.taken c.args.piece.now c.args.used c.args.part head _ _ c.self.inside.handed told)

pub returns : goal.returns
returns g c =
    let works = rw (← c.self.view_is) at c.requires.works in
    let head = rw (← c.self.view_is) at c.requires.head in
    let told = tells_all _ _ c.self.inside.taken c.self.inside.handed c.self.inside.part c.self.inside.stopped works c.self.invariant in
    rw (← c.self.view_is, c.add_all.ensures) (record {
      works = works;
      some = omega (arith, c.if-used-eq0.false);
      within = head.within;
      after = refl;
      faults_same = refl;
      tells = (head_taken c.self.inside.taken c.args.piece.now c.args.used c.args.part head _ _ c.self.inside.handed told).tells;
    })

pub returns-then-used-eq0 : goal.returns-then-used-eq0
returns-then-used-eq0 g c =
    let works = rw (← c.self.view_is) at c.requires.works in
    let head = rw (← c.self.view_is, c.if-used-eq0.true) at c.requires.head in
    let ends = rw c.if-used-eq0.true at c.requires.ends in
    rw (← c.self.view_is, c.risen-self-inside.ensures) (inr (inr (record {
      works = works;
      none = no_frame c.self.inside.taken c.args.piece.now c.args.part head c.requires.some (ends c.requires.some);
      after = refl;
    })))

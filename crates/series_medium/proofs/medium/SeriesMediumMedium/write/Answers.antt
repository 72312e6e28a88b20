use Rattle.std.proofs.Common.{◌≡◌, IfSome}
use Rattle.series_medium.specs.Writers.{on_air_of}
use Rattle.series_medium.proofs.Adding.{series_adds}
use Rattle.series_medium.proofs.medium.SeriesMediumMedium.write.Goals as goal

pub returns-in-Ok-clause-ok : goal.returns-in-Ok-clause-ok
returns-in-Ok-clause-ok g c =
    let held : IfSome c.self.inside.writer (λ w. g.W.FileWriter.given w ≡ on_air_of c.self.inside.items) = c.self.invariant in
    let on : g.W.FileWriter.given c.in-Some.writer ≡ on_air_of c.self.inside.items = rw (← c.in-Some.ensures.value) at held in
    rw (← c.self.view_is) (series_adds g.W.FileWriter.file c.self.inside.items c.add.new.self c.args.item.now (g.W.FileWriter.given c.in-Some.writer)
    (g.W.FileWriter.given c.in-Ok.writer) c.args.out.now c.write_item.new.out (g.W.FileWriter.kept c.in-Ok.writer) on c.add.ensures c.known.ensures c.in-Ok.ensures.ok)

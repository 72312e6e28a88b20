use Rattle.file_commands.proofs.Files.{fails_first}
use Rattle.file_commands.proofs.whole.read_file.Goals as goal

pub returns-in_default-clause-ends : goal.returns-in_default-clause-ends
returns-in_default-clause-ends g c =
    let C = g.C.Convert in
    let file = c.args.file.now in
    fails_first C.gives C.stops C.cut C.whole (C.fed file) (C.given file) (g.S.Source.left c.args.input.now) (g.K.Sink.holds c.args.out.now) c.requires.fresh
    (g.met.C.Convert.reads file c.requires.fits)

use Rattle.std.proofs.Common.{[], ◌∷◌, refl}
use Rattle.series_medium.proofs.Writing.{frame_grows}
use Rattle.series_medium.proofs.medium.write_frame.Goals as goal

pub returns-clause-ok : goal.returns-clause-ok
returns-clause-ok g c =
    frame_grows g.W.FileWriter.file (g.W.FileWriter.given c.args.writer) (g.W.FileWriter.given c.in_ok-writer.writer) c.args.item.now c.args.out.now c.append.new.self
    c.add.new.out c.close_frame.new.out (0 ∷ 0 ∷ 0 ∷ 0 ∷ 0 ∷ []) (g.W.FileWriter.kept c.in_ok-writer.writer) c.known.ensures refl c.in_ok-append.ensures.ok
    c.in_ok-writer.ensures.ok (rw c.len-at.ensures at c.close_frame.ensures)

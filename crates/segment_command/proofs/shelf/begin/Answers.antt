use Rattle.std.proofs.Common.{rules}
use Rattle.segment_command.specs.Shelves.{FileSeen, file_seen}
use Rattle.segment_command.proofs.Shelving.{begin_fails}
use Rattle.segment_command.proofs.shelf.begin.Goals as goal

pub returns-in_err-title : goal.returns-in_err-title
returns-in_err-title g c = record {
  goes = λ list start k none count few.
      let view : g.row.H-File.Denot → FileSeen = λ f. file_seen (g.H.File.Sink.holds f) (g.H.File.Sink.faults f) in
      let p = c.args.pending.now in
      let h = begin_fails view c.args.file.now c.in_err-title.field-0.0 c.args.name.now list p.text p.title start (g.H.House.told c.args.house.now)
      (g.H.House.told c.open.new.house) k none c.in_err-title.ensures.err in
      search (rules, h);
}

use Rattle.std.proofs.Common.{rules}
use Rattle.std.specs.Option.{option_map}
use Rattle.segment_command.specs.Shelves.{FileSeen, file_seen}
use Rattle.segment_command.proofs.Shelving.{kept_last, put_breaks}
use Rattle.segment_command.proofs.shelf.end_last.Goals as goal

pub returns-in_err-put_last-clause-goes : goal.returns-in_err-put_last-clause-goes
returns-in_err-put_last-clause-goes g c = λ name list count start s.
    let view : g.row.H-File.Denot → FileSeen = λ f. file_seen (g.H.File.Sink.holds f) (g.H.File.Sink.faults f) in
    let h = put_breaks c.in_err-put_last.field-0.0 name list c.args.text.now c.args.title.now count (option_map view c.args.file.now)
    (option_map view c.put_last.new.file) start (g.H.House.told c.args.house.now) s c.in_err-put_last.ensures in
    search (rules, h)

pub returns-clause-goes : goal.returns-clause-goes
returns-clause-goes g c = λ name list count start s.
    let view : g.row.H-File.Denot → FileSeen = λ f. file_seen (g.H.File.Sink.holds f) (g.H.File.Sink.faults f) in
    kept_last view c.keep_last.result name list c.args.text.now c.args.title.now count (option_map view c.args.file.now)
    (option_map view c.put_last.new.file) c.keep_last.new.file start (g.H.House.told c.args.house.now) (g.H.House.told c.keep_last.new.house) s
    c.in_ok-put_last.ensures c.keep_last.ensures.gone c.keep_last.ensures.kept

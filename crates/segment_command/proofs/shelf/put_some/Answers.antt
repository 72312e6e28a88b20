use Rattle.std.proofs.Common.{rules, List, ℕ, subst, sym}
use Rattle.std.specs.Option.{option_map}
use Rattle.segment_command.specs.Shelves.{FileSeen, Stands, file_seen}
use Rattle.segment_command.proofs.Shelving.{put_breaks, put_rest}
use Rattle.segment_command.proofs.shelf.put_some.Goals as goal

pub returns-in_err-put_last : goal.returns-in_err-put_last
returns-in_err-put_last g c = record {
  goes = λ name list start now s.
      let view : g.row.F.Denot → FileSeen = λ f. file_seen (g.F.Sink.holds f) (g.F.Sink.faults f) in
      let p = c.args.pending.now in
      let h = put_breaks c.in_err-put_last.field-0.0 name list p.text p.title p.count (option_map view c.args.file.now)
      (option_map view c.put_last.new.file) start now s (rw c.as_slice.ensures at c.in_err-put_last.ensures) in
      search (rules, h);
}

pub returns : goal.returns
returns g c = record {
  goes = λ name list start now s.
      let view : g.row.F.Denot → FileSeen = λ f. file_seen (g.F.Sink.holds f) (g.F.Sink.faults f) in
      let p = c.args.pending.now in
      subst (λ (t : List ℕ). Stands name list t p.title p.count (option_map view c.put_last.new.file) start now) (sym c.truncate.ensures)
      (put_rest name list p.text p.title p.count (option_map view c.args.file.now) (option_map view c.put_last.new.file) start now s
      (rw c.as_slice.ensures at c.in_ok-put_last.ensures));
}

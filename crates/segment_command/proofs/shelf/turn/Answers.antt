use Rattle.std.proofs.Common.{◌∙◌, ap, drop, rules}
use Rattle.std.specs.Option.{option_map}
use Rattle.segment_command.specs.Shelves.{FileSeen, file_seen}
use Rattle.segment_command.proofs.Shelving.{breaks_more}
use Rattle.segment_command.proofs.shelf.turn.Goals as goal

pub returns-in_err-end_last : goal.returns-in_err-end_last
returns-in_err-end_last g c = record {
  goes = λ list start count few s.
      let view : g.row.H-File.Denot → FileSeen = λ f. file_seen (g.H.File.Sink.holds f) (g.H.File.Sink.faults f) in
      let p = c.args.pending.now in
      let ends = rw c.as_slice-2.ensures at (rw c.as_slice.ensures at c.in_err-end_last.ensures.goes) in
      let h = breaks_more c.in_err-end_last.field-0.0 c.args.name.now list (drop c.args.before p.text) p.title (option_map view c.end_last.new.file) start
      (g.H.House.told c.end_last.new.house) (ends c.args.name.now list p.count start s) in
      search (rules, h);
}

pub returns : goal.returns
returns g c = record {
  goes = λ list start count few s.
      let p = c.args.pending.now in
      let ends = rw c.as_slice-2.ensures at (rw c.as_slice.ensures at c.in_ok-end_last.ensures.goes) in
      let kept = ends c.args.name.now list p.count start s in
      let text = c.without_front.ensures ∙ ap (drop c.args.before) c.replace-text.ensures.value in
      rw text at (c.begin.ensures.goes list start kept c.in_ok-end_last.ensures.gone count few);
}

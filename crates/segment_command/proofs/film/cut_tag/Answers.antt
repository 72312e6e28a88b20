use Rattle.std.proofs.Common.{◌≡◌, ◌∙◌, ◌∷◌, [], ap, rules, sym}
use Rattle.std.specs.Option.{option_map}
use Rattle.av_unit.specs.Media.{Media}
use Rattle.av_unit.specs.declared.item.Item.TheVariants.{Unit as AUnit}
use Rattle.file_commands.specs.Remux.{as_item, items_of}
use Rattle.segment_command.specs.Shelves.{FileSeen, file_seen}
use Rattle.segment_command.specs.Parts.{list_of}
use Rattle.segment_command.proofs.Reading.{tag_memory, unit_cut}
use Rattle.segment_command.proofs.film.cut_tag.Goals as goal

pub returns-in_err-new-in-Some-clause-goes : goal.returns-in_err-new-in-Some-clause-goes
returns-in_err-new-in-Some-clause-goes g c = λ start s.
    let view : g.row.H-File.Denot → FileSeen = λ f. file_seen (g.H.File.Sink.holds f) (g.H.File.Sink.faults f) in
    let h = tag_memory c.args.name.now c.args.segmenter.now c.args.tag c.args.pending.now (option_map view c.args.file.now) start (g.H.House.told c.args.house.now) s in
    search (rules, h)

pub returns-in_ok-new-in-Some-clause-goes : goal.returns-in_ok-new-in-Some-clause-goes
returns-in_ok-new-in-Some-clause-goes g c = λ start s.
    let view : g.row.H-File.Denot → FileSeen = λ f. file_seen (g.H.File.Sink.holds f) (g.H.File.Sink.faults f) in
    let r = c.cut_item.new in
    let unit : Media = c.in_ok-new-in-Some.field-0 in
    let is : items_of c.args.tag ≡ AUnit unit ∷ [] =
    ap as_item (sym c.in-Some.ensures.value) ∙ ap (λ (u : Media). AUnit u ∷ []) (sym c.in_ok-new-in-Some.ensures) in
    unit_cut c.cut_item.result c.args.name.now (list_of r.segmenter) c.args.segmenter.now r.segmenter c.args.tag (AUnit unit) r.pending (option_map view r.file) start
    (g.H.House.told r.house) is (c.cut_item.ensures.goes start s)

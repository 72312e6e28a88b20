use Rattle.std.proofs.Common.{◌≡◌, ◌∙◌, ◌++◌, List, ℕ, ap, inr}
use Rattle.live_segments.specs.Known.{Known}
use Rattle.live_segments.specs.Live.{item_bytes}
use Rattle.hls_command.specs.Parts.{asked_by, series_seen}
use Rattle.hls_command.proofs.Writing.{item_goes, part_as}
use Rattle.hls_command.proofs.film.cut_item.Goals as goal

pub returns-in-Ok-clause-goes : goal.returns-in-Ok-clause-goes
returns-in-Ok-clause-goes g c = λ start s.
    let k = c.args.segmenter.now in
    let item = c.args.item.now in
    let r = c.in-Ok in
    let bytes = item_bytes k.target k.past item in
    let text : c.as_slice.result.now ≡ bytes = c.as_slice.ensures ∙ r.ensures.bytes ∙ ap (λ (l : List ℕ). l ++ bytes) c.new-text.ensures in
    item_goes c.write.result c.args.name.now k c.item.new.self item r.cut c.as_slice.result.now start
    (series_seen (g.F.FileSeries.told c.args.series.now) (g.F.FileSeries.faults c.args.series.now))
    (series_seen (g.F.FileSeries.told c.write.new.series) (g.F.FileSeries.faults c.write.new.series))
    r.ensures.known r.ensures.cut text s c.write.ensures.told c.write.ensures.faults

pub returns-clause-goes : goal.returns-clause-goes
returns-clause-goes g c = λ start s.
    let k = c.args.segmenter.now in
    let e = c.in-Err.ensures.refused.0 in
    part_as c.args.name.now k c.item.new.self start (series_seen (g.F.FileSeries.told c.args.series.now) (g.F.FileSeries.faults c.args.series.now))
    (ap (λ (x : Known). asked_by c.args.name.now x) e) (ap (λ (x : Known). x.past) e) s

use Rattle.std.proofs.Common.{◌≡◌, ap₂, subst, List, ℕ}
use Rattle.file_series.specs.declared.series.SeriesFail.TheVariants.{OutOfMemory}
use Rattle.hls_command.specs.Outcome.{seen}
use Rattle.hls_command.specs.Parts.{IsCut, IsPartCut, asked_by}
use Rattle.hls_command.specs.Words.{Asked, asked}
use Rattle.hls_command.proofs.Ending.{cut_is, nothing_cut, part_cut}
use Rattle.hls_command.proofs.hls_files.cut_named.Goals as goal

pub returns-in_default : goal.returns-in_default
returns-in_default g c =
    let a = asked c.args.name.now c.args.target c.args.keep in
    let old = seen (g.S.Source.left c.args.input.now) (g.F.FileSeries.told c.args.series.now) (g.S.Source.faults c.args.input.now) (g.F.FileSeries.faults c.args.series.now) in
    rw c.fail_status.ensures (part_cut OutOfMemory a old old (nothing_cut a old))

pub returns-in-Ok-cut : goal.returns-in-Ok-cut
returns-in-Ok-cut g c =
    let name = c.args.name.now in
    let a = asked name c.args.target c.args.keep in
    let old = seen (g.S.Source.left c.args.input.now) (g.F.FileSeries.told c.args.series.now) (g.S.Source.faults c.args.input.now) (g.F.FileSeries.faults c.args.series.now) in
    let r = c.cut.new in
    let new = seen (g.S.Source.left r.input) (g.F.FileSeries.told r.series) (g.S.Source.faults r.input) (g.F.FileSeries.faults r.series) in
    let is : asked_by name c.in-Ok.film.segmenter ≡ a = ap₂ (λ (t k : ℕ). asked name t k) c.in-Ok.ensures.asked.0 c.in-Ok.ensures.asked.1 in
    cut_is a c.in-Ok-cut.status old new (subst (λ (x : Asked). IsCut x c.in-Ok-cut.status old new) is c.in-Ok-cut.ensures)

pub returns : goal.returns
returns g c =
    let name = c.args.name.now in
    let a = asked name c.args.target c.args.keep in
    let old = seen (g.S.Source.left c.args.input.now) (g.F.FileSeries.told c.args.series.now) (g.S.Source.faults c.args.input.now) (g.F.FileSeries.faults c.args.series.now) in
    let r = c.cut.new in
    let new = seen (g.S.Source.left r.input) (g.F.FileSeries.told r.series) (g.S.Source.faults r.input) (g.F.FileSeries.faults r.series) in
    let is : asked_by name c.in-Ok.film.segmenter ≡ a = ap₂ (λ (t k : ℕ). asked name t k) c.in-Ok.ensures.asked.0 c.in-Ok.ensures.asked.1 in
    rw c.fail_status-in-Err.ensures (part_cut c.in-Err.fail a old new (subst (λ (x : Asked). IsPartCut x c.in-Err.fail old new) is c.in-Err.ensures))

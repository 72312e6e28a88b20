use Rattle.std.proofs.Common.{ℕ, subst}
use Rattle.file_commands.specs.Outcome.{seen}
use Rattle.segment_command.specs.declared.stop.Fault.TheVariants.{Memory}
use Rattle.segment_command.specs.Parts.{IsCut, IsPartCut}
use Rattle.segment_command.specs.Words.{asked}
use Rattle.segment_command.proofs.Ending.{cut_is, nothing_cut, part_cut}
use Rattle.segment_command.proofs.segments.cut_named.Goals as goal

pub returns-in_default : goal.returns-in_default
returns-in_default g c =
    let a = asked c.args.name.now c.args.least in
    let told = g.H.House.told c.args.house.now in
    let old = seen (g.S.Source.left c.args.input.now) (g.K.Sink.holds c.args.out.now) (g.S.Source.faults c.args.input.now) (g.K.Sink.faults c.args.out.now) in
    rw c.fault_status.ensures (part_cut Memory a old old told told (nothing_cut a old told))

pub returns-in-Ok-cut : goal.returns-in-Ok-cut
returns-in-Ok-cut g c =
    let name = c.args.name.now in
    let told = g.H.House.told c.args.house.now in
    let told' = g.H.House.told c.cut.new.house in
    let old = seen (g.S.Source.left c.args.input.now) (g.K.Sink.holds c.args.out.now) (g.S.Source.faults c.args.input.now) (g.K.Sink.faults c.args.out.now) in
    let r = c.cut.new in
    let new = seen (g.S.Source.left r.input) (g.K.Sink.holds r.out) (g.S.Source.faults r.input) (g.K.Sink.faults r.out) in
    cut_is (asked name c.args.least) c.in-Ok-cut.status old new told told'
    (subst (λ (n : ℕ). IsCut (asked name n) c.in-Ok-cut.status old new told told') c.in-Ok.ensures.fresh.1 c.in-Ok-cut.ensures)

pub returns : goal.returns
returns g c =
    let name = c.args.name.now in
    let told = g.H.House.told c.args.house.now in
    let told' = g.H.House.told c.cut.new.house in
    let old = seen (g.S.Source.left c.args.input.now) (g.K.Sink.holds c.args.out.now) (g.S.Source.faults c.args.input.now) (g.K.Sink.faults c.args.out.now) in
    let r = c.cut.new in
    let new = seen (g.S.Source.left r.input) (g.K.Sink.holds r.out) (g.S.Source.faults r.input) (g.K.Sink.faults r.out) in
    rw c.fault_status-in-Err.ensures
    (part_cut c.in-Err.fault (asked name c.args.least) old new told told'
    (subst (λ (n : ℕ). IsPartCut (asked name n) c.in-Err.fault old new told told') c.in-Ok.ensures.fresh.1 c.in-Err.ensures))

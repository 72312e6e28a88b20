use Rattle.std.proofs.Common.{refl, ap, sym, subst, ◌∙◌}
use Rattle.file_commands.specs.Remux.{IsWholeCode}
use Rattle.relay_base.specs.declared.limits.Status.{Status}
use Rattle.file_commands.specs.Outcome.{seen}
use Rattle.file_commands.proofs.Files.{closes, source_settled, sink_settled}
use Rattle.file_commands.proofs.Outcomes.{finished, failed, left_out, other_code, other_codes, told_of}
use Rattle.file_commands.proofs.whole.convert.Goals as goal

pub returns-in-Ok-clause-outcome : goal.returns-in-Ok-clause-outcome
returns-in-Ok-clause-outcome g c =
    let C = g.C.Convert in
    let r = c.read_file.new in
    let old = seen (g.S.Source.left c.args.input.now) (g.K.Sink.holds c.args.out.now) (g.S.Source.faults c.args.input.now) (g.K.Sink.faults c.args.out.now) in
    let new = seen (g.S.Source.left r.input) (g.K.Sink.holds r.out) (g.S.Source.faults r.input) (g.K.Sink.faults r.out) in
    rw c.whole_status.ensures
    (finished C.gives C.stops C.cut C.whole c.in-Ok.some_out _ old new refl c.in-Ok.ensures.ends c.in-Ok.ensures.source c.in-Ok.ensures.sink)

pub returns-clause-outcome : goal.returns-clause-outcome
returns-clause-outcome g c =
    let C = g.C.Convert in
    let r = c.read_file.new in
    let out = c.settle.new.out in
    let old = seen (g.S.Source.left c.args.input.now) (g.K.Sink.holds c.args.out.now) (g.S.Source.faults c.args.input.now) (g.K.Sink.faults c.args.out.now) in
    let new = seen (g.S.Source.left r.input) (g.K.Sink.holds out) (g.S.Source.faults r.input) (g.K.Sink.faults out) in
    let settles = rw c.as_slice.ensures at c.settle.ensures.settles in
    rw c.status_of.ensures
    (failed C.gives C.stops C.cut C.whole c.settle.result _ old new refl
    (closes C.gives C.stops C.cut C.whole c.in-Err.fail c.settle.result r.text (g.S.Source.left c.args.input.now) (g.S.Source.left r.input)
    (g.K.Sink.holds c.args.out.now) (g.K.Sink.holds r.out) (g.K.Sink.holds out) c.in-Err.ensures.ends settles)
    (source_settled c.in-Err.fail c.settle.result r.text (g.K.Sink.holds r.out) (g.K.Sink.holds out) (g.K.Sink.faults r.out) (g.K.Sink.faults out)
    (g.S.Source.faults c.args.input.now) (g.S.Source.faults r.input) settles c.settle.ensures.faults c.in-Err.ensures.source)
    (sink_settled c.in-Err.fail c.settle.result r.text (g.K.Sink.holds r.out) (g.K.Sink.holds out) (g.K.Sink.faults c.args.out.now) (g.K.Sink.faults r.out)
    (g.K.Sink.faults out) settles c.settle.ensures.faults c.in-Err.ensures.sink))

pub returns-in-Ok-clause-left_out : goal.returns-in-Ok-clause-left_out
returns-in-Ok-clause-left_out g c = λ e.
    let C = g.C.Convert in
    let r = c.read_file.new in
    left_out C.gives C.stops C.cut C.whole c.in-Ok.some_out (g.S.Source.left c.args.input.now) (g.S.Source.left r.input) (g.K.Sink.holds c.args.out.now)
    (g.K.Sink.holds r.out) c.in-Ok.ensures.ends (sym (ap (λ (s : Status). s.code) c.whole_status.ensures) ∙ e)

pub returns-clause-left_out : goal.returns-clause-left_out
returns-clause-left_out g c = λ e. absurd (other_code c.settle.result (sym (ap (λ (s : Status). s.code) c.status_of.ensures) ∙ e))

pub returns-in-Ok-clause-told : goal.returns-in-Ok-clause-told
returns-in-Ok-clause-told g c = λ _ bytes is.
    let r = c.read_file.new in
    told_of g.C.Convert.told r.file bytes (g.S.Source.left c.args.input.now) (g.S.Source.left r.input) c.in-Ok.ensures.told c.in-Ok.ensures.ends.end is

pub returns-clause-told : goal.returns-clause-told
returns-clause-told g c = λ e. absurd (other_codes c.settle.result (subst (λ (s : Status). IsWholeCode s.code) c.status_of.ensures e))

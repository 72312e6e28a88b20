use Rattle.std.proofs.Common.{◌∙◌, List, ℕ, sym, ap, subst, map}
use Rattle.std.specs.Io.KnownBytes.{append_known}
use Rattle.relay_program.specs.Parts.{PutFails}
use Rattle.relay_program.specs.Soaked.{units_asked}
use Rattle.relay_program.proofs.SoakEnds.{soak_finished, soak_unwritten}
use Rattle.relay_program.proofs.soaks.soak.Goals as goal

pub returns-in-Ok-put_all-clause-outcome : goal.returns-in-Ok-put_all-clause-outcome
returns-in-Ok-put_all-clause-outcome g c =
    let before = g.K.Sink.holds c.args.out.now in
    let now = g.K.Sink.holds c.put_all.new.out in
    let asks = sym c.units_asked.ensures.value ∙ c.in-Some.is in
    let wrote = c.in-Ok-put_all.ensures.text ∙ ap (append_known before) c.as_slice.ensures in
    soak_finished (units_asked (map (λ w. w.items) c.args.words.now)) c.in-Some.n c.in-Ok.text before now (g.K.Sink.faults c.args.out.now) (g.K.Sink.faults c.put_all.new.out)
    asks c.in-Ok.ensures wrote c.in-Ok-put_all.ensures.faults

pub returns-clause-outcome : goal.returns-clause-outcome
returns-clause-outcome g c =
    let before = g.K.Sink.holds c.args.out.now in
    let now = g.K.Sink.holds c.put_all.new.out in
    let fail = c.in-Err-put_all.fail in
    let asks = sym c.units_asked.ensures.value ∙ c.in-Some.is in
    let wrote = subst (λ (t : List ℕ). PutFails fail t before now) c.as_slice.ensures c.in-Err-put_all.ensures.text in
    rw c.status_of.ensures
    (soak_unwritten fail (units_asked (map (λ w. w.items) c.args.words.now)) c.in-Some.n c.in-Ok.text before now (g.K.Sink.faults c.args.out.now) (g.K.Sink.faults c.put_all.new.out)
    asks c.in-Ok.ensures wrote c.in-Err-put_all.ensures.faults)

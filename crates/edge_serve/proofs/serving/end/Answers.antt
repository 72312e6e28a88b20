use Rattle.std.proofs.Common.{rules, ◌≡◌, ◌⊎◌, ℕ, List, Some, refl, sym, subst}
use Rattle.relay_config.specs.declared.config.ConfigFail.TheVariants as fail
use Rattle.relay_config.specs.Accepts.{Accepts, refusal}
use Rattle.relay_serve.specs.Ends.{outer, seen}
use Rattle.relay_serve.proofs.Ends.{ends_refused}
use Rattle.edge_serve.specs.Pulls.{origin}
use Rattle.edge_serve.proofs.Ending.{accepted_ends, refused_ends, refuses_only}
use Rattle.edge_serve.proofs.serving.end.Goals as goal

pub returns-in-Ok-read_config-clause-ends : goal.returns-in-Ok-read_config-clause-ends
returns-in-Ok-read_config-clause-ends g c =
    let same : g.S.Source.faults c.read_text.new.source ≡ g.S.Source.faults c.args.config.now = search rules in
    let text : c.as_slice.result.now ≡ c.in-Ok.text.items = search rules in
    let accepts = subst (λ (b : List ℕ). Accepts b c.in-Ok-read_config.accepted) text c.in-Ok-read_config.ensures.ok in
    accepted_ends _ _ _ _ _ _ c.run.result.0 (sym c.in-Some.ensures.asked) same c.in-Ok.text.items c.in-Ok.ensures.text c.in-Ok-read_config.accepted
    accepts c.run.ensures.0 c.run.ensures.1

pub returns-in-Err-clause-ends : goal.returns-in-Err-clause-ends
returns-in-Err-clause-ends g c =
    let H = g.H.House in
    let K = g.K.Sink in
    let same : g.S.Source.faults c.read_text.new.source ≡ g.S.Source.faults c.args.config.now = search rules in
    let cause : (c.in-Err.fail ≡ fail.OutOfMemory) ⊎ (refusal c.in-Ok.text.items ≡ Some c.in-Err.fail) = search rules in
    let old = outer (g.S.Source.left c.args.config.now) (g.S.Source.faults c.args.config.now)
    (seen (K.holds c.args.out.now) (K.faults c.args.out.now) (H.told c.args.house.now) (H.asked c.args.house.now) (H.named c.args.house.now)) in
    let new = outer (g.S.Source.left c.read_text.new.source) (g.S.Source.faults c.read_text.new.source)
    (seen (K.holds c.refuse.new.out) (K.faults c.refuse.new.out) (H.told c.args.house.now) (H.asked c.args.house.now) (H.named c.args.house.now)) in
    refused_ends _ _ (sym c.in-Some.ensures.asked) old new (origin (g.L.Link.told c.args.link) (g.L.Link.counts c.args.link)) c.refuse.result
    (ends_refused old new c.refuse.result c.in-Ok.text.items c.in-Err.fail same c.in-Ok.ensures.text cause refl c.refuse.ensures)
    (refuses_only c.in-Err.fail _ _ _ _ c.refuse.result c.refuse.ensures)

use Rattle.std.proofs.Common.{rules, ◌≡◌, ◌⊎◌, Some, refl}
use Rattle.relay_config.specs.declared.config.ConfigFail.TheVariants as fail
use Rattle.relay_config.specs.Accepts.{refusal}
use Rattle.relay_serve.specs.Ends.{outer, seen}
use Rattle.relay_serve.proofs.Ends.{ends_refused}
use Rattle.relay_serve.proofs.serving.end.Goals as goal

pub returns-clause-ends : goal.returns-clause-ends
returns-clause-ends g c =
    let same : g.S.Source.faults c.read_text.new.source ≡ g.S.Source.faults c.args.config.now = search rules in
    let cause : (c.in-Err.fail ≡ fail.OutOfMemory) ⊎ (refusal c.in-Ok.text.items ≡ Some c.in-Err.fail) = search rules in
    let r = ends_refused (outer (g.S.Source.left c.args.config.now) (g.S.Source.faults c.args.config.now) (seen (g.K.Sink.holds c.args.out.now) (g.K.Sink.faults c.args.out.now) (g.H.House.told c.args.house.now) (g.H.House.asked c.args.house.now) (g.H.House.named c.args.house.now)))
    (outer (g.S.Source.left c.read_text.new.source) (g.S.Source.faults c.read_text.new.source) (seen (g.K.Sink.holds c.refuse.new.out) (g.K.Sink.faults c.refuse.new.out) (g.H.House.told c.args.house.now) (g.H.House.asked c.args.house.now) (g.H.House.named c.args.house.now)))
    c.refuse.result c.in-Ok.text.items c.in-Err.fail same c.in-Ok.ensures.text cause refl c.refuse.ensures in
    search (rules, r)

use Rattle.std.proofs.Common.{rules, ◌≡◌, ◌∙◌, None, Some, is_some, sym, ap, subst}
use Rattle.std.specs.Prelude.{IfSome}
use Rattle.stream_registry.specs.Gates.{told_at}
use Rattle.stream_registry.specs.Names.{PortRules}
use Rattle.stream_registry.specs.SharedState.{shared_rules}
use Rattle.relay_serve.specs.Http.{IsServingHttp}
use Rattle.relay_serve.specs.Starts.{HasRules}
use Rattle.relay_serve.proofs.Players.{balanced_from, left_none, left_some}
use Rattle.relay_serve.proofs.http.take_http_apart.Goals as goal

pub returns-in_default-clause-left : goal.returns-in_default-clause-left
returns-in_default-clause-left g c = λ r.
    let none : c.args.http ≡ None = search rules in
    left_none c.args.config.now (shared_rules c.args.first.now).limits (told_at c.args.first.now.roots) _ c.args.config.now.http (sym c.requires.there ∙ ap is_some none)

pub returns-clause-left : goal.returns-clause-left
returns-clause-left g c = λ r.
    let there : c.args.http ≡ Some c.in-Some.worker = search rules in
    let own = subst (λ o. IfSome o (λ w. HasRules (shared_rules c.args.first.now) w.bench.port)) there c.requires.rules in
    let same : HasRules (shared_rules c.args.first.now) c.finish-finished.result.port = ap shared_rules c.finish-finished.ensures.port ∙ own in
    let s = subst (λ o. IfSome o (IsServingHttp c.args.config.now g.D.Link.Link.told g.D.Link.Link.counts g.D.Door.told)) there c.requires.serving in
    left_some c.args.config.now (shared_rules c.args.first.now).limits (told_at c.gather.new.self.roots) c.finish-finished.result.worn c.args.config.now.http (g.D.Door.told c.finish-finished.result.door)
    (sym c.requires.there ∙ ap is_some there)
    (balanced_from c.args.config.now (shared_rules c.args.first.now).limits (told_at c.finish-finished.result.port.roots) (told_at c.gather.new.self.roots)
    (shared_rules c.finish-finished.result.port).limits c.in-Some.worker.terms (g.D.Door.told c.finish-finished.result.door) c.finish-finished.result.refused c.finish-finished.result.worn
    (c.finish-finished.ensures.books _ s.books) r (ap (λ (q : PortRules). q.limits) same) c.gather.ensures.later s.limited s.links_are)

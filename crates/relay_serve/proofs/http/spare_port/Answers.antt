use Rattle.std.proofs.lemmas.List.Elements.{All-pop}
use Rattle.stream_registry.specs.SharedState.{shared_rules}
use Rattle.relay_serve.specs.Starts.{HasRules}
use Rattle.relay_serve.proofs.http.spare_port.Goals as goal

pub returns-clause-rules : goal.returns-clause-rules
returns-clause-rules c = (All-pop (HasRules (shared_rules c.args.rules.now)) c.args.ports.now.items c.pop.new.self.items c.pop.result c.pop.ensures.items c.requires.rules).0

pub returns-clause-own : goal.returns-clause-own
returns-clause-own c = (All-pop (HasRules (shared_rules c.args.rules.now)) c.args.ports.now.items c.pop.new.self.items c.pop.result c.pop.ensures.items c.requires.rules).1

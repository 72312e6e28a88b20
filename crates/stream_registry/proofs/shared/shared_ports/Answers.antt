use Rattle.std.proofs.Common.{rules, ◌≡◌, [], ◌∷◌, ◌++◌, All, length, length-append, ◌-◌, sym, subst, ap, arith}
use Rattle.std.proofs.lemmas.List.Elements.{All-push}
use Rattle.stream_registry.specs.Roots.{gates}
use Rattle.stream_registry.specs.Names.{shapes_of}
use Rattle.stream_registry.specs.SharedState.{IsNewPort}
use Rattle.stream_registry.proofs.Placing.{new_each, new_first, apart}
use Rattle.stream_registry.proofs.Forking.{all_split}
use Rattle.stream_registry.proofs.shared.shared_ports.Goals as goal

pub returns : goal.returns
returns c =
    let ids = gates c.in_ok-first.first.roots in
    let new = IsNewPort c.args.names c.args.opens ids in
    let items : c.push.new.self.items ≡ c.in_ok-list.list.items ++ c.fork_ports.new.first ∷ [] = search rules in
    let each : All new c.in_ok-list.list.items = new_each c.args.names c.args.opens c.in_ok-first.first c.in_ok-list.list.items c.in_ok-first.ensures.new c.in_ok-list.ensures.forks.1 in
    record {
      ids = ids;
      a_gate_each = c.in_ok-first.ensures.gates.1;
      sites_are = c.in_ok-first.ensures.gates.0;
      apart = apart (shapes_of c.args.limits c.args.names c.args.opens) ids c.in_ok-first.ensures.gates.0;
      each = subst (All new) (sym items) (All-push new c.in_ok-list.list.items c.fork_ports.new.first each (new_first c.args.names c.args.opens ids c.in_ok-first.first c.fork_ports.new.first c.in_ok-first.ensures.new c.in_ok-list.ensures.same));
      all = omega (arith, ap length items, length-append c.in_ok-list.list.items (c.fork_ports.new.first ∷ []), c.in_ok-list.ensures.forks.0);
      kin = λ some. all_split c.in_ok-first.first c.fork_ports.new.first c.in_ok-list.list.items c.push.new.self.items (length ids) (c.args.ports - 1) c.in_ok-first.ensures.kin c.in_ok-list.ensures.forks.1 c.in_ok-list.ensures.forks.0 c.in_ok-list.ensures.kin items;
    }

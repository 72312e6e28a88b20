use Rattle.std.proofs.Common.{rules, refl, ◌≡◌, ◌∷◌, ◌++◌, [], All, sym, subst}
use Rattle.std.proofs.lemmas.List.Elements.{All-push}
use Rattle.stream_registry.specs.Roots.{kin_at}
use Rattle.stream_registry.specs.SharedState.{IsFork}
use Rattle.stream_registry.proofs.Forking.{cut_none, as_before, before_then, fork_of, kin_more}
use Rattle.stream_registry.proofs.shared.fork_ports.Goals as goal

pub loop-init : goal.loop-init
loop-init c = record { same = as_before c.args.first.now c.args.first.now refl; each = search rules; count = search rules; kin = λ q. cut_none (kin_at c.args.first.now.roots q) }

pub loop-preserved : goal.loop-preserved
loop-preserved c =
    let items : c.push.new.self.items ≡ c.loop.list.items ++ c.in_ok-port.port ∷ [] = search rules in
    let i = c.loop.invariant in
    let port : IsFork c.args.first.now c.in_ok-port.port = fork_of c.args.first.now c.loop.first c.in_ok-port.port c.loop.counter i.same i.kin c.in_ok-port.ensures.fork in
    record {
      same = before_then c.args.first.now c.loop.first c.fork.new.self i.same c.in_ok-port.ensures.same;
      each = subst (All (IsFork c.args.first.now)) (sym items) (All-push (IsFork c.args.first.now) c.loop.list.items c.in_ok-port.port i.each port);
      count = search rules;
      kin = kin_more c.args.first.now c.loop.first c.fork.new.self c.loop.counter i.kin c.in_ok-port.ensures.kin;
    }

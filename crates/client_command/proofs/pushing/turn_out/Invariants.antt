use Rattle.std.proofs.Common.{ℕ, List, Option}
use Rattle.client_owed.specs.declared.types.Asked.{Asked}
use Rattle.client_command.specs.Giving.{HasGiven}
use Rattle.client_command.specs.Pushes.{PushSeen, push_seen}
use Rattle.client_command.specs.Turned.{IsLive}
use Rattle.client_command.proofs.pushing.turn_out.Given as goal

abbrev pub invariant-loop : goal.invariant-loop
invariant-loop g l = record {
  live : IsLive l.client;
  goes : (k : Asked) (old : PushSeen) (left : Option (List ℕ)) (faults : ℕ)
      → HasGiven k l.fn.client old (push_seen left faults (g.L.Link.told l.fn.link) (g.L.Link.counts l.fn.link))
      → HasGiven k l.client old (push_seen left faults (g.L.Link.told l.link) (g.L.Link.counts l.link));
}

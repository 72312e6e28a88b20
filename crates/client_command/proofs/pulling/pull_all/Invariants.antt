use Rattle.std.proofs.Common.{◌≡◌, false, None}
use Rattle.client_owed.specs.declared.types.Asked.{Asked}
use Rattle.client_command.specs.Pulls.{PullSeen, pull_seen}
use Rattle.client_command.specs.Telling.{Plays}
use Rattle.client_command.specs.Turned.{IsLive}
use Rattle.client_command.proofs.pulling.pull_all.Given as goal

abbrev pub invariant-loop : goal.invariant-loop
invariant-loop g l = record {
  live : IsLive l.client;
  none : l.client.parts.gift ≡ None;
  goes : (k : Asked) (old : PullSeen)
      → Plays k l.fn.client false old (pull_seen (g.L.Link.told l.fn.link) (g.L.Link.counts l.fn.link) (g.K.Sink.holds l.fn.out) (g.K.Sink.faults l.fn.out))
      → Plays k l.client l.begun old (pull_seen (g.L.Link.told l.link) (g.L.Link.counts l.link) (g.K.Sink.holds l.out) (g.K.Sink.faults l.out));
}

use Rattle.client_owed.specs.declared.types.Asked.{Asked}
use Rattle.client_command.specs.Giving.{Gives, IsOpen, IsReading}
use Rattle.client_command.specs.Pushes.{PushSeen, push_seen}
use Rattle.client_command.proofs.pushing.give_all.Given as goal

abbrev pub invariant-loop : goal.invariant-loop
invariant-loop g l = record {
  may : IsOpen l.client;
  reading : IsReading l.film;
  goes : (k : Asked) (old : PushSeen)
      → Gives k l.fn.client l.fn.film old (push_seen (g.S.Source.left l.fn.input) (g.S.Source.faults l.fn.input) (g.L.Link.told l.fn.link) (g.L.Link.counts l.fn.link))
      → Gives k l.client l.film old (push_seen (g.S.Source.left l.input) (g.S.Source.faults l.input) (g.L.Link.told l.link) (g.L.Link.counts l.link));
}

use Rattle.avc_annexb.proofs.Sets.{Counts}
use Rattle.avc_annexb.proofs.avcc.sets.Given as goal

abbrev pub invariant-loop : goal.invariant-loop
invariant-loop l = Counts l.count l.total l.nal l.counter l.bytes l.left l.list.items

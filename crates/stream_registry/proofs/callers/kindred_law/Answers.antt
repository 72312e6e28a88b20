use Rattle.turn_gate.proofs.Kindreds.{whole_of, kindred_then, kindred_both, kindred_swap}
use Rattle.stream_registry.proofs.Kinning.{ports_kindred, attached_kindred, called_kindred, detached_kindred, gathered_kindred}
use Rattle.stream_registry.proofs.callers.kindred_law.Goals as goal

pub returns-clause-whole : goal.returns-clause-whole
returns-clause-whole c = whole_of

pub returns-clause-next : goal.returns-clause-next
returns-clause-next c = kindred_then

pub returns-clause-both : goal.returns-clause-both
returns-clause-both c = kindred_both

pub returns-clause-swap : goal.returns-clause-swap
returns-clause-swap c = kindred_swap

pub returns-clause-attached : goal.returns-clause-attached
returns-clause-attached c = attached_kindred

pub returns-clause-called : goal.returns-clause-called
returns-clause-called c = λ kin kin' place pass pass' result s. called_kindred (kin place) pass (kin' place) pass' result s.here

pub returns-clause-detached : goal.returns-clause-detached
returns-clause-detached c = detached_kindred

pub returns-clause-gathered : goal.returns-clause-gathered
returns-clause-gathered c = gathered_kindred

pub returns-clause-ports : goal.returns-clause-ports
returns-clause-ports c = ports_kindred

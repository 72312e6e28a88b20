-- Which calls want memory, and the numbers of a Take
use Rattle.std.specs.Prelude.{Option, Some, None}
use Rattle.stream_model.specs.declared.calls.Call.{Call}
use Rattle.stream_model.specs.declared.calls.Call.TheVariants.{Take}
use Rattle.stream_model.specs.declared.calls.Entry.{Entry}
use Rattle.stream_registry.specs.declared.port.PortFail.{PortFail}
use Rattle.stream_registry.specs.declared.port.PortFail.TheVariants.{OutOfMemory}
use Rattle.stream_registry.specs.declared.again.TakeNumbers.{TakeNumbers}

abbrev pub IsTake : Call → Type 0
IsTake (Take player want) = Unit {0}
IsTake _ = ⊥

-- memory is refused only where the call may want it
abbrev pub IsWanted : Type 0 → PortFail → Type 0
IsWanted wants (OutOfMemory e) = wants
IsWanted wants _ = Unit {0}

-- the entry of which these are the numbers
abbrev pub taking : TakeNumbers → Entry
taking n = record { who = n.who; at = n.at; call = Take n.player n.want }

-- the numbers of a Take
abbrev pub numbers_of : Entry → Call → Option TakeNumbers
numbers_of entry (Take player want) = Some record { who = entry.who; at = entry.at; player = player; want = want }
numbers_of entry _ = None

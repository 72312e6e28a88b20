-- What a player stands for is what it owes
use Rattle.std.proofs.Common.{ℕ, [], ◌∙◌, append-nil, Option, Some, None}
use Rattle.command_dialog.specs.declared.types.Ask.{Ask}
use Rattle.command_dialog.specs.declared.types.Grant.{Grant}
use Rattle.http_flv.specs.Keeping.{IsOver, IsTold}
use Rattle.http_flv.specs.PlayerState.{BeginsOwed, OwesBy, StandsBy}
use Rattle.http_flv.specs.Turns.{OverBy}
use Rattle.http_flv.specs.declared.core_fields.Core.{Core}
use Rattle.http_flv.specs.declared.end.HttpEnd.{HttpEnd}
use Rattle.http_flv.specs.declared.end.HttpEnd.TheVariants as end

over_begins : (desk : Ask → Grant) (c : Core) → IsOver desk c → BeginsOwed desk c
over_begins desk c i = (i.more, record { verdict = i.verdict; read = i.read; owes = i.owes })

told_begins : (desk : Ask → Grant) (code : ℕ) (c : Core) → IsTold desk code c → BeginsOwed desk c
told_begins desk code c i = ([], record { verdict = i.verdict; read = i.read; owes = append-nil c.sent ∙ i.owes })

ended_begins : (e : HttpEnd) (desk : Ask → Grant) (c : Core) → OverBy desk c e → BeginsOwed desk c
ended_begins (end.Answered code) desk c i = told_begins desk code c i
ended_begins end.PeerClosed desk c i = over_begins desk c i
ended_begins end.LinkFault desk c i = over_begins desk c i
ended_begins end.Worn desk c i = over_begins desk c i
ended_begins end.OutOfMemory desk c i = over_begins desk c i
ended_begins end.Closed desk c i = over_begins desk c i

pub owes_by : (o : Option HttpEnd) (desk : Ask → Grant) (c : Core) → StandsBy o desk c → OwesBy o desk c
owes_by None desk c s = record { verdict = s.verdict; read = s.read; owes = s.owes }
owes_by (Some e) desk c i = ended_begins e desk c i

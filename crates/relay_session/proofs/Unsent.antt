-- The bytes that are owed and not sent
use Rattle.std.proofs.Common.{◌≡◌, ℕ, ◌+◌, List, ◌++◌, length, Option, Some, None, sym, ap, arith, length-append}
use Rattle.chunk_writer.specs.WriterKnown.{WriterKnown}
use Rattle.command_dialog.specs.declared.types.Ask.{Ask}
use Rattle.command_dialog.specs.declared.types.Grant.{Grant}
use Rattle.session_owed.specs.Chunks.{Hand, rest_by}
use Rattle.relay_session.specs.Owing.{Owing, owing, pending}
use Rattle.relay_session.specs.SessionState.{BeginsOwed, IsLiving, IsUnsent, StandsBy, pending_by}
use Rattle.relay_session.proofs.Stopping.{read_here}
use Rattle.relay_session.specs.declared.core_fields.Core.{Core}
use Rattle.relay_session.specs.declared.end.End.{End}

-- those that are encoded, those of the unit in hand, and those that stand after it
pub pending_sum : (o : Owing) (first : List ℕ) (offset item : ℕ) (hand : Option Hand) (later : List ℕ) (w : WriterKnown) (ready unit after : ℕ) → owing first offset item hand later w ≡ o
    → ready ≡ length o.ready → unit ≡ length (rest_by hand) → after ≡ length o.later → ready + unit + after ≡ length (pending o)
pending_sum o first offset item hand later w ready unit after is r u a =
    let rest : length o.rest ≡ length (rest_by hand ++ later) = sym (ap (λ (p : Owing). length p.rest) is) in
    let last : length o.later ≡ length later = sym (ap (λ (p : Owing). length p.later) is) in
    omega (arith, r, u, a, rest, last, length-append o.ready o.rest, length-append (rest_by hand) later)

pub unsent_by : (e : Option End) (desk : Ask → Grant) (c : Core) (n : ℕ) → IsLiving e c → StandsBy e desk c → n ≡ pending_by e c → IsUnsent e desk c n
unsent_by None desk c n l s is = (pending c.outgoing, (record { ms = c.reader.given; read = read_here c l.sound; owes = s.owes }, is))
unsent_by (Some e) desk c n l s is = (s.more, record { ms = s.ms; read = s.read; owes = s.owes })

pub begins_owed : (e : Option End) (desk : Ask → Grant) (c : Core) → IsLiving e c → StandsBy e desk c → BeginsOwed desk c
begins_owed None desk c l s = (pending c.outgoing, record { ms = c.reader.given; read = read_here c l.sound; owes = s.owes })
begins_owed (Some e) desk c l s = (s.more, record { ms = s.ms; read = s.read; owes = s.owes })

-- How a command ends, and its code
use Rattle.std.specs.Prelude.{ℕ, []}
use Rattle.client_command.specs.declared.ending.Refusal.{Refusal}
use Rattle.relay_base.specs.declared.limits.Status.{Status}
use Rattle.rtmp_client.specs.declared.end.ClientEnd.{ClientEnd}
use Rattle.rtmp_client.specs.declared.end.ClientEnd.TheVariants as end

-- how the stream ends: it was pushed or pulled whole, the client ends before, the film is refused there, its
-- source or the sink fails, or memory is refused
pub data How : Type 0 where
  Whole : How
  ByClient : ClientEnd → How
  ByFilm : ℕ → How
  BySource : How
  BySink : How
  ByMemory : How

abbrev pub status_at : ℕ → ℕ → Status
status_at code place = record { code = code; place = place }

-- the code of a client's end
abbrev pub client_status : ClientEnd → Status
client_status end.PeerClosed = status_at 10 0
client_status end.LinkFault = status_at 11 0
client_status (end.BadVersion at) = status_at 12 at
client_status (end.BadChunk cause at) = status_at 12 at
client_status (end.BadControl at) = status_at 12 at
client_status (end.BadCommand at) = status_at 12 at
client_status (end.Refused code description) = status_at 13 0
client_status end.Done = status_at 0 0
client_status end.OutOfMemory = status_at 6 0

-- THE CODE
abbrev pub status_of : How → Status
status_of Whole = status_at 0 0
status_of (ByClient e) = client_status e
status_of (ByFilm at) = status_at 4 at
status_of BySource = status_at 3 0
status_of BySink = status_at 5 0
status_of ByMemory = status_at 6 0

abbrev pub no_refusal : Refusal
no_refusal = record { code = []; description = [] }

abbrev pub refusal_in : ClientEnd → Refusal
refusal_in (end.Refused code description) = record { code = code; description = description }
refusal_in end.PeerClosed = no_refusal
refusal_in end.LinkFault = no_refusal
refusal_in (end.BadVersion at) = no_refusal
refusal_in (end.BadChunk cause at) = no_refusal
refusal_in (end.BadControl at) = no_refusal
refusal_in (end.BadCommand at) = no_refusal
refusal_in end.Done = no_refusal
refusal_in end.OutOfMemory = no_refusal

-- what the server said that refused the client
abbrev pub refusal_of : How → Refusal
refusal_of (ByClient e) = refusal_in e
refusal_of Whole = no_refusal
refusal_of (ByFilm at) = no_refusal
refusal_of BySource = no_refusal
refusal_of BySink = no_refusal
refusal_of ByMemory = no_refusal

-- Only proofs and private functions use it.
-- How a command ends, by what it came to
use Rattle.std.specs.Prelude.{◌≡◌, ℕ, List, Option, Some, None, Result, Ok, Err}
use Rattle.av_unit.specs.declared.bytes.OutOfMemory.{OutOfMemory}
use Rattle.rtmp_client.specs.declared.end.ClientEnd.{ClientEnd}
use Rattle.rtmp_client.specs.declared.end.ClientEnd.TheVariants as end
use Rattle.client_command.specs.Ends.{How, Whole, ByClient, ByFilm, BySource, BySink, ByMemory, refusal_of, status_of}
use Rattle.client_command.specs.declared.ending.Ended.{Ended}
use Rattle.client_command.specs.declared.stop.Stop.{Stop}
use Rattle.client_command.specs.declared.stop.Stop.TheVariants.{Client, Refused, Source, Sink, Memory}

-- by the end of the client: all was sent, or it ended before
abbrev pub client_how : ClientEnd → How
client_how end.Done = Whole
client_how end.PeerClosed = ByClient end.PeerClosed
client_how end.LinkFault = ByClient end.LinkFault
client_how (end.BadVersion at) = ByClient (end.BadVersion at)
client_how (end.BadChunk cause at) = ByClient (end.BadChunk cause at)
client_how (end.BadControl at) = ByClient (end.BadControl at)
client_how (end.BadCommand at) = ByClient (end.BadCommand at)
client_how (end.Refused code description) = ByClient (end.Refused code description)
client_how end.OutOfMemory = ByClient end.OutOfMemory

abbrev pub how_by : Option ClientEnd → How
how_by (Some e) = client_how e
how_by None = ByMemory

abbrev pub how_of : Result (Unit {0}) Stop → Option ClientEnd → How
how_of (Ok x) o = Whole
how_of (Err Client) o = how_by o
how_of (Err (Refused at)) o = ByFilm at
how_of (Err Source) o = BySource
how_of (Err Sink) o = BySink
how_of (Err Memory) o = ByMemory

-- its status and the words of the refusal are told
pub record Tells (how : How) (e : Ended) : Type 0 where
  pub status : e.status ≡ status_of how
  pub refusal : e.refusal ≡ refusal_of how

-- the client was refused
abbrev pub IsRefusal : How → Type 0
IsRefusal how = (code : List ℕ) × (description : List ℕ) × (how ≡ ByClient (end.Refused code description))

-- there is no memory for the words
abbrev pub IsLost : ClientEnd → Type 0
IsLost e = (code : List ℕ) × (description : List ℕ) × (e ≡ end.Refused code description)

abbrev pub MayTell : Result Ended OutOfMemory → How → Type 0
MayTell (Ok e) how = Tells how e
MayTell (Err f) how = IsRefusal how

-- Why an edge has ended, in the words of the reports: a replay's, and that of a server beside an edge
use Rattle.std.specs.Prelude.{ℕ, List, ◌++◌, codes, Option, Some, None}
use Rattle.std.specs.Fmt.{decimal}
use Rattle.chunk_reader.specs.declared.fail.ReadCause.{ReadCause}
use Rattle.chunk_reader.specs.declared.fail.ReadCause.TheVariants as cause
use Rattle.rtmp_client.specs.declared.end.ClientEnd.{ClientEnd}
use Rattle.rtmp_client.specs.declared.end.ClientEnd.TheVariants as client
use Rattle.origin_pull.specs.declared.end.EdgeEnd.{EdgeEnd}
use Rattle.origin_pull.specs.declared.end.EdgeEnd.TheVariants as edge

abbrev pub cause_text : ReadCause → List ℕ
cause_text (cause.NoHead id) = codes "nohead"
cause_text cause.TooManyIds = codes "toomanyids"
cause_text (cause.TooLong length) = codes "toolong"
cause_text cause.TooMuch = codes "toomuch"
cause_text (cause.BadChunkSize value) = codes "badchunksize"
cause_text cause.OutOfMemory = codes "outofmemory"
cause_text cause.TooFar = codes "toofar"

-- a word and a place
abbrev pub at_text : List ℕ → ℕ → List ℕ
at_text word at = word ++ codes " " ++ decimal at

abbrev pub client_text : Option ClientEnd → List ℕ
client_text None = codes "none"
client_text (Some client.PeerClosed) = codes "peerclosed"
client_text (Some client.LinkFault) = codes "linkfault"
client_text (Some (client.BadVersion at)) = at_text (codes "badversion") at
client_text (Some (client.BadChunk cause at)) = codes "badchunk " ++ at_text (cause_text cause) at
client_text (Some (client.BadControl at)) = at_text (codes "badcontrol") at
client_text (Some (client.BadCommand at)) = at_text (codes "badcommand") at
client_text (Some (client.Refused code description)) = codes "refused"
client_text (Some client.Done) = codes "done"
client_text (Some client.OutOfMemory) = codes "outofmemory"

-- WHY IT HAS ENDED, with why its client has
abbrev pub end_text : EdgeEnd → Option ClientEnd → List ℕ
end_text edge.Client c = client_text c
end_text (edge.InUse by) c = codes "inuse"
end_text edge.Worn c = codes "worn"
end_text edge.OutOfMemory c = codes "outofmemory"
end_text edge.NoSlot c = codes "noslot"
end_text edge.Closed c = codes "closed"

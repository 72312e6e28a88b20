-- What a replay prints at its script's end.
use Rattle.std.specs.Prelude.{◌≡◌, ◌<◌, ◌≤◌, ℕ, zero, suc, ◌+◌, ◌*◌, List, [], ◌∷◌, ◌++◌, length, reverse, slice_get, codes, Option, None, Some}
use Rattle.std.specs.Fmt.{decimal}
use Rattle.hex.specs.Hex.{encode_lower}
use Rattle.media_recorder.specs.Mediums.{most_held as most_recorded}
use Rattle.media_recorder.specs.declared.turn.RecEnd.{RecEnd}
use Rattle.media_recorder.specs.declared.turn.RecEnd.TheVariants as rec_end
use Rattle.relay_base.specs.declared.limits.Limits.{Limits}
use Rattle.relay_config.specs.Sum.{name_bytes, names_of, stream_bytes, total_of}
use Rattle.relay_config.specs.declared.config.OpenRule.{OpenRule}
use Rattle.relay_config.specs.declared.config.PlaceRule.{PlaceRule}
use Rattle.relay_session.specs.Holding.{IsHolding, most_held}
use Rattle.relay_session.specs.declared.end.End.{End}
use Rattle.relay_session.specs.declared.end.End.TheVariants as end
use Rattle.stream_model.specs.Shape.{shape_held}
use Rattle.stream_registry.specs.Books.{SoleState, journal_at, shapes_in}
use Rattle.stream_registry.specs.Names.{shape_at}
use Rattle.stream_registry.specs.declared.names.OpenName.{OpenName}
use Rattle.http_flv.specs.PlayerState as http
use Rattle.http_flv.specs.declared.end.HttpEnd.{HttpEnd}
use Rattle.http_flv.specs.declared.end.HttpEnd.TheVariants as http_end
use Rattle.rtmp_client.specs.Bounds.{IsWithin}
use Rattle.rtmp_client.specs.declared.end.ClientEnd.{ClientEnd}
use Rattle.origin_pull.specs.EdgeState as edge
use Rattle.origin_pull.specs.Words as edge_words
use Rattle.origin_pull.specs.Words.{cause_text}
use Rattle.origin_pull.specs.declared.end.EdgeEnd.{EdgeEnd}
use Rattle.relay_replay.specs.Guests.{ConnState, PlayState, PullState}
use Rattle.relay_replay.specs.declared.guest.Guest.{Guest}
use Rattle.relay_replay.specs.declared.guest.Guest.TheVariants as guest
use Rattle.relay_replay.specs.Plays.{link_of}
use Rattle.relay_replay.specs.Cast.{RecState, CastState}
use Rattle.relay_replay.specs.Scenes.{SceneState, IsOpen}

-- HEX
abbrev pub hex_text : List ℕ → List ℕ
hex_text [] = codes "-"
hex_text (b ∷ bytes) = encode_lower (b ∷ bytes)

-- ---- E

abbrev pub end_text : Option End → List ℕ
end_text None = codes "none"
end_text (Some end.PeerClosed) = codes "peerclosed"
end_text (Some end.LinkFault) = codes "linkfault"
end_text (Some (end.BadVersion at)) = codes "badversion " ++ decimal at
end_text (Some (end.BadChunk cause at)) = codes "badchunk " ++ cause_text cause ++ codes " " ++ decimal at
end_text (Some (end.BadControl at)) = codes "badcontrol " ++ decimal at
end_text (Some (end.BadCommand at)) = codes "badcommand " ++ decimal at
end_text (Some (end.TooManyStreams at)) = codes "toomanystreams " ++ decimal at
end_text (Some end.Quit) = codes "quit"
end_text (Some end.Worn) = codes "worn"
end_text (Some end.OutOfMemory) = codes "outofmemory"

-- of a player over HTTP
abbrev pub http_end_text : Option HttpEnd → List ℕ
http_end_text None = codes "none"
http_end_text (Some http_end.PeerClosed) = codes "peerclosed"
http_end_text (Some http_end.LinkFault) = codes "linkfault"
http_end_text (Some (http_end.Answered code)) = codes "answered " ++ decimal code
http_end_text (Some http_end.Worn) = codes "worn"
http_end_text (Some http_end.OutOfMemory) = codes "outofmemory"
http_end_text (Some http_end.Closed) = codes "closed"

-- of an edge, with why its client has
abbrev pub edge_end_text : Option EdgeEnd → Option ClientEnd → List ℕ
edge_end_text None c = codes "none"
edge_end_text (Some e) c = edge_words.end_text e c

abbrev pub end_words : Guest → List ℕ
end_words (guest.Session c) = end_text c.ended
end_words (guest.Player c) = http_end_text c.ended
end_words (guest.Edge c) = edge_end_text c.ended c.edge.client.ended

abbrev pub rec_end_text : Option RecEnd → List ℕ
rec_end_text None = codes "none"
rec_end_text (Some rec_end.SinkFault) = codes "sinkfault"
rec_end_text (Some rec_end.Full) = codes "full"
rec_end_text (Some rec_end.Worn) = codes "worn"
rec_end_text (Some rec_end.OutOfMemory) = codes "outofmemory"

-- ---- lines

abbrev pub session_lines : ℕ → List ℕ → List ℕ → List ℕ
session_lines n sent words =
    codes "session " ++ decimal n ++ codes " sent " ++ hex_text sent ++ codes "\nsession " ++ decimal n ++ codes " end " ++ words ++ codes "\n"

abbrev pub recorder_lines : ℕ → List ℕ → Option RecEnd → List ℕ
recorder_lines n file ended =
    codes "recorder " ++ decimal n ++ codes " file " ++ hex_text file ++ codes "\nrecorder " ++ decimal n ++ codes " end " ++ rec_end_text ended ++ codes "\n"

abbrev pub stream_line : ℕ → ℕ → List ℕ
stream_line n bytes = codes "stream " ++ decimal n ++ codes " held " ++ decimal bytes ++ codes "\n"

abbrev pub open_line : ℕ → ℕ → List ℕ
open_line n bytes = codes "open " ++ decimal n ++ codes " held " ++ decimal bytes ++ codes "\n"

abbrev pub held_line : ℕ → ℕ → List ℕ
held_line total sum = codes "held " ++ decimal total ++ codes " sum " ++ decimal sum ++ codes "\n"

-- from number n on
abbrev pub sessions_text : ℕ → List Guest → List ℕ
sessions_text n [] = []
sessions_text n (g ∷ gs) = session_lines n (link_of g).sent (end_words g) ++ sessions_text (n + 1) gs

abbrev pub recorders_text : ℕ → List RecState → List ℕ
recorders_text n [] = []
recorders_text n (r ∷ rs) = recorder_lines n r.file.bytes r.ended ++ recorders_text (n + 1) rs

-- what the stream or the open table at that place holds
abbrev pub held_at : SoleState → ℕ → ℕ
held_at port n = shape_held (shape_at (shapes_in port.rules) n) (reverse (journal_at port.books n))

-- the first so many streams
abbrev pub streams_text : SoleState → ℕ → List ℕ
streams_text port zero = []
streams_text port (suc n) = streams_text port n ++ stream_line n (held_at port n)

-- the first so many open tables, whose places are behind those of so many streams
abbrev pub opens_text : SoleState → ℕ → ℕ → List ℕ
opens_text port streams zero = []
opens_text port streams (suc n) = opens_text port streams n ++ open_line n (held_at port (streams + n))

-- ---- what all hold together

-- of each of a list, together
abbrev pub AllHold : {A : Type 0} → (A → ℕ → Type 0) → List A → ℕ → Type 0
AllHold holds [] n = n ≡ 0
AllHold holds (x ∷ xs) n = (h : ℕ) × (holds x h × ((m : ℕ) × (AllHold holds xs m × (n ≡ h + m))))

-- a session that has ended holds nothing
abbrev pub HoldsBy : Option End → ConnState → ℕ → Type 0
HoldsBy None c n = IsHolding c.session.parts c.session.input n × (n ≤ most_held c.session.parts.reader.max c.session.parts.reader.max)
HoldsBy (Some e) c n = n ≡ 0

abbrev pub Holds : ConnState → ℕ → Type 0
Holds c n = HoldsBy c.ended c n

abbrev pub PlayerHolds : Option HttpEnd → PlayState → ℕ → Type 0
PlayerHolds None c n = (n ≡ http.held_of c.player.parts) × (n ≤ http.most_held c.player.parts.longest)
PlayerHolds (Some e) c n = n ≡ 0

abbrev pub EdgeHolds : Option EdgeEnd → PullState → ℕ → Type 0
EdgeHolds None c n = edge.Holds c.edge.parts c.edge.client n × IsWithin c.edge.client.parts.reader.max n
EdgeHolds (Some e) c n = n ≡ 0

abbrev pub GuestHolds : Guest → ℕ → Type 0
GuestHolds (guest.Session c) n = Holds c n
GuestHolds (guest.Player c) n = PlayerHolds c.ended c n
GuestHolds (guest.Edge c) n = EdgeHolds c.ended c n

-- what a recorder's file is yet to take, and what its medium keeps
abbrev pub RecHolds : RecState → ℕ → Type 0
RecHolds r n = (n ≡ length r.recorder.tape.pending + r.recorder.tape.kept) × (n ≤ most_recorded r.recorder.tape.longest)

abbrev pub streams_hold : SoleState → ℕ → ℕ
streams_hold port zero = 0
streams_hold port (suc n) = streams_hold port n + held_at port n

abbrev pub opens_hold : SoleState → ℕ → ℕ → ℕ
opens_hold port streams zero = 0
opens_hold port streams (suc n) = opens_hold port streams n + held_at port (streams + n)

-- each of the first so many streams holds no more than it may
abbrev pub StreamsWithin : SoleState → ℕ → Type 0
StreamsWithin port k = (n : ℕ) → n < k → held_at port n ≤ port.rules.limits.bytes + 196608

-- and each of the first so many open tables
abbrev pub TablesWithin : SoleState → ℕ → ℕ → Type 0
TablesWithin port streams k =
    (n : ℕ) (o : OpenName) → n < k → slice_get port.rules.opens n ≡ Some o → held_at port (streams + n) ≤ o.slots * (port.rules.limits.bytes + 196672)

-- TOTAL: the sum of what the open sessions, the recorders, the streams and the open tables hold
pub record IsTotal (streams tables : ℕ) (c : CastState) (total : ℕ) : Type 0 where
  pub by_sessions : ℕ
  pub sessions : AllHold GuestHolds c.sessions by_sessions
  pub by_recorders : ℕ
  pub recorders : AllHold RecHolds c.recorders by_recorders
  pub total_is : total ≡ by_sessions + by_recorders + (streams_hold c.port streams + opens_hold c.port streams tables)

-- SUM: the most that all may hold
abbrev pub most_of : Limits → List PlaceRule → List OpenRule → CastState → ℕ
most_of limits streams opens c = total_of limits (length streams) (names_of opens) (length c.sessions) (length c.recorders)

-- all that is printed, with that total
abbrev pub text_of : Limits → List PlaceRule → List OpenRule → CastState → ℕ → List ℕ
text_of limits streams opens c total =
    ((sessions_text 0 c.sessions ++ recorders_text 0 c.recorders) ++ streams_text c.port (length streams) ++ opens_text c.port (length streams) (length opens))
    ++ held_line total (most_of limits streams opens c)

-- EACH STREAM holds at most its window and three configurations, and EACH OPEN TABLE the same for each of its
-- names, and the name
pub record AreWithin (limits : Limits) (streams : List PlaceRule) (opens : List OpenRule) (port : SoleState) : Type 0 where
  pub streams_are : (n : ℕ) → n < length streams → held_at port n ≤ stream_bytes limits
  pub tables_are : (n : ℕ) (o : OpenRule) → slice_get opens n ≡ Some o → held_at port (length streams + n) ≤ o.names * name_bytes limits

-- what is printed of these streams and open tables, and of the sessions and the recorders. TOTAL IS AT MOST SUM
pub record IsReport (limits : Limits) (streams : List PlaceRule) (opens : List OpenRule) (c : CastState) (text : List ℕ) : Type 0 where
  pub total : ℕ
  pub sum : IsTotal (length streams) (length opens) c total
  pub within : total ≤ most_of limits streams opens c
  pub each : AreWithin limits streams opens c.port
  pub text_is : text ≡ text_of limits streams opens c total

-- WHAT IS PRINTED: of the state that the lines led to, or of an empty one where none has acted
pub record Prints (s : SceneState) (text : List ℕ) : Type 0 where
  pub cast : CastState
  pub opened : IsOpen s.cast s cast
  pub report : IsReport s.limits s.places s.opens cast text

-- What a packet does, and the end
use Rattle.std.specs.Prelude.{ℕ, ◌-◌, Bool, true, false, ◌==◌, ◌&&◌, ◌||◌, not, nat_le, if◌then◌else◌, List, ◌++◌, length, drop, Option, Some, None, Result, Ok, Err}
use Rattle.pes_packets.specs.Tables.{audio_pid, pat_pid, pmt_pid, video_pid}
use Rattle.ts_reader.specs.declared.unit.TsUnit.{TsUnit}
use Rattle.ts_reader.specs.declared.fail.TsFail.{TsFail}
use Rattle.ts_reader.specs.declared.fail.TsFail.TheVariants.{NoSync, BadTable, BadCounter, BadPes, BadUnit}
use Rattle.ts_reader.specs.Fields.{counter_in, is_plain, is_synced, payload_at, pid_in, starts}
use Rattle.ts_reader.specs.Times.{Told, header_of}
use Rattle.ts_reader.specs.Sections.{Listed, is_pat, listed_in}
use Rattle.ts_reader.specs.Payloads.{is_carried}
use Rattle.ts_reader.specs.Mux.{Mux, Opened, kept, next}

-- PES_packet_length is that of what follows it: of audio eight bytes of header and the payload; video has none
abbrev pub has_its_length : Opened → Bool
has_its_length o = o.unit.video || (nat_le 8 o.length && (o.length - 8 == length o.unit.payload))

-- the unit of the PES packet that ends, if one is open, or why it is refused
unfoldable pub closed : Option Opened → Result (Option TsUnit) TsFail
closed None = Ok None
closed (Some o) =
    if not (has_its_length o) then Err (BadPes o.at)
    else (if not (is_carried o.unit.video o.unit.payload) then Err (BadUnit o.at)
    else Ok (Some o.unit))

-- a unit that a packet ends, or none, and what is kept then
abbrev pub Step : Type 0
Step = Result (Option TsUnit × Mux) TsFail

abbrev pub and_then : Result (Option TsUnit) TsFail → Mux → Step
and_then (Ok u) m = Ok (u, m)
and_then (Err e) m = Err e

-- the packet ends the open PES packet, and leaves this
abbrev pub ending : Mux → Mux → Step
ending m new = and_then (closed m.pes) new

-- the association table
unfoldable pub pat_step : ℕ → Mux → List ℕ → Step
pat_step at m p =
    if is_pat p then ending m (record m { pat = next m.pat; found = true; pes = None })
    else Err (BadTable at)

abbrev pub with_map : ℕ → Mux → Option Listed → Step
with_map at m (Some l) = ending m (record m { pmt = next m.pmt; listed = l; pes = None })
with_map at m None = Err (BadTable at)

-- the map, behind an association table
unfoldable pub pmt_step : ℕ → Mux → List ℕ → Step
pmt_step at m p = if m.found then with_map at m (listed_in p) else Err (BadTable at)

-- the clock's PID is video's where it is listed, else audio's
abbrev pub on_clock : Bool → Mux → Bool
on_clock video m = video || not m.listed.video

-- one packet more of a stream
abbrev pub counted : Bool → Mux → Option Opened → Mux
counted true m o = record m { video = next m.video; pes = o }
counted false m o = record m { audio = next m.audio; pes = o }

-- a PES packet with this header and this payload, as far as they are there
abbrev pub opening : Bool → ℕ → Mux → List ℕ → Option Told → Step
opening video at m b (Some h) =
    ending m
    (counted video m
    (Some
    (record { at = at; length = h.length; unit = record { video = video; pts = h.pts; dts = h.dts; payload = drop h.size b } })))
opening video at m b None = Err (BadPes at)

abbrev pub begun : Bool → ℕ → Mux → List ℕ → Option ℕ → Step
begun video at m p (Some n) = opening video at m (drop n p) (header_of video (drop n p))
begun video at m p None = Err (BadPes at)

-- the first packet of a PES packet
unfoldable pub first_step : Bool → ℕ → Mux → List ℕ → Step
first_step video at m p = begun video at m p (payload_at (on_clock video m) p)

abbrev pub same : Bool → Bool → Bool
same true b = b
same false b = not b

-- an open PES packet with more payload
abbrev pub with_more : Opened → List ℕ → Opened
with_more o b =
    record { at = o.at; length = o.length; unit = record { video = o.unit.video; pts = o.unit.pts; dts = o.unit.dts; payload = o.unit.payload ++ b } }

abbrev pub more_of : ℕ → Opened → List ℕ → Option ℕ → Result Opened TsFail
more_of at o p (Some n) = Ok (with_more o (drop n p))
more_of at o p None = Err (BadPes at)

-- the open PES packet with this packet's payload: only one of its own stream goes on with it
unfoldable pub continued : Bool → ℕ → List ℕ → Opened → Result Opened TsFail
continued video at p o = if same video o.unit.video then more_of at o p (payload_at false p) else Err (BadPes at)

abbrev pub going_on : Bool → Mux → Result Opened TsFail → Step
going_on video m (Ok o) = Ok (None, counted video m (Some o))
going_on video m (Err e) = Err e

abbrev pub on_open : Bool → ℕ → Mux → List ℕ → Option Opened → Step
on_open video at m p (Some o) = going_on video m (continued video at p o)
on_open video at m p None = Err (BadPes at)

-- another packet of the open PES packet
unfoldable pub more_step : Bool → ℕ → Mux → List ℕ → Step
more_step video at m p = on_open video at m p m.pes

-- a packet of a stream
unfoldable pub pes_step : Bool → ℕ → Mux → List ℕ → Step
pes_step video at m p =
    if not (is_plain p) then Err (BadPes at)
    else (if starts p then first_step video at m p else more_step video at m p)

-- by its PID
unfoldable pub pid_step : ℕ → Mux → List ℕ → Step
pid_step at m p =
    if pid_in p == pat_pid then pat_step at m p
    else (if pid_in p == pmt_pid then pmt_step at m p
    else (if (pid_in p == video_pid) && m.listed.video then pes_step true at m p
    else (if (pid_in p == audio_pid) && m.listed.audio then pes_step false at m p
    else Err (BadPes at))))

-- A PACKET, before which so many bytes stand
unfoldable pub step : ℕ → Mux → List ℕ → Step
step at m p =
    if not (is_synced p) then Err (NoSync at)
    else (if not (counter_in p == kept m (pid_in p)) then Err (BadCounter at (kept m (pid_in p)) (counter_in p))
    else pid_step at m p)

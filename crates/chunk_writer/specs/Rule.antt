-- The writer's rule: what the first chunk of a message says. It is this project's choice among what the standard allows
-- (5.3.1.2). A list of beginnings has the newest first.
use Rattle.std.specs.Prelude.{ℕ, ◌-◌, nat_eq, nat_le, nat_lt, Bool, not, ◌&&◌, ◌||◌, if◌then◌else◌, List, [], ◌∷◌, length, Option, Some, None}
use Rattle.chunk_wire.specs.declared.kept.Terms.{Terms}
use Rattle.chunk_wire.specs.declared.message.Message.{Message}
use Rattle.chunk_writer.specs.declared.begun.Begun.{Begun}
use Rattle.chunk_writer.specs.declared.heading.Heading.{Heading}

-- the types of message that are written: control messages, audio, video, data and commands
abbrev pub is_written : ℕ → Bool
is_written kind = (nat_le 1 kind && nat_le kind 6) || (nat_eq kind 8 || (nat_eq kind 9 || (nat_eq kind 18 || nat_eq kind 20)))

-- the chunk stream of messages of a type: control 2, commands 3, data 5, audio 6, video 7
unfoldable pub id_for : ℕ → ℕ
id_for kind = if nat_le kind 6 then 2 else (if nat_eq kind 20 then 3 else (if nat_eq kind 18 then 5 else (if nat_eq kind 8 then 6 else 7)))

-- what headers say of a message that is written on the chunk stream of its type
abbrev pub heading_of : Message → Heading
heading_of m = record { id = id_for m.kind; kind = m.kind; stream = m.stream; time = m.time; length = length m.body }

-- the last message begun on a chunk stream
abbrev pub last_on : ℕ → List Begun → Option Begun
last_on id [] = None
last_on id (b ∷ said) = if nat_eq b.id id then Some b else last_on id said

-- the message has another message stream than the one before on its chunk stream, or goes back in time
unfoldable pub starts_anew : Terms → Heading → Bool
starts_anew k h = not (nat_eq h.stream k.stream) || nat_lt h.time k.time

-- its length and its type are those of the one before
unfoldable pub is_alike : Terms → Heading → Bool
is_alike k h = nat_eq h.length k.length && nat_eq h.kind k.kind

-- the message before didn't begin with format 0, and came after the same delta, which has no extended time
unfoldable pub repeats : Begun → ℕ → Bool
repeats b delta = nat_lt 0 b.format && (nat_eq delta b.terms.delta && nat_lt delta 16777215)

-- the format of the first chunk, after the message before on its chunk stream
unfoldable pub format_after : Option Begun → Heading → ℕ
format_after None h = 0
format_after (Some b) h =
    if starts_anew b.terms h then 0
    else (if not (is_alike b.terms h) then 1
    else (if repeats b (h.time - b.terms.time) then 3 else 2))

-- what it counts from there: the time in format 0, else the delta
unfoldable pub delta_after : Option Begun → Heading → ℕ
delta_after None h = h.time
delta_after (Some b) h = if starts_anew b.terms h then h.time else h.time - b.terms.time

-- how a message is begun that counts so
abbrev pub begun_with : ℕ → ℕ → Heading → Begun
begun_with format delta h = record {
  id = h.id;
  format = format;
  terms = record { time = h.time; delta = delta; length = h.length; kind = h.kind; stream = h.stream; extended = nat_le 16777215 delta };
}

abbrev pub begun_after : Option Begun → Heading → Begun
begun_after last h = begun_with (format_after last h) (delta_after last h) h

-- how a message with this heading is begun after those begun before
abbrev pub begun_on : List Begun → Heading → Begun
begun_on said h = begun_after (last_on h.id said) h

-- how a message is begun on the chunk stream of its type
abbrev pub begun_in : List Begun → Message → Begun
begun_in said m = begun_on said (heading_of m)

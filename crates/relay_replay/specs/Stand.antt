-- Where in a script a line may stand, and what the lines before the first that acts say.
use Rattle.std.specs.Prelude.{ℕ, ◌+◌, Bool, true, false, not, ◌&&◌, ◌||◌, if◌then◌else◌, nat_eq, nat_le, nat_lt}
use Rattle.std.specs.Prelude.{List, [], ◌∷◌, ◌++◌, length, slice_get, slice_set, None, Some}
use Rattle.std.specs.declared.option.Option.{Option}
use Rattle.std.specs.List.{list_any}
use Rattle.std.specs.Cmp.Lexicographic.{pointwise}
use Rattle.key_guard.specs.declared.check.Grants.{Grants}
use Rattle.key_guard.specs.declared.check.Grants.TheVariants.{Open, Keys}
use Rattle.key_guard.specs.declared.check.Mode.{Mode}
use Rattle.key_guard.specs.declared.check.Mode.TheVariants.{Plain, Digest, Named}
use Rattle.relay_base.specs.declared.limits.Limits.{Limits as AllLimits}
use Rattle.relay_config.specs.declared.config.PlaceRule.{PlaceRule}
use Rattle.relay_config.specs.declared.config.OpenRule.{OpenRule}
use Rattle.relay_config.specs.Sum.{names_of}
use Rattle.relay_script.specs.declared.replay.Form.{Form}
use Rattle.relay_script.specs.declared.replay.Form.TheVariants.{Flv}
use Rattle.relay_script.specs.declared.replay.Side.{Side}
use Rattle.relay_script.specs.declared.replay.Side.TheVariants.{Publish, Play}
use Rattle.relay_script.specs.declared.replay.ReplayLine.{ReplayLine}
use Rattle.relay_script.specs.declared.replay.ReplayLine.TheVariants.{Nothing, Limits, Stream, Guard, Recorder, Session, Piece, Eof, Room, FailRecv, FailSend}
use Rattle.relay_script.specs.declared.replay.ReplayLine.TheVariants.{FailPut, Turn, Rec, All, Quit, OpenApp, GuardOpen, OpenHttp, OpenEdge}
use Rattle.relay_replay.specs.declared.recording.Plan.{Plan}

-- what the lines so far have said
pub record Stand : Type 0 where
  -- no line has done something
  pub fresh : Bool
  pub limits : AllLimits
  -- the streams with their keys
  pub places : List PlaceRule
  -- the open tables with theirs
  pub opens : List OpenRule
  pub recorders : List Plan
  -- how many sessions were opened, once a line has acted
  pub sessions : Option ℕ

-- the limits of a relay of which the script says none
abbrev pub defaults : AllLimits
defaults = record { max_message = 4194304; ring_bytes = 33554432; ring_items = 16384; players = 256; window = 2500000 }

-- no line has acted
abbrev pub is_setting : Option ℕ → Bool
is_setting None = true
is_setting (Some n) = false

abbrev pub count : Option ℕ → ℕ
count None = 0
count (Some n) = n

-- ---- streams, open tables and their keys

abbrev pub is_pair : List ℕ → List ℕ → PlaceRule → Bool
is_pair app name p = pointwise nat_eq p.app app && pointwise nat_eq p.name name

abbrev pub is_app : List ℕ → OpenRule → Bool
is_app app o = pointwise nat_eq o.app app

-- a stream that takes every key
abbrev pub open_place : List ℕ → List ℕ → PlaceRule
open_place app name = record { app = app; name = name; publish = Open; play = Open; mode = Plain; flv = None; ts = None }

-- an open table that takes every key
abbrev pub open_table : List ℕ → ℕ → OpenRule
open_table app n = record { app = app; names = n; publish = Open; play = Open; mode = Plain }

-- the streams, and the names that open tables have at a time
abbrev pub names_in : Stand → ℕ
names_in s = length s.places + names_of s.opens

abbrev pub same_mode : Mode → Mode → Bool
same_mode Plain Plain = true
same_mode Digest Digest = true
same_mode Named Named = true
same_mode _ _ = false

abbrev pub is_open : Grants → Bool
is_open Open = true
is_open (Keys keys) = false

-- all keys of a stream or an open table have one mode
abbrev pub takes_mode : Mode → Grants → Grants → Mode → Bool
takes_mode own publish play mode = same_mode own mode || (is_open publish && is_open play)

abbrev pub takes_at : Option PlaceRule → Mode → Bool
takes_at None mode = false
takes_at (Some p) mode = takes_mode p.mode p.publish p.play mode

abbrev pub table_takes : Option OpenRule → Mode → Bool
table_takes None mode = false
table_takes (Some o) mode = takes_mode o.mode o.publish o.play mode

abbrev pub with_key : Grants → List ℕ → Grants
with_key Open key = Keys (key ∷ [])
with_key (Keys keys) key = Keys (keys ++ key ∷ [])

-- the keys of each side, where that side gets one more
abbrev pub publish_with : Side → Grants → List ℕ → Grants
publish_with Publish grants key = with_key grants key
publish_with Play grants key = grants

abbrev pub play_with : Side → Grants → List ℕ → Grants
play_with Publish grants key = grants
play_with Play grants key = with_key grants key

-- a stream with one key more
abbrev pub keyed : PlaceRule → Side → Mode → List ℕ → PlaceRule
keyed p side mode key = record p { publish = publish_with side p.publish key; play = play_with side p.play key; mode = mode }

abbrev pub keyed_at : List PlaceRule → ℕ → Option PlaceRule → Side → Mode → List ℕ → List PlaceRule
keyed_at places n None side mode key = places
keyed_at places n (Some p) side mode key = slice_set places n (keyed p side mode key)

-- an open table with one key more
abbrev pub keyed_table : OpenRule → Side → Mode → List ℕ → OpenRule
keyed_table o side mode key = record o { publish = publish_with side o.publish key; play = play_with side o.play key; mode = mode }

abbrev pub table_keyed_at : List OpenRule → ℕ → Option OpenRule → Side → Mode → List ℕ → List OpenRule
table_keyed_at opens n None side mode key = opens
table_keyed_at opens n (Some o) side mode key = slice_set opens n (keyed_table o side mode key)

-- a recorder of that stream
abbrev pub plan : ℕ → Form → Plan
plan n form = record { stream = n; form = form }

abbrev pub no_plan : Plan
no_plan = plan 0 Flv

-- ---- where a line may stand

-- a stream may have these names
abbrev pub takes_stream : List ℕ → List ℕ → Stand → Bool
takes_stream app name s = nat_le (length name) 64 && (nat_lt (names_in s) 64 && not (list_any (is_pair app name) s.places))

-- an open table may have this application, with so many names
abbrev pub takes_table : List ℕ → ℕ → Stand → Bool
takes_table app n s = nat_le 1 n && (nat_le (names_in s + n) 64 && not (list_any (is_app app) s.opens))

abbrev pub has_session : ℕ → Stand → Bool
has_session n s = nat_lt n (count s.sessions)

abbrev pub has_recorder : ℕ → Stand → Bool
has_recorder n s = nat_lt n (length s.recorders)

-- a session, a player or an edge more
abbrev pub has_room : Stand → Bool
has_room s = nat_lt (count s.sessions) 64

-- a name that an edge may ask for
abbrev pub is_short : List ℕ → Bool
is_short name = nat_le 1 (length name) && nat_le (length name) 64

abbrev pub allows : ReplayLine → Stand → Bool
allows Nothing s = true
allows (Limits message bytes items players window) s = s.fresh && (nat_le message 4194304 && nat_le bytes 268435456)
allows (Stream app name) s = is_setting s.sessions && takes_stream app name s
allows (Guard n side mode key) s = is_setting s.sessions && takes_at (slice_get s.places n) mode
allows (OpenApp app n) s = is_setting s.sessions && takes_table app n s
allows (GuardOpen n side mode key) s = is_setting s.sessions && table_takes (slice_get s.opens n) mode
allows (Recorder n form) s = is_setting s.sessions && nat_lt n (length s.places)
allows Session s = has_room s
allows OpenHttp s = has_room s
allows (OpenEdge n app name) s = has_room s && (nat_lt n (length s.places) && (is_short app && is_short name))
allows (Piece n bytes) s = has_session n s
allows (Eof n) s = has_session n s
allows (Room n left) s = has_session n s
allows (FailRecv n) s = has_session n s
allows (FailSend n) s = has_session n s
allows (FailPut n) s = has_recorder n s
allows (Turn n k) s = has_session n s
allows (Rec n k) s = has_recorder n s
allows (All k) s = true
allows (Quit n) s = has_session n s

-- ---- what a line says

-- a line has acted, and so many sessions are open
abbrev pub acted : ℕ → Stand → Stand
acted n s = record s { fresh = false; sessions = Some n }

abbrev pub with_places : List PlaceRule → Stand → Stand
with_places places s = record s { fresh = false; places = places }

abbrev pub with_opens : List OpenRule → Stand → Stand
with_opens opens s = record s { fresh = false; opens = opens }

abbrev pub after : ReplayLine → Stand → Stand
after Nothing s = s
after (Limits message bytes items players window) s =
    record s { fresh = false; limits = record { max_message = message; ring_bytes = bytes; ring_items = items; players = players; window = window } }
after (Stream app name) s = with_places (s.places ++ open_place app name ∷ []) s
after (Guard n side mode key) s = with_places (keyed_at s.places n (slice_get s.places n) side mode key) s
after (OpenApp app n) s = with_opens (s.opens ++ open_table app n ∷ []) s
after (GuardOpen n side mode key) s = with_opens (table_keyed_at s.opens n (slice_get s.opens n) side mode key) s
after (Recorder n form) s = record s { fresh = false; recorders = s.recorders ++ plan n form ∷ [] }
after Session s = acted (count s.sessions + 1) s
after OpenHttp s = acted (count s.sessions + 1) s
after (OpenEdge n app name) s = acted (count s.sessions + 1) s
after _ s = acted (count s.sessions) s

-- the same of a line that may be outside the grammar by itself
abbrev pub after_line : Option ReplayLine → Stand → Option Stand
after_line None s = None
after_line (Some line) s = if allows line s then Some (after line s) else None

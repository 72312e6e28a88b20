-- What a line does that acts.
use Rattle.std.specs.Prelude.{◌≡◌, ℕ, Bool, true, false, List, [], ◌∷◌, ◌++◌, codes, length, slice_get, slice_set, Option, None, Some}
use Rattle.ack_window.specs.Outbound.{new_out}
use Rattle.command_dialog.specs.declared.types.Ask.{Ask}
use Rattle.command_dialog.specs.declared.types.Grant.{Grant}
use Rattle.relay_base.specs.declared.limits.Limits.{Limits as AllLimits}
use Rattle.relay_outside.specs.MemLinks.{MemLinkState}
use Rattle.session_owed.specs.Standing.{new_past}
use Rattle.relay_session.specs.Acting.{ActsBy}
use Rattle.relay_session.specs.Keeping.{past_of}
use Rattle.relay_session.specs.Owing.{nothing}
use Rattle.relay_session.specs.SessionState.{BeginsOwed, IsWhole, SessionState, StandsFor}
use Rattle.relay_script.specs.declared.replay.ReplayLine.{ReplayLine}
use Rattle.relay_script.specs.declared.replay.ReplayLine.TheVariants.{Session, OpenHttp, OpenEdge, Piece, Eof, Room, FailRecv, FailSend, FailPut, Turn, Rec}
use Rattle.relay_script.specs.declared.replay.ReplayLine.TheVariants.{All, Quit}
use Rattle.http_flv.specs.PlayerState as http
use Rattle.http_flv.specs.declared.stage.Stage.TheVariants.{Reading}
use Rattle.client_owed.specs.declared.types.Wish.TheVariants.{Pull}
use Rattle.origin_pull.specs.EdgeState as edge
use Rattle.origin_pull.specs.declared.due.Due.TheVariants as due
use Rattle.relay_session.specs.SeatState.{SeatState}
use Rattle.relay_session.specs.declared.seat_answers.Active.TheVariants as active
use Rattle.stream_registry.specs.Books.{SeenState}
use Rattle.relay_replay.specs.Guests.{ConnState, PlayState, PullState}
use Rattle.relay_replay.specs.declared.guest.Guest.{Guest}
use Rattle.relay_replay.specs.declared.guest.Guest.TheVariants as guest
use Rattle.relay_replay.specs.Cast.{RecState, CastState, TurnOf, RecTurnOf, Round, Times}

-- a link without input that has room for all
abbrev pub new_link : MemLinkState
new_link = record {
  pieces = [];
  ended = false;
  gave = [];
  handed = [];
  sent = [];
  room = None;
  recv_fails = false;
  send_fails = false;
  counts = record { faults = 0; waits = 0; ends = 0 };
}

-- a session of that name that was fed nothing and is at no stream
pub record IsNewSession (limits : AllLimits) (who : ℕ) (c : ConnState) : Type 0 where
  pub past : past_of c.session.parts ≡ new_past
  pub fed : c.session.parts.fed ≡ 0
  pub who_is : c.session.parts.who ≡ who
  pub window : c.session.parts.window ≡ limits.window
  pub max : c.session.parts.reader.max ≡ limits.max_message
  pub outbound : c.session.parts.outbound ≡ new_out limits.window
  pub outgoing : c.session.parts.outgoing ≡ nothing
  pub input : c.session.input ≡ []
  pub lives : (c.session.quit ≡ false) × (c.session.ended ≡ None)
  pub nowhere : (c.session.parts.place ≡ None) × (c.session.seat.spot ≡ None) × (c.session.seat.visits ≡ [])
  pub stands : (desk : Ask → Grant) → StandsFor desk c.session
  pub owed : (desk : Ask → Grant) → BeginsOwed desk c.session.parts
  pub whole : (desk : Ask → Grant) → IsWhole desk c.session.parts
  pub acts : ActsBy c.session.ended c.session.parts c.session.seat
  pub link_is : c.link ≡ new_link
  pub ended : c.ended ≡ None

-- a seat that was nowhere
abbrev pub new_seat : SeatState SeenState
new_seat = record { spot = None; active = active.Nothing; visits = [] }

-- a player of that name that has received nothing
pub record IsNewPlayer (limits : AllLimits) (who : ℕ) (c : PlayState) : Type 0 where
  pub stands : (desk : Ask → Grant) → http.StandsFor desk c.player
  pub owed : (desk : Ask → Grant) → http.OwesBy c.player.ended desk c.player.parts
  pub fixed : (c.player.parts.who ≡ who) × (c.player.parts.longest ≡ limits.max_message)
  pub empty : (c.player.parts.x ≡ []) × (c.player.parts.later ≡ []) × (c.player.parts.calls ≡ []) × (c.player.parts.sent ≡ []) × (c.player.parts.out.left ≡ [])
  pub stage : (c.player.parts.stage ≡ Reading) × (c.player.parts.kept ≡ None)
  pub nowhere : (c.player.seat.spot ≡ None) × (c.player.seat.visits ≡ [])
  pub lives : (c.player.ended ≡ None) × (c.ended ≡ None)
  pub link_is : c.link ≡ new_link

-- an edge of that name, which publishes at that place what another relay has under these names
pub record IsNewEdge (limits : AllLimits) (who stream : ℕ) (app name : List ℕ) (c : PullState) : Type 0 where
  pub stands : edge.StandsFor c.edge
  pub fixed : (c.edge.parts.who ≡ who) × (c.edge.parts.place ≡ stream)
  pub empty : (c.edge.parts.calls ≡ []) × (c.edge.parts.kept ≡ None) × (c.edge.parts.due ≡ due.Nothing)
  pub asked : c.edge.client.parts.asked ≡ record { wish = Pull; address = codes "replay"; app = app; name = name }
  pub client : edge.IsNew c.edge.client
  pub max : c.edge.client.parts.reader.max ≡ limits.max_message
  pub nowhere : c.edge.seat ≡ new_seat
  pub lives : (c.edge.ended ≡ None) × (c.ended ≡ None)
  pub link_is : c.link ≡ new_link

-- ---- lines about one of them

abbrev pub link_of : Guest → MemLinkState
link_of (guest.Session c) = c.link
link_of (guest.Player c) = c.link
link_of (guest.Edge c) = c.link

-- which of them a line is about
abbrev pub session_in : ReplayLine → Option ℕ
session_in (Piece n bytes) = Some n
session_in (Eof n) = Some n
session_in (Room n left) = Some n
session_in (FailRecv n) = Some n
session_in (FailSend n) = Some n
session_in (Quit n) = Some n
session_in _ = None

-- what it does to the link
abbrev pub told_link : ReplayLine → MemLinkState → MemLinkState
told_link (Piece n bytes) l = record l { pieces = l.pieces ++ bytes ∷ [] }
told_link (Eof n) l = record l { ended = true }
told_link (Room n left) l = record l { room = left }
told_link (FailRecv n) l = record l { recv_fails = true }
told_link (FailSend n) l = record l { send_fails = true }
told_link _ l = l

-- whether it tells a session to quit
abbrev pub quits : ReplayLine → Bool
quits (Quit n) = true
quits _ = false

abbrev pub quit_if : Bool → SessionState SeenState → SessionState SeenState
quit_if true s = record s { quit = true }
quit_if false s = s

abbrev pub told_of : ReplayLine → ConnState → ConnState
told_of line c = record c { session = quit_if (quits line) c.session; link = told_link line c.link }

abbrev pub told_guest : ReplayLine → Guest → Guest
told_guest line (guest.Session c) = guest.Session (told_of line c)
told_guest line (guest.Player c) = guest.Player (record c { link = told_link line c.link })
told_guest line (guest.Edge c) = guest.Edge (record c { link = told_link line c.link })

pub record Told (line : ReplayLine) (n : ℕ) (c d : CastState) : Type 0 where
  pub old : Guest
  pub there : slice_get c.sessions n ≡ Some old
  pub sessions : d.sessions ≡ slice_set c.sessions n (told_guest line old)
  pub recorders : d.recorders ≡ c.recorders
  pub port : d.port ≡ c.port

abbrev pub ToldBy : Option ℕ → ReplayLine → CastState → CastState → Type 0
ToldBy None line c d = d ≡ c
ToldBy (Some n) line c d = Told line n c d

-- ---- lines that act

pub record Opens (limits : AllLimits) (c d : CastState) : Type 0 where
  pub new : ConnState
  pub fresh : IsNewSession limits (length c.sessions) new
  pub sessions : d.sessions ≡ c.sessions ++ guest.Session new ∷ []
  pub recorders : d.recorders ≡ c.recorders
  pub port : d.port ≡ c.port

pub record OpensHttp (limits : AllLimits) (c d : CastState) : Type 0 where
  pub new : PlayState
  pub fresh : IsNewPlayer limits (length c.sessions) new
  pub sessions : d.sessions ≡ c.sessions ++ guest.Player new ∷ []
  pub recorders : d.recorders ≡ c.recorders
  pub port : d.port ≡ c.port

pub record OpensEdge (limits : AllLimits) (stream : ℕ) (app name : List ℕ) (c d : CastState) : Type 0 where
  pub new : PullState
  pub fresh : IsNewEdge limits (length c.sessions) stream app name new
  pub sessions : d.sessions ≡ c.sessions ++ guest.Edge new ∷ []
  pub recorders : d.recorders ≡ c.recorders
  pub port : d.port ≡ c.port

pub record PutFails (n : ℕ) (c d : CastState) : Type 0 where
  pub old : RecState
  pub there : slice_get c.recorders n ≡ Some old
  pub recorders : d.recorders ≡ slice_set c.recorders n (record old { file = record old.file { put_fails = true } })
  pub sessions : d.sessions ≡ c.sessions
  pub port : d.port ≡ c.port

abbrev pub Plays : AllLimits → (Ask → Grant) → ReplayLine → CastState → CastState → Type 0
Plays limits desk Session c d = Opens limits c d
Plays limits desk OpenHttp c d = OpensHttp limits c d
Plays limits desk (OpenEdge stream app name) c d = OpensEdge limits stream app name c d
Plays limits desk (FailPut n) c d = PutFails n c d
Plays limits desk (Turn n k) c d = Times k (TurnOf desk n) c d
Plays limits desk (Rec n k) c d = Times k (RecTurnOf n) c d
Plays limits desk (All k) c d = Times k (Round desk) c d
Plays limits desk line c d = ToldBy (session_in line) line c d

-- WHEN TWO RUNS OF ONE SCRIPT ARE ALIKE: all that decides what they do from then on is the same
use Rattle.std.specs.Prelude.{◌≡◌, length, All, Option, None, Some}
use Rattle.std.specs.List.{AllZip}
use Rattle.command_dialog.specs.declared.types.Ask.{Ask}
use Rattle.command_dialog.specs.declared.types.Grant.{Grant}
use Rattle.stream_registry.specs.Books.{SeenState}
use Rattle.relay_session.specs.Keeping.{StandsBefore}
use Rattle.relay_session.specs.SessionState.{SessionState}
use Rattle.relay_session.specs.declared.end.End.{End}
use Rattle.relay_replay.specs.Cast.{CastState, IsText, RecState}
use Rattle.relay_replay.specs.Guests.{ConnState}
use Rattle.relay_replay.specs.Scenes.{SceneState, desk_of, stand_of}
use Rattle.relay_replay.specs.Whole.{IsSession}
use Rattle.relay_replay.specs.declared.guest.Guest.{Guest}
use Rattle.relay_replay.specs.declared.guest.Guest.TheVariants as guest
use Rattle.turn_law.specs.Twins.{HasRoom, SameCore, SamePort, SameSeat}

-- ---- sessions

-- two that live, each of which stands for what it was fed and its calls
pub record LiveAlike (desk : Ask → Grant) (s t : SessionState SeenState) : Type 0 where
  pub core : SameCore s.parts t.parts
  pub input : t.input ≡ s.input
  pub seat : SameSeat s.seat t.seat
  pub quit : t.quit ≡ s.quit
  pub live : (s.ended ≡ None) × (t.ended ≡ None)
  pub stands : StandsBefore desk s.parts × StandsBefore desk t.parts

-- of two that have ended nothing more is asked
abbrev pub LiveBy : Option End → (Ask → Grant) → SessionState SeenState → SessionState SeenState → Type 0
LiveBy None desk s t = LiveAlike desk s t
LiveBy (Some e) desk s t = Unit {0}

pub record SameConn (desk : Ask → Grant) (c d : ConnState) : Type 0 where
  pub link : d.link ≡ c.link
  pub ended : d.ended ≡ c.ended
  pub live : LiveBy c.ended desk c.session d.session

-- sessions alone are alike: a player over HTTP and an edge make no runs alike
abbrev pub SameGuest : (Ask → Grant) → Guest → Guest → Type 0
SameGuest desk (guest.Session c) (guest.Session d) = SameConn desk c d
SameGuest desk (guest.Session c) (guest.Player d) = ⊥
SameGuest desk (guest.Session c) (guest.Edge d) = ⊥
SameGuest desk (guest.Player c) d = ⊥
SameGuest desk (guest.Edge c) d = ⊥

-- ---- recorders

-- all of a recorder is the same but how much its pass has seen, and what its medium keeps
pub record SameRec (c d : RecState) : Type 0 where
  pub form : d.form ≡ c.form
  pub who : d.recorder.seat.who ≡ c.recorder.seat.who
  pub place : d.recorder.seat.place ≡ c.recorder.seat.place
  pub calls : d.recorder.seat.calls ≡ c.recorder.seat.calls
  pub player : d.recorder.player ≡ c.recorder.player
  pub sent : d.recorder.tape.sent ≡ c.recorder.tape.sent
  pub end : d.recorder.end ≡ c.recorder.end
  pub file : d.file ≡ c.file
  pub ended : d.ended ≡ c.ended
  pub texts : IsText c.form c.recorder × IsText d.form d.recorder

-- ---- all of it

pub record SameCast (desk : Ask → Grant) (c d : CastState) : Type 0 where
  pub port : SamePort c.port d.port
  pub sessions : AllZip (SameGuest desk) c.sessions d.sessions
  pub recorders : AllZip SameRec c.recorders d.recorders

-- Both opened sessions alone, and as many. THEY ARE THE SAME where each history has room, and so had room before
pub record AreAlike (desk : Ask → Grant) (c d : CastState) : Type 0 where
  pub first : All IsSession c.sessions
  pub second : All IsSession d.sessions
  pub sessions : length d.sessions ≡ length c.sessions
  pub recorders : length d.recorders ≡ length c.recorders
  pub same : HasRoom c.port → HasRoom d.port → SameCast desk c d

abbrev pub AreAlikeIf : (Ask → Grant) → Option CastState → Option CastState → Type 0
AreAlikeIf desk None None = Unit {0}
AreAlikeIf desk (Some c) (Some d) = AreAlike desk c d
AreAlikeIf desk None (Some d) = ⊥
AreAlikeIf desk (Some c) None = ⊥

-- TWO REPLAYS BETWEEN TWO LINES that are alike
pub record SameScene (s t : SceneState) : Type 0 where
  pub stand : stand_of t ≡ stand_of s
  pub casts : AreAlikeIf (desk_of s) s.cast t.cast

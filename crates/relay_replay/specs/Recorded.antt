-- What the recorders of a replay wrote is the text of what they took.
use Rattle.std.specs.Prelude.{◌≡◌, All, Option, None, Some}
use Rattle.relay_replay.specs.Cast.{RecState, CastState, IsText}
use Rattle.relay_replay.specs.Scenes.{SceneState}

-- A RECORDER'S FILE has what was sent, and that, with what is pending, is the text of the items that its
-- Takes were sent
pub record IsRecorded (r : RecState) : Type 0 where
  pub took : r.file.bytes ≡ r.recorder.tape.sent
  pub text : IsText r.form r.recorder

abbrev pub RecordedIn : CastState → Type 0
RecordedIn c = All IsRecorded c.recorders

abbrev pub RecordedIf : Option CastState → Type 0
RecordedIf None = Unit {0}
RecordedIf (Some c) = RecordedIn c

-- of a replay between two lines
abbrev pub AreRecorded : SceneState → Type 0
AreRecorded s = RecordedIf s.cast

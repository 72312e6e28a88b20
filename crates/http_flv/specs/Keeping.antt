-- What a player keeps true
use Rattle.std.specs.Prelude.{◌≡◌, ◌<◌, ◌≤◌, ℕ, ◌+◌, true, List, [], ◌∷◌, ◌++◌, length, Option, Some, None}
use Rattle.av_unit.specs.declared.head.Want.{Want}
use Rattle.command_dialog.specs.declared.types.Ask.{Ask}
use Rattle.command_dialog.specs.declared.types.Grant.{Grant}
use Rattle.command_dialog.specs.Dialog.{named}
use Rattle.http_request.specs.declared.answer.Refusal.{Refusal}
use Rattle.http_request.specs.declared.answer.Refusal.TheVariants.{ServiceUnavailable}
use Rattle.http_request.specs.Heads.{IsRead, Verdict, most_bytes}
use Rattle.http_request.specs.Texts.{code_of, text_of}
use Rattle.stream_model.specs.declared.calls.Call.TheVariants as call
use Rattle.stream_model.specs.declared.calls.Entry.{Entry}
use Rattle.stream_model.specs.declared.replies.Reply.{Reply}
use Rattle.stream_model.specs.declared.replies.Reply.TheVariants as reply
use Rattle.session_owed.specs.Talk.{Own}
use Rattle.relay_session.specs.SeatState.{HasFit, SeatState}
use Rattle.relay_session.specs.SeatVisits.{calls_of}
use Rattle.http_flv.specs.Out.{Decision, JoinAt, Later, Tell, decide, owed_by}
use Rattle.http_flv.specs.Sending.{size_of}
use Rattle.http_flv.specs.declared.core_fields.Core.{Core}
use Rattle.http_flv.specs.declared.stage.Stage.{Stage}
use Rattle.http_flv.specs.declared.stage.Stage.TheVariants as stage

-- ---- where it stands, by what was decided and its calls

-- after the reply to its Join
abbrev pub after_join : ℕ → Reply → Stage
after_join place (reply.Joined player from) = stage.Playing place player
after_join place _ = stage.Telling ServiceUnavailable

abbrev pub joined_at : ℕ → List Own → Stage
joined_at place [] = stage.Joining place
joined_at place (c ∷ takes) = after_join place c.1

abbrev pub stage_by : Decision → List Own → Stage
stage_by Later calls = stage.Reading
stage_by (Tell r) calls = stage.Telling r
stage_by (JoinAt place name) calls = joined_at place calls

-- ---- its calls

-- a Join of the broadcast of that name
abbrev pub join_entry : ℕ → ℕ → List ℕ → Entry
join_entry who at name = record { who = who; at = at; call = named call.JoinAs call.Join name }

-- a Take wants sound and pictures
abbrev pub all : Want
all = record { audio = true; video = true }

abbrev pub take_entry : ℕ → ℕ → ℕ → Entry
take_entry who at player = record { who = who; at = at; call = call.Take player all }

-- ---- what its fields keep

-- the bytes of a head that isn't whole are kept, and no others
abbrev pub HeadBy : Stage → List ℕ → List ℕ → Type 0
HeadBy stage.Reading head x = (head ≡ x) × (length x < most_bytes)
HeadBy (stage.Joining place) head x = head ≡ []
HeadBy (stage.Telling r) head x = head ≡ []
HeadBy (stage.Playing place player) head x = head ≡ []

-- its Join waits until it is answered
abbrev pub KeptBy : Stage → ℕ → ℕ → Option Entry → Type 0
KeptBy stage.Reading who at kept = kept ≡ None
KeptBy (stage.Joining place) who at kept = (name : List ℕ) × (kept ≡ Some (join_entry who at name))
KeptBy (stage.Telling r) who at kept = kept ≡ None
KeptBy (stage.Playing place player) who at kept = kept ≡ None

-- before that it has made no call
abbrev pub CallsBy : Stage → List Own → Type 0
CallsBy stage.Reading calls = calls ≡ []
CallsBy (stage.Joining place) calls = calls ≡ []
CallsBy (stage.Telling r) calls = Unit {0}
CallsBy (stage.Playing place player) calls = Unit {0}

-- what is to be sent has at most so many bytes, where no unit has more than `longest`
abbrev pub most_sending : ℕ → ℕ
most_sending longest = longest + 256

-- what holds also of one that has ended
pub record HasEnded (c : Core) : Type 0 where
  pub counted : c.fed ≡ length c.x
  pub head : length c.head < most_bytes
  pub light : size_of c.out ≤ most_sending c.longest
  pub short : c.longest ≤ 4194304

pub record IsSound (c : Core) : Type 0 where
  pub ended : HasEnded c
  pub far : length c.x ≤ 8191
  pub head : HeadBy c.stage c.head c.x
  pub kept : KeptBy c.stage c.who (length c.x) c.kept
  pub calls : CallsBy c.stage c.calls

-- with this call waiting
abbrev pub waiting : Core → Entry → Core
waiting c e = record c { kept = Some e }

-- ---- what it owes

-- WHAT WAS SENT AND WHAT IS PENDING IS WHAT IT IS OWED, and it stands as was decided
pub record StandsBefore (desk : Ask → Grant) (c : Core) : Type 0 where
  pub verdict : Verdict
  pub read : IsRead c.x verdict
  pub stage : c.stage ≡ stage_by (decide desk verdict) c.calls
  pub owes : c.sent ++ c.out.left ≡ owed_by (decide desk verdict) c.calls

-- of one that has ended, what was sent begins it
pub record IsOver (desk : Ask → Grant) (c : Core) : Type 0 where
  pub verdict : Verdict
  pub read : IsRead c.x verdict
  pub more : List ℕ
  pub owes : c.sent ++ more ≡ owed_by (decide desk verdict) c.calls

-- and of one that was told no, what was sent is the whole text of that number
pub record IsTold (desk : Ask → Grant) (code : ℕ) (c : Core) : Type 0 where
  pub verdict : Verdict
  pub read : IsRead c.x verdict
  pub refusal : Refusal
  pub code_is : code ≡ code_of refusal
  pub sent_is : c.sent ≡ text_of refusal
  pub owes : c.sent ≡ owed_by (decide desk verdict) c.calls

-- ---- at a port

-- it is one of so many places
abbrev pub IsThere : ℕ → Stage → Type 0
IsThere count stage.Reading = Unit {0}
IsThere count (stage.Joining place) = place < count
IsThere count (stage.Telling r) = Unit {0}
IsThere count (stage.Playing place player) = place < count

-- it belongs to a port of so many places: its pass was attached there, the place of its calls is there, and
-- its calls are those that were made
pub record IsAt {Q : Type 0} (fits : ℕ → Q → Type 0) (count : ℕ) (c : Core) (s : SeatState Q) : Type 0 where
  pub fit : HasFit fits s.spot
  pub there : IsThere count c.stage
  pub calls : c.calls ≡ calls_of s.visits

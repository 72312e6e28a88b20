-- THE BYTES THAT A PLAYER IS OWED, by the bytes that came and its own calls with their replies, all at once.
-- It knows no cutting
use Rattle.std.specs.Prelude.{◌≡◌, ℕ, Bool, true, false, List, [], ◌∷◌, ◌++◌, Option, Some, None}
use Rattle.std.specs.List.{flat_map}
use Rattle.av_unit.specs.declared.item.Item.{Item}
use Rattle.command_dialog.specs.declared.types.Ask.{Ask}
use Rattle.command_dialog.specs.declared.types.Grant.{Grant}
use Rattle.command_dialog.specs.declared.types.Grant.TheVariants as grant
use Rattle.command_dialog.specs.declared.types.Role.TheVariants.{Play}
use Rattle.flv_tags.specs.Text.{flv_text}
use Rattle.http_request.specs.declared.answer.Refusal.{Refusal}
use Rattle.http_request.specs.declared.answer.Refusal.TheVariants.{BadRequest, MethodNotAllowed, NotFound, Forbidden, ServiceUnavailable}
use Rattle.http_request.specs.Heads.{Asks, IsRead, Refused, Unfinished, Verdict}
use Rattle.http_request.specs.Targets.{Target, is_get_method, target_of}
use Rattle.http_request.specs.Texts.{granted_text, text_of}
use Rattle.stream_model.specs.declared.replies.Reply.{Reply}
use Rattle.stream_model.specs.declared.replies.Reply.TheVariants as reply
use Rattle.session_owed.specs.Talk.{Own}

-- what is to be done about a request
pub data Decision : Type 0 where
  -- nothing yet
  Later : Decision
  -- it is told no
  Tell : Refusal → Decision
  -- the broadcast of this name at this place is joined
  JoinAt : ℕ → List ℕ → Decision

-- a target asks as a play does
abbrev pub ask_of : Target → Ask
ask_of t = record { role = Play; app = t.app; name = t.name; key = t.key }

-- no place has the names; the key isn't allowed; the place
abbrev pub by_grant : List ℕ → Grant → Decision
by_grant name grant.NoName = Tell NotFound
by_grant name grant.Refused = Tell Forbidden
by_grant name (grant.Place p) = JoinAt p name

abbrev pub by_target : (Ask → Grant) → Option Target → Decision
by_target desk None = Tell NotFound
by_target desk (Some t) = by_grant t.name (desk (ask_of t))

abbrev pub by_method : (Ask → Grant) → Bool → List ℕ → Decision
by_method desk false target = Tell MethodNotAllowed
by_method desk true target = by_target desk (target_of target)

-- WHAT IS DECIDED before this desk: the first that applies
abbrev pub decide : (Ask → Grant) → Verdict → Decision
decide desk Unfinished = Later
decide desk Refused = Tell BadRequest
decide desk (Asks method target) = by_method desk (is_get_method method) target

-- the item that a reply sends
abbrev pub item_in : Reply → List Item
item_in (reply.Sent from n item) = item ∷ []
item_in _ = []

-- the items that these calls were sent, in order
abbrev pub taken : List Own → List Item
taken calls = flat_map (λ (c : Own). item_in c.1) calls

-- what is owed by the reply to the Join, and the calls after it: an FLV of the items that they were sent, or
-- that there is no place
abbrev pub owed_after : Reply → List Own → List ℕ
owed_after (reply.Joined player from) takes = granted_text ++ flv_text (taken takes)
owed_after _ takes = text_of ServiceUnavailable

-- the Join is the first call. Until it has its reply nothing is owed
abbrev pub owed_joined : List Own → List ℕ
owed_joined [] = []
owed_joined (c ∷ takes) = owed_after c.1 takes

abbrev pub owed_by : Decision → List Own → List ℕ
owed_by Later calls = []
owed_by (Tell r) calls = text_of r
owed_by (JoinAt p name) calls = owed_joined calls

-- THESE BYTES ARE OWED for the bytes that came and these calls, before this desk
pub record IsOwed (desk : Ask → Grant) (x : List ℕ) (calls : List Own) (out : List ℕ) : Type 0 where
  pub verdict : Verdict
  pub read : IsRead x verdict
  pub owes : out ≡ owed_by (decide desk verdict) calls

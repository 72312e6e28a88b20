-- What a client reads of a command
use Rattle.std.specs.Prelude.{◌≡◌, ℕ, List, [], codes, Option, Some, None, if◌then◌else◌, Result, Ok, Err}
use Rattle.amf0_value.specs.declared.fail.AmfFail.{AmfFail}
use Rattle.amf0_value.specs.declared.walk.Brief.{Brief}
use Rattle.amf0_value.specs.declared.walk.Brief.TheVariants as brief
use Rattle.amf0_value.specs.Tree.{Tree, Items, no_items, item}
use Rattle.amf0_value.specs.Brief.{brief_of}
use Rattle.amf0_value.specs.Reading.{ReadsItems, ReadsValue}
use Rattle.rtmp_command.specs.Commands.{command_fail}
use Rattle.rtmp_command.specs.Heard.{number_in_brief}
use Rattle.rtmp_command.specs.declared.command.CommandFail.{CommandFail}
use Rattle.rtmp_command.specs.declared.command.CommandFail.TheVariants as command
use Rattle.client_owed.specs.declared.types.News.{News}
use Rattle.client_owed.specs.declared.types.News.TheVariants.{Done, Refused, Status, Other}
use Rattle.client_owed.specs.Client.{is_id, whole}
use Rattle.client_owed.specs.News.{is_text, number_at, text_at}
use Rattle.rtmp_client.specs.declared.known.Fourth.{Fourth}
use Rattle.rtmp_client.specs.declared.known.Known.{Known}

-- a value in brief as a text, and as a number
abbrev pub text_in_brief : Brief → Option (List ℕ)
text_in_brief (brief.Text t) = Some t
text_in_brief (brief.Number bits) = None
text_in_brief (brief.Boolean b) = None
text_in_brief brief.Other = None

abbrev pub bits_in_brief : Brief → Option ℕ
bits_in_brief (brief.Number bits) = Some bits
bits_in_brief (brief.Text t) = None
bits_in_brief (brief.Boolean b) = None
bits_in_brief brief.Other = None

abbrev pub fourth_of : Option Tree → Fourth
fourth_of v = record { number = number_at v; level = text_at (codes "level") v; code = text_at (codes "code") v; description = text_at (codes "description") v }

abbrev pub known_with : List ℕ → ℕ → Fourth → Known
known_with name transaction f = record { name = name; transaction = transaction; fourth = f }

abbrev pub behind_third : List ℕ → ℕ → Items → Known
behind_third name transaction no_items = known_with name transaction (fourth_of None)
behind_third name transaction (item v vs) = known_with name transaction (fourth_of (Some v))

abbrev pub behind_transaction : List ℕ → ℕ → Items → Known
behind_transaction name transaction no_items = known_with name transaction (fourth_of None)
behind_transaction name transaction (item v vs) = behind_third name transaction vs

abbrev pub behind_name : List ℕ → Items → Known
behind_name name no_items = known_with name 0 (fourth_of None)
behind_name name (item v vs) = behind_transaction name (number_in_brief (brief_of v)) vs

abbrev pub behind_first : Option (List ℕ) → Items → Option Known
behind_first None vs = None
behind_first (Some name) vs = Some (behind_name name vs)

-- the first value has to be a text
abbrev pub known_of : Items → Option Known
known_of no_items = None
known_of (item v vs) = behind_first (text_in_brief (brief_of v)) vs

-- values fill the bytes, and this is made of them
abbrev pub Knows : (Items → Known) → List ℕ → Known → Type 0
Knows f bytes k = (vs : Items) × ReadsItems 0 bytes vs [] × (k ≡ f vs)

-- a value is the first of the bytes, and this is made of it
abbrev pub HasFourth : List ℕ → Fourth → List ℕ → Type 0
HasFourth bytes f rest = (v : Tree) × ReadsValue 0 bytes v rest × (f ≡ fourth_of (Some v))

-- the news by what was read
abbrev pub refusal_by : Fourth → News
refusal_by f = Refused f.code f.description

abbrev pub status_by : Fourth → News
status_by f = if is_text f.level (codes "error") then refusal_by f else Status f.code

abbrev pub news_by : Known → News
news_by k =
    if is_text k.name (codes "_result") then Done k.transaction k.fourth.number
    else (if is_text k.name (codes "_error") then refusal_by k.fourth
    else (if is_text k.name (codes "onStatus") then status_by k.fourth
    else Other))

abbrev pub news_or : Option Known → Result News CommandFail
news_or None = Err (command.BadCommand 0)
news_or (Some k) = Ok (news_by k)

abbrev pub known_from : Result Items AmfFail → Result News CommandFail
known_from (Ok vs) = news_or (known_of vs)
known_from (Err f) = Err (command_fail f)

-- the message stream id that a number with this pattern is, if it is one
abbrev pub id_in : ℕ → Option ℕ
id_in bits = if is_id bits then Some (whole bits) else None

-- What a command of a server tells a client (RTMP 1.0, sections 7.1.1 and 7.2). Any message stream may bring it (own).
use Rattle.std.specs.Prelude.{ℕ, List, [], codes, Option, Some, None, unwrap_or, ◌==◌, if◌then◌else◌, Bool, Result, Ok, Err}
use Rattle.std.specs.Cmp.Lexicographic.{pointwise}
use Rattle.amf0_value.specs.declared.fail.AmfFail.{AmfFail}
use Rattle.amf0_value.specs.declared.walk.Brief.{Brief}
use Rattle.amf0_value.specs.declared.walk.Brief.TheVariants as brief
use Rattle.amf0_value.specs.Tree.{Tree, Items, item, number_in}
use Rattle.amf0_value.specs.Brief.{pair_of}
use Rattle.amf0_value.specs.Reader.{values_in}
use Rattle.rtmp_command.specs.Commands.{Parts, command_fail, parts_of}
use Rattle.rtmp_command.specs.declared.command.CommandFail.{CommandFail}
use Rattle.rtmp_command.specs.declared.command.CommandFail.TheVariants as command
use Rattle.client_owed.specs.declared.types.News.{News}
use Rattle.client_owed.specs.declared.types.News.TheVariants.{Done, Refused, Status, Other}

-- the fourth value of a command: the second of its arguments
abbrev pub fourth : Items → Option Tree
fourth (item third (item v rest)) = Some v
fourth _ = None

-- its pattern, where it is a number
abbrev pub number_at : Option Tree → Option ℕ
number_at None = None
number_at (Some v) = number_in v

abbrev pub text_of : Option (Option Brief) → Option (List ℕ)
text_of (Some (Some (brief.Text t))) = Some t
text_of _ = None

-- the text that an object has under a key: of several pairs with the key the first counts. Else no bytes
abbrev pub text_at : List ℕ → Option Tree → List ℕ
text_at key None = []
text_at key (Some v) = unwrap_or (text_of (pair_of key v)) []

abbrev pub is_text : List ℕ → List ℕ → Bool
is_text xs ys = pointwise ◌==◌ xs ys

-- a refusal: its code, and its description in words
abbrev pub refusal_of : Option Tree → News
refusal_of v = Refused (text_at (codes "code") v) (text_at (codes "description") v)

-- a status (7.2.2): of level error, or another
abbrev pub status_of : Option Tree → News
status_of v = if is_text (text_at (codes "level") v) (codes "error") then refusal_of v else Status (text_at (codes "code") v)

-- by its name
abbrev pub news_of : Parts → News
news_of p =
    if is_text p.name (codes "_result") then Done p.transaction (number_at (fourth p.args))
    else (if is_text p.name (codes "_error") then refusal_of (fourth p.args)
    else (if is_text p.name (codes "onStatus") then status_of (fourth p.args)
    else Other))

abbrev pub news_or_none : Option Parts → Result News CommandFail
news_or_none None = Err (command.BadCommand 0)
news_or_none (Some p) = Ok (news_of p)

abbrev pub news_from : Result Items AmfFail → Result News CommandFail
news_from (Ok vs) = news_or_none (parts_of vs)
news_from (Err f) = Err (command_fail f)

-- THE NEWS in the body of a command, or why it is no command
unfoldable pub news_in : List ℕ → Result News CommandFail
news_in body = news_from (values_in body)

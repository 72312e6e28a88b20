-- The one stream of a loop, its limits, and who asks for it
use Rattle.std.specs.Prelude.{ℕ, [], ◌∷◌, codes, ◌&&◌, if◌then◌else◌}
use Rattle.client_owed.specs.News.{is_text}
use Rattle.client_owed.specs.declared.types.Asked.{Asked}
use Rattle.client_owed.specs.declared.types.Wish.{Wish}
use Rattle.client_owed.specs.declared.types.Wish.TheVariants as wish
use Rattle.command_dialog.specs.declared.types.Ask.{Ask}
use Rattle.command_dialog.specs.declared.types.Grant.{Grant}
use Rattle.command_dialog.specs.declared.types.Grant.TheVariants as grant
use Rattle.command_dialog.specs.State.{State}
use Rattle.relay_session.specs.Session.{session}
use Rattle.session_owed.specs.Dialogue.{Dialogue}
use Rattle.stream_model.specs.declared.calls.Shape.{Shape}
use Rattle.stream_model.specs.declared.calls.StreamLimits.{StreamLimits}
use Rattle.stream_model.specs.Shape.{stream_shape}
use Rattle.stream_registry.specs.Books.{sole_rules}
use Rattle.stream_registry.specs.Names.{PortRules}
use Rattle.stream_registry.specs.declared.names.Name.{Name}

-- the stream `cam` of the application `live`
abbrev pub one_name : Name
one_name = record { app = codes "live"; name = codes "cam" }

-- it is granted to everybody, and nothing else is
abbrev pub granted : Ask → Grant
granted a = if is_text a.app (codes "live") && is_text a.name (codes "cam") then grant.Place 0 else grant.NoName

-- the limits of a relay that is told none
abbrev pub limits : StreamLimits
limits = record { bytes = 33554432; items = 16384; players = 256 }

-- what never changes of a port to it
abbrev pub rules : PortRules
rules = sole_rules (record { names = one_name ∷ []; opens = []; limits = limits })

abbrev pub shape : Shape
shape = stream_shape limits

abbrev pub max_message : ℕ
max_message = 4194304

abbrev pub window : ℕ
window = 2500000

-- who asks for it
abbrev pub asked_by : Wish → Asked
asked_by w = record { wish = w; address = codes "loop"; app = codes "live"; name = codes "cam" }

abbrev pub pusher : Asked
pusher = asked_by wish.Push

abbrev pub puller : Asked
puller = asked_by wish.Pull

-- the names of their sessions
abbrev pub publisher : ℕ
publisher = 1

abbrev pub player : ℕ
player = 2

abbrev pub dialogue : ℕ → Dialogue State
dialogue who = session who window granted

-- What a message of a peer means where the dialogue stands (RTMP 1.0, section 7.2).
use Rattle.std.specs.Prelude.{ℕ, suc, zero, ◌+◌, List, [], ◌∷◌, codes, Option, Some, None, Bool, false, ◌==◌, ◌&&◌, ◌||◌, if◌then◌else◌}
use Rattle.std.specs.Prelude.{Result, Ok, Err}
use Rattle.std.specs.List.{list_any}
use Rattle.amf0_value.specs.Pattern.{pattern}
use Rattle.amf0_value.specs.declared.walk.Brief.{Brief}
use Rattle.amf0_value.specs.declared.walk.Brief.TheVariants as brief
use Rattle.rtmp_command.specs.declared.heard.Heard.{Heard}
use Rattle.rtmp_command.specs.declared.command.CommandFail.{CommandFail}
use Rattle.rtmp_command.specs.declared.command.CommandFail.TheVariants as command
use Rattle.rtmp_command.specs.Heard.{heard_in}
use Rattle.chunk_wire.specs.declared.message.Message.{Message}
use Rattle.command_dialog.specs.declared.types.Role.{Role}
use Rattle.command_dialog.specs.declared.types.Role.TheVariants as role
use Rattle.command_dialog.specs.declared.types.Ask.{Ask}
use Rattle.command_dialog.specs.declared.types.Playing.{Playing}
use Rattle.command_dialog.specs.declared.types.Phase.{Phase}
use Rattle.command_dialog.specs.declared.types.Phase.TheVariants as phase
use Rattle.command_dialog.specs.declared.types.Meant.{Meant}
use Rattle.command_dialog.specs.declared.types.Meant.TheVariants as meant
use Rattle.command_dialog.specs.declared.types.Switch.{Switch}
use Rattle.command_dialog.specs.declared.types.Switch.TheVariants as switch
use Rattle.command_dialog.specs.declared.types.DialogFail.{DialogFail}
use Rattle.command_dialog.specs.declared.types.DialogFail.TheVariants as fail
use Rattle.command_dialog.specs.Words.{is_text, name_in, key_in, app_in}
use Rattle.command_dialog.specs.State.{State}

abbrev pub is_open : ℕ → List ℕ → Bool
is_open id ids = list_any (λ n. n == id) ids

-- the least id that isn't open, of so many from this one on
unfoldable pub free_from : List ℕ → ℕ → ℕ → Option ℕ
free_from ids zero id = None
free_from ids (suc n) id = if is_open id ids then free_from ids n (id + 1) else Some id

-- the ids are 1 to 16
abbrev pub least_free : List ℕ → Option ℕ
least_free ids = free_from ids 16 1

-- only the first connect counts, and only where its third value is an object
abbrev pub connects : Option (List ℕ) → ℕ → Option (List ℕ) → Meant
connects None transaction (Some app) = meant.Connects transaction (app_in app)
connects _ transaction _ = meant.Passed

abbrev pub creates : ℕ → Option ℕ → Result Meant DialogFail
creates transaction None = Err fail.TooManyStreams
creates transaction (Some id) = Ok (meant.Creates transaction id)

-- a publish or play while a role is active, or one that is to be granted
abbrev pub asks_while : Phase → Role → ℕ → List ℕ → List ℕ → Meant
asks_while phase.Idle r id app text = meant.Asks (record { role = r; app = app; name = name_in text; key = key_in text }) id
asks_while _ r id app text = meant.Busy r id

-- its fourth value has to be a text
abbrev pub asks_by : Phase → Role → ℕ → List ℕ → Brief → Meant
asks_by p r id app (brief.Text text) = asks_while p r id app text
asks_by p r id app _ = meant.Passed

-- its message stream has to be open
abbrev pub asks : Phase → List ℕ → Role → ℕ → List ℕ → Brief → Meant
asks p ids r id app fourth = if is_open id ids then asks_by p r id app fourth else meant.Passed

-- the open id whose number has this pattern
abbrev pub closed_in : ℕ → List ℕ → Option ℕ
closed_in bits [] = None
closed_in bits (id ∷ ids) = if pattern id == bits then Some id else closed_in bits ids

abbrev pub closes_some : Option ℕ → Meant
closes_some None = meant.Passed
closes_some (Some id) = meant.Closes id

abbrev pub closes : List ℕ → Brief → Meant
closes ids (brief.Number bits) = closes_some (closed_in bits ids)
closes ids _ = meant.Passed

abbrev pub turned : Switch → Bool → Playing → Playing
turned switch.Audio b p = record { player = p.player; id = p.id; want = record { audio = b; video = p.want.video }; paused = p.paused }
turned switch.Video b p = record { player = p.player; id = p.id; want = record { audio = p.want.audio; video = b }; paused = p.paused }
turned switch.Pause b p = record { player = p.player; id = p.id; want = p.want; paused = b }

abbrev pub turns_on : ℕ → Switch → Bool → Playing → Meant
turns_on stream w b p = if p.id == stream then meant.Turns (turned w b p) else meant.Passed

-- its fourth value has to be a boolean, and its message stream that of the granted play
abbrev pub turns : Phase → ℕ → Switch → Brief → Meant
turns (phase.Plays p) stream w (brief.Boolean b) = turns_on stream w b p
turns _ stream w _ = meant.Passed

-- before connect all else is passed over
abbrev pub after_connect : State → ℕ → Heard → Option (List ℕ) → Result Meant DialogFail
after_connect s stream h None = Ok meant.Passed
after_connect s stream h (Some app) =
    if is_text h.name (codes "createStream") then creates h.transaction (least_free s.ids)
    else (if is_text h.name (codes "publish") then Ok (asks s.phase s.ids role.Publish stream app h.fourth)
    else (if is_text h.name (codes "play") then Ok (asks s.phase s.ids role.Play stream app h.fourth)
    else (if is_text h.name (codes "deleteStream") then Ok (closes s.ids h.fourth)
    else (if is_text h.name (codes "receiveAudio") then Ok (turns s.phase stream switch.Audio h.fourth)
    else (if is_text h.name (codes "receiveVideo") then Ok (turns s.phase stream switch.Video h.fourth)
    else (if is_text h.name (codes "pause") then Ok (turns s.phase stream switch.Pause h.fourth)
    else Ok meant.Passed))))))

abbrev pub commands : State → ℕ → Heard → Result Meant DialogFail
commands s stream h =
    if is_text h.name (codes "connect") then Ok (connects s.app h.transaction h.app) else after_connect s stream h s.app

-- a body that is no command
abbrev pub dialog_fail : CommandFail → DialogFail
dialog_fail (command.BadCommand at) = fail.BadCommand at
dialog_fail command.OutOfMemory = fail.OutOfMemory

abbrev pub commands_by : State → ℕ → Result Heard CommandFail → Result Meant DialogFail
commands_by s stream (Ok h) = commands s stream h
commands_by s stream (Err e) = Err (dialog_fail e)

-- whether a granted publish is on this message stream
abbrev pub publishes_on : ℕ → Phase → Bool
publishes_on stream (phase.Publishes id size) = id == stream
publishes_on stream _ = false

-- audio, video and data (7.1.2, 7.1.4 and 7.1.5)
abbrev pub is_media : ℕ → Bool
is_media kind = (kind == 8) || ((kind == 9) || (kind == 18))

-- THE MEANING of a message, or why it ends the dialogue. A command is a message of type 20 (7.1.1)
unfoldable pub meaning : State → Message → Result Meant DialogFail
meaning s m =
    if m.kind == 20 then commands_by s m.stream (heard_in m.body)
    else (if is_media m.kind && publishes_on m.stream s.phase then Ok meant.Media else Ok meant.Passed)

-- what is to be granted, where the meaning is that
abbrev pub ask_in : Meant → Option Ask
ask_in (meant.Asks a id) = Some a
ask_in meant.Passed = None
ask_in (meant.Connects transaction app) = None
ask_in (meant.Creates transaction id) = None
ask_in (meant.Busy r id) = None
ask_in (meant.Closes id) = None
ask_in (meant.Turns p) = None
ask_in meant.Media = None

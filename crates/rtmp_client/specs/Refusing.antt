-- Why a message ends a client
use Rattle.std.specs.Prelude.{ℕ, ◌==◌, if◌then◌else◌, Option, Some, None, Result, Ok, Err}
use Rattle.chunk_wire.specs.declared.message.Message.{Message}
use Rattle.ack_window.specs.declared.control.Control.{Control}
use Rattle.ack_window.specs.declared.control.BadControl.{BadControl}
use Rattle.ack_window.specs.Controls.{control_in}
use Rattle.rtmp_command.specs.declared.command.CommandFail.{CommandFail}
use Rattle.rtmp_command.specs.declared.command.CommandFail.TheVariants as command
use Rattle.client_owed.specs.declared.types.News.{News}
use Rattle.client_owed.specs.declared.types.News.TheVariants as news
use Rattle.client_owed.specs.News.{news_in}
use Rattle.rtmp_client.specs.declared.end.ClientEnd.{ClientEnd}
use Rattle.rtmp_client.specs.declared.end.ClientEnd.TheVariants as end

-- by what a command makes known, where its last byte is at this place
abbrev pub ended_by : ℕ → Result News CommandFail → Option ClientEnd
ended_by at (Ok (news.Refused code description)) = Some (end.Refused code description)
ended_by at (Ok (news.Done transaction number)) = None
ended_by at (Ok (news.Status code)) = None
ended_by at (Ok news.Other) = None
ended_by at (Err (command.BadCommand place)) = Some (end.BadCommand at)
ended_by at (Err command.OutOfMemory) = Some end.OutOfMemory

abbrev pub refused_by : ℕ → Message → Result (Option Control) BadControl → Option ClientEnd
refused_by at m (Ok None) = if m.kind == 20 then ended_by at (news_in m.body) else None
refused_by at m (Ok (Some control)) = None
refused_by at m (Err e) = Some (end.BadControl at)

-- WHY A MESSAGE ENDS the client, if it does: an error of the server, a body that is no command, or a control
-- that is too short
unfoldable pub refused : ℕ → Message → Option ClientEnd
refused at m = refused_by at m (control_in m)

use Rattle.std.proofs.Common.{rules, ◌≡◌, Some, OnOk}
use Rattle.command_dialog.specs.declared.types.Ask.{Ask}
use Rattle.command_dialog.specs.declared.types.Grant.{Grant}
use Rattle.config_desk.specs.Grants.{granted_from}
use Rattle.relay_replay.specs.Plays.{Told, session_in}
use Rattle.relay_replay.proofs.Opening.{by_line, line_opens, line_plays}
use Rattle.relay_replay.proofs.scene.play.Goals as goal

pub returns-in-Some : goal.returns-in-Some
returns-in-Some g c =
    let n = c.in-Some.session in
    let list = c.args.desk.now.list.now in
    let opens = c.args.desk.now.opens.now in
    let desk : Ask → Grant = granted_from 0 list opens in
    let is : session_in c.args.line ≡ Some n = search rules in
    let told : OnOk c.tell.result (Told c.args.line n c.args.cast.now c.tell.new.self) = c.tell.ensures in
    record {
      plays = line_plays c.tell.result c.args.line n c.args.limits desk c.args.cast.now c.tell.new.self is told;
      sits = by_line c.tell.result list opens c.args.line n c.args.cast.now c.tell.new.self c.requires.sits told;
      count = line_opens c.tell.result c.args.line n c.args.limits desk c.args.cast.now c.tell.new.self is told;
    }

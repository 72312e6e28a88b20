use Rattle.std.proofs.Common.{◌≡◌, rules}
use Rattle.command_dialog.specs.declared.types.Ask.{Ask}
use Rattle.command_dialog.specs.declared.types.Grant.{Grant}
use Rattle.config_desk.specs.Grants.{granted_from}
use Rattle.relay_replay.specs.declared.guest.Guest.TheVariants.{Edge, Player, Session}
use Rattle.relay_replay.proofs.Keep.{edge_turn, player_turn, session_turned}
use Rattle.relay_replay.proofs.guest.Guest.turn.Goals as goal

pub returns-in-Session-clause-turn : goal.returns-in-Session-clause-turn
returns-in-Session-clause-turn g c =
    let desk : Ask → Grant = granted_from 0 c.args.desk.now.list.now c.args.desk.now.opens.now in
    let same : c.args.self.now ≡ Session c.in-Session.session = search rules in
    session_turned c.turn.result desk c.args.port.now c.args.self.now c.in-Session.session c.turn.new.port c.turn.new.self same c.turn.ensures.turn

pub returns-in-Player-clause-turn : goal.returns-in-Player-clause-turn
returns-in-Player-clause-turn g c =
    let desk : Ask → Grant = granted_from 0 c.args.desk.now.list.now c.args.desk.now.opens.now in
    let same : c.args.self.now ≡ Player c.in-Player.player = search rules in
    player_turn c.turn-in-Player.result desk c.args.port.now c.args.self.now c.in-Player.player c.turn-in-Player.new.port c.turn-in-Player.new.self same
    c.turn-in-Player.ensures.turn

pub returns-in-Edge-clause-turn : goal.returns-in-Edge-clause-turn
returns-in-Edge-clause-turn g c =
    let desk : Ask → Grant = granted_from 0 c.args.desk.now.list.now c.args.desk.now.opens.now in
    let same : c.args.self.now ≡ Edge c.in-Edge.edge = search rules in
    edge_turn c.turn-in-Edge.result desk c.args.port.now c.args.self.now c.in-Edge.edge c.turn-in-Edge.new.port c.turn-in-Edge.new.self same
    c.turn-in-Edge.ensures.turn

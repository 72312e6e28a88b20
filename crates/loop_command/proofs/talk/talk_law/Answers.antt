use Rattle.std.proofs.Common.{◌≡◌, ap, arith, subst}
use Rattle.client_law.specs.Room.{HaveRoom}
use Rattle.loop_command.specs.Desk.{granted}
use Rattle.stream_registry.specs.Books.{sole_rules}
use Rattle.stream_registry.specs.Names.{places}
use Rattle.loop_command.proofs.talk.talk_law.Goals as goal

pub journal-requires : goal.journal-requires
journal-requires c =
    let e : places (sole_rules c.args.run.now.port.rules) ≡ 1 = ap places c.requires in
    omega (arith, e)

pub returns-clause-plays : goal.returns-clause-plays
returns-clause-plays c = c.owed_law.ensures.whole granted

pub returns-clause-publishes : goal.returns-clause-publishes
returns-clause-publishes c = c.owed_law-2.ensures.whole granted

pub returns-clause-room : goal.returns-clause-room
returns-clause-room c = subst (HaveRoom 4194304) c.journal.ensures c.have_room.ensures

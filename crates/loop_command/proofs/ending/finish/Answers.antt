use Rattle.std.proofs.Common.{◌∙◌, subst}
use Rattle.client_law.specs.Room.{HaveRoom}
use Rattle.loop_command.specs.Desk.{player, publisher}
use Rattle.loop_command.proofs.Finishing.{ended}
use Rattle.loop_command.proofs.Refusing.{are_both}
use Rattle.loop_command.proofs.Running.{stands_on}
use Rattle.std.proofs.Common.{◌≡◌, ap, arith}
use Rattle.stream_registry.specs.Books.{sole_rules}
use Rattle.stream_registry.specs.Names.{places}
use Rattle.loop_command.proofs.ending.finish.Goals as goal

pub end_session-requires-clause-at : goal.end_session-requires-clause-at
end_session-requires-clause-at c =
    stands_on c.args.run.now.port c.count.new.port c.args.run.now.push.session c.count.ensures.rules c.count.ensures.ahead.passes c.requires.sound.publishes

pub end_session-requires-2-clause-at : goal.end_session-requires-2-clause-at
end_session-requires-2-clause-at c =
    stands_on c.count.new.port c.end_session.new.port c.args.run.now.pull.session c.end_session.ensures.rules c.end_session.ensures.passes
    (stands_on c.args.run.now.port c.count.new.port c.args.run.now.pull.session c.count.ensures.rules c.count.ensures.ahead.passes c.requires.sound.plays)

pub returns-clause-looped : goal.returns-clause-looped
returns-clause-looped c = λ file old now h.
    let a = c.end_session in
    let b = c.end_session-2 in
    ended c.push_bytes_law.ensures c.pull_bytes_law.ensures c.session_readable_law.ensures file c.args.run.now old now c.count.new.port a.new.port
    b.new.port a.new.line.far b.new.line.far
    c.requires.sound.rules_are h c.requires.settled c.count.ensures.ahead c.in_ok-count.ensures.counted c.in_ok-count.ensures.keeps
    (are_both c.a_session_begins_once.ensures file old now c.args.run.now c.requires.sound.rules_are h (c.talk_law.ensures.plays h.plays.stands)
    (c.talk_law.ensures.publishes h.publishes.stands) c.talk_law.ensures.room) (c.in_ok-end_session.ensures.side publisher)
    (a.ensures.port publisher) (a.ensures.far publisher)
    (c.in_ok-end_session-2.ensures.side player) (b.ensures.port player) (b.ensures.far player) (subst (HaveRoom 4194304) c.journal.ensures c.have_room.ensures)

pub end_session-requires-clause-rules : goal.end_session-requires-clause-rules
end_session-requires-clause-rules c = c.count.ensures.rules ∙ c.requires.sound.rules_are

pub end_session-requires-2-clause-rules : goal.end_session-requires-2-clause-rules
end_session-requires-2-clause-rules c = c.end_session.ensures.rules ∙ c.count.ensures.rules ∙ c.requires.sound.rules_are

pub journal-requires : goal.journal-requires
journal-requires c =
    let e : places (sole_rules c.end_session-2.new.port.rules)
    ≡ 1 = ap places (c.end_session-2.ensures.rules ∙ c.end_session.ensures.rules ∙ c.count.ensures.rules ∙ c.requires.sound.rules_are) in
    omega (arith, e)

use Rattle.std.proofs.Common.{rules, ◌-◌, take}
use Rattle.relay_session.proofs.Living.{all_sent, before_sent, sent_cut, sound_sent}
use Rattle.relay_session.proofs.steps.note_sent.Goals as goal

pub returns-clause-sound : goal.returns-clause-sound
returns-clause-sound c =
    let d = c.args.core.now in
    sound_sent d c.args.count c.add_all.new.self c.sent-2.new.self c.sent.new.self (d.greeting - c.min-greeting.result) c.requires.sound c.requires.within c.sent-2.ensures.others (search rules) (search rules) (search rules)

pub returns-clause-stands : goal.returns-clause-stands
returns-clause-stands c = λ desk st. (
    let o = c.args.core.now.outgoing in
    let n = c.args.count in
    before_sent desk c.args.core.now (take n o.ready) c.add_all.new.self c.sent-2.new.self c.sent.new.self (c.args.core.now.greeting - c.min-greeting.result) (sent_cut o c.sent-2.new.self n c.sent-2.ensures.ready c.sent-2.ensures.rest) c.sent-2.ensures.writer (search rules) st)

pub returns-clause-sent : goal.returns-clause-sent
returns-clause-sent c =
    all_sent c.args.core.now c.args.count c.add_all.new.self c.sent-2.new.self c.sent.new.self (c.args.core.now.greeting - c.min-greeting.result) c.requires.sound c.requires.within
    c.sent-2.ensures.ready c.sent-2.ensures.rest c.sent-2.ensures.others (search rules) (search rules)

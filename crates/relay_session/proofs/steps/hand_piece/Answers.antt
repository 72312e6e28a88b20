use Rattle.std.proofs.Common.{rules}
use Rattle.relay_session.proofs.Living.{before_hand, hand_used, light_hand, room_hand, sound_hand}
use Rattle.relay_session.proofs.Stopping.{fed_hand, stop_memory}
use Rattle.relay_session.proofs.steps.hand_piece.Goals as goal

pub returns-clause-sound : goal.returns-clause-sound
returns-clause-sound c =
    let e = c.in-Ok.ensures in
    let d = c.args.core.now in
    let u = hand_used d c.args.piece.now c.in-Ok.fed.used c.requires.sound c.requires.early c.requires.some e.used in
    sound_hand d c.args.piece.now c.add_all.new.self c.append.new.self c.in-Ok.fed.used c.feed.new.self c.in-Ok.fed.out c.requires.sound c.requires.early u.1 e.used e.ok e.most (search rules) (search rules) (search rules) (search rules)

pub returns-clause-stands : goal.returns-clause-stands
returns-clause-stands c = λ desk st. (
    let e = c.in-Ok.ensures in
    before_hand desk c.args.core.now c.args.piece.now c.in-Ok.fed.out c.add_all.new.self c.append.new.self c.in-Ok.fed.used c.feed.new.self c.requires.sound c.requires.early e.used e.ok e.most e.sum
    (search rules) (search rules) (search rules) st)

pub returns-clause-some : goal.returns-clause-some
returns-clause-some c =
    let u = hand_used c.args.core.now c.args.piece.now c.in-Ok.fed.used c.requires.sound c.requires.early c.requires.some c.in-Ok.ensures.used in
    (u.1, u.0)

pub returns-clause-fed : goal.returns-clause-fed
returns-clause-fed c = fed_hand c.args.core.now c.args.piece.now c.in-Ok.fed.out c.add_all.new.self c.append.new.self c.in-Ok.fed.used c.feed.new.self (search rules) (search rules) (search rules)

pub returns-in-Err-OutOfMemory-clause-stopped : goal.returns-in-Err-OutOfMemory-clause-stopped
returns-in-Err-OutOfMemory-clause-stopped c = stop_memory c.args.core.now c.args.piece.now c.feed.new.self c.args.core.now.outgoing c.requires.sound

pub returns-in-Err-clause-stopped : goal.returns-in-Err-clause-stopped
returns-in-Err-clause-stopped c = stop_memory c.args.core.now c.args.piece.now c.feed.new.self c.append.new.self c.requires.sound

pub returns-clause-light : goal.returns-clause-light
returns-clause-light c =
    let e = c.in-Ok.ensures in
    light_hand c.args.core.now c.args.piece.now c.in-Ok.fed.out c.add_all.new.self c.append.new.self c.in-Ok.fed.used c.feed.new.self c.requires.sound c.requires.early e.used e.ok e.sum (search rules) (search rules)

pub returns-in-Err-BadVersion-clause-room : goal.returns-in-Err-BadVersion-clause-room
returns-in-Err-BadVersion-clause-room c = room_hand c.args.core.now c.feed.new.self c.requires.sound c.requires.early

pub returns-in-Err-OutOfMemory-clause-room : goal.returns-in-Err-OutOfMemory-clause-room
returns-in-Err-OutOfMemory-clause-room c = room_hand c.args.core.now c.feed.new.self c.requires.sound c.requires.early

pub returns-in-Err-clause-room : goal.returns-in-Err-clause-room
returns-in-Err-clause-room c = room_hand c.args.core.now c.feed.new.self c.requires.sound c.requires.early

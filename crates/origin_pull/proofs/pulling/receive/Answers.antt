use Rattle.std.proofs.Common.{◌≡◌, arith, rules, Some}
use Rattle.origin_pull.specs.Turns.{IsTaken}
use Rattle.origin_pull.proofs.Owing.{IsFree}
use Rattle.origin_pull.proofs.Room.{room_due}
use Rattle.origin_pull.proofs.Short.{gift_short}
use Rattle.origin_pull.proofs.pulling.receive.Goals as goal

pub take_gift-requires-clause-short : goal.take_gift-requires-clause-short
take_gift-requires-clause-short c =
    let k = c.args.client.now in
    let e : k.parts.gift ≡ Some c.in-Some.gift = search rules in
    let s = gift_short c.messages_are_short.ensures k c.requires.stands c.in-Some.gift e in
    omega (arith, s, c.requires.short)

pub returns-in-Ok-clause-room : goal.returns-in-Ok-clause-room
returns-in-Ok-clause-room c =
    let k = c.args.client.now in
    let e : k.parts.gift ≡ Some c.in-Some.gift = search rules in
    let f : IsFree c.args.core.now = record { kept = c.requires.nothing.0; due = c.requires.nothing.1 } in
    let t : IsTaken k c.take.new.self = record { parts = c.take.ensures.left; input = c.take.ensures.others.0; ended = c.take.ensures.others.1 } in
    room_due c.one_reading.ensures c.args.core.now c.take_gift.new.core k c.take.new.self c.held.result c.in-Some.gift f c.in-Ok.ensures.due
    c.held.ensures.holds c.held.ensures.most e t

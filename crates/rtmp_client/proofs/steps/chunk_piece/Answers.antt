use Rattle.std.proofs.Common.{◌+◌, ◌-◌, ap, arith, length, length-append, refl, rules, subst, sym}
use Rattle.ack_window.specs.Inbound.{room_of}
use Rattle.chunk_reader.specs.ReaderKnown.{ReaderKnown}
use Rattle.chunk_reader.proofs.Short.{fed_short}
use Rattle.rtmp_client.specs.Bounds.{gift_bytes}
use Rattle.rtmp_client.specs.Feeding.{IsStopped}
use Rattle.rtmp_client.specs.declared.end.ClientEnd.{ClientEnd}
use Rattle.rtmp_client.proofs.Living.{far, fixed_read, part_used, sound_loud, sound_quiet, took_size}
use Rattle.rtmp_client.proofs.Stopping.{fed_chunk, fixed_with, loud_heard, over_acknowledge, over_message, over_reader, part_room, stop_acknowledge, stop_message, stop_reader}
use Rattle.rtmp_client.proofs.Telling.{gift_short}
use Rattle.rtmp_client.proofs.Weights.{weight_loud, weight_quiet}
use Rattle.rtmp_client.proofs.Wide.{loud_wide}
use Rattle.rtmp_client.proofs.steps.chunk_piece.Goals as goal

pub acknowledge-requires-clause-far : goal.acknowledge-requires-clause-far
acknowledge-requires-clause-far c =
    let n = far c.args.core.now c.first-part.result.now c.in-Ok.fed.used c.in-Ok.fed.message c.feed.new.self c.requires.sound c.requires.late (c.in-Ok.ensures.ok c.requires.sound.reads) in
    omega (arith, n.0)

pub answer-requires : goal.answer-requires
answer-requires c = c.requires.sound.named

pub returns-in-Err-clause-stopped : goal.returns-in-Err-clause-stopped
returns-in-Err-clause-stopped c =
    let d = c.args.core.now in
    let s = stop_reader d c.args.piece.now c.first-part.result.now c.add_all.new.self c.min-count.result c.saturating_add-at.result c.saturating_sub-before.result c.in-Err.fail c.feed.new.self
    c.requires.sound c.requires.late (c.in-Err.ensures.err c.requires.sound.reads) c.first-part.ensures (search rules) (search rules) (search rules) in
    subst (λ (e : ClientEnd). IsStopped d c.args.piece.now e (record d { reader = c.feed.new.self; fed = c.saturating_add-at.result; y = c.add_all.new.self })) (sym c.chunk_end.ensures) s

pub returns-in-Err-clause-over : goal.returns-in-Err-clause-over
returns-in-Err-clause-over c =
    over_reader c.args.core.now c.args.piece.now c.first-part.result.now c.add_all.new.self c.min-count.result c.saturating_add-at.result c.saturating_sub-before.result c.in-Err.fail c.feed.new.self
    c.requires.sound c.requires.late (c.in-Err.ensures.err c.requires.sound.reads) c.first-part.ensures (omega (arith, c.min-count.ensures, c.room_to_next-room.ensures.value)) (search rules) (search rules) (search rules)

pub returns-in-Err-clause-fixed : goal.returns-in-Err-clause-fixed
returns-in-Err-clause-fixed c = ap (fixed_with c.args.core.now) (ap (λ (k : ReaderKnown). k.max) (c.in-Err.ensures.err c.requires.sound.reads).now)

pub returns-in-Err-acknowledge-clause-stopped : goal.returns-in-Err-acknowledge-clause-stopped
returns-in-Err-acknowledge-clause-stopped c =
    stop_acknowledge c.args.core.now c.args.piece.now c.first-part.result.now c.in-Ok.fed.used c.in-Ok.fed.message c.feed.new.self c.acknowledge.new.inbound c.acknowledge.new.outgoing c.requires.sound
    (c.in-Ok.ensures.ok c.requires.sound.reads)

pub returns-in-Err-acknowledge-clause-over : goal.returns-in-Err-acknowledge-clause-over
returns-in-Err-acknowledge-clause-over c =
    over_acknowledge c.args.core.now c.first-part.result.now c.in-Ok.fed.used c.in-Ok.fed.message c.feed.new.self c.acknowledge.new.inbound c.acknowledge.new.outgoing c.requires.sound (c.in-Ok.ensures.ok c.requires.sound.reads)

pub returns-in-Err-acknowledge-clause-fixed : goal.returns-in-Err-acknowledge-clause-fixed
returns-in-Err-acknowledge-clause-fixed c =
    ap (fixed_with c.args.core.now) (fixed_read c.args.core.now c.first-part.result.now c.in-Ok.fed.used c.in-Ok.fed.message c.feed.new.self (c.in-Ok.ensures.ok c.requires.sound.reads))

pub returns-in-None-clause-sound : goal.returns-in-None-clause-sound
returns-in-None-clause-sound c =
    let f = rw c.in-None.is at (c.in-Ok.ensures.ok c.requires.sound.reads) in
    sound_quiet c.args.core.now c.first-part.result.now c.add_all-in-None.new.self c.in-Ok.fed.used c.feed.new.self c.acknowledge.new.inbound c.acknowledge.new.outgoing
    c.requires.sound c.requires.late (search rules) f c.acknowledge.ensures.window c.in-Ok-acknowledge.ensures.said (search rules)

pub returns-in-None-clause-fed : goal.returns-in-None-clause-fed
returns-in-None-clause-fed c =
    let d = c.args.core.now in
    fed_chunk d c.args.piece.now c.first-part.result.now c.add_all-in-None.new.self c.min-count.result c.in-Ok.fed.used (d.fed + c.in-Ok.fed.used) c.in-Ok.fed.message c.feed.new.self c.acknowledge.new.inbound d.phase
    c.acknowledge.new.outgoing d.gift c.first-part.ensures (c.in-Ok.ensures.ok c.requires.sound.reads) (search rules) c.acknowledge.ensures.apart

pub returns-in-None-clause-gift : goal.returns-in-None-clause-gift
returns-in-None-clause-gift c = omega (arith, ap gift_bytes c.requires.open)

pub returns-in-None-clause-fixed : goal.returns-in-None-clause-fixed
returns-in-None-clause-fixed c =
    ap (fixed_with c.args.core.now) (fixed_read c.args.core.now c.first-part.result.now c.in-Ok.fed.used c.in-Ok.fed.message c.feed.new.self (c.in-Ok.ensures.ok c.requires.sound.reads))

pub returns-in-None-clause-quiet : goal.returns-in-None-clause-quiet
returns-in-None-clause-quiet c = λ e. (
    let d = c.args.core.now in
    let part = c.first-part.result.now in
    let f = c.in-Ok.ensures.ok c.requires.sound.reads in
    let room = part_room c.args.piece.now part c.min-count.result (room_of c.args.core.now.inbound) c.first-part.ensures (omega (arith, c.min-count.ensures, c.room_to_next-room.ensures.value)) in
    weight_quiet d.inbound c.acknowledge.new.inbound c.in-Ok.fed.used (length d.y) (length c.add_all-in-None.new.self) d.outgoing c.acknowledge.new.outgoing c.room_to_next-room.ensures.kept (omega (arith, f.within, room))
    c.in-Ok-acknowledge.ensures.said c.acknowledge.ensures.light c.acknowledge.ensures.window c.requires.late
    (omega (arith, ap length c.add_all-in-None.ensures, length-append d.y c.first-in-None.result.now)))

pub returns-in-Ok-answer-clause-sound : goal.returns-in-Ok-answer-clause-sound
returns-in-Ok-answer-clause-sound c =
    let d = c.args.core.now in
    let f = rw c.in-Some.is at (c.in-Ok.ensures.ok c.requires.sound.reads) in
    let e = c.in-Ok-answer.ensures in
    let s = c.in-Ok-acknowledge.ensures.said in
    sound_loud d c.first-part.result.now c.add_all-in-Ok-answer.new.self c.in-Ok.fed.used c.in-Some.message c.feed.new.self c.acknowledge.new.inbound c.answer.new.inbound c.acknowledge.new.outgoing c.answer.new.outgoing
    c.answer.new.phase c.in-Ok-answer.gift c.requires.sound c.requires.late c.requires.open (search rules) f c.acknowledge.ensures.window s e.window e.said e.phase e.gift
    (loud_wide d.asked d.phase c.answer.new.phase c.in-Some.message d.outgoing.writer.size c.acknowledge.new.outgoing c.answer.new.outgoing c.requires.sound.wide (took_size d.inbound c.in-Ok.fed.used d.outgoing c.acknowledge.new.outgoing s) e.said e.phase)
    (search rules)

pub returns-in-Ok-answer-clause-fed : goal.returns-in-Ok-answer-clause-fed
returns-in-Ok-answer-clause-fed c =
    let d = c.args.core.now in
    fed_chunk d c.args.piece.now c.first-part.result.now c.add_all-in-Ok-answer.new.self c.min-count.result c.in-Ok.fed.used (d.fed + c.in-Ok.fed.used) c.in-Ok.fed.message c.feed.new.self c.answer.new.inbound c.answer.new.phase
    c.answer.new.outgoing c.in-Ok-answer.gift c.first-part.ensures (c.in-Ok.ensures.ok c.requires.sound.reads) (search rules)
    (omega (arith, c.acknowledge.ensures.apart, c.answer.ensures.apart))

pub returns-in-Ok-answer-clause-heard : goal.returns-in-Ok-answer-clause-heard
returns-in-Ok-answer-clause-heard c =
    let f = rw c.in-Some.is at (c.in-Ok.ensures.ok c.requires.sound.reads) in
    let d = c.args.core.now in
    let e = c.in-Ok-answer.ensures in
    loud_heard d c.first-part.result.now c.add_all-in-Ok-answer.new.self c.in-Ok.fed.used (d.fed + c.in-Ok.fed.used - 1) (d.fed + c.in-Ok.fed.used) c.in-Some.message c.feed.new.self c.answer.new.inbound
    c.answer.new.phase c.answer.new.outgoing c.in-Ok-answer.gift c.requires.sound c.requires.late f e.phase e.gift (search rules) refl e.ok

pub returns-in-Ok-answer-clause-gift : goal.returns-in-Ok-answer-clause-gift
returns-in-Ok-answer-clause-gift c =
    let d = c.args.core.now in
    let f = rw c.in-Some.is at (c.in-Ok.ensures.ok c.requires.sound.reads) in
    gift_short d.asked.wish d.phase c.in-Some.message c.in-Ok-answer.gift d.reader.max c.in-Ok-answer.ensures.gift
    (fed_short d.reader c.feed.new.self c.first-part.result.now c.in-Ok.fed.used c.in-Some.message f)

pub returns-in-Ok-answer-clause-fixed : goal.returns-in-Ok-answer-clause-fixed
returns-in-Ok-answer-clause-fixed c =
    ap (fixed_with c.args.core.now) (fixed_read c.args.core.now c.first-part.result.now c.in-Ok.fed.used c.in-Ok.fed.message c.feed.new.self (c.in-Ok.ensures.ok c.requires.sound.reads))

pub returns-in-Ok-answer-clause-light : goal.returns-in-Ok-answer-clause-light
returns-in-Ok-answer-clause-light c =
    let d = c.args.core.now in
    let used = c.in-Ok.fed.used in
    let part = c.first-part.result.now in
    let f = c.in-Ok.ensures.ok c.requires.sound.reads in
    let room = part_room c.args.piece.now part c.min-count.result (room_of c.args.core.now.inbound) c.first-part.ensures (omega (arith, c.min-count.ensures, c.room_to_next-room.ensures.value)) in
    weight_loud d.inbound used (length c.args.piece.now) c.answer.new.outgoing.others (length d.y) d.outgoing c.acknowledge.new.outgoing c.room_to_next-room.ensures.kept (omega (arith, f.within, room))
    c.in-Ok-acknowledge.ensures.said c.acknowledge.ensures.light c.answer.ensures.light (part_used c.args.piece.now part c.min-count.result used c.first-part.ensures f.within).1

pub returns-in-Err-answer-clause-light : goal.returns-in-Err-answer-clause-light
returns-in-Err-answer-clause-light c =
    let d = c.args.core.now in
    let used = c.in-Ok.fed.used in
    let part = c.first-part.result.now in
    let f = c.in-Ok.ensures.ok c.requires.sound.reads in
    let room = part_room c.args.piece.now part c.min-count.result (room_of c.args.core.now.inbound) c.first-part.ensures (omega (arith, c.min-count.ensures, c.room_to_next-room.ensures.value)) in
    weight_loud d.inbound used (length c.args.piece.now) c.answer.new.outgoing.others (length d.y) d.outgoing c.acknowledge.new.outgoing c.room_to_next-room.ensures.kept (omega (arith, f.within, room))
    c.in-Ok-acknowledge.ensures.said c.acknowledge.ensures.light c.answer.ensures.light (part_used c.args.piece.now part c.min-count.result used c.first-part.ensures f.within).1

pub returns-in-Err-answer-clause-stopped : goal.returns-in-Err-answer-clause-stopped
returns-in-Err-answer-clause-stopped c =
    let f = rw c.in-Some.is at (c.in-Ok.ensures.ok c.requires.sound.reads) in
    let d = c.args.core.now in
    let n = d.fed + c.in-Ok.fed.used - 1 in
    stop_message d c.args.piece.now c.first-part.result.now c.add_all-in-Err-answer.new.self c.min-count.result c.in-Ok.fed.used n n c.in-Some.message c.feed.new.self c.answer.new.inbound c.answer.new.phase
    c.answer.new.outgoing c.in-Err-answer.why c.requires.sound c.requires.late f c.first-part.ensures refl refl (search rules) c.in-Err-answer.ensures.err
    c.in-Err-answer.ensures.still

pub returns-in-Err-answer-clause-over : goal.returns-in-Err-answer-clause-over
returns-in-Err-answer-clause-over c =
    let f = rw c.in-Some.is at (c.in-Ok.ensures.ok c.requires.sound.reads) in
    let d = c.args.core.now in
    over_message d c.args.piece.now c.first-part.result.now c.add_all-in-Err-answer.new.self c.min-count.result c.in-Ok.fed.used (d.fed + c.in-Ok.fed.used - 1) c.in-Some.message c.feed.new.self
    c.answer.new.inbound c.answer.new.phase c.answer.new.outgoing c.requires.sound c.requires.late f c.first-part.ensures (omega (arith, c.min-count.ensures, c.room_to_next-room.ensures.value))
    (search rules)

pub returns-in-Err-answer-clause-fixed : goal.returns-in-Err-answer-clause-fixed
returns-in-Err-answer-clause-fixed c =
    ap (fixed_with c.args.core.now) (fixed_read c.args.core.now c.first-part.result.now c.in-Ok.fed.used c.in-Ok.fed.message c.feed.new.self (c.in-Ok.ensures.ok c.requires.sound.reads))

use Rattle.std.proofs.Common.{◌+◌, ◌-◌, ◌∙◌, ap, arith, length, length-append, refl, rules, subst, sym}
use Rattle.ack_window.specs.Inbound.{room_of}
use Rattle.ack_window.specs.Outbound.{OutWindow}
use Rattle.chunk_reader.specs.ReaderKnown.{ReaderKnown}
use Rattle.chunk_reader.proofs.Short.{fed_short}
use Rattle.relay_session.specs.Feeding.{IsStopped}
use Rattle.relay_session.specs.declared.end.End.{End}
use Rattle.relay_session.proofs.Bodies.{loud_most}
use Rattle.relay_session.proofs.Fitting.{fits_kept}
use Rattle.relay_session.proofs.Living.{before_loud, before_quiet, far, loud_acts, says_within, sound_fed}
use Rattle.relay_session.proofs.Room.{none_kept, room_loud, room_none}
use Rattle.relay_session.proofs.Stopping.{fed_chunk, loud_heard, loud_idle, others_both, outbound_kept, over_message, over_reader, stop_acknowledge, stop_message, stop_reader}
use Rattle.relay_session.proofs.Stopping.{part_room, part_used}
use Rattle.relay_session.proofs.Weights.{weight_loud, weight_quiet}
use Rattle.relay_session.proofs.steps.chunk_piece.Goals as goal

pub acknowledge-requires-clause-far : goal.acknowledge-requires-clause-far
acknowledge-requires-clause-far g c =
    let n = far c.args.core.now c.first-part.result.now c.in-Ok.fed.used c.in-Ok.fed.message c.feed.new.self c.requires.sound c.requires.late (c.in-Ok.ensures.ok c.requires.sound.reads) in
    omega (arith, n.0)

pub answer-requires : goal.answer-requires
answer-requires g c =
    let f = rw c.in-Some.is at (c.in-Ok.ensures.ok c.requires.sound.reads) in
    let n = fed_short c.args.core.now.reader c.feed.new.self c.first-part.result.now c.in-Ok.fed.used c.in-Some.message f in
    record { short = omega (arith, n, c.requires.sound.short) }

pub returns-in-Err-clause-stopped : goal.returns-in-Err-clause-stopped
returns-in-Err-clause-stopped g c =
    let d = c.args.core.now in
    let s = stop_reader d c.args.piece.now c.first-part.result.now c.add_all.new.self c.min-count.result c.saturating_add-at.result c.saturating_sub-before.result c.in-Err.fail c.feed.new.self
    c.requires.sound c.requires.late (c.in-Err.ensures.err c.requires.sound.reads) c.first-part.ensures (search rules) (search rules) (search rules) in
    subst (λ (e : End). IsStopped d c.args.piece.now e (record d { reader = c.feed.new.self; fed = c.saturating_add-at.result; x = c.add_all.new.self })) (sym c.chunk_end.ensures) s

pub returns-in-Err-clause-over : goal.returns-in-Err-clause-over
returns-in-Err-clause-over g c = λ st. (
    let d = c.args.core.now in
    over_reader (g.D.Desk.grants c.args.desk.now) c.chunk_end.result d c.args.piece.now c.first-part.result.now c.add_all.new.self c.min-count.result c.saturating_add-at.result c.saturating_sub-before.result c.in-Err.fail c.feed.new.self
    c.requires.sound c.requires.late c.requires.open (c.in-Err.ensures.err c.requires.sound.reads) c.first-part.ensures (omega (arith, c.min-count.ensures, c.room_to_next-room.ensures.value)) (search rules) (search rules) (search rules) st)

pub returns-in-Err-acknowledge-clause-stopped : goal.returns-in-Err-acknowledge-clause-stopped
returns-in-Err-acknowledge-clause-stopped g c =
    stop_acknowledge c.args.core.now c.args.piece.now c.first-part.result.now c.in-Ok.fed.used c.in-Ok.fed.message c.feed.new.self c.acknowledge.new.inbound c.acknowledge.new.outgoing c.requires.sound
    (c.in-Ok.ensures.ok c.requires.sound.reads)

pub returns-in-None-clause-sound : goal.returns-in-None-clause-sound
returns-in-None-clause-sound g c =
    let d = c.args.core.now in
    let l = c.requires.sound in
    sound_fed d c.first-part.result.now c.add_all-in-None.new.self c.in-Ok.fed.used c.in-Ok.fed.message c.feed.new.self c.acknowledge.new.inbound d.outbound d.dialog c.acknowledge.new.outgoing d.kept d.place
    l c.requires.late (c.in-Ok.ensures.ok l.reads) (search rules) refl (says_within d.outgoing c.acknowledge.new.outgoing _ c.in-Ok-acknowledge.ensures.said l.others) l.placed l.acts
    (room_none d.hand c.feed.new.self d.kept (none_kept d.hand d.x l.hand c.requires.late) c.requires.open (omega (arith, l.short, ap (λ (k : ReaderKnown). k.max) (c.in-Ok.ensures.ok l.reads).now))) (search rules)

pub returns-in-None-clause-stands : goal.returns-in-None-clause-stands
returns-in-None-clause-stands g c = λ st. (
    let f = rw c.in-None.is at (c.in-Ok.ensures.ok c.requires.sound.reads) in
    before_quiet (g.D.Desk.grants c.args.desk.now) c.args.core.now c.first-part.result.now c.add_all-in-None.new.self c.in-Ok.fed.used c.feed.new.self c.acknowledge.new.inbound c.acknowledge.new.outgoing
    c.requires.late c.requires.open (search rules) f c.acknowledge.ensures.window c.in-Ok-acknowledge.ensures.said (search rules) st)

pub returns-in-Ok-answer-clause-sound : goal.returns-in-Ok-answer-clause-sound
returns-in-Ok-answer-clause-sound g c =
    let d = c.args.core.now in
    let l = c.requires.sound in
    let e = c.in-Ok-answer.ensures in
    let a = c.in-Ok-answer.field-0 in
    let o = says_within d.outgoing c.acknowledge.new.outgoing _ c.in-Ok-acknowledge.ensures.said l.others in
    sound_fed d c.first-part.result.now c.add_all-in-Ok-answer.new.self c.in-Ok.fed.used c.in-Ok.fed.message c.feed.new.self c.answer.new.inbound c.answer.new.outbound c.answer.new.dialog c.answer.new.outgoing a.kept a.place
    l c.requires.late (c.in-Ok.ensures.ok l.reads) (search rules) (ap (λ (w : OutWindow). w.sent) e.outbound ∙ outbound_kept d.outbound c.in-Some.message)
    (says_within c.acknowledge.new.outgoing c.answer.new.outgoing _ e.said o)
    (loud_idle (g.D.Desk.grants c.args.desk.now) d.dialog c.answer.new.dialog c.in-Some.message d.place a.place d.kept a.kept d.who (d.fed + c.in-Ok.fed.used) l.placed e.place e.makes e.state)
    (loud_acts (g.D.Desk.grants c.args.desk.now) d.dialog c.in-Some.message d.who (d.fed + c.in-Ok.fed.used) a.kept e.makes)
    (room_loud d.hand d.reader c.feed.new.self c.first-part.result.now c.in-Ok.fed.used c.in-Some.message a.kept (none_kept d.hand d.x l.hand c.requires.late) (rw c.in-Some.is at (c.in-Ok.ensures.ok l.reads))
    (loud_most d.who (d.fed + c.in-Ok.fed.used) (g.D.Desk.grants c.args.desk.now) d.dialog c.in-Some.message a.kept e.makes) l.short) (search rules)

pub returns-in-Ok-answer-clause-stands : goal.returns-in-Ok-answer-clause-stands
returns-in-Ok-answer-clause-stands g c = λ st. (
    let f = rw c.in-Some.is at (c.in-Ok.ensures.ok c.requires.sound.reads) in
    let e = c.in-Ok-answer.ensures in
    before_loud (g.D.Desk.grants c.args.desk.now) c.args.core.now c.first-part.result.now c.add_all-in-Ok-answer.new.self c.in-Ok.fed.used c.in-Some.message c.feed.new.self c.acknowledge.new.inbound c.answer.new.inbound
    c.answer.new.outbound c.acknowledge.new.outgoing c.answer.new.outgoing c.answer.new.dialog c.in-Ok-answer.field-0.kept c.in-Ok-answer.field-0.place c.requires.sound c.requires.late c.requires.open
    (search rules) f c.acknowledge.ensures.window c.in-Ok-acknowledge.ensures.said e.window e.said e.state e.makes (search rules) st)

pub returns-in-Ok-answer-clause-fed : goal.returns-in-Ok-answer-clause-fed
returns-in-Ok-answer-clause-fed g c =
    let d = c.args.core.now in
    let a = c.in-Ok-answer.field-0 in
    fed_chunk d c.args.piece.now c.first-part.result.now c.add_all-in-Ok-answer.new.self c.min-count.result c.in-Ok.fed.used c.in-Ok.fed.message c.feed.new.self c.answer.new.inbound c.answer.new.outbound c.answer.new.dialog
    c.answer.new.outgoing a.kept a.place c.first-part.ensures (c.in-Ok.ensures.ok c.requires.sound.reads)
    (others_both d.outgoing c.acknowledge.new.outgoing c.answer.new.outgoing _ _ c.in-Ok-acknowledge.ensures.said c.in-Ok-answer.ensures.said) (search rules)

pub returns-in-Ok-answer-clause-heard : goal.returns-in-Ok-answer-clause-heard
returns-in-Ok-answer-clause-heard g c =
    let f = rw c.in-Some.is at (c.in-Ok.ensures.ok c.requires.sound.reads) in
    let d = c.args.core.now in
    let e = c.in-Ok-answer.ensures in
    let a = c.in-Ok-answer.field-0 in
    loud_heard (g.D.Desk.grants c.args.desk.now) d c.first-part.result.now c.add_all-in-Ok-answer.new.self c.in-Ok.fed.used (d.fed + c.in-Ok.fed.used - 1) c.in-Some.message c.feed.new.self c.answer.new.inbound c.answer.new.outbound
    c.answer.new.dialog c.answer.new.outgoing a.kept a.place c.requires.sound c.requires.late f e.state e.makes e.outbound e.place (search rules) refl e.ok

pub returns-in-Err-answer-clause-stopped : goal.returns-in-Err-answer-clause-stopped
returns-in-Err-answer-clause-stopped g c =
    let f = rw c.in-Some.is at (c.in-Ok.ensures.ok c.requires.sound.reads) in
    let d = c.args.core.now in
    let n = d.fed + c.in-Ok.fed.used - 1 in
    stop_message d c.args.piece.now c.first-part.result.now c.add_all-in-Err-answer.new.self c.min-count.result c.in-Ok.fed.used n n c.in-Some.message c.feed.new.self c.answer.new.inbound c.answer.new.outbound c.answer.new.dialog
    c.answer.new.outgoing c.in-Err-answer.why c.requires.sound c.requires.late f c.first-part.ensures refl refl (search rules) c.in-Err-answer.ensures.err c.in-Err-answer.ensures.stays

pub returns-in-Err-answer-clause-over : goal.returns-in-Err-answer-clause-over
returns-in-Err-answer-clause-over g c = λ st. (
    let f = rw c.in-Some.is at (c.in-Ok.ensures.ok c.requires.sound.reads) in
    let d = c.args.core.now in
    over_message (g.D.Desk.grants c.args.desk.now) c.in-Err-answer.why d c.args.piece.now c.first-part.result.now c.add_all-in-Err-answer.new.self c.min-count.result c.in-Ok.fed.used (d.fed + c.in-Ok.fed.used - 1) c.in-Some.message c.feed.new.self
    c.answer.new.inbound c.answer.new.outbound c.answer.new.dialog c.answer.new.outgoing c.requires.sound c.requires.late c.requires.open f c.first-part.ensures (omega (arith, c.min-count.ensures, c.room_to_next-room.ensures.value))
    (search rules) c.in-Err-answer.ensures.stays st)

pub returns-in-None-clause-quiet : goal.returns-in-None-clause-quiet
returns-in-None-clause-quiet g c = λ e. (
    let d = c.args.core.now in
    let part = c.first-part.result.now in
    let f = c.in-Ok.ensures.ok c.requires.sound.reads in
    let room = part_room c.args.piece.now part c.min-count.result (room_of c.args.core.now.inbound) c.first-part.ensures (omega (arith, c.min-count.ensures, c.room_to_next-room.ensures.value)) in
    weight_quiet d.inbound c.acknowledge.new.inbound c.in-Ok.fed.used d.x c.add_all-in-None.new.self d.outgoing c.acknowledge.new.outgoing c.room_to_next-room.ensures.kept (omega (arith, f.within, room))
    c.in-Ok-acknowledge.ensures.said c.acknowledge.ensures.light c.acknowledge.ensures.window (omega (arith, c.requires.late))
    (omega (arith, ap length c.add_all-in-None.ensures, length-append d.x c.first-in-None.result.now)))

pub returns-in-Ok-answer-clause-light : goal.returns-in-Ok-answer-clause-light
returns-in-Ok-answer-clause-light g c =
    let d = c.args.core.now in
    let used = c.in-Ok.fed.used in
    let part = c.first-part.result.now in
    let f = c.in-Ok.ensures.ok c.requires.sound.reads in
    let room = part_room c.args.piece.now part c.min-count.result (room_of c.args.core.now.inbound) c.first-part.ensures (omega (arith, c.min-count.ensures, c.room_to_next-room.ensures.value)) in
    weight_loud d.inbound used (length c.args.piece.now) c.answer.new.outgoing.others d.x d.outgoing c.acknowledge.new.outgoing c.room_to_next-room.ensures.kept (omega (arith, f.within, room))
    c.in-Ok-acknowledge.ensures.said c.acknowledge.ensures.light c.answer.ensures.light (part_used c.args.piece.now part c.min-count.result used c.first-part.ensures f.within).1

pub returns-in-Err-answer-clause-light : goal.returns-in-Err-answer-clause-light
returns-in-Err-answer-clause-light g c =
    let d = c.args.core.now in
    let used = c.in-Ok.fed.used in
    let part = c.first-part.result.now in
    let f = c.in-Ok.ensures.ok c.requires.sound.reads in
    let room = part_room c.args.piece.now part c.min-count.result (room_of c.args.core.now.inbound) c.first-part.ensures (omega (arith, c.min-count.ensures, c.room_to_next-room.ensures.value)) in
    weight_loud d.inbound used (length c.args.piece.now) c.answer.new.outgoing.others d.x d.outgoing c.acknowledge.new.outgoing c.room_to_next-room.ensures.kept (omega (arith, f.within, room))
    c.in-Ok-acknowledge.ensures.said c.acknowledge.ensures.light c.answer.ensures.light (part_used c.args.piece.now part c.min-count.result used c.first-part.ensures f.within).1

pub returns-in-Err-clause-fits : goal.returns-in-Err-clause-fits
returns-in-Err-clause-fits g c = λ f. fits_kept _ _ _ _ _ _ (omega arith) refl (ap (λ (k : ReaderKnown). k.max) (c.in-Err.ensures.err c.requires.sound.reads).now) f

pub returns-in-Err-acknowledge-clause-fits : goal.returns-in-Err-acknowledge-clause-fits
returns-in-Err-acknowledge-clause-fits g c = λ f. fits_kept _ _ _ _ _ _ c.acknowledge.ensures.unit refl (ap (λ (k : ReaderKnown). k.max) (c.in-Ok.ensures.ok c.requires.sound.reads).now) f

pub returns-in-None-clause-fits : goal.returns-in-None-clause-fits
returns-in-None-clause-fits g c = λ f. fits_kept _ _ _ _ _ _ c.acknowledge.ensures.unit refl (ap (λ (k : ReaderKnown). k.max) (c.in-Ok.ensures.ok c.requires.sound.reads).now) f

pub returns-in-Ok-answer-clause-fits : goal.returns-in-Ok-answer-clause-fits
returns-in-Ok-answer-clause-fits g c = λ f.
    fits_kept _ _ _ _ _ _ (omega (arith, c.answer.ensures.unit, c.acknowledge.ensures.unit)) refl (ap (λ (k : ReaderKnown). k.max) (c.in-Ok.ensures.ok c.requires.sound.reads).now) f

pub returns-in-Err-answer-clause-fits : goal.returns-in-Err-answer-clause-fits
returns-in-Err-answer-clause-fits g c = λ f.
    fits_kept _ _ _ _ _ _ (omega (arith, c.answer.ensures.unit, c.acknowledge.ensures.unit)) refl (ap (λ (k : ReaderKnown). k.max) (c.in-Ok.ensures.ok c.requires.sound.reads).now) f

pub returns-in-Err-clause-room : goal.returns-in-Err-clause-room
returns-in-Err-clause-room g c =
    let d = c.args.core.now in
    let l = c.requires.sound in
    room_none d.hand c.feed.new.self d.kept (none_kept d.hand d.x l.hand c.requires.late) c.requires.open (omega (arith, l.short, ap (λ (k : ReaderKnown). k.max) (c.in-Err.ensures.err c.requires.sound.reads).now))

pub returns-in-Err-acknowledge-clause-room : goal.returns-in-Err-acknowledge-clause-room
returns-in-Err-acknowledge-clause-room g c =
    let d = c.args.core.now in
    let l = c.requires.sound in
    room_none d.hand c.feed.new.self d.kept (none_kept d.hand d.x l.hand c.requires.late) c.requires.open (omega (arith, l.short, ap (λ (k : ReaderKnown). k.max) (c.in-Ok.ensures.ok c.requires.sound.reads).now))

pub returns-in-Err-answer-clause-room : goal.returns-in-Err-answer-clause-room
returns-in-Err-answer-clause-room g c =
    let d = c.args.core.now in
    let l = c.requires.sound in
    room_none d.hand c.feed.new.self d.kept (none_kept d.hand d.x l.hand c.requires.late) c.requires.open (omega (arith, l.short, ap (λ (k : ReaderKnown). k.max) (c.in-Ok.ensures.ok c.requires.sound.reads).now))

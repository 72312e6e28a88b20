use Rattle.std.proofs.Common.{◌<◌, arith}
use Rattle.std.proofs.lemmas.Result.{IfOk-equal, IfOk-weaker}
use Rattle.pes_packets.proofs.Cuts.{first_run, first_count}
use Rattle.pes_packets.proofs.packets.put_pes.Goals as goal

pub returns-clause-ok : goal.returns-clause-ok
returns-clause-ok c =
    let some : 0 < c.room_for-room.result = omega (arith, c.room_for-room.ensures.some) in
    IfOk-equal c.put_rest.result _ _ _ c.put_rest.ensures.ok
    (first_run c.args.pid c.args.counter c.room_for-room.result c.args.flags c.args.pes.now c.after.result.now c.args.out.now c.put_packet.new.out some c.room_for-room.ensures.value c.requires.some
    c.after.ensures (rw (← c.first.ensures) c.in_ok-put_packet.ensures.ok))

pub returns-clause-next : goal.returns-clause-next
returns-clause-next c =
    let some : 0 < c.room_for-room.result = omega (arith, c.room_for-room.ensures.some) in
    IfOk-weaker c.put_rest.result _ _
    (λ n h. first_count c.args.counter c.room_for-room.result n c.args.flags c.args.pes.now c.after.result.now c.requires.counter some c.room_for-room.ensures.value c.requires.some c.after.ensures h)
    c.put_rest.ensures.next

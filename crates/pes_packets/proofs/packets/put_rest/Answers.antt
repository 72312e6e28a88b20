use Rattle.std.proofs.Common.{◌≡◌, ◌<◌, length, refl, ap, arith, length-take, length-drop}
use Rattle.std.proofs.lemmas.Bool.Decides.{nat_tests}
use Rattle.pes_packets.proofs.Bits.{silent_room}
use Rattle.pes_packets.proofs.Cuts.{runs_more, runs_end}
use Rattle.pes_packets.proofs.packets.put_rest.Goals as goal

pub put_packet-requires-clause-room : goal.put_packet-requires-clause-room
put_packet-requires-clause-room c = omega (arith, silent_room, ap length c.first.ensures, length-take 184 c.loop-left.left.now)

pub loop-left-smaller : goal.loop-left-smaller
loop-left-smaller c =
    let some : 0 < length c.loop-left.left.now = grind (arith, nat_tests) in
    omega (arith, ap length c.after-left.ensures, length-drop 184 c.loop-left.left.now)

pub loop-left-preserved : goal.loop-left-preserved
loop-left-preserved c =
    let some : 0 < length c.loop-left.left.now = grind (arith, nat_tests) in
    runs_more c.args.pid c.args.counter c.loop-left.counter _ c.args.rest.now c.loop-left.left.now c.after-left.result.now c.args.out.now c.loop-left.out c.put_packet.new.out
    some refl c.after-left.ensures (rw (← c.first.ensures) c.in_ok-put_packet.ensures.ok) c.loop-left.invariant

pub returns-clause-ok : goal.returns-clause-ok
returns-clause-ok c =
    let none : length c.loop-left.left.now ≡ 0 = grind (arith, nat_tests) in
    (runs_end c.args.pid c.args.counter c.loop-left.counter c.args.rest.now c.loop-left.left.now c.args.out.now c.loop-left.out none c.loop-left.invariant).0

pub returns-clause-next : goal.returns-clause-next
returns-clause-next c =
    let none : length c.loop-left.left.now ≡ 0 = grind (arith, nat_tests) in
    (runs_end c.args.pid c.args.counter c.loop-left.counter c.args.rest.now c.loop-left.left.now c.args.out.now c.loop-left.out none c.loop-left.invariant).1

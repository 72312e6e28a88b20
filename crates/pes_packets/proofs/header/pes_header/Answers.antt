use Rattle.std.proofs.Common.{refl, arith}
use Rattle.std.proofs.lemmas.Result.{IfOk-equal}
use Rattle.pes_packets.proofs.Bits.{one_time, two_times}
use Rattle.pes_packets.proofs.header.pes_header.Goals as goal

pub returns-then-pts-dts-clause-ok : goal.returns-then-pts-dts-clause-ok
returns-then-pts-dts-clause-ok c =
    IfOk-equal c.put_time.result _ _ _ c.put_time.ensures.ok
    (one_time c.args.out.now c.append.new.self c.append-then-pts-dts.new.self c.args.id c.args.pts c.args.dts c.args.length _ _ c.if-pts-dts.true (omega arith) (omega arith)
    (rw c.to_be_bytes.ensures refl) (rw c.to_be_bytes.ensures refl) c.in_ok-append.ensures.ok c.in_ok-append-2.ensures.ok)

pub returns-clause-ok : goal.returns-clause-ok
returns-clause-ok c =
    IfOk-equal c.put_time-3.result _ _ _ c.put_time-3.ensures.ok
    (two_times c.args.out.now c.append.new.self c.append-2.new.self c.put_time-2.new.out c.args.id c.args.pts c.args.dts c.args.length _ _ c.if-pts-dts.false (omega arith) (omega arith)
    (rw c.to_be_bytes.ensures refl) (rw c.to_be_bytes.ensures refl) c.in_ok-append.ensures.ok c.in_ok-append-3.ensures.ok c.in_ok-put_time.ensures.ok)

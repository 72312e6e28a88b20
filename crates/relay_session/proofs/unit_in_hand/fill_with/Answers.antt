use Rattle.std.proofs.Common.{◌≡◌, ◌++◌, ap, length, length-append, rules, arith}
use Rattle.std.proofs.lemmas.Grind.{common_steps}
use Rattle.chunk_writer.specs.InHand.{after_chunk, chunk_of}
use Rattle.relay_session.proofs.Filling.{chunk_some, fill_more}
use Rattle.relay_session.proofs.unit_in_hand.fill_with.Goals as goal

pub loop-sending-smaller : goal.loop-sending-smaller
loop-sending-smaller c =
    let h = c.loop-sending.sending in
    let body = c.args.body.now in
    let e : c.next_chunk.new.out ≡ c.loop-sending.out ++ chunk_of h body = first_of (search rules, grind (arith, common_steps, c.in_ok-next_chunk.ensures.chunk, c.if-not-branch.false)) in
    omega (arith, ap length e, length-append c.loop-sending.out (chunk_of h body), chunk_some h body, c.loop-sending-test.true)

pub loop-sending-preserved : goal.loop-sending-preserved
loop-sending-preserved c =
    let h = c.loop-sending.sending in
    let body = c.args.body.now in
    let e : c.next_chunk.new.out ≡ c.loop-sending.out ++ chunk_of h body = first_of (search rules, grind (arith, common_steps, c.in_ok-next_chunk.ensures.chunk, c.if-not-branch.false)) in
    let a : c.next_chunk.new.self ≡ after_chunk h body = first_of (search rules, grind (arith, common_steps, c.in_ok-next_chunk.ensures.sending, c.if-not-branch.false)) in
    fill_more c.args.place c.args.most c.args.sending.now h c.next_chunk.new.self body c.args.out.now c.loop-sending.out c.next_chunk.new.out c.loop-sending.invariant (omega (arith, c.loop-sending-test.true, c.len.ensures)) a e
    c.in_ok-next_chunk.ensures.left

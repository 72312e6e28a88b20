use Rattle.std.proofs.Common.{rules}
use Rattle.client_command.proofs.Writing.{gift_unwritten, put_gift}
use Rattle.client_command.proofs.gifts.write_gift.Goals as goal

pub returns-in_err-text-clause-text : goal.returns-in_err-text-clause-text
returns-in_err-text-clause-text g c = λ gifts held b e.
    let h = gift_unwritten gifts c.args.gift.now c.args.begun held (g.K.Sink.holds c.args.out.now) b e in
    search (rules, h)

pub returns-clause-text : goal.returns-clause-text
returns-clause-text g c = λ gifts held b e.
    put_gift c.put_all.result gifts c.args.gift.now c.args.begun c.as_slice.result.now held (g.K.Sink.holds c.args.out.now) (g.K.Sink.holds c.put_all.new.out) b e (search rules) c.put_all.ensures.text

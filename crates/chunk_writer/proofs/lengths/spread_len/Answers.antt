use Rattle.std.proofs.Common.{◌-◌, ◌∙◌, arith}
use Rattle.chunk_writer.proofs.Counted.{count_most, spread_by, spread_short}
use Rattle.chunk_writer.proofs.lengths.spread_len.Goals as goal

pub returns-then-len-room-clause-value : goal.returns-then-len-room-clause-value
returns-then-len-room-clause-value c = λ h body e f. spread_short h c.args.size c.args.room body (omega (arith, f, c.if-len-room.true)) ∙ f

pub returns-clause-value : goal.returns-clause-value
returns-clause-value c = λ h body e f. spread_by c.args.header c.args.size c.args.room c.args.len c.div_ceil.result h body e f c.requires.size c.if-len-room.false c.div_ceil.ensures

pub returns-clause-most : goal.returns-clause-most
returns-clause-most c =
    let most = count_most c.args.header (c.args.len - c.args.room) c.args.size c.div_ceil.result c.requires.header c.div_ceil.ensures in
    omega (arith, most, c.requires.len)

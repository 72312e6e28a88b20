use Rattle.chunk_reader.specs.Core.{the_state}
use Rattle.chunk_reader.proofs.Heads.{opens_ok, opens_err}
use Rattle.chunk_reader.proofs.take.head_byte.Goals as goal

pub returns-in-Ok-open-clause-ok : goal.returns-in-Ok-open-clause-ok
returns-in-Ok-open-clause-ok c =
    let o = rw c.in-Some.is at c.in_ok-header.ensures in
    rw (← c.in-Ok.ensures.items) (opens_ok c.args.core.now c.push.new.self.items c.in-Some.opening c.open.new.core c.pass.result c.pass.new.core o c.in-Ok-open.ensures.opened c.in-Ok-open.ensures.less c.pass.ensures.ok)

pub returns-in-Ok-open-clause-err : goal.returns-in-Ok-open-clause-err
returns-in-Ok-open-clause-err c =
    let o = rw c.in-Some.is at c.in_ok-header.ensures in
    rw (← c.in-Ok.ensures.items) (opens_err c.args.core.now.max c.args.core.now.held (the_state c.args.core.now) c.push.new.self.items c.in-Some.opening c.open.new.core c.pass.result o c.in-Ok-open.ensures.opened c.in-Ok-open.ensures.less c.pass.ensures.err)

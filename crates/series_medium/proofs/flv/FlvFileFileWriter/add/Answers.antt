use Rattle.series_medium.proofs.FlvGrown.{flv_adds, flv_opens}
use Rattle.series_medium.proofs.flv.FlvFileFileWriter.add.Goals as goal

pub invariant_of-self : goal.invariant_of-self
invariant_of-self c = flv_opens c.self.inside.items c.add.new.self c.args.item.now c.self.inside.is_open c.in_ok-self-inside.field-0 c.self.invariant c.add.ensures
    c.in_ok-self-inside.ensures.open

pub returns-clause-ok : goal.returns-clause-ok
returns-clause-ok c = rw (← c.self.view_is) (flv_adds c.self.inside.items c.add.new.self c.args.item.now c.self.inside.is_open c.args.out.now c.write_more.new.out
    c.self.invariant c.add.ensures c.in_ok-self-inside.ensures.more)

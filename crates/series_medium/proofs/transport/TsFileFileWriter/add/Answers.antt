use Rattle.std.proofs.Common.{◌≡◌, ◌∙◌, ap, false}
use Rattle.ts_writer.specs.Known.{TsKnown}
use Rattle.series_medium.proofs.TsGrown.{ts_adds, ts_goes}
use Rattle.series_medium.proofs.transport.TsFileFileWriter.add.Goals as goal

pub invariant_of-self : goal.invariant_of-self
invariant_of-self c =
    ts_goes c.self.inside.writer c.item.new.self c.args.item.now c.self.inside.is_open c.is_any.result c.args.out.now c.item.new.out c.self.invariant
    c.in_ok-item.ensures.known c.in_ok-item.ensures.bytes (rw (c.len-before.ensures, c.len.ensures) at c.is_any.ensures)

pub returns-clause-ok : goal.returns-clause-ok
returns-clause-ok c =
    let works : c.item.new.self.broken ≡ false = ap (λ (k : TsKnown). k.broken) c.in_ok-item.ensures.known ∙ c.self.invariant.works in
    rw (← c.self.view_is) (ts_adds c.self.inside.writer c.item.new.self c.args.item.now c.args.out.now c.item.new.out c.held-most.result
    c.in_ok-item.ensures.known c.in_ok-item.ensures.bytes c.in_ok-item.ensures.most (c.held-most.ensures.sum works) c.held-most.ensures.most)

use Rattle.std.proofs.Common.{◌≡◌, ◌+◌, ◌-◌, ◌<◌, length, refl, arith}
use Rattle.std.proofs.lemmas.Option.{slice_get_read}
use Rattle.unit_ring.proofs.Dropping.{item_at}
use Rattle.unit_ring.proofs.window.Window.item.Goals as goal

pub returns : goal.returns
returns c = λ limits is.
    let w = c.args.self.now in
    let long = w.slots.ok.0 in
    let room : c.args.n - w.base < length w.slots.items = omega arith in
    let at : w.base + (c.args.n - w.base) ≡ c.args.n = omega arith in
    let found = slice_get_read w.slots.items (length w.slots.items) (c.args.n - w.base) c.index.result.now refl room c.index.ensures in
    rw at at (item_at limits w (c.args.n - w.base) c.index.result.now is found)

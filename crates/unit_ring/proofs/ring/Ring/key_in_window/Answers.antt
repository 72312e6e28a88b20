use Rattle.std.proofs.Common.{refl, sym, ◌∙◌}
use Rattle.std.proofs.lemmas.Bool.{le-leb, lt-leb}
use Rattle.unit_ring.proofs.Configs.{newest_is}
use Rattle.unit_ring.proofs.ring.Ring.key_in_window.Goals as goal

pub returns-then-key-self : goal.returns-then-key-self
returns-then-key-self c =
    let r = c.self.inside in
    rw (← c.self.view_is) (sym (newest_is r.limits r.window r.newest c.self.invariant.0 c.self.invariant.1 c.self.invariant.2
    ∙ rw (c.if-not-self.false, c.in_ok-key.was, lt-leb r.window.base c.in_ok-key.key c.if-key-self.true) refl))

pub returns : goal.returns
returns c =
    let r = c.self.inside in
    rw (← c.self.view_is) (sym (newest_is r.limits r.window r.newest c.self.invariant.0 c.self.invariant.1 c.self.invariant.2
    ∙ rw (c.if-not-self.false, c.in_ok-key.was, le-leb r.window.base c.in_ok-key.key c.if-key-self.false) refl))

use Rattle.std.proofs.Common.{◌≡◌, ◌≤◌, ap, sym, ◌∙◌, arith, Some, None}
use Rattle.stream_model.specs.Items.{config_at}
use Rattle.stream_model.specs.Slots.{slot_kind}
use Rattle.unit_ring.specs.RingKnown.{RingKnown}
use Rattle.unit_ring.specs.Kept.{kept_of}
use Rattle.unit_ring.proofs.Dropping.{base_is, slots_are}
use Rattle.unit_ring.proofs.Configs.{config_within, kept_number, none_kept, config_unit}
use Rattle.unit_ring.proofs.ring.Ring.config_at.Goals as goal

pub returns-in_err-kept-clause-number : goal.returns-in_err-kept-clause-number
returns-in_err-kept-clause-number c =
    let r = c.self.inside in
    let asked = rw (← c.self.view_is) at c.requires in
    let base = base_is r.limits r.window c.self.invariant.0 c.self.invariant.1 in
    let low : r.window.base ≤ c.args.n = omega arith in
    let number : config_at (slot_kind c.args.slot) r.window.items c.args.n ≡ Some c.in_ok-number.number =
    ap (λ (k : RingKnown). config_at (slot_kind c.args.slot) k.items c.args.n) c.self.view_is ∙ sym c.mark_at.ensures ∙ c.in_ok-number.was in
    let none : kept_of c.args.slot r.window.kept ≡ None = sym (rw c.in_err-kept.was at c.of.ensures) in
    absurd (none_kept c.args.slot r.window.items r.window.base c.args.n c.in_ok-number.number r.window.kept c.self.invariant.0.kept number low c.if-number-self.true none)

pub item-requires : goal.item-requires
item-requires c =
    let r = c.self.inside in
    let asked = rw (← c.self.view_is) at c.requires in
    let number : config_at (slot_kind c.args.slot) r.window.items c.args.n ≡ Some c.in_ok-number.number =
    ap (λ (k : RingKnown). config_at (slot_kind c.args.slot) k.items c.args.n) c.self.view_is ∙ sym c.mark_at.ensures ∙ c.in_ok-number.was in
    let within = config_within (slot_kind c.args.slot) r.window.items c.args.n c.in_ok-number.number number in
    let count = slots_are r.limits r.window c.self.invariant.0 in
    (c.if-number-self.false, omega arith)

pub returns-in_err-unit_of-clause-number : goal.returns-in_err-unit_of-clause-number
returns-in_err-unit_of-clause-number c =
    let r = c.self.inside in
    let number : config_at (slot_kind c.args.slot) r.window.items c.args.n ≡ Some c.in_ok-number.number =
    ap (λ (k : RingKnown). config_at (slot_kind c.args.slot) k.items c.args.n) c.self.view_is ∙ sym c.mark_at.ensures ∙ c.in_ok-number.was in
    let here = c.item.ensures r.limits c.self.invariant.0 in
    absurd (config_unit (slot_kind c.args.slot) r.window.items c.args.n c.in_ok-number.number c.item.result.now number here (rw c.in_err-unit_of.was at c.unit_of.ensures))

pub returns-in_ok-kept-clause-number : goal.returns-in_ok-kept-clause-number
returns-in_ok-kept-clause-number c =
    let r = c.self.inside in
    let asked = rw (← c.self.view_is) at c.requires in
    let base = base_is r.limits r.window c.self.invariant.0 c.self.invariant.1 in
    let low : r.window.base ≤ c.args.n = omega arith in
    let number : config_at (slot_kind c.args.slot) r.window.items c.args.n ≡ Some c.in_ok-number.number =
    ap (λ (k : RingKnown). config_at (slot_kind c.args.slot) k.items c.args.n) c.self.view_is ∙ sym c.mark_at.ensures ∙ c.in_ok-number.was in
    let kept : kept_of c.args.slot r.window.kept ≡ Some c.in_ok-kept.kept.now = sym (rw c.in_ok-kept.was at c.of.ensures) in
    let same = kept_number c.args.slot r.window.items r.window.base c.args.n c.in_ok-number.number r.window.kept c.in_ok-kept.kept.now c.self.invariant.0.kept number low c.if-number-self.true kept in
    rw (same) (sym c.in_ok-number.was ∙ c.mark_at.ensures)

use Rattle.std.proofs.Common.{◌≡◌, ◌∙◌, List, sym, ap, subst, slice_get}
use Rattle.turn_gate.specs.Histories.{Begins, longer}
use Rattle.stream_model.specs.declared.calls.Shape.{Shape}
use Rattle.stream_registry.specs.Gates.{told, told_at, numbers}
use Rattle.stream_registry.specs.Names.{PortRules}
use Rattle.stream_registry.specs.Pasts.{Attempt}
use Rattle.stream_registry.specs.Refusals.{IsFull}
use Rattle.stream_registry.specs.Roots.{gates, seen_at}
use Rattle.stream_registry.specs.SharedState.{limits_at, shared_rules}
use Rattle.stream_registry.specs.Told.{Keeps}
use Rattle.relay_serve.specs.declared.counting.Counts.{Counts}
use Rattle.relay_serve.specs.Lasts.{EndsWith}
use Rattle.relay_serve.proofs.Counted.{begins_all, counted, full_there}
use Rattle.relay_serve.proofs.counting.count_one.Goals as goal

pub returns-in-Err-Worn-clause-last : goal.returns-in-Err-Worn-clause-last
returns-in-Err-Worn-clause-last g c =
    let place = c.args.place in
    let r = c.in-Err-Worn.ensures in
    let limits : c.loop.pass.gate.about.limits ≡ (shared_rules c.args.port.now).limits place =
    limits_at (slice_get (gates c.loop.port.roots) place) c.loop.pass.gate c.loop.invariant.fits ∙ ap (λ (q : PortRules). q.limits place) c.loop.invariant.rules in
    let same : seen_at c.call.new.self.roots place ≡ seen_at c.loop.port.roots place = r.roots.seen place in
    let begins = begins_all (seen_at c.loop.port.roots place) c.loop.pass.seen c.call.new.pass.seen c.loop.invariant.attempts r.attempts in
    full_there ((shared_rules c.args.port.now).limits place) (seen_at c.call.new.self.roots place) c.call.new.pass.seen (seen_at c.detach-in-Err-Worn.new.self.roots place)
    (subst (λ (h : List Attempt). Begins h c.call.new.pass.seen) (sym same) begins)
    (subst (λ (l : Shape). IsFull l c.call.new.pass.seen) limits (rw c.in-Err-Worn.field-0-is at r.refused).1)
    c.detach-in-Err-Worn.ensures.attempts

pub returns-in-Ok-Counts-clause-last : goal.returns-in-Ok-Counts-clause-last
returns-in-Ok-Counts-clause-last g c =
    let place = c.args.place in
    let r = c.in-Ok-Counts.ensures in
    let counts : Counts = record { began = c.in-Ok-Counts.began; pushed = c.in-Ok-Counts.pushed; ended = c.in-Ok-Counts.ended; joined = c.in-Ok-Counts.joined; skips = c.in-Ok-Counts.skips } in
    let limits : c.loop.pass.gate.about.limits ≡ (shared_rules c.args.port.now).limits place =
    limits_at (slice_get (gates c.loop.port.roots) place) c.loop.pass.gate c.loop.invariant.fits ∙ ap (λ (q : PortRules). q.limits place) c.loop.invariant.rules in
    let knows : told_at c.detach.new.self.roots place ≡ longer (told_at c.loop.port.roots place) (told c.call.new.pass.seen) =
    c.detach.ensures.here ∙ ap (λ a. longer (told a) (told c.call.new.pass.seen)) (r.roots.seen place) in
    subst (λ (l : Shape). EndsWith l counts (told_at c.detach.new.self.roots place)) limits
    (counted c.loop.pass.gate.about.limits (told_at c.loop.port.roots place) (told c.loop.pass.seen) (numbers c.loop.pass.seen c.loop.pass.mine) counts
    (told c.call.new.pass.seen) (numbers c.call.new.pass.seen c.call.new.pass.mine) (told_at c.detach.new.self.roots place)
    (rw c.in-Ok-Counts.field-0-is at r.reply)
    (subst (λ (l : Shape). Keeps l (told c.call.new.pass.seen)) r.pass.1 r.laws) knows)

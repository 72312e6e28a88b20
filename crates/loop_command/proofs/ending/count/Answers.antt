use Rattle.std.proofs.Common.{◌∙◌, ap, refl}
use Rattle.stream_registry.specs.Names.{PortRules}
use Rattle.loop_command.proofs.Sessions.{count_ahead, count_keeps, has_counted}
use Rattle.std.proofs.Common.{◌≡◌, arith}
use Rattle.stream_registry.specs.Books.{sole_rules}
use Rattle.stream_registry.specs.Names.{places}
use Rattle.loop_command.proofs.ending.count.Goals as goal

pub returns-in-Ok-clause-keeps : goal.returns-in-Ok-clause-keeps
returns-in-Ok-clause-keeps c =
    let a = c.attach-pass in
    let t = c.call in
    let e = c.in-Ok.ensures in
    count_keeps _ _ _ _ _ _ _ _ _ e.reply e.adds t.ensures.pass.0.seen e.laws (t.ensures.pass.1 ∙ a.ensures.pass.1
    ∙ ap (λ (r : PortRules). r.limits 0) c.requires.rules)

pub returns-in-Ok-clause-counted : goal.returns-in-Ok-clause-counted
returns-in-Ok-clause-counted c =
    let e = c.in-Ok.ensures in
    has_counted c.args.port.now c.attach-pass.new.self c.call.new.self _ _ e.adds (c.attach-pass.ensures.root 0) refl

pub returns-in-Ok-clause-ahead : goal.returns-in-Ok-clause-ahead
returns-in-Ok-clause-ahead c =
    let a = c.attach-pass in
    let t = c.call in
    count_ahead c.args.port.now a.new.self t.new.self a.ensures.fixed.0 a.ensures.root a.ensures.fits t.ensures.fixed t.ensures.here t.ensures.others
    t.ensures.fits

pub returns-clause-ahead : goal.returns-clause-ahead
returns-clause-ahead c =
    let a = c.attach-pass in
    let t = c.call in
    count_ahead c.args.port.now a.new.self t.new.self a.ensures.fixed.0 a.ensures.root a.ensures.fits t.ensures.fixed t.ensures.here t.ensures.others
    t.ensures.fits

pub attach-pass-requires : goal.attach-pass-requires
attach-pass-requires c = let e : places (sole_rules c.args.port.now.rules) ≡ 1 = ap places c.requires.rules in omega (arith, e)

pub call-requires : goal.call-requires
call-requires c = c.attach-pass.ensures.pass.0

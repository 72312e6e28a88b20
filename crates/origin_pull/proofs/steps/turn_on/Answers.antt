use Rattle.std.proofs.Common.{◌≡◌, sym, ap, ◌∙◌, subst, rules, Some, None}
use Rattle.relay_session.specs.Places.{AskedAlone}
use Rattle.origin_pull.specs.Causes.{Did}
use Rattle.stream_registry.specs.Names.{places}
use Rattle.origin_pull.specs.EdgeState.{Lasting, lasting_of}
use Rattle.origin_pull.specs.Keeping.{IsSound}
use Rattle.origin_pull.specs.Turns.{ClientTurns, Pulls}
use Rattle.origin_pull.specs.declared.core_fields.Core.{Core}
use Rattle.origin_pull.proofs.Calling.{called_leaves, called_turn, free_of, may_waits, on_here, same_free, turn_pulled}
use Rattle.origin_pull.proofs.Owing.{free_waits}
use Rattle.origin_pull.proofs.Staying.{same_at}
use Rattle.origin_pull.proofs.steps.turn_on.Goals as goal

pub returns-in-Some-clause-sound : goal.returns-in-Some-clause-sound
returns-in-Some-clause-sound g c =
    let P = g.P.StreamPort in
    let b = c.args.body.now in
    let n = c.next_call in
    let m = c.make in
    let r = called_leaves P.fits P.rules P.root P.seen P.count P.wants P.busies
    (AskedAlone P.fits P.rules P.root P.seen P.count P.wants P.busies P.adds P.kin P.branches) (λ p s place e r q t a. a.asked) b.core n.new.core m.new.body.core b.client m.new.body.client
    c.args.port.now m.new.port b.seat m.new.body.seat n.result c.in-Some.entry m.result (search rules) n.ensures.order n.ensures.rest c.requires.sound
    m.ensures.called in
    r.sound

pub returns-in-Some-clause-did : goal.returns-in-Some-clause-did
returns-in-Some-clause-did g c =
    let P = g.P.StreamPort in
    let b = c.args.body.now in
    let n = c.next_call in
    let m = c.make in
    let r = called_leaves P.fits P.rules P.root P.seen P.count P.wants P.busies
    (AskedAlone P.fits P.rules P.root P.seen P.count P.wants P.busies P.adds P.kin P.branches) (λ p s place e r q t a. a.asked) b.core n.new.core m.new.body.core b.client m.new.body.client
    c.args.port.now m.new.port b.seat m.new.body.seat n.result c.in-Some.entry m.result (search rules) n.ensures.order n.ensures.rest c.requires.sound
    m.ensures.called in
    r.did

pub returns-in-Some-clause-lasts : goal.returns-in-Some-clause-lasts
returns-in-Some-clause-lasts g c =
    let P = g.P.StreamPort in
    let b = c.args.body.now in
    let n = c.next_call in
    let m = c.make in
    let r = called_leaves P.fits P.rules P.root P.seen P.count P.wants P.busies
    (AskedAlone P.fits P.rules P.root P.seen P.count P.wants P.busies P.adds P.kin P.branches) (λ p s place e r q t a. a.asked) b.core n.new.core m.new.body.core b.client m.new.body.client
    c.args.port.now m.new.port b.seat m.new.body.seat n.result c.in-Some.entry m.result (search rules) n.ensures.order n.ensures.rest c.requires.sound
    m.ensures.called in
    r.lasts

pub returns-in-Some-clause-goes_on : goal.returns-in-Some-clause-goes_on
returns-in-Some-clause-goes_on g c =
    let P = g.P.StreamPort in
    let b = c.args.body.now in
    let n = c.next_call in
    let m = c.make in
    let r = called_leaves P.fits P.rules P.root P.seen P.count P.wants P.busies
    (AskedAlone P.fits P.rules P.root P.seen P.count P.wants P.busies P.adds P.kin P.branches) (λ p s place e r q t a. a.asked) b.core n.new.core m.new.body.core b.client m.new.body.client
    c.args.port.now m.new.port b.seat m.new.body.seat n.result c.in-Some.entry m.result (search rules) n.ensures.order n.ensures.rest c.requires.sound
    m.ensures.called in
    r.on

pub returns-in-Some-clause-may_be : goal.returns-in-Some-clause-may_be
returns-in-Some-clause-may_be g c =
    let P = g.P.StreamPort in
    let b = c.args.body.now in
    let n = c.next_call in
    let m = c.make in
    let L = g.L.Link in
    let r = called_leaves P.fits P.rules P.root P.seen P.count P.wants P.busies
    (AskedAlone P.fits P.rules P.root P.seen P.count P.wants P.busies P.adds P.kin P.branches) (λ p s place e r q t a. a.asked) b.core n.new.core m.new.body.core b.client m.new.body.client
    c.args.port.now m.new.port b.seat m.new.body.seat n.result c.in-Some.entry m.result (search rules) n.ensures.order n.ensures.rest c.requires.sound
    m.ensures.called in
    r.may (L.counts c.args.link.now) (L.counts c.args.link.now)

pub returns-in-Some-clause-turn : goal.returns-in-Some-clause-turn
returns-in-Some-clause-turn g c =
    let P = g.P.StreamPort in
    let b = c.args.body.now in
    let n = c.next_call in
    let m = c.make in
    let L = g.L.Link in
    called_turn P.fits P.rules P.root P.seen P.count P.wants P.busies
    (AskedAlone P.fits P.rules P.root P.seen P.count P.wants P.busies P.adds P.kin P.branches) (λ p s place e r q t a. a.asked) (ClientTurns L.hears L.says) b.core n.new.core m.new.body.core b.client
    m.new.body.client c.args.port.now m.new.port b.seat m.new.body.seat c.args.link.now n.result c.in-Some.entry m.result (search rules)
    n.ensures.order n.ensures.rest m.ensures.called

pub returns-in-None-clause-turn : goal.returns-in-None-clause-turn
returns-in-None-clause-turn g c =
    let P = g.P.StreamPort in
    let L = g.L.Link in
    let b = c.args.body.now in
    let n = c.next_call in
    let p = c.pull in
    let free = free_of b.core n.new.core n.result (search rules) n.ensures.order n.ensures.rest (n.ensures.none (search rules)) in
    let same : n.new.core ≡ b.core = same_free b.core n.new.core n.ensures.rest (n.ensures.none (search rules)) free in
    turn_pulled (AskedAlone P.fits P.rules P.root P.seen P.count P.wants P.busies P.adds P.kin P.branches) (ClientTurns L.hears L.says) b.core p.new.core b.client p.new.client
    c.args.port.now b.seat c.args.link.now p.new.link p.result (free_waits b.core free)
    (subst (λ (x : Core). Pulls (ClientTurns L.hears L.says) x b.client c.args.link.now p.result p.new.core p.new.client p.new.link) same p.ensures.pulls)

pub returns-in-None-clause-did : goal.returns-in-None-clause-did
returns-in-None-clause-did g c =
    let b = c.args.body.now in
    let n = c.next_call in
    let p = c.pull in
    let free = free_of b.core n.new.core n.result (search rules) n.ensures.order n.ensures.rest (n.ensures.none (search rules)) in
    let same : n.new.core ≡ b.core = same_free b.core n.new.core n.ensures.rest (n.ensures.none (search rules)) free in
    subst (λ (x : Core). Did p.result x b.client p.new.core p.new.client) same p.ensures.did

pub returns-in-None-clause-lasts : goal.returns-in-None-clause-lasts
returns-in-None-clause-lasts g c =
    let b = c.args.body.now in
    let n = c.next_call in
    let p = c.pull in
    let free = free_of b.core n.new.core n.result (search rules) n.ensures.order n.ensures.rest (n.ensures.none (search rules)) in
    let same : n.new.core ≡ b.core = same_free b.core n.new.core n.ensures.rest (n.ensures.none (search rules)) free in
    p.ensures.lasts ∙ ap (λ (x : Core). lasting_of x b.client) same

pub returns-in-None-clause-may_be : goal.returns-in-None-clause-may_be
returns-in-None-clause-may_be g c =
    let P = g.P.StreamPort in
    let L = g.L.Link in
    let p = c.pull in
    may_waits p.result (P.busies c.args.port.now) (P.busies c.args.port.now) (L.counts c.args.link.now) (L.counts p.new.link) p.ensures.may_wait

pub returns-in-None-clause-goes_on : goal.returns-in-None-clause-goes_on
returns-in-None-clause-goes_on g c = let P = g.P.StreamPort in
    on_here P.fits P.rules P.root P.seen P.busies c.args.port.now c.args.body.now.seat

pub returns-in-None-clause-at : goal.returns-in-None-clause-at
returns-in-None-clause-at g c =
    let P = g.P.StreamPort in
    let b = c.args.body.now in
    let n = c.next_call in
    let p = c.pull in
    same_at (P.fits c.args.port.now) (places (P.rules c.args.port.now)) b.core p.new.core b.seat (ap (λ (x : Lasting). x.place) p.ensures.lasts
    ∙ ap (λ (x : Core). x.place) n.ensures.rest)
    (p.ensures.calls ∙ ap (λ (x : Core). x.calls) n.ensures.rest) c.requires.at

pub make-requires-clause-at : goal.make-requires-clause-at
make-requires-clause-at g c =
    let P = g.P.StreamPort in
    let b = c.args.body.now in
    let n = c.next_call in
    same_at (P.fits c.args.port.now) (places (P.rules c.args.port.now)) b.core n.new.core b.seat (ap (λ (x : Core). x.place) n.ensures.rest)
    (ap (λ (x : Core). x.calls) n.ensures.rest) c.requires.at

pub pull-requires-clause-sound : goal.pull-requires-clause-sound
pull-requires-clause-sound g c =
    let b = c.args.body.now in
    let n = c.next_call in
    let free = free_of b.core n.new.core n.result (search rules) n.ensures.order n.ensures.rest (n.ensures.none (search rules)) in
    let same : n.new.core ≡ b.core = same_free b.core n.new.core n.ensures.rest (n.ensures.none (search rules)) free in
    subst (λ (x : Core). IsSound x b.client) (sym same) c.requires.sound

pub pull-requires-clause-nothing : goal.pull-requires-clause-nothing
pull-requires-clause-nothing g c =
    let n = c.next_call in
    (ap (λ (x : Core). x.kept) n.ensures.rest, n.ensures.none (search rules))

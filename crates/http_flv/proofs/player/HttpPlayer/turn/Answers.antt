use Rattle.std.proofs.Common.{◌≡◌, ap, refl, subst}
use Rattle.relay_session.specs.Onward.{GoesOn}
use Rattle.relay_session.specs.Places.{AskedAlone}
use Rattle.relay_session.specs.SeatState.{SeatState}
use Rattle.http_flv.specs.Causes.{Did}
use Rattle.http_flv.specs.PlayerState.{PlayerState, lasting_of, life_at}
use Rattle.http_flv.specs.Turns.{life}
use Rattle.http_flv.proofs.Causing.{did_kept, may_kept}
use Rattle.http_flv.proofs.Lasting.{kept_same}
use Rattle.http_flv.proofs.Onwards.{on_kept}
use Rattle.http_flv.proofs.Sounding.{kept_no_take, living_sound}
use Rattle.http_flv.proofs.player.HttpPlayer.turn.Goals as goal

pub returns-in-None-clause-goes_on : goal.returns-in-None-clause-goes_on
returns-in-None-clause-goes_on g c =
    let P = g.P.StreamPort in
    let L = g.L.Link in
    let b = c.self.inside.body in
    let k = c.kept_on-answer in
    let t = on_kept P.fits P.rules P.root P.seen P.count P.wants P.busies
    (AskedAlone P.fits P.rules P.root P.seen P.count P.wants P.busies P.adds P.kin P.branches) (λ p s place e r q t a. a.asked) (g.D.Desk.grants c.args.desk.now) L.hears L.says b.core.kept (life b.core c.args.port.now b.seat) c.args.link.now k.result (life k.new.body.core k.new.port k.new.body.seat) k.new.link k.ensures.turn in
    subst (λ (s : SeatState g.row.P-Pass.Denot). GoesOn P.fits P.rules P.root P.seen P.busies c.args.port.now s k.new.port k.new.body.seat) (ap (λ (s : PlayerState g.row.P-Pass.Denot). s.seat) c.self.view_is) t

pub returns-in-None-clause-did : goal.returns-in-None-clause-did
returns-in-None-clause-did g c =
    let P = g.P.StreamPort in
    let L = g.L.Link in
    let i = c.self.inside in
    let b = i.body in
    let k = c.kept_on-answer in
    let w = life k.new.body.core k.new.port k.new.body.seat in
    let s = living_sound i.ended b.core c.in-None.is c.self.invariant in
    let d = did_kept (AskedAlone P.fits P.rules P.root P.seen P.count P.wants P.busies P.adds P.kin P.branches) (g.D.Desk.grants c.args.desk.now) L.hears L.told L.counts g.met.L.Link.hears_mean L.says g.met.L.Link.says_mean b.core.kept (life b.core c.args.port.now b.seat) c.args.link.now k.result w k.new.link
    refl (kept_no_take b.core s) k.ensures.turn in
    subst (λ (x : PlayerState g.row.P-Pass.Denot). Did k.result (life_at x c.args.port.now) w) c.self.view_is d

pub returns-in-None-clause-may_be : goal.returns-in-None-clause-may_be
returns-in-None-clause-may_be g c =
    let P = g.P.StreamPort in
    let L = g.L.Link in
    let b = c.self.inside.body in
    let k = c.kept_on-answer in
    may_kept (AskedAlone P.fits P.rules P.root P.seen P.count P.wants P.busies P.adds P.kin P.branches) (g.D.Desk.grants c.args.desk.now) L.hears L.told L.counts g.met.L.Link.hears_mean L.says g.met.L.Link.says_mean P.busies (λ p s place e f q t a. a.asked.fails) b.core.kept
    (life b.core c.args.port.now b.seat) c.args.link.now k.result (life k.new.body.core k.new.port k.new.body.seat) k.new.link k.ensures.turn

pub returns-in-None-clause-lasts : goal.returns-in-None-clause-lasts
returns-in-None-clause-lasts g c =
    let P = g.P.StreamPort in
    let L = g.L.Link in
    let b = c.self.inside.body in
    let k = c.kept_on-answer in
    let t = kept_same (AskedAlone P.fits P.rules P.root P.seen P.count P.wants P.busies P.adds P.kin P.branches) (g.D.Desk.grants c.args.desk.now) L.hears L.says b.core.kept (life b.core c.args.port.now b.seat) c.args.link.now k.result (life k.new.body.core k.new.port k.new.body.seat) k.new.link k.ensures.turn in
    subst (λ (s : PlayerState g.row.P-Pass.Denot). lasting_of k.new.body.core ≡ lasting_of s.parts) c.self.view_is t

use Rattle.std.proofs.Common.{◌≡◌, Option, ap, refl, subst, sym}
use Rattle.relay_session.specs.Onward.{GoesOn}
use Rattle.relay_session.specs.SeatState.{SeatState, place_of}
use Rattle.relay_session.specs.SessionState.{Publishes, Rises, SessionState, StandsFor, ended_by, lasting_of, life_at}
use Rattle.relay_session.specs.Turns.{life}
use Rattle.relay_session.proofs.Onwards.{on_kept}
use Rattle.relay_session.proofs.Acting.{keeps_noted}
use Rattle.relay_session.proofs.ActingTurns.{turn_acts}
use Rattle.relay_session.proofs.Causing.{did_kept, may_kept}
use Rattle.relay_session.proofs.Coming.{kept_come}
use Rattle.relay_session.proofs.Lasting.{kept_same}
use Rattle.relay_session.specs.Coming.{HasCome}
use Rattle.relay_session.proofs.Whole.{leaves_by, living_by, published_by, risen_by, sound_if, stood_if}
use Rattle.relay_session.specs.Acting.{ActsBy}
use Rattle.relay_session.specs.Causes.{Did}
use Rattle.relay_session.specs.declared.end.End.{End}
use Rattle.relay_session.specs.Places.{AskedAlone}
use Rattle.relay_session.proofs.session.Session.turn.Goals as goal

pub returns-in-None-clause-goes_on : goal.returns-in-None-clause-goes_on
returns-in-None-clause-goes_on g c =
    let P = g.P.StreamPort in
    let L = g.L.Link in
    let b = c.self.inside.body in
    let k = c.kept_on-answer in
    let t = on_kept P.fits P.rules P.root P.seen P.count P.wants P.busies P.adds P.kin P.branches (g.D.Desk.grants c.args.desk.now) L.hears L.says b.core.kept c.self.inside.quit (life b.core b.input c.args.port.now b.seat) c.args.link.now k.result
    (life k.new.body.core k.new.body.input k.new.port k.new.body.seat) k.new.link k.ensures.turn in
    subst (λ (s : SeatState g.row.P-Pass.Denot). GoesOn P.fits P.rules P.root P.seen P.busies c.args.port.now s k.new.port k.new.body.seat) (ap (λ (s : SessionState g.row.P-Pass.Denot). s.seat) c.self.view_is) t

pub returns-in-Some-clause-units : goal.returns-in-Some-clause-units
returns-in-Some-clause-units g c = λ st. (
    let desk = g.D.Desk.grants c.args.desk.now in
    let i = c.self.inside in
    let was = subst (λ (s : SessionState g.row.P-Pass.Denot). StandsFor desk s) (sym c.self.view_is) st in
    subst (λ (s : SessionState g.row.P-Pass.Denot). Publishes desk s.parts) c.self.view_is (published_by i.ended desk i.body.core c.self.invariant was))

pub returns-in-None-clause-units : goal.returns-in-None-clause-units
returns-in-None-clause-units g c = λ st. (
    let desk = g.D.Desk.grants c.args.desk.now in
    let i = c.self.inside in
    let k = c.kept_on-answer in
    let was = subst (λ (s : SessionState g.row.P-Pass.Denot). StandsFor desk s) (sym c.self.view_is) st in
    let now = leaves_by desk k.result (ended_by k.result) k.new.body.core refl (k.ensures.stands (stood_if desk i.ended i.body.core c.in-None.is was)) in
    published_by (ended_by k.result) desk k.new.body.core (living_by k.result (ended_by k.result) k.new.body.core refl k.ensures.sound) now)

pub returns-in-Some-clause-rises : goal.returns-in-Some-clause-rises
returns-in-Some-clause-rises g c = λ st. (
    let desk = g.D.Desk.grants c.args.desk.now in
    let i = c.self.inside in
    let was = subst (λ (s : SessionState g.row.P-Pass.Denot). StandsFor desk s) (sym c.self.view_is) st in
    subst (λ (s : SessionState g.row.P-Pass.Denot). Rises desk s.parts) c.self.view_is (risen_by i.ended desk i.body.core c.self.invariant was))

pub returns-in-None-clause-rises : goal.returns-in-None-clause-rises
returns-in-None-clause-rises g c = λ st. (
    let desk = g.D.Desk.grants c.args.desk.now in
    let i = c.self.inside in
    let k = c.kept_on-answer in
    let was = subst (λ (s : SessionState g.row.P-Pass.Denot). StandsFor desk s) (sym c.self.view_is) st in
    let now = leaves_by desk k.result (ended_by k.result) k.new.body.core refl (k.ensures.stands (stood_if desk i.ended i.body.core c.in-None.is was)) in
    risen_by (ended_by k.result) desk k.new.body.core (living_by k.result (ended_by k.result) k.new.body.core refl k.ensures.sound) now)

pub returns-in-None-clause-did : goal.returns-in-None-clause-did
returns-in-None-clause-did g c =
    let P = g.P.StreamPort in
    let L = g.L.Link in
    let i = c.self.inside in
    let b = i.body in
    let k = c.kept_on-answer in
    let w = life k.new.body.core k.new.body.input k.new.port k.new.body.seat in
    let l = sound_if i.ended b.core c.in-None.is c.self.invariant in
    let d = did_kept (AskedAlone P.fits P.rules P.root P.seen P.count P.wants P.busies P.adds P.kin P.branches) (g.D.Desk.grants c.args.desk.now) L.hears L.told L.counts g.met.L.Link.hears_mean L.says g.met.L.Link.says_mean b.core.kept i.quit (life b.core b.input c.args.port.now b.seat)
    c.args.link.now k.result w k.new.link l.sound.acts k.ensures.turn in
    subst (λ (s : SessionState g.row.P-Pass.Denot). Did k.result (life_at s c.args.port.now) w) c.self.view_is d

pub returns-in-None-clause-may_be : goal.returns-in-None-clause-may_be
returns-in-None-clause-may_be g c =
    let P = g.P.StreamPort in
    let L = g.L.Link in
    let i = c.self.inside in
    let b = i.body in
    let k = c.kept_on-answer in
    let w = life k.new.body.core k.new.body.input k.new.port k.new.body.seat in
    let l = sound_if i.ended b.core c.in-None.is c.self.invariant in
    may_kept (AskedAlone P.fits P.rules P.root P.seen P.count P.wants P.busies P.adds P.kin P.branches) (g.D.Desk.grants c.args.desk.now) L.hears L.told L.counts g.met.L.Link.hears_mean L.says g.met.L.Link.says_mean P.busies (λ p s place e f q t a. a.asked.fails) b.core.kept i.quit
    (life b.core b.input c.args.port.now b.seat) c.args.link.now k.result w k.new.link l.sound.others k.ensures.turn

pub returns-in-None-clause-lasts : goal.returns-in-None-clause-lasts
returns-in-None-clause-lasts g c =
    let P = g.P.StreamPort in
    let L = g.L.Link in
    let b = c.self.inside.body in
    let k = c.kept_on-answer in
    let t = kept_same (AskedAlone P.fits P.rules P.root P.seen P.count P.wants P.busies P.adds P.kin P.branches) (g.D.Desk.grants c.args.desk.now) L.hears L.says b.core.kept c.self.inside.quit (life b.core b.input c.args.port.now b.seat) c.args.link.now k.result
    (life k.new.body.core k.new.body.input k.new.port k.new.body.seat) k.new.link k.ensures.turn in
    subst (λ (s : SessionState g.row.P-Pass.Denot). lasting_of k.new.body.core ≡ lasting_of s.parts) c.self.view_is t

pub returns-in-None-clause-waits : goal.returns-in-None-clause-waits
returns-in-None-clause-waits g c =
    let P = g.P.StreamPort in
    let L = g.L.Link in
    let b = c.self.inside.body in
    let k = c.kept_on-answer in
    let t = kept_come (AskedAlone P.fits P.rules P.root P.seen P.count P.wants P.busies P.adds P.kin P.branches) (λ (s : SeatState g.row.P-Pass.Denot). place_of s.spot) (λ p s place e came q t a. a.asked.spot) (g.D.Desk.grants c.args.desk.now) L.hears L.says
    b.core.kept c.self.inside.quit (life b.core b.input c.args.port.now b.seat) c.args.link.now k.result (life k.new.body.core k.new.body.input k.new.port k.new.body.seat) k.new.link k.ensures.turn in
    subst (λ (s : SessionState g.row.P-Pass.Denot). HasCome s.parts s.seat → HasCome k.new.body.core k.new.body.seat) c.self.view_is t

pub returns-in-None-clause-acts : goal.returns-in-None-clause-acts
returns-in-None-clause-acts g c = λ st h. (
    let P = g.P.StreamPort in
    let L = g.L.Link in
    let desk = g.D.Desk.grants c.args.desk.now in
    let i = c.self.inside in
    let b = i.body in
    let k = c.kept_on-answer in
    let was = subst (λ (s : SessionState g.row.P-Pass.Denot). StandsFor desk s) (sym c.self.view_is) st in
    let acts = subst (λ (o : Option End). ActsBy o b.core b.seat) c.in-None.is (subst (λ (s : SessionState g.row.P-Pass.Denot). ActsBy s.ended s.parts s.seat) (sym c.self.view_is) h) in
    subst (λ (o : Option End). ActsBy o k.new.body.core k.new.body.seat) (sym c.end_in-self-inside.ensures)
    (turn_acts (AskedAlone P.fits P.rules P.root P.seen P.count P.wants P.busies P.adds P.kin P.branches)
    (λ p s place e came q t a. record { spot = a.asked.spot; active = a.asked.active; makes = a.asked.makes; steady = keeps_noted _ _ _ e came _ a.asked.noted }) desk L.hears L.says i.quit
    (life b.core b.input c.args.port.now b.seat) c.args.link.now k.result (life k.new.body.core k.new.body.input k.new.port k.new.body.seat) k.new.link k.ensures.turn (stood_if desk i.ended b.core c.in-None.is was) acts))

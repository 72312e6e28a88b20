use Rattle.std.proofs.Common.{◌≡◌, rules, refl, ap, subst, Option, Some, Ok, Err}
use Rattle.stream_model.specs.declared.calls.Entry.{Entry}
use Rattle.relay_session.specs.Keeping.{StandsBefore}
use Rattle.relay_session.specs.Places.{AskedAlone}
use Rattle.relay_session.specs.Turns.{life}
use Rattle.relay_session.specs.declared.turn.Turn.TheVariants.{Ended, Idle}
use Rattle.relay_session.proofs.Rounds.{kept_busy, kept_failed, kept_made, kept_none}
use Rattle.relay_session.proofs.six_steps.kept_on.Goals as goal

pub returns-in-None-clause-turn : goal.returns-in-None-clause-turn
returns-in-None-clause-turn g c =
    let P = g.P.StreamPort in
    let L = g.L.Link in
    let b = c.args.body.now in
    kept_none (AskedAlone P.fits P.rules P.root P.seen P.count P.wants P.busies P.adds P.kin P.branches) (g.D.Desk.grants c.args.desk.now) L.hears L.says c.args.quit (life b.core b.input c.args.port.now b.seat) (life c.quit_on.new.body.core c.quit_on.new.body.input c.quit_on.new.port c.quit_on.new.body.seat) c.args.link.now c.quit_on.new.link c.take.new.self c.quit_on.result (search rules) (search rules) c.quit_on.ensures.turn

pub returns-in-Ok-true-clause-turn : goal.returns-in-Ok-true-clause-turn
returns-in-Ok-true-clause-turn g c =
    let P = g.P.StreamPort in
    let L = g.L.Link in
    let b = c.args.body.now in
    let m = c.make.new in
    let r = c.in-Ok-true.field-0 in
    kept_made (AskedAlone P.fits P.rules P.root P.seen P.count P.wants P.busies P.adds P.kin P.branches) (g.D.Desk.grants c.args.desk.now) L.hears L.says c.args.quit (life b.core b.input c.args.port.now b.seat) (life m.body.core m.body.input m.port m.body.seat) (life c.quit_on-in-Ok-true.new.body.core c.quit_on-in-Ok-true.new.body.input c.quit_on-in-Ok-true.new.port c.quit_on-in-Ok-true.new.body.seat) c.args.link.now c.quit_on-in-Ok-true.new.link c.in-Some.entry (Ok r) c.quit_on-in-Ok-true.result (search rules)
    c.in-Ok-true.ensures.tried (ap Ok c.in-Ok-true.field-0-test) c.quit_on-in-Ok-true.ensures.turn

pub returns-in-Ok-false-clause-stands : goal.returns-in-Ok-false-clause-stands
returns-in-Ok-false-clause-stands g c = λ st. (
    let desk = g.D.Desk.grants c.args.desk.now in
    let b = c.args.body.now.core in
    let is : b.kept ≡ Some c.in-Some.entry = search rules in
    c.in-Ok-false.ensures.stands desk (subst (λ (k : Option Entry). StandsBefore desk (record b { kept = k })) is st))

pub returns-in-Ok-false-clause-turn : goal.returns-in-Ok-false-clause-turn
returns-in-Ok-false-clause-turn g c =
    let P = g.P.StreamPort in
    let L = g.L.Link in
    let b = c.args.body.now in
    let m = c.make.new in
    let r = c.in-Ok-false.field-0 in
    kept_busy (AskedAlone P.fits P.rules P.root P.seen P.count P.wants P.busies P.adds P.kin P.branches) (g.D.Desk.grants c.args.desk.now) L.hears L.says c.args.quit (life b.core b.input c.args.port.now b.seat) (life m.body.core m.body.input m.port m.body.seat) c.args.link.now c.in-Some.entry (Ok r) Idle (search rules) c.in-Ok-false.ensures.tried (ap Ok c.in-Ok-false.field-0-test) refl

pub returns-in-Err-clause-turn : goal.returns-in-Err-clause-turn
returns-in-Err-clause-turn g c =
    let P = g.P.StreamPort in
    let L = g.L.Link in
    let b = c.args.body.now in
    let m = c.make.new in
    kept_failed (AskedAlone P.fits P.rules P.root P.seen P.count P.wants P.busies P.adds P.kin P.branches) (g.D.Desk.grants c.args.desk.now) L.hears L.says c.args.quit (life b.core b.input c.args.port.now b.seat) (life m.body.core m.body.input m.port m.body.seat) c.args.link.now c.in-Some.entry (Err c.in-Err.end) c.in-Err.end (Ended c.in-Err.end) (search rules) c.in-Err.ensures.tried refl refl

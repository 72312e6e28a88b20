use Rattle.std.proofs.Common.{◌≡◌, ◌∙◌, ap, subst, sym}
use Rattle.stream_model.specs.declared.calls.Entry.{Entry}
use Rattle.relay_session.specs.Places.{AskedAlone}
use Rattle.http_flv.specs.Keeping.{IsOver, waiting}
use Rattle.http_flv.specs.Turns.{IsJoined, gone_of, life, unheard}
use Rattle.http_flv.specs.declared.core_fields.Core.{Core}
use Rattle.http_flv.proofs.Rounds.{tried_heard, tried_unheard}
use Rattle.http_flv.proofs.Standing.{over_same}
use Rattle.http_flv.proofs.calls.make.Goals as goal

pub returns-in-Ok-clause-tried : goal.returns-in-Ok-clause-tried
returns-in-Ok-clause-tried g c =
    let P = g.P.StreamPort in
    let b = c.args.body.now in
    let e = c.in-Answer.ensures in
    tried_heard (AskedAlone P.fits P.rules P.root P.seen P.count P.wants P.busies P.adds P.kin P.branches) (life (waiting b.core c.args.entry) c.args.port.now b.seat) (life c.hear_join.new.core c.make.new.port c.make.new.self) c.in-Joining.place c.args.entry c.in-Answer.reply
    c.in-Joining.is
    (record {
      asked = record { spot = e.spot; active = e.active; makes = e.makes; calls = e.calls; noted = e.noted; fails = e.fails; tries = e.tries; knows = e.knows; stands = e.stands; roots = e.roots; others = e.others; fixed = e.fixed; later = e.busies; passes = e.passes };
      fit = e.fit;
      grows = e.adds;
      splits = e.splits;
    })
    (subst (λ (x : Entry). IsJoined c.in-Joining.place (waiting b.core x) x c.in-Answer.reply c.hear_join.new.core) c.of-asked.ensures c.in-Ok.ensures.joined)

pub returns-in-Answer-clause-tried : goal.returns-in-Answer-clause-tried
returns-in-Answer-clause-tried g c =
    let P = g.P.StreamPort in
    let b = c.args.body.now in
    let e = c.in-Answer.ensures in
    tried_unheard (AskedAlone P.fits P.rules P.root P.seen P.count P.wants P.busies P.adds P.kin P.branches) (life (waiting b.core c.args.entry) c.args.port.now b.seat) (life c.hear_join.new.core c.make.new.port c.make.new.self) c.in-Joining.place c.args.entry c.in-Answer.reply
    c.in-Joining.is
    (record {
      asked = record { spot = e.spot; active = e.active; makes = e.makes; calls = e.calls; noted = e.noted; fails = e.fails; tries = e.tries; knows = e.knows; stands = e.stands; roots = e.roots; others = e.others; fixed = e.fixed; later = e.busies; passes = e.passes };
      fit = e.fit;
      grows = e.adds;
      splits = e.splits;
    })
    (ap gone_of (subst (λ (x : Entry). c.hear_join.new.core ≡ unheard b.core x c.in-Answer.reply) c.of-asked.ensures c.in-Err.ensures.failed))

pub returns-in-Worn-clause-stands : goal.returns-in-Worn-clause-stands
returns-in-Worn-clause-stands g c = λ desk st. (
    let b = c.args.body.now in
    subst (λ (d : Core). IsOver desk d) (sym (c.keep-in-Worn.ensures ∙ ap (waiting b.core) c.in-Worn.ensures.makes.0)) (over_same desk (waiting b.core c.args.entry) st))

pub returns-clause-stands : goal.returns-clause-stands
returns-clause-stands g c = λ desk st. (
    let b = c.args.body.now in
    subst (λ (d : Core). IsOver desk d) (sym (c.keep-in-OutOfMemory.ensures ∙ ap (waiting b.core) c.in-OutOfMemory.ensures.makes.0)) (over_same desk (waiting b.core c.args.entry) st))

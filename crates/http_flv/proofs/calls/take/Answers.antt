use Rattle.std.proofs.Common.{◌≡◌, ◌∙◌, ap, refl, subst, Bool, not, ◌||◌}
use Rattle.stream_model.specs.declared.calls.Entry.{Entry}
use Rattle.relay_session.specs.Places.{AskedAlone}
use Rattle.http_flv.specs.Turns.{IsTaken, answer, life, noted}
use Rattle.http_flv.proofs.Rounds.{take_failed, take_ok}
use Rattle.http_flv.proofs.calls.take.Goals as goal

pub returns-in-Ok-clause-taken : goal.returns-in-Ok-clause-taken
returns-in-Ok-clause-taken g c =
    let P = g.P.StreamPort in
    let b = c.args.body.now in
    let e = c.in-Answer.ensures in
    take_ok (AskedAlone P.fits P.rules P.root P.seen P.count P.wants P.busies P.adds P.kin P.branches) (life b.core c.args.port.now b.seat) (life c.hear_item.new.core c.make.new.port c.make.new.self) c.args.place c.args.player b.core.fed c.args.moved c.answer_of.result c.in-Answer.reply
    c.requires.sound.ended.counted
    (record {
      asked = record { spot = e.spot; active = e.active; makes = e.makes; calls = e.calls; noted = e.noted; fails = e.fails; tries = e.tries; knows = e.knows; stands = e.stands; roots = e.roots; others = e.others; fixed = e.fixed; later = e.busies; passes = e.passes };
      fit = e.fit;
      grows = e.adds;
      splits = e.splits;
    })
    (subst (λ (x : Entry). IsTaken b.core x c.in-Answer.reply c.hear_item.new.core) c.of-asked.ensures c.in-Ok.ensures.taken)
    (c.answer_of.ensures ∙ ap answer (c.either.ensures ∙ ap (λ (x : Bool). c.args.moved || not x) c.finds_nothing-found.ensures))

pub returns-in-Answer-clause-taken : goal.returns-in-Answer-clause-taken
returns-in-Answer-clause-taken g c =
    let P = g.P.StreamPort in
    let b = c.args.body.now in
    let e = c.in-Answer.ensures in
    take_failed (AskedAlone P.fits P.rules P.root P.seen P.count P.wants P.busies P.adds P.kin P.branches) (life b.core c.args.port.now b.seat) (life c.hear_item.new.core c.make.new.port c.make.new.self) c.args.place c.args.player b.core.fed c.args.moved _ c.in-Answer.reply
    c.requires.sound.ended.counted
    (record {
      asked = record { spot = e.spot; active = e.active; makes = e.makes; calls = e.calls; noted = e.noted; fails = e.fails; tries = e.tries; knows = e.knows; stands = e.stands; roots = e.roots; others = e.others; fixed = e.fixed; later = e.busies; passes = e.passes };
      fit = e.fit;
      grows = e.adds;
      splits = e.splits;
    })
    (subst (λ (x : Entry). c.hear_item.new.core ≡ noted b.core x c.in-Answer.reply) c.of-asked.ensures c.in-Err.ensures.failed) refl

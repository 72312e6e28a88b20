use Rattle.std.proofs.Common.{inl, inr, ◌||◌, not, Bool, refl, ap, ◌∙◌, subst}
use Rattle.stream_model.specs.declared.calls.Entry.{Entry}
use Rattle.relay_session.specs.Feeding.{IsCalled}
use Rattle.relay_session.specs.Places.{AskedAlone}
use Rattle.relay_session.specs.Turns.{answer, life}
use Rattle.relay_session.specs.declared.end.End.TheVariants as end
use Rattle.relay_session.specs.declared.seat_answers.Made.TheVariants as made
use Rattle.relay_session.specs.declared.turn.Turn.TheVariants.{Ended}
use Rattle.relay_session.proofs.Stopping.{stands_on}
use Rattle.relay_session.proofs.Turning.{take_tried}
use Rattle.relay_session.proofs.calls.take.Goals as goal

pub returns-in-Ok-clause-taken : goal.returns-in-Ok-clause-taken
returns-in-Ok-clause-taken g c =
    let P = g.P.StreamPort in
    let b = c.args.body.now in
    let e = c.in-Answer.ensures in
    let h = c.in-Ok.ensures in
    let d = c.hear_item.new.core in
    take_tried (AskedAlone P.fits P.rules P.root P.seen P.count P.wants P.busies P.adds P.kin P.branches) (life b.core b.input c.args.port.now b.seat) (life d b.input c.make.new.port c.make.new.self) c.args.playing.now c.in-Some.place b.core.fed c.args.moved
    c.answer_of.result (made.Answer c.in-Answer.reply) c.requires.sound.sound.counted c.in-Some.is
    (record {
      asked = record { spot = e.spot; active = e.active; makes = e.makes; calls = e.calls; noted = e.noted; fails = e.fails; tries = e.tries; knows = e.knows; stands = e.stands; roots = e.roots; others = e.others; fixed = e.fixed; later = e.busies; passes = e.passes };
      fit = e.fit;
      grows = e.adds;
      splits = e.splits;
    }) (
      subst (λ (x : Entry). IsCalled b.core x c.in-Answer.reply d) c.of-asked.ensures h.called,
      inl (c.answer_of.ensures ∙ ap answer (c.either.ensures ∙ ap (λ (x : Bool). c.args.moved || not x) c.finds_nothing-found.ensures), h.others, λ desk. stands_on desk b.core d h.sound (h.stands desk)),
    ) refl

pub returns-in-Err-clause-taken : goal.returns-in-Err-clause-taken
returns-in-Err-clause-taken g c =
    let P = g.P.StreamPort in
    let b = c.args.body.now in
    let e = c.in-Answer.ensures in
    let d = c.hear_item.new.core in
    take_tried (AskedAlone P.fits P.rules P.root P.seen P.count P.wants P.busies P.adds P.kin P.branches) (life b.core b.input c.args.port.now b.seat) (life d b.input c.make.new.port c.make.new.self) c.args.playing.now c.in-Some.place b.core.fed c.args.moved
    (Ended end.OutOfMemory) (made.Answer c.in-Answer.reply) c.requires.sound.sound.counted c.in-Some.is
    (record {
      asked = record { spot = e.spot; active = e.active; makes = e.makes; calls = e.calls; noted = e.noted; fails = e.fails; tries = e.tries; knows = e.knows; stands = e.stands; roots = e.roots; others = e.others; fixed = e.fixed; later = e.busies; passes = e.passes };
      fit = e.fit;
      grows = e.adds;
      splits = e.splits;
    })
    (subst (λ (x : Entry). IsCalled b.core x c.in-Answer.reply d) c.of-asked.ensures c.in-Err.ensures.called, inr refl) refl

pub returns-in-Busy-clause-taken : goal.returns-in-Busy-clause-taken
returns-in-Busy-clause-taken g c =
    let P = g.P.StreamPort in
    let b = c.args.body.now in
    let e = c.in-Busy.ensures in
    take_tried (AskedAlone P.fits P.rules P.root P.seen P.count P.wants P.busies P.adds P.kin P.branches) (life b.core b.input c.args.port.now b.seat) (life b.core b.input c.make.new.port c.make.new.self) c.args.playing.now c.in-Some.place b.core.fed c.args.moved
    c.answer_of-in-Busy.result (made.Busy c.in-Busy.field-0) c.requires.sound.sound.counted c.in-Some.is
    (record {
      asked = record { spot = e.spot; active = e.active; makes = e.makes; calls = e.calls; noted = e.noted; fails = e.fails; tries = e.tries; knows = e.knows; stands = e.stands; roots = e.roots; others = e.others; fixed = e.fixed; later = e.busies; passes = e.passes };
      fit = e.fit;
      grows = e.adds;
      splits = e.splits;
    })
    (refl, c.answer_of-in-Busy.ensures) refl

pub returns-in-Worn-clause-taken : goal.returns-in-Worn-clause-taken
returns-in-Worn-clause-taken g c =
    let P = g.P.StreamPort in
    let b = c.args.body.now in
    let e = c.in-Worn.ensures in
    take_tried (AskedAlone P.fits P.rules P.root P.seen P.count P.wants P.busies P.adds P.kin P.branches) (life b.core b.input c.args.port.now b.seat) (life b.core b.input c.make.new.port c.make.new.self) c.args.playing.now c.in-Some.place b.core.fed c.args.moved
    (Ended end.Worn) (made.Worn c.in-Worn.field-0) c.requires.sound.sound.counted c.in-Some.is
    (record {
      asked = record { spot = e.spot; active = e.active; makes = e.makes; calls = e.calls; noted = e.noted; fails = e.fails; tries = e.tries; knows = e.knows; stands = e.stands; roots = e.roots; others = e.others; fixed = e.fixed; later = e.busies; passes = e.passes };
      fit = e.fit;
      grows = e.adds;
      splits = e.splits;
    })
    (refl, refl) refl

pub returns-in-OutOfMemory-clause-taken : goal.returns-in-OutOfMemory-clause-taken
returns-in-OutOfMemory-clause-taken g c =
    let P = g.P.StreamPort in
    let b = c.args.body.now in
    let e = c.in-OutOfMemory.ensures in
    take_tried (AskedAlone P.fits P.rules P.root P.seen P.count P.wants P.busies P.adds P.kin P.branches) (life b.core b.input c.args.port.now b.seat) (life b.core b.input c.make.new.port c.make.new.self) c.args.playing.now c.in-Some.place b.core.fed c.args.moved
    (Ended end.OutOfMemory) (made.OutOfMemory c.in-OutOfMemory.field-0) c.requires.sound.sound.counted c.in-Some.is
    (record {
      asked = record { spot = e.spot; active = e.active; makes = e.makes; calls = e.calls; noted = e.noted; fails = e.fails; tries = e.tries; knows = e.knows; stands = e.stands; roots = e.roots; others = e.others; fixed = e.fixed; later = e.busies; passes = e.passes };
      fit = e.fit;
      grows = e.adds;
      splits = e.splits;
    })
    (refl, refl) refl

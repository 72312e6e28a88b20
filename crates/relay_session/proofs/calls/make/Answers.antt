use Rattle.std.proofs.Common.{◌∙◌, ap, refl, subst, sym, false, Ok, Err, ◌≡◌, None, arith}
use Rattle.session_owed.specs.Standing.{Past}
use Rattle.stream_model.specs.declared.calls.Entry.{Entry}
use Rattle.relay_session.specs.Feeding.{IsCalled}
use Rattle.relay_session.specs.Keeping.{IsOver, StandsBefore, waiting}
use Rattle.relay_session.specs.Places.{AskedAlone}
use Rattle.relay_session.specs.Turns.{life}
use Rattle.relay_session.specs.declared.end.End.TheVariants as end
use Rattle.relay_session.specs.declared.seat_answers.Made.TheVariants as made
use Rattle.relay_session.specs.declared.core_fields.Core.{Core}
use Rattle.relay_session.proofs.Holds.{light_none}
use Rattle.relay_session.proofs.Stopping.{over_here, stands_on}
use Rattle.relay_session.proofs.Turning.{tried_busy, tried_heard, tried_memory, tried_unheard, tried_worn}
use Rattle.relay_session.proofs.calls.make.Goals as goal

pub returns-in-Ok-clause-tried : goal.returns-in-Ok-clause-tried
returns-in-Ok-clause-tried g c =
    let P = g.P.StreamPort in
    let b = c.args.body.now in
    let e = c.in-Answer.ensures in
    let h = c.in-Ok.ensures in
    let d = c.hear_reply.new.core in
    tried_heard (AskedAlone P.fits P.rules P.root P.seen P.count P.wants P.busies P.adds P.kin P.branches) (life (waiting b.core c.args.entry) b.input c.args.port.now b.seat) (life d b.input c.make.new.port c.make.new.self) c.args.entry c.in-Answer.reply
    c.in-Some.place c.in-Some.is
    (record {
      asked = record { spot = e.spot; active = e.active; makes = e.makes; calls = e.calls; noted = e.noted; fails = e.fails; tries = e.tries; knows = e.knows; stands = e.stands; roots = e.roots; others = e.others; fixed = e.fixed; later = e.busies; passes = e.passes };
      fit = e.fit;
      grows = e.adds;
      splits = e.splits;
    })
    (subst (λ (x : Entry). IsCalled (waiting b.core x) x c.in-Answer.reply d) c.of-asked.ensures h.called) h.others
    (λ desk. stands_on desk (waiting b.core c.args.entry) d h.sound (subst (λ (x : Entry). StandsBefore desk (waiting b.core x) → StandsBefore desk d) c.of-asked.ensures (h.stands desk))) refl

pub returns-in-Answer-clause-tried : goal.returns-in-Answer-clause-tried
returns-in-Answer-clause-tried g c =
    let P = g.P.StreamPort in
    let b = c.args.body.now in
    let e = c.in-Answer.ensures in
    let d = c.hear_reply.new.core in
    tried_unheard (AskedAlone P.fits P.rules P.root P.seen P.count P.wants P.busies P.adds P.kin P.branches) (life (waiting b.core c.args.entry) b.input c.args.port.now b.seat) (life d b.input c.make.new.port c.make.new.self) c.args.entry c.in-Answer.reply
    c.in-Some.place c.in-Some.is
    (record {
      asked = record { spot = e.spot; active = e.active; makes = e.makes; calls = e.calls; noted = e.noted; fails = e.fails; tries = e.tries; knows = e.knows; stands = e.stands; roots = e.roots; others = e.others; fixed = e.fixed; later = e.busies; passes = e.passes };
      fit = e.fit;
      grows = e.adds;
      splits = e.splits;
    })
    (subst (λ (x : Entry). IsCalled (waiting b.core x) x c.in-Answer.reply d) c.of-asked.ensures c.in-Err.ensures.called) refl

pub returns-in-Busy-clause-tried : goal.returns-in-Busy-clause-tried
returns-in-Busy-clause-tried g c =
    let P = g.P.StreamPort in
    let b = c.args.body.now in
    let e = c.in-Busy.ensures in
    let f = c.in-Busy.entry in
    let k = c.keep in
    tried_busy (AskedAlone P.fits P.rules P.root P.seen P.count P.wants P.busies P.adds P.kin P.branches) (life (waiting b.core c.args.entry) b.input c.args.port.now b.seat) (life k.new.core b.input c.make.new.port c.make.new.self) c.args.entry (made.Busy f) f (Ok false)
    c.in-Some.place refl c.in-Some.is
    (record {
      asked = record { spot = e.spot; active = e.active; makes = e.makes; calls = e.calls; noted = e.noted; fails = e.fails; tries = e.tries; knows = e.knows; stands = e.stands; roots = e.roots; others = e.others; fixed = e.fixed; later = e.busies; passes = e.passes };
      fit = e.fit;
      grows = e.adds;
      splits = e.splits;
    })
    (k.ensures ∙ ap (waiting b.core) e.makes.0) refl refl

pub returns-in-Worn-clause-tried : goal.returns-in-Worn-clause-tried
returns-in-Worn-clause-tried g c =
    let P = g.P.StreamPort in
    let b = c.args.body.now in
    let e = c.in-Worn.ensures in
    let f = c.in-Worn.entry in
    let k = c.keep-in-Worn in
    tried_worn (AskedAlone P.fits P.rules P.root P.seen P.count P.wants P.busies P.adds P.kin P.branches) (life (waiting b.core c.args.entry) b.input c.args.port.now b.seat) (life k.new.core b.input c.make.new.port c.make.new.self) c.args.entry (made.Worn f) f (Err end.Worn)
    c.in-Some.place refl c.in-Some.is
    (record {
      asked = record { spot = e.spot; active = e.active; makes = e.makes; calls = e.calls; noted = e.noted; fails = e.fails; tries = e.tries; knows = e.knows; stands = e.stands; roots = e.roots; others = e.others; fixed = e.fixed; later = e.busies; passes = e.passes };
      fit = e.fit;
      grows = e.adds;
      splits = e.splits;
    })
    (k.ensures ∙ ap (waiting b.core) e.makes.0) refl refl

pub returns-clause-tried : goal.returns-clause-tried
returns-clause-tried g c =
    let P = g.P.StreamPort in
    let b = c.args.body.now in
    let e = c.in-OutOfMemory.ensures in
    let f = c.in-OutOfMemory.entry in
    let k = c.keep-in-OutOfMemory in
    tried_memory (AskedAlone P.fits P.rules P.root P.seen P.count P.wants P.busies P.adds P.kin P.branches) (life (waiting b.core c.args.entry) b.input c.args.port.now b.seat) (life k.new.core b.input c.make.new.port c.make.new.self) c.args.entry (made.OutOfMemory f) f (Err end.OutOfMemory)
    c.in-Some.place refl c.in-Some.is
    (record {
      asked = record { spot = e.spot; active = e.active; makes = e.makes; calls = e.calls; noted = e.noted; fails = e.fails; tries = e.tries; knows = e.knows; stands = e.stands; roots = e.roots; others = e.others; fixed = e.fixed; later = e.busies; passes = e.passes };
      fit = e.fit;
      grows = e.adds;
      splits = e.splits;
    })
    (k.ensures ∙ ap (waiting b.core) e.makes.0) refl refl

pub returns-in-Worn-clause-stands : goal.returns-in-Worn-clause-stands
returns-in-Worn-clause-stands g c = λ desk st. (
    let b = c.args.body.now in
    let w = waiting b.core c.args.entry in
    subst (λ (d : Core). IsOver desk end.Worn d) (sym (c.keep-in-Worn.ensures ∙ ap (waiting b.core) c.in-Worn.ensures.makes.0)) (over_here desk end.Worn w w.hand w.outgoing c.requires.sound.sound st))

pub returns-clause-stands : goal.returns-clause-stands
returns-clause-stands g c = λ desk st. (
    let b = c.args.body.now in
    let w = waiting b.core c.args.entry in
    subst (λ (d : Core). IsOver desk end.OutOfMemory d) (sym (c.keep-in-OutOfMemory.ensures ∙ ap (waiting b.core) c.in-OutOfMemory.ensures.makes.0)) (over_here desk end.OutOfMemory w w.hand w.outgoing c.requires.sound.sound st))

pub returns-in-Ok-clause-sound : goal.returns-in-Ok-clause-sound
returns-in-Ok-clause-sound g c =
    let h = c.in-Ok.ensures in
    let d = c.hear_reply.new.core in
    let none : d.kept ≡ None = ap (λ (p : Past). p.kept) h.called.past in
    record { sound = h.sound; light = light_none d.outgoing.others d.kept none (omega (arith, h.light, c.requires.sound.light)); fits = h.fits c.requires.sound.fits }

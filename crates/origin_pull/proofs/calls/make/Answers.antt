use Rattle.std.proofs.Common.{◌∙◌, refl, ap, Bool, [], ◌∷◌, ◌++◌}
use Rattle.stream_model.specs.declared.calls.Entry.{Entry}
use Rattle.stream_registry.specs.Names.{PortRules, places}
use Rattle.relay_session.specs.declared.seat_answers.Made.TheVariants as made
use Rattle.origin_pull.specs.Turns.{after}
use Rattle.origin_pull.specs.declared.core_fields.Core.{Core}
use Rattle.origin_pull.proofs.Calling.{answered_parts}
use Rattle.origin_pull.proofs.Staying.{made_at}
use Rattle.origin_pull.proofs.calls.make.Goals as goal

pub returns-in-Answer-clause-called : goal.returns-in-Answer-clause-called
returns-in-Answer-clause-called g c =
    let b = c.args.body.now in
    let e = c.in-Answer.ensures in
    record {
      came = made.Answer c.in-Answer.reply;
      asked = record {
        asked = record {
          spot = e.spot;
          active = e.active;
          makes = e.makes;
          calls = e.calls;
          noted = e.noted;
          fails = e.fails;
          tries = e.tries;
          knows = e.knows;
          stands = e.stands;
          roots = e.roots;
          others = e.others;
          fixed = e.fixed;
          later = e.busies;
          passes = e.passes;
        };
        fit = e.fit;
        grows = e.adds;
        splits = e.splits;
      };
      became = (
        answered_parts b.core c.note.new.core c.args.entry _ c.in-Answer.reply c.requires.free c.note.ensures c.of-asked.ensures,
        c.after.ensures
            ∙ ap (λ (x : Bool). after x c.in-Answer.reply) c.is_begin-begins.ensures,
      );
      client = refl;
    }

pub returns-in-Answer-clause-at : goal.returns-in-Answer-clause-at
returns-in-Answer-clause-at g c =
    let P = g.P.StreamPort in
    let b = c.args.body.now in
    let e = c.in-Answer.ensures in
    made_at (P.fits c.args.port.now) (P.fits c.make.new.port) (places (P.rules c.args.port.now)) (places (P.rules c.make.new.port)) b.core c.note.new.core
    b.seat c.make.new.self c.args.entry (made.Answer c.in-Answer.reply)
    e.fit (ap (λ (r : PortRules). places r) e.fixed) e.spot e.active e.makes e.calls (ap (λ (k : Core). k.place) c.note.ensures)
    (ap (λ (k : Core). k.calls) c.note.ensures ∙ ap (λ (x : Entry). b.core.calls ++ (x, c.in-Answer.reply) ∷ []) c.of-asked.ensures) c.requires.at

pub returns-in-Busy-clause-at : goal.returns-in-Busy-clause-at
returns-in-Busy-clause-at g c =
    let P = g.P.StreamPort in
    let b = c.args.body.now in
    let e = c.in-Busy.ensures in
    made_at (P.fits c.args.port.now) (P.fits c.make.new.port) (places (P.rules c.args.port.now)) (places (P.rules c.make.new.port)) b.core c.keep.new.core
    b.seat c.make.new.self c.args.entry (made.Busy c.in-Busy.entry)
    e.fit (ap (λ (r : PortRules). places r) e.fixed) e.spot e.active e.makes e.calls (ap (λ (k : Core). k.place) c.keep.ensures)
    (ap (λ (k : Core). k.calls) c.keep.ensures) c.requires.at

pub returns-in-Worn-clause-at : goal.returns-in-Worn-clause-at
returns-in-Worn-clause-at g c =
    let P = g.P.StreamPort in
    let b = c.args.body.now in
    let e = c.in-Worn.ensures in
    made_at (P.fits c.args.port.now) (P.fits c.make.new.port) (places (P.rules c.args.port.now)) (places (P.rules c.make.new.port)) b.core
    c.keep-in-Worn.new.core b.seat c.make.new.self c.args.entry (made.Worn c.in-Worn.entry)
    e.fit (ap (λ (r : PortRules). places r) e.fixed) e.spot e.active e.makes e.calls (ap (λ (k : Core). k.place) c.keep-in-Worn.ensures)
    (ap (λ (k : Core). k.calls) c.keep-in-Worn.ensures) c.requires.at

pub returns-in-OutOfMemory-clause-at : goal.returns-in-OutOfMemory-clause-at
returns-in-OutOfMemory-clause-at g c =
    let P = g.P.StreamPort in
    let b = c.args.body.now in
    let e = c.in-OutOfMemory.ensures in
    made_at (P.fits c.args.port.now) (P.fits c.make.new.port) (places (P.rules c.args.port.now)) (places (P.rules c.make.new.port)) b.core
    c.keep-in-OutOfMemory.new.core b.seat c.make.new.self c.args.entry (made.OutOfMemory c.in-OutOfMemory.entry)
    e.fit (ap (λ (r : PortRules). places r) e.fixed) e.spot e.active e.makes e.calls (ap (λ (k : Core). k.place) c.keep-in-OutOfMemory.ensures)
    (ap (λ (k : Core). k.calls) c.keep-in-OutOfMemory.ensures) c.requires.at

use Rattle.std.proofs.Common.{◌∙◌, append-nil, Bool, Err, List, Ok, Some, subst, sym, ℕ}
use Rattle.client_command.specs.Giving.{Fills, IsReadOn, MayGo}
use Rattle.client_command.proofs.Filming.{end_fine, feed_ends, read_next, reads_since}
use Rattle.client_command.proofs.film.next.Goals as goal
use Rattle.segment_command.specs.Films.{WasRead}

pub returns-in-Err-clause-goes : goal.returns-in-Err-clause-goes
returns-in-Err-clause-goes g c = λ start w.
    let S = g.S.Source in
    let l = c.loop-stop in
    let t = c.fill.new in
    reads_since (Err c.in-Err.stop) c.args.film.now l.film t.film start (S.left t.input) (S.faults c.args.input.now) (S.faults l.input) (S.faults t.input) l.invariant.given
    l.invariant.faults (c.in-Err.ensures.goes start (l.invariant.goes start w))

pub returns-in-Err-read-clause-goes : goal.returns-in-Err-read-clause-goes
returns-in-Err-read-clause-goes g c = λ start w.
    let S = g.S.Source in
    let l = c.loop-stop in
    let t = c.fill.new in
    let e = c.in-Ok-true in
    let h = subst (λ (b : Bool). Fills (Ok b) l.film t.film start (S.left t.input) (S.faults l.input) (S.faults t.input)) e.field-0-test (e.ensures.goes start (l.invariant.goes start w)) in
    reads_since (Err c.in-Err-read.stop) c.args.film.now t.film c.read.new.film start (S.left t.input) (S.faults c.args.input.now) (S.faults l.input) (S.faults t.input)
    (e.ensures.given ∙ l.invariant.given) l.invariant.faults
    (feed_ends c.in-Err-read.stop t.film start (S.left t.input) (S.faults l.input) (S.faults t.input) e.ensures.reading h.1 c.in-Err-read.ensures.err h.0)

pub returns-in-Ok-Some-clause-fine : goal.returns-in-Ok-Some-clause-fine
returns-in-Ok-Some-clause-fine g c = subst (MayGo c.read.new.film) c.in-Ok-Some.field-0-is c.in-Ok-Some.ensures.fine

pub returns-in-Ok-Some-clause-goes : goal.returns-in-Ok-Some-clause-goes
returns-in-Ok-Some-clause-goes g c = λ start w.
    let S = g.S.Source in
    let l = c.loop-stop in
    let t = c.fill.new in
    let e = c.in-Ok-true in
    let d = c.read.new.film in
    let on = subst (IsReadOn t.film d) c.in-Ok-Some.field-0-is c.in-Ok-Some.ensures.ok in
    let h = subst (λ (b : Bool). Fills (Ok b) l.film t.film start (S.left t.input) (S.faults l.input) (S.faults t.input)) e.field-0-test (e.ensures.goes start (l.invariant.goes start w)) in
    reads_since (Ok (Some c.in-Ok-Some.tag)) c.args.film.now t.film d start (S.left t.input) (S.faults c.args.input.now) (S.faults l.input) (S.faults t.input)
    (e.ensures.given ∙ l.invariant.given) l.invariant.faults (read_next t.film d c.in-Ok-Some.tag start (S.left t.input) (S.faults l.input) (S.faults t.input) on h)

pub loop-stop-preserved : goal.loop-stop-preserved
loop-stop-preserved g c =
    let S = g.S.Source in
    let l = c.loop-stop in
    let t = c.fill.new in
    let e = c.in-Ok-true in
    let d = c.read.new.film in
    let on = subst (IsReadOn t.film d) c.in-Ok-None.field-0-is c.in-Ok-None.ensures.ok in
    record {
      reading = on.reading;
      given = on.given ∙ append-nil t.film.reader.given ∙ e.ensures.given ∙ l.invariant.given;
      goes = λ start w.
          let h = subst (λ (b : Bool). Fills (Ok b) l.film t.film start (S.left t.input) (S.faults l.input) (S.faults t.input)) e.field-0-test (e.ensures.goes start (l.invariant.goes start w)) in
          subst (λ (x : List ℕ). WasRead x start (S.left t.input)) (sym on.came_same) h.0;
      faults = e.ensures.faults ∙ l.invariant.faults;
    }

pub returns-in-Ok-false-clause-fine : goal.returns-in-Ok-false-clause-fine
returns-in-Ok-false-clause-fine g c = end_fine c.end.result c.fill.new.film c.end.ensures

pub returns-in-Ok-false-clause-goes : goal.returns-in-Ok-false-clause-goes
returns-in-Ok-false-clause-goes g c = λ start w.
    let S = g.S.Source in
    let l = c.loop-stop in
    let t = c.fill.new in
    let e = c.in-Ok-false in
    let h = subst (λ (b : Bool). Fills (Ok b) l.film t.film start (S.left t.input) (S.faults l.input) (S.faults t.input)) e.field-0-test (e.ensures.goes start (l.invariant.goes start w)) in
    reads_since c.end.result c.args.film.now l.film t.film start (S.left t.input) (S.faults c.args.input.now) (S.faults l.input) (S.faults t.input) l.invariant.given
    l.invariant.faults (h c.end.result c.end.ensures)

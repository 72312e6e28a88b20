use Rattle.std.proofs.Common.{◌∙◌, ◌-◌, arith, refl, rules, sym}
use Rattle.loop_command.proofs.Parts.{runs_part}
use Rattle.loop_command.proofs.Rounding.{round_stops, run_begins, run_on, run_out, run_settles}
use Rattle.loop_command.proofs.run.run_all.Goals as goal

pub loop-left-init : goal.loop-left-init
loop-left-init g c = record {
  sound = c.requires.sound;
  goes = λ file held h. run_begins file c.args.run.now c.args.rounds held (g.K.Sink.holds c.args.out.now) h;
  faults = refl;
}

pub returns-in_err-round-clause-goes : goal.returns-in_err-round-clause-goes
returns-in_err-round-clause-goes g c = λ file held h.
    let l = c.loop-left in
    let e = c.in_err-round in
    let o = l.invariant.goes file held h in
    let x = round_stops e.field-0.0 _ file c.args.run.now c.round.new.run c.args.rounds held (g.K.Sink.holds c.round.new.out)
    (e.ensures.goes file held o.is_run) in
    search (rules, x)

pub returns-then-is_settled-clause-settled : goal.returns-then-is_settled-clause-settled
returns-then-is_settled-clause-settled g c = c.settled_law.ensures (sym c.is_settled.ensures ∙ c.if-is_settled.true)

pub returns-then-is_settled-clause-goes : goal.returns-then-is_settled-clause-goes
returns-then-is_settled-clause-goes g c = λ file held h.
    let l = c.loop-left in
    let o = l.invariant.goes file held h in
    run_settles file c.args.run.now l.run c.round.new.run c.args.rounds l.left (l.left - 1) held (g.K.Sink.holds l.out) (g.K.Sink.holds c.round.new.out) o
    (omega (arith, c.loop-left-test.true)) (sym c.is_settled.ensures ∙ c.if-is_settled.true)
    (c.in_ok-round.ensures.goes file held o.is_run)

pub loop-left-preserved : goal.loop-left-preserved
loop-left-preserved g c =
    let l = c.loop-left in
    record {
      sound = c.in_ok-round.ensures.sound;
      goes = λ file held h.
          let o = l.invariant.goes file held h in
          run_on file c.args.run.now l.run c.round.new.run c.args.rounds l.left (l.left - 1) held (g.K.Sink.holds l.out) (g.K.Sink.holds c.round.new.out)
          o (omega (arith, c.loop-left-test.true)) (sym c.is_settled.ensures ∙ c.if-is_settled.false)
          (c.in_ok-round.ensures.goes file held o.is_run);
      faults = c.in_ok-round.ensures.faults ∙ l.invariant.faults;
    }

pub returns-clause-goes : goal.returns-clause-goes
returns-clause-goes g c = λ file held h.
    let l = c.loop-left in
    run_out file c.args.run.now l.run c.args.rounds l.left held (g.K.Sink.holds l.out) (l.invariant.goes file held h) (omega (arith, c.loop-left-test.false))

pub returns-in_err-round-clause-part : goal.returns-in_err-round-clause-part
returns-in_err-round-clause-part g c = λ file held h.
    let l = c.loop-left in
    let e = c.in_err-round in
    let o = l.invariant.goes file held h in
    let x = runs_part e.field-0.0 file c.args.run.now l.run c.args.rounds l.left held (g.K.Sink.holds l.out) (g.K.Sink.holds c.round.new.out) o
    (omega (arith, c.loop-left-test.true)) (e.ensures.part file held o.is_run) in
    search (rules, x)

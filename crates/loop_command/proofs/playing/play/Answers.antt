use Rattle.std.proofs.Common.{rules}
use Rattle.loop_command.specs.Rounds.{WritesWithin}
use Rattle.loop_command.proofs.Parts.{before_part, behind_part, if_err, told_part}
use Rattle.loop_command.proofs.Rounding.{own_match, plays_by, pull_stops, write_stops}
use Rattle.loop_command.proofs.Running.{own_cause}
use Rattle.loop_command.proofs.playing.play.Goals as goal

pub returns-in_err-pull_turn-clause-goes : goal.returns-in_err-pull_turn-clause-goes
returns-in_err-pull_turn-clause-goes g c = λ file held h.
    let e = c.in_err-pull_turn in
    let now = g.K.Sink.holds c.args.out.now in
    let x = pull_stops e.field-0.0 _ file c.args.run.now c.pull_turn.new.run held now (e.ensures.goes file held now h) in
    search (rules, x)

pub returns-in_err-pull_turn-clause-faults : goal.returns-in_err-pull_turn-clause-faults
returns-in_err-pull_turn-clause-faults g c =
    let e = c.in_err-pull_turn in
    let x = own_cause e.field-0.0 (g.K.Sink.faults c.args.out.now) e.ensures.err in
    search (rules, x)

pub returns-in_err-write_next-clause-goes : goal.returns-in_err-write_next-clause-goes
returns-in_err-write_next-clause-goes g c = λ file held h.
    let e = c.in_err-write_next in
    let x = write_stops e.field-0.0 file c.args.run.now c.write_next.new.run held (g.K.Sink.holds c.write_next.new.out) e.ensures.stops in
    search (rules, x)

pub returns-clause-goes : goal.returns-clause-goes
returns-clause-goes g c = λ file held h.
    let t = c.serve_player in
    let now = g.K.Sink.holds c.write_next.new.out in
    let p = c.in_ok-pull_turn.ensures.goes file held (g.K.Sink.holds c.args.out.now) h in
    let w = c.in_ok-write_next.ensures.goes file held p.is_run in
    plays_by t.result file c.args.run.now c.pull_turn.new.run c.write_next.new.run t.new.run held now p.made w.made
    (t.ensures.goes file held now w.is_run)

pub returns-clause-faults : goal.returns-clause-faults
returns-clause-faults g c =
    own_match c.serve_player.result (g.K.Sink.faults c.args.out.now) (g.K.Sink.faults c.write_next.new.out) c.in_ok-write_next.ensures.faults
    c.serve_player.ensures.err

pub returns-in_err-pull_turn-clause-part : goal.returns-in_err-pull_turn-clause-part
returns-in_err-pull_turn-clause-part g c = λ file held h.
    let x = before_part file c.args.run.now held (g.K.Sink.holds c.args.out.now) h in
    search (rules, x)

pub returns-in_err-write_next-clause-part : goal.returns-in_err-write_next-clause-part
returns-in_err-write_next-clause-part g c = λ file held h.
    let p = c.in_ok-pull_turn.ensures.goes file held (g.K.Sink.holds c.args.out.now) h in
    let x = told_part c.args.run.now c.pull_turn.new.run held (g.K.Sink.holds c.write_next.new.out) p.made
    (c.in_err-write_next.ensures.part file held p.is_run) in
    search (rules, x)

pub returns-clause-part : goal.returns-clause-part
returns-clause-part g c = λ file held h.
    let now = g.K.Sink.holds c.write_next.new.out in
    let p = c.in_ok-pull_turn.ensures.goes file held (g.K.Sink.holds c.args.out.now) h in
    let w = c.in_ok-write_next.ensures.goes file held p.is_run in
    if_err c.serve_player.result (WritesWithin c.args.run.now held now)
    (behind_part file c.args.run.now c.pull_turn.new.run c.write_next.new.run held now p.made w.made w.is_run)

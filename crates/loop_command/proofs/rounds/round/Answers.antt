use Rattle.std.proofs.Common.{rules}
use Rattle.loop_command.specs.Rounds.{WritesWithin}
use Rattle.loop_command.proofs.Parts.{if_err, served_part}
use Rattle.loop_command.proofs.Rounding.{own_match, play_stops, round_by}
use Rattle.loop_command.proofs.rounds.round.Goals as goal

pub returns-in_err-play-clause-goes : goal.returns-in_err-play-clause-goes
returns-in_err-play-clause-goes g c = λ file held h.
    let e = c.in_err-play in
    let now = g.K.Sink.holds c.play.new.out in
    let x = play_stops e.field-0.0 _ file c.args.run.now c.play.new.run held now (e.ensures.goes file held h) in
    search (rules, x)

pub returns-clause-goes : goal.returns-clause-goes
returns-clause-goes g c = λ file held h.
    let now = g.K.Sink.holds c.play.new.out in
    let p = c.in_ok-play.ensures.goes file held h in
    round_by c.publish.result file c.args.run.now c.play.new.run c.publish.new.run held now p.made (c.publish.ensures.goes file held now p.is_run)

pub returns-clause-faults : goal.returns-clause-faults
returns-clause-faults g c =
    own_match c.publish.result (g.K.Sink.faults c.args.out.now) (g.K.Sink.faults c.play.new.out) c.in_ok-play.ensures.faults c.publish.ensures.err

pub returns-in_err-play-clause-part : goal.returns-in_err-play-clause-part
returns-in_err-play-clause-part g c = λ file held h.
    let x = c.in_err-play.ensures.part file held h in
    search (rules, x)

pub returns-clause-part : goal.returns-clause-part
returns-clause-part g c = λ file held h.
    let now = g.K.Sink.holds c.play.new.out in
    let p = c.in_ok-play.ensures.goes file held h in
    if_err c.publish.result (WritesWithin c.args.run.now held now) (served_part file c.args.run.now c.play.new.run held now p.made p.is_run)

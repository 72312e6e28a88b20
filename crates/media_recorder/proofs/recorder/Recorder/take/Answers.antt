use Rattle.std.proofs.Common.{◌≡◌, ap, inr, ◌∙◌, None}
use Rattle.stream_model.specs.declared.calls.Call.TheVariants as call
use Rattle.media_recorder.specs.Taken.{taken}
use Rattle.media_recorder.specs.Turns.{RecorderState, all}
use Rattle.media_recorder.proofs.Joining.{from_take}
use Rattle.media_recorder.proofs.Keeping.{take_written, written_live}
use Rattle.media_recorder.proofs.recorder.Recorder.take.Goals as goal

pub invariant_of-self : goal.invariant_of-self
invariant_of-self g c =
    let i = c.self.inside in
    let live : i.end ≡ None = ap (λ (r : RecorderState g.row.P-Pass.Denot). r.end) c.self.view_is ∙ c.requires.live in
    let made = c.call-answer.ensures.asks.calls in
    record {
      written = take_written i.seat.who c.args.player all i.seat.calls c.call-answer.new.self.calls c.call-answer.result i.tape c.take_ends.new.tape c.take_ends.result c.take_ends.new.end
          (written_live i.end i.tape.items (taken i.seat.calls) live c.self.invariant.written) c.take_ends.ensures made;
      from_is = from_take i.seat.who c.args.player all i.seat.calls c.call-answer.new.self.calls c.call-answer.result i.from c.self.invariant.from_is made;
    }

pub returns-clause-alone : goal.returns-clause-alone
returns-clause-alone g c = rw (← c.self.view_is) (inr ((call.Take c.args.player all), (c.call-answer.result, c.call-answer.ensures.alone)))

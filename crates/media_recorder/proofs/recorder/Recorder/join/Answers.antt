use Rattle.std.proofs.Common.{◌≡◌, ap, inr, ◌∙◌, None}
use Rattle.stream_model.specs.declared.calls.Call.TheVariants as call
use Rattle.std.specs.Option.{option_or}
use Rattle.media_recorder.specs.Joined.{from_answered}
use Rattle.media_recorder.specs.Taken.{taken}
use Rattle.media_recorder.specs.Turns.{RecorderState}
use Rattle.media_recorder.proofs.Joining.{from_join}
use Rattle.media_recorder.proofs.Keeping.{join_written, written_live}
use Rattle.media_recorder.proofs.recorder.Recorder.join.Goals as goal

pub invariant_of-self : goal.invariant_of-self
invariant_of-self g c =
    let i = c.self.inside in
    let live : i.end ≡ None = ap (λ (r : RecorderState g.row.P-Pass.Denot). r.end) c.self.view_is ∙ c.requires.live in
    let made = c.call-answer.ensures.asks.calls in
    let kept : c.or-self-inside.result ≡ option_or i.from (from_answered c.call-answer.result) = c.or-self-inside.ensures ∙ ap (λ o. option_or i.from o) c.from_in.ensures in
    record {
      written = join_written i.seat.who i.seat.calls c.call-answer.new.self.calls c.call-answer.result i.tape.items c.join_ends.new.end
          (written_live i.end i.tape.items (taken i.seat.calls) live c.self.invariant.written) made;
      from_is = from_join i.seat.who i.seat.calls c.call-answer.new.self.calls c.call-answer.result i.from c.or-self-inside.result c.self.invariant.from_is made kept;
    }

pub returns-clause-alone : goal.returns-clause-alone
returns-clause-alone g c = rw (← c.self.view_is) (inr (call.Join, (c.call-answer.result, c.call-answer.ensures.alone)))

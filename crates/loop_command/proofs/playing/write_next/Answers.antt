use Rattle.std.proofs.Common.{◌∙◌, subst, sym}
use Rattle.loop_command.specs.Rounds.{IsWanting, SinkCause}
use Rattle.loop_command.specs.declared.stop.Stop.{Stop}
use Rattle.loop_command.proofs.Running.{gift_goes, gift_sound, none_goes, over_gift, put_wanting, told_is}
use Rattle.loop_command.proofs.Parts.{gift_part}
use Rattle.loop_command.proofs.playing.write_next.Goals as goal

pub returns-then-run-clause-goes : goal.returns-then-run-clause-goes
returns-then-run-clause-goes g c = λ file held h. record { is_run = h; made = over_gift c.args.run.now c.if-run.true }

pub returns-in-None-clause-sound : goal.returns-in-None-clause-sound
returns-in-None-clause-sound g c =
    let r = c.args.run.now in
    gift_sound r c.take_gift.new.client r.begun r.over r.told c.take_gift.ensures.live c.requires.sound

pub returns-in-None-clause-goes : goal.returns-in-None-clause-goes
returns-in-None-clause-goes g c = λ file held h.
    none_goes file held (g.K.Sink.holds c.args.out.now) c.args.run.now c.take_gift.new.client c.take_gift.ensures.left c.if-run.false
    (sym c.take_gift.ensures.gift ∙ c.in-None.is) h

pub returns-clause-sound : goal.returns-clause-sound
returns-clause-sound g c =
    gift_sound c.args.run.now c.take_gift.new.client _ _ _ c.take_gift.ensures.live c.requires.sound

pub returns-clause-goes : goal.returns-clause-goes
returns-clause-goes g c = λ file held h.
    let r = c.args.run.now in
    let t = told_is file r held (g.K.Sink.holds c.args.out.now) c.if-run.false h in
    gift_goes file held (g.K.Sink.holds c.args.out.now) (g.K.Sink.holds c.write_gift.new.out) r c.in-Some.gift c.take_gift.new.client c.is_last-run.result
    c.saturating_add-run.result c.take_gift.ensures.left c.is_last-run.ensures c.saturating_add-run.ensures
    c.if-run.false (sym c.take_gift.ensures.gift ∙ c.in-Some.is) (c.in-Ok.ensures.text r.pull.client.parts.taken held t.0 t.1) h

pub returns-in-Err-clause-stops : goal.returns-in-Err-clause-stops
returns-in-Err-clause-stops g c =
    let n = g.K.Sink.faults c.args.out.now in
    subst IsWanting (sym c.within.ensures) (put_wanting c.in-Err.stop n (g.K.Sink.faults c.write_gift.new.out) c.in-Err.ensures.faults).0

pub returns-in-Err-clause-faults : goal.returns-in-Err-clause-faults
returns-in-Err-clause-faults g c =
    let n = g.K.Sink.faults c.args.out.now in
    let m = g.K.Sink.faults c.write_gift.new.out in
    subst (λ (s : Stop). SinkCause s n m) (sym c.within.ensures) (put_wanting c.in-Err.stop n m c.in-Err.ensures.faults).1

pub returns-in-Err-clause-part : goal.returns-in-Err-clause-part
returns-in-Err-clause-part g c = λ file held h.
    let r = c.args.run.now in
    let t = told_is file r held (g.K.Sink.holds c.args.out.now) c.if-run.false h in
    gift_part held (g.K.Sink.holds c.write_gift.new.out) r c.in-Some.gift c.if-run.false (sym c.take_gift.ensures.gift ∙ c.in-Some.is)
    (c.in-Err.ensures.text r.pull.client.parts.taken held t.0 t.1)

use Rattle.std.proofs.Common.{ap, inl, inr, refl, ◌∙◌, Err}
use Rattle.stream_model.specs.declared.calls.Call.TheVariants as call
use Rattle.media_recorder.proofs.Parting.{gone_made, gone_worn}
use Rattle.media_recorder.proofs.recorder.Recorder.leave.Goals as goal

pub returns-in-Ok-clause-goes : goal.returns-in-Ok-clause-goes
returns-in-Ok-clause-goes g c =
    let P = g.P.StreamPort in
    let i = c.self.inside in
    let p = c.call.ensures.port in
    rw (← c.self.view_is) (gone_made P.rules P.root P.seen P.mine P.busies P.count c.args.port.now c.call.new.port c.part-in-Ok.new.port
    (record { seat = i.seat; player = i.player; tape = i.tape; end = i.end }) c.in-Some.player c.call.new.self c.call.result c.in-Ok.field-0 c.in-Ok.is
    c.in-Some.is p.fixed p.here c.part-in-Ok.ensures.busies c.call.ensures.asks c.part-in-Ok.ensures.parts)

pub returns-in-Err-Worn-clause-goes : goal.returns-in-Err-Worn-clause-goes
returns-in-Err-Worn-clause-goes g c =
    let P = g.P.StreamPort in
    let i = c.self.inside in
    let p = c.call.ensures.port in
    rw (← c.self.view_is) (gone_worn P.rules P.root P.seen P.mine P.busies P.count c.args.port.now c.call.new.port c.part-in-Err-Worn.new.port
    (record { seat = i.seat; player = i.player; tape = i.tape; end = i.end }) c.in-Some.player c.call.new.self c.call.result c.in-Err-Worn.field-0-0
    (c.in-Err-Worn.is ∙ ap Err c.in-Err-Worn.field-0-is)
    c.in-Some.is p.fixed p.here c.part-in-Err-Worn.ensures.busies c.call.ensures.asks c.part-in-Err-Worn.ensures.parts)

pub returns-in-Ok-clause-alone : goal.returns-in-Ok-clause-alone
returns-in-Ok-clause-alone g c =
    rw (← c.self.view_is) (record { between = c.call.new.port; seat = c.call.new.self; asks = inr (call.Leave c.in-Some.player, (c.call.result, c.call.ensures.alone)); gone = c.part-in-Ok.ensures.gives })

pub returns-in-Err-Worn-clause-alone : goal.returns-in-Err-Worn-clause-alone
returns-in-Err-Worn-clause-alone g c =
    rw (← c.self.view_is) (record { between = c.call.new.port; seat = c.call.new.self; asks = inr (call.Leave c.in-Some.player, (c.call.result, c.call.ensures.alone)); gone = c.part-in-Err-Worn.ensures.gives })

pub returns-in-Err-Busy-clause-alone : goal.returns-in-Err-Busy-clause-alone
returns-in-Err-Busy-clause-alone g c =
    rw (← c.self.view_is) (record { between = c.call.new.port; seat = c.call.new.self; asks = inr (call.Leave c.in-Some.player, (c.call.result, c.call.ensures.alone)); gone = (refl, refl) })

pub returns-in-Err-OutOfMemory-clause-alone : goal.returns-in-Err-OutOfMemory-clause-alone
returns-in-Err-OutOfMemory-clause-alone g c =
    rw (← c.self.view_is) (record { between = c.call.new.port; seat = c.call.new.self; asks = inr (call.Leave c.in-Some.player, (c.call.result, c.call.ensures.alone)); gone = (refl, refl) })

pub returns-in_default-clause-alone : goal.returns-in_default-clause-alone
returns-in_default-clause-alone g c = rw (← c.self.view_is) (record { between = c.args.port.now; seat = c.self.inside.seat; asks = inl (refl, refl); gone = c.part.ensures.gives })

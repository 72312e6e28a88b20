use Rattle.std.proofs.Common.{◌∙◌, ap, arith, length, sym, take}
use Rattle.relay_outside.specs.declared.link.Said.TheVariants as said
use Rattle.rtmp_client.specs.Turns.{is_nil, life}
use Rattle.rtmp_client.proofs.Turning.{sent_none, sent_some, small_sent}
use Rattle.rtmp_client.proofs.turn_steps.send_on.Goals as goal

pub returns-then-is_empty-clause-turn : goal.returns-then-is_empty-clause-turn
returns-then-is_empty-clause-turn g c =
    let L = g.L.Link in
    let f = c.finish_on in
    sent_none L.hears L.says (life c.args.core.now c.args.input.now) (life f.new.core f.new.input) f.result c.args.link.now f.new.link (ap is_nil (sym c.pending.ensures) ∙ sym c.is_empty.ensures ∙ c.if-is_empty.true) f.ensures.turn

pub finish_on-requires-in-Took : goal.finish_on-requires-in-Took
finish_on-requires-in-Took g c = record {
  living = record {
    sound = c.note_sent.ensures.sound;
    small = small_sent c.args.core.now c.note_sent.new.core c.in-Took.count c.requires.living.small c.note_sent.ensures.sent
        (omega (arith, c.in-Took.ensures.count.1, c.first.ensures.within, ap length c.pending-2.ensures));
  };
}

pub returns-in-NotYet-clause-turn : goal.returns-in-NotYet-clause-turn
returns-in-NotYet-clause-turn g c =
    let L = g.L.Link in
    let f = c.finish_on-in-NotYet in
    sent_some L.hears L.says (life c.args.core.now c.args.input.now) (life f.new.core f.new.input) f.result c.args.link.now c.send.new.self f.new.link c.first.result.now said.NotYet
    (ap is_nil (sym c.pending.ensures) ∙ sym c.is_empty.ensures ∙ c.if-is_empty.false) (c.first.ensures.value ∙ ap (take 16384) c.pending-2.ensures) c.in-NotYet.ensures.step f.ensures.turn

pub returns-in-Took-clause-turn : goal.returns-in-Took-clause-turn
returns-in-Took-clause-turn g c =
    let L = g.L.Link in
    let f = c.finish_on-in-Took in
    sent_some L.hears L.says (life c.args.core.now c.args.input.now) (life f.new.core f.new.input) f.result c.args.link.now c.send.new.self f.new.link c.first.result.now (said.Took c.in-Took.count)
    (ap is_nil (sym c.pending.ensures) ∙ sym c.is_empty.ensures ∙ c.if-is_empty.false) (c.first.ensures.value ∙ ap (take 16384) c.pending-2.ensures) c.in-Took.ensures.step (c.note_sent.new.core, (c.note_sent.ensures.sent, f.ensures.turn))

use Rattle.chunk_wire.specs.State.{fresh_state}
use Rattle.chunk_reader.proofs.Reading.{reads_nothing}
use Rattle.std.proofs.Common.{[], ◌++◌, ap, ◌∙◌}
use Rattle.rtmp_client.specs.Owing.{Owing}
use Rattle.rtmp_client.proofs.Living.{hello_others, keeps_new, sound_new}
use Rattle.rtmp_client.proofs.steps.new_core.Goals as goal

pub returns-clause-sound : goal.returns-clause-sound
returns-clause-sound c =
    sound_new c.args.asked c.args.max_message c.new-2.result c.new-3.result c.say_hello.new.outgoing c.new.result c.new-4.result c.new-7.result c.new-5.result c.new-6.result c.requires.named c.requires.most c.new.ensures c.new-2.ensures
    (record { s = fresh_state; r = []; reads = reads_nothing c.args.max_message }) c.new-3.ensures
    (c.in_ok-say_hello.ensures.bytes ∙ ap (λ (o : Owing). o.pending ++ Rattle.client_owed.specs.Owed.hello) c.new-outgoing.ensures)
    (c.in_ok-say_hello.ensures.writer ∙ ap (λ (o : Owing). o.writer) c.new-outgoing.ensures)
    c.new-4.ensures c.new-5.ensures c.new-6.ensures c.new-7.ensures

pub returns-clause-keeps : goal.returns-clause-keeps
returns-clause-keeps c =
    keeps_new c.new-3.result c.say_hello.new.outgoing c.new-3.ensures
    (c.in_ok-say_hello.ensures.bytes ∙ ap (λ (o : Owing). o.pending ++ Rattle.client_owed.specs.Owed.hello) c.new-outgoing.ensures)
    (c.in_ok-say_hello.ensures.writer ∙ ap (λ (o : Owing). o.writer) c.new-outgoing.ensures)

pub returns-clause-others : goal.returns-clause-others
returns-clause-others c =
    hello_others c.new-outgoing.result c.say_hello.new.outgoing c.new-outgoing.ensures c.in_ok-say_hello.ensures.bytes c.in_ok-say_hello.ensures.others

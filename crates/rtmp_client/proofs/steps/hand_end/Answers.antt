use Rattle.std.proofs.Common.{◌+◌, ◌∙◌, length, refl}
use Rattle.rtmp_client.proofs.Living.{sound_greet}
use Rattle.rtmp_client.proofs.steps.hand_end.Goals as goal

pub returns-clause-sound : goal.returns-clause-sound
returns-clause-sound c =
    sound_greet c.args.core.now c.args.part.now c.add_all.new.self c.new.result c.as_slice.result.now c.greet.new.outgoing (c.args.core.now.fed + length c.args.part.now) c.requires.sound c.requires.early c.requires.whole c.requires.version
    (c.as_slice.ensures ∙ c.in_ok-append.ensures.ok) c.in_ok-greet.ensures.bytes c.in_ok-greet.ensures.writer refl c.add_all.ensures

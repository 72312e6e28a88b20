use Rattle.std.proofs.Common.{◌+◌, length, refl}
use Rattle.rtmp_client.proofs.Living.{sound_hand}
use Rattle.rtmp_client.proofs.steps.hand_on.Goals as goal

pub returns-clause-sound : goal.returns-clause-sound
returns-clause-sound c =
    sound_hand c.args.core.now c.args.part.now c.add_all.new.self c.append.new.self (c.args.core.now.fed + length c.args.part.now) c.requires.sound c.requires.within c.requires.version c.in_ok-append.ensures.ok refl c.add_all.ensures

use Rattle.std.proofs.Common.{rules}
use Rattle.rtmp_client.proofs.Living.{all_sent, sound_sent}
use Rattle.rtmp_client.proofs.steps.note_sent.Goals as goal

pub returns-clause-sound : goal.returns-clause-sound
returns-clause-sound c =
    sound_sent c.args.core.now c.args.count c.add_all.new.self c.sent.new.self c.requires.sound c.sent.ensures.pending c.sent.ensures.writer (search rules)

pub returns-clause-sent : goal.returns-clause-sent
returns-clause-sent c =
    all_sent c.args.core.now c.args.count c.add_all.new.self c.sent.new.self c.sent.ensures.pending c.sent.ensures.writer c.sent.ensures.others (search rules)

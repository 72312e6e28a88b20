use Rattle.relay_program.proofs.Serving.{printed_recorded, printed_served, printed_whole}
use Rattle.relay_program.proofs.replay_law.what_a_replay_prints.Goals as goal

pub returns-clause-sent : goal.returns-clause-sent
returns-clause-sent c = printed_served

pub returns-clause-whole : goal.returns-clause-whole
returns-clause-whole c = printed_whole

pub returns-clause-files : goal.returns-clause-files
returns-clause-files c = printed_recorded

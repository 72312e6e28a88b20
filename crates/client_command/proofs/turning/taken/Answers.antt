use Rattle.client_command.proofs.Telling.{live_without, runs_without, taken_fine}
use Rattle.client_command.proofs.turning.taken.Goals as goal

pub returns-clause-live : goal.returns-clause-live
returns-clause-live c = live_without c.args.client.now c.take.new.self c.take.ensures.left c.take.ensures.others c.requires.live

pub returns-clause-fine : goal.returns-clause-fine
returns-clause-fine c = taken_fine c.messages_are_short.ensures c.args.client.now c.take.result c.take.ensures.gift c.requires.live

pub returns-clause-goes : goal.returns-clause-goes
returns-clause-goes c = λ k start now n m r. runs_without k c.args.client.now c.take.new.self start now n m c.take.ensures.left c.take.ensures.others r

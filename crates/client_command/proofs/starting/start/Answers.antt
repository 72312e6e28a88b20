use Rattle.client_command.proofs.Begun.{new_is, new_live}
use Rattle.client_command.proofs.starting.start.Goals as goal

pub returns-clause-fresh : goal.returns-clause-fresh
returns-clause-fresh c = new_is c.new.result c.new.ensures.past c.new.ensures.keeps c.new.ensures.others c.new.ensures.input

pub returns-clause-live : goal.returns-clause-live
returns-clause-live c = new_live c.new.result c.new.ensures.lives c.new.ensures.max c.new.ensures.stands c.new.ensures.input

use Rattle.stream_law.proofs.Others.{alone_lawful, alone_items, alone_holder, alone_spell, alone_turns}
use Rattle.stream_law.proofs.players.alone_law.Goals as goal

pub returns-clause-lawful : goal.returns-clause-lawful
returns-clause-lawful c = alone_lawful

pub returns-clause-items : goal.returns-clause-items
returns-clause-items c = alone_items

pub returns-clause-holder : goal.returns-clause-holder
returns-clause-holder c = alone_holder

pub returns-clause-answers : goal.returns-clause-answers
returns-clause-answers c = alone_spell

pub returns-clause-turns : goal.returns-clause-turns
returns-clause-turns c = alone_turns

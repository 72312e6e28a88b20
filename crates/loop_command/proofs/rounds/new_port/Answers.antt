use Rattle.loop_command.proofs.Beginning.{few_names, new_port}
use Rattle.loop_command.proofs.rounds.new_port.Goals as goal

pub new-requires-2 : goal.new-requires-2
new-requires-2 c = few_names c.in_ok-names.names c.new.result c.in_ok-names.ensures c.new.ensures

pub returns : goal.returns
returns c = new_port c.new-2.result c.in_ok-names.names c.new.result c.in_ok-names.ensures c.new.ensures c.new-2.ensures

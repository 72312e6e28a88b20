use Rattle.loop_command.proofs.Settling.{still}
use Rattle.loop_command.proofs.ending.still_law.Goals as goal

pub returns : goal.returns
returns c = λ t. still c.args.session.now c.pending.result c.pending.ensures.value c.pending.ensures.owed t

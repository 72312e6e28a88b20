use Rattle.loop_command.proofs.Beginning.{line_begins}
use Rattle.loop_command.proofs.line.new_line.Goals as goal

pub returns-in-Ok-clause-new : goal.returns-in-Ok-clause-new
returns-in-Ok-clause-new c =
    let e = c.in-Ok.ensures in
    line_begins c.args.wish c.args.who c.in-Ok.client c.in_ok-session.session c.line_of.result c.line_of.ensures e.asked e.fresh e.live
    c.in_ok-session.ensures.new

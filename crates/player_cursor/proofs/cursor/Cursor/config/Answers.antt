use Rattle.player_cursor.proofs.Standing.{stands_configured}
use Rattle.player_cursor.proofs.cursor.Cursor.config.Goals as goal

pub returns-clause-stands : goal.returns-clause-stands
returns-clause-stands c = λ items numbers stands lt is. rw c.set_last.ensures (stands_configured items numbers c.args.slot c.args.n c.args.self.now stands lt is)

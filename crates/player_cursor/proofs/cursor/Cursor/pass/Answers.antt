use Rattle.player_cursor.proofs.Standing.{stands_passed}
use Rattle.player_cursor.proofs.cursor.Cursor.pass.Goals as goal

pub returns-clause-stands : goal.returns-clause-stands
returns-clause-stands c = λ items numbers x stands is head. rw (c.move_past.ensures, head) (stands_passed items numbers x c.args.sent c.args.self.now stands is)

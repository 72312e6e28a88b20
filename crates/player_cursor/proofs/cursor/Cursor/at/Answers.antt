use Rattle.player_cursor.proofs.Standing.{stands_fresh}
use Rattle.player_cursor.proofs.cursor.Cursor.at.Goals as goal

pub returns-clause-stands : goal.returns-clause-stands
returns-clause-stands c = λ items le. stands_fresh c.args.n items le

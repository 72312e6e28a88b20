use Rattle.player_cursor.proofs.Standing.{stands_skipped, skipped_onto_key}
use Rattle.player_cursor.proofs.cursor.Cursor.skip.Goals as goal

pub returns-clause-stands : goal.returns-clause-stands
returns-clause-stands c = λ items numbers stands within is end.
    rw c.move_to.ensures (stands_skipped items numbers c.args.self.now c.args.to c.args.last_video stands c.requires within is end)

pub returns-clause-onto_key : goal.returns-clause-onto_key
returns-clause-onto_key c = λ items is key.
    rw c.move_to.ensures (skipped_onto_key items c.args.self.now c.args.to c.args.last_video c.requires is key)

use Rattle.std.proofs.Common.{subst, sym}
use Rattle.client_law.specs.Room.{BringsRoom}
use Rattle.loop_command.proofs.Settling.{brings_none}
use Rattle.loop_command.proofs.ending.brings_room.Goals as goal

pub returns-in-Sent : goal.returns-in-Sent
returns-in-Sent c = subst (BringsRoom 4194304) (sym c.in-Sent.is) c.item_has_room.ensures

pub returns-in_default : goal.returns-in_default
returns-in_default c = brings_none c.args.reply.now c.in_default.not-Sent

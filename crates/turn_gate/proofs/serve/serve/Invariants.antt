use Rattle.std.specs.Prelude.{Some}
use Rattle.turn_gate.proofs.serve.serve.Given as goal

abbrev pub ghosts-free_after : goal.ghosts-free_after
ghosts-free_after g a = record { entry = Some (a.call.now.value, a.reply.now) }

use Rattle.std.proofs.Common.{◌≡◌, ◌∙◌, false, sym, true}
use Rattle.loop_command.proofs.line.is_idle.Goals as goal

pub returns-in-Nothing : goal.returns-in-Nothing
returns-in-Nothing c = λ e. sym c.active.ensures ∙ c.in-Nothing.is

pub returns-in-Publishes : goal.returns-in-Publishes
returns-in-Publishes c = λ e. absurd (let f : false ≡ true = e in cc)

pub returns-in-Plays : goal.returns-in-Plays
returns-in-Plays c = λ e. absurd (let f : false ≡ true = e in cc)

-- The command that the words of the command line ask for.
use Rattle.std.specs.Prelude.{ℕ, List, None, Some, is_some, if◌then◌else◌}
use Rattle.std.specs.declared.option.Option.{Option}
use Rattle.relay_program.specs.declared.runs.Command.{Command}
use Rattle.relay_program.specs.declared.runs.Command.TheVariants.{Drill, Replay, Soak, Remux, Check}
use Rattle.file_commands.specs.Words.{is_check, is_remux}
use Rattle.relay_program.specs.Soaked.{units_asked}
use Rattle.relay_program.specs.Words.{is_drill, is_replay}

abbrev pub command_of : List (List ℕ) → Option Command
command_of words =
    if is_drill words then Some Drill
    else (if is_replay words then Some Replay
    else (if is_some (units_asked words) then Some Soak
    else (if is_remux words then Some Remux
    else (if is_check words then Some Check
    else None))))

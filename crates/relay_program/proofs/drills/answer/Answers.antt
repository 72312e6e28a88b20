use Rattle.std.proofs.Common.{refl}
use Rattle.relay_script.specs.Lines.{meaning}
use Rattle.relay_program.specs.Drill.{after_line}
use Rattle.relay_program.specs.Parts.{said_by}
use Rattle.relay_program.proofs.Known.{no_part_written}
use Rattle.relay_program.proofs.drills.answer.Goals as goal

pub returns-in-Err-OutOfMemory-clause-says : goal.returns-in-Err-OutOfMemory-clause-says
returns-in-Err-OutOfMemory-clause-says g c = no_part_written (said_by (after_line (meaning c.args.line.now) c.args.made.now)) _ _ refl

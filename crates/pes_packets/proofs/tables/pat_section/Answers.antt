use Rattle.std.proofs.Common.{sym}
use Rattle.pes_packets.proofs.Sections.{pat_is}
use Rattle.pes_packets.proofs.tables.pat_section.Goals as goal

pub returns-clause-section : goal.returns-clause-section
returns-clause-section c = sym pat_is

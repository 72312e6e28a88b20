use Rattle.std.proofs.Common.{◌∙◌, ap}
use Rattle.pes_packets.specs.Crc.{crc_of}
use Rattle.pes_packets.proofs.Sections.{section_is}
use Rattle.pes_packets.proofs.tables.pmt_section.Goals as goal

pub returns-clause-section : goal.returns-clause-section
returns-clause-section c =
    section_is c.args.video c.args.audio c.args.version c.choice.result c.choice-2.result c.choice-clock.result c.crc-check.result c.append.new.self c.put_entry.new.section c.put_entry-2.new.section c.append-2.new.self
    c.requires c.choice.ensures c.choice-2.ensures c.choice-clock.ensures (rw c.new-section.ensures at c.in_ok-append.ensures.ok) c.in_ok-put_entry.ensures.ok c.in_ok-put_entry-2.ensures.ok
    (c.crc-check.ensures ∙ ap crc_of c.as_slice.ensures) (rw c.to_be_bytes.ensures at c.in_ok-append-2.ensures.ok)

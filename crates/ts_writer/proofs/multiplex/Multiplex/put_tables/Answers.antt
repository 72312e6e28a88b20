use Rattle.std.proofs.Common.{◌++◌, List, ap, ◌∙◌}
use Rattle.ts_writer.specs.Parts.{part_text}
use Rattle.ts_writer.specs.declared.part.Part.{Part}
use Rattle.ts_writer.specs.declared.part.Part.TheVariants.{Tables}
use Rattle.ts_writer.proofs.Keeping.{small_pat, small_pmt}
use Rattle.ts_writer.proofs.Texts.{tables_text, small_version}
use Rattle.ts_writer.proofs.multiplex.Multiplex.put_tables.Goals as goal

pub pmt_section-requires : goal.pmt_section-requires
pmt_section-requires c = small_version c.args.streams c.version_of-version.result c.self.inside.parts (c.version_of-version.ensures c.self.inside.parts c.self.invariant)

pub put_section-requires-clause-counter : goal.put_section-requires-clause-counter
put_section-requires-clause-counter c = small_pat c.self.inside.ahead c.self.inside.parts c.self.invariant

pub put_section-requires-2-clause-counter : goal.put_section-requires-2-clause-counter
put_section-requires-2-clause-counter c = small_pmt c.self.inside.ahead c.self.inside.parts c.self.invariant

pub returns-clause-text : goal.returns-clause-text
returns-clause-text c =
    tables_text c.args.streams c.self.inside.ahead c.version_of-version.result c.self.inside.parts c.pat_section.result.now c.as_slice.result.now c.args.out.now c.put_section.new.out c.put_section-2.new.out
    c.self.invariant (c.version_of-version.ensures c.self.inside.parts c.self.invariant) c.pat_section.ensures.section (c.as_slice.ensures ∙ c.in_ok-section.ensures.section) c.in_ok-pat.ensures.ok c.in_ok-pmt.ensures.ok
    ∙ ap (λ (x : List Part). c.args.out.now ++ part_text x (Tables c.args.streams)) c.self.view_is

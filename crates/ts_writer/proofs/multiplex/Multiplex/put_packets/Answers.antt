use Rattle.std.proofs.Common.{◌++◌, List, ℕ, ap, ◌∙◌}
use Rattle.ts_writer.specs.Parts.{part_text}
use Rattle.ts_writer.specs.declared.part.Part.{Part}
use Rattle.ts_writer.specs.declared.part.Part.TheVariants.{Pes}
use Rattle.ts_writer.proofs.Keeping.{small_chosen, next_chosen}
use Rattle.ts_writer.proofs.Texts.{pes_is}
use Rattle.ts_writer.proofs.multiplex.Multiplex.put_packets.Goals as goal

pub put_pes-requires-clause-counter : goal.put_pes-requires-clause-counter
put_pes-requires-clause-counter c = small_chosen c.self.inside.ahead c.args.pes.video c.choice-counter.result c.self.inside.parts c.self.invariant c.choice-counter.ensures

pub after_pes-self-inside-requires : goal.after_pes-self-inside-requires
after_pes-self-inside-requires c ps is =
    next_chosen c.self.inside.ahead c.args.pes c.choice-counter.result c.in_ok-next.next c.as_slice.result.now ps c.as_slice.ensures c.choice-counter.ensures c.in_ok-next.ensures.next is

pub returns-clause-text : goal.returns-clause-text
returns-clause-text c =
    c.in_ok-next.ensures.ok
    ∙ ap (λ (t : List ℕ). c.args.out.now ++ t)
    (pes_is c.args.pes c.self.inside.ahead c.pid_of.result c.choice-counter.result c.as_slice.result.now c.self.inside.parts c.self.invariant c.pid_of.ensures c.choice-counter.ensures c.as_slice.ensures)
    ∙ ap (λ (x : List Part). c.args.out.now ++ part_text x (Pes c.args.pes)) c.self.view_is

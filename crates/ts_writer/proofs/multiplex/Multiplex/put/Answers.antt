use Rattle.std.proofs.Common.{sym, ◌∙◌}
use Rattle.std.proofs.lemmas.Result.{IfOk-equal}
use Rattle.ts_writer.proofs.Texts.{with_tables, without_tables}
use Rattle.ts_writer.proofs.multiplex.Multiplex.put.Goals as goal
use Rattle.ts_writer.proofs.multiplex.Multiplex.put.Goals.{then-owes_tables+in_ok-put_tables, else-owes_tables}

pub returns-clause-text : goal.returns-clause-text
returns-clause-text c =
    IfOk-equal c.put_packets.result _ _ _ c.put_packets.ensures.text
    (elim c.if-owes_tables.branch [
      | then-owes_tables+in_ok-put_tables w ↦
          with_tables c.args.streams c.args.framed c.flags-flags.result c.args.self.now c.if-owes_tables.self c.args.out.now c.if-owes_tables.out (sym c.owes_tables.ensures ∙ w.if-owes_tables.true)
          (w.out-is ∙ w.in_ok-put_tables.ensures.text) (w.self-is ∙ w.in_ok-put_tables.ensures.parts) c.flags-flags.ensures.flags
      | else-owes_tables w ↦
          without_tables c.args.streams c.args.framed c.flags-flags.result c.args.self.now c.if-owes_tables.self c.args.out.now c.if-owes_tables.out (sym c.owes_tables.ensures ∙ w.if-owes_tables.false)
          w.out-is w.self-is c.flags-flags.ensures.flags
    ])

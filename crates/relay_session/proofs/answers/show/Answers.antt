use Rattle.std.proofs.Common.{sym, ◌∙◌, ◌≤◌, subst, List}
use Rattle.chunk_wire.specs.declared.message.Message.{Message}
use Rattle.relay_session.specs.Owing.{AreWritable, costs_of}
use Rattle.relay_session.proofs.Answering.{shown_can_begin, shown_can_end, shown_few_begin, shown_few_end}
use Rattle.relay_session.proofs.answers.show.Goals as goal

pub show_all-requires-clause-writable : goal.show_all-requires-clause-writable
show_all-requires-clause-writable c = subst AreWritable (sym (c.as_slice.ensures ∙ c.in_ok-list-in-Begin.ensures)) (shown_can_begin c.args.id)

pub show_all-requires-in-End-clause-writable : goal.show_all-requires-in-End-clause-writable
show_all-requires-in-End-clause-writable c = subst AreWritable (sym (c.as_slice-in-End.ensures ∙ c.in_ok-list-in-End.ensures)) (shown_can_end c.args.id)

pub show_all-requires-clause-few : goal.show_all-requires-clause-few
show_all-requires-clause-few c = subst (λ (l : List Message). costs_of l ≤ 8000) (sym (c.as_slice.ensures ∙ c.in_ok-list-in-Begin.ensures)) (shown_few_begin c.args.id)

pub show_all-requires-in-End-clause-few : goal.show_all-requires-in-End-clause-few
show_all-requires-in-End-clause-few c = subst (λ (l : List Message). costs_of l ≤ 8000) (sym (c.as_slice-in-End.ensures ∙ c.in_ok-list-in-End.ensures)) (shown_few_end c.args.id)

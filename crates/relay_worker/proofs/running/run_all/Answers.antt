use Rattle.std.proofs.Common.{◌<◌, subst}
use mir.Syntax.{of_param}
use denote.Exit.{yes, unseen}
use denote.Param.{param}
use denote.Param.Send.{param_send, arg_send, Quiet-if}
use Rattle.relay_worker.proofs.Crossing.{worker_send}
use Rattle.relay_worker.proofs.running.run_all.Goals as goal

pub for_each_mut-requires-send-T : goal.for_each_mut-requires-send-T
for_each_mut-requires-send-T g c κs within =
    param_send 1 _ (arg_send _ yes _ (worker_send (param 1 g.row.P) (param 6 g.row.P-Pass) g.P.StreamPort (param 2 g.row.D) (param 3 g.row.R) (param 4 g.row.K) (param 7 g.row.D-Link)
    g.D.Door g.D.Link.Link g.K.Sink c.type_bounds.send-P c.type_bounds.send-D c.type_bounds.send-R c.type_bounds.send-K c.type_bounds.send-P-Pass c.type_bounds.send-D-Link))

pub returns-clause-run : goal.returns-clause-run
returns-clause-run g c = λ i d l. let t = (c.for_each_mut.ensures i d (subst (λ n. i < n) c.for_each_mut.auto.s l)).1 in rw (← t.left) t.call.0

pub returns-clause-keeps : goal.returns-clause-keeps
returns-clause-keeps g c = λ i d l. let t = (c.for_each_mut.ensures i d l).1 in rw (← t.argument_is, ← t.left) t.call.1

pub returns-clause-tallies : goal.returns-clause-tallies
returns-clause-tallies g c = λ i d l. let t = (c.for_each_mut.ensures i d l).1 in rw (← t.argument_is, ← t.left) t.call.2

pub returns-clause-books : goal.returns-clause-books
returns-clause-books g c = λ i d l. let t = (c.for_each_mut.ensures i d l).1 in rw (← t.argument_is, ← t.left) t.call.3

pub returns-clause-rounds : goal.returns-clause-rounds
returns-clause-rounds g c = λ i d l. let t = (c.for_each_mut.ensures i d l).1 in rw (← t.argument_is, ← t.left) t.call.4

pub for_each_mut-requires-clause-accepts : goal.for_each_mut-requires-clause-accepts
for_each_mut-requires-clause-accepts g c κs within = λ i p l e.
    let b = c.type_bounds in (
      c.requires.offered i p.now l e,
      (
        record { owned = b.send-P.owned; leaving = λ k. Quiet-if (k (of_param 1)) unseen unseen (λ x w. tt) (λ x w. tt) },
        record { owned = b.send-D.owned; leaving = λ k. Quiet-if (k (of_param 2)) unseen unseen (λ x w. tt) (λ x w. tt) },
        record { owned = b.send-R.owned; leaving = λ k. Quiet-if (k (of_param 3)) unseen unseen (λ x w. tt) (λ x w. tt) },
        record { owned = b.send-K.owned; leaving = λ k. Quiet-if (k (of_param 4)) unseen unseen (λ x w. tt) (λ x w. tt) },
        record { owned = b.send-P-Pass.owned; leaving = λ k. Quiet-if (k (of_param 6)) unseen unseen (λ x w. tt) (λ x w. tt) },
        record { owned = b.send-D-Link.owned; leaving = λ k. Quiet-if (k (of_param 7)) unseen unseen (λ x w. tt) (λ x w. tt) },
        record { shared = b.sync-T.shared },
        record { shared = b.sync-G.shared },
      ),
    )

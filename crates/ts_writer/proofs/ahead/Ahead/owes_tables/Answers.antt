use Rattle.std.proofs.Common.{◌≡◌, true, sym, ap, ◌∙◌}
use Rattle.std.specs.Prelude.{◌||◌, Bool}
use Rattle.ts_writer.proofs.Keeping.{due_new, due_random, not_due, or_second, due_sounds}
use Rattle.ts_writer.proofs.ahead.Ahead.owes_tables.Goals as goal
use Rattle.ts_writer.proofs.ahead.Ahead.owes_tables.Goals.{then-not-lists-via-then-not-lists, then-not-lists-via-else-not-lists+then-random, then-streams-via-then-streams, then-streams-via-else-streams+then-video}

pub returns-then-not-lists : goal.returns-then-not-lists
returns-then-not-lists c ps is =
    elim c.then-not-lists.branch [
      | then-not-lists-via-then-not-lists w ↦ sym (due_new c.args.streams c.args.video c.args.random ps (sym (c.lists.ensures ps is) ∙ w.if-not-lists.true))
      | then-not-lists-via-else-not-lists+then-random w ↦ sym (due_random c.args.streams c.args.video c.args.random ps w.if-random.true)
    ]

pub returns-then-streams : goal.returns-then-streams
returns-then-streams c ps is =
    let one : (c.args.streams.video || c.args.video) ≡ true =
    elim c.then-streams.branch [
      | then-streams-via-then-streams w ↦ ap (λ (b : Bool). b || c.args.video) w.if-streams.true
      | then-streams-via-else-streams+then-video w ↦ or_second c.args.streams.video c.args.video w.if-video.true
    ] in
    sym (not_due c.args.streams c.args.video c.args.random ps (sym (c.lists.ensures ps is) ∙ c.if-not-lists.false) c.if-random.false one)

pub returns : goal.returns
returns c ps is =
    due_sounds c.args.self c.args.streams c.args.video c.args.random ps is (sym (c.lists.ensures ps is) ∙ c.if-not-lists.false) c.if-random.false c.if-streams.false c.if-video.false

use Rattle.std.proofs.Common.{◌≡◌, ℕ, refl, sym, ap}
use Rattle.std.proofs.lemmas.Bool.{eq-eqb}
use Rattle.session_owed.specs.Acks.{window_by}
use Rattle.rtmp_client.proofs.Answering.{on_err, on_ok}
use Rattle.rtmp_client.proofs.Telling.{command_window}
use Rattle.rtmp_client.proofs.answers.answer.Goals as goal

pub returns-then-message-eq20-clause-window : goal.returns-then-message-eq20-clause-window
returns-then-message-eq20-clause-window c =
    let i = c.args.inbound.now in
    let m = c.args.message in
    on_ok c.answer_command.result (i ≡ record { window = window_by i.window m; taken = i.taken })
    (ap (λ (w : ℕ). record { window = w; taken = i.taken }) (sym (command_window i.window m (eq-eqb m.kind 20 c.if-message-eq20.true))))

pub returns-clause-still : goal.returns-clause-still
returns-clause-still c = on_err c.answer_other.result (c.args.phase.now ≡ c.args.phase.now) refl

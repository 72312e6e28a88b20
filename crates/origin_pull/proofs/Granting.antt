-- An edge whose calls were granted publishes where they leave a broadcast live
use Rattle.std.proofs.Common.{◌≡◌, ℕ, Bool, true, false, List, [], ◌∷◌, refl, ap, ◌∙◌}
use Rattle.std.proofs.lemmas.Bool.{false≢true}
use Rattle.stream_model.specs.declared.calls.Call.{Call}
use Rattle.stream_model.specs.declared.calls.Call.TheVariants as call
use Rattle.stream_model.specs.declared.calls.Entry.{Entry}
use Rattle.stream_model.specs.declared.replies.Reply.{Reply}
use Rattle.stream_model.specs.declared.replies.Reply.TheVariants as reply
use Rattle.session_owed.specs.Talk.{Own}
use Rattle.client_owed.specs.declared.types.Gift.{Gift}
use Rattle.relay_session.specs.SeatState.{active_after}
use Rattle.relay_session.specs.declared.seat_answers.Active.{Active}
use Rattle.relay_session.specs.declared.seat_answers.Active.TheVariants as active
use Rattle.origin_calls.specs.Calls.{edge_calls, entries, live_after}
use Rattle.origin_calls.specs.Relayed.{is_granted}
use Rattle.origin_calls.proofs.Alone.{live_call, live_calls, live_from}
use Rattle.origin_pull.specs.Keeping.{AllGranted, active_if, granted_by, made}

granted_step : (c : Call) (r : Reply) (live : Bool) → is_granted c r ≡ true → active_after r (active_if live) ≡ active_if (live_call c live)
granted_step call.Begin (reply.Began n) live e = refl
granted_step call.Begin _ live e = absurd (false≢true e)
granted_step (call.Push u) (reply.Pushed n) live e = refl
granted_step (call.Push u) _ live e = absurd (false≢true e)
granted_step call.End (reply.Ended n) live e = refl
granted_step call.End _ live e = absurd (false≢true e)
granted_step _ r live e = absurd (false≢true e)

abbrev calls_in : List Entry → List Call
calls_in [] = []
calls_in (e ∷ es) = e.call ∷ calls_in es

in_entries : (who : ℕ) (cs : List Call) → calls_in (entries who cs) ≡ cs
in_entries who [] = refl
in_entries who (c ∷ cs) = ap (λ (l : List Call). c ∷ l) (in_entries who cs)

granted_all : (live : Bool) (C : List Own) → AllGranted C → granted_by (active_if live) C ≡ active_if (live_from live (calls_in (made C)))
granted_all live [] g = refl
granted_all live (c ∷ C) g = ap (λ (a : Active). granted_by a C) (granted_step c.0.call c.1 live g.0) ∙ granted_all (live_call c.0.call live) C g.1

pub granted_live : (who : ℕ) (gs : List Gift) (C : List Own) → made C ≡ entries who (edge_calls false gs) → AllGranted C
    → granted_by active.Nothing C ≡ active_if (live_after false gs)
granted_live who gs C e g =
    granted_all false C g ∙ ap (λ (es : List Entry). active_if (live_from false (calls_in es))) e
    ∙ ap (λ (cs : List Call). active_if (live_from false cs)) (in_entries who (edge_calls false gs))
    ∙ ap active_if (live_calls false gs)

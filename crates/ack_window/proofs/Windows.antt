-- Which window of an `Outbound` is in effect after calls.
use Rattle.std.proofs.Common.{ℕ, ◌<◌, ◌≡◌, ◌∙◌, List, [], ◌∷◌, ◌++◌, min, refl, arith}
use Rattle.std.proofs.lemmas.Bool.Decides.{nat_tests}
use Rattle.ack_window.specs.Window.{window_of}
use Rattle.ack_window.specs.Outbound.{OutWindow, new_out, out_set, out_sent, out_acked, limited}
use Rattle.ack_window.specs.OutboundRuns.{OutCall, Set, Sent, Acked, out_after_all, outbound, KeepsWindow}
use Rattle.ack_window.proofs.Kept.{all_append}

-- another limit than 0 and 1
other_limit : (window size limit : ℕ) → 1 < limit → limited window size limit ≡ window
other_limit window size limit h = grind (arith, nat_tests)

stays : (s : OutWindow) (calls : List OutCall) → KeepsWindow calls → (out_after_all s calls).window ≡ s.window
stays s [] keeps = refl
stays s (Set size limit ∷ calls) keeps = stays (out_set s size limit) calls keeps.1 ∙ other_limit s.window size limit keeps.0
stays s (Sent n ∷ calls) keeps = stays (out_sent s n) calls keeps
stays s (Acked value ∷ calls) keeps = stays (out_acked s value) calls keeps

pub set_is : (first size : ℕ) (before after : List OutCall) → KeepsWindow after
    → (outbound first (before ++ (Set size 0 ∷ after))).window ≡ window_of size
set_is first size before after keeps =
    rw (all_append (new_out first) before (Set size 0 ∷ after)) (stays (out_set (outbound first before) size 0) after keeps)

pub lesser_is : (first size : ℕ) (before after : List OutCall) → KeepsWindow after
    → (outbound first (before ++ (Set size 1 ∷ after))).window ≡ min (outbound first before).window (window_of size)
lesser_is first size before after keeps =
    rw (all_append (new_out first) before (Set size 1 ∷ after)) (stays (out_set (outbound first before) size 1) after keeps)

pub first_is : (first : ℕ) (calls : List OutCall) → KeepsWindow calls → (outbound first calls).window ≡ window_of first
first_is first calls keeps = stays (new_out first) calls keeps

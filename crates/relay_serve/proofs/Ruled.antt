-- Recorders and passes by the rules of a port
use Rattle.std.proofs.Common.{◌≡◌, ℕ, ◌<◌, ◌+◌, [], ◌∷◌, ◌++◌, length, length-append, take, ap, ◌∙◌, subst, arith, Some, slice_get}
use Rattle.std.proofs.lemmas.List.{take_all, take-append-le}
use Rattle.turn_gate.specs.Known.{PassKnown}
use Rattle.media_recorder.specs.Ports.{FitsIf}
use Rattle.stream_registry.specs.Names.{PortRules}
use Rattle.stream_registry.specs.Pasts.{Attempt}
use Rattle.stream_registry.specs.Roots.{gates}
use Rattle.stream_registry.specs.SharedState.{Streams, shared_rules}
use Rattle.stream_registry.specs.declared.place_table.Site.{Site}
use Rattle.relay_worker.specs.declared.recorder.Recorder.{Recorder}
use Rattle.relay_worker.specs.Filed.{form_of, state_of}
use Rattle.relay_worker.specs.Running.{Label, label_of}
use Rattle.relay_worker.specs.declared.recorder.RecordingForm.{RecordingForm}
use Rattle.relay_worker.specs.Benches.{IsFiled}
use Rattle.std.proofs.lemmas.List.Elements.{All-weaker}
use Rattle.std.specs.Prelude.{All, List}
use Rattle.relay_serve.specs.Starts.{HasRules, IsFiledBy}

pub popped : {X : Type 0} (xs ys : List X) (x : X) → xs ≡ ys ++ x ∷ [] → length xs ≡ length ys + 1
popped xs ys x e = ap length e ∙ length-append ys (x ∷ [])

pub kept_all : {X : Type 0} (n : ℕ) (xs ys : List X) → length xs ≡ n → take n (xs ++ ys) ≡ xs
kept_all {X} n xs ys l = take-append-le n xs ys (omega (arith, l)) ∙ take_all n xs (omega (arith, l))

abbrev label : ℕ → ℕ → RecordingForm → ℕ → Label
label who place form longest = record { who = who; place = place; form = form; longest = longest }

module _ {K : Type 0} where
  pub label_same : (r s : Recorder Streams K (PassKnown Site Attempt)) → (state_of s).seat.who ≡ (state_of r).seat.who
      → (state_of s).seat.place ≡ (state_of r).seat.place → form_of s ≡ form_of r → (state_of s).tape.longest ≡ (state_of r).tape.longest
      → label_of s ≡ label_of r
  label_same r s who place form longest =
      ap (λ (n : ℕ). label n (state_of s).seat.place (form_of s) (state_of s).tape.longest) who
      ∙ (ap (λ (n : ℕ). label (state_of r).seat.who n (form_of s) (state_of s).tape.longest) place
      ∙ (ap (λ (f : RecordingForm). label (state_of r).seat.who (state_of r).seat.place f (state_of s).tape.longest) form
      ∙ ap (label (state_of r).seat.who (state_of r).seat.place (form_of r)) longest))

  pub filed_by : (rules : PortRules) (port : Streams) (r : Recorder Streams K (PassKnown Site Attempt)) → HasRules rules port
      → (state_of r).seat.place < length (shared_rules port).names
      → FitsIf (λ (p : PassKnown Site Attempt). slice_get (gates port.roots) (state_of r).seat.place ≡ Some p.gate) (state_of r).seat.pass → IsFiledBy rules r
  filed_by rules port r e l f = record {
    there = subst (λ (q : PortRules). (state_of r).seat.place < length q.names) e l;
    fit = subst (λ (q : PortRules). FitsIf (λ (p : PassKnown Site Attempt). slice_get q.gates (state_of r).seat.place ≡ Some p.gate) (state_of r).seat.pass) e f;
  }

  pub filed_all : (rules : PortRules) (port : Streams) (rs : List (Recorder Streams K (PassKnown Site Attempt))) → HasRules rules port
      → All (IsFiled (λ (place : ℕ) (p : PassKnown Site Attempt). slice_get (gates port.roots) place ≡ Some p.gate) (length (shared_rules port).names)) rs → All (IsFiledBy rules) rs
  filed_all rules port rs e all =
      All-weaker (IsFiled (λ (place : ℕ) (p : PassKnown Site Attempt). slice_get (gates port.roots) place ≡ Some p.gate) (length (shared_rules port).names)) (IsFiledBy rules)
      (λ r f. filed_by rules port r e f.there f.fit) rs all

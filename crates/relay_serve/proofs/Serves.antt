-- A new worker that was given its recorders is one of the server
use Rattle.std.proofs.Common.{◌≡◌, ◌∙◌, ◌++◌, ℕ, List, [], map, Option, ap, subst, sym}
use Rattle.std.specs.Prelude.{All}
use Rattle.std.proofs.lemmas.List.Elements.{All-nil}
use Rattle.relay_config.specs.declared.config.Config.{Config}
use Rattle.relay_outside.specs.Doors.{DoorTold}
use Rattle.relay_outside.specs.Told.{LinkCounts, LinkTold}
use Rattle.config_desk.specs.Grants.{granted_from}
use Rattle.relay_worker.specs.Benches.{WorkerState}
use Rattle.relay_worker.specs.declared.bench.Bench.{Bench}
use Rattle.relay_worker.specs.Books.{HasBooks, Works}
use Rattle.relay_worker.specs.Running.{Label, label_of}
use Rattle.relay_worker.specs.declared.bench.Terms.{Terms}
use Rattle.relay_worker.specs.declared.recorder.Recorder.{Recorder}
use Rattle.stream_registry.specs.Gates.{told, told_at}
use Rattle.stream_registry.specs.Pasts.{Attempt}
use Rattle.stream_registry.specs.SharedState.{Streams, shared_rules}
use Rattle.stream_registry.specs.declared.place_table.Site.{Site}
use Rattle.turn_gate.specs.Known.{PassKnown}
use Rattle.relay_serve.specs.Recordings.{recordings_of}
use Rattle.relay_serve.specs.Settling.{Enlists, IsServing}
use Rattle.relay_serve.specs.Starts.{HasTally}

pub serves : {D K L : Type 0} (config : Config) (links : L → Option LinkTold) (counts : L → LinkCounts) (doors : D → DoorTold)
    (holds : K → Option (List ℕ)) (faults : K → ℕ) (number : ℕ) (w w' : WorkerState Streams D K (PassKnown Site Attempt) L) (t : Terms)
    → t.number ≡ number → t.limits ≡ config.limits → t.links ≡ config.links → w.terms ≡ t → w.recorders ≡ []
    → HasBooks shared_rules (λ s. told_at s.roots) (λ p. told p.seen) links counts doors (granted_from 0 config.places config.opens) w
    → Enlists holds faults (recordings_of config number) w w' → IsServing config links counts doors holds faults number w'
serves {D} {K} {L} config links counts doors holds faults number w w' t n l k terms none books e =
    let is : w'.terms ≡ t = e.terms ∙ terms in
    record {
      number_is = ap (λ (s : Terms). s.number) is ∙ n;
      limited = ap (λ (s : Terms). s.limits) is ∙ l;
      links_are = ap (λ (s : Terms). s.links) is ∙ k;
      books =
          subst (λ (b : Bench Streams D (PassKnown Site Attempt) L). Works shared_rules (λ s. told_at s.roots) (λ p. told p.seen) links counts doors
          (granted_from 0 config.places config.opens) w'.terms b) (sym e.bench)
          (subst (λ (s : Terms). Works shared_rules (λ s. told_at s.roots) (λ p. told p.seen) links counts doors
          (granted_from 0 config.places config.opens) s w.bench) (sym e.terms) books);
      labels = e.labels ∙ ap (λ (r : List (Recorder Streams K (PassKnown Site Attempt))). map label_of r ++ recordings_of config number) none;
      tallies = e.tallies (subst (λ (r : List (Recorder Streams K (PassKnown Site Attempt))). All (HasTally holds faults) r) (sym none)
          (All-nil (HasTally holds faults)));
    }

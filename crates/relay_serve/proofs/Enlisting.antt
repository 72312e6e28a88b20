-- Recorders that a worker is given, one after the other
use Rattle.std.proofs.Common.{◌≡◌, ℕ, ◌+◌, ◌-◌, ◌≤◌, ◌%◌, List, [], ◌∷◌, ◌++◌, length, get_or, take, drop, append_assoc, Option, refl, sym, ap, subst, ◌∙◌, arith}
use Rattle.std.specs.Prelude.{map, if◌then◌else◌, ◌==◌}
use Rattle.std.proofs.lemmas.List.{map_push, take_all}
use Rattle.std.proofs.lemmas.List.Elements.{All-push}
use Rattle.relay_worker.specs.Benches.{WorkerState}
use Rattle.relay_worker.specs.Running.{Label, label_of}
use Rattle.relay_worker.specs.declared.recorder.Recorder.{Recorder}
use Rattle.stream_registry.specs.Pasts.{Attempt}
use Rattle.stream_registry.specs.SharedState.{Streams}
use Rattle.stream_registry.specs.declared.place_table.Site.{Site}
use Rattle.turn_gate.specs.Known.{PassKnown}
use Rattle.relay_config.specs.declared.config.PlaceRule.{PlaceRule}
use Rattle.relay_serve.specs.Recordings.{own_from, recordings_at}
use Rattle.relay_serve.specs.Settling.{Enlists}
use Rattle.relay_serve.specs.Starts.{HasTally}

module _ {D K L : Type 0} (holds : K → Option (List ℕ)) (faults : K → ℕ) where
  -- these, and then the others
  pub enlists_then : (recordings others : List Label) (w v u : WorkerState Streams D K (PassKnown Site Attempt) L) → Enlists holds faults recordings w v
      → Enlists holds faults others v u → Enlists holds faults (recordings ++ others) w u
  enlists_then recordings others w v u a b = record {
    bench = b.bench ∙ a.bench;
    terms = b.terms ∙ a.terms;
    labels = b.labels ∙ (ap (λ (l : List Label). l ++ others) a.labels ∙ append_assoc (map label_of w.recorders) recordings others);
    tallies = λ all. b.tallies (a.tallies all);
  }

  -- one more
  pub enlists_one : (w v : WorkerState Streams D K (PassKnown Site Attempt) L) (r : Recorder Streams K (PassKnown Site Attempt)) (label : Label)
      → v ≡ record w { recorders = w.recorders ++ r ∷ [] } → label_of r ≡ label → HasTally holds faults r → Enlists holds faults (label ∷ []) w v
  enlists_one w v r label e l t =
      subst (λ (x : WorkerState Streams D K (PassKnown Site Attempt) L). Enlists holds faults (label ∷ []) w x) (sym e)
      (record {
        bench = refl;
        terms = refl;
        labels = map_push label_of w.recorders r ∙ ap (λ (x : Label). map label_of w.recorders ++ x ∷ []) l;
        tallies = λ all. All-push (HasTally holds faults) w.recorders r all t;
      })

-- what follows the first of a list, as a pattern binds it
pub rest_is : {X : Type 0} (x : X) (xs : List X) → take (length (x ∷ xs) - 1) (drop 1 (x ∷ xs)) ≡ xs
rest_is x xs = take_all (length (x ∷ xs) - 1) xs (omega arith)

pub rest_length : {X : Type 0} (xs : List X) → 1 ≤ length xs → length (take (length xs - 1) (drop 1 xs)) + 1 ≡ length xs
rest_length [] l = absurd (omega (arith, l))
rest_length (x ∷ xs) l = let r = ap length (rest_is x xs) in omega (arith, r)

abbrev pub own_at : ℕ → ℕ → ℕ → ℕ → PlaceRule → List Label
own_at longest workers worker place rule = if place % workers == worker then recordings_at longest place rule else []

-- those of the first place, and of the others
pub own_more : (longest workers worker place : ℕ) (left : List PlaceRule) (rule : PlaceRule) → 1 ≤ length left → rule ≡ get_or left 0 rule
    → own_from longest workers worker place left ≡ own_at longest workers worker place rule ++ own_from longest workers worker (place + 1) (take (length left - 1) (drop 1 left))
own_more longest workers worker place [] rule l e = absurd (omega (arith, l))
own_more longest workers worker place (x ∷ xs) rule l e =
    ap (λ (p : PlaceRule). own_at longest workers worker place p ++ own_from longest workers worker (place + 1) xs) (sym e)
    ∙ ap (λ (ys : List PlaceRule). own_at longest workers worker place rule ++ own_from longest workers worker (place + 1) ys) (sym (rest_is x xs))

-- labels that are there, and those that are left
pub labels_more : (old new own rest left all : List Label) → new ≡ old ++ own → left ≡ own ++ rest → old ++ left ≡ all → new ++ rest ≡ all
labels_more old new own rest left all e f g =
    ap (λ (l : List Label). l ++ rest) e ∙ (append_assoc old own rest ∙ (ap (λ (l : List Label). old ++ l) (sym f) ∙ g))

-- How `edge` ends
use Rattle.std.proofs.Common.{◌≡◌, ◌≢◌, ◌⊎◌, inl, inr, ℕ, Bool, true, List, Option, Some, is_some, refl, sym, ap, ◌∙◌, subst}
use Rattle.std.specs.Io.KnownBytes.{append_known}
use Rattle.std.specs.Prelude.{IfSome}
use Rattle.client_owed.specs.declared.types.Asked.{Asked}
use Rattle.origin_pull.specs.declared.end.EdgeEnd.{EdgeEnd}
use Rattle.origin_pull.specs.declared.end.EdgeEnd.TheVariants as edge
use Rattle.relay_config.specs.Accepts.{Accepts}
use Rattle.relay_config.specs.declared.config.Config.{Config}
use Rattle.relay_outside.specs.Counts.{Rose}
use Rattle.relay_outside.specs.Houses.{Asked as Door, HouseTold}
use Rattle.relay_config.specs.declared.config.ConfigFail.{ConfigFail}
use Rattle.relay_serve.specs.Ends.{EndsAs, Outer, RefusesAs, RunsAs, Seen, seen, unopened_as}
use Rattle.relay_serve.specs.Places.{AreShaped}
use Rattle.relay_serve.specs.Starts.{HasRules}
use Rattle.relay_serve.specs.Taking.{TakesText}
use Rattle.relay_serve.specs.declared.serving.Ending.{Ending}
use Rattle.relay_serve.specs.declared.serving.Ending.TheVariants as end
use Rattle.relay_serve.specs.declared.starting.OpenFail.{OpenFail}
use Rattle.relay_serve.specs.declared.starting.OpenFail.TheVariants as opened
use Rattle.rtmp_client.specs.declared.end.ClientEnd.{ClientEnd}
use Rattle.stream_model.specs.declared.calls.Shape.{Shape}
use Rattle.stream_registry.specs.Gates.{tells}
use Rattle.stream_registry.specs.Names.{PortRules}
use Rattle.stream_registry.specs.Pasts.{Attempt}
use Rattle.stream_registry.specs.Refusals.{IsFull}
use Rattle.stream_registry.specs.SharedState.{Streams, shared_rules}
use Rattle.edge_serve.specs.Ends.{BothEndAs, LinesAs, RunsBoth, TellsAs}
use Rattle.edge_serve.specs.Line.{edge_line}
use Rattle.edge_serve.specs.Pulls.{HasPlayed, HasPulled, Origin, edge_name, edge_place}

-- ---- the line

rose_from : (a b c : ℕ) → b ≡ a → Rose b c → Rose a c
rose_from a b c e r = subst (λ (x : ℕ). Rose x c) e r

-- the port that was made for it goes by the rules of the first
pub ruled : (rules : PortRules) (o : Option Streams) (own : Streams) → o ≡ Some own → IfSome o (HasRules rules) → shared_rules own ≡ rules
ruled rules o own e h = subst (λ (q : Option Streams). IfSome q (HasRules rules)) e h

-- one that had memory to the end has ended as it was told
pub same_end : (e f : EdgeEnd) → ((f ≡ e) ⊎ (f ≡ edge.OutOfMemory)) → f ≢ edge.OutOfMemory → f ≡ e
same_end e f (inl s) n = s
same_end e f (inr m) n = absurd (n m)

-- what is known of an edge whose line stands behind a report
pub record IsTold (k : Asked) (config : Config) (attempts : ℕ → List Attempt) (e : EdgeEnd) (line : List ℕ) (o o' : Origin) : Type 0 where
  pub client : Option ClientEnd
  pub line_is : line ≡ edge_line e client
  pub shapes : ℕ → Shape
  pub shaped : AreShaped config shapes
  pub pulled : HasPulled k config.limits.max_message edge_name edge_place shapes (tells attempts) e client o o'
  pub full : e ≡ edge.Worn → IsFull (shapes edge_place) (attempts edge_place)

module _ (k : Asked) (config : Config) (attempts : ℕ → List Attempt) (e : EdgeEnd) (line : List ℕ) (o o' : Origin)
    (held held' held'' : Option (List ℕ)) (faults faults' faults'' : ℕ) (house house' : HouseTold) (asked asked' : Option (List Door))
    (named named' : Option (List (List ℕ))) (p : HasPlayed k config.limits.max_message o o') where
  abbrev first : Seen
  first = seen held faults house asked named

  abbrev mid : Seen
  mid = seen held' faults' house' asked' named'

  abbrev last : Seen
  last = seen held'' faults'' house' asked' named'

  served : RunsAs config attempts first mid end.Served → (e ≢ edge.OutOfMemory → IsTold k config attempts e line o o') → (ending : Ending)
      → LinesAs e line held' faults' held'' faults'' ending
      → RunsBoth k config attempts first last o o' ending
  served r t end.Served l =
      let q = t l.0 in (
        record {
          mid = mid;
          served = r.0;
          ended = e;
          client = q.client;
          written = ap (λ (h : Option (List ℕ)). seen h faults'' house' asked' named') (l.1 ∙ ap (λ (x : List ℕ). append_known held' x) q.line_is)
              ∙ ap (λ (n : ℕ). seen (append_known held' (edge_line e q.client)) n house' asked' named') l.2;
          shapes = q.shapes;
          shaped = q.shaped;
          pulled = q.pulled;
          spared = l.0;
          full = q.full;
        },
        l.2 ∙ r.1,
        r.2,
      )
  served r t end.SinkFault l = ((rose_from faults faults' faults'' r.1 l, r.2), p)
  served r t end.OutOfMemory l = (l ∙ r.1, r.2)
  served r t end.HouseFault l = absurd l
  served r t end.BadWords l = absurd l
  served r t end.SourceFault l = absurd l
  served r t end.Refused l = absurd l

  -- behind the workers, by what `conclude` answered
  pub told_runs : (before ending : Ending) → RunsAs config attempts first mid before
      → (before ≡ end.Served → e ≢ edge.OutOfMemory → IsTold k config attempts e line o o') → (before ≢ end.HouseFault)
      → TellsAs before e line held' faults' held'' faults'' ending → RunsBoth k config attempts first last o o' ending
  told_runs end.Served ending r t h l = served r (t refl) ending l
  told_runs end.SinkFault ending r t h l = subst (λ (x : Ending). RunsBoth k config attempts first last o o' x) (sym l.0) ((rose_faults r.0, r.1), p)
    where
      rose_faults : Rose faults faults' → Rose faults faults''
      rose_faults x = subst (λ (n : ℕ). Rose faults n) (sym l.2) x
  told_runs end.OutOfMemory ending r t h l = subst (λ (x : Ending). RunsBoth k config attempts first last o o' x) (sym l.0) (l.2 ∙ r.0, r.1)
  told_runs end.HouseFault ending r t h l = absurd (h refl)
  told_runs end.BadWords ending r t h l = absurd r
  told_runs end.SourceFault ending r t h l = absurd r
  told_runs end.Refused ending r t h l = absurd r

-- nobody could be served
pub unopened_runs : (k : Asked) (config : Config) (attempts : ℕ
    → List Attempt) (held : Option (List ℕ)) (faults : ℕ) (house house' : HouseTold) (asked asked' : Option (List Door))
    (named named' : Option (List (List ℕ))) (fail : OpenFail) (o : Origin)
    → RunsAs config attempts (seen held faults house asked named) (seen held faults house' asked' named') (unopened_as fail)
    → RunsBoth k config attempts (seen held faults house asked named) (seen held faults house' asked' named') o o (unopened_as fail)
unopened_runs k config attempts held faults house house' asked asked' named named' opened.HouseFault o r = (r, refl)
unopened_runs k config attempts held faults house house' asked asked' named named' opened.OutOfMemory o r = r

-- ---- the whole

-- a refusal ends in these two ways alone
abbrev pub RefusesOnly : Ending → Type 0
RefusesOnly end.Refused = Unit {0}
RefusesOnly end.OutOfMemory = Unit {0}
RefusesOnly end.Served = ⊥
RefusesOnly end.SinkFault = ⊥
RefusesOnly end.HouseFault = ⊥
RefusesOnly end.BadWords = ⊥
RefusesOnly end.SourceFault = ⊥

pub refuses_only : (cause : ConfigFail) (held held' : Option (List ℕ)) (faults faults' : ℕ) (ending : Ending)
    → RefusesAs cause held faults held' faults' ending → RefusesOnly ending
refuses_only cause held held' faults faults' end.Refused r = tt
refuses_only cause held held' faults faults' end.OutOfMemory r = tt
refuses_only cause held held' faults faults' end.Served r = absurd r
refuses_only cause held held' faults faults' end.SinkFault r = absurd r
refuses_only cause held held' faults faults' end.HouseFault r = absurd r
refuses_only cause held held' faults faults' end.BadWords r = absurd r
refuses_only cause held held' faults faults' end.SourceFault r = absurd r

-- a configuration that was accepted
pub accepted_ends : (k : Asked) (asked : Option Asked) (old new : Outer) (o o' : Origin) (ending : Ending) → asked ≡ Some k
    → new.source_faults ≡ old.source_faults → (bytes : List ℕ) → TakesText old.left new.left bytes → (config : Config) → Accepts bytes config
    → (attempts : ℕ → List Attempt) → RunsBoth k config attempts old.out new.out o o' ending → BothEndAs asked old new o o' ending
accepted_ends k asked old new o o' end.Served is sound bytes taken config accepts attempts runs =
    record { stream = k; asked_is = is; sound = sound; bytes = bytes; taken = taken; config = config; accepts = accepts; attempts = attempts; runs = runs }
accepted_ends k asked old new o o' end.SinkFault is sound bytes taken config accepts attempts runs =
    record { stream = k; asked_is = is; sound = sound; bytes = bytes; taken = taken; config = config; accepts = accepts; attempts = attempts; runs = runs }
accepted_ends k asked old new o o' end.HouseFault is sound bytes taken config accepts attempts runs =
    record { stream = k; asked_is = is; sound = sound; bytes = bytes; taken = taken; config = config; accepts = accepts; attempts = attempts; runs = runs }
accepted_ends k asked old new o o' end.OutOfMemory is sound bytes taken config accepts attempts runs = (ap is_some is, sound, runs.0, runs.1)
accepted_ends k asked old new o o' end.BadWords is sound bytes taken config accepts attempts runs = absurd runs
accepted_ends k asked old new o o' end.SourceFault is sound bytes taken config accepts attempts runs = absurd runs
accepted_ends k asked old new o o' end.Refused is sound bytes taken config accepts attempts runs = absurd runs

-- one that is refused
pub refused_ends : (asked : Option Asked) (k : Asked) → asked ≡ Some k → (old new : Outer) (o : Origin) (ending : Ending) → EndsAs true old new ending
    → RefusesOnly ending → BothEndAs asked old new o o ending
refused_ends asked k is old new o end.Refused f r = (subst (λ (b : Bool). EndsAs b old new end.Refused) (sym (ap is_some is)) f, refl)
refused_ends asked k is old new o end.OutOfMemory f r = subst (λ (b : Bool). EndsAs b old new end.OutOfMemory) (sym (ap is_some is)) f
refused_ends asked k is old new o end.Served f r = absurd r
refused_ends asked k is old new o end.SinkFault f r = absurd r
refused_ends asked k is old new o end.HouseFault f r = absurd r
refused_ends asked k is old new o end.BadWords f r = absurd r
refused_ends asked k is old new o end.SourceFault f r = absurd r

-- How it ends, by the parts
use Rattle.std.proofs.Common.{◌≡◌, ◌≢◌, ◌⊎◌, ℕ, true, List, Option, Some, refl, ap, inl, inr}
use Rattle.relay_config.specs.declared.config.Config.{Config}
use Rattle.relay_config.specs.declared.config.ConfigFail.{ConfigFail}
use Rattle.relay_config.specs.declared.config.ConfigFail.TheVariants as fail
use Rattle.relay_config.specs.Accepts.{refusal}
use Rattle.relay_serve.specs.declared.serving.Ending.{Ending}
use Rattle.relay_serve.specs.declared.serving.Ending.TheVariants as end
use Rattle.relay_serve.specs.declared.starting.OpenFail.{OpenFail}
use Rattle.relay_serve.specs.declared.starting.OpenFail.TheVariants as opened
use Rattle.relay_serve.specs.Ends.{EndsAs, HouseCause, Outer, RefusesAs, RunsAs, seen, unopened_as}
use Rattle.relay_serve.specs.Taking.{TakesText}
use Rattle.relay_outside.specs.Houses.{Asked, HouseTold}
use Rattle.stream_registry.specs.Pasts.{Attempt}

pub runs_unopened : (config : Config) (attempts : ℕ → List Attempt) (held : Option (List ℕ)) (faults : ℕ) (house house' : HouseTold) (asked asked' : Option (List Asked)) (named named' : Option (List (List ℕ))) (cause : OpenFail)
    → HouseCause cause house house' → RunsAs config attempts (seen held faults house asked named) (seen held faults house' asked' named') (unopened_as cause)
runs_unopened config attempts held faults house house' asked asked' named named' opened.HouseFault h = (h, refl, refl)
runs_unopened config attempts held faults house house' asked asked' named named' opened.OutOfMemory h = (refl, ap (λ (x : HouseTold). x.faults) h)

cause_is : (cause : ConfigFail) (bytes : List ℕ) → cause ≢ fail.OutOfMemory → (cause ≡ fail.OutOfMemory) ⊎ (refusal bytes ≡ Some cause) → refusal bytes ≡ Some cause
cause_is cause bytes n (inl e) = absurd (n e)
cause_is cause bytes n (inr e) = e

pub ends_refused : (old new : Outer) (ending : Ending) (bytes : List ℕ) (cause : ConfigFail) → new.source_faults ≡ old.source_faults
    → TakesText old.left new.left bytes → (cause ≡ fail.OutOfMemory) ⊎ (refusal bytes ≡ Some cause) → new.out.house ≡ old.out.house
    → RefusesAs cause old.out.held old.out.sink_faults new.out.held new.out.sink_faults ending → EndsAs true old new ending
ends_refused old new end.Refused bytes cause s t c h r = (refl, s, record { bytes = bytes; taken = t; cause = cause; refused = cause_is cause bytes r.0 c; reported = r.1; house = h })
ends_refused old new end.OutOfMemory bytes cause s t c h r = (refl, s, r, ap (λ (x : HouseTold). x.faults) h)
ends_refused old new end.Served bytes cause s t c h r = absurd r
ends_refused old new end.SinkFault bytes cause s t c h r = absurd r
ends_refused old new end.HouseFault bytes cause s t c h r = absurd r
ends_refused old new end.BadWords bytes cause s t c h r = absurd r
ends_refused old new end.SourceFault bytes cause s t c h r = absurd r

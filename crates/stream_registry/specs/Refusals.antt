-- Why a shared port didn't make a call, by what its pass then knows of the gate
use Rattle.std.specs.Prelude.{◌≡◌, ◌<◌, ◌^◌, List, [], ◌∷◌, ◌++◌, length}
use Rattle.std.specs.declared.result.Result.TheVariants.{Err}
use Rattle.av_unit.specs.declared.bytes.OutOfMemory.{OutOfMemory}
use Rattle.stream_model.specs.declared.calls.Entry.{Entry}
use Rattle.stream_model.specs.declared.calls.Shape.{Shape}
use Rattle.stream_model.specs.Answer.{IsSent}
use Rattle.stream_model.specs.Shape.{shape_reply}
use Rattle.turn_gate.specs.Histories.{Begins}
use Rattle.turn_gate.specs.Known.{PassKnown, met_once}
use Rattle.stream_registry.specs.declared.place_table.Site.{Site}
use Rattle.stream_registry.specs.declared.port.PortFail.{PortFail}
use Rattle.stream_registry.specs.declared.port.PortFail.TheVariants as fail
use Rattle.stream_registry.specs.Pasts.{Attempt, IsLawfulAt, past_of}

-- the turn was free, there was room in the history, the rules answer the call with an item, and memory was
-- refused for it
pub record IsRefusedMemory (v : PassKnown Site Attempt) (entry : Entry) (w : PassKnown Site Attempt) : Type 0 where
  pub free : w.met ≡ v.met
  pub before : List Attempt
  pub begins : Begins v.seen before
  pub room : length before < 2 ^ 62
  pub sent : IsSent (shape_reply v.gate.about.limits (past_of before) entry)
  pub refusal : OutOfMemory
  pub seen_is : w.seen ≡ before ++ (entry, Err refusal) ∷ []

-- A HISTORY THAT IS FULL: the place has had as many calls as it can count, those for which there was no
-- memory among them. The rules answer the others, and would have answered each of these with an item
pub record IsFull (limits : Shape) (attempts : List Attempt) : Type 0 where
  pub all : length attempts ≡ 2 ^ 62
  pub lawful : IsLawfulAt limits attempts

-- `v` is the pass before the call, and `w` the pass after it
abbrev pub IsRefused : PassKnown Site Attempt → Entry → PortFail → PassKnown Site Attempt → Type 0
-- its swap found the turn held by another pass, and nothing else has changed
IsRefused v entry (fail.Busy e) w = w ≡ met_once v
-- the turn was free, and the history is full
IsRefused v entry (fail.Worn e) w = (w.met ≡ v.met) × IsFull v.gate.about.limits w.seen
IsRefused v entry (fail.OutOfMemory e) w = IsRefusedMemory v entry w

-- The worker of HTTP players, and its door
use Rattle.std.specs.Prelude.{◌≡◌, ℕ, Bool, false, List, [], ◌∷◌, Option, None, Some}
use Rattle.std.specs.List.{range_with_len}
use Rattle.relay_config.specs.Sum.{http_room}
use Rattle.relay_config.specs.declared.config.Config.{Config}
use Rattle.relay_outside.specs.Doors.{DoorTold}
use Rattle.relay_outside.specs.Houses.{Asked, Shut, shut_door}
use Rattle.relay_outside.specs.Told.{LinkCounts, LinkTold}
use Rattle.config_desk.specs.Grants.{granted_from}
use Rattle.http_worker.specs.Benches.{WorkerState}
use Rattle.http_worker.specs.Books.{HasBooks, Settled}
use Rattle.http_worker.specs.declared.bench.Terms.{Terms}
use Rattle.stream_model.specs.declared.calls.Shape.{Shape}
use Rattle.stream_registry.specs.Gates.{told, told_at}
use Rattle.stream_registry.specs.Pasts.{Attempt}
use Rattle.stream_registry.specs.SharedState.{Streams, shared_rules}
use Rattle.stream_registry.specs.Told.{Histories}
use Rattle.stream_registry.specs.declared.place_table.Site.{Site}
use Rattle.turn_gate.specs.Known.{PassKnown}
use Rattle.relay_serve.specs.Settling.{AsksFor, IsShut, TellsMore}

-- the address of the door of the HTTP players, if there is one
abbrev pub doors_at : Option (List ℕ) → List (List ℕ)
doors_at None = []
doors_at (Some at) = at ∷ []

abbrev pub http_doors : Config → List (List ℕ)
http_doors config = doors_at config.http

-- A WORKER OF HTTP PLAYERS: it has the configured limits and as many link places as are configured for them, and
-- its books are kept
pub record IsServingHttp (config : Config) {D L : Type 0} (links : L → Option LinkTold) (counts : L → LinkCounts) (doors : D → DoorTold)
    (w : WorkerState Streams D (PassKnown Site Attempt) L) : Type 0 where
  pub limited : w.terms.limits ≡ config.limits
  pub links_are : w.terms.links ≡ http_room config
  pub books : HasBooks shared_rules (λ s. told_at s.roots) (λ p. told p.seen) links counts doors (granted_from 0 config.places config.opens) w

-- its door was asked for so: at that address, under the number behind those of the other workers, and to
-- close after as many links as are configured
abbrev pub AsksForHttp : Config → List ℕ → Asked → Type 0
AsksForHttp config at asked = asked ≡ record { worker = config.workers; listen = at; accept = config.accept }

-- HOW THE DOORS WERE ASKED FOR: one for each of so many workers, in the order of their numbers, and then that
-- of the HTTP players
pub record AsksAll (config : Config) (workers : ℕ) (before now : Option (List Asked)) : Type 0 where
  pub mid : Option (List Asked)
  pub sessions : TellsMore (AsksFor config) (range_with_len 0 workers) before mid
  pub players : TellsMore (AsksForHttp config) (http_doors config) mid now

module _ (config : Config) (streams : ℕ → Shape) (histories : Histories) (worn : Bool) where
  -- ITS DOOR at its end, where nothing was refused for want of memory, and no player found the history of its
  -- stream full unless `worn` says so: as many links are back as it gave, no more were out at a time than are
  -- configured, and each was sent what its player owes, or a beginning of it, whose calls stand in these histories
  pub record IsBalancedHttp (door : DoorTold) : Type 0 where
    pub terms : Terms
    pub limited : terms.limits ≡ config.limits
    pub links_are : terms.links ≡ http_room config
    pub settled : Settled (granted_from 0 config.places config.opens) terms streams histories door false worn

  -- what a house tells of it
  pub record IsShutHttp (at : List ℕ) (shut : Shut) : Type 0 where
    pub door : DoorTold
    pub told : shut_door config.workers door ≡ Some shut
    pub balanced : IsBalancedHttp door

  -- THE DOORS THAT WERE SHUT: those of the configured workers, in the order of their numbers, and then that
  -- of the HTTP players
  pub record ShutAll (before now : Option (List Shut)) : Type 0 where
    pub mid : Option (List Shut)
    pub sessions : TellsMore (IsShut config streams histories worn) (range_with_len 0 config.workers) before mid
    pub players : TellsMore IsShutHttp (http_doors config) mid now

  -- WHAT IS LEFT OF THE WORKER, if there was one: its door, balanced
  abbrev pub LeftHttp : Option (List ℕ) → Option DoorTold → Type 0
  LeftHttp None None = Unit {0}
  LeftHttp (Some at) (Some door) = IsBalancedHttp door
  LeftHttp None (Some door) = ⊥
  LeftHttp (Some at) None = ⊥

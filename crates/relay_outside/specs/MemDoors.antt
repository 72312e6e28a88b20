-- What a door and a house in memory are, and what their calls do.
use Rattle.std.specs.Prelude.{◌≡◌, ℕ, ◌+◌, Bool, true, false, List, [], ◌∷◌, ◌++◌, map, Option, Some, nat_eq, slice_get, slice_set}
use Rattle.std.specs.List.{find}
use Rattle.std.specs.Option.{option_map, option_and_then}
use Rattle.std.specs.Cmp.Lexicographic.{pointwise}
use Rattle.relay_outside.specs.Counts.{CallCount, next_fails, called}
use Rattle.relay_outside.specs.Memory.{MemSinkState}
use Rattle.relay_outside.specs.MemLinks.{MemLinkState, mem_told}
use Rattle.relay_outside.specs.Doors.{DoorTold, Returned, IsNewLink, IsNewDoor}
use Rattle.relay_outside.specs.Houses.{Asked, HouseTold}
use Rattle.relay_outside.specs.declared.door.Knock.{Knock}
use Rattle.relay_outside.specs.declared.door.Knock.TheVariants as knock

-- ---- a door

pub record MemDoorState : Type 0 where
  -- the links that it has yet to give, in order
  pub ahead : List MemLinkState
  -- those that were handed back
  pub home : List MemLinkState
  pub given : ℕ
  pub closed : Bool
  pub count : CallCount

-- a link that was neither used nor told to count
abbrev pub IsNewMemLink : MemLinkState → Type 0
IsNewMemLink l = IsNewLink (Some (mem_told l)) l.counts

abbrev pub mem_returned : MemLinkState → Returned
mem_returned l = record { gave = (mem_told l).gave; took = (mem_told l).took; counts = l.counts }

abbrev pub door_told : MemDoorState → DoorTold
door_told d = record { given = d.given; faults = d.count.faults; closed = d.closed; back = Some (map mem_returned d.home) }

-- a call that doesn't fail gives the next link, or answers Closed where none is left
abbrev pub MemKnocks : MemDoorState → Knock MemLinkState → MemDoorState → Type 0
MemKnocks d (knock.Link l) e = (next_fails d.count ≡ false) × (d.ahead ≡ l ∷ e.ahead)
    × (e ≡ record d { ahead = e.ahead; given = d.given + 1; count = called d.count })
MemKnocks d knock.NotYet e = ⊥
MemKnocks d knock.Closed e = (next_fails d.count ≡ false) × (d.ahead ≡ []) × (e ≡ record d { closed = true; count = called d.count })
MemKnocks d knock.Failed e = (next_fails d.count ≡ true) × (e ≡ record d { count = called d.count })

-- a door without links of which no call fails
abbrev pub no_door : MemDoorState
no_door = record { ahead = []; home = []; given = 0; closed = false; count = record { fails = []; calls = 0; faults = 0 } }

abbrev pub IsNewMemDoor : MemDoorState → Type 0
IsNewMemDoor d = IsNewDoor (door_told d)

-- ---- a house

-- a file that was kept under a name
pub record MemFileState : Type 0 where
  pub name : List ℕ
  pub sink : MemSinkState

-- a door that a worker has shut
pub record MemShutState : Type 0 where
  pub worker : ℕ
  pub door : MemDoorState

pub record MemHouseState : Type 0 where
  -- the doors that it has yet to give, by worker
  pub doors : List MemDoorState
  -- the files that were kept
  pub files : List MemFileState
  -- the doors that were shut
  pub gone : List MemShutState
  -- how many of the files had faults
  pub spoiled : ℕ
  -- the doors that it gave, as they were asked for
  pub asked : List Asked
  -- the names of the files that it gave
  pub named : List (List ℕ)
  -- its calls `door`, `rest` and `file`
  pub count : CallCount

abbrev pub house_told : MemHouseState → HouseTold
house_told h = record {
  faults = h.count.faults;
  spoiled = h.spoiled;
  kept = Some (map (λ f. record { name = f.name; bytes = f.sink.bytes; faults = f.sink.count.faults }) h.files);
  shut = Some (map (λ g. record { worker = g.worker; given = g.door.given; back = map mem_returned g.door.home }) h.gone);
}

-- the door of a worker was given, and one without links is there in its place
abbrev pub house_gave : MemHouseState → ℕ → List ℕ → ℕ → MemHouseState
house_gave h worker listen accept = record h {
  doors = slice_set h.doors worker no_door;
  asked = h.asked ++ record { worker = worker; listen = listen; accept = accept } ∷ [];
  count = called h.count;
}

-- a file of that name was given
abbrev pub house_named : MemHouseState → List ℕ → MemHouseState
house_named h name = record h { named = h.named ++ name ∷ []; count = called h.count }

-- with one call of `door`, `rest` or `file` more
abbrev pub house_called : MemHouseState → MemHouseState
house_called h = record h { count = called h.count }

-- the bytes of the first file that was kept under that name
abbrev pub bytes_kept : List MemFileState → List ℕ → Option (List ℕ)
bytes_kept files name = option_map (λ f. f.sink.bytes) (find (λ f. pointwise nat_eq f.name name) files)

-- what the link with that place in a list took
abbrev pub link_took : List MemLinkState → ℕ → Option (List ℕ)
link_took links link = option_map (λ l. (mem_told l).took) (slice_get links link)

-- the first door that a worker has shut
abbrev pub door_of : List MemShutState → ℕ → Option MemDoorState
door_of gone worker = option_map (λ g. g.door) (find (λ g. nat_eq g.worker worker) gone)

-- what the link with that place among those that were handed back to a worker's door took
abbrev pub took_back : List MemShutState → ℕ → ℕ → Option (List ℕ)
took_back gone worker link = option_and_then (λ d. link_took d.home link) (door_of gone worker)

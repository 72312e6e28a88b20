-- What a house tells, and what its calls do.
use Rattle.std.specs.Prelude.{◌≡◌, ℕ, zero, suc, List, [], Option, Some}
use Rattle.std.specs.Option.{option_map}
use Rattle.relay_outside.specs.Counts.{Rose}
use Rattle.relay_outside.specs.Doors.{DoorTold, Returned, with_one}

-- a file that was kept
pub record KeptFile : Type 0 where
  pub name : List ℕ
  pub bytes : List ℕ
  pub faults : ℕ

abbrev pub kept_file : List ℕ → Option (List ℕ) → ℕ → Option KeptFile
kept_file name holds faults = option_map (λ bytes. record { name = name; bytes = bytes; faults = faults }) holds

-- a door that was shut
pub record Shut : Type 0 where
  pub worker : ℕ
  pub given : ℕ
  pub back : List Returned

abbrev pub shut_door : ℕ → DoorTold → Option Shut
shut_door worker door = option_map (λ back. record { worker = worker; given = door.given; back = back }) door.back

-- what a house tells
pub record HouseTold : Type 0 where
  pub faults : ℕ
  -- how many files were kept that had faults
  pub spoiled : ℕ
  -- the files that were kept, in order, where it tells them
  pub kept : Option (List KeptFile)
  -- the doors that were shut, in order, where it tells them
  pub shut : Option (List Shut)

-- a door that was given: for which worker, at which address it was to listen, and after how many links to close
pub record Asked : Type 0 where
  pub worker : ℕ
  pub listen : List ℕ
  pub accept : ℕ

abbrev pub asked_door : ℕ → List ℕ → ℕ → Option Asked
asked_door worker listen accept = Some (record { worker = worker; listen = listen; accept = accept })

-- a file that has no faults and, where it tells, holds nothing
pub record IsNewFile (holds : Option (List ℕ)) (faults : ℕ) : Type 0 where
  pub none : faults ≡ 0
  pub blank : (bytes : List ℕ) → holds ≡ Some bytes → bytes ≡ []

-- its faults rose, and nothing else changed
abbrev pub Refuses : HouseTold → HouseTold → Type 0
Refuses h k = Rose h.faults k.faults × (k ≡ record h { faults = k.faults })

-- the count of spoiled files rises exactly where the file has faults
abbrev pub Spoils : ℕ → ℕ → ℕ → Type 0
Spoils zero before now = now ≡ before
Spoils (suc faults) before now = Rose before now

-- a file was kept
abbrev pub Keeps : HouseTold → HouseTold → ℕ → Option KeptFile → Type 0
Keeps h k faults file = Spoils faults h.spoiled k.spoiled × (k ≡ record h { spoiled = k.spoiled; kept = with_one h.kept file })

-- with one door more shut
abbrev pub with_shut : HouseTold → Option Shut → HouseTold
with_shut h door = record h { shut = with_one h.shut door }

-- Only proofs and private functions use it.
-- The files of segments, in the house and in hand
use Rattle.std.specs.Prelude.{◌≡◌, ℕ, List, [], ◌∷◌, ◌++◌, length, Option, Some, None}
use Rattle.std.specs.Io.KnownBytes.{append_known}
use Rattle.relay_outside.specs.Counts.{Rose}
use Rattle.relay_outside.specs.Houses.{HouseTold, Keeps, Refuses, kept_file}
use Rattle.put_text.specs.Written.{WritesPart}
use Rattle.hls_segments.specs.declared.cut.Cut.{Cut}
use Rattle.hls_segments.specs.declared.cut.Cut.TheVariants.{First, Next, Same, Nothing}
use Rattle.hls_segments.specs.Playlist.{file_name}
use Rattle.segment_command.specs.declared.stop.Fault.{Fault}
use Rattle.segment_command.specs.declared.stop.Fault.TheVariants.{Sink, House, Memory}
use Rattle.segment_command.specs.declared.shelf.Pending.{Pending}
use Rattle.segment_command.specs.Files.{Grew, GrewInPart, kept_files}

-- what is seen of a file
pub record FileSeen : Type 0 where
  pub holds : Option (List ℕ)
  pub faults : ℕ

abbrev pub file_seen : Option (List ℕ) → ℕ → FileSeen
file_seen holds faults = record { holds = holds; faults = faults }

-- it holds these bytes, where it tells them
abbrev pub Holds : Option (List ℕ) → List ℕ → Type 0
Holds held bytes = (b : List ℕ) → held ≡ Some b → b ≡ bytes

-- nothing failed in a house
pub record IsSameHouse (old new : HouseTold) : Type 0 where
  pub faults_same : new.faults ≡ old.faults
  pub spoiled_same : new.spoiled ≡ old.spoiled

-- there is no segment yet
pub record IsUnbegun (list : List (List ℕ)) (text : List ℕ) (count : ℕ) (old new : HouseTold) : Type 0 where
  pub list_is : list ≡ []
  pub text_is : text ≡ []
  pub count_is : count ≡ 0
  pub kept : Grew [] old.kept new.kept
  pub same : IsSameHouse old new

-- the files of all segments but the last were kept, and that has its last bytes pending
pub record IsBegun (name : List ℕ) (list : List (List ℕ)) (text title : List ℕ) (count : ℕ) (f : FileSeen) (old new : HouseTold) : Type 0 where
  pub whole : List (List ℕ)
  pub wrote : List ℕ
  pub list_is : list ≡ (wrote ++ text) ∷ whole
  pub title_is : title ≡ file_name name (length whole)
  pub count_is : count ≡ length list
  pub sound : f.faults ≡ 0
  pub holds_is : Holds f.holds wrote
  pub kept : Grew (kept_files name whole) old.kept new.kept
  pub same : IsSameHouse old new

-- SEGMENTS WITH THESE BYTES stand in the house, in the file of the last, and in the text that is pending
abbrev pub Stands : List ℕ → List (List ℕ) → List ℕ → List ℕ → ℕ → Option FileSeen → HouseTold → HouseTold → Type 0
Stands name list text title count None old new = IsUnbegun list text count old new
Stands name list text title count (Some f) old new = IsBegun name list text title count f old new

abbrev pub StandsBy : List ℕ → List (List ℕ) → Pending → Option FileSeen → HouseTold → HouseTold → Type 0
StandsBy name list p f old new = Stands name list p.text p.title p.count f old new

-- and all of them in the house
pub record AreKept (name : List ℕ) (list : List (List ℕ)) (old new : HouseTold) : Type 0 where
  pub kept : Grew (kept_files name list) old.kept new.kept
  pub same : IsSameHouse old new

-- what an item's text does to the bytes of segments
abbrev pub Grown : Cut → List ℕ → List (List ℕ) → List (List ℕ) → Type 0
Grown First text list list' = (list ≡ []) × (list' ≡ text ∷ [])
Grown Next text list list' = list' ≡ text ∷ list
Grown Same text list list' = (last : List ℕ) × (whole : List (List ℕ)) × (list ≡ last ∷ whole) × (list' ≡ (last ++ text) ∷ whole)
Grown Nothing text list list' = (list' ≡ list) × (text ≡ [])

-- ---- a part of them

-- the first segments were kept
pub record IsPartKept (name : List ℕ) (list : List (List ℕ)) (old new : HouseTold) : Type 0 where
  pub newer : List (List ℕ)
  pub whole : List (List ℕ)
  pub list_is : list ≡ newer ++ whole
  pub kept : Grew (kept_files name whole) old.kept new.kept

-- and the file in hand has the first bytes of the next
pub record IsPartBegun (name : List ℕ) (list : List (List ℕ)) (title : List ℕ) (holds : Option (List ℕ)) (old new : HouseTold) : Type 0 where
  pub newer : List (List ℕ)
  pub whole : List (List ℕ)
  pub wrote : List ℕ
  pub left : List ℕ
  pub list_is : list ≡ newer ++ ((wrote ++ left) ∷ whole)
  pub title_is : title ≡ file_name name (length whole)
  pub holds_is : Holds holds wrote
  pub kept : Grew (kept_files name whole) old.kept new.kept

-- A PART STANDS, and why no more
abbrev pub Breaks : Fault → List ℕ → List (List ℕ) → List ℕ → Option FileSeen → HouseTold → HouseTold → Type 0
Breaks Sink name list title None old new = ⊥
Breaks Sink name list title (Some f) old new = IsPartBegun name list title f.holds old new × Rose 0 f.faults × IsSameHouse old new
Breaks House name list title None old new = IsPartKept name list old new × Rose old.faults new.faults × (new.spoiled ≡ old.spoiled)
Breaks House name list title (Some f) old new = ⊥
Breaks Memory name list title None old new = IsPartKept name list old new × IsSameHouse old new
Breaks Memory name list title (Some f) old new = IsPartBegun name list title f.holds old new × (f.faults ≡ 0) × IsSameHouse old new

-- and what the house says of it
abbrev pub HouseCause : Fault → HouseTold → HouseTold → Type 0
HouseCause Sink old new = Rose old.spoiled new.spoiled × (new.faults ≡ old.faults)
HouseCause House old new = Rose old.faults new.faults × (new.spoiled ≡ old.spoiled)
HouseCause Memory old new = IsSameHouse old new

-- a part stands in the house
abbrev pub Settles : Fault → List ℕ → List (List ℕ) → HouseTold → HouseTold → Type 0
Settles fault name list old new = GrewInPart name list old.kept new.kept × HouseCause fault old new

-- ---- single calls

-- what a sink's faults say of a put that failed
abbrev pub PutCause : Fault → ℕ → ℕ → Type 0
PutCause Sink before now = Rose before now
PutCause House before now = ⊥
PutCause Memory before now = now ≡ before

-- a text was put to the file in hand, if there is one
abbrev pub PutsAll : List ℕ → Option FileSeen → Option FileSeen → Type 0
PutsAll text None o = o ≡ None
PutsAll text (Some f) o = o ≡ Some (file_seen (append_known f.holds text) f.faults)

-- a first part of it was
abbrev pub PutsPart : Fault → List ℕ → Option FileSeen → Option FileSeen → Type 0
PutsPart fault text (Some f) (Some f') = WritesPart text f.holds f'.holds × PutCause fault f.faults f'.faults
PutsPart fault text (Some f) None = ⊥
PutsPart fault text None o = ⊥

-- the file in hand was kept, if there is one
abbrev pub KeepsLast : List ℕ → Option FileSeen → HouseTold → HouseTold → Type 0
KeepsLast title None old new = new ≡ old
KeepsLast title (Some f) old new = Keeps old new f.faults (kept_file title f.holds f.faults)

-- why a file can't be ended
abbrev pub IsOfFile : Fault → Type 0
IsOfFile Sink = Unit {0}
IsOfFile House = ⊥
IsOfFile Memory = Unit {0}

-- why none can be had
abbrev pub OpenFails : Fault → HouseTold → HouseTold → Type 0
OpenFails Sink old new = ⊥
OpenFails House old new = Refuses old new
OpenFails Memory old new = new ≡ old

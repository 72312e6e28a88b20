-- Only proofs and private functions use it.
-- What the steps of the reader leave, by its fields
use Rattle.std.specs.Prelude.{◌≡◌, ℕ, ◌+◌, ◌^◌, ◌<◌, ◌≤◌, ◌⊎◌, nat_eq, nat_lt, if◌then◌else◌, Bool, true, false}
use Rattle.std.specs.Prelude.{Result, MatchOption, MatchResult, List, [], ◌++◌, is_some, IfSome, length, take, Option, Some, None, get_or, set}
use Rattle.chunk_wire.specs.declared.kept.ChunkStream.{ChunkStream}
use Rattle.chunk_wire.specs.declared.headers.Basic.{Basic}
use Rattle.chunk_wire.specs.declared.message.Message.{Message}
use Rattle.chunk_wire.specs.Layout.{basic_size, format_in, id_in}
use Rattle.chunk_wire.specs.State.{State, at_place, part_bytes, index_of, put_at, fresh_kept}
use Rattle.chunk_wire.specs.Chunk.{header_size, opened, with_part, is_known, payload_size}
use Rattle.chunk_reader.specs.Control.{controlled, bad_size}
use Rattle.chunk_reader.specs.Reads.{has_room, part_limit}
use Rattle.chunk_reader.specs.Core.{the_state, IsPlaceOf}
use Rattle.chunk_reader.specs.declared.fields.Core.{Core}
use Rattle.chunk_reader.specs.declared.header.Opening.{Opening}
use Rattle.chunk_reader.specs.declared.fail.ReadCause.{ReadCause}
use Rattle.chunk_reader.specs.declared.fail.ReadCause.TheVariants.{NoHead, TooManyIds, TooLong, TooMuch, BadChunkSize, OutOfMemory, TooFar}

-- the header r is whole and says this
pub record IsOpening (max : ℕ) (s : State) (r : List ℕ) (o : Opening) : Type 0 where
  pub whole : header_size s r ≤ length r
  pub room : has_room s r ≡ true
  pub fits : (opened s r).terms.length ≤ max
  pub id : o.id ≡ id_in r
  pub place : o.place ≡ index_of (id_in r) s.kept
  pub within : IfSome o.place (λ i. i < length s.kept)
  pub terms : o.terms ≡ (opened s r).terms
  pub drops : o.drops ≡ nat_lt (format_in r) 3

-- a chunk with this basic header isn't taken
abbrev pub AdmitFails : Basic → Option ℕ → ℕ → ReadCause → Type 0
AdmitFails basic place ids (NoHead id) = (id ≡ basic.id) × (is_some place ≡ false) × (2 ≤ basic.format)
AdmitFails basic place ids TooManyIds = (is_some place ≡ false) × (basic.format < 2) × (64 ≤ ids)
AdmitFails basic place ids _ = ⊥

-- the header r isn't whole
pub record IsShort (s : State) (r : List ℕ) : Type 0 where
  pub short : length r < header_size s r
  pub room : basic_size r ≤ length r → has_room s r ≡ true

-- the header r is refused
abbrev pub HeaderFails : ℕ → State → List ℕ → ReadCause → Type 0
HeaderFails max s r (NoHead id) = (basic_size r ≤ length r) × (id ≡ id_in r) × (is_known s r ≡ false) × (2 ≤ format_in r)
HeaderFails max s r TooManyIds = (basic_size r ≤ length r) × (is_known s r ≡ false) × (format_in r < 2) × (64 ≤ length s.kept)
HeaderFails max s r (TooLong found) = (header_size s r ≤ length r) × (has_room s r ≡ true) × (found ≡ (opened s r).terms.length) × (max < found)
HeaderFails max s r _ = ⊥

-- what is known of the header r as far as it came: it isn't whole, it says this, or it is refused
abbrev pub HeaderGives : ℕ → State → List ℕ → Result (Option Opening) ReadCause → Type 0
HeaderGives max s r result = MatchResult result (λ o. MatchOption o (IsShort s r) (λ o. IsOpening max s r o)) (λ e. HeaderFails max s r e)

-- the message that a slot's part is, if it is whole
abbrev pub slot_done : ChunkStream → Bool
slot_done k = nat_eq (length k.part) k.terms.length

abbrev pub slot_message : ChunkStream → Option Message
slot_message k = if slot_done k then Some (record { kind = k.terms.kind; stream = k.terms.stream; time = k.terms.time; body = k.part }) else None

-- the cause is the number of a refused Set Chunk Size
abbrev pub IsBadSize : Option Message → ReadCause → Type 0
IsBadSize m (BadChunkSize value) = bad_size m ≡ Some value
IsBadSize m _ = ⊥

-- the records, with what a header says in the slot of its id
abbrev pub with_opening : Opening → List ChunkStream → List ChunkStream
with_opening o kept =
    put_at o.place (record { id = o.id; terms = o.terms; part = if o.drops then [] else (at_place o.id o.place kept).part }) kept

-- the place of a slot that was put
abbrev pub IsPutAt : Option ℕ → ℕ → ℕ → Type 0
IsPutAt None n i = i ≡ n
IsPutAt (Some j) n i = (i ≡ j) × (j < n)

-- the payload of the chunk with the header r begins
pub record IsOpened (max : ℕ) (s : State) (r : List ℕ) (new : Core) : Type 0 where
  pub size : new.size ≡ s.size
  pub head : length new.head.items ≡ 0
  pub place : IsPlaceOf s.kept (opened s r) new.slots.items new.place
  pub need : new.need ≡ payload_size s r
  pub counted : new.held ≡ part_bytes new.slots.items
  pub max_is : new.max ≡ max

-- the slot of the chunk in progress
abbrev pub slot_at : Core → ChunkStream
slot_at core = get_or core.slots.items core.place (fresh_kept 0)

-- the state after the chunk in progress, which has ended
abbrev pub ended_state : Core → State
ended_state core = record {
  size = core.size;
  kept = set core.slots.items core.place (with_part (slot_at core) (if slot_done (slot_at core) then [] else (slot_at core).part));
}

-- what no end of a chunk changes, and that the parts are counted
pub record Keeps (old new : Core) : Type 0 where
  pub head : new.head.items ≡ old.head.items
  pub need : new.need ≡ old.need
  pub max_is : new.max ≡ old.max
  pub counted : new.held ≡ part_bytes new.slots.items
  pub less : new.held ≤ old.held

-- the chunk in progress has ended and what its message says is done
pub record IsFinished (old : Core) (m : Option Message) (new : Core) : Type 0 where
  pub message : m ≡ slot_message (slot_at old)
  pub sized : bad_size (slot_message (slot_at old)) ≡ None
  pub state : the_state new ≡ controlled (slot_message (slot_at old)) (ended_state old)
  pub keeps : Keeps old new

-- the chunk goes on, or it has ended
abbrev pub IsPassed : Core → Option Message → Core → Type 0
IsPassed old m new = ((0 < old.need) × (m ≡ None) × (new ≡ old)) ⊎ ((old.need ≡ 0) × IsFinished old m new)

-- more payload stands in the slot of the chunk in progress
pub record IsFed (old : Core) (piece : List ℕ) (new : Core) : Type 0 where
  pub size : new.size ≡ old.size
  pub head : new.head.items ≡ old.head.items
  pub max_is : new.max ≡ old.max
  pub place : new.place ≡ old.place
  pub slots : new.slots.items ≡ set old.slots.items old.place (with_part (slot_at old) ((slot_at old).part ++ piece))
  pub need : new.need + length piece ≡ old.need
  pub held : new.held ≡ old.held + length piece
  pub counted : new.held ≡ part_bytes new.slots.items

-- payload was taken
pub record PayloadTaken (old : Core) (piece : List ℕ) (m : Option Message) (new : Core) : Type 0 where
  pub mid : Core
  pub fed : IsFed old piece mid
  pub within : old.held + length piece ≤ part_limit old.max
  pub passed : IsPassed mid m new

-- payload was refused, where so many bytes of the piece stand before the byte that decides
abbrev pub PayloadFails : Core → List ℕ → ReadCause → ℕ → Type 0
PayloadFails old piece TooMuch after = (part_limit old.max < old.held + length piece) × (old.held + after ≡ part_limit old.max)
PayloadFails old piece OutOfMemory after = after ≡ 0
PayloadFails old piece (BadChunkSize value) after =
    (mid : Core) × (IsFed old piece mid × (old.held + length piece ≤ part_limit old.max) × (mid.need ≡ 0)
    × (bad_size (slot_message (slot_at mid)) ≡ Some value) × (after + 1 ≡ length piece))
PayloadFails old piece _ after = ⊥

-- a byte of a header was taken, by which the header r isn't whole, or is opened
pub record HeadGrows (s : State) (r : List ℕ) (m : Option Message) (old new : Core) : Type 0 where
  pub short : IsShort s r
  pub none : m ≡ None
  pub state : the_state new ≡ s
  pub head : new.head.items ≡ r
  pub keeps_need : new.need ≡ old.need
  pub keeps_max : new.max ≡ old.max
  pub keeps_held : new.held ≡ old.held

pub record HeadOpens (max held : ℕ) (s : State) (r : List ℕ) (m : Option Message) (new : Core) : Type 0 where
  pub whole : header_size s r ≤ length r
  pub room : has_room s r ≡ true
  pub fits : (opened s r).terms.length ≤ max
  pub mid : Core
  pub opens : IsOpened max s r mid
  pub less : mid.held ≤ held
  pub passed : IsPassed mid m new

-- a byte of a header was refused
abbrev pub HeadFails : ℕ → ℕ → State → List ℕ → ReadCause → Type 0
HeadFails max held s r OutOfMemory = Unit {0}
HeadFails max held s r (BadChunkSize value) =
    (header_size s r ≤ length r) × (has_room s r ≡ true) × ((opened s r).terms.length ≤ max)
    × ((mid : Core) × (IsOpened max s r mid × (mid.held ≤ held) × (mid.need ≡ 0) × (bad_size (slot_message (slot_at mid)) ≡ Some value)))
HeadFails max held s r cause = HeaderFails max s r cause

-- a byte of a header was taken
abbrev pub HeadTaken : Core → List ℕ → Option Message → Core → Type 0
HeadTaken old r m new = HeadGrows (the_state old) r m old new ⊎ HeadOpens old.max old.held (the_state old) r m new

-- so many bytes of the piece were taken, of a header or of payload
pub record IsTaken (old : Core) (piece : List ℕ) (most used : ℕ) (m : Option Message) (new : Core) : Type 0 where
  pub some : 0 < used
  pub within : used ≤ most
  pub taken : ((old.need ≡ 0) × (used ≡ 1) × HeadTaken old (old.head.items ++ take used piece) m new)
      ⊎ ((0 < old.need) × PayloadTaken old (take used piece) m new)

-- so many bytes were taken, of a piece that so many stand before
abbrev pub IsTakenNear : Core → List ℕ → ℕ → ℕ → Option Message → Core → Type 0
IsTakenNear old piece count used m new = (most : ℕ) × (IsTaken old piece most used m new × (most ≤ length piece) × (count + used ≤ 2 ^ 62))

-- a byte of the piece was refused, with so many before it
abbrev pub StepFails : Core → List ℕ → ℕ → ReadCause → ℕ → Type 0
StepFails old piece most cause after =
    ((old.need ≡ 0) × (after ≡ 0) × HeadFails old.max old.held (the_state old) (old.head.items ++ take 1 piece) cause)
    ⊎ ((0 < old.need) × ((n : ℕ) × ((0 < n) × (n ≤ most) × (n ≤ old.need) × PayloadFails old (take n piece) cause after)))

-- the same, or it is the byte that 2^62 stand before, and not refused else
abbrev pub TakeFails : Core → List ℕ → ℕ → ReadCause → ℕ → Type 0
TakeFails old piece count cause after =
    ((most : ℕ) × ((most ≤ length piece) × StepFails old piece most cause after))
    ⊎ ((cause ≡ TooFar) × (after ≡ 0) × (count ≡ 2 ^ 62) × ((used : ℕ) × ((m : Option Message) × ((new : Core) × IsTaken old piece 1 used m new))))

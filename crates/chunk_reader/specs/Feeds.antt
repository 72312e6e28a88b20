-- What a feed answers and leaves
use Rattle.std.specs.Prelude.{◌≡◌, ◌⊎◌, ◌<◌, ◌≤◌, ℕ, List, [], ◌++◌, length, take, Option, Some, None, is_some, true, false}
use Rattle.chunk_wire.specs.declared.message.Message.{Message}
use Rattle.chunk_wire.specs.State.{State}
use Rattle.chunk_reader.specs.declared.fail.ReadFail.{ReadFail}
use Rattle.chunk_reader.specs.declared.fail.ReadCause.TheVariants.{OutOfMemory}
use Rattle.chunk_reader.specs.Reads.{Reads, ended, held_bytes}
use Rattle.chunk_reader.specs.Stops.{Stops}
use Rattle.chunk_reader.specs.ReaderKnown.{ReaderKnown}
use Rattle.chunk_reader.specs.Sound.{IsRead}

-- what was fed and given reads so
abbrev pub Stands : ReaderKnown → Type 0
Stands k = IsRead k.max k.fed k.given

-- with the bytes given up to now the reader is at a chunk's end
abbrev pub AtEnd : ReaderKnown → Type 0
AtEnd k = (s : State) × Reads k.max k.fed k.given s []

-- the reader after so many bytes of the piece, and the message that they complete
abbrev pub after_bytes : ReaderKnown → List ℕ → ℕ → Option Message → ReaderKnown
after_bytes k piece used m = record {
  max = k.max;
  fed = k.fed ++ take used piece;
  given = k.given ++ ended (length (k.fed ++ take used piece)) m;
  failed = None;
}

-- the bytes up to a message's end, or all, were read
pub record IsFedTo (old : ReaderKnown) (piece : List ℕ) (used : ℕ) (m : Option Message) (new : ReaderKnown) : Type 0 where
  pub within : used ≤ length piece
  pub some : is_some m ≡ true → 0 < used
  pub all : is_some m ≡ false → used ≡ length piece
  pub now : new ≡ after_bytes old piece used m
  pub read : Stands new
  pub at_end : is_some m ≡ true → AtEnd new

-- a byte of the piece was refused: the bytes before it were read, and they complete no message
pub record IsRefused (old : ReaderKnown) (piece : List ℕ) (e : ReadFail) (new : ReaderKnown) : Type 0 where
  pub after : ℕ
  pub within : after < length piece
  pub now : new ≡ record { max = old.max; fed = old.fed ++ take after piece; given = old.given; failed = Some e }
  pub at : e.at ≡ length new.fed
  pub read : Stands new
  pub cause : (e.cause ≡ OutOfMemory) ⊎ Stops old.max (old.fed ++ piece) e.cause e.at

-- the bytes held of messages in progress
abbrev pub IsHeld : ReaderKnown → ℕ → Type 0
IsHeld k n = (s : State) × ((r : List ℕ) × Reads k.max k.fed k.given s r × (n ≡ held_bytes s r))

-- some bytes were read, up to a message's end or before
pub record IsTakenTo (old : ReaderKnown) (piece : List ℕ) (used : ℕ) (m : Option Message) (new : ReaderKnown) : Type 0 where
  pub within : used ≤ length piece
  pub some : 0 < used
  pub now : new ≡ after_bytes old piece used m
  pub read : Stands new
  pub at_end : is_some m ≡ true → AtEnd new

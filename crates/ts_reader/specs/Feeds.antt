-- What a feed and the end answer and leave
use Rattle.std.specs.Prelude.{◌≡◌, ◌⊎◌, ◌<◌, ◌≤◌, ℕ, ◌+◌, List, ◌++◌, length, take, Option, Some, None, IfSome, is_some, option_to_list, true, false}
use Rattle.ts_reader.specs.declared.unit.TsUnit.{TsUnit}
use Rattle.ts_reader.specs.declared.fail.TsFail.{TsFail}
use Rattle.ts_reader.specs.declared.fail.TsFail.TheVariants.{OutOfMemory}
use Rattle.ts_reader.specs.Mux.{Mux}
use Rattle.ts_reader.specs.Reads.{EndFails, Ends, Gives, Reads, Stops}
use Rattle.ts_reader.specs.Known.{Known, fresh}

-- what was fed reads as what was given
pub record Stands (k : Known) : Type 0 where
  pub m : Mux
  pub r : List ℕ
  pub read : Reads k.fed k.given m r

-- the reader after so many bytes of the piece, and the unit that they end
abbrev pub after_bytes : Known → List ℕ → ℕ → Option TsUnit → Known
after_bytes k piece used u = record { fed = k.fed ++ take used piece; given = k.given ++ option_to_list u; failed = None }

-- the bytes up to the end of the packet that ends a unit, or all, were read
pub record IsFedTo (old : Known) (piece : List ℕ) (used : ℕ) (u : Option TsUnit) (new : Known) : Type 0 where
  pub within : used ≤ length piece
  pub some : is_some u ≡ true → 0 < used
  pub all : is_some u ≡ false → used ≡ length piece
  pub now : new ≡ after_bytes old piece used u
  pub read : Stands new
  pub at_end : IfSome u (λ x. Gives new.fed old.given x)
  pub count : length new.fed ≡ length old.fed + used

-- a byte of the piece was refused: the bytes before it were read, and they end no unit
pub record IsRefused (old : Known) (piece : List ℕ) (e : TsFail) (new : Known) : Type 0 where
  pub after : ℕ
  pub within : after < length piece
  pub now : new ≡ record { fed = old.fed ++ take after piece; given = old.given; failed = Some e }
  pub read : Stands new
  pub count : length new.fed ≡ length old.fed + after
  pub cause : (e ≡ OutOfMemory) ⊎ Stops (old.fed ++ piece) (length new.fed) new.given e

-- some bytes were read, up to the end of the packet that ends a unit or before
pub record IsTakenTo (old : Known) (piece : List ℕ) (used : ℕ) (u : Option TsUnit) (new : Known) : Type 0 where
  pub within : used ≤ length piece
  pub some : 0 < used
  pub now : new ≡ after_bytes old piece used u
  pub read : Stands new
  pub at_end : IfSome u (λ x. Gives new.fed old.given x)

-- the end gave this unit, or none, and left a reader that was fed nothing
pub record IsEnded (old : Known) (u : Option TsUnit) (new : Known) : Type 0 where
  pub given : Ends old.fed old.given u
  pub now : new ≡ fresh

-- the end was refused
pub record IsRefusedAtEnd (old : Known) (e : TsFail) (new : Known) : Type 0 where
  pub cause : EndFails old.fed old.given e
  pub now : new ≡ record old { failed = Some e }

-- What bytes read as: packets one after another, and less than one
use Rattle.std.specs.Prelude.{◌≡◌, ◌<◌, ◌⊎◌, ℕ, ◌+◌, List, [], ◌++◌, length, Option, Some, Ok, Err, option_to_list}
use Rattle.ts_reader.specs.declared.unit.TsUnit.{TsUnit}
use Rattle.ts_reader.specs.declared.fail.TsFail.{TsFail}
use Rattle.ts_reader.specs.declared.fail.TsFail.TheVariants.{NoSync}
use Rattle.ts_reader.specs.Fields.{packet_size}
use Rattle.ts_reader.specs.Mux.{Mux, start}
use Rattle.ts_reader.specs.Steps.{closed, step}

-- THE PACKETS: whole ones give these units, and leave this
pub data Packets : List ℕ → List TsUnit → Mux → Type 0 where
  none : Packets [] [] start
  more : (b : List ℕ) (units : List TsUnit) (m : Mux) (p : List ℕ) (u : Option TsUnit) (new : Mux) → Packets b units m
      → length p ≡ packet_size → step (length b) m p ≡ Ok (u, new) → Packets (b ++ p) (units ++ option_to_list u) new

-- whole packets, and the bytes r of one that isn't whole
pub record Reads (b : List ℕ) (units : List TsUnit) (m : Mux) (r : List ℕ) : Type 0 where
  pub whole : List ℕ
  pub packets : Packets whole units m
  pub bytes : b ≡ whole ++ r
  pub short : length r < packet_size

-- the last packet of the bytes gives this unit, and those before it these
pub record Gives (b : List ℕ) (units : List TsUnit) (u : TsUnit) : Type 0 where
  pub whole : List ℕ
  pub last : List ℕ
  pub old : Mux
  pub new : Mux
  pub packets : Packets whole units old
  pub size : length last ≡ packet_size
  pub bytes : b ≡ whole ++ last
  pub gives : step (length whole) old last ≡ Ok (Some u, new)

-- THE REFUSAL: the first n of the bytes read as these units, and the byte after them completes a packet that is refused
pub record Stops (b : List ℕ) (n : ℕ) (units : List TsUnit) (e : TsFail) : Type 0 where
  pub whole : List ℕ
  pub last : List ℕ
  pub rest : List ℕ
  pub m : Mux
  pub packets : Packets whole units m
  pub size : length last ≡ packet_size
  pub bytes : b ≡ whole ++ (last ++ rest)
  pub place : n + 1 ≡ length (whole ++ last)
  pub refused : step (length whole) m last ≡ Err e

-- what bytes that end here give at their end, if they do
pub record Ends (b : List ℕ) (units : List TsUnit) (u : Option TsUnit) : Type 0 where
  pub m : Mux
  pub packets : Packets b units m
  pub last : closed m.pes ≡ Ok u

-- a packet isn't whole
pub record IsCut (b : List ℕ) (units : List TsUnit) (e : TsFail) : Type 0 where
  pub m : Mux
  pub r : List ℕ
  pub read : Reads b units m r
  pub some : 0 < length r
  pub cause : e ≡ NoSync (length read.whole)

-- the last PES packet is refused
pub record IsRefusedLast (b : List ℕ) (units : List TsUnit) (e : TsFail) : Type 0 where
  pub m : Mux
  pub packets : Packets b units m
  pub last : closed m.pes ≡ Err e

-- why bytes that end here are refused at their end
abbrev pub EndFails : List ℕ → List TsUnit → TsFail → Type 0
EndFails b units e = IsCut b units e ⊎ IsRefusedLast b units e

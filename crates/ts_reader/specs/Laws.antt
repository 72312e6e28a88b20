-- Laws of reading
use Rattle.std.specs.Prelude.{◌≡◌, ℕ, List, ◌++◌, take, Option, Bool}
use Rattle.ts_reader.specs.declared.unit.TsUnit.{TsUnit}
use Rattle.ts_reader.specs.declared.fail.TsFail.{TsFail}
use Rattle.ts_reader.specs.Mux.{Mux}
use Rattle.avc_annexb.specs.Nal.{AreNals}
use Rattle.avc_annexb.specs.AnnexB.{annexb}
use Rattle.ts_reader.specs.Sections.{Listed}
use Rattle.ts_reader.specs.Reads.{Reads}

-- two readings give the same units, and leave the same
pub record SameReading (us vs : List TsUnit) (m n : Mux) (q r : List ℕ) : Type 0 where
  pub units_same : us ≡ vs
  pub mux_same : m ≡ n
  pub rest_same : q ≡ r

-- the first n bytes read too, as the first of the units
pub record ReadsPart (b : List ℕ) (n : ℕ) (units : List TsUnit) : Type 0 where
  pub first : List TsUnit
  pub later : List TsUnit
  pub m : Mux
  pub r : List ℕ
  pub reads : Reads (take n b) first m r
  pub begins : units ≡ first ++ later

-- two refusals are one
pub record SameStop (c d : TsFail) (m n : ℕ) (us vs : List TsUnit) : Type 0 where
  pub fail_same : c ≡ d
  pub place_same : m ≡ n
  pub units_same : us ≡ vs

-- the bytes are the byte stream of NAL units
pub record StreamOf (b : List ℕ) : Type 0 where
  pub units : List (List ℕ)
  pub nals : AreNals units
  pub bytes : b ≡ annexb units

-- two ends give the same
pub record SameEnd (us vs : List TsUnit) (u v : Option TsUnit) : Type 0 where
  pub units_same : us ≡ vs
  pub last_same : u ≡ v

-- the streams of a map, by what it lists
abbrev pub these : Bool → Bool → Listed
these video audio = record { video = video; audio = audio }

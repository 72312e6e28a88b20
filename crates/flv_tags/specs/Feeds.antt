-- What a feed answers and leaves
use Rattle.std.specs.Prelude.{◌≡◌, ◌⊎◌, ◌<◌, ◌≤◌, ℕ, ◌+◌, List, ◌++◌, length, take, Option, Some, None, IfSome, is_some, option_to_list, true, false}
use Rattle.flv_tags.specs.declared.tag.Tag.{Tag}
use Rattle.flv_tags.specs.declared.fail.FlvFail.{FlvFail}
use Rattle.flv_tags.specs.declared.fail.FlvFail.TheVariants.{OutOfMemory}
use Rattle.flv_tags.specs.Written.{IsWritable}
use Rattle.flv_tags.specs.Reads.{Reads, IsFile}
use Rattle.flv_tags.specs.Stops.{Stops}
use Rattle.flv_tags.specs.Known.{Known}

-- what was fed reads as what was given
abbrev pub Stands : Known → Type 0
Stands k = (r : List ℕ) × Reads k.fed k.given r

-- the reader after so many bytes of the piece, and the tag that they complete
abbrev pub after_bytes : Known → List ℕ → ℕ → Option Tag → Known
after_bytes k piece used t = record { fed = k.fed ++ take used piece; given = k.given ++ option_to_list t; failed = None }

-- the bytes up to a tag's end, or all, were read
pub record IsFedTo (old : Known) (piece : List ℕ) (used : ℕ) (t : Option Tag) (new : Known) : Type 0 where
  pub within : used ≤ length piece
  pub some : is_some t ≡ true → 0 < used
  pub all : is_some t ≡ false → used ≡ length piece
  pub now : new ≡ after_bytes old piece used t
  pub read : Stands new
  pub at_end : is_some t ≡ true → IsFile new.fed new.given
  pub fits : IfSome t IsWritable
  pub count : length new.fed ≡ length old.fed + used

-- a byte of the piece was refused: the bytes before it were read, and they complete no tag
pub record IsRefused (old : Known) (piece : List ℕ) (e : FlvFail) (new : Known) : Type 0 where
  pub after : ℕ
  pub within : after < length piece
  pub now : new ≡ record { fed = old.fed ++ take after piece; given = old.given; failed = Some e }
  pub read : Stands new
  pub count : length new.fed ≡ length old.fed + after
  pub cause : (e ≡ OutOfMemory) ⊎ Stops (old.fed ++ piece) (length new.fed) new.given e

-- some bytes were read, up to a tag's end or before
pub record IsTakenTo (old : Known) (piece : List ℕ) (used : ℕ) (t : Option Tag) (new : Known) : Type 0 where
  pub within : used ≤ length piece
  pub some : 0 < used
  pub now : new ≡ after_bytes old piece used t
  pub read : Stands new
  pub at_end : is_some t ≡ true → IsFile new.fed new.given
  pub fits : IfSome t IsWritable

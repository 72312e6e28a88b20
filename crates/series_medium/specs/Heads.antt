-- Only proofs and private functions use it.
-- The head of a frame: what stands before its data
use Rattle.std.specs.Prelude.{◌≡◌, ℕ, zero, suc, ◌≤◌, List, [], ◌∷◌, length, take, Option, Some, None}
use Rattle.file_series.specs.Series.{Series}
use Rattle.relay_base.specs.Numbers.{be32_of}
use Rattle.series_medium.specs.declared.part.Part.{Part}
use Rattle.series_medium.specs.declared.part.Part.TheVariants.{Kind, Length1, Length2, Length3, Length4, Data}
use Rattle.series_medium.specs.Reading.{IsDue, data_of, part_behind, read}

abbrev pub head_behind_kind : ℕ → Option Part
head_behind_kind zero = Some Length1
head_behind_kind (suc n) = None

-- the part behind a byte of the head; none if it isn't one
abbrev pub head_behind : Part → ℕ → Option Part
head_behind Kind byte = head_behind_kind byte
head_behind Length1 a = Some (Length2 a)
head_behind (Length2 a) b = Some (Length3 a b)
head_behind (Length3 a b) c = Some (Length4 a b c)
head_behind (Length4 a b c) d = data_of (be32_of (a ∷ b ∷ c ∷ d ∷ []))
head_behind (Data left) byte = None

-- from one part to another these bytes are those of a head
abbrev pub Leads : Part → List ℕ → Part → Type 0
Leads p bytes q = (s : Series) → read (record { part = Some p; series = s }) bytes ≡ record { part = Some q; series = s }

-- so many bytes of the piece, behind these bytes, are those of a head, up to that part
pub record IsHeadOf (bytes piece : List ℕ) (used : ℕ) (part : Part) : Type 0 where
  pub from : Part
  pub from_is : part_behind bytes ≡ Some from
  pub within : used ≤ length piece
  pub leads : Leads from (take used piece) part
  pub due : IsDue part

-- Only proofs and private functions use it.
-- The configurations in effect at the base, which have left the slots.
use Rattle.std.specs.Prelude.{◌≡◌, ℕ, ◌+◌, ◌≤◌, List, length, None, Some, if◌then◌else◌}
use Rattle.std.specs.List.{slice_get}
use Rattle.std.specs.declared.option.Option.{Option}
use Rattle.av_unit.specs.declared.item.Item.{Item}
use Rattle.av_unit.specs.declared.item.Item.TheVariants as item
use Rattle.av_unit.specs.declared.unit.Kind.{Kind}
use Rattle.av_unit.specs.declared.unit.Kind.TheVariants.{Meta, VConfig, AConfig}
use Rattle.av_unit.specs.declared.head.Slot.{Slot}
use Rattle.av_unit.specs.declared.head.Slot.TheVariants as slot
use Rattle.stream_model.specs.Items.{config_at, has_kind}
use Rattle.unit_ring.specs.declared.kept.NumberedConfig.{NumberedConfig}
use Rattle.unit_ring.specs.declared.kept.KeptConfigs.{KeptConfigs}

abbrev pub none_kept : KeptConfigs
none_kept = record { meta = None; video = None; audio = None }

abbrev pub kept_of : Slot → KeptConfigs → Option NumberedConfig
kept_of slot.Meta k = k.meta
kept_of slot.Video k = k.video
kept_of slot.Audio k = k.audio

-- the kept configuration of a kind after item n
abbrev pub kept_next : Kind → ℕ → Item → Option NumberedConfig → Option NumberedConfig
kept_next kind n item.Begin before = None
kept_next kind n (item.Unit u) before = if has_kind kind (item.Unit u) then Some (record { number = n; unit = u }) else before
kept_next kind n item.End before = before

abbrev pub kept_after : ℕ → Item → KeptConfigs → KeptConfigs
kept_after n x k = record { meta = kept_next Meta n x k.meta; video = kept_next VConfig n x k.video; audio = kept_next AConfig n x k.audio }

abbrev pub kept_body : Option NumberedConfig → ℕ
kept_body None = 0
kept_body (Some k) = length k.unit.body

abbrev pub kept_sum : KeptConfigs → ℕ
kept_sum k = kept_body k.meta + (kept_body k.video + kept_body k.audio)

-- each has at most as many bytes as a configuration may have
pub record AreSmall (k : KeptConfigs) : Type 0 where
  pub meta : kept_body k.meta ≤ 65536
  pub video : kept_body k.video ≤ 65536
  pub audio : kept_body k.audio ≤ 65536

-- the configuration of that kind in effect at n, with its item
abbrev pub IsKept : Kind → List Item → ℕ → Option NumberedConfig → Type 0
IsKept kind items n None = config_at kind items n ≡ None
IsKept kind items n (Some k) = (config_at kind items n ≡ Some k.number) × (slice_get items k.number ≡ Some (item.Unit k.unit))

pub record AreKept (items : List Item) (n : ℕ) (k : KeptConfigs) : Type 0 where
  pub meta : IsKept Meta items n k.meta
  pub video : IsKept VConfig items n k.video
  pub audio : IsKept AConfig items n k.audio
  pub small : AreSmall k

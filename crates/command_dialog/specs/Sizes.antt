-- How many bytes the lengths of NAL units have in what is published, by the units that were pushed
use Rattle.std.specs.Prelude.{ℕ, Bool, true, false, List, [], ◌∷◌, Option, Some, None}
use Rattle.std.specs.Option.{option_map_or}
use Rattle.std.specs.List.{find}
use Rattle.av_unit.specs.Media.{Media}
use Rattle.av_unit.specs.Disposable.{length_size}
use Rattle.av_unit.specs.declared.unit.Kind.{Kind}
use Rattle.av_unit.specs.declared.unit.Kind.TheVariants as kind
use Rattle.command_dialog.specs.declared.types.Act.{Act}
use Rattle.command_dialog.specs.declared.types.Act.TheVariants as act
use Rattle.command_dialog.specs.Past.{Event, one, state_of}

-- a Begin begins anew
abbrev pub pushed_then : Option Act → List Media → List Media
pushed_then None units = units
pushed_then (Some (act.Push u)) units = u ∷ units
pushed_then (Some (act.Begin place name)) units = []
pushed_then (Some (act.Join place name)) units = units
pushed_then (Some act.End) units = units
pushed_then (Some (act.Leave player)) units = units

-- THE UNITS that were pushed since the last Begin, the newest first
abbrev pub pushed_of : ℕ → List Event → List Media
pushed_of window [] = []
pushed_of window (e ∷ past) = pushed_then (one (state_of window past) e).makes (pushed_of window past)

abbrev pub is_video_config : Kind → Bool
is_video_config kind.VConfig = true
is_video_config kind.Meta = false
is_video_config kind.AConfig = false
is_video_config kind.Key = false
is_video_config kind.Inter = false
is_video_config kind.Spare = false
is_video_config kind.Audio = false
is_video_config kind.Data = false

-- what the last video configuration of units tells, the newest first; 0 where there is none
abbrev pub last_size : List Media → ℕ
last_size units = option_map_or (λ u. length_size u.body) (find (λ u. is_video_config u.kind) units) 0

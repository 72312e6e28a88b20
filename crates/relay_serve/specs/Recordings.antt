-- The recordings of a configuration
use Rattle.std.specs.Prelude.{ℕ, ◌+◌, ◌*◌, ◌^◌, ◌%◌, ◌==◌, if◌then◌else◌, List, [], ◌∷◌, ◌++◌, Option, Some, None, slice_get}
use Rattle.std.specs.List.{flat_map, range_with_len}
use Rattle.std.specs.Option.{option_and_then, option_map}
use Rattle.relay_config.specs.declared.config.Config.{Config}
use Rattle.relay_config.specs.declared.config.PlaceRule.{PlaceRule}
use Rattle.relay_worker.specs.Running.{Label}
use Rattle.relay_worker.specs.declared.recorder.RecordingForm.{RecordingForm}
use Rattle.relay_worker.specs.declared.recorder.RecordingForm.TheVariants as form

-- THE NAME of the recorder of a stream in a form. Each place has two, from 2^60 on
abbrev pub recorder_name : ℕ → RecordingForm → ℕ
recorder_name place form.Flv = 2 ^ 60 + 2 * place
recorder_name place form.Ts = 2 ^ 60 + 2 * place + 1

-- A RECORDING of the stream at a place, of units of at most `longest` bytes
abbrev pub recording : ℕ → ℕ → RecordingForm → Label
recording longest place form = record { who = recorder_name place form; place = place; form = form; longest = longest }

-- its file in that form, if it is recorded so
abbrev pub file_in : RecordingForm → PlaceRule → Option (List ℕ)
file_in form.Flv rule = rule.flv
file_in form.Ts rule = rule.ts

-- THE FILE of the stream at a place
abbrev pub file_name : List PlaceRule → ℕ → RecordingForm → Option (List ℕ)
file_name places place form = option_and_then (file_in form) (slice_get places place)

abbrev pub recording_if : Option (List ℕ) → Label → List Label
recording_if None r = []
recording_if (Some name) r = r ∷ []

-- those of the stream at a place: FLV before the transport stream
abbrev pub recordings_at : ℕ → ℕ → PlaceRule → List Label
recordings_at longest place rule =
    recording_if (file_in form.Flv rule) (recording longest place form.Flv) ++ recording_if (file_in form.Ts rule) (recording longest place form.Ts)

-- those of the worker with this number, of so many, where the places are numbered from `place` on: those at
-- each place that is its number, modulo the number of workers
abbrev pub own_from : ℕ → ℕ → ℕ → ℕ → List PlaceRule → List Label
own_from longest workers worker place [] = []
own_from longest workers worker place (rule ∷ rules) =
    (if place % workers == worker then recordings_at longest place rule else []) ++ own_from longest workers worker (place + 1) rules

-- THE RECORDINGS OF A WORKER, by their places: of units as long as the configuration's longest message
abbrev pub recordings_of : Config → ℕ → List Label
recordings_of config worker = own_from config.limits.max_message config.workers worker 0 config.places

-- THE RECORDINGS of the first workers, by their numbers
abbrev pub recordings_upto : Config → ℕ → List Label
recordings_upto config workers = flat_map (recordings_of config) (range_with_len 0 workers)

-- ---- their files, as the house is asked for them

abbrev pub names_if : Option (List ℕ) → List (List ℕ)
names_if None = []
names_if (Some name) = name ∷ []

-- the names of the files of the stream at a place: FLV before the transport stream
abbrev pub names_at : PlaceRule → List (List ℕ)
names_at rule = names_if rule.flv ++ names_if rule.ts

-- those of the worker with this number, of so many, where the places are numbered from `place` on
abbrev pub names_from : ℕ → ℕ → ℕ → List PlaceRule → List (List ℕ)
names_from workers worker place [] = []
names_from workers worker place (rule ∷ rules) =
    (if place % workers == worker then names_at rule else []) ++ names_from workers worker (place + 1) rules

abbrev pub names_of : Config → ℕ → List (List ℕ)
names_of config worker = names_from config.workers worker 0 config.places

-- THE NAMES OF ALL FILES, as the first workers are given them, by their numbers
abbrev pub names_upto : Config → ℕ → List (List ℕ)
names_upto config workers = flat_map (names_of config) (range_with_len 0 workers)

-- what a house tells that gave files of these names more
abbrev pub with_names : Option (List (List ℕ)) → List (List ℕ) → Option (List (List ℕ))
with_names before names = option_map (λ list. list ++ names) before

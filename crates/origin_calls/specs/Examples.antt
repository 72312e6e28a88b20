-- Worked examples of an edge's calls
use Rattle.std.specs.Prelude.{ℕ, List, [], ◌∷◌, ◌++◌}
use Rattle.av_unit.specs.declared.unit.Kind.{Kind}
use Rattle.av_unit.specs.declared.unit.Kind.TheVariants.{Meta, VConfig, AConfig, Key, Inter, Audio}
use Rattle.av_unit.specs.Examples.{aac_frame, aac_header, avc, meta, slice}
use Rattle.stream_model.specs.declared.calls.Call.{Call}
use Rattle.stream_model.specs.declared.calls.Call.TheVariants as call
use Rattle.client_owed.specs.declared.types.Gift.{Gift}
use Rattle.client_owed.specs.declared.types.Gift.TheVariants as gift

abbrev pub tag : ℕ → ℕ → List ℕ → Gift
tag kind time body = gift.Tag (record { kind = kind; time = time; body = body })

abbrev pub push : Kind → ℕ → List ℕ → Call
push kind time body = call.Push (record { kind = kind; time = time; body = body })

-- a picture that no other needs, as lengths of four bytes tell
abbrev pub spared : List ℕ
spared = avc 2 1 ++ slice

-- metadata, both configurations and frames of a broadcast, as a client is told of them and as an edge pushes them
abbrev pub film : List Gift
film = tag 18 0 meta ∷ tag 9 0 (avc 1 0) ∷ tag 8 0 aac_header ∷ tag 9 0 (avc 1 1) ∷ tag 9 40 (avc 2 1) ∷ tag 8 40 aac_frame ∷ []

abbrev pub film_units : List Call
film_units =
    push Meta 0 meta ∷ push VConfig 0 (avc 1 0) ∷ push AConfig 0 aac_header
    ∷ push Key 0 (avc 1 1) ∷ push Inter 40 (avc 2 1) ∷ push Audio 40 aac_frame ∷ []

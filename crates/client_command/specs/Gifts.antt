-- What is written of a stream that is played
use Rattle.std.specs.Prelude.{ℕ, List, [], ◌∷◌}
use Rattle.flv_tags.specs.declared.tag.Tag.{Tag}
use Rattle.flv_tags.specs.Written.{tags_text}
use Rattle.client_owed.specs.declared.types.Gift.{Gift}
use Rattle.client_owed.specs.declared.types.Gift.TheVariants as gift

-- the tags of what a client was told
abbrev pub tags_in : List Gift → List Tag
tags_in [] = []
tags_in (gift.Tag t ∷ gifts) = t ∷ tags_in gifts
tags_in (gift.Published ∷ gifts) = tags_in gifts
tags_in (gift.Unpublished ∷ gifts) = tags_in gifts

-- THE TEXT of it: the header and its tags, and nothing before the first gift
abbrev pub pull_text : List Gift → List ℕ
pull_text [] = []
pull_text (g ∷ gifts) = tags_text (tags_in (g ∷ gifts))

-- it wasn't told that its stream is over
abbrev pub IsOn : List Gift → Type 0
IsOn [] = Unit {0}
IsOn (gift.Tag t ∷ gifts) = IsOn gifts
IsOn (gift.Published ∷ gifts) = IsOn gifts
IsOn (gift.Unpublished ∷ gifts) = ⊥

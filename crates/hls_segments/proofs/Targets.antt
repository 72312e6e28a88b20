-- The target duration
use Rattle.std.proofs.Common.{◌≤◌, ℕ, List, [], ◌∷◌, arith}
use Rattle.hls_segments.specs.Playlist.{rounded, target}
use Rattle.hls_segments.specs.Laws.{CoversAll, Each}

all_within : (most : ℕ) (list : List ℕ) → target list ≤ most → Each (λ span. rounded span ≤ most) list
all_within most [] h = tt
all_within most (span ∷ more) h =
    let first : rounded span ≤ target (span ∷ more) = omega arith in
    let rest : target more ≤ target (span ∷ more) = omega arith in
    (omega (arith, first, h), all_within most more (omega (arith, rest, h)))

pub covers_all : (list : List ℕ) → CoversAll list
covers_all list = all_within (target list) list (omega arith)

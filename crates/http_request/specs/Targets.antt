-- THE TARGET of a request that asks for a stream (own): /APP/NAME.flv, with ?KEY or without
use Rattle.std.specs.Prelude.{ℕ, ◌+◌, ◌-◌, Bool, ◌==◌, if◌then◌else◌, List, [], ◌∷◌, length, take, drop, codes, Option, Some, None}
use Rattle.std.specs.List.{position}
use Rattle.std.specs.Cmp.Lexicographic.{pointwise}
use Rattle.http_request.specs.declared.target.Names.{Names}

pub record Target : Type 0 where
  pub app : List ℕ
  pub name : List ℕ
  pub key : List ℕ

-- the names and the key as the code has them, which are parts of the target
abbrev pub plain : Option Names → Option Target
plain None = None
plain (Some n) = Some (record { app = n.app.now; name = n.name.now; key = n.key.now })

abbrev pub is_get_method : List ℕ → Bool
is_get_method method = pointwise ◌==◌ method (codes "GET")

-- where a byte stands first
abbrev pub first : ℕ → List ℕ → Option ℕ
first byte text = position (λ c. c == byte) text

abbrev pub up_to : List ℕ → Option ℕ → List ℕ
up_to text None = text
up_to text (Some i) = take i text

abbrev pub behind : List ℕ → Option ℕ → List ℕ
behind text None = []
behind text (Some i) = drop (i + 1) text

-- what stands before the first of these bytes, or all
abbrev pub before_first : ℕ → List ℕ → List ℕ
before_first byte text = up_to text (first byte text)

-- what stands behind it, or nothing
abbrev pub after_first : ℕ → List ℕ → List ℕ
after_first byte text = behind text (first byte text)

-- a file's name ends in .flv
abbrev pub is_file : List ℕ → Bool
is_file file = pointwise ◌==◌ (drop (length file - 4) file) (codes ".flv")

-- the name before that
abbrev pub stem : List ℕ → List ℕ
stem file = take (length file - 4) file

abbrev pub in_file : List ℕ → List ℕ → List ℕ → Option Target
in_file app file key = if is_file file then Some (record { app = app; name = stem file; key = key }) else None

-- the app ends at the first / (47)
abbrev pub in_path : List ℕ → Option ℕ → List ℕ → Option Target
in_path path None key = None
in_path path (Some i) key = in_file (take i path) (drop (i + 1) path) key

abbrev pub pair_of : List ℕ → List ℕ → Option Target
pair_of path key = in_path path (first 47 path) key

-- the path begins with / (47)
abbrev pub in_whole_path : List ℕ → List ℕ → Option Target
in_whole_path [] key = None
in_whole_path (c ∷ path) key = if c == 47 then pair_of path key else None

-- what a target asks for: the key begins at the first ? (63)
abbrev pub target_of : List ℕ → Option Target
target_of target = in_whole_path (before_first 63 target) (after_first 63 target)

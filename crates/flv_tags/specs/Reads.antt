-- What bytes read as: the grammar of a file (E.2, E.3, E.4.1), with any flags, any four bytes after the header, and any
-- stream ids.
use Rattle.std.specs.Prelude.{◌≡◌, ◌≢◌, ◌≤◌, ◌<◌, ◌⊎◌, ℕ, ◌+◌, true, List, [], ◌++◌, length, map, slice_index}
use Rattle.std.specs.List.{AllByRecursion, concat}
use Rattle.flv_tags.specs.declared.tag.Tag.{Tag}
use Rattle.flv_tags.specs.Layout.{is_kind, most_bytes, kind_in, size_in, back_in, tag_size, tag_in}
use Rattle.flv_tags.specs.Written.{header}

-- each of the first nine bytes that is there is the header's, but for the flags
abbrev pub IsAsHeader : List ℕ → Type 0
IsAsHeader b = (i : ℕ) → i < length b → i < 9 → i ≢ 4 → slice_index b i ≡ slice_index header i

-- nothing in the bytes r of a tag is refused
pub record Admits (r : List ℕ) : Type 0 where
  pub kind : 0 < length r → is_kind (kind_in r) ≡ true
  pub fits : 4 ≤ length r → size_in r ≤ most_bytes
  pub back : tag_size r ≤ length r → back_in r ≡ size_in r + 11

-- a tag, with the bytes that count it back
pub record IsTag (b : List ℕ) : Type 0 where
  pub admitted : Admits b
  pub whole : length b ≡ tag_size b

-- less than a tag
pub record IsOpen (r : List ℕ) : Type 0 where
  pub admitted : Admits r
  pub short : length r < tag_size r

-- THE FILE: the header, and tags one after another
pub record IsFile (b : List ℕ) (tags : List Tag) : Type 0 where
  pub head : List ℕ
  pub parts : List (List ℕ)
  pub head_whole : length head ≡ 13
  pub head_is : IsAsHeader head
  pub each : AllByRecursion IsTag parts
  pub bytes : b ≡ head ++ concat parts
  pub tags_are : tags ≡ map tag_in parts

-- less than a header
pub record InHeader (b : List ℕ) (tags : List Tag) (r : List ℕ) : Type 0 where
  pub short : length b < 13
  pub as_header : IsAsHeader b
  pub none : tags ≡ []
  pub all : r ≡ b

-- a file, and the bytes r of a tag that isn't whole
pub record InTags (b : List ℕ) (tags : List Tag) (r : List ℕ) : Type 0 where
  pub file : List ℕ
  pub is_file : IsFile file tags
  pub bytes : b ≡ file ++ r
  pub rest : IsOpen r

-- The bytes b read as these tags, and the bytes r of a header or of a tag that isn't whole.
abbrev pub Reads : List ℕ → List Tag → List ℕ → Type 0
Reads b tags r = InHeader b tags r ⊎ InTags b tags r

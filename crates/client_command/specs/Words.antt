-- The words of the command line
use Rattle.std.specs.Prelude.{◌<◌, ◌≤◌, ℕ, Bool, ◌&&◌, nat_lt, nat_le, if◌then◌else◌, List, [], ◌∷◌, codes, length, Option, Some, None}
use Rattle.client_owed.specs.News.{is_text}
use Rattle.client_owed.specs.declared.types.Asked.{Asked}
use Rattle.client_owed.specs.declared.types.Wish.{Wish}
use Rattle.client_owed.specs.declared.types.Wish.TheVariants as wish

-- the word of each wish
abbrev pub word_of : Wish → List ℕ
word_of wish.Push = codes "push"
word_of wish.Pull = codes "pull"

-- a word of 1 to 255 bytes
abbrev pub is_short : List ℕ → Bool
is_short word = nat_lt 0 (length word) && nat_le (length word) 255

pub record IsShort (word : List ℕ) : Type 0 where
  pub some : 0 < length word
  pub most : length word ≤ 255

abbrev pub AreShort : List ℕ → List ℕ → List ℕ → Type 0
AreShort address app name = IsShort address × IsShort app × IsShort name

-- `push ADDRESS APP NAME` or `pull ADDRESS APP NAME`, where each of the three has 1 to 255 bytes
abbrev pub asked_by : Wish → List ℕ → List ℕ → List ℕ → List ℕ → Option Asked
asked_by w word address app name =
    if is_text word (word_of w) && (is_short address && (is_short app && is_short name))
    then Some (record { wish = w; address = address; app = app; name = name }) else None

-- WHAT THE WORDS ASK FOR
abbrev pub asked_of : Wish → List (List ℕ) → Option Asked
asked_of w [] = None
asked_of w (word ∷ []) = None
asked_of w (word ∷ address ∷ []) = None
asked_of w (word ∷ address ∷ app ∷ []) = None
asked_of w (word ∷ address ∷ app ∷ name ∷ []) = asked_by w word address app name
asked_of w (word ∷ address ∷ app ∷ name ∷ other ∷ words) = None

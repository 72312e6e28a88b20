-- The words of the command line
use Rattle.std.specs.Prelude.{ℕ, ◌&&◌, if◌then◌else◌, List, [], ◌∷◌, codes, Option, Some, None}
use Rattle.client_command.specs.Words.{is_short}
use Rattle.client_owed.specs.News.{is_text}
use Rattle.client_owed.specs.declared.types.Asked.{Asked}
use Rattle.client_owed.specs.declared.types.Wish.TheVariants.{Pull}

-- a stream that is played: the one of this name of this app, at the server of that address
abbrev pub pull_of : List ℕ → List ℕ → List ℕ → Asked
pull_of address app name = record { wish = Pull; address = address; app = app; name = name }

-- `edge FILE ADDRESS APP NAME`, where ADDRESS, APP and NAME have 1 to 255 bytes
abbrev pub asked_by : List ℕ → List ℕ → List ℕ → List ℕ → Option Asked
asked_by word address app name =
    if is_text word (codes "edge") && (is_short address && (is_short app && is_short name)) then Some (pull_of address app name) else None

-- WHAT THE WORDS ASK FOR
abbrev pub asked_of : List (List ℕ) → Option Asked
asked_of [] = None
asked_of (word ∷ []) = None
asked_of (word ∷ file ∷ []) = None
asked_of (word ∷ file ∷ address ∷ []) = None
asked_of (word ∷ file ∷ address ∷ app ∷ []) = None
asked_of (word ∷ file ∷ address ∷ app ∷ name ∷ []) = asked_by word address app name
asked_of (word ∷ file ∷ address ∷ app ∷ name ∷ other ∷ words) = None

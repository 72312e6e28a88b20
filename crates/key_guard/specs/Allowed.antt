-- Which keys the grants of a stream allow
use Rattle.std.specs.Prelude.{ℕ, Bool, true, List, ◌∷◌, ◌++◌, nat_eq}
use Rattle.std.specs.List.{Contains, list_any}
use Rattle.std.specs.Cmp.Lexicographic.{pointwise}
use Rattle.sha2.specs.Sha256.{sha256}
use Rattle.key_guard.specs.declared.check.Grants.{Grants}
use Rattle.key_guard.specs.declared.check.Grants.TheVariants.{Open, Keys}
use Rattle.key_guard.specs.declared.check.Mode.{Mode}
use Rattle.key_guard.specs.declared.check.Mode.TheVariants.{Plain, Digest, Named}

-- the grants are open, or have these bytes
abbrev pub Has : Grants → List ℕ → Type 0
Has Open bytes = Unit {0}
Has (Keys keys) bytes = Contains keys bytes

-- the text of a key for one name: the name, `:` and the key. A name that has no `:` and a key have a text of their own
abbrev pub for_name : List ℕ → List ℕ → List ℕ
for_name name key = name ++ 58 ∷ key

-- the grants are open, or have the key (Plain), or the 32 bytes of its SHA-256 (Digest; FIPS 180-4), or those
-- of the SHA-256 of the key for the name that is asked for (Named)
abbrev pub Allowed : Mode → Grants → List ℕ → List ℕ → Type 0
Allowed Plain grants name key = Has grants key
Allowed Digest grants name key = Has grants (sha256 key)
Allowed Named grants name key = Has grants (sha256 (for_name name key))

-- the same as tests, which a guard keeps as a fact of its function
abbrev pub has : Grants → List ℕ → Bool
has Open bytes = true
has (Keys keys) bytes = list_any (pointwise nat_eq bytes) keys

abbrev pub is_allowed : Mode → Grants → List ℕ → List ℕ → Bool
is_allowed Plain grants name key = has grants key
is_allowed Digest grants name key = has grants (sha256 key)
is_allowed Named grants name key = has grants (sha256 (for_name name key))

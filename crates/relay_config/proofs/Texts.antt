-- Which texts are tables
use Rattle.std.proofs.Common.{◌≡◌, ℕ, ◌≤◌, nat_le, List, length, refl, Some, None, inl, inr, le-leb}
use Rattle.std.specs.Str.{IsUtf8, is_utf8}
use Rattle.std.proofs.Math.Bool.{and-false}
use Rattle.std.proofs.lemmas.Bool.{cases_Bool}
use Rattle.std.proofs.lemmas.Str.{IsUtf8-from_is_utf8, is_utf8-from_IsUtf8}
use Rattle.toml.specs.Data.{Data, Members, table}
use Rattle.toml.specs.Parse.{parse_document}
use Rattle.relay_config.specs.Accepts.{document}

pub no_text : (bytes : List ℕ) → ¬ (IsUtf8 bytes) → document bytes ≡ None
no_text bytes n = elim (cases_Bool (is_utf8 bytes)) [
  | inl so ↦ absurd (n (IsUtf8-from_is_utf8 bytes so))
  | inr other ↦ rw (other, and-false (nat_le (length bytes) 1048576)) refl
]

pub is_document : (bytes : List ℕ) (ms : Members) (d : Data) → length bytes ≤ 1048576 → IsUtf8 bytes → parse_document bytes ≡ Some ms
    → d ≡ table ms → document bytes ≡ Some d
is_document bytes ms d short text parsed is = rw (le-leb (length bytes) 1048576 short, is_utf8-from_IsUtf8 bytes text, parsed, is) refl

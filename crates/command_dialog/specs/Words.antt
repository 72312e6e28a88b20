-- The texts of connect, publish and play (RTMP 1.0, sections 7.2.1.1, 7.2.2.1 and 7.2.2.6). That a ? ends the
-- name is this project's own.
use Rattle.std.specs.Prelude.{ℕ, ◌+◌, ◌-◌, List, [], length, take, drop, get_or, Option, Some, None, Bool, ◌==◌, nat_lt, if◌then◌else◌}
use Rattle.std.specs.List.{position}
use Rattle.std.specs.Cmp.Lexicographic.{pointwise}

abbrev pub is_text : List ℕ → List ℕ → Bool
is_text xs ys = pointwise ◌==◌ xs ys

-- what stands before the first ?
abbrev pub before_mark : List ℕ → Option ℕ → List ℕ
before_mark text None = text
before_mark text (Some i) = take i text

-- what follows it, else nothing
abbrev pub after_mark : List ℕ → Option ℕ → List ℕ
after_mark text None = []
after_mark text (Some i) = drop (i + 1) text

-- where the first ? stands
abbrev pub mark_in : List ℕ → Option ℕ
mark_in text = position (λ c. c == 63) text

abbrev pub name_in : List ℕ → List ℕ
name_in text = before_mark text (mark_in text)

abbrev pub key_in : List ℕ → List ℕ
key_in text = after_mark text (mark_in text)

-- one last / is removed
abbrev pub without_slash : List ℕ → List ℕ
without_slash text = if get_or text (length text - 1) 0 == 47 then take (length text - 1) text else text

-- an app of more than 64 bytes, which no place has, is kept as the empty one
abbrev pub short_app : List ℕ → List ℕ
short_app app = if nat_lt 64 (length app) then [] else app

abbrev pub app_in : List ℕ → List ℕ
app_in text = short_app (without_slash (name_in text))

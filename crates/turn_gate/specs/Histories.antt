-- Histories, the oldest call first, and places in them. A place is the number of calls before it
use Rattle.std.specs.Prelude.{◌≡◌, ℕ, ◌+◌, ◌<◌, ◌≤◌, if◌then◌else◌, nat_eq, nat_lt, List, [], ◌∷◌, ◌++◌, length, Option, Some, None}

-- the second list begins with the first
abbrev pub Begins : {E : Type 0} → List E → List E → Type 0
Begins {E} xs ys = (rest : List E) × (xs ++ rest ≡ ys)

module _ {E : Type 0} where
  -- the first where both are as long
  abbrev pub longer : List E → List E → List E
  longer xs ys = if nat_lt (length xs) (length ys) then ys else xs

  -- the one that `longer` isn't
  abbrev pub shorter : List E → List E → List E
  shorter xs ys = if nat_lt (length xs) (length ys) then xs else ys

  -- a history after a call, or after none
  abbrev pub grown : List E → Option E → List E
  grown h None = h
  grown h (Some e) = h ++ e ∷ []

  -- own places after it, where the call got this place
  abbrev pub placed : List ℕ → ℕ → Option E → List ℕ
  placed mine place None = mine
  placed mine place (Some e) = mine ++ place ∷ []

-- the sum of a number of each
abbrev pub total : {A : Type 0} → (A → ℕ) → List A → ℕ
total f [] = 0
total f (x ∷ xs) = f x + total f xs

-- how often a place stands in a list
abbrev pub times : ℕ → List ℕ → ℕ
times p [] = 0
times p (x ∷ xs) = (if nat_eq x p then 1 else 0) + times p xs

-- no place stands twice, and each is below n
abbrev pub AreOwn : List ℕ → ℕ → Type 0
AreOwn places n = (p : ℕ) → (times p places ≤ 1) × (0 < times p places → p < n)

-- each place below n stands there once
abbrev pub AreAll : List ℕ → ℕ → Type 0
AreAll places n = (p : ℕ) → p < n → times p places ≡ 1

-- WHAT THE BYTES THAT CAME ARE, as the beginning of a request (RFC 9112, section 3; httparse's grammar says
-- what a head is)
use Rattle.std.specs.Prelude.{◌≡◌, ◌⊎◌, ℕ, ◌<◌, ◌≤◌, List, length, take}
use Rattle.httparse.specs.Grammar.{EndsInTarget, HasNoRequest, MayBecomeRequest, NeverHasRequest, ReadsRequest, RequestHead}
use Rattle.httparse.specs.Spans.{RequestExceeds, RequestOverflows}
use Rattle.http_request.specs.declared.head.Head.{Head}
use Rattle.http_request.specs.declared.head.Head.TheVariants as head

-- a head has at most so many bytes, and so many headers (own)
abbrev pub most_bytes : ℕ
most_bytes = 4096

abbrev pub most_headers : ℕ
most_headers = 64

-- no more of them is looked at
abbrev pub front : List ℕ → List ℕ
front x = take most_bytes x

pub data Verdict : Type 0 where
  -- the head isn't whole yet
  Unfinished : Verdict
  -- it is no request that is read
  Refused : Verdict
  -- it has this method and this target
  Asks : List ℕ → List ℕ → Verdict

-- there are fewer bytes than a head may have, none of their beginnings is a head, and more bytes can make one
pub record IsUnfinished (x : List ℕ) : Type 0 where
  pub short : length x < most_bytes
  pub none : HasNoRequest (front x)
  pub may : MayBecomeRequest (front x)

-- a beginning and an empty line are a head of more headers, and each head that it may become has more
pub record HasTooMany (x : List ℕ) : Type 0 where
  pub many : RequestExceeds most_headers (front x)
  pub none : RequestOverflows most_headers (front x)

-- as many bytes as a head may have hold no whole one
pub record IsTooLong (x : List ℕ) : Type 0 where
  pub long : most_bytes ≤ length x
  pub none : HasNoRequest (front x)

-- no bytes can follow that make a head, or there are too many headers, or too many bytes
abbrev pub IsRefused : List ℕ → Type 0
IsRefused x = NeverHasRequest (front x) ⊎ (HasTooMany x ⊎ IsTooLong x)

-- they begin with a whole head of this method and this target
pub record IsHead (x method target : List ℕ) : Type 0 where
  pub head : RequestHead
  pub rest : List ℕ
  pub reads : ReadsRequest (front x) head rest
  pub few : length head.fields ≤ most_headers
  pub method_is : head.method ≡ method
  pub target_is : head.target ≡ target

-- THE VERDICT on the bytes that came
abbrev pub IsRead : List ℕ → Verdict → Type 0
IsRead x Unfinished = IsUnfinished x
IsRead x Refused = IsRefused x
IsRead x (Asks method target) = IsHead x method target

-- as the code has it
abbrev pub read_as : Head → Verdict
read_as head.Unfinished = Unfinished
read_as head.Refused = Refused
read_as (head.Asks method target) = Asks method.now target.now

-- that two verdicts on the same bytes are one. Where httparse leaves open when it refuses, it may be both:
-- where the bytes end in a target that is no text so far, or hold more headers than are read and no empty
-- line yet
abbrev pub IsOpen : List ℕ → Type 0
IsOpen x = EndsInTarget (front x) ⊎ HasTooMany x

abbrev pub Agree : List ℕ → Verdict → Verdict → Type 0
Agree x Unfinished Refused = IsOpen x
Agree x Refused Unfinished = IsOpen x
Agree x v w = v ≡ w

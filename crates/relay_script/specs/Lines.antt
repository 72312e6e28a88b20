-- The lines of a drill's script, each by itself.
use Rattle.std.specs.Prelude.{ℕ, zero, suc, ◌+◌, ◌-◌, ◌*◌, ◌^◌, Bool, true, false, ◌&&◌, if◌then◌else◌, ◌==◌, nat_lt, nat_le}
use Rattle.std.specs.Prelude.{List, [], ◌∷◌, length, take, drop, codes, None, Some}
use Rattle.std.specs.List.{position}
use Rattle.std.specs.declared.option.Option.{Option}
use Rattle.std.specs.Option.{option_and_then, option_map}
use Rattle.std.specs.Cmp.Lexicographic.{pointwise}
use Rattle.std.proofs.Math.ListN.{replicate}
use Rattle.av_unit.specs.declared.unit.Kind.{Kind}
use Rattle.av_unit.specs.declared.unit.Kind.TheVariants.{Meta, VConfig, AConfig, Key, Inter, Spare, Audio, Data}
use Rattle.av_unit.specs.declared.head.Want.{Want}
use Rattle.av_unit.specs.Fits.{most_bytes}
use Rattle.stream_model.specs.declared.calls.Call.{Call}
use Rattle.stream_model.specs.declared.calls.Call.TheVariants as call
use Rattle.stream_model.specs.Names.{is_name}
use Rattle.relay_script.specs.declared.line.DrillLine.{DrillLine}
use Rattle.relay_script.specs.declared.line.DrillLine.TheVariants.{Nothing, Ring, Pool, Step, Held}

-- ---- words

-- a word, and what follows the space after it
pub record Word : Type 0 where
  pub word : List ℕ
  pub rest : Option (List ℕ)

abbrev pub cut_at : List ℕ → Option ℕ → Word
cut_at text None = record { word = text; rest = None }
cut_at text (Some i) = record { word = take i text; rest = Some (drop (i + 1) text) }

-- words are parted by one space
abbrev pub first_word : List ℕ → Word
first_word text = cut_at text (position (λ c. c == 32) text)

-- the next word, which must be there and be read so, and what follows it
abbrev pub next : {A B : Type 0} → Option (List ℕ) → (List ℕ → Option A) → (A → Option (List ℕ) → Option B) → Option B
next None read f = None
next (Some text) read f = option_and_then (λ x. f x (first_word text).rest) (read (first_word text).word)

-- no word follows
abbrev pub last : {B : Type 0} → Option (List ℕ) → B → Option B
last None x = Some x
last (Some text) x = None

-- ---- what a word says

abbrev pub is_text : List ℕ → List ℕ → Bool
is_text xs ys = pointwise ◌==◌ xs ys

-- the value of decimal digits, after those that were read
abbrev pub digits_from : ℕ → List ℕ → Option ℕ
digits_from value [] = Some value
digits_from value (c ∷ cs) = if nat_le 48 c && nat_le c 57 then digits_from (10 * value + (c - 48)) cs else None

abbrev pub from_first : ℕ → List ℕ → Option ℕ
from_first first [] = digits_from 0 (first ∷ [])
from_first first (c ∷ cs) = if first == 48 then None else digits_from 0 (first ∷ c ∷ cs)

-- a decimal number without sign or leading zero
abbrev pub decimal_of : List ℕ → Option ℕ
decimal_of [] = None
decimal_of (c ∷ cs) = from_first c cs

abbrev pub below : ℕ → Option ℕ → Option ℕ
below bound None = None
below bound (Some n) = if nat_lt n bound then Some n else None

-- a number below the bound
abbrev pub number : ℕ → List ℕ → Option ℕ
number bound word = below bound (decimal_of word)

abbrev pub not_zero : Option ℕ → Option ℕ
not_zero None = None
not_zero (Some zero) = None
not_zero (Some (suc n)) = Some (suc n)

-- a number from 1 on, below the bound
abbrev pub count_of : ℕ → List ℕ → Option ℕ
count_of bound word = not_zero (number bound word)

-- KIND
abbrev pub kind_of : List ℕ → Option Kind
kind_of word =
    if is_text word (codes "meta") then Some Meta
    else (if is_text word (codes "vconfig") then Some VConfig
    else (if is_text word (codes "aconfig") then Some AConfig
    else (if is_text word (codes "key") then Some Key
    else (if is_text word (codes "inter") then Some Inter
    else (if is_text word (codes "spare") then Some Spare
    else (if is_text word (codes "audio") then Some Audio
    else (if is_text word (codes "data") then Some Data else None)))))))

-- WANT: `av` sound and pictures, `a` sound, `v` pictures, `n` neither
abbrev pub want_of : List ℕ → Option Want
want_of word =
    if is_text word (codes "av") then Some (record { audio = true; video = true })
    else (if is_text word (codes "a") then Some (record { audio = true; video = false })
    else (if is_text word (codes "v") then Some (record { audio = false; video = true })
    else (if is_text word (codes "n") then Some (record { audio = false; video = false }) else None)))

-- WHO, TIME and PLAYER
abbrev pub who_of : List ℕ → Option ℕ
who_of word = number (2 ^ 32) word

abbrev pub time_of : List ℕ → Option ℕ
time_of word = number (2 ^ 32) word

abbrev pub player_of : List ℕ → Option ℕ
player_of word = number 256 word

-- LEN, for a unit of that kind
abbrev pub len_of : Kind → List ℕ → Option ℕ
len_of kind word = number (most_bytes kind + 1) word

-- BYTES, ITEMS and PLAYERS
abbrev pub bytes_of : List ℕ → Option ℕ
bytes_of word = number (268435456 + 1) word

abbrev pub items_of : List ℕ → Option ℕ
items_of word = count_of (65536 + 1) word

abbrev pub players_of : List ℕ → Option ℕ
players_of word = count_of (256 + 1) word

-- SLOTS
abbrev pub slots_of : List ℕ → Option ℕ
slots_of word = count_of (64 + 1) word

-- NAME: 1 to 64 letters, digits, `.`, `_` or `-`
abbrev pub name_of : List ℕ → Option (List ℕ)
name_of word = if is_name word then Some word else None

-- ---- lines

abbrev pub ring_of : ℕ → ℕ → ℕ → DrillLine
ring_of bytes items players = Ring (record { bytes = bytes; items = items; players = players })

-- BYTES ITEMS PLAYERS
abbrev pub ring_line : Option (List ℕ) → Option DrillLine
ring_line words =
    next words bytes_of (λ bytes rest.
    next rest items_of (λ items rest.
    next rest players_of (λ players rest.
    last rest (ring_of bytes items players))))

-- SLOTS
abbrev pub pool_line : Option (List ℕ) → Option DrillLine
pool_line words = next words slots_of (λ slots rest. last rest (Pool slots))

-- a call in a script is made before its caller was fed any byte
abbrev pub step : ℕ → Call → DrillLine
step who call = Step (record { who = who; at = 0; call = call })

-- the body of a pushed unit is LEN zero bytes
abbrev pub push_step : ℕ → Kind → ℕ → ℕ → DrillLine
push_step who kind time len = step who (call.Push (record { kind = kind; time = time; body = replicate len 0 }))

-- the call with a name, or without one
abbrev pub call_named : Call → (List ℕ → Call) → Option (List ℕ) → Call
call_named call with_name None = call
call_named call with_name (Some name) = with_name name

-- NAME, or nothing
abbrev pub maybe_name : Option (List ℕ) → Option (Option (List ℕ))
maybe_name None = Some None
maybe_name (Some text) = next (Some text) name_of (λ name rest. last rest (Some name))

-- WHO, or WHO NAME
abbrev pub named_line : Call → (List ℕ → Call) → Option (List ℕ) → Option DrillLine
named_line call with_name words =
    next words who_of (λ who rest.
    option_map (λ name. step who (call_named call with_name name)) (maybe_name rest))

-- WHO
abbrev pub who_line : Call → Option (List ℕ) → Option DrillLine
who_line call words =
    next words who_of (λ who rest.
    last rest (step who call))

-- WHO KIND TIME LEN
abbrev pub push_line : Option (List ℕ) → Option DrillLine
push_line words =
    next words who_of (λ who rest.
    next rest kind_of (λ kind rest.
    next rest time_of (λ time rest.
    next rest (len_of kind) (λ len rest.
    last rest (push_step who kind time len)))))

-- WHO PLAYER WANT
abbrev pub take_line : Option (List ℕ) → Option DrillLine
take_line words =
    next words who_of (λ who rest.
    next rest player_of (λ player rest.
    next rest want_of (λ want rest.
    last rest (step who (call.Take player want)))))

-- WHO PLAYER
abbrev pub leave_line : Option (List ℕ) → Option DrillLine
leave_line words =
    next words who_of (λ who rest.
    next rest player_of (λ player rest.
    last rest (step who (call.Leave player))))

-- a line without bytes of its own, by its first word
abbrev pub plain_line : List ℕ → Option (List ℕ) → Option DrillLine
plain_line word rest =
    if is_text word (codes "ring") then ring_line rest
    else (if is_text word (codes "pool") then pool_line rest
    else (if is_text word (codes "held") then last rest Held
    else (if is_text word (codes "end") then who_line call.End rest
    else (if is_text word (codes "take") then take_line rest
    else (if is_text word (codes "leave") then leave_line rest
    else (if is_text word (codes "count") then last rest (step 0 call.Count) else None))))))

-- a line by its first word
abbrev pub worded_line : List ℕ → Option (List ℕ) → Option DrillLine
worded_line word rest =
    if is_text word (codes "push") then push_line rest
    else (if is_text word (codes "begin") then named_line call.Begin call.BeginAs rest
    else (if is_text word (codes "join") then named_line call.Join call.JoinAs rest else plain_line word rest))

-- an empty line, a line that begins with `#`, or one of the lines above
abbrev pub form : List ℕ → Option DrillLine
form [] = Some Nothing
form (c ∷ cs) = if c == 35 then Some Nothing else worded_line (first_word (c ∷ cs)).word (first_word (c ∷ cs)).rest

-- what a line says, its LF left out: None is outside the grammar
abbrev pub meaning : List ℕ → Option DrillLine
meaning line = if nat_le (length line) 65536 then form line else None

-- the lines that take memory: a push, and what has a name
abbrev pub takes_in : Call → Bool
takes_in (call.Push unit) = true
takes_in (call.BeginAs name) = true
takes_in (call.JoinAs name) = true
takes_in call.Begin = false
takes_in call.End = false
takes_in call.Join = false
takes_in (call.Take player want) = false
takes_in (call.Leave player) = false
takes_in call.Count = false

abbrev pub takes_memory : Option DrillLine → Bool
takes_memory (Some (Step entry)) = takes_in entry.call
takes_memory _ = false

-- A place has a stream, or a pool of slots: its rules, whichever it has.
use Rattle.std.specs.Prelude.{ℕ, ◌+◌, ◌*◌, ◌≤◌, [], ◌∷◌, None, Some}
use Rattle.std.specs.declared.option.Option.{Option}
use Rattle.stream_model.specs.declared.calls.StreamLimits.{StreamLimits}
use Rattle.stream_model.specs.declared.calls.Shape.{Shape}
use Rattle.stream_model.specs.declared.calls.Entry.{Entry}
use Rattle.stream_model.specs.declared.replies.Reply.{Reply}
use Rattle.stream_model.specs.History.{History, items_of}
use Rattle.stream_model.specs.Answer.{reply}
use Rattle.stream_model.specs.Held.{held}
use Rattle.stream_model.specs.Known.{IsLawful}
use Rattle.stream_model.specs.Legal.{Legal}
use Rattle.stream_model.specs.Pool.{slots_of, slot_at, pool_reply, pool_held, IsPoolLawful}

-- What is known of a place: what never changes of it, and its calls so far with their replies, the newest first.
pub record TableKnown : Type 0 where
  pub shape : Shape
  pub past : History

abbrev pub stream_shape : StreamLimits → Shape
stream_shape limits = record { limits = limits; slots = None }

abbrev pub pool_shape : StreamLimits → ℕ → Shape
pool_shape limits n = record { limits = limits; slots = Some n }

abbrev pub reply_by : StreamLimits → Option ℕ → History → Entry → Reply
reply_by limits None past entry = reply limits past entry
reply_by limits (Some n) past entry = pool_reply (record { limits = limits; slots = n; past = past }) entry

-- the reply of a stream, or of a pool
abbrev pub shape_reply : Shape → History → Entry → Reply
shape_reply s past entry = reply_by s.limits s.slots past entry

abbrev pub IsLawfulBy : StreamLimits → Option ℕ → History → Type 0
IsLawfulBy limits None past = IsLawful limits past
IsLawfulBy limits (Some n) past = IsPoolLawful limits n past

-- each call was answered as the calls before it ask
abbrev pub IsShapeLawful : Shape → History → Type 0
IsShapeLawful s past = IsLawfulBy s.limits s.slots past

abbrev pub AreLegalBy : StreamLimits → Option ℕ → History → ℕ → ℕ → Type 0
AreLegalBy limits None past slot player = Legal limits past player
AreLegalBy limits (Some n) past slot player = Legal limits (slot_at (slots_of limits n past) slot).stream.past player

-- What a player was sent at a slot keeps the viewer's law. A stream is its own one slot.
abbrev pub IsLegalAt : Shape → History → ℕ → ℕ → Type 0
IsLegalAt s past slot player = AreLegalBy s.limits s.slots past slot player

abbrev pub held_by : StreamLimits → Option ℕ → History → ℕ
held_by limits None past = held limits (items_of past)
held_by limits (Some n) past = pool_held (record { limits = limits; slots = n; past = past })

-- what it holds, in bytes
abbrev pub shape_held : Shape → History → ℕ
shape_held s past = held_by s.limits s.slots past

abbrev pub most_by : ℕ → Option ℕ → ℕ
most_by bytes None = bytes + 196608
most_by bytes (Some n) = n * (bytes + 196672)

-- what it holds at most: of each stream its window, and three configurations of 65,536 bytes; of each slot
-- its name of 64 bytes too
abbrev pub most_held : Shape → ℕ
most_held s = most_by s.limits.bytes s.slots

abbrev pub AreFewSlots : Option ℕ → Type 0
AreFewSlots None = Unit {0}
AreFewSlots (Some n) = n ≤ 64

-- a place that has had no call
abbrev pub new_table : Shape → TableKnown
new_table s = record { shape = s; past = [] }

abbrev pub table_answered : TableKnown → Entry → Reply → TableKnown
table_answered k entry r = record { shape = k.shape; past = (entry, r) ∷ k.past }

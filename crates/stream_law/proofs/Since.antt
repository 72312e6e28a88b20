-- What was sent since a slot took its name.
use Rattle.std.proofs.Common.{◌≡◌, ◌≢◌, ℕ, ◌+◌, ◌<◌, ◌≤◌, max, Bool, true, false, ◌||◌, if◌then◌else◌, ◌==◌, nat_lt, nat_le, List, [], ◌∷◌, ◌++◌, length, drop, None, Some, Option, ◌⊎◌, inl, inr, refl, sym, ap, ◌∙◌, arith, length-append}
use Rattle.std.specs.List.{slice_get, All}
use Rattle.std.proofs.lemmas.List.Elements.{All-nil, All-push}
use Rattle.std.proofs.lemmas.Option.{slice_get_within, slice_get_cases}
use Rattle.std.proofs.lemmas.Bool.{cases_Bool, cases_lt, false≢true}
use Rattle.std.proofs.lemmas.List.{take_all}
use Rattle.av_unit.specs.declared.item.Item.{Item}
use Rattle.av_unit.specs.declared.item.Item.TheVariants as item
use Rattle.av_unit.specs.declared.unit.Kind.{Kind}
use Rattle.av_unit.specs.declared.unit.Kind.TheVariants.{Key}
use Rattle.av_unit.specs.declared.head.Want.{Want}
use Rattle.stream_model.specs.declared.calls.StreamLimits.{StreamLimits}
use Rattle.stream_model.specs.declared.calls.Call.{Call}
use Rattle.stream_model.specs.declared.calls.Call.TheVariants as call
use Rattle.stream_model.specs.declared.replies.Reply.{Reply}
use Rattle.stream_model.specs.declared.replies.Reply.TheVariants.{Pushed, NotPublisher, Ended, NotPlayer, Left}
use Rattle.stream_model.specs.declared.replies.Taken.{Taken}
use Rattle.stream_model.specs.declared.replies.Taken.TheVariants.{Sent, Skip, NotYet}
use Rattle.stream_model.specs.Items.{config_at, is_live, last_of}
use Rattle.stream_model.specs.Window.{base, join, key_or}
use Rattle.stream_model.specs.Take.{at_kind, taken, takes, send, number_sent, first_due, first_taken}
use Rattle.stream_model.specs.Spell.{Spell, spell, spell_after, cursor, sent, reply_of}
use Rattle.stream_model.specs.History.{History, items_of, publisher, holder}
use Rattle.stream_model.specs.Legal.{Turn, turns}
use Rattle.stream_model.specs.Answer.{reply_to, begin_reply, join_reply, free_place, is_who}
use Rattle.stream_model.specs.Known.{StreamKnown, IsLawful}
use Rattle.stream_model.specs.Pool.{cleared}
use Rattle.stream_model.proofs.Places.{slice_get-append, slice_get-push}
use Rattle.stream_law.specs.InEffect.{InEffect}
use Rattle.stream_law.specs.IsLive.{IsLive}
use Rattle.stream_law.specs.HasTaken.{joins, is_join_of}
use Rattle.stream_law.proofs.Effect.{in_effect}
use Rattle.stream_law.proofs.Live.{live_is}
use Rattle.stream_law.proofs.Dues.{some_or_none, due_first}
use Rattle.stream_law.proofs.FirstTaken.{is_first}
use Rattle.stream_law.proofs.Published.{items_stay}
use Rattle.stream_law.proofs.PoolSlots.{cleared_items}
use Rattle.stream_law.proofs.Calls.{Grown, JoinedNow, TakenNow, change}

-- the items b and b + 1 are a Begin and an End
record IsMarked (items : List Item) (b : ℕ) : Type 0 where
  begin : slice_get items b ≡ Some item.Begin
  end : slice_get items (b + 1) ≡ Some item.End

-- an item that stands at a number lies within the items
here_within : (items : List Item) (n : ℕ) (x : Item) → slice_get items n ≡ Some x → n < length items
here_within items n x e = slice_get_within items n x e

marked_more : (items more : List Item) (b : ℕ) → IsMarked items b → IsMarked (items ++ more) b
marked_more items more b h = record {
  begin = slice_get-append items more b (here_within items b item.Begin h.begin) ∙ h.begin;
  end = slice_get-append items more (b + 1) (here_within items (b + 1) item.End h.end) ∙ h.end;
}

-- an item that isn't one of the markers, and doesn't lie below them
apart : (items : List Item) (b m : ℕ) → IsMarked items b → b ≤ m → slice_get items m ≢ Some item.Begin → slice_get items m ≢ Some item.End → b + 2 ≤ m
apart items b m h le begin end = elim (cases_lt m (b + 2)) [
  | inl lt ↦ elim (cases_lt b m) [
    | inl more ↦ let same : b + 1 ≡ m = omega arith in absurd (end (rw same at h.end))
    | inr less ↦ let same : b ≡ m = omega arith in absurd (begin (rw same at h.begin))
  ]
  | inr high ↦ high
]

no_marker : (kind : Kind) (o : Option Item) (x : Item) → at_kind kind (Some x) ≡ false → at_kind kind o ≡ true → o ≢ Some x
no_marker kind o x e f = λ same. false≢true (sym e ∙ rw same at f)

-- a unit in effect at a number behind the markers stands behind them
effect_since : (kind : Kind) (items : List Item) (b c m : ℕ) → IsMarked items b → b + 2 ≤ c → InEffect kind items c m → b + 2 ≤ m
effect_since kind items b c m h le e = elim (cases_lt m b) [
  | inl lt ↦ absurd (e.unbroken b lt (omega arith) h.begin)
  | inr high ↦ apart items b m h high (no_marker kind (slice_get items m) item.Begin refl e.is_kind) (no_marker kind (slice_get items m) item.End refl e.is_kind)
]

key_since : (low end : ℕ) (cut : ℕ) (o : Option ℕ) → cut ≤ end → ((key : ℕ) → o ≡ Some key → cut ≤ key) → cut ≤ key_or low end o
key_since low end cut None le h = le
key_since low end cut (Some key) le h = elim (cases_Bool (nat_le low key)) [
  | inl e ↦ rw e (h key refl)
  | inr e ↦ rw e le
]

behind : (items : List Item) (b : ℕ) → IsMarked items b → b + 2 ≤ length items
behind items b h = let lt = here_within items (b + 1) item.End h.end in omega arith

-- who joins behind the markers joins behind them
join_since : (limits : StreamLimits) (items : List Item) (b : ℕ) → IsMarked items b → b + 2 ≤ join limits items
join_since limits items b h = elim (is_live items) as (λ l. b + 2 ≤ (if l then key_or (base limits items) (length items) (last_of Key items) else length items)) [
  | true ↦ key_since (base limits items) (length items) (b + 2) (last_of Key items) (behind items b h)
      (λ key e. effect_since Key items b (length items) key h (behind items b h) (in_effect Key items (length items) key (rw (← take_all (length items) items (omega arith)) at e)))
  | false ↦ behind items b h
]

record IsSince (b : ℕ) (s : Spell) : Type 0 where
  next : b + 2 ≤ cursor s
  sent : All (λ n. b + 2 ≤ n) (sent s)

-- after one answer more
abbrev SinceAfter : ℕ → Spell → Taken → Type 0
SinceAfter b s t = IsSince b (record { from = s.from; answers = t ∷ s.answers })

since_sent : (b : ℕ) (s : Spell) (m : ℕ) (x : Item) → IsSince b s → b + 2 ≤ m → SinceAfter b s (Sent (cursor s) m x)
since_sent b s m x h le = record { next = let lt = h.next in omega arith; sent = All-push (λ n. b + 2 ≤ n) (sent s) m h.sent le }

since_end : (b end : ℕ) (s : Spell) → IsSince b s → b + 2 ≤ end → SinceAfter b s (NotYet end)
since_end b end s h le = record { next = le; sent = h.sent }

since_number : (items : List Item) (b : ℕ) (s : Spell) (m : ℕ) → IsMarked items b → IsSince b s → b + 2 ≤ m → SinceAfter b s (send items (cursor s) (Some m))
since_number items b s m mark h le = elim (slice_get_cases items m).1 [
  | inl k ↦ rw k.2 (since_sent b s m k.0 h le)
  | inr k ↦ rw k.1 (since_end b (length items) s h (behind items b mark))
]

since_first : (limits : StreamLimits) (items : List Item) (b : ℕ) (s : Spell) (want : Want) → IsMarked items b → IsSince b s →
    SinceAfter b s (send items (cursor s) (first_taken (takes limits items (sent s) want) (cursor s) (drop (cursor s) items)))
since_first limits items b s want mark h = elim (some_or_none (first_taken (takes limits items (sent s) want) (cursor s) (drop (cursor s) items))) [
  | inl f ↦ rw f (since_end b (length items) s h (behind items b mark))
  | inr f ↦
      let first = is_first (takes limits items (sent s) want) items (cursor s) f.0 f.1 in
      let low = first.low in
      let le = h.next in
      rw f.1 (since_number items b s f.0 mark h (omega arith))
]

since_due : (items : List Item) (b : ℕ) (s : Spell) (m : ℕ) → IsMarked items b → IsSince b s → first_due items (cursor s) (sent s) ≡ Some m → SinceAfter b s (send items (cursor s) (Some m))
since_due items b s m mark h e =
    let d = due_first items (cursor s) (sent s) m e in
    since_number items b s m mark h (effect_since d.kind items b (cursor s) m mark h.next (in_effect d.kind items (cursor s) m d.is_due.effect))

since_send : (limits : StreamLimits) (items : List Item) (b : ℕ) (s : Spell) (want : Want) → IsMarked items b → IsSince b s →
    SinceAfter b s (send items (cursor s) (number_sent limits items (cursor s) (sent s) want (first_due items (cursor s) (sent s))))
since_send limits items b s want mark h = elim (some_or_none (first_due items (cursor s) (sent s))) [
  | inl e ↦ rw e (since_first limits items b s want mark h)
  | inr e ↦ rw e.1 (since_due items b s e.0 mark h e.1)
]

since_take : (limits : StreamLimits) (items : List Item) (b : ℕ) (s : Spell) (want : Want) → IsMarked items b → IsSince b s → SinceAfter b s (taken limits items (cursor s) (sent s) want)
since_take limits items b s want mark h = elim (cases_Bool (nat_lt (cursor s) (base limits items))) [
  | inl e ↦ rw e (record { next = join_since limits items b mark; sent = h.sent })
  | inr e ↦ rw e (since_send limits items b s want mark h)
]

-- the reply to no other call gives a place
module _ (place : ℕ) where
  not_begin : (end : ℕ) (live : Option ℕ) → is_join_of (begin_reply end live) place ≡ false
  not_begin end None = refl
  not_begin end (Some by) = refl

  not_either : (b : Bool) (r q : Reply) → is_join_of r place ≡ false → is_join_of q place ≡ false → is_join_of (if b then r else q) place ≡ false
  not_either true r q e f = e
  not_either false r q e f = f

  not_taken : (t : Taken) → is_join_of (reply_of t) place ≡ false
  not_taken (Sent from n x) = refl
  not_taken (Skip from to) = refl
  not_taken (NotYet end) = refl

  joined_some : (c : Call) (from : ℕ) (o : Option ℕ) (s : Spell) → is_join_of (join_reply from o) place ≡ true → spell_after c (join_reply from o) place s ≡ record { from = from; answers = [] }
  joined_some c from None s e = absurd (false≢true e)
  joined_some c from (Some player) s e = rw e refl

  -- who was given the place joined there
  joined_from : (limits : StreamLimits) (past : History) (who : ℕ) (c : Call) (s : Spell) → is_join_of (reply_to limits past who c) place ≡ true →
      spell_after c (reply_to limits past who c) place s ≡ record { from = join limits (items_of past); answers = [] }
  joined_from limits past who call.Begin s e = absurd (false≢true (sym (not_begin (length (items_of past)) (publisher past)) ∙ e))
  joined_from limits past who (call.BeginAs name) s e = absurd (false≢true (sym (not_begin (length (items_of past)) (publisher past)) ∙ e))
  joined_from limits past who (call.Push u) s e = absurd (false≢true (sym (not_either (is_who (publisher past) who) (Pushed (length (items_of past))) (NotPublisher (publisher past)) refl refl) ∙ e))
  joined_from limits past who call.End s e = absurd (false≢true (sym (not_either (is_who (publisher past) who) (Ended (length (items_of past))) (NotPublisher (publisher past)) refl refl) ∙ e))
  joined_from limits past who call.Join s e = joined_some call.Join (join limits (items_of past)) (free_place (holder past) limits.players) s e
  joined_from limits past who (call.JoinAs name) s e = joined_some (call.JoinAs name) (join limits (items_of past)) (free_place (holder past) limits.players) s e
  joined_from limits past who (call.Take player want) s e =
      let t = taken limits (items_of past) (cursor (spell past player)) (sent (spell past player)) want in
      absurd (false≢true (sym (not_either (is_who (holder past player) who) (reply_of t) NotPlayer (not_taken t) refl) ∙ e))
  joined_from limits past who (call.Leave player) s e = absurd (false≢true (sym (not_either (is_who (holder past player) who) (Left player) NotPlayer refl refl) ∙ e))
  joined_from limits past who call.Count s e = absurd (false≢true e)

since_joined : (limits : StreamLimits) (items : List Item) (b : ℕ) → IsMarked items b → IsSince b (record { from = join limits items; answers = [] })
since_joined limits items b mark = record { next = join_since limits items b mark; sent = All-nil (λ n. b + 2 ≤ n) }

since_change : (limits : StreamLimits) (items : List Item) (b : ℕ) (s : Spell) (ts : List Turn) (items_now : List Item) (s_now : Spell) (ts_now : List Turn) → IsMarked items b → IsSince b s →
    Grown items s ts items_now s_now ts_now ⊎ (JoinedNow limits items items_now s_now ts_now ⊎ TakenNow limits items s ts items_now s_now ts_now) → IsSince b s_now
since_change limits items b s ts items_now s_now ts_now mark k h = elim h [
  | inl g ↦ rw g.spell_is k
  | inr h ↦ elim h [
    | inl g ↦ rw g.spell_is (since_joined limits items b mark)
    | inr g ↦ rw g.spell_is (since_take limits items b s g.want mark k)
  ]
]

since_call : (limits : StreamLimits) (past : History) (b place who : ℕ) (c : Call) → IsMarked (items_of past) b → (is_join_of (reply_to limits past who c) place ≡ false → IsSince b (spell past place)) →
    IsSince b (spell_after c (reply_to limits past who c) place (spell past place))
since_call limits past b place who c mark h = elim (cases_Bool (is_join_of (reply_to limits past who c) place)) [
  | inl e ↦ rw (joined_from place limits past who c (spell past place) e) (since_joined limits (items_of past) b mark)
  | inr e ↦ since_change limits (items_of past) b (spell past place) (turns past place) _ _ _ mark (h e) (change limits past place who c)
]

marked_first : (xs : List Item) → IsMarked ((xs ++ item.Begin ∷ []) ++ item.End ∷ []) (length xs)
marked_first xs =
    let len : length (xs ++ item.Begin ∷ []) ≡ length xs + 1 = length-append xs (item.Begin ∷ []) in
    record {
      begin = slice_get-append (xs ++ item.Begin ∷ []) (item.End ∷ []) (length xs) (omega (arith, len)) ∙ slice_get-push xs item.Begin;
      end = rw (← len) (slice_get-push (xs ++ item.Begin ∷ []) item.End);
    }

marked : (older : StreamKnown) (newer : History) → IsMarked (items_of (newer ++ (cleared older).past)) (length (items_of older.past))
marked older newer =
    let stays = items_stay (cleared older).past newer in
    rw (← stays.1) (marked_more (items_of (cleared older).past) stays.0 (length (items_of older.past)) (marked_first (items_of older.past)))

since_joins : (older : StreamKnown) (newer : History) → IsLawful older.limits (newer ++ (cleared older).past) → (place : ℕ) → joins newer place ≡ true →
    IsSince (length (items_of older.past)) (spell (newer ++ (cleared older).past) place)
since_joins older [] lawful place e = absurd (false≢true e)
since_joins older (step ∷ newer) lawful place e =
    let past = newer ++ (cleared older).past in
    let before : is_join_of step.1 place ≡ false → IsSince (length (items_of older.past)) (spell past place) =
    λ f. since_joins older newer lawful.1 place (rw f at e) in
    rw lawful.0 (since_call older.limits past (length (items_of older.past)) place step.0.who step.0.call (marked older newer) (rw lawful.0 at before))

all_at : (a b : ℕ) (numbers : List ℕ) → a ≡ b → All (λ n. b ≤ n) numbers → All (λ n. a ≤ n) numbers
all_at a b numbers e h = rw e h

pub sent_since : (older : StreamKnown) (newer : History) → IsLawful older.limits (newer ++ (cleared older).past) → (place : ℕ) → joins newer place ≡ true →
    All (λ n. length (items_of (cleared older).past) ≤ n) (sent (spell (newer ++ (cleared older).past) place))
sent_since older newer lawful place e = all_at (length (items_of (cleared older).past)) (length (items_of older.past) + 2) _ (cleared_items older) (since_joins older newer lawful place e).sent

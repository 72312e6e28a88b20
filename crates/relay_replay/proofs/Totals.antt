-- What all hold together, and the most that they may hold
use Rattle.std.proofs.Common.{inl, inr, ◌≡◌, ◌⊎◌, ◌<◌, ◌≤◌, ◌+◌, ◌*◌, ◌++◌, append_assoc, ℕ, zero}
use Rattle.std.proofs.Common.{suc, List, [], ◌∷◌, All, length, map, take, get_or, slice_get}
use Rattle.std.proofs.Common.{Option, Some, None, Result, Ok, Err, IfOk, refl, ap, sym, ◌∙◌, subst, arith}
use Rattle.std.proofs.lemmas.Grind.{div_ceil_times}
use Rattle.std.proofs.lemmas.List.Elements.{All-head, All-tail}
use Rattle.std.proofs.Math.Nat.{add-mul}
use Rattle.av_unit.specs.declared.bytes.OutOfMemory.{OutOfMemory}
use Rattle.relay_base.specs.declared.limits.Limits.{Limits}
use Rattle.relay_config.specs.Sum.{name_bytes, recorder_bytes, session_bytes, stream_bytes, total_of}
use Rattle.relay_config.specs.declared.config.OpenRule.{OpenRule}
use Rattle.relay_config.specs.declared.config.PlaceRule.{PlaceRule}
use Rattle.relay_session.specs.declared.end.End.{End}
use Rattle.stream_model.specs.Shape.{most_held}
use Rattle.stream_model.specs.declared.calls.Shape.{Shape}
use Rattle.stream_model.specs.declared.calls.StreamLimits.{StreamLimits}
use Rattle.stream_registry.specs.Books.{SoleRules, SoleState, shapes_in, sole_rules}
use Rattle.stream_registry.specs.Names.{places, shape_at, slots_sum}
use Rattle.stream_registry.specs.declared.names.OpenName.{OpenName}
use Rattle.stream_registry.proofs.Shaping.{listed, pooled}
use Rattle.http_flv.specs.declared.end.HttpEnd.{HttpEnd}
use Rattle.origin_pull.specs.declared.end.EdgeEnd.{EdgeEnd}
use Rattle.relay_replay.specs.Guests.{ConnState, PlayState, PullState}
use Rattle.relay_replay.specs.declared.guest.Guest.{Guest}
use Rattle.relay_replay.specs.declared.guest.Guest.TheVariants as guest
use Rattle.relay_replay.specs.Cast.{CastState, RecState}
use Rattle.relay_replay.specs.Prints.{AllHold, AreWithin, EdgeHolds, GuestHolds, HoldsBy, PlayerHolds, RecHolds, StreamsWithin, TablesWithin, held_at}
use Rattle.relay_replay.specs.Scenes.{IsLimited, IsPortOf, max_of, open_name}
use Rattle.relay_replay.proofs.Keep.{as_many_places}
use Rattle.relay_replay.proofs.Limiting.{limits_there}

one_more : (n : ℕ) → suc n ≡ n + 1
one_more n = omega arith

one_times : (n : ℕ) → 1 * n ≡ n
one_times n = omega arith

suc_is : (n : ℕ) → suc n ≡ 1 + n
suc_is n = omega arith

suc_times : (k n : ℕ) → suc k * n ≡ n + k * n
suc_times k n = ap (λ (i : ℕ). i * n) (suc_is k) ∙ add-mul 1 k n ∙ ap (λ (i : ℕ). i + k * n) (one_times n)

-- one more, which holds no more than so much
pub next_within : (total held sum i most : ℕ) → sum ≡ total + held → total ≤ i * most → held ≤ most → sum ≤ (i + 1) * most
next_within total held sum i most is le one =
    let split : suc i * most ≡ most + i * most = suc_times i most in
    subst (λ (k : ℕ). sum ≤ k * most) (one_more i) (omega (arith, is, le, one, split))

module _ {A : Type 0} (holds : A → ℕ → Type 0) where
  more_at : (xs : List A) (i : ℕ) (x : A) (n h : ℕ) → i < length xs → x ≡ get_or xs i x → AllHold holds (take i xs) n → holds x h
      → AllHold holds (take (suc i) xs) (n + h)
  more_at [] i x n h l e s k = absurd (omega (arith, l))
  more_at (y ∷ ys) zero x n h l e s k = (h, (subst (λ (z : A). holds z h) e k, (0, (refl, omega (arith, s)))))
  more_at (y ∷ ys) (suc i) x n h l e s k =
      let a = s.0 in
      let m = s.1.1.0 in
      let rest = more_at ys i x m h (omega (arith, l)) e s.1.1.1.0 k in
      let split : n ≡ a + m = s.1.1.1.1 in
      (a, (s.1.0, (m + h, (rest, omega (arith, split)))))

  -- one more of a list
  pub more : (xs : List A) (i : ℕ) (x : A) (n h : ℕ) → i < length xs → x ≡ get_or xs i x → AllHold holds (take i xs) n → holds x h
      → AllHold holds (take (i + 1) xs) (n + h)
  more xs i x n h l e s k = subst (λ (j : ℕ). AllHold holds (take j xs) (n + h)) (one_more i) (more_at xs i x n h l e s k)

  -- of which each holds no more than so much
  all_within : (P : A → Type 0) (most : ℕ) → ((x : A) (n : ℕ) → P x → holds x n → n ≤ most) → (xs : List A) (n : ℕ) → All P xs → AllHold holds xs n
      → n ≤ length xs * most
  all_within P most each [] n p h = omega (arith, h)
  all_within P most each (x ∷ xs) n p h =
      let m = h.1.1.0 in
      let first : h.0 ≤ most = each x h.0 (All-head P x xs p) h.1.0 in
      let rest : m ≤ length xs * most = all_within P most each xs m (All-tail P x xs p) h.1.1.1.0 in
      let split : n ≡ h.0 + m = h.1.1.1.1 in
      let more : suc (length xs) * most ≡ most + length xs * most = suc_times (length xs) most in
      omega (arith, first, rest, split, more)

-- ---- streams and open tables

-- a stream holds no more than it may
pub stream_within : (r : SoleRules) (n held : ℕ) → n < length r.names → held ≤ most_held (shape_at (shapes_in r) n) → held ≤ r.limits.bytes + 196608
stream_within r n held there le = subst (λ (s : Shape). held ≤ most_held s) (listed r.limits r.names r.opens n there) le

-- and an open table
pub table_within : (r : SoleRules) (streams n held : ℕ) (o : OpenName) → length r.names ≡ streams → slice_get r.opens n ≡ Some o
    → held ≤ most_held (shape_at (shapes_in r) (streams + n)) → held ≤ o.slots * (r.limits.bytes + 196672)
table_within r streams n held o e there le =
    let at : held ≤ most_held (shape_at (shapes_in r) (length r.names + n)) = subst (λ (k : ℕ). held ≤ most_held (shape_at (shapes_in r) (k + n))) (sym e) le in
    subst (λ (s : Shape). held ≤ most_held s) (pooled r.limits r.names r.opens n o there) at

-- one stream more
pub streams_more : (r : SoleRules) (n total held sum : ℕ) → n < length r.names → sum ≡ total + held → total ≤ n * (r.limits.bytes + 196608)
    → held ≤ most_held (shape_at (shapes_in r) n) → sum ≤ (n + 1) * (r.limits.bytes + 196608)
streams_more r n total held sum there is le one = next_within total held sum n (r.limits.bytes + 196608) is le (stream_within r n held there one)

some_at : {A : Type 0} → (xs : List A) (n : ℕ) → n < length xs → (x : A) × (slice_get xs n ≡ Some x)
some_at [] n h = absurd (omega (arith, h))
some_at (x ∷ xs) zero h = (x, refl)
some_at (x ∷ xs) (suc n) h = some_at xs n (omega (arith, h))

slots_at : (opens : List OpenName) (n : ℕ) (o : OpenName) → slice_get opens n ≡ Some o → slots_sum (take (suc n) opens) ≡ slots_sum (take n opens) + o.slots
slots_at [] n o e = absurd (cc)
slots_at (x ∷ xs) zero o e = let is : x ≡ o = cc in omega (arith, ap (λ (k : OpenName). k.slots) is)
slots_at (x ∷ xs) (suc n) o e = omega (arith, slots_at xs n o e)

-- one open table more
pub tables_more : (r : SoleRules) (streams n total held sum : ℕ) → length r.names ≡ streams → n < length r.opens → sum ≡ total + held
    → total ≤ slots_sum (take n r.opens) * (r.limits.bytes + 196672) → held ≤ most_held (shape_at (shapes_in r) (streams + n))
    → sum ≤ slots_sum (take (n + 1) r.opens) * (r.limits.bytes + 196672)
tables_more r streams n total held sum e there is le one =
    let at = some_at r.opens n there in
    let o = at.0 in
    let most = r.limits.bytes + 196672 in
    let more = table_within r streams n held o e at.1 one in
    let split : (slots_sum (take n r.opens) + o.slots) * most ≡ slots_sum (take n r.opens) * most + o.slots * most =
    add-mul (slots_sum (take n r.opens)) o.slots most in
    let all : sum ≤ (slots_sum (take n r.opens) + o.slots) * most = omega (arith, is, le, more, split) in
    subst (λ (k : ℕ). sum ≤ k * most) (sym (slots_at r.opens n o at.1) ∙ ap (λ (k : ℕ). slots_sum (take k r.opens)) (one_more n)) all

-- ---- each of them

-- a line more
pub text_more : (text : ℕ → List ℕ) (k : ℕ) (front out new line : List ℕ) → text (suc k) ≡ text k ++ line → out ≡ front ++ text k → new ≡ out ++ line
    → new ≡ front ++ text (k + 1)
text_more text k front out new line step o n =
    n ∙ ap (λ (l : List ℕ). l ++ line) o ∙ append_assoc front (text k) line ∙ ap (λ (l : List ℕ). front ++ l) (sym step)
    ∙ ap (λ (j : ℕ). front ++ text j) (one_more k)

below_or : (n k : ℕ) → n < k + 1 → (n < k) ⊎ (n ≡ k)
below_or zero zero h = inr refl
below_or zero (suc k) h = inl (omega arith)
below_or (suc n) zero h = absurd (omega (arith, h))
below_or (suc n) (suc k) h = elim (below_or n k (omega (arith, h))) [ inl a ↦ inl (omega (arith, a)) | inr e ↦ inr (ap suc e) ]

pub each_stream : (port : SoleState) (k : ℕ) → k < length port.rules.names → StreamsWithin port k
    → held_at port k ≤ most_held (shape_at (shapes_in port.rules) k) → StreamsWithin port (k + 1)
each_stream port k there before one n h = elim (below_or n k h) [
  | inl a ↦ before n a
  | inr e ↦ subst (λ (q : ℕ). held_at port q ≤ port.rules.limits.bytes + 196608) (sym e) (stream_within port.rules k (held_at port k) there one)
]

pub each_table : (port : SoleState) (streams k : ℕ) → length port.rules.names ≡ streams → TablesWithin port streams k
    → held_at port (streams + k) ≤ most_held (shape_at (shapes_in port.rules) (streams + k)) → TablesWithin port streams (k + 1)
each_table port streams k e before one n o h at = elim (below_or n k h) [
  | inl a ↦ before n o a at
  | inr is ↦
      let last : slice_get port.rules.opens k ≡ Some o = subst (λ (q : ℕ). slice_get port.rules.opens q ≡ Some o) is at in
      subst (λ (q : ℕ). held_at port (streams + q) ≤ o.slots * (port.rules.limits.bytes + 196672)) (sym is)
      (table_within port.rules streams k (held_at port (streams + k)) o e last one)
]

-- where there is a place, the bytes of its window are those of the script's limits
ring_is : (l : Limits) (c : CastState) (q : ℕ) → q < places (sole_rules c.port.rules) → IsLimited l c → c.port.rules.limits.bytes ≡ l.ring_bytes
ring_is l c q h k = ap (λ (x : StreamLimits). x.bytes) (limits_there l c.port q h k.streams)

named_at : (opens : List OpenRule) (n : ℕ) (o : OpenRule) → slice_get opens n ≡ Some o
    → (n < length opens) × (slice_get (map open_name opens) n ≡ Some (open_name o))
named_at [] n o e = absurd (cc)
named_at (x ∷ xs) zero o e = let is : x ≡ o = cc in (omega arith, ap (λ (r : OpenRule). Some (open_name r)) is)
named_at (x ∷ xs) (suc n) o e = let rest = named_at xs n o e in (omega (arith, rest.0), rest.1)

-- each of a port to these streams and open tables, by the limits of the script
pub all_within_limits : (l : Limits) (streams : List PlaceRule) (opens : List OpenRule) (c : CastState) → IsLimited l c → IsPortOf streams opens c.port
    → StreamsWithin c.port (length streams) → TablesWithin c.port (length streams) (length opens) → AreWithin l streams opens c.port
all_within_limits l streams opens c k p s t =
    let many : places (sole_rules c.port.rules) ≡ length streams + length opens = as_many_places streams opens c.port p in
    record {
      streams_are = λ n h. subst (λ (b : ℕ). held_at c.port n ≤ b + 196608) (ring_is l c n (omega (arith, h, many)) k) (s n h);
      tables_are = λ n o e. (
          let at = named_at opens n o e in
          let there : slice_get c.port.rules.opens n ≡ Some (open_name o) =
          subst (λ (xs : List OpenName). slice_get xs n ≡ Some (open_name o)) (sym p.tables) at.1 in
          subst (λ (b : ℕ). held_at c.port (length streams + n) ≤ o.names * (b + 196672)) (ring_is l c (length streams + n) (omega (arith, at.0, many)) k)
          (t n (open_name o) at.0 there));
    }

-- ---- sessions, recorders, and all

session_most : (e : Option End) (l : Limits) (c : ConnState) (n : ℕ) → c.session.parts.reader.max ≡ l.max_message → HoldsBy e c n → n ≤ session_bytes l
session_most None l c n m h = omega (arith, h.1, m)
session_most (Some e) l c n m h = omega (arith, h)

player_most : (e : Option HttpEnd) (l : Limits) (c : PlayState) (n : ℕ) → c.player.parts.longest ≡ l.max_message → PlayerHolds e c n → n ≤ session_bytes l
player_most None l c n m h = omega (arith, h.1, m)
player_most (Some e) l c n m h = omega (arith, h)

-- 512 of a byte more for each 512, rounded down, are no more than rounded up
edge_most : (e : Option EdgeEnd) (l : Limits) (c : PullState) (n : ℕ) → c.edge.client.parts.reader.max ≡ l.max_message → EdgeHolds e c n → n ≤ session_bytes l
edge_most None l c n m h =
    let up = div_ceil_times l.max_message 512 (omega arith) in
    omega (arith, h.1, m, up.0)
edge_most (Some e) l c n m h = omega (arith, h)

guest_most : (l : Limits) (g : Guest) (n : ℕ) → max_of g ≡ l.max_message → GuestHolds g n → n ≤ session_bytes l
guest_most l (guest.Session c) n m h = session_most c.ended l c n m h
guest_most l (guest.Player c) n m h = player_most c.ended l c n m h
guest_most l (guest.Edge c) n m h = edge_most c.ended l c n m h

recorder_most : (l : Limits) (r : RecState) (n : ℕ) → r.recorder.tape.longest ≡ l.max_message → RecHolds r n → n ≤ recorder_bytes l
recorder_most l r n m h = omega (arith, h.1, m)

-- what streams hold, or open tables: none where there are none
times_ring : (l : Limits) (c : CastState) (k more held : ℕ) → (0 < k → 0 < places (sole_rules c.port.rules)) → IsLimited l c
    → held ≤ k * (c.port.rules.limits.bytes + more) → held ≤ k * (l.ring_bytes + more)
times_ring l c zero more held there lim h = omega (arith, h)
times_ring l c (suc k) more held there lim h = subst (λ (b : ℕ). held ≤ suc k * (b + more)) (ring_is l c 0 (there (omega arith)) lim) h

-- a slot stands in an open table
slot_there : (opens : List OpenName) → 0 < slots_sum opens → 0 < length opens
slot_there [] h = absurd (omega (arith, h))
slot_there (o ∷ opens) h = omega arith

pub total_within : (l : Limits) (streams : ℕ) (c : CastState) (sessions recorders held open_held : ℕ) → length c.port.rules.names ≡ streams → IsLimited l c
    → AllHold GuestHolds c.sessions sessions → AllHold RecHolds c.recorders recorders → held ≤ streams * (c.port.rules.limits.bytes + 196608)
    → open_held ≤ slots_sum c.port.rules.opens * (c.port.rules.limits.bytes + 196672)
    → sessions + recorders + (held + open_held) ≤ total_of l streams (slots_sum c.port.rules.opens) (length c.sessions) (length c.recorders)
total_within l streams c sessions recorders held open_held many k s r h o =
    let names = slots_sum c.port.rules.opens in
    let by_sessions : sessions ≤ length c.sessions * session_bytes l =
    all_within GuestHolds (λ (g : Guest). max_of g ≡ l.max_message) (session_bytes l) (guest_most l) c.sessions sessions
    k.sessions s in
    let by_recorders : recorders ≤ length c.recorders * recorder_bytes l =
    all_within RecHolds (λ (x : RecState). x.recorder.tape.longest ≡ l.max_message) (recorder_bytes l) (recorder_most l) c.recorders recorders
    k.recorders r in
    let by_streams : held ≤ streams * stream_bytes l = times_ring l c streams 196608 held (λ some. omega (arith, some, many)) k h in
    let by_names : open_held ≤ names * name_bytes l = times_ring l c names 196672 open_held (λ some. omega (arith, slot_there c.port.rules.opens some)) k o in
    omega (arith, by_sessions, by_recorders, by_streams, by_names)

-- a sum that may be refused
pub if_within : (r : Result ℕ OutOfMemory) (sum most : ℕ) → IfOk r (λ n. n ≡ sum) → sum ≤ most → IfOk r (λ n. n ≤ most)
if_within (Ok n) sum most e le = omega (arith, e, le)
if_within (Err x) sum most e le = tt

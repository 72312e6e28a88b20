-- What feeding comes to, by the bytes alone: one run
use Rattle.std.proofs.Common.{inl, inr, ◌≡◌, ◌<◌, ◌||◌, not, ℕ, ◌+◌, ◌-◌, Bool, true, List, [], ◌∷◌, ◌++◌, length, take, drop, Option, Some, None, refl, sym}
use Rattle.std.proofs.Common.{ap, ◌∙◌, subst, arith, append-nil}
use Rattle.std.proofs.lemmas.List.{length-drop, length-take, take_min}
use Rattle.chunk_wire.specs.declared.message.Message.{Message}
use Rattle.chunk_reader.specs.Sound.{IsRead}
use Rattle.command_dialog.specs.State.{State}
use Rattle.command_dialog.specs.declared.types.Ask.{Ask}
use Rattle.command_dialog.specs.declared.types.Grant.{Grant}
use Rattle.command_dialog.specs.declared.types.Playing.{Playing}
use Rattle.rtmp_handshake.specs.Answer.{bad_version}
use Rattle.session_owed.specs.Standing.{Past}
use Rattle.session_owed.specs.Talk.{hand_bytes}
use Rattle.stream_model.specs.declared.calls.Entry.{Entry}
use Rattle.relay_session.specs.Feeding.{Fixed, Heard as HeardMore, IsRefused, heard_of}
use Rattle.relay_session.specs.Session.{refused}
use Rattle.relay_session.specs.Turns.{AfterCall, CallMade, CalledBy, FedAs, Gone, Loudly, Quietly, Stopping, TakeMade, Taken, TakenBy, is_nil, life, take_entry}
use Rattle.relay_session.specs.Turns.{takes}
use Rattle.relay_session.specs.declared.core_fields.Core.{Core}
use Rattle.relay_session.specs.declared.end.End.{End}
use Rattle.relay_session.specs.declared.end.End.TheVariants as end
use Rattle.relay_session.specs.declared.seat_answers.Made.{Made}
use Rattle.relay_session.specs.declared.seat_answers.Made.TheVariants as made
use Rattle.relay_session.specs.declared.turn.Turn.{Turn}
use Rattle.turn_law.specs.Twins.{HasRoom, IsPlain, SoleAsks, SoleLife}
use Rattle.turn_law.proofs.Calls.{Excludes}
use Rattle.turn_law.proofs.Reading.{BadBytes, BadStart, EndsAt, Fares, Fate, Heard, Quiet, drop_front, ends_some, front_is, version_front}

-- ---- what excludes that a call wasn't made

pub take_excludes : (a : Turn) (w : SoleLife) (s : IsPlain a w) (v : SoleLife) (e : Entry) (moved : Bool) (came : Made) → TakeMade v e moved came w a
    → Excludes came w.port
take_excludes a w s v e moved (made.Answer r) t = tt
take_excludes a w s v e moved (made.Busy f) t = tt
take_excludes a w s v e moved (made.Worn f) t = s.room
take_excludes a w s v e moved (made.OutOfMemory f) t = absurd (s.memory t.1)

pub after_excludes : (a : Turn) (w : SoleLife) (s : IsPlain a w) (v m : SoleLife) (came : Made) → AfterCall SoleAsks v came m a w → Excludes came m.port
after_excludes a w s v m (made.Answer r) t = tt
after_excludes a w s v m (made.Busy f) t = tt
after_excludes a w s v m (made.Worn f) t = subst HasRoom t.port s.room
after_excludes a w s v m (made.OutOfMemory f) t = absurd (s.memory t.ended)

-- ---- why a session ended at a byte

-- what the bytes come to ends a session so, in this state
abbrev pub end_by : State → Fate → Option End
end_by s Quiet = None
end_by s (Heard z m) = refused (length z - 1) s m
end_by s BadStart = Some (end.BadVersion 0)
end_by s (BadBytes c n) = Some (end.BadChunk c n)

-- the byte that an end names
abbrev pub byte_of : End → ℕ
byte_of (end.BadVersion at) = at
byte_of (end.BadChunk c at) = at
byte_of (end.BadControl at) = at
byte_of (end.BadCommand at) = at
byte_of (end.TooManyStreams at) = at
byte_of end.PeerClosed = 0
byte_of end.LinkFault = 0
byte_of end.Quit = 0
byte_of end.Worn = 0
byte_of end.OutOfMemory = 0

take_self : (k : ℕ) (y : List ℕ) → take k y ≡ take (length (take k y)) y
take_self k y = sym (take_min k y) ∙ ap (λ (n : ℕ). take n y) (sym (length-take k y))

read_at : (max max' : ℕ) (b b' : List ℕ) (ms ms' : List (ℕ × Message)) → max' ≡ max → b' ≡ b → ms' ≡ ms → IsRead max' b' ms' → IsRead max b ms
read_at max max' b b' ms ms' p q r h =
    subst (λ (k : ℕ). IsRead k b ms) p (subst (λ (l : List ℕ). IsRead max' l ms) q (subst (λ (l : List (ℕ × Message)). IsRead max' b' l) r h))

-- by what the bytes of two alike sessions come to
pub fares_at : (max max' : ℕ) (ms ms' : List (ℕ × Message)) (y y' : List ℕ) (f : Fate) → max' ≡ max → ms' ≡ ms → y' ≡ y → Fares hand_bytes max' ms' y' f
    → Fares hand_bytes max ms y f
fares_at max max' ms ms' y y' f p q r h =
    subst (λ (k : ℕ). Fares hand_bytes k ms y f) p (subst (λ (l : List (ℕ × Message)). Fares hand_bytes max' l y f) q
    (subst (λ (l : List ℕ). Fares hand_bytes max' ms' l f) r h))

-- ---- one run

abbrev pub bytes_of : SoleLife → List ℕ
bytes_of v = v.parts.x ++ v.input

abbrev pub FaresIn : SoleLife → Fate → Type 0
FaresIn v f = Fares hand_bytes v.parts.reader.max v.parts.reader.given (bytes_of v) f

module _ (desk : Ask → Grant) (a : Turn) (w : SoleLife) (s : IsPlain a w) (v : SoleLife) where
  pub quiet_all : (moved : Bool) (t : FedAs SoleAsks desk Quietly v moved a w) → t.0.x ≡ bytes_of v
  quiet_all moved t = t.1.0.x ∙ ap (λ (l : List ℕ). v.parts.x ++ l) (sym (append-nil t.1.0.fed) ∙ t.1.0.split)

  pub quiet_fares : (moved : Bool) → FedAs SoleAsks desk Quietly v moved a w → FaresIn v Quiet
  quiet_fares moved t =
      let all : t.0.x ≡ bytes_of v = quiet_all moved t in (
        sym (ap bad_version all) ∙ t.1.3.version,
        read_at v.parts.reader.max t.0.reader.max (drop hand_bytes (bytes_of v)) (drop hand_bytes t.0.x) v.parts.reader.given t.0.reader.given
            (ap (λ (f : Fixed). f.max) t.1.0.fixed) (ap (λ (l : List ℕ). drop hand_bytes l) all) (ap (λ (h : HeardMore). h.given) t.1.1) t.1.3.read,
      )

  pub loud_front : (moved : Bool) (t : FedAs SoleAsks desk Loudly v moved a w) → t.0.x ≡ take (length t.0.x) (bytes_of v)
  loud_front moved t = front_is v.parts.x t.1.1.0.fed t.1.0 v.input t.0.x t.1.1.0.x t.1.1.0.split

  pub loud_fares : (moved : Bool) (t : FedAs SoleAsks desk Loudly v moved a w) → FaresIn v (Heard t.0.x t.1.1.1.0)
  loud_fares moved t =
      let z : List ℕ = t.0.x in
      let front : z ≡ take (length z) (bytes_of v) = loud_front moved t in
      let some : 0 < length z = omega (arith, t.1.1.3) in
      let chunks : drop hand_bytes z ≡ take (length z - hand_bytes) (drop hand_bytes (bytes_of v)) =
      ap (λ (l : List ℕ). drop hand_bytes l) front ∙ drop_front hand_bytes (length z) (bytes_of v) in (
        version_front z (bytes_of v) front some t.1.1.4.version,
        front,
        read_at v.parts.reader.max t.0.reader.max (take (length z - hand_bytes) (drop hand_bytes (bytes_of v))) (drop hand_bytes z)
            (v.parts.reader.given ++ (length z - hand_bytes, t.1.1.1.0) ∷ []) t.0.reader.given
            (ap (λ (f : Fixed). f.max) t.1.1.0.fixed) chunks (ap (λ (h : HeardMore). h.given) t.1.1.1.1) t.1.1.4.read,
      )

  -- with the byte that ended it
  abbrev pub Halts : End → ℕ → Fate → Type 0
  Halts e n f = FaresIn v f × (end_by v.parts.dialog f ≡ Some e) × (byte_of e ≡ n)

  pub stop_front : (e : End) (moved : Bool) (t : FedAs SoleAsks desk (Stopping e) v moved a w) → t.0.x ≡ take (length t.0.x) (bytes_of v)
  stop_front e moved t = front_is v.parts.x t.1.0.fed t.1.0.left v.input t.0.x t.1.0.x t.1.0.split

  stop_version : (e : End) (moved : Bool) (t : FedAs SoleAsks desk (Stopping e) v moved a w) → 0 < length t.0.x → bad_version (bytes_of v) ≡ None
  stop_version e moved t some =
      version_front t.0.x (bytes_of v) (stop_front e moved t) some t.1.0.version

  -- a message ends with the byte that refuses it
  refused_halts : (e : End) (moved : Bool) (t : FedAs SoleAsks desk (Stopping e) v moved a w) → byte_of e ≡ length t.0.x
      → IsRefused v.parts.reader.max (heard_of v.parts) (take (length t.0.x + 1) (bytes_of v)) e
      → (f : Fate) × Halts e (length t.0.x) f
  refused_halts e moved t at r =
      let y : List ℕ = bytes_of v in
      let z : List ℕ = take (length t.0.x + 1) y in
      let front : z ≡ take (length z) y = take_self (length t.0.x + 1) y in
      let chunks : drop hand_bytes z ≡ take (length z - hand_bytes) (drop hand_bytes y) =
      ap (λ (l : List ℕ). drop hand_bytes l) front ∙ drop_front hand_bytes (length z) y in
      let ends : EndsAt v.parts.reader.max v.parts.reader.given (drop hand_bytes y) (length z - hand_bytes) r.m =
      read_at v.parts.reader.max v.parts.reader.max (take (length z - hand_bytes) (drop hand_bytes y)) (drop hand_bytes z)
      (v.parts.reader.given ++ (length z - hand_bytes, r.m) ∷ []) (v.parts.reader.given ++ (length (drop hand_bytes z), r.m) ∷ [])
      refl chunks (ap (λ (n : ℕ). v.parts.reader.given ++ (n, r.m) ∷ []) (length-drop hand_bytes z)) (record { s = r.s; r = r.r; reads = r.reads }) in
      let some : 0 < length z - hand_bytes = ends_some v.parts.reader.max v.parts.reader.given (drop hand_bytes y) (length z - hand_bytes) r.m ends in
      let long : 0 < length t.0.x = omega (arith, some, length-take (length t.0.x + 1) y) in
      (Heard z r.m, ((stop_version e moved t long, front, ends), r.why, at))

  pub stop_halts : (e : End) (moved : Bool) (t : FedAs SoleAsks desk (Stopping e) v moved a w) → (f : Fate) × Halts e (length t.0.x) f
  stop_halts (end.BadVersion at) moved t =
      let d = t.1.0.cause in
      (BadStart, (d.2, ap (λ (k : ℕ). Some (end.BadVersion k)) (sym (d.0 ∙ d.1)), d.0))
  stop_halts (end.BadChunk c at) moved t =
      let d = t.1.0.cause in
      let n : ℕ = length t.0.x in
      let chunks : drop hand_bytes t.0.x ≡ take (n - hand_bytes) (drop hand_bytes (bytes_of v)) =
      ap (λ (l : List ℕ). drop hand_bytes l) (stop_front (end.BadChunk c at) moved t) ∙ drop_front hand_bytes n (bytes_of v) in (
        BadBytes c n,
        (
          (
            stop_version (end.BadChunk c at) moved t (omega (arith, d.1)),
            d.1,
            d.2,
            subst (λ (l : List ℕ). IsRead v.parts.reader.max l v.parts.reader.given) chunks t.1.0.read,
          ),
          ap (λ (k : ℕ). Some (end.BadChunk c k)) (sym d.0),
          d.0,
        ),
      )
  stop_halts (end.BadControl at) moved t = refused_halts (end.BadControl at) moved t t.1.0.cause.0 t.1.0.cause.1
  stop_halts (end.BadCommand at) moved t = refused_halts (end.BadCommand at) moved t t.1.0.cause.0 t.1.0.cause.1
  stop_halts (end.TooManyStreams at) moved t = refused_halts (end.TooManyStreams at) moved t t.1.0.cause.0 t.1.0.cause.1
  stop_halts end.OutOfMemory moved t = absurd (s.memory t.1.1.ended)
  stop_halts end.PeerClosed moved t = absurd t.1.0.cause
  stop_halts end.LinkFault moved t = absurd t.1.0.cause
  stop_halts end.Quit moved t = absurd t.1.0.cause
  stop_halts end.Worn moved t = absurd t.1.0.cause

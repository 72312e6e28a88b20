-- What feeding comes to, by the bytes alone: one run
use Rattle.std.proofs.Common.{inl, inr, ◌≡◌, ◌≢◌, ◌<◌, ◌≤◌, ℕ, ◌+◌, ◌-◌, Bool, List, [], ◌∷◌, ◌++◌, length, min, take, drop, Option, None, Some, Result, Err}
use Rattle.std.proofs.Common.{refl, sym}
use Rattle.std.proofs.Common.{ap, ◌∙◌, subst, arith, append-nil}
use Rattle.std.proofs.lemmas.Bool.{cases_lt}
use Rattle.std.proofs.lemmas.List.{length-drop, length-take, take_all, take_min}
use Rattle.chunk_wire.specs.declared.message.Message.{Message}
use Rattle.chunk_reader.specs.Sound.{IsRead}
use Rattle.rtmp_handshake.specs.Answer.{bad_version}
use Rattle.session_owed.specs.Talk.{hand_bytes}
use Rattle.rtmp_client.specs.Feeding.{Fixed, Heard as HeardMore, IsRefused}
use Rattle.rtmp_client.specs.Refusing.{refused}
use Rattle.rtmp_client.specs.Turns.{FedAs, Life, Loudly, Quietly, Stopping}
use Rattle.rtmp_client.specs.declared.end.ClientEnd.{ClientEnd}
use Rattle.rtmp_client.specs.declared.end.ClientEnd.TheVariants as end
use Rattle.turn_law.proofs.Reading.{BadBytes, BadStart, EndsAt, Fares, Fate, Heard, Quiet, drop_front, ends_some, front_is, one_fate, version_front}

-- ---- why a client ended at a byte

-- what the bytes come to ends a client so
abbrev pub end_by : Fate → Option ClientEnd
end_by Quiet = None
end_by (Heard z m) = refused (length z - 1) m
end_by BadStart = Some (end.BadVersion 0)
end_by (BadBytes c n) = Some (end.BadChunk c n)

-- how many bytes stand before the one that decides
abbrev pub place_by : Fate → ℕ
place_by Quiet = 0
place_by (Heard z m) = length z - 1
place_by BadStart = 0
place_by (BadBytes c n) = n

take_self : (k : ℕ) (y : List ℕ) → take k y ≡ take (length (take k y)) y
take_self k y = sym (take_min k y) ∙ ap (λ (n : ℕ). take n y) (sym (length-take k y))

read_at : (max max' : ℕ) (b b' : List ℕ) (ms ms' : List (ℕ × Message)) → max' ≡ max → b' ≡ b → ms' ≡ ms → IsRead max' b' ms' → IsRead max b ms
read_at max max' b b' ms ms' p q r h =
    subst (λ (k : ℕ). IsRead k b ms) p (subst (λ (l : List ℕ). IsRead max' l ms) q (subst (λ (l : List (ℕ × Message)). IsRead max' b' l) r h))

-- by what the bytes of two alike clients come to
pub fares_at : (max max' : ℕ) (ms ms' : List (ℕ × Message)) (y y' : List ℕ) (f : Fate) → max' ≡ max → ms' ≡ ms → y' ≡ y → Fares hand_bytes max' ms' y' f
    → Fares hand_bytes max ms y f
fares_at max max' ms ms' y y' f p q r h =
    subst (λ (k : ℕ). Fares hand_bytes k ms y f) p (subst (λ (l : List (ℕ × Message)). Fares hand_bytes max' l y f) q
    (subst (λ (l : List ℕ). Fares hand_bytes max' ms' l f) r h))

-- ---- one run

abbrev pub bytes_of : Life → List ℕ
bytes_of v = v.parts.y ++ v.input

abbrev pub FaresIn : Life → Fate → Type 0
FaresIn v f = Fares hand_bytes v.parts.reader.max v.parts.reader.given (bytes_of v) f

module _ (a : Result Bool ClientEnd) (w : Life) (memory : a ≢ Err end.OutOfMemory) (v : Life) where
  pub quiet_all : (moved : Bool) → FedAs Quietly v moved a w → w.parts.y ≡ bytes_of v
  quiet_all moved t = t.0.y ∙ ap (λ (l : List ℕ). v.parts.y ++ l) (sym (append-nil t.0.fed) ∙ t.0.split)

  pub quiet_fares : (moved : Bool) → FedAs Quietly v moved a w → FaresIn v Quiet
  quiet_fares moved t =
      let all : w.parts.y ≡ bytes_of v = quiet_all moved t in (
        sym (ap bad_version all) ∙ t.4.version,
        read_at v.parts.reader.max w.parts.reader.max (drop hand_bytes (bytes_of v)) (drop hand_bytes w.parts.y) v.parts.reader.given w.parts.reader.given
            (ap (λ (f : Fixed). f.max) t.0.fixed) (ap (λ (l : List ℕ). drop hand_bytes l) all) (ap (λ (h : HeardMore). h.given) t.1) t.4.read,
      )

  pub loud_front : (moved : Bool) → FedAs Loudly v moved a w → w.parts.y ≡ take (length w.parts.y) (bytes_of v)
  loud_front moved t = front_is v.parts.y t.0.fed w.input v.input w.parts.y t.0.y t.0.split

  pub loud_fares : (moved : Bool) (t : FedAs Loudly v moved a w) → FaresIn v (Heard w.parts.y t.1.0)
  loud_fares moved t =
      let z : List ℕ = w.parts.y in
      let front : z ≡ take (length z) (bytes_of v) = loud_front moved t in
      let some : 0 < length z = omega (arith, t.2) in
      let chunks : drop hand_bytes z ≡ take (length z - hand_bytes) (drop hand_bytes (bytes_of v)) =
      ap (λ (l : List ℕ). drop hand_bytes l) front ∙ drop_front hand_bytes (length z) (bytes_of v) in (
        version_front z (bytes_of v) front some t.4.version,
        front,
        read_at v.parts.reader.max w.parts.reader.max (take (length z - hand_bytes) (drop hand_bytes (bytes_of v))) (drop hand_bytes z)
            (v.parts.reader.given ++ (length z - hand_bytes, t.1.0) ∷ []) w.parts.reader.given
            (ap (λ (f : Fixed). f.max) t.0.fixed) chunks t.1.1.given t.4.read,
      )

  -- with how many bytes before the one that ended it
  abbrev pub Halts : ClientEnd → Fate → Type 0
  Halts e f = FaresIn v f × (end_by f ≡ Some e) × (place_by f ≡ length w.parts.y)

  pub stop_front : (e : ClientEnd) (moved : Bool) → FedAs (Stopping e) v moved a w → w.parts.y ≡ take (length w.parts.y) (bytes_of v)
  stop_front e moved t = front_is v.parts.y t.0.fed t.0.left v.input w.parts.y t.0.y t.0.split

  stop_version : (e : ClientEnd) (moved : Bool) → FedAs (Stopping e) v moved a w → 0 < length w.parts.y → bad_version (bytes_of v) ≡ None
  stop_version e moved t some = version_front w.parts.y (bytes_of v) (stop_front e moved t) some t.0.version

  -- bytes that end no message are fewer than those that end one
  longer : (e : ClientEnd) (moved : Bool) (t : FedAs (Stopping e) v moved a w) (z : List ℕ) (m : Message) → z ≡ take (length w.parts.y + 1) (bytes_of v)
      → IsRead v.parts.reader.max (drop hand_bytes z) (v.parts.reader.given ++ (length z - hand_bytes, m) ∷ []) → length z ≡ length w.parts.y + 1
  longer e moved t z m is ends =
      let n : ℕ = length w.parts.y in
      let whole : n ≤ length (bytes_of v) = omega (arith, ap length (stop_front e moved t), length-take n (bytes_of v)) in
      let size : length z ≡ min (n + 1) (length (bytes_of v)) = ap length is ∙ length-take (n + 1) (bytes_of v) in
      elim (cases_lt n (length (bytes_of v))) [
        | inl less ↦ omega (arith, less, size)
        | inr le ↦ absurd (
            let all : z ≡ w.parts.y = is ∙ (take_all (n + 1) (bytes_of v) (omega (arith, le))
            ∙ (sym (take_all n (bytes_of v) le) ∙ sym (stop_front e moved t))) in
            let quiet : IsRead v.parts.reader.max (drop hand_bytes z) v.parts.reader.given =
            subst (λ (l : List ℕ). IsRead v.parts.reader.max (drop hand_bytes l) v.parts.reader.given) (sym all) t.0.read in
            let version : bad_version z ≡ None = ap bad_version all ∙ t.0.version in
            let front : z ≡ take (length z) z = sym (take_all (length z) z (omega arith)) in
            let chunks : drop hand_bytes z ≡ take (length z - hand_bytes) (drop hand_bytes z) =
            sym (take_all (length z - hand_bytes) (drop hand_bytes z) (omega (arith, length-drop hand_bytes z))) in
            let loud : EndsAt v.parts.reader.max v.parts.reader.given (drop hand_bytes z) (length z - hand_bytes) m =
            subst (λ (l : List ℕ). IsRead v.parts.reader.max l (v.parts.reader.given ++ (length z - hand_bytes, m) ∷ [])) chunks ends in
            let same : Quiet ≡ Heard z m = one_fate hand_bytes v.parts.reader.max v.parts.reader.given z Quiet (Heard z m) (version, quiet)
            (version, front, loud) in
            cc)
      ]

  -- a message ends with the byte that refuses it
  refused_halts : (e : ClientEnd) (moved : Bool) (t : FedAs (Stopping e) v moved a w)
      → IsRefused v.parts.reader.max v.parts.reader.given (take (length w.parts.y + 1) (bytes_of v)) e → (f : Fate) × Halts e f
  refused_halts e moved t r =
      let y : List ℕ = bytes_of v in
      let z : List ℕ = take (length w.parts.y + 1) y in
      let front : z ≡ take (length z) y = take_self (length w.parts.y + 1) y in
      let chunks : drop hand_bytes z ≡ take (length z - hand_bytes) (drop hand_bytes y) =
      ap (λ (l : List ℕ). drop hand_bytes l) front ∙ drop_front hand_bytes (length z) y in
      let read : IsRead v.parts.reader.max (drop hand_bytes z) (v.parts.reader.given ++ (length z - hand_bytes, r.m) ∷ []) =
      read_at v.parts.reader.max v.parts.reader.max (drop hand_bytes z) (drop hand_bytes z)
      (v.parts.reader.given ++ (length z - hand_bytes, r.m) ∷ []) (v.parts.reader.given ++ (length (drop hand_bytes z), r.m) ∷ [])
      refl refl (ap (λ (n : ℕ). v.parts.reader.given ++ (n, r.m) ∷ []) (length-drop hand_bytes z)) (record { s = r.s; r = r.r; reads = r.reads }) in
      let ends : EndsAt v.parts.reader.max v.parts.reader.given (drop hand_bytes y) (length z - hand_bytes) r.m =
      subst (λ (l : List ℕ). IsRead v.parts.reader.max l (v.parts.reader.given ++ (length z - hand_bytes, r.m) ∷ [])) chunks read in
      let long : length z ≡ length w.parts.y + 1 = longer e moved t z r.m refl read in
      let some : 0 < length z - hand_bytes = ends_some v.parts.reader.max v.parts.reader.given (drop hand_bytes y) (length z - hand_bytes) r.m ends in
      (Heard z r.m, ((stop_version e moved t (omega (arith, some, long)), front, ends), r.why, omega (arith, long)))

  pub stop_halts : (e : ClientEnd) (moved : Bool) → FedAs (Stopping e) v moved a w → (f : Fate) × Halts e f
  stop_halts (end.BadVersion at) moved t =
      let d = t.0.cause in
      (BadStart, (d.2, ap (λ (k : ℕ). Some (end.BadVersion k)) (sym (d.0 ∙ d.1)), sym d.1))
  stop_halts (end.BadChunk c at) moved t =
      let d = t.0.cause in
      let n : ℕ = length w.parts.y in
      let chunks : drop hand_bytes w.parts.y ≡ take (n - hand_bytes) (drop hand_bytes (bytes_of v)) =
      ap (λ (l : List ℕ). drop hand_bytes l) (stop_front (end.BadChunk c at) moved t) ∙ drop_front hand_bytes n (bytes_of v) in (
        BadBytes c n,
        (
          (
            stop_version (end.BadChunk c at) moved t (omega (arith, d.1)),
            d.1,
            d.2,
            subst (λ (l : List ℕ). IsRead v.parts.reader.max l v.parts.reader.given) chunks t.0.read,
          ),
          ap (λ (k : ℕ). Some (end.BadChunk c k)) (sym d.0),
          refl,
        ),
      )
  stop_halts (end.BadControl at) moved t = refused_halts (end.BadControl at) moved t t.0.cause.1
  stop_halts (end.BadCommand at) moved t = refused_halts (end.BadCommand at) moved t t.0.cause.1
  stop_halts (end.Refused code description) moved t = refused_halts (end.Refused code description) moved t t.0.cause
  stop_halts end.OutOfMemory moved t = absurd (memory t.1)
  stop_halts end.PeerClosed moved t = absurd t.0.cause
  stop_halts end.LinkFault moved t = absurd t.0.cause
  stop_halts end.Done moved t = absurd t.0.cause

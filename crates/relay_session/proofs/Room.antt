-- Where a message ends, it and the parts of others have room together
use Rattle.std.proofs.Common.{◌≡◌, ℕ, ◌+◌, ◌<◌, ◌≤◌, zero, suc, Bool, true, false, nat_lt, nat_eq, cond, List, ◌∷◌, [], ◌++◌, length, take, drop, get_or, set, Option, Some, None, refl, sym, ap, ◌∙◌, subst, arith, length-append, length-drop}
use Rattle.std.specs.List.{concat}
use Rattle.std.proofs.lemmas.Bool.Decides.{nat_tests}
use Rattle.std.proofs.lemmas.List.{length-take}
use Rattle.relay_base.specs.Numbers.{be32_of}
use Rattle.chunk_wire.specs.declared.kept.ChunkStream.{ChunkStream}
use Rattle.chunk_wire.specs.declared.message.Message.{Message}
use Rattle.chunk_wire.specs.State.{State, fresh_kept, fresh_state, part_bytes, index_of, put}
use Rattle.chunk_wire.specs.Chunk.{after_chunk, filled, header_size, is_done, message_of, opened, with_part}
use Rattle.chunk_wire.proofs.Records.{parts_more}
use Rattle.chunk_reader.specs.Control.{by_message, controlled, dropped, dropped_at, next}
use Rattle.chunk_reader.specs.Feeds.{IsFedTo}
use Rattle.chunk_reader.specs.ReaderKnown.{ReaderKnown}
use Rattle.chunk_reader.specs.Reads.{AreChunks, IsChunkWithin, Reads, ended, held_bytes, messages, part_limit, state_after}
use Rattle.rtmp_handshake.specs.Handshake.{Handshake, held_by, held_of}
use Rattle.rtmp_handshake.specs.declared.fail.HandFail.{HandFail}
use Rattle.session_owed.specs.Talk.{hand_bytes}
use Rattle.relay_session.specs.Bounds.{HasRoom, kept_bytes}
use Rattle.stream_model.specs.declared.calls.Entry.{Entry}
use Rattle.chunk_reader.proofs.Once.{one_reading}
use Rattle.chunk_reader.proofs.Reading.{held_short, held_whole}
use Rattle.chunk_reader.proofs.Totals.{parts_put}
use Rattle.chunk_wire.proofs.Sizes.{basic_size_some}
use Rattle.chunk_wire.proofs.Same.{basic_in_header}

-- an Abort drops a part, and no other message adds one
set_less : (ks : List ChunkStream) (i : ℕ) (d : ChunkStream) → part_bytes (set ks i (with_part (get_or ks i d) [])) ≤ part_bytes ks
set_less [] i d = omega arith
set_less (k ∷ ks) zero d = omega (arith, parts_more k ks, parts_more (with_part k []) ks)
set_less (k ∷ ks) (suc i) d = omega (arith, parts_more k ks, parts_more k (set ks i (with_part (get_or ks i d) [])), set_less ks i d)

dropped_less : (id : ℕ) (place : Option ℕ) (ks : List ChunkStream) → part_bytes (dropped_at id place ks) ≤ part_bytes ks
dropped_less id None ks = omega arith
dropped_less id (Some i) ks = set_less ks i (fresh_kept id)

told_case : (a b c : Bool) (n id : ℕ) (s : State) → part_bytes (cond a s (cond b (record { size = n; kept = s.kept }) (cond c (record { size = s.size; kept = dropped id s.kept }) s))).kept ≤ part_bytes s.kept
told_case true b c n id s = omega arith
told_case false true c n id s = omega arith
told_case false false true n id s = dropped_less id (index_of id s.kept) s.kept
told_case false false false n id s = omega arith

told_less : (m : Option Message) (s : State) → part_bytes (controlled m s).kept ≤ part_bytes s.kept
unfolding by_message
told_less None s = omega arith
told_less (Some m) s = told_case (nat_lt (length m.body) 4) (nat_eq m.kind 1) (nat_eq m.kind 2) (be32_of m.body) (be32_of m.body) s

-- a chunk that ends a message lets go of its part
done_case : (t : Bool) (s : State) (r : List ℕ) (n m : Message) → header_size s r ≤ length r → cond t (Some n) None ≡ Some m → n.body ≡ filled s r
    → part_bytes (put (with_part (opened s r) (cond t [] (filled s r))) s.kept) + length m.body ≤ held_bytes s r
done_case true s r n m whole e b =
    let same : n ≡ m = cc in
    let k = with_part (opened s r) [] in
    let body : length m.body ≡ length (filled s r) = ap (λ (x : Message). length x.body) (sym same) ∙ ap length b in
    omega (arith, parts_put (opened s r) s.kept, parts_put k s.kept, held_whole s r whole, body, length-append (opened s r).part (drop (header_size s r) r), length-drop (header_size s r) r)
done_case false s r n m whole e b = absurd (cc)

after_less : (s : State) (r : List ℕ) (m : Message) → header_size s r ≤ length r → message_of s r ≡ Some m → part_bytes (after_chunk s r).kept + length m.body ≤ held_bytes s r
unfolding after_chunk message_of
after_less s r m whole e =
    done_case (is_done s r) s r (record { kind = (opened s r).terms.kind; stream = (opened s r).terms.stream; time = (opened s r).terms.time; body = filled s r }) m whole e refl

next_less : (s : State) (r : List ℕ) (m : Message) → header_size s r ≤ length r → message_of s r ≡ Some m → part_bytes (next s r).kept + length m.body ≤ held_bytes s r
unfolding next
next_less s r m whole e = omega (arith, after_less s r m whole e, told_less (message_of s r) (after_chunk s r))

chunk_room : (max : ℕ) (s : State) (c : List ℕ) (m : Message) → IsChunkWithin max s c → message_of s c ≡ Some m → part_bytes (next s c).kept + length m.body ≤ part_limit max
chunk_room max s c m i e =
    let header : header_size s c ≤ length c = omega (arith, i.chunk.whole) in
    omega (arith, next_less s c m header e, i.admitted.held)

-- a chunk has a byte
chunk_some : (max : ℕ) (s : State) (c : List ℕ) → IsChunkWithin max s c → 0 < length c
chunk_some max s c i = omega (arith, i.chunk.whole, basic_in_header s c, basic_size_some c)

not_last : (ms : List (ℕ × Message)) (x : ℕ × Message) → [] ≡ ms ++ x ∷ [] → ⊥
not_last ms x e = omega (arith, ap length e, length-append ms (x ∷ []))

-- the last of the messages is that of the last chunk, where it ends with the last byte
only_last : (n : ℕ) (o : Option Message) (ms : List (ℕ × Message)) (p : ℕ) (m : Message) → ended n o ++ [] ≡ ms ++ (p, m) ∷ [] → o ≡ Some m
only_last n None ms p m e = absurd (not_last ms (p, m) e)
only_last n (Some x) [] p m e = let same : (n, x) ≡ (p, m) = cc in ap (λ (q : ℕ × Message). Some q.1) same
only_last n (Some x) (y ∷ ms) p m e = absurd (omega (arith, ap length e, length-append ms ((p, m) ∷ [])))

-- messages that end earlier stand before it
record Later (rest : List (ℕ × Message)) (p : ℕ) (m : Message) : Type 0 where
  pub before : List (ℕ × Message)
  pub is : rest ≡ before ++ (p, m) ∷ []

goes_later : (n p : ℕ) (o : Option Message) (rest ms : List (ℕ × Message)) (m : Message) → n < p → ended n o ++ rest ≡ ms ++ (p, m) ∷ [] → Later rest p m
goes_later n p None rest ms m less e = record { before = ms; is = e }
goes_later n p (Some x) rest [] m less e =
    let same : (n, x) ≡ (p, m) = cc in
    let at : n ≡ p = ap (λ (q : ℕ × Message). q.0) same in
    absurd (omega (arith, at, less))
goes_later n p (Some x) rest (y ∷ ms) m less e = record { before = ms; is = cc }

last_room : (max n : ℕ) (s : State) (cs : List (List ℕ)) (ms : List (ℕ × Message)) (m : Message) → AreChunks max s cs → messages n s cs ≡ ms ++ (n + length (concat cs), m) ∷ []
    → part_bytes (state_after s cs).kept + length m.body ≤ part_limit max
last_room max n s [] ms m a e = absurd (not_last ms (n + 0, m) e)
last_room max n s (c ∷ []) ms m a e = chunk_room max s c m a.0 (only_last (n + length c) (message_of s c) ms (n + length (concat (c ∷ []))) m e)
last_room max n s (c ∷ d ∷ cs) ms m a e =
    let both = length-append c (concat (d ∷ cs)) in
    let some : 0 < length (concat (d ∷ cs)) = omega (arith, chunk_some max (next s c) d a.1.0, length-append d (concat cs)) in
    let p = n + length (concat (c ∷ d ∷ cs)) in
    let at : p ≡ (n + length c) + length (concat (d ∷ cs)) = omega (arith, both) in
    let l = goes_later (n + length c) p (message_of s c) (messages (n + length c) (next s c) (d ∷ cs)) ms m (omega (arith, at, some)) e in
    last_room max (n + length c) (next s c) (d ∷ cs) l.before m a.1 (l.is ∙ ap (λ (q : ℕ). l.before ++ (q, m) ∷ []) at)

-- what is held where bytes end a message, and that message
pub reads_room : (max : ℕ) (b : List ℕ) (ms : List (ℕ × Message)) (m : Message) (s : State) (r : List ℕ) → r ≡ [] → Reads max b (ms ++ (length b, m) ∷ []) s r → held_bytes s r + length m.body ≤ part_limit max
reads_room max b ms m s r none q =
    let whole : length b ≡ 0 + length (concat q.chunks) = omega (arith, ap length q.whole, length-append (concat q.chunks) r, ap length none) in
    let room = last_room max 0 fresh_state q.chunks ms m q.are_chunks (sym q.given ∙ ap (λ (n : ℕ). ms ++ (n, m) ∷ []) whole) in
    let short : length r < header_size s r = omega (arith, ap length none, basic_in_header s r, basic_size_some r) in
    omega (arith, held_short s r short, ap (λ (t : State). part_bytes t.kept) q.state, room)

-- of a feed that gives a message
pub fed_room : (old new : ReaderKnown) (piece : List ℕ) (used : ℕ) (m : Message) (s : State) (r : List ℕ) → IsFedTo old piece used (Some m) new → Reads new.max new.fed new.given s r
    → held_bytes s r + length m.body ≤ part_limit new.max
fed_room old new piece used m s r f q =
    let end = f.at_end refl in
    let same = one_reading new.max new.fed new.given new.given s end.0 r [] q end.1 in
    let b = old.fed ++ take used piece in
    let R : ReaderKnown → Type 0 = λ k. Reads k.max k.fed k.given s r in
    let read : Reads old.max b (old.given ++ (length b, m) ∷ []) s r = subst R f.now q in
    subst (λ (k : ReaderKnown). held_bytes s r + length m.body ≤ part_limit k.max) (sym f.now) (reads_room old.max b old.given m s r same.rest_same read)

-- and with the unit of a call that the message asks for, which is no longer than it
pub room_loud : (h : Handshake) (old new : ReaderKnown) (piece : List ℕ) (used : ℕ) (m : Message) (kept : Option Entry) → held_of h ≡ 0 → IsFedTo old piece used (Some m) new → kept_bytes kept ≤ length m.body → old.max ≤ 4194304 → HasRoom h new kept
room_loud h old new piece used m kept z f le sh = record {
  short = omega (arith, sh, ap (λ (k : ReaderKnown). k.max) f.now);
  alone = let end = f.at_end refl in omega (arith, z, le, fed_room old new piece used m end.0 [] f end.1);
  together = λ s r q. omega (arith, z, le, fed_room old new piece used m s r f q);
}

pub room_none : (h : Handshake) (k : ReaderKnown) (kept : Option Entry) → held_of h ≡ 0 → kept ≡ None → k.max ≤ 4194304 → HasRoom h k kept
room_none h k kept z e sh = record {
  short = sh;
  alone = omega (arith, z, ap kept_bytes e);
  together = λ s r q. omega (arith, z, ap kept_bytes e, q.rest.admitted.held);
}

-- ---- before a message is read

held_most : (f : Option HandFail) (n : ℕ) → held_by f n ≤ 1532
held_most None n = grind (arith, nat_tests)
held_most (Some e) n = omega arith

held_late : (f : Option HandFail) (n : ℕ) → 1537 ≤ n → held_by f n ≡ 0
held_late None n le = grind (arith, nat_tests)
held_late (Some e) n le = refl

-- a handshake that has answered keeps nothing
pub none_kept : (h : Handshake) (x : List ℕ) → h ≡ record { fed = take hand_bytes x; failed = None } → hand_bytes ≤ length x → held_of h ≡ 0
none_kept h x e le = held_late h.failed (length h.fed) (omega (arith, ap (λ (k : Handshake). length k.fed) e, length-take hand_bytes x, le))

no_chunks : (max : ℕ) (s : State) (cs : List (List ℕ)) → AreChunks max s cs → length (concat cs) ≡ 0 → state_after s cs ≡ s
no_chunks max s [] a e = refl
no_chunks max s (c ∷ cs) a e = absurd (omega (arith, e, chunk_some max s c a.0, length-append c (concat cs)))

reads_none : (max : ℕ) (b : List ℕ) (ms : List (ℕ × Message)) (s : State) (r : List ℕ) → b ≡ [] → Reads max b ms s r → held_bytes s r ≡ 0
reads_none max b ms s r none q =
    let sum : length (concat q.chunks) + length r ≡ 0 = omega (arith, ap length none, ap length q.whole, length-append (concat q.chunks) r) in
    let same : s ≡ fresh_state = q.state ∙ no_chunks max fresh_state q.chunks q.are_chunks (omega (arith, sum)) in
    let short : length r < header_size s r = omega (arith, sum, basic_in_header s r, basic_size_some r) in
    held_short s r short ∙ ap (λ (t : State). part_bytes t.kept) same

pub room_early : (h : Handshake) (k : ReaderKnown) (kept : Option Entry) → kept ≡ None → k.fed ≡ [] → k.max ≤ 4194304 → HasRoom h k kept
room_early h k kept e none sh = record {
  short = sh;
  alone = omega (arith, held_most h.failed (length h.fed), ap kept_bytes e);
  together = λ s r q. omega (arith, held_most h.failed (length h.fed), ap kept_bytes e, reads_none k.max k.fed k.given s r none q);
}

-- without the call that waited
pub room_let : (h : Handshake) (k : ReaderKnown) (kept : Option Entry) → HasRoom h k kept → HasRoom h k None
room_let h k kept o = record {
  short = o.short;
  alone = omega (arith, o.alone);
  together = λ s r q. omega (arith, o.together s r q);
}

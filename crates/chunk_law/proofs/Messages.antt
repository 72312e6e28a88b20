-- Messages that were written are read
use Rattle.std.proofs.Common.{◌≡◌, ℕ, ◌+◌, ◌^◌, ◌<◌, ◌≤◌, true, List, [], ◌∷◌, ◌++◌, length, map, refl, sym, ap, ◌∙◌, subst, arith, append_assoc, append-nil, length-append}
use Rattle.std.specs.List.{concat}
use Rattle.std.proofs.lemmas.Bool.{eq-eqb}
use Rattle.std.proofs.lemmas.Bool.Decides.{nat_tests}
use Rattle.std.proofs.lemmas.List.Folds.{concat-append}
use Rattle.chunk_wire.specs.declared.kept.ChunkStream.{ChunkStream}
use Rattle.chunk_wire.specs.declared.message.Message.{Message}
use Rattle.chunk_wire.specs.State.{State, fresh_state, kept_of, part_bytes, put}
use Rattle.chunk_wire.specs.Chunk.{message_of}
use Rattle.chunk_reader.specs.Control.{by_message, next}
use Rattle.chunk_reader.specs.Reads.{AreChunks, ended, messages, state_after}
use Rattle.chunk_reader.proofs.Reading.{open_empty}
use Rattle.chunk_writer.specs.declared.begun.Begun.{Begun}
use Rattle.chunk_writer.specs.WriterKnown.{WriterKnown, fresh}
use Rattle.chunk_writer.specs.Rule.{begun_in, heading_of, id_for, is_written, last_on}
use Rattle.chunk_writer.specs.Written.{bytes_of, header_with, spread, written}
use Rattle.chunk_writer.specs.Written as Writing
use Rattle.chunk_law.specs.ReadBack.{AreReadable, IsReadBack, IsReadable, placed}
use Rattle.chunk_law.proofs.Begins.{delta_most, leads_after, leads_on, room_after}
use Rattle.chunk_law.proofs.Cuts.{Cut, Writes, during, message_cut}
use Rattle.chunk_law.proofs.Empties.{part_none}
use Rattle.chunk_law.proofs.Follows.{Follows, few, follows_after, follows_fresh, follows_resized}
use Rattle.chunk_law.proofs.Opened.{IsSaid, Leads, Opens, holding, opens}
use Rattle.chunk_law.proofs.Puts.{has, has_put, kept_put}

id_fits : (kind : ℕ) → (2 ≤ id_for kind) × (id_for kind ≤ 65599)
unfolding id_for
id_fits kind = grind (arith, nat_tests)

kind_fits : (kind : ℕ) → is_written kind ≡ true → kind < 256
kind_fits kind e = grind (arith, nat_tests)

-- how a message is begun can be written
said_of : (max : ℕ) (w : WriterKnown) (m : Message) → IsReadable max m → IsSaid (begun_in w.said m)
said_of max w m r = record {
  id_low = (id_fits m.kind).0;
  id_high = (id_fits m.kind).1;
  length = r.short;
  kind = kind_fits m.kind r.kind;
  stream = r.stream;
  delta = omega (arith, delta_most (last_on (id_for m.kind) w.said) (heading_of m), r.time);
  extended = refl;
}

-- a further chunk of a message in progress
further : (s : State) (x : Begun) (part : List ℕ) → IsSaid x → 0 < length part → Opens (during s.size x s.kept part) (header_with 3 x) (holding x part)
further s x part said some =
    let k = holding x part in
    let u = during s.size x s.kept part in
    let there : has x.id (put k s.kept) ≡ true = has_put x.id k s.kept ∙ (rw (eq-eqb x.id x.id refl)) in
    let L : ChunkStream → Type 0 = λ j. Leads 3 j x part in
    opens u 3 x part said (subst L (sym (kept_put k s.kept)) (leads_on x part some)) (rw there refl)

bytes_are : (w : WriterKnown) (s : State) (m : Message) → s.size ≡ w.size → header_with (begun_in w.said m).format (begun_in w.said m) ++ spread (header_with 3 (begun_in w.said m)) s.size s.size m.body ≡ bytes_of w m
unfolding bytes_of
bytes_are w s m e = ap (λ (n : ℕ). header_with (begun_in w.said m).format (begun_in w.said m) ++ spread (header_with 3 (begun_in w.said m)) n n m.body) e

-- the first chunk of a message
first : (w : WriterKnown) (s : State) (m : Message) → Follows w s → IsSaid (begun_in w.said m) → m.time < 2 ^ 32 → Opens s (header_with (begun_in w.said m).format (begun_in w.said m)) (holding (begun_in w.said m) [])
first w s m f said time =
    let x = begun_in w.said m in
    let last = last_on x.id w.said in
    let k = kept_of x.id s.kept in
    opens s x.format x [] said
    (leads_after last (has x.id s.kept) k (heading_of m) time (f.agrees x.id) (part_none x.id s.kept f.empty))
    (room_after last (has x.id s.kept) k (heading_of m) (length s.kept) (f.agrees x.id) (few s.kept f.counted))

-- a message is read whole, and the reader follows the writer on
record Passes (max : ℕ) (w : WriterKnown) (s : State) (m : Message) : Type 0 where
  pub t : State
  pub cut : Cut max s (bytes_of w m) m t
  pub follows : Follows (Writing.next w m) t

passes : (max : ℕ) (w : WriterKnown) (s : State) (m : Message) → IsReadable max m → Follows w s → Passes max w s m
passes max w s m r f =
    let x = begun_in w.said m in
    let said = said_of max w m r in
    let done = during s.size x s.kept [] in
    let writes : Writes max s.size x s.kept (header_with 3 x) m.body = record {
      some = rw f.size_is f.some;
      fits = r.fits;
      length_is = refl;
      sized = r.sized;
      empty = f.empty;
      further = λ part some. further s x part said some;
    } in
    let C : List ℕ → Type 0 = λ b. Cut max s b m (by_message m done) in
    record {
      t = by_message m done;
      cut = subst C (bytes_are w s m f.size_is) (message_cut max s.size x s.kept (header_with 3 x) m.body (header_with x.format x) writes (first w s m f said r.time));
      follows = follows_resized (Writing.after w m) done m (follows_after w s m f said) r.sized;
    }

are_joined : (max : ℕ) (s : State) (cs ds : List (List ℕ)) → AreChunks max s cs → AreChunks max (state_after s cs) ds → AreChunks max s (cs ++ ds)
are_joined max s [] ds a b = b
are_joined max s (c ∷ cs) ds a b = (a.0, are_joined max (next s c) cs ds a.1 b)

state_joined : (s : State) (cs ds : List (List ℕ)) → state_after s (cs ++ ds) ≡ state_after (state_after s cs) ds
state_joined s [] ds = refl
state_joined s (c ∷ cs) ds = state_joined (next s c) cs ds

messages_joined : (n : ℕ) (s : State) (cs ds : List (List ℕ)) → messages n s (cs ++ ds) ≡ messages n s cs ++ messages (n + length (concat cs)) (state_after s cs) ds
messages_joined n s [] ds = ap (λ (k : ℕ). messages k s ds) (omega arith)
messages_joined n s (c ∷ cs) ds =
    let now = ended (n + length c) (message_of s c) in
    let e : n + length c + length (concat cs) ≡ n + length (c ++ concat cs) = omega (arith, length-append c (concat cs)) in
    ap (λ t. now ++ t) (messages_joined (n + length c) (next s c) cs ds ∙ ap (λ (k : ℕ). messages (n + length c) (next s c) cs ++ messages k (state_after (next s c) cs) ds) e)
    ∙ sym (append_assoc now (messages (n + length c) (next s c) cs) (messages (n + length (c ++ concat cs)) (state_after (next s c) cs) ds))

-- the bytes of the messages are chunks that complete these messages, where n bytes stand before them
record AllRead (max n : ℕ) (w : WriterKnown) (s : State) (ms : List Message) : Type 0 where
  pub chunks : List (List ℕ)
  pub are : AreChunks max s chunks
  pub whole : concat chunks ≡ written w ms
  pub given : messages n s chunks ≡ placed n w ms
  pub empty : part_bytes (state_after s chunks).kept ≡ 0

none_read : (max n : ℕ) (w : WriterKnown) (s : State) → Follows w s → AllRead max n w s []
unfolding written
none_read max n w s f = record { chunks = []; are = tt; whole = refl; given = refl; empty = f.empty }

more_read : (max n : ℕ) (w : WriterKnown) (s : State) (m : Message) (ms : List Message) → (p : Passes max w s m) → AllRead max (n + length (bytes_of w m)) (Writing.next w m) p.t ms → AllRead max n w s (m ∷ ms)
unfolding written
more_read max n w s m ms p rest =
    let cs = p.cut.chunks in
    let ds = rest.chunks in
    let A : State → Type 0 = λ u. AreChunks max u ds in
    let k = n + length (bytes_of w m) in
    let here : n + length (concat cs) ≡ k = ap (λ (b : List ℕ). n + length b) p.cut.whole in
    let later : messages (n + length (concat cs)) (state_after s cs) ds ≡ placed k (Writing.next w m) ms = rw (here, p.cut.after) rest.given in
    let E : State → Type 0 = λ u. part_bytes u.kept ≡ 0 in
    record {
      chunks = cs ++ ds;
      are = are_joined max s cs ds p.cut.are (subst A (sym p.cut.after) rest.are);
      whole = concat-append cs ds ∙ (rw (p.cut.whole, rest.whole) refl);
      given = messages_joined n s cs ds ∙ (rw (p.cut.given n, later) refl);
      empty = subst E (sym (state_joined s cs ds ∙ ap (λ (u : State). state_after u ds) p.cut.after)) rest.empty;
    }

all_read : (max n : ℕ) (w : WriterKnown) (s : State) (ms : List Message) → AreReadable max ms → Follows w s → AllRead max n w s ms
all_read max n w s [] r f = none_read max n w s f
all_read max n w s (m ∷ ms) r f =
    let p = passes max w s m r.0 f in
    more_read max n w s m ms p (all_read max (n + length (bytes_of w m)) (Writing.next w m) p.t ms r.1 p.follows)

placed_are : (n : ℕ) (w : WriterKnown) (ms : List Message) → map (λ (p : ℕ × Message). p.1) (placed n w ms) ≡ ms
placed_are n w [] = refl
placed_are n w (m ∷ ms) = ap (λ (t : List Message). m ∷ t) (placed_are (n + length (bytes_of w m)) (Writing.next w m) ms)

pub read_back : (max : ℕ) (ms : List Message) → AreReadable max ms → length (written fresh ms) ≤ 2 ^ 62 → IsReadBack max ms
read_back max ms r near =
    let a = all_read max 0 fresh fresh_state ms r follows_fresh in
    record {
      s = state_after fresh_state a.chunks;
      reads = record {
        chunks = a.chunks;
        are_chunks = a.are;
        whole = sym (append-nil (concat a.chunks) ∙ a.whole);
        given = sym a.given;
        state = refl;
        rest = open_empty max (state_after fresh_state a.chunks) (omega (arith, a.empty));
        near = near;
      };
      messages = placed_are 0 fresh ms;
    }

-- A client stands on after each of its steps
use Rattle.std.proofs.Common.{◌≡◌, ◌≤◌, ◌<◌, ◌+◌, ◌-◌, ◌*◌, ◌^◌, ℕ, zero, suc, Bool, true, false, not, ◌==◌, ◌&&◌, nat_lt, if◌then◌else◌, List, [], ◌∷◌, ◌++◌, length, take, drop, min, refl, sym, ap, ◌∙◌, subst, arith, append-nil, length-append, Option, Some, None, is_some}
use Rattle.std.proofs.lemmas.List.{take-append-drop, take_all, drop_all, take-append-le, drop-append-le, length-drop, length-replicate, length-take-le}
use Rattle.std.proofs.lemmas.Bool.{lt-leb, lt-ltb, le-ltb, ne_eqb}
use Rattle.chunk_wire.specs.declared.message.Message.{Message}
use Rattle.chunk_reader.specs.ReaderKnown.{ReaderKnown}
use Rattle.chunk_reader.specs.Feeds.{IsFedTo}
use Rattle.chunk_reader.specs.Sound.{IsRead}
use Rattle.chunk_writer.specs.WriterKnown.{WriterKnown}
use Rattle.chunk_writer.specs.WriterKnown as writer
use Rattle.chunk_writer.specs.Written.{written, after_all}
use Rattle.rtmp_handshake.specs.Answer.{bad_version}
use Rattle.ack_window.specs.Inbound.{InWindow, ack_of, in_took, new_in, room_of}
use Rattle.session_owed.specs.Acks.{ack_messages, inbound, window_after, window_by}
use Rattle.session_owed.specs.Talk.{hand_bytes}
use Rattle.client_owed.specs.declared.types.Asked.{Asked}
use Rattle.client_owed.specs.declared.types.Gave.{Gave}
use Rattle.client_owed.specs.declared.types.Gift.{Gift}
use Rattle.client_owed.specs.declared.types.Phase.{Phase}
use Rattle.client_owed.specs.declared.types.Phase.TheVariants.{Connecting}
use Rattle.client_owed.specs.Client.{connect, does}
use Rattle.client_owed.specs.Owed.{c2, first_window, hello, owed, phase_after, phase_of}
use Rattle.client_owed.specs.Pulled.{gift_for}
use Rattle.client_owed.specs.Standing.{Stands, count_of, fed_more, listed, new_keeps, pending_now, stepped, took, with_message, writer_after}
use Rattle.client_owed.proofs.Standing.{stands_fed, stands_greet, stands_hand, stands_message, stands_new, stands_sent}
use Rattle.rtmp_client.specs.Bounds.{to_greet, weight}
use Rattle.rtmp_client.specs.Feeding.{IsFed, IsSent, IsStopped, is_bad}
use Rattle.rtmp_client.specs.Keeping.{Begun, IsNamed, IsSound, IsWide, StandsNow, keeps_of, past_of}
use Rattle.rtmp_client.specs.Owing.{Apart, Owing, Says, nothing}
use Rattle.rtmp_client.specs.declared.core_fields.Core.{Core}
use Rattle.rtmp_client.specs.declared.end.ClientEnd.TheVariants as end

-- the same with equal values
same : (k : Asked) (m n : ℕ) (y z : List ℕ) (ms ns : List (ℕ × Message)) (T : List Gave) (sent : List ℕ) (taken : List Gift) (b c : List ℕ) (w v : WriterKnown) (i j : InWindow) (p q : Phase) (f : Bool) (g : Option Gift)
    → n ≡ m → z ≡ y → ns ≡ ms → c ≡ b → v ≡ w → j ≡ i → q ≡ p
    → Stands k m (record { y = y; ms = ms; gave = T; sent = sent; taken = taken }) (record { pending = b; writer = w; window = i; phase = p; finished = f; gift = g })
    → Stands k n (record { y = z; ms = ns; gave = T; sent = sent; taken = taken }) (record { pending = c; writer = v; window = j; phase = q; finished = f; gift = g })
same k m n y z ms ns T sent taken b c w v i j p q f g me ye se be we ie pe st = rw (me, ye, se, be, we, ie, pe) st

pub read_here : (c : Core) → IsSound c → IsRead c.reader.max (drop hand_bytes c.y) c.reader.given
read_here c l = subst (λ (b : List ℕ). IsRead c.reader.max b c.reader.given) l.fed l.read

-- what was sent begins what is owed
pub begun_here : (c : Core) (first : List ℕ) (o : Owing) → IsSound c → Begun (record c { first = first; outgoing = o })
begun_here c first o l = (c.outgoing.pending, record { ms = c.reader.given; read = read_here c l; owes = l.stands.owes; given = l.stands.given; told = l.stands.told })

pub stop_memory : (c d : Core) (piece first : List ℕ) (o : Owing) → IsSound c → d ≡ record c { first = first; outgoing = o } → IsStopped c piece end.OutOfMemory d
stop_memory c d piece first o l e =
    rw e (record {
      fed = [];
      left = piece;
      split = refl;
      y = sym (append-nil c.y);
      version = l.version;
      counted = l.counted;
      fixed = refl;
      gift = refl;
      phase = refl;
      read = read_here c l;
      cause = tt;
    })

pub begun_same : (c d : Core) (first : List ℕ) (o : Owing) → IsSound c → d ≡ record c { first = first; outgoing = o } → Begun d
begun_same c d first o l e = rw e (begun_here c first o l)

-- ---- a new client

window_start : new_in 2500000 ≡ inbound first_window 0 []
unfolding window_after
window_start = refl

pub sound_new : (k : Asked) (max : ℕ) (r : ReaderKnown) (i : InWindow) (o : Owing) (first y sent : List ℕ) (gave : List Gave) (taken : List Gift) → IsNamed k → max ≤ 4194304 → first ≡ [] → r ≡ record { max = max; fed = []; given = []; failed = None } → IsRead max [] []
    → i ≡ new_in 2500000 → o.pending ≡ hello → o.writer ≡ writer.fresh → y ≡ [] → gave ≡ [] → taken ≡ [] → sent ≡ []
    → IsSound (record { asked = k; first = first; reader = r; inbound = i; phase = Connecting; finished = false; outgoing = o; gift = None; fed = 0; y = y; gave = gave; taken = taken; sent = sent })
sound_new k max r i o first y sent gave taken n most fe re read ie oe we ye ge te se =
    let max_is : r.max ≡ max = ap (λ (v : ReaderKnown). v.max) re in
    rw (fe, re, ye, ge, te, se) (record {
      named = n;
      first = λ l. refl;
      version = refl;
      fed = refl;
      counted = refl;
      taken = ap (λ (w : InWindow). w.taken) ie;
      reads = refl;
      read = read;
      short = most;
      wide = tt;
      stands = same k max max [] [] [] [] [] [] [] hello o.pending writer.fresh o.writer (inbound first_window 0 []) i Connecting Connecting false None refl refl refl oe we (ie ∙ window_start) refl (stands_new k max);
    })

pub keeps_new : (i : InWindow) (o : Owing) → i ≡ new_in 2500000 → o.pending ≡ hello → o.writer ≡ writer.fresh
    → record { pending = o.pending; writer = o.writer; window = i; phase = Connecting; finished = false; gift = None } ≡ new_keeps
keeps_new i o ie oe we =
    ap (λ (b : List ℕ). record { pending = b; writer = o.writer; window = i; phase = Connecting; finished = false; gift = None }) oe
    ∙ ap (λ (w : WriterKnown). record { pending = hello; writer = w; window = i; phase = Connecting; finished = false; gift = None }) we
    ∙ ap (λ (w : InWindow). record { pending = hello; writer = writer.fresh; window = w; phase = Connecting; finished = false; gift = None }) (ie ∙ window_start)

-- C0 and C1 are of no tag
pub hello_others : (o p : Owing) → o ≡ nothing → p.pending ≡ o.pending ++ hello → p.others ≡ o.others + 1537 → p.others ≡ length p.pending
hello_others o p e b n =
    omega (arith, n, ap (λ (x : Owing). x.others) e, ap length b, length-append o.pending hello, ap (λ (x : Owing). length x.pending) e, hello_long)
  where
    hello_long : length hello ≡ 1537
    hello_long = omega (arith, length-replicate {A = ℕ} 1536 0)

-- ---- the handshake

-- the first byte is the first
pub version_kept : (x q : List ℕ) → bad_version x ≡ None → 0 < length x → bad_version (x ++ q) ≡ None
version_kept [] q e some = absurd (omega (arith, some))
version_kept (b ∷ x) q e some = e

none_bad : (b : ℕ) (t : Bool) → (b == 3) ≡ t → not t ≡ false → bad_version (b ∷ []) ≡ None
none_bad b true e f = ap (λ (t : Bool). if t then None else Some b) e
none_bad b false e f = absurd (cc)

zero_bad : (b : ℕ) (l : List ℕ) (n : ℕ) → n ≡ 0 → is_bad n (b ∷ l) ≡ false → not (b == 3) ≡ false
zero_bad b l n z e = ap (λ (m : ℕ). (m == 0) && not (b == 3)) (sym z) ∙ e

pub version_part : (c : Core) (piece : List ℕ) (n : ℕ) → IsSound c → is_bad c.fed piece ≡ false → bad_version (c.y ++ take n piece) ≡ None
version_part c piece n l e = by_list c.y piece n (l.version) (λ z. l.counted ∙ z) e
  where
    by_list : (y p : List ℕ) (n : ℕ) → bad_version y ≡ None → (length y ≡ 0 → c.fed ≡ 0) → is_bad c.fed p ≡ false → bad_version (y ++ take n p) ≡ None
    by_list (b ∷ y) p n v z e = v
    by_list [] [] zero v z e = refl
    by_list [] [] (suc n) v z e = refl
    by_list [] (b ∷ p) zero v z e = refl
    by_list [] (b ∷ p) (suc n) v z e = none_bad b (b == 3) refl (zero_bad b p c.fed (z refl) e)

bad_cause : (n : ℕ) (y p : List ℕ) → n ≡ length y → is_bad n p ≡ true → (length y ≡ 0) × (is_some (bad_version (y ++ p)) ≡ true)
bad_cause n y [] c e = absurd (cc)
bad_cause n [] (b ∷ p) c e = (refl, some_bad (b == 3) (ap (λ (m : ℕ). (m == 0) && not (b == 3)) (sym c) ∙ e))
  where
    some_bad : (t : Bool) → not t ≡ true → is_some (if t then None else Some b) ≡ true
    some_bad true f = absurd (cc)
    some_bad false f = refl
bad_cause n (a ∷ y) (b ∷ p) c e =
    let z : (n == 0) ≡ false = ne_eqb n 0 (λ w. omega (arith, w, c)) in
    absurd (let f : false ≡ true = ap (λ (t : Bool). t && not (b == 3)) (sym z) ∙ e in cc)

pub bad_stop : (c : Core) (piece : List ℕ) → IsSound c → is_bad c.fed piece ≡ true → IsStopped c piece (end.BadVersion 0) c
bad_stop c piece l e =
    let b = bad_cause c.fed c.y piece l.counted e in
    record {
      fed = [];
      left = piece;
      split = refl;
      y = sym (append-nil c.y);
      version = l.version;
      counted = l.counted;
      fixed = refl;
      gift = refl;
      phase = refl;
      read = read_here c l;
      cause = (sym b.0, b.0, b.1);
    }

pub begun_now : (c : Core) → IsSound c → Begun c
begun_now c l = begun_here c c.first c.outgoing l

pub sound_hand : (c : Core) (part y first : List ℕ) (n : ℕ) → IsSound c → length (c.y ++ part) < hand_bytes → bad_version (c.y ++ part) ≡ None → first ≡ c.first ++ part → n ≡ c.fed + length part → y ≡ c.y ++ part
    → IsSound (record c { first = first; fed = n; y = y })
sound_hand c part y first n l h v fe ne ye =
    let a = length-append c.y part in
    let less : length c.y < hand_bytes = omega (arith, h, a) in
    rw ye (record {
      named = l.named;
      first = λ e. fe ∙ ap (λ (b : List ℕ). b ++ part) (l.first less);
      version = v;
      fed = l.fed ∙ drop_all hand_bytes c.y (omega (arith, less)) ∙ sym (drop_all hand_bytes (c.y ++ part) (omega (arith, h)));
      counted = omega (arith, ne, l.counted, a);
      taken = omega (arith, l.taken, h, less);
      reads = l.reads;
      read = l.read;
      short = l.short;
      wide = l.wide;
      stands = stands_hand c.asked c.reader.max (past_of c) (keeps_of c) part h l.stands;
    })

writer_fresh : (k : Asked) (y : List ℕ) (ms : List (ℕ × Message)) (T : List Gave) → length y < hand_bytes → writer_after k y ms T ≡ writer.fresh
unfolding writer_after
writer_fresh k y ms T h = ap (λ (b : Bool). if b then after_all writer.fresh (owed k (count_of y) ms T) else writer.fresh) (lt-leb hand_bytes (length y) h)

phase_none : (k : Asked) → phase_of k [] ≡ Connecting
unfolding phase_after
phase_none k = refl

pub sound_greet : (c : Core) (part y first whole : List ℕ) (o : Owing) (n : ℕ) → IsSound c → length c.y < hand_bytes → length (c.y ++ part) ≡ hand_bytes → bad_version (c.y ++ part) ≡ None → whole ≡ c.first ++ part
    → o.pending ≡ c.outgoing.pending ++ (c2 whole ++ written c.outgoing.writer (connect c.asked ∷ [])) → o.writer ≡ after_all c.outgoing.writer (connect c.asked ∷ []) → n ≡ c.fed + length part → y ≡ c.y ++ part
    → IsSound (record c { first = first; outgoing = o; fed = n; y = y })
sound_greet c part y first whole o n l less h v he oe we ne ye =
    let a = length-append c.y part in
    let z = c.y ++ part in
    let s = l.stands in
    let fresh_is : c.outgoing.writer ≡ writer.fresh = s.writer ∙ writer_fresh c.asked c.y c.reader.given c.gave less in
    let starts : c.phase ≡ Connecting = s.phase ∙ ap (phase_of c.asked) (s.early less).messages ∙ phase_none c.asked in
    let all : whole ≡ z = he ∙ ap (λ (b : List ℕ). b ++ part) (l.first less) in
    let ask = connect c.asked ∷ [] in
    let bytes : o.pending ≡ c.outgoing.pending ++ (c2 z ++ written writer.fresh ask) =
    oe ∙ ap (λ (b : List ℕ). c.outgoing.pending ++ (c2 b ++ written c.outgoing.writer ask)) all ∙ ap (λ (w : WriterKnown). c.outgoing.pending ++ (c2 z ++ written w ask)) fresh_is in
    rw ye (record {
      named = l.named;
      first = λ e. absurd (omega (arith, e, h));
      version = v;
      fed = l.fed ∙ drop_all hand_bytes c.y (omega (arith, less)) ∙ sym (drop_all hand_bytes z (omega (arith, h)));
      counted = omega (arith, ne, l.counted, a);
      taken = omega (arith, l.taken, h, less);
      reads = l.reads;
      read = l.read;
      short = l.short;
      wide = subst (λ (p : Phase). IsWide p o.writer.size) (sym starts) tt;
      stands = same c.asked c.reader.max c.reader.max z z c.reader.given c.reader.given c.gave c.sent c.taken (c.outgoing.pending ++ (c2 z ++ written writer.fresh ask)) o.pending (after_all writer.fresh ask) o.writer
          c.inbound c.inbound c.phase c.phase c.finished c.gift refl refl refl bytes (we ∙ ap (λ (w : WriterKnown). after_all w ask) fresh_is) refl refl (stands_greet c.asked c.reader.max (past_of c) (keeps_of c) part less h s);
    })

-- C2 and connect are short
abbrev some_left : Bool → ℕ
some_left t = if t then 2463 else 0

pub greet_quiet : (n m : ℕ) (y z : List ℕ) → m ≤ n + 2463 → length y < hand_bytes → length z ≡ hand_bytes → m + to_greet (length z) ≤ n + to_greet (length y)
greet_quiet n m y z le less e =
    let a : nat_lt (length y) hand_bytes ≡ true = lt-ltb (length y) hand_bytes less in
    let b : nat_lt (length z) hand_bytes ≡ false = le-ltb (length z) hand_bytes (omega (arith, e)) in
    omega (arith, le, ap some_left a, ap some_left b)

pub hand_quiet : (n : ℕ) (y z : List ℕ) → length z < hand_bytes → length y < hand_bytes → n + to_greet (length z) ≤ n + to_greet (length y)
hand_quiet n y z h less =
    let a : nat_lt (length y) hand_bytes ≡ true = lt-ltb (length y) hand_bytes less in
    let b : nat_lt (length z) hand_bytes ≡ true = lt-ltb (length z) hand_bytes h in
    omega (arith, ap some_left a, ap some_left b)

pub early_weight : (n m : ℕ) (y : List ℕ) (w : InWindow) → length y < hand_bytes → m ≤ n + 2463 → 16000 * m ≤ weight n (length y) w
early_weight n m y w less le =
    let a : nat_lt (length y) hand_bytes ≡ true = lt-ltb (length y) hand_bytes less in
    omega (arith, le, ap some_left a)

-- the first bytes of a piece that are at most so many
pub part_used : (piece part : List ℕ) (count used : ℕ) → part ≡ take count piece → used ≤ length part → (take used part ≡ take used piece) × (used ≤ length piece)
part_used piece part count used e le =
    let cut : piece ≡ take count piece ++ drop count piece = sym (take-append-drop count piece) in
    let all : part ++ drop count piece ≡ piece = ap (λ (l : List ℕ). l ++ drop count piece) e ∙ sym cut in
    (sym (take-append-le used part (drop count piece) le) ∙ ap (take used) all, omega (arith, le, ap length all, length-append part (drop count piece)))

pub fed_hand : (c d : Core) (piece part first : List ℕ) (n f : ℕ) (o : Owing) → part ≡ take n piece → d ≡ record c { first = first; outgoing = o; fed = f; y = c.y ++ part }
    → Apart c.outgoing o → IsFed c piece d (drop (length part) piece)
fed_hand c d piece part first n f o pe e a =
    let all : take (length part) part ≡ part = take_all (length part) part (omega arith) in
    let cut : take (length part) part ≡ take (length part) piece = (part_used piece part n (length part) pe (omega arith)).0 in
    rw e (record {
      fed = part;
      split = ap (λ (b : List ℕ). b ++ drop (length part) piece) (sym all ∙ cut) ∙ take-append-drop (length part) piece;
      y = refl;
      fixed = refl;
      others = a;
    })

-- ---- bytes of chunks

reader_fed : (c : Core) (part : List ℕ) (used : ℕ) (m : Option Message) (r : ReaderKnown) → IsFedTo c.reader part used m r → r.fed ≡ c.reader.fed ++ take used part
reader_fed c part used m r f = ap (λ (k : ReaderKnown). k.fed) f.now

pub fixed_read : (c : Core) (part : List ℕ) (used : ℕ) (m : Option Message) (r : ReaderKnown) → IsFedTo c.reader part used m r → r.max ≡ c.reader.max
fixed_read c part used m r f = ap (λ (k : ReaderKnown). k.max) f.now

-- the count of input bytes is far from its end
pub far : (c : Core) (part : List ℕ) (used : ℕ) (m : Option Message) (r : ReaderKnown) → IsSound c → hand_bytes ≤ length c.y → IsFedTo c.reader part used m r → (c.inbound.taken + used ≤ 2 ^ 62) × (c.fed + used ≤ 2 ^ 62 + hand_bytes)
far c part used m r l h f =
    let q = take used part in
    let lq : length q ≡ used = length-take-le used part f.within in
    let e : length r.fed ≡ length (c.reader.fed ++ q) = ap length (reader_fed c part used m r f) in
    let n : length r.fed ≤ 2 ^ 62 = f.read.reads.near in
    let a = length-append c.reader.fed q in
    let g : length c.reader.fed ≡ length c.y - hand_bytes = ap length l.fed ∙ length-drop hand_bytes c.y in
    (omega (arith, lq, e, n, a, g, l.taken), omega (arith, lq, e, n, a, g, l.counted, h))

-- what holds after bytes of chunks, but for what is owed
sound_fed : (c : Core) (part y : List ℕ) (used n : ℕ) (m : Option Message) (r : ReaderKnown) (i : InWindow) (p : Phase) (o : Owing) (g : Option Gift) → IsSound c → hand_bytes ≤ length c.y → IsFedTo c.reader part used m r
    → i.taken ≡ c.inbound.taken + used → n ≡ c.fed + used → IsWide p o.writer.size → y ≡ c.y ++ take used part
    → StandsNow (record c { reader = r; inbound = i; phase = p; outgoing = o; gift = g; fed = n; y = c.y ++ take used part })
    → IsSound (record c { reader = r; inbound = i; phase = p; outgoing = o; gift = g; fed = n; y = y })
sound_fed c part y used n m r i p o g l h f t ne w ye st =
    let q = take used part in
    let lq : length q ≡ used = length-take-le used part f.within in
    rw ye (record {
      named = l.named;
      first = λ e. absurd (omega (arith, e, h, length-append c.y q));
      version = version_kept c.y q l.version (omega (arith, h));
      fed = reader_fed c part used m r f ∙ ap (λ (v : List ℕ). v ++ q) l.fed ∙ sym (drop-append-le hand_bytes c.y q h);
      counted = omega (arith, ne, l.counted, length-append c.y q, lq);
      taken = omega (arith, t, l.taken, length-append c.y q, lq, h);
      reads = ap (λ (k : ReaderKnown). k.failed) f.now;
      read = f.read;
      short = omega (arith, fixed_read c part used m r f, l.short);
      wide = w;
      stands = st;
    })

-- acknowledgements tell no size
ack_wide : (w v : WriterKnown) (t : Bool) (n : ℕ) → v ≡ after_all w (ack_messages (if t then Some n else None)) → v.size ≡ w.size
unfolding after_all Rattle.chunk_writer.specs.Written.resized_by
ack_wide w v true n e = ap (λ (x : WriterKnown). x.size) e
ack_wide w v false n e = ap (λ (x : WriterKnown). x.size) e

pub took_size : (i : InWindow) (n : ℕ) (o p : Owing) → Says o (ack_messages (ack_of i n)) p → p.writer.size ≡ o.writer.size
took_size i n o p s = ack_wide o.writer p.writer (n == room_of i) (Rattle.ack_window.specs.Inbound.number_of (i.taken + n)) s.writer

pub wide_same : (p : Phase) (m n : ℕ) → m ≡ n → IsWide p n → IsWide p m
wide_same p m n e w = subst (λ (k : ℕ). IsWide p k) (sym e) w

-- after bytes that end no message
pub sound_quiet : (c : Core) (part y : List ℕ) (used : ℕ) (r : ReaderKnown) (i : InWindow) (o : Owing) → IsSound c → hand_bytes ≤ length c.y → used ≤ room_of c.inbound
    → IsFedTo c.reader part used None r → i ≡ in_took c.inbound used → Says c.outgoing (ack_messages (ack_of c.inbound used)) o → y ≡ c.y ++ take used part
    → IsSound (record c { reader = r; inbound = i; outgoing = o; fed = c.fed + used; y = y })
sound_quiet c part y used r i o l h room f ie s ye =
    let q = take used part in
    let lq : length q ≡ used = length-take-le used part f.within in
    let given : r.given ≡ c.reader.given = ap (λ (k : ReaderKnown). k.given) f.now ∙ append-nil c.reader.given in
    let base = stands_fed c.asked c.reader.max (past_of c) (keeps_of c) q h (subst (λ (n : ℕ). n ≤ room_of c.inbound) (sym lq) room) l.stands in
    let T : ℕ → Type 0 = λ n. Stands c.asked c.reader.max (fed_more (past_of c) q) (took (keeps_of c) n) in
    let there : T used = subst T lq base in
    let a = ack_messages (ack_of c.inbound used) in
    sound_fed c part y used (c.fed + used) None r i c.phase o c.gift l h f (ap (λ (w : InWindow). w.taken) ie) refl (wide_same c.phase o.writer.size c.outgoing.writer.size (took_size c.inbound used c.outgoing o s) l.wide) ye
    (same c.asked c.reader.max r.max (c.y ++ q) (c.y ++ q) c.reader.given r.given c.gave c.sent c.taken (c.outgoing.pending ++ written c.outgoing.writer a) o.pending (after_all c.outgoing.writer a) o.writer (in_took c.inbound used) i c.phase c.phase c.finished c.gift
    (fixed_read c part used None r f) refl given s.bytes s.writer ie refl there)

-- after bytes that end a message
pub sound_loud : (c : Core) (part y : List ℕ) (used : ℕ) (m : Message) (r : ReaderKnown) (v i : InWindow) (o p : Owing) (ph : Phase) (g : Option Gift) → IsSound c → hand_bytes ≤ length c.y → c.gift ≡ None → used ≤ room_of c.inbound
    → IsFedTo c.reader part used (Some m) r → v ≡ in_took c.inbound used → Says c.outgoing (ack_messages (ack_of c.inbound used)) o
    → i ≡ record { window = window_by v.window m; taken = v.taken } → Says o (does c.asked c.phase m).says p → ph ≡ (does c.asked c.phase m).phase → listed g ≡ gift_for c.asked.wish c.phase m → IsWide ph p.writer.size
    → y ≡ c.y ++ take used part
    → IsSound (record c { reader = r; inbound = i; phase = ph; outgoing = p; gift = g; fed = c.fed + used; y = y })
sound_loud c part y used m r v i o p ph g l h none room f ve so ie sp pe ge wide ye =
    let q = take used part in
    let step = does c.asked c.phase m in
    let lq : length q ≡ used = length-take-le used part f.within in
    let some : 0 < used = f.some refl in
    let n = count_of (c.y ++ q) in
    let gr : length c.reader.fed ≡ length c.y - hand_bytes = ap length l.fed ∙ length-drop hand_bytes c.y in
    let place : length (c.reader.fed ++ q) ≡ n = omega (arith, length-append c.reader.fed q, length-append c.y q, gr, h) in
    let given : r.given ≡ c.reader.given ++ (n, m) ∷ [] = ap (λ (k : ReaderKnown). k.given) f.now ∙ ap (λ (b : ℕ). c.reader.given ++ (b, m) ∷ []) place in
    let base = stands_message c.asked c.reader.max (past_of c) (keeps_of c) q m g h (subst (λ (b : ℕ). 0 < b) (sym lq) some) (subst (λ (b : ℕ). b ≤ room_of c.inbound) (sym lq) room) none ge l.stands in
    let T : ℕ → Type 0 = λ b. Stands c.asked c.reader.max (with_message (past_of c) q m) (stepped (took (keeps_of c) b) m step g) in
    let there : T used = subst T lq base in
    let a = ack_messages (ack_of c.inbound used) in
    let w1 = after_all c.outgoing.writer a in
    let b1 = c.outgoing.pending ++ written c.outgoing.writer a in
    let ww : p.writer ≡ after_all w1 step.says = sp.writer ∙ ap (λ (x : WriterKnown). after_all x step.says) so.writer in
    let bb : p.pending ≡ b1 ++ written w1 step.says = sp.bytes ∙ ap (λ (b : List ℕ). b ++ written o.writer step.says) so.bytes ∙ ap (λ (x : WriterKnown). b1 ++ written x step.says) so.writer in
    let ii : i ≡ record { window = window_by c.inbound.window m; taken = c.inbound.taken + used } = ie ∙ ap (λ (x : InWindow). record { window = window_by x.window m; taken = x.taken }) ve in
    sound_fed c part y used (c.fed + used) (Some m) r i ph p g l h f (ap (λ (w : InWindow). w.taken) ii) refl wide ye
    (same c.asked c.reader.max r.max (c.y ++ q) (c.y ++ q) (c.reader.given ++ (n, m) ∷ []) r.given c.gave c.sent c.taken (b1 ++ written w1 step.says) p.pending (after_all w1 step.says) p.writer
    (record { window = window_by c.inbound.window m; taken = c.inbound.taken + used }) i step.phase ph c.finished g (fixed_read c part used (Some m) r f) refl given bb ww ii pe there)

-- ---- bytes sent

pub sound_sent : (c : Core) (n : ℕ) (sent : List ℕ) (o : Owing) → IsSound c → o.pending ≡ drop n c.outgoing.pending → o.writer ≡ c.outgoing.writer → sent ≡ c.sent ++ take n c.outgoing.pending
    → IsSound (record c { outgoing = o; sent = sent })
sound_sent c n sent o l pe we se =
    rw se (record {
      named = l.named;
      first = l.first;
      version = l.version;
      fed = l.fed;
      counted = l.counted;
      taken = l.taken;
      reads = l.reads;
      read = l.read;
      short = l.short;
      wide = wide_same c.phase o.writer.size c.outgoing.writer.size (ap (λ (w : WriterKnown). w.size) we) l.wide;
      stands = same c.asked c.reader.max c.reader.max c.y c.y c.reader.given c.reader.given c.gave (c.sent ++ take n c.outgoing.pending) c.taken (drop n c.outgoing.pending) o.pending c.outgoing.writer o.writer c.inbound c.inbound c.phase c.phase c.finished c.gift
          refl refl refl pe we refl refl (stands_sent c.asked c.reader.max (past_of c) (keeps_of c) (take n c.outgoing.pending) (drop n c.outgoing.pending) l.stands (sym (take-append-drop n c.outgoing.pending)));
    })

pub all_sent : (c : Core) (n : ℕ) (sent : List ℕ) (o : Owing) → o.pending ≡ drop n c.outgoing.pending → o.writer ≡ c.outgoing.writer → o.others ≡ min c.outgoing.others (length o.pending) → sent ≡ c.sent ++ take n c.outgoing.pending
    → IsSent c n (record c { outgoing = o; sent = sent })
all_sent c n sent o pe we oe se =
    let keeps : keeps_of (record c { outgoing = o; sent = sent }) ≡ pending_now (keeps_of c) (drop n c.outgoing.pending) =
    ap (λ (b : List ℕ). record { pending = b; writer = o.writer; window = c.inbound; phase = c.phase; finished = c.finished; gift = c.gift }) pe
    ∙ ap (λ (w : WriterKnown). record { pending = drop n c.outgoing.pending; writer = w; window = c.inbound; phase = c.phase; finished = c.finished; gift = c.gift }) we in
    record {
      past = ap (λ (b : List ℕ). record { y = c.y; ms = c.reader.given; gave = c.gave; sent = b; taken = c.taken }) se;
      keeps = keeps;
      others = oe;
      fixed = (refl, refl, refl);
    }

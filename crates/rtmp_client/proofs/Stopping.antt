-- What was fed, and why a client ends at a byte
use Rattle.std.proofs.Common.{◌≡◌, ◌≤◌, ◌<◌, ◌+◌, ◌-◌, ◌^◌, ◌⊎◌, inl, inr, ℕ, suc, Bool, true, false, ◌==◌, if◌then◌else◌, List, [], ◌∷◌, ◌++◌, length, take, drop, min, refl, sym, ap, ◌∙◌, subst, arith, append-nil, append_assoc, length-append, Option, Some, None, Result, Ok, Err}
use Rattle.std.proofs.lemmas.List.{take-append-drop, take-append-le, drop-append-le, length-drop, length-take, length-take-le}
use Rattle.chunk_wire.specs.State as wire
use Rattle.chunk_wire.specs.declared.message.Message.{Message}
use Rattle.chunk_reader.specs.declared.fail.ReadFail.{ReadFail}
use Rattle.chunk_reader.specs.declared.fail.ReadCause.{ReadCause}
use Rattle.chunk_reader.specs.declared.fail.ReadCause.TheVariants as cause
use Rattle.chunk_reader.specs.ReaderKnown.{ReaderKnown}
use Rattle.chunk_reader.specs.Feeds.{IsFedTo}
use Rattle.chunk_reader.specs.Feeds as reader
use Rattle.chunk_reader.specs.Reads.{Reads}
use Rattle.chunk_reader.specs.Sound.{IsRead}
use Rattle.chunk_reader.specs.Stops.{Stops}
use Rattle.chunk_reader.proofs.Before.{before_last}
use Rattle.chunk_reader.proofs.Settled.{stays_refused}
use Rattle.rtmp_handshake.specs.Answer.{bad_version}
use Rattle.ack_window.specs.Controls.{control_in}
use Rattle.ack_window.specs.declared.control.Control.{Control}
use Rattle.ack_window.specs.declared.control.BadControl.{BadControl}
use Rattle.ack_window.specs.Inbound.{InWindow, room_of}
use Rattle.rtmp_command.specs.declared.command.CommandFail.{CommandFail}
use Rattle.rtmp_command.specs.declared.command.CommandFail.TheVariants as command
use Rattle.session_owed.specs.Talk.{hand_bytes}
use Rattle.client_owed.specs.declared.types.Gave.{Gave}
use Rattle.client_owed.specs.declared.types.Gift.{Gift}
use Rattle.client_owed.specs.declared.types.News.{News}
use Rattle.client_owed.specs.declared.types.News.TheVariants as news
use Rattle.client_owed.specs.declared.types.Phase.{Phase}
use Rattle.client_owed.specs.News.{news_in}
use Rattle.client_owed.specs.Client.{does}
use Rattle.client_owed.specs.Pulled.{gift_for}
use Rattle.client_owed.specs.Standing.{listed, took}
use Rattle.client_owed.proofs.Standing.{stands_fed}
use Rattle.rtmp_client.specs.Feeding.{Decides, Hears, IsFed, IsHeard, IsRefused, IsStopped, fixed_of, read_end}
use Rattle.rtmp_client.specs.Keeping.{Begun, IsAll, IsSound, keeps_of, past_of}
use Rattle.rtmp_client.specs.Owing.{Apart, Owing}
use Rattle.rtmp_client.specs.Refusing.{ended_by, refused, refused_by}
use Rattle.rtmp_client.specs.declared.core_fields.Core.{Core}
use Rattle.rtmp_client.specs.declared.end.ClientEnd.{ClientEnd}
use Rattle.rtmp_client.specs.declared.end.ClientEnd.TheVariants as end
use Rattle.rtmp_client.proofs.Living.{fixed_read, part_used, read_here, version_kept}

take_past : (x p : List ℕ) (k : ℕ) → take (length x + k) (x ++ p) ≡ x ++ take k p
take_past [] p k = ap (λ (n : ℕ). take n p) (omega arith)
take_past (b ∷ x) p k = let e : length (b ∷ x) + k ≡ suc (length x + k) = omega arith in rw e (ap (λ (l : List ℕ). b ∷ l) (take_past x p k))

abbrev pub fixed_with : Core → ℕ → Rattle.rtmp_client.specs.Feeding.Fixed
fixed_with c n = record { asked = c.asked; max = n; gave = c.gave; sent = c.sent; taken = c.taken; finished = c.finished }

pub fed_chunk : (c : Core) (piece part y : List ℕ) (count used n : ℕ) (m : Option Message) (r : ReaderKnown) (i : InWindow) (p : Phase) (o : Owing) (g : Option Gift)
    → part ≡ take count piece → IsFedTo c.reader part used m r → y ≡ c.y ++ take used part → Apart c.outgoing o
    → IsFed c piece (record c { reader = r; inbound = i; phase = p; outgoing = o; gift = g; fed = n; y = y }) (drop used piece)
fed_chunk c piece part y count used n m r i p o g pe f ye a =
    let u = part_used piece part count used pe f.within in
    record {
      fed = take used piece;
      split = take-append-drop used piece;
      y = ye ∙ ap (λ (l : List ℕ). c.y ++ l) u.0;
      fixed = ap (fixed_with c) (fixed_read c part used m r f);
      others = a;
    }

pub loud_heard : (c : Core) (part y : List ℕ) (used last n : ℕ) (m : Message) (r : ReaderKnown) (i : InWindow) (p : Phase) (o : Owing) (g : Option Gift) → IsSound c → hand_bytes ≤ length c.y
    → IsFedTo c.reader part used (Some m) r → p ≡ (does c.asked c.phase m).phase → listed g ≡ gift_for c.asked.wish c.phase m → y ≡ c.y ++ take used part → last ≡ c.fed + used - 1 → refused last m ≡ None
    → Hears c (record c { reader = r; inbound = i; phase = p; outgoing = o; gift = g; fed = n; y = y }) true
loud_heard c part y used last n m r i p o g l h f pe ge ye le re =
    let q = take used part in
    let lq : length q ≡ used = length-take-le used part f.within in
    let ly : length y ≡ length c.y + used = omega (arith, ap length ye, length-append c.y q, lq) in
    let gr : length c.reader.fed ≡ length c.y - hand_bytes = ap length l.fed ∙ length-drop hand_bytes c.y in
    let at : length (c.reader.fed ++ q) ≡ length y - hand_bytes = omega (arith, length-append c.reader.fed q, lq, gr, h, ly) in
    let given : r.given ≡ c.reader.given ++ (length y - hand_bytes, m) ∷ [] = ap (λ (k : ReaderKnown). k.given) f.now ∙ ap (λ (k : ℕ). c.reader.given ++ (k, m) ∷ []) at in
    let ll : last ≡ length y - 1 = omega (arith, le, l.counted, ly) in
    (m, record { given = given; phase = pe; gift = ge; passed = ap (λ (k : ℕ). refused k m) (sym ll) ∙ re })

-- ---- chunks that end it

-- what was sent begins what is owed, also for bytes more that end no message
pub over_fed : (c : Core) (q y : List ℕ) (r : ReaderKnown) (i : InWindow) (p : Phase) (o : Owing) (n : ℕ) → IsSound c → hand_bytes ≤ length c.y → length q ≤ room_of c.inbound
    → IsRead c.reader.max (drop hand_bytes (c.y ++ q)) c.reader.given → r.max ≡ c.reader.max → y ≡ c.y ++ q
    → Begun (record c { reader = r; inbound = i; phase = p; outgoing = o; fed = n; y = y })
over_fed c q y r i p o n l h room read max ye =
    let z = stands_fed c.asked c.reader.max (past_of c) (keeps_of c) q h room l.stands in
    rw (ye, max) ((took (keeps_of c) (length q)).pending, record { ms = c.reader.given; read = read; owes = z.owes; given = z.given; told = z.told })

dropped : (c : Core) (q : List ℕ) → IsSound c → hand_bytes ≤ length c.y → drop hand_bytes (c.y ++ q) ≡ c.reader.fed ++ q
dropped c q l h = drop-append-le hand_bytes c.y q h ∙ ap (λ (b : List ℕ). b ++ q) (sym l.fed)

pub read_some : (c : Core) (part : List ℕ) (e : ReadFail) (r : ReaderKnown) → IsSound c → hand_bytes ≤ length c.y → (f : reader.IsRefused c.reader part e r) → IsRead c.reader.max (drop hand_bytes (c.y ++ take f.after part)) c.reader.given
read_some c part e r l h f =
    let g : IsRead c.reader.max (c.reader.fed ++ take f.after part) c.reader.given = subst (λ (k : ReaderKnown). IsRead k.max k.fed k.given) f.now f.read in
    subst (λ (b : List ℕ). IsRead c.reader.max b c.reader.given) (sym (dropped c (take f.after part) l h)) g

pub read_last : (c : Core) (part : List ℕ) (used : ℕ) (m : Message) (r : ReaderKnown) → IsSound c → hand_bytes ≤ length c.y → IsFedTo c.reader part used (Some m) r
    → IsRead c.reader.max (drop hand_bytes (c.y ++ take (used - 1) part)) c.reader.given
read_last c part used m r l h f =
    let q = take used part in
    let some : 0 < used = f.some refl in
    let lq : length q ≡ used = length-take-le used part f.within in
    let g : IsRead c.reader.max (c.reader.fed ++ q) (c.reader.given ++ (length (c.reader.fed ++ q), m) ∷ []) = subst (λ (k : ReaderKnown). IsRead k.max k.fed k.given) f.now f.read in
    let b : IsRead c.reader.max (take (length (c.reader.fed ++ q) - 1) (c.reader.fed ++ q)) c.reader.given =
    before_last c.reader.max c.reader.fed q c.reader.given m l.read.s g.s l.read.r g.r (omega (arith, lq, some)) l.read.reads g.reads in
    let n : length (c.reader.fed ++ q) - 1 ≡ length c.reader.fed + (used - 1) = omega (arith, length-append c.reader.fed q, lq, some) in
    let t : take (used - 1) q ≡ take (used - 1) part = sym (ap (take (used - 1)) refl) ∙ sym (take-append-le (used - 1) q (drop used part) (omega (arith, lq))) ∙ ap (take (used - 1)) (take-append-drop used part) in
    let cut : take (length (c.reader.fed ++ q) - 1) (c.reader.fed ++ q) ≡ c.reader.fed ++ take (used - 1) part =
    ap (λ (k : ℕ). take k (c.reader.fed ++ q)) n ∙ take_past c.reader.fed q (used - 1) ∙ ap (λ (k : List ℕ). c.reader.fed ++ k) t in
    subst (λ (k : List ℕ). IsRead c.reader.max k c.reader.given) (cut ∙ sym (dropped c (take (used - 1) part) l h)) b

-- bytes of chunks don't change the version
version_more : (c : Core) (q y : List ℕ) → IsSound c → hand_bytes ≤ length c.y → y ≡ c.y ++ q → bad_version y ≡ None
version_more c q y l h ye = subst (λ (b : List ℕ). bad_version b ≡ None) (sym ye) (version_kept c.y q l.version (omega (arith, h)))

-- where the reader refuses a byte
pub refused_place : (c : Core) (part : List ℕ) (e : ReadFail) (r : ReaderKnown) (at before : ℕ) → IsSound c → hand_bytes ≤ length c.y → (f : reader.IsRefused c.reader part e r) → at ≡ min (e.at + 3073) (2 ^ 64 - 1) → before ≡ at - c.fed
    → (before ≡ f.after) × (at ≡ length c.y + f.after)
refused_place c part e r at before l h f ae be =
    let q = take f.after part in
    let lq : length q ≡ f.after = length-take-le f.after part (omega (arith, f.within)) in
    let rf : r.fed ≡ c.reader.fed ++ q = ap (λ (k : ReaderKnown). k.fed) f.now in
    let near : length r.fed ≤ 2 ^ 62 = f.read.reads.near in
    let g : length c.reader.fed ≡ length c.y - hand_bytes = ap length l.fed ∙ length-drop hand_bytes c.y in
    let n : length r.fed ≡ length c.reader.fed + f.after = omega (arith, ap length rf, length-append c.reader.fed q, lq) in
    let a : at ≡ length c.y + f.after = omega (arith, ae, f.at, near, n, g, h) in
    (omega (arith, be, a, l.counted), a)

decides_read : (c : Core) (y : List ℕ) (n at : ℕ) (w : ReadCause) → at ≡ n → hand_bytes ≤ n → (w ≡ cause.OutOfMemory) ⊎ Stops c.reader.max (drop hand_bytes y) w (n - hand_bytes) → Decides c.reader.max c.reader.given y n (read_end w at)
decides_read c y n at cause.OutOfMemory e h s = tt
decides_read c y n at (cause.NoHead id) e h (inr s) = (e, h, s)
decides_read c y n at (cause.NoHead id) e h (inl o) = absurd (cc)
decides_read c y n at cause.TooManyIds e h (inr s) = (e, h, s)
decides_read c y n at cause.TooManyIds e h (inl o) = absurd (cc)
decides_read c y n at (cause.TooLong found) e h (inr s) = (e, h, s)
decides_read c y n at (cause.TooLong found) e h (inl o) = absurd (cc)
decides_read c y n at cause.TooMuch e h (inr s) = (e, h, s)
decides_read c y n at cause.TooMuch e h (inl o) = absurd (cc)
decides_read c y n at (cause.BadChunkSize value) e h (inr s) = (e, h, s)
decides_read c y n at (cause.BadChunkSize value) e h (inl o) = absurd (cc)
decides_read c y n at cause.TooFar e h (inr s) = (e, h, s)
decides_read c y n at cause.TooFar e h (inl o) = absurd (cc)

stops_by : (max : ℕ) (b d : List ℕ) (w : ReadCause) (p q : ℕ) → b ≡ d → p ≡ q → (w ≡ cause.OutOfMemory) ⊎ Stops max b w p → (w ≡ cause.OutOfMemory) ⊎ Stops max d w q
stops_by max b d w p q be pe s = rw (← be, ← pe) s

stops_more : (max : ℕ) (b more : List ℕ) (w : ReadCause) (p : ℕ) → (w ≡ cause.OutOfMemory) ⊎ Stops max b w p → (w ≡ cause.OutOfMemory) ⊎ Stops max (b ++ more) w p
stops_more max b more w p (inl e) = inl e
stops_more max b more w p (inr s) = inr (stays_refused max b more w p s)

pub stop_reader : (c : Core) (piece part y : List ℕ) (count at before : ℕ) (e : ReadFail) (r : ReaderKnown) → IsSound c → hand_bytes ≤ length c.y → reader.IsRefused c.reader part e r → part ≡ take count piece
    → at ≡ min (e.at + 3073) (2 ^ 64 - 1) → before ≡ at - c.fed → y ≡ c.y ++ take before part
    → IsStopped c piece (read_end e.cause at) (record c { reader = r; fed = at; y = y })
stop_reader c piece part y count at before e r l h f pe ae be ye =
    let p = refused_place c part e r at before l h f ae be in
    let u = part_used piece part count before pe (omega (arith, f.within, p.0)) in
    let lb : length (take before part) ≡ before = length-take-le before part (omega (arith, f.within, p.0)) in
    let ly : length y ≡ at = omega (arith, ap length ye, length-append c.y (take before part), lb, p) in
    let rest = drop count piece in
    let whole : (c.reader.fed ++ part) ++ rest ≡ drop hand_bytes (c.y ++ piece) =
    append_assoc c.reader.fed part rest ∙ ap (λ (b : List ℕ). c.reader.fed ++ (b ++ rest)) pe ∙ ap (λ (b : List ℕ). c.reader.fed ++ b) (take-append-drop count piece) ∙ sym (dropped c piece l h) in
    let g : length c.reader.fed ≡ length c.y - hand_bytes = ap length l.fed ∙ length-drop hand_bytes c.y in
    let lq : length (take f.after part) ≡ f.after = length-take-le f.after part (omega (arith, f.within)) in
    let place : e.at ≡ length y - hand_bytes = omega (arith, f.at, ap length (ap (λ (k : ReaderKnown). k.fed) f.now), length-append c.reader.fed (take f.after part), lq, g, h, ly, p) in
    record {
      fed = take before piece;
      left = drop before piece;
      split = take-append-drop before piece;
      y = ye ∙ ap (λ (b : List ℕ). c.y ++ b) u.0;
      version = version_more c (take before part) y l h ye;
      counted = sym ly;
      fixed = ap (fixed_with c) (ap (λ (k : ReaderKnown). k.max) f.now);
      gift = refl;
      phase = refl;
      read = subst (λ (b : List ℕ). IsRead c.reader.max (drop hand_bytes b) c.reader.given) (sym ye)
          (subst (λ (k : ℕ). IsRead c.reader.max (drop hand_bytes (c.y ++ take k part)) c.reader.given) (sym p.0) (read_some c part e r l h f));
      cause = decides_read c (c.y ++ piece) (length y) at e.cause (sym ly) (omega (arith, ly, p, h))
          (stops_by c.reader.max ((c.reader.fed ++ part) ++ rest) (drop hand_bytes (c.y ++ piece)) e.cause e.at (length y - hand_bytes) whole place (stops_more c.reader.max (c.reader.fed ++ part) rest e.cause e.at f.cause));
    }

-- where there was no memory for an acknowledgement
pub stop_acknowledge : (c : Core) (piece part : List ℕ) (used : ℕ) (m : Option Message) (r : ReaderKnown) (i : InWindow) (o : Owing) → IsSound c → IsFedTo c.reader part used m r → IsStopped c piece end.OutOfMemory (record c { reader = r; inbound = i; outgoing = o })
stop_acknowledge c piece part used m r i o l f = record {
  fed = [];
  left = piece;
  split = refl;
  y = sym (append-nil c.y);
  version = l.version;
  counted = l.counted;
  fixed = ap (fixed_with c) (fixed_read c part used m r f);
  gift = refl;
  phase = refl;
  read = read_here c l;
  cause = tt;
}

pub over_acknowledge : (c : Core) (part : List ℕ) (used : ℕ) (m : Option Message) (r : ReaderKnown) (i : InWindow) (o : Owing) → IsSound c → IsFedTo c.reader part used m r → Begun (record c { reader = r; inbound = i; outgoing = o })
over_acknowledge c part used m r i o l f =
    let read : IsRead c.reader.max (drop hand_bytes c.y) c.reader.given = subst (λ (b : List ℕ). IsRead c.reader.max b c.reader.given) l.fed l.read in
    rw (fixed_read c part used m r f) (c.outgoing.pending, record { ms = c.reader.given; read = read; owes = l.stands.owes; given = l.stands.given; told = l.stands.told })

-- why a message ends it, and where
abbrev IsAt : ℕ → ClientEnd → Type 0
IsAt last (end.BadControl at) = at ≡ last
IsAt last (end.BadCommand at) = at ≡ last
IsAt last (end.Refused code description) = Unit {0}
IsAt last end.OutOfMemory = Unit {0}
IsAt last (end.BadVersion at) = ⊥
IsAt last (end.BadChunk w at) = ⊥
IsAt last end.PeerClosed = ⊥
IsAt last end.LinkFault = ⊥
IsAt last end.Done = ⊥

some_same : {X : Type 0} (x y : X) → Some x ≡ Some y → x ≡ y
some_same x y e = cc

command_at : (last : ℕ) (w : Result News CommandFail) (e : ClientEnd) → ended_by last w ≡ Some e → IsAt last e
command_at last (Ok (news.Refused code description)) e is = subst (IsAt last) (some_same (end.Refused code description) e is) tt
command_at last (Ok (news.Done t v)) e is = absurd (let h : None ≡ Some e = is in cc)
command_at last (Ok (news.Status code)) e is = absurd (let h : None ≡ Some e = is in cc)
command_at last (Ok news.Other) e is = absurd (let h : None ≡ Some e = is in cc)
command_at last (Err (command.BadCommand place)) e is = subst (IsAt last) (some_same (end.BadCommand last) e is) refl
command_at last (Err command.OutOfMemory) e is = subst (IsAt last) (some_same end.OutOfMemory e is) tt

kind_at : (last : ℕ) (b : Bool) (w : Result News CommandFail) (e : ClientEnd) → (if b then ended_by last w else None) ≡ Some e → IsAt last e
kind_at last true w e is = command_at last w e is
kind_at last false w e is = absurd (let h : None ≡ Some e = is in cc)

message_at : (last : ℕ) (m : Message) (w : Result (Option Control) BadControl) (e : ClientEnd) → refused_by last m w ≡ Some e → IsAt last e
message_at last m (Ok None) e is = kind_at last (m.kind == 20) (news_in m.body) e is
message_at last m (Ok (Some control)) e is = absurd (let h : None ≡ Some e = is in cc)
message_at last m (Err b) e is = subst (IsAt last) (some_same (end.BadControl last) e is) refl

refused_at : (last : ℕ) (m : Message) (e : ClientEnd) → refused last m ≡ Some e → IsAt last e
unfolding refused
refused_at last m e is = message_at last m (control_in m) e is

decides_message : (c : Core) (y : List ℕ) (n : ℕ) (e : ClientEnd) → (e ≡ end.OutOfMemory) ⊎ (IsAt n e × IsRefused c.reader.max c.reader.given (take (n + 1) y) e) → Decides c.reader.max c.reader.given y n e
decides_message c y n e (inl o) = rw o tt
decides_message c y n (end.BadControl at) (inr i) = i
decides_message c y n (end.BadCommand at) (inr i) = i
decides_message c y n (end.Refused code description) (inr i) = i.1
decides_message c y n end.OutOfMemory (inr i) = tt
decides_message c y n (end.BadVersion at) (inr i) = absurd i.0
decides_message c y n (end.BadChunk w at) (inr i) = absurd i.0
decides_message c y n end.PeerClosed (inr i) = absurd i.0
decides_message c y n end.LinkFault (inr i) = absurd i.0
decides_message c y n end.Done (inr i) = absurd i.0

refused_by_end : (c : Core) (y : List ℕ) (n last : ℕ) (m : Message) (s : wire.State) (r : List ℕ) (e : ClientEnd) → Reads c.reader.max (drop hand_bytes (take (n + 1) y)) (c.reader.given ++ (length (drop hand_bytes (take (n + 1) y)), m) ∷ []) s r
    → length (take (n + 1) y) ≡ n + 1 → last ≡ n → (e ≡ end.OutOfMemory) ⊎ (refused last m ≡ Some e) → (e ≡ end.OutOfMemory) ⊎ (IsAt n e × IsRefused c.reader.max c.reader.given (take (n + 1) y) e)
refused_by_end c y n last m s r e reads len le (inl o) = inl o
refused_by_end c y n last m s r e reads len le (inr i) =
    let j : refused n m ≡ Some e = ap (λ (k : ℕ). refused k m) (sym le) ∙ i in
    let k : length (take (n + 1) y) - 1 ≡ n = omega (arith, len) in
    inr (refused_at n m e j, record { m = m; s = s; r = r; reads = reads; why = ap (λ (v : ℕ). refused v m) k ∙ j })

pub stop_message : (c : Core) (piece part y : List ℕ) (count used n last : ℕ) (m : Message) (r : ReaderKnown) (i : InWindow) (p : Phase) (o : Owing) (e : ClientEnd) → IsSound c → hand_bytes ≤ length c.y → IsFedTo c.reader part used (Some m) r
    → part ≡ take count piece → n ≡ c.fed + used - 1 → last ≡ n → y ≡ c.y ++ take (used - 1) part → (e ≡ end.OutOfMemory) ⊎ (refused last m ≡ Some e) → p ≡ c.phase
    → IsStopped c piece e (record c { reader = r; inbound = i; phase = p; outgoing = o; fed = n; y = y })
stop_message c piece part y count used n last m r i p o e l h f pe ne le ye ee he =
    let some : 0 < used = f.some refl in
    let q = take used part in
    let lq : length q ≡ used = length-take-le used part f.within in
    let u = part_used piece part count (used - 1) pe (omega (arith, f.within)) in
    let v = part_used piece part count used pe f.within in
    let lb : length (take (used - 1) part) ≡ used - 1 = length-take-le (used - 1) part (omega (arith, f.within)) in
    let ly : length y ≡ n = omega (arith, ap length ye, length-append c.y (take (used - 1) part), lb, ne, l.counted, some) in
    let z = c.y ++ piece in
    let up : length y + 1 ≡ length c.y + used = omega (arith, ly, ne, l.counted, some) in
    let front : take (length y + 1) z ≡ c.y ++ q = ap (λ (k : ℕ). take k z) up ∙ take_past c.y piece used ∙ ap (λ (k : List ℕ). c.y ++ k) (sym v.0) in
    let lf : length (take (length y + 1) z) ≡ length y + 1 = omega (arith, ap length front, length-append c.y q, lq, up) in
    let g : IsRead c.reader.max (c.reader.fed ++ q) (c.reader.given ++ (length (c.reader.fed ++ q), m) ∷ []) = subst (λ (k : ReaderKnown). IsRead k.max k.fed k.given) f.now f.read in
    let all : c.reader.fed ++ q ≡ drop hand_bytes (take (length y + 1) z) = sym (dropped c q l h) ∙ ap (drop hand_bytes) (sym front) in
    let reads : Reads c.reader.max (drop hand_bytes (take (length y + 1) z)) (c.reader.given ++ (length (drop hand_bytes (take (length y + 1) z)), m) ∷ []) g.s g.r =
    subst (λ (k : List ℕ). Reads c.reader.max k (c.reader.given ++ (length k, m) ∷ []) g.s g.r) all g.reads in
    record {
      fed = take (used - 1) piece;
      left = drop (used - 1) piece;
      split = take-append-drop (used - 1) piece;
      y = ye ∙ ap (λ (k : List ℕ). c.y ++ k) u.0;
      version = version_more c (take (used - 1) part) y l h ye;
      counted = sym ly;
      fixed = ap (fixed_with c) (fixed_read c part used (Some m) r f);
      gift = refl;
      phase = he;
      read = subst (λ (b : List ℕ). IsRead c.reader.max (drop hand_bytes b) c.reader.given) (sym ye) (read_last c part used m r l h f);
      cause = decides_message c z (length y) e (refused_by_end c z (length y) last m g.s g.r e reads lf (omega (arith, le, ly)) ee);
    }

-- ---- a piece is at most the room to the next acknowledgement

pub part_room : (piece part : List ℕ) (count room : ℕ) → part ≡ take count piece → count ≤ room → length part ≤ room
part_room piece part count room e le = omega (arith, le, ap length e, length-take count piece)

part_less : (part : List ℕ) (n room : ℕ) → n ≤ length part → length part ≤ room → length (take n part) ≤ room
part_less part n room le lt = omega (arith, le, lt, length-take-le n part le)

pub over_reader : (c : Core) (piece part y : List ℕ) (count at before : ℕ) (e : ReadFail) (r : ReaderKnown) → IsSound c → hand_bytes ≤ length c.y → reader.IsRefused c.reader part e r
    → part ≡ take count piece → count ≤ room_of c.inbound → at ≡ min (e.at + 3073) (2 ^ 64 - 1) → before ≡ at - c.fed → y ≡ c.y ++ take before part
    → Begun (record c { reader = r; fed = at; y = y })
over_reader c piece part y count at before e r l h f pe le ae be ye =
    let p = refused_place c part e r at before l h f ae be in
    let read : IsRead c.reader.max (drop hand_bytes (c.y ++ take before part)) c.reader.given =
    subst (λ (n : ℕ). IsRead c.reader.max (drop hand_bytes (c.y ++ take n part)) c.reader.given) (sym p.0) (read_some c part e r l h f) in
    over_fed c (take before part) y r c.inbound c.phase c.outgoing at l h (part_less part before (room_of c.inbound) (omega (arith, f.within, p.0)) (part_room piece part count (room_of c.inbound) pe le))
    read (ap (λ (v : ReaderKnown). v.max) f.now) ye

pub over_message : (c : Core) (piece part y : List ℕ) (count used n : ℕ) (m : Message) (r : ReaderKnown) (i : InWindow) (p : Phase) (o : Owing) → IsSound c → hand_bytes ≤ length c.y
    → IsFedTo c.reader part used (Some m) r → part ≡ take count piece → count ≤ room_of c.inbound → y ≡ c.y ++ take (used - 1) part
    → Begun (record c { reader = r; inbound = i; phase = p; outgoing = o; fed = n; y = y })
over_message c piece part y count used n m r i p o l h f pe le ye =
    over_fed c (take (used - 1) part) y r i p o n l h (part_less part (used - 1) (room_of c.inbound) (omega (arith, f.within)) (part_room piece part count (room_of c.inbound) pe le))
    (read_last c part used m r l h f) (fixed_read c part used (Some m) r f) ye

-- a client that a byte ended isn't done
pub all_stopped : (max : ℕ) (given : List (ℕ × Message)) (y : List ℕ) (n : ℕ) (e : ClientEnd) (T : List Gave) (more : List ℕ) → Decides max given y n e → IsAll e T more
all_stopped max given y n (end.BadVersion at) T more d = tt
all_stopped max given y n (end.BadChunk cause at) T more d = tt
all_stopped max given y n (end.BadControl at) T more d = tt
all_stopped max given y n (end.BadCommand at) T more d = tt
all_stopped max given y n (end.Refused code description) T more d = tt
all_stopped max given y n end.OutOfMemory T more d = tt
all_stopped max given y n end.PeerClosed T more d = tt
all_stopped max given y n end.LinkFault T more d = tt
all_stopped max given y n end.Done T more d = absurd d

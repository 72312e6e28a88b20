-- What was fed, and why a session ends at a byte
use Rattle.std.proofs.Common.{◌≡◌, ◌≢◌, ◌≤◌, ◌<◌, ◌+◌, ◌-◌, ◌^◌, ◌⊎◌, inl, inr, ℕ, suc, List, [], ◌∷◌, ◌++◌, length, take, drop, min, refl, sym, ap, ◌∙◌, subst, arith, append-nil, append_assoc, length-append, Option, Some, None, Result, Ok, Err}
use Rattle.std.proofs.lemmas.List.{take-append-drop, take-append-le, drop-append-le, length-drop, length-take, length-take-le}
use Rattle.std.specs.Prelude.{true}
use Rattle.chunk_wire.specs.State as wire
use Rattle.chunk_wire.specs.declared.message.Message.{Message}
use Rattle.chunk_reader.specs.declared.fail.ReadFail.{ReadFail}
use Rattle.chunk_reader.specs.declared.fail.ReadCause.{ReadCause}
use Rattle.chunk_reader.specs.declared.fail.ReadCause.TheVariants as cause
use Rattle.chunk_reader.specs.ReaderKnown.{ReaderKnown}
use Rattle.chunk_reader.specs.Feeds.{IsFedTo}
use Rattle.chunk_reader.specs.Feeds as reader
use Rattle.chunk_reader.specs.Reads.{Reads}
use Rattle.chunk_reader.specs.Sound.{IsRead}
use Rattle.chunk_reader.specs.Stops.{Stops}
use Rattle.chunk_reader.proofs.Before.{before_last}
use Rattle.chunk_reader.proofs.Settled.{stays_refused}
use Rattle.rtmp_handshake.specs.Answer.{bad_version}
use Rattle.rtmp_handshake.specs.Handshake.{Handshake}
use Rattle.ack_window.specs.Controls.{control_in}
use Rattle.ack_window.specs.declared.control.Control.{Control}
use Rattle.ack_window.specs.declared.control.Control.TheVariants.{ChunkSize, Abort, Acknowledgement, User, Window, Bandwidth}
use Rattle.ack_window.specs.declared.control.BadControl.{BadControl}
use Rattle.ack_window.specs.Inbound.{InWindow, room_of}
use Rattle.ack_window.specs.Outbound.{OutWindow}
use Rattle.command_dialog.specs.declared.types.Ask.{Ask}
use Rattle.command_dialog.specs.declared.types.Grant.{Grant}
use Rattle.command_dialog.specs.declared.types.Meant.{Meant}
use Rattle.command_dialog.specs.declared.types.DialogFail.{DialogFail}
use Rattle.command_dialog.specs.declared.types.DialogFail.TheVariants as fail
use Rattle.command_dialog.specs.Meaning.{meaning}
use Rattle.command_dialog.specs.State.{State}
use Rattle.stream_model.specs.declared.calls.Entry.{Entry}
use Rattle.session_owed.specs.Talk.{hand_bytes}
use Rattle.session_owed.specs.Standing.{took}
use Rattle.session_owed.proofs.Standing.{stands_fed}
use Rattle.relay_session.specs.Feeding.{Decides, Hears, IsFed, IsRefused, IsStopped, heard_of, read_end}
use Rattle.relay_session.specs.Keeping.{IsIdle, IsOver, IsSound, StandsBefore, keeps_of, past_of}
use Rattle.relay_session.specs.Owing.{Owing, Says, pending}
use Rattle.relay_session.specs.Session.{does, ended_by, entry_by, outbound_by, outbound_in, place_by, refused, refused_by, session}
use Rattle.relay_session.specs.Turns.{StandsOnBefore}
use Rattle.relay_session.specs.declared.core_fields.Core.{Core}
use Rattle.relay_session.specs.declared.end.End.{End}
use Rattle.relay_session.specs.declared.end.End.TheVariants as end
use Rattle.relay_session.proofs.Living.{says_others, version_kept}
use Rattle.relay_session.proofs.Placing.{idle_after}

take_past : (x p : List ℕ) (k : ℕ) → take (length x + k) (x ++ p) ≡ x ++ take k p
take_past [] p k = ap (λ (n : ℕ). take n p) (omega arith)
take_past (b ∷ x) p k = let e : length (b ∷ x) + k ≡ suc (length x + k) = omega arith in rw e (ap (λ (l : List ℕ). b ∷ l) (take_past x p k))

-- ---- the handshake

pub fed_hand : (c : Core) (piece more x : List ℕ) (o : Owing) (used : ℕ) (k : Handshake) → pending o ≡ pending c.outgoing ++ more → o.others ≡ c.outgoing.others + length more → x ≡ c.x ++ take used piece
    → IsFed c piece (record c { hand = k; outgoing = o; fed = c.fed + used; x = x }) (drop used piece)
fed_hand c piece more x o used k be oe xe = record {
  fed = take used piece;
  split = take-append-drop used piece;
  x = xe;
  fixed = refl;
  others = omega (arith, oe, ap length be, length-append (pending c.outgoing) more);
}

pub read_here : (c : Core) → IsSound c → IsRead c.reader.max (drop hand_bytes c.x) c.reader.given
read_here c l = subst (λ (b : List ℕ). IsRead c.reader.max b c.reader.given) l.fed l.read

-- a step that left a sound session
pub stands_on : (desk : Ask → Grant) (old new : Core) → IsSound new → (StandsBefore desk old → StandsBefore desk new) → StandsOnBefore desk old new
stands_on desk old new l s = record { stands = s; read = read_here new l; version = l.version; counted = l.counted }

pub stop_memory : (c : Core) (piece : List ℕ) (k : Handshake) (o : Owing) → IsSound c → IsStopped c piece end.OutOfMemory (record c { hand = k; outgoing = o })
stop_memory c piece k o l = record { fed = []; left = piece; split = refl; x = sym (append-nil c.x); version = l.version; counted = l.counted; fixed = refl; kept = refl; place = refl; read = read_here c l; state = λ ne. refl; cause = tt }

pub over_here : (desk : Ask → Grant) (e : End) (c : Core) (k : Handshake) (o : Owing) → IsSound c → StandsBefore desk c → IsOver desk e (record c { hand = k; outgoing = o })
over_here desk e c k o l st = record { ms = c.reader.given; read = read_here c l; more = pending c.outgoing; owes = st.owes; talks = st.talks; state = λ ne. st.state }

-- ---- chunks that are read

outbound_kept_in : (o : OutWindow) (c : Result (Option Control) BadControl) → (outbound_in o c).sent ≡ o.sent
outbound_kept_in o (Ok (Some (Acknowledgement count))) = refl
outbound_kept_in o (Ok (Some (Bandwidth size limit))) = refl
outbound_kept_in o (Ok (Some (ChunkSize size))) = refl
outbound_kept_in o (Ok (Some (Abort id))) = refl
outbound_kept_in o (Ok (Some (User event value))) = refl
outbound_kept_in o (Ok (Some (Window size))) = refl
outbound_kept_in o (Ok None) = refl
outbound_kept_in o (Err e) = refl

pub outbound_kept : (o : OutWindow) (m : Message) → (outbound_by o m).sent ≡ o.sent
unfolding outbound_by
outbound_kept o m = outbound_kept_in o (control_in m)

-- the first bytes of a piece that are at most so many
pub part_used : (piece part : List ℕ) (count used : ℕ) → part ≡ take count piece → used ≤ length part → (take used part ≡ take used piece) × (used ≤ length piece)
part_used piece part count used e le =
    let cut : piece ≡ take count piece ++ drop count piece = sym (take-append-drop count piece) in
    let all : part ++ drop count piece ≡ piece = ap (λ (l : List ℕ). l ++ drop count piece) e ∙ sym cut in
    (sym (take-append-le used part (drop count piece) le) ∙ ap (take used) all, omega (arith, le, ap length all, length-append part (drop count piece)))

fixed_read : (c : Core) (part : List ℕ) (used : ℕ) (m : Option Message) (r : ReaderKnown) → IsFedTo c.reader part used m r → r.max ≡ c.reader.max
fixed_read c part used m r f = ap (λ (k : ReaderKnown). k.max) f.now

pub fed_chunk : (c : Core) (piece part x : List ℕ) (count used : ℕ) (m : Option Message) (r : ReaderKnown) (i : InWindow) (b : OutWindow) (s : State) (o : Owing) (kept : Option Entry) (place : Option ℕ)
    → part ≡ take count piece → IsFedTo c.reader part used m r → length (pending c.outgoing) + o.others ≡ c.outgoing.others + length (pending o) → x ≡ c.x ++ take used part
    → IsFed c piece (record c { reader = r; inbound = i; outbound = b; dialog = s; outgoing = o; kept = kept; place = place; fed = c.fed + used; x = x }) (drop used piece)
fed_chunk c piece part x count used m r i b s o kept place pe f oe xe =
    let p = part_used piece part count used pe f.within in
    record {
      fed = take used piece;
      split = take-append-drop used piece;
      x = xe ∙ ap (λ (l : List ℕ). c.x ++ l) p.0;
      fixed = ap (λ (n : ℕ). record { who = c.who; window = c.window; max = n; calls = c.calls; sent = c.sent }) (fixed_read c part used m r f);
      others = oe;
    }

pub others_both : (a o p : Owing) (k l : List Message) → Says a k o → Says o l p → length (pending a) + p.others ≡ a.others + length (pending p)
others_both a o p k l s t = omega (arith, says_others a o k s, says_others o p l t)

pub loud_heard : (desk : Ask → Grant) (c : Core) (part x : List ℕ) (used last : ℕ) (m : Message) (r : ReaderKnown) (i : InWindow) (b : OutWindow) (s : State) (o : Owing) (kept : Option Entry) (place : Option ℕ) → IsSound c → hand_bytes ≤ length c.x
    → IsFedTo c.reader part used (Some m) r → s ≡ (does desk c.dialog m).state → kept ≡ entry_by c.who (c.fed + used) (does desk c.dialog m).makes → b ≡ outbound_by c.outbound m → place ≡ place_by desk c.dialog c.place m
    → x ≡ c.x ++ take used part → last ≡ c.fed + used - 1 → refused last c.dialog m ≡ None
    → Hears desk c (record c { reader = r; inbound = i; outbound = b; dialog = s; outgoing = o; kept = kept; place = place; fed = c.fed + used; x = x }) true
loud_heard desk c part x used last m r i b s o kept place l h f se ke be pe xe le re =
    let q = take used part in
    let lq : length q ≡ used = length-take-le used part f.within in
    let lx : length x ≡ length c.x + used = omega (arith, ap length xe, length-append c.x q, lq) in
    let g : length c.reader.fed ≡ length c.x - hand_bytes = ap length l.fed ∙ length-drop hand_bytes c.x in
    let n : length (c.reader.fed ++ q) ≡ length x - hand_bytes = omega (arith, length-append c.reader.fed q, lq, g, h, lx) in
    let given : r.given ≡ c.reader.given ++ (length x - hand_bytes, m) ∷ [] = ap (λ (y : ReaderKnown). y.given) f.now ∙ ap (λ (k : ℕ). c.reader.given ++ (k, m) ∷ []) n in
    let at : c.fed + used ≡ length x = omega (arith, l.counted, lx) in
    let kk : kept ≡ entry_by c.who (length x) (does desk c.dialog m).makes = ke ∙ ap (λ (k : ℕ). entry_by c.who k (does desk c.dialog m).makes) at in
    let ll : last ≡ length x - 1 = omega (arith, le, at) in
    (m, rw (given, se, kk, be, pe) refl, ap (λ (k : ℕ). refused k c.dialog m) (sym ll) ∙ re)

-- ---- chunks that end it

-- the dialogue stays, unless memory was wanting
unless : (e : End) (s t : State) → (e ≡ end.OutOfMemory) ⊎ (s ≡ t) → e ≢ end.OutOfMemory → s ≡ t
unless e s t (inl o) ne = absurd (ne o)
unless e s t (inr same) ne = same

-- what was sent begins what is owed, also for bytes more that end no message
pub over_fed : (desk : Ask → Grant) (e : End) (c : Core) (q x : List ℕ) (r : ReaderKnown) (i : InWindow) (b : OutWindow) (s : State) (o : Owing) (n : ℕ) → hand_bytes ≤ length c.x → c.kept ≡ None → length q ≤ room_of c.inbound
    → IsRead c.reader.max (drop hand_bytes (c.x ++ q)) c.reader.given → r.max ≡ c.reader.max → x ≡ c.x ++ q
    → (e ≢ end.OutOfMemory → s ≡ c.dialog) → StandsBefore desk c → IsOver desk e (record c { reader = r; inbound = i; outbound = b; dialog = s; outgoing = o; fed = n; x = x })
over_fed desk e c q x r i b s o n h k room read max xe same st =
    let z = stands_fed (session c.who c.window desk) (past_of c) (keeps_of c) q h k room st in
    rw (xe, max) (record { ms = c.reader.given; read = read; more = (took (keeps_of c) (length q)).pending; owes = z.owes; talks = z.talks; state = λ ne. same ne ∙ st.state })

dropped : (c : Core) (q : List ℕ) → IsSound c → hand_bytes ≤ length c.x → drop hand_bytes (c.x ++ q) ≡ c.reader.fed ++ q
dropped c q l h = drop-append-le hand_bytes c.x q h ∙ ap (λ (b : List ℕ). b ++ q) (sym l.fed)

pub read_some : (c : Core) (part : List ℕ) (e : ReadFail) (r : ReaderKnown) → IsSound c → hand_bytes ≤ length c.x → (f : reader.IsRefused c.reader part e r) → IsRead c.reader.max (drop hand_bytes (c.x ++ take f.after part)) c.reader.given
read_some c part e r l h f =
    let g : IsRead c.reader.max (c.reader.fed ++ take f.after part) c.reader.given = subst (λ (k : ReaderKnown). IsRead k.max k.fed k.given) f.now f.read in
    subst (λ (b : List ℕ). IsRead c.reader.max b c.reader.given) (sym (dropped c (take f.after part) l h)) g

pub read_last : (c : Core) (part : List ℕ) (used : ℕ) (m : Message) (r : ReaderKnown) → IsSound c → hand_bytes ≤ length c.x → IsFedTo c.reader part used (Some m) r
    → IsRead c.reader.max (drop hand_bytes (c.x ++ take (used - 1) part)) c.reader.given
read_last c part used m r l h f =
    let q = take used part in
    let some : 0 < used = f.some refl in
    let lq : length q ≡ used = length-take-le used part f.within in
    let g : IsRead c.reader.max (c.reader.fed ++ q) (c.reader.given ++ (length (c.reader.fed ++ q), m) ∷ []) = subst (λ (k : ReaderKnown). IsRead k.max k.fed k.given) f.now f.read in
    let b : IsRead c.reader.max (take (length (c.reader.fed ++ q) - 1) (c.reader.fed ++ q)) c.reader.given =
    before_last c.reader.max c.reader.fed q c.reader.given m l.read.s g.s l.read.r g.r (omega (arith, lq, some)) l.read.reads g.reads in
    let n : length (c.reader.fed ++ q) - 1 ≡ length c.reader.fed + (used - 1) = omega (arith, length-append c.reader.fed q, lq, some) in
    let t : take (used - 1) q ≡ take (used - 1) part = sym (ap (take (used - 1)) refl) ∙ sym (take-append-le (used - 1) q (drop used part) (omega (arith, lq))) ∙ ap (take (used - 1)) (take-append-drop used part) in
    let cut : take (length (c.reader.fed ++ q) - 1) (c.reader.fed ++ q) ≡ c.reader.fed ++ take (used - 1) part =
    ap (λ (k : ℕ). take k (c.reader.fed ++ q)) n ∙ take_past c.reader.fed q (used - 1) ∙ ap (λ (k : List ℕ). c.reader.fed ++ k) t in
    subst (λ (k : List ℕ). IsRead c.reader.max k c.reader.given) (cut ∙ sym (dropped c (take (used - 1) part) l h)) b

-- where the reader refuses a byte
pub refused_place : (c : Core) (part : List ℕ) (e : ReadFail) (r : ReaderKnown) (at before : ℕ) → IsSound c → hand_bytes ≤ length c.x → (f : reader.IsRefused c.reader part e r) → at ≡ min (e.at + 3073) (2 ^ 64 - 1) → before ≡ at - c.fed
    → (before ≡ f.after) × (at ≡ length c.x + f.after)
refused_place c part e r at before l h f ae be =
    let q = take f.after part in
    let lq : length q ≡ f.after = length-take-le f.after part (omega (arith, f.within)) in
    let rf : r.fed ≡ c.reader.fed ++ q = ap (λ (k : ReaderKnown). k.fed) f.now in
    let near : length r.fed ≤ 2 ^ 62 = f.read.reads.near in
    let g : length c.reader.fed ≡ length c.x - hand_bytes = ap length l.fed ∙ length-drop hand_bytes c.x in
    let n : length r.fed ≡ length c.reader.fed + f.after = omega (arith, ap length rf, length-append c.reader.fed q, lq) in
    let a : at ≡ length c.x + f.after = omega (arith, ae, f.at, near, n, g, h) in
    (omega (arith, be, a, l.counted), a)

decides_read : (c : Core) (y : List ℕ) (n at : ℕ) (w : ReadCause) → at ≡ n → hand_bytes ≤ n → (w ≡ cause.OutOfMemory) ⊎ Stops c.reader.max (drop hand_bytes y) w (n - hand_bytes) → Decides c.reader.max (heard_of c) y n (read_end w at)
decides_read c y n at cause.OutOfMemory e h s = tt
decides_read c y n at (cause.NoHead id) e h (inr s) = (e, h, s)
decides_read c y n at (cause.NoHead id) e h (inl o) = absurd (cc)
decides_read c y n at cause.TooManyIds e h (inr s) = (e, h, s)
decides_read c y n at cause.TooManyIds e h (inl o) = absurd (cc)
decides_read c y n at (cause.TooLong found) e h (inr s) = (e, h, s)
decides_read c y n at (cause.TooLong found) e h (inl o) = absurd (cc)
decides_read c y n at cause.TooMuch e h (inr s) = (e, h, s)
decides_read c y n at cause.TooMuch e h (inl o) = absurd (cc)
decides_read c y n at (cause.BadChunkSize value) e h (inr s) = (e, h, s)
decides_read c y n at (cause.BadChunkSize value) e h (inl o) = absurd (cc)
decides_read c y n at cause.TooFar e h (inr s) = (e, h, s)
decides_read c y n at cause.TooFar e h (inl o) = absurd (cc)

stops_by : (max : ℕ) (b d : List ℕ) (w : ReadCause) (p q : ℕ) → b ≡ d → p ≡ q → (w ≡ cause.OutOfMemory) ⊎ Stops max b w p → (w ≡ cause.OutOfMemory) ⊎ Stops max d w q
stops_by max b d w p q be pe s = rw (← be, ← pe) s

stops_more : (max : ℕ) (b more : List ℕ) (w : ReadCause) (p : ℕ) → (w ≡ cause.OutOfMemory) ⊎ Stops max b w p → (w ≡ cause.OutOfMemory) ⊎ Stops max (b ++ more) w p
stops_more max b more w p (inl e) = inl e
stops_more max b more w p (inr s) = inr (stays_refused max b more w p s)

pub stop_reader : (c : Core) (piece part x : List ℕ) (count at before : ℕ) (e : ReadFail) (r : ReaderKnown) → IsSound c → hand_bytes ≤ length c.x → reader.IsRefused c.reader part e r → part ≡ take count piece
    → at ≡ min (e.at + 3073) (2 ^ 64 - 1) → before ≡ at - c.fed → x ≡ c.x ++ take before part
    → IsStopped c piece (read_end e.cause at) (record c { reader = r; fed = at; x = x })
stop_reader c piece part x count at before e r l h f pe ae be xe =
    let p = refused_place c part e r at before l h f ae be in
    let u = part_used piece part count before pe (omega (arith, f.within, p.0)) in
    let lb : length (take before part) ≡ before = length-take-le before part (omega (arith, f.within, p.0)) in
    let lx : length x ≡ at = omega (arith, ap length xe, length-append c.x (take before part), lb, p) in
    let rest = drop count piece in
    let whole : (c.reader.fed ++ part) ++ rest ≡ drop hand_bytes (c.x ++ piece) =
    append_assoc c.reader.fed part rest ∙ ap (λ (b : List ℕ). c.reader.fed ++ (b ++ rest)) pe ∙ ap (λ (b : List ℕ). c.reader.fed ++ b) (take-append-drop count piece) ∙ sym (dropped c piece l h) in
    let g : length c.reader.fed ≡ length c.x - hand_bytes = ap length l.fed ∙ length-drop hand_bytes c.x in
    let lq : length (take f.after part) ≡ f.after = length-take-le f.after part (omega (arith, f.within)) in
    let place : e.at ≡ length x - hand_bytes = omega (arith, f.at, ap length (ap (λ (k : ReaderKnown). k.fed) f.now), length-append c.reader.fed (take f.after part), lq, g, h, lx, p) in
    record {
      fed = take before piece;
      left = drop before piece;
      split = take-append-drop before piece;
      x = xe ∙ ap (λ (b : List ℕ). c.x ++ b) u.0;
      version = subst (λ (b : List ℕ). bad_version b ≡ None) (sym xe) (version_kept c.x (take before part) l.version (omega (arith, h)));
      counted = sym lx;
      fixed = ap (λ (n : ℕ). record { who = c.who; window = c.window; max = n; calls = c.calls; sent = c.sent }) (ap (λ (k : ReaderKnown). k.max) f.now);
      kept = refl;
      place = refl;
      read = subst (λ (v : List ℕ). IsRead c.reader.max (drop hand_bytes v) c.reader.given) (sym (xe ∙ ap (λ (k : ℕ). c.x ++ take k part) p.0)) (read_some c part e r l h f);
      state = λ ne. refl;
      cause = decides_read c (c.x ++ piece) (length x) at e.cause (sym lx) (omega (arith, lx, p, h))
          (stops_by c.reader.max ((c.reader.fed ++ part) ++ rest) (drop hand_bytes (c.x ++ piece)) e.cause e.at (length x - hand_bytes) whole place (stops_more c.reader.max (c.reader.fed ++ part) rest e.cause e.at f.cause));
    }

-- where there was no memory for an acknowledgement
pub stop_acknowledge : (c : Core) (piece part : List ℕ) (used : ℕ) (m : Option Message) (r : ReaderKnown) (i : InWindow) (o : Owing) → IsSound c → IsFedTo c.reader part used m r → IsStopped c piece end.OutOfMemory (record c { reader = r; inbound = i; outgoing = o })
stop_acknowledge c piece part used m r i o l f = record {
  fed = [];
  left = piece;
  split = refl;
  x = sym (append-nil c.x);
  version = l.version;
  counted = l.counted;
  fixed = ap (λ (n : ℕ). record { who = c.who; window = c.window; max = n; calls = c.calls; sent = c.sent }) (fixed_read c part used m r f);
  kept = refl;
  place = refl;
  read = read_here c l;
  state = λ ne. refl;
  cause = tt;
}

-- why a message ends it, and where
abbrev IsAt : ℕ → End → Type 0
IsAt last (end.BadControl at) = at ≡ last
IsAt last (end.BadCommand at) = at ≡ last
IsAt last (end.TooManyStreams at) = at ≡ last
IsAt last end.OutOfMemory = Unit {0}
IsAt last (end.BadVersion at) = ⊥
IsAt last (end.BadChunk w at) = ⊥
IsAt last end.PeerClosed = ⊥
IsAt last end.LinkFault = ⊥
IsAt last end.Quit = ⊥
IsAt last end.Worn = ⊥

some_same : {X : Type 0} (x y : X) → Some x ≡ Some y → x ≡ y
some_same x y e = cc

command_at : (last : ℕ) (w : Result Meant DialogFail) (e : End) → ended_by last w ≡ Some e → IsAt last e
command_at last (Ok meant) e is = absurd (let h : None ≡ Some e = is in cc)
command_at last (Err (fail.BadCommand place)) e is = subst (IsAt last) (some_same (end.BadCommand last) e is) refl
command_at last (Err fail.TooManyStreams) e is = subst (IsAt last) (some_same (end.TooManyStreams last) e is) refl
command_at last (Err fail.OutOfMemory) e is = subst (IsAt last) (some_same end.OutOfMemory e is) tt

message_at : (last : ℕ) (s : State) (m : Message) (w : Result (Option Control) BadControl) (e : End) → refused_by last s m w ≡ Some e → IsAt last e
message_at last s m (Ok None) e is = command_at last (meaning s m) e is
message_at last s m (Ok (Some control)) e is = absurd (let h : None ≡ Some e = is in cc)
message_at last s m (Err b) e is = subst (IsAt last) (some_same (end.BadControl last) e is) refl

refused_at : (last : ℕ) (s : State) (m : Message) (e : End) → refused last s m ≡ Some e → IsAt last e
unfolding refused
refused_at last s m e is = message_at last s m (control_in m) e is

decides_message : (c : Core) (y : List ℕ) (n : ℕ) (e : End) → (e ≡ end.OutOfMemory) ⊎ (IsAt n e × IsRefused c.reader.max (heard_of c) (take (n + 1) y) e) → Decides c.reader.max (heard_of c) y n e
decides_message c y n e (inl o) = rw o tt
decides_message c y n (end.BadControl at) (inr i) = i
decides_message c y n (end.BadCommand at) (inr i) = i
decides_message c y n (end.TooManyStreams at) (inr i) = i
decides_message c y n end.OutOfMemory (inr i) = tt
decides_message c y n (end.BadVersion at) (inr i) = absurd i.0
decides_message c y n (end.BadChunk w at) (inr i) = absurd i.0
decides_message c y n end.PeerClosed (inr i) = absurd i.0
decides_message c y n end.LinkFault (inr i) = absurd i.0
decides_message c y n end.Quit (inr i) = absurd i.0
decides_message c y n end.Worn (inr i) = absurd i.0

refused_by_end : (c : Core) (y : List ℕ) (n last : ℕ) (m : Message) (s : wire.State) (r : List ℕ) (e : End) → Reads c.reader.max (drop hand_bytes (take (n + 1) y)) (c.reader.given ++ (length (drop hand_bytes (take (n + 1) y)), m) ∷ []) s r
    → length (take (n + 1) y) ≡ n + 1 → last ≡ n → (e ≡ end.OutOfMemory) ⊎ (refused last c.dialog m ≡ Some e) → (e ≡ end.OutOfMemory) ⊎ (IsAt n e × IsRefused c.reader.max (heard_of c) (take (n + 1) y) e)
refused_by_end c y n last m s r e reads len le (inl o) = inl o
refused_by_end c y n last m s r e reads len le (inr i) =
    let j : refused n c.dialog m ≡ Some e = ap (λ (k : ℕ). refused k c.dialog m) (sym le) ∙ i in
    let k : length (take (n + 1) y) - 1 ≡ n = omega (arith, len) in
    inr (refused_at n c.dialog m e j, record { m = m; s = s; r = r; reads = reads; why = ap (λ (v : ℕ). refused v c.dialog m) k ∙ j })

pub stop_message : (c : Core) (piece part x : List ℕ) (count used n last : ℕ) (m : Message) (r : ReaderKnown) (i : InWindow) (b : OutWindow) (s : State) (o : Owing) (e : End) → IsSound c → hand_bytes ≤ length c.x → IsFedTo c.reader part used (Some m) r
    → part ≡ take count piece → n ≡ c.fed + used - 1 → last ≡ n → x ≡ c.x ++ take (used - 1) part → (e ≡ end.OutOfMemory) ⊎ (refused last c.dialog m ≡ Some e) → (e ≡ end.OutOfMemory) ⊎ (s ≡ c.dialog)
    → IsStopped c piece e (record c { reader = r; inbound = i; outbound = b; dialog = s; outgoing = o; fed = n; x = x })
stop_message c piece part x count used n last m r i b s o e l h f pe ne le xe ee se =
    let some : 0 < used = f.some refl in
    let q = take used part in
    let lq : length q ≡ used = length-take-le used part f.within in
    let u = part_used piece part count (used - 1) pe (omega (arith, f.within)) in
    let v = part_used piece part count used pe f.within in
    let lb : length (take (used - 1) part) ≡ used - 1 = length-take-le (used - 1) part (omega (arith, f.within)) in
    let lx : length x ≡ n = omega (arith, ap length xe, length-append c.x (take (used - 1) part), lb, ne, l.counted, some) in
    let y = c.x ++ piece in
    let up : length x + 1 ≡ length c.x + used = omega (arith, lx, ne, l.counted, some) in
    let front : take (length x + 1) y ≡ c.x ++ q = ap (λ (k : ℕ). take k y) up ∙ take_past c.x piece used ∙ ap (λ (k : List ℕ). c.x ++ k) (sym v.0) in
    let lf : length (take (length x + 1) y) ≡ length x + 1 = omega (arith, ap length front, length-append c.x q, lq, up) in
    let g : IsRead c.reader.max (c.reader.fed ++ q) (c.reader.given ++ (length (c.reader.fed ++ q), m) ∷ []) = subst (λ (k : ReaderKnown). IsRead k.max k.fed k.given) f.now f.read in
    let all : c.reader.fed ++ q ≡ drop hand_bytes (take (length x + 1) y) = sym (dropped c q l h) ∙ ap (drop hand_bytes) (sym front) in
    let reads : Reads c.reader.max (drop hand_bytes (take (length x + 1) y)) (c.reader.given ++ (length (drop hand_bytes (take (length x + 1) y)), m) ∷ []) g.s g.r =
    subst (λ (k : List ℕ). Reads c.reader.max k (c.reader.given ++ (length k, m) ∷ []) g.s g.r) all g.reads in
    record {
      fed = take (used - 1) piece;
      left = drop (used - 1) piece;
      split = take-append-drop (used - 1) piece;
      x = xe ∙ ap (λ (k : List ℕ). c.x ++ k) u.0;
      version = subst (λ (b : List ℕ). bad_version b ≡ None) (sym xe) (version_kept c.x (take (used - 1) part) l.version (omega (arith, h)));
      counted = sym lx;
      fixed = ap (λ (k : ℕ). record { who = c.who; window = c.window; max = k; calls = c.calls; sent = c.sent }) (fixed_read c part used (Some m) r f);
      kept = refl;
      place = refl;
      read = subst (λ (v : List ℕ). IsRead c.reader.max (drop hand_bytes v) c.reader.given) (sym xe) (read_last c part used m r l h f);
      state = unless e s c.dialog se;
      cause = decides_message c y (length x) e (refused_by_end c y (length x) last m g.s g.r e reads lf (omega (arith, le, lx)) ee);
    }

-- ---- a piece is at most the room to the next acknowledgement

pub part_room : (piece part : List ℕ) (count room : ℕ) → part ≡ take count piece → count ≤ room → length part ≤ room
part_room piece part count room e le = omega (arith, le, ap length e, length-take count piece)

part_less : (part : List ℕ) (n room : ℕ) → n ≤ length part → length part ≤ room → length (take n part) ≤ room
part_less part n room le lt = omega (arith, le, lt, length-take-le n part le)

pub over_reader : (desk : Ask → Grant) (w : End) (c : Core) (piece part x : List ℕ) (count at before : ℕ) (e : ReadFail) (r : ReaderKnown) → IsSound c → hand_bytes ≤ length c.x → c.kept ≡ None → reader.IsRefused c.reader part e r
    → part ≡ take count piece → count ≤ room_of c.inbound → at ≡ min (e.at + 3073) (2 ^ 64 - 1) → before ≡ at - c.fed → x ≡ c.x ++ take before part
    → StandsBefore desk c → IsOver desk w (record c { reader = r; fed = at; x = x })
over_reader desk w c piece part x count at before e r l h k f pe le ae be xe st =
    let p = refused_place c part e r at before l h f ae be in
    let read : IsRead c.reader.max (drop hand_bytes (c.x ++ take before part)) c.reader.given =
    subst (λ (n : ℕ). IsRead c.reader.max (drop hand_bytes (c.x ++ take n part)) c.reader.given) (sym p.0) (read_some c part e r l h f) in
    over_fed desk w c (take before part) x r c.inbound c.outbound c.dialog c.outgoing at h k (part_less part before (room_of c.inbound) (omega (arith, f.within, p.0)) (part_room piece part count (room_of c.inbound) pe le))
    read (ap (λ (v : ReaderKnown). v.max) f.now) xe (λ ne. refl) st

pub over_message : (desk : Ask → Grant) (w : End) (c : Core) (piece part x : List ℕ) (count used n : ℕ) (m : Message) (r : ReaderKnown) (i : InWindow) (b : OutWindow) (s : State) (o : Owing) → IsSound c → hand_bytes ≤ length c.x → c.kept ≡ None
    → IsFedTo c.reader part used (Some m) r → part ≡ take count piece → count ≤ room_of c.inbound → x ≡ c.x ++ take (used - 1) part → (w ≡ end.OutOfMemory) ⊎ (s ≡ c.dialog)
    → StandsBefore desk c → IsOver desk w (record c { reader = r; inbound = i; outbound = b; dialog = s; outgoing = o; fed = n; x = x })
over_message desk w c piece part x count used n m r i b s o l h k f pe le xe se st =
    over_fed desk w c (take (used - 1) part) x r i b s o n h k (part_less part (used - 1) (room_of c.inbound) (omega (arith, f.within)) (part_room piece part count (room_of c.inbound) pe le))
    (read_last c part used m r l h f) (fixed_read c part used (Some m) r f) xe (unless w s c.dialog se) st

-- ---- before it has a place

pub loud_idle : (desk : Ask → Grant) (s t : State) (m : Message) (place put : Option ℕ) (before kept : Option Entry) (who n : ℕ) → (place ≡ None → IsIdle before s) → put ≡ place_by desk s place m
    → kept ≡ entry_by who n (does desk s m).makes → t ≡ (does desk s m).state → put ≡ None → IsIdle kept t
loud_idle desk s t m place put before kept who n f pe ke te e = rw (ke, te) (idle_after desk s m place who n (λ p. (f p).phase) (sym pe ∙ e))

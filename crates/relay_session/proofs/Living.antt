-- A session stands on after each of its steps
use Rattle.std.proofs.Common.{◌≡◌, ◌≤◌, ◌<◌, ◌+◌, ◌-◌, ◌^◌, ℕ, zero, suc, true, false, if◌then◌else◌, Bool, nat_le, List, [], ◌∷◌, ◌++◌, length, take, drop, min, refl, sym, ap, ◌∙◌, subst, arith, append-nil, append_assoc, length-append, false, option_map, Option, Some, None, Result, Ok, Err, OnErr}
use Rattle.std.proofs.lemmas.List.{take-append-drop, take_all, take_min, drop_all, take-append-le, drop-append-le, length-drop, length-take-le}
use Rattle.std.proofs.lemmas.Bool.Decides.{nat_tests}
use Rattle.std.specs.Option.{is_some, option_map_or}
use Rattle.chunk_wire.specs.declared.message.Message.{Message}
use Rattle.chunk_reader.specs.ReaderKnown.{ReaderKnown}
use Rattle.chunk_reader.specs.Feeds.{IsFedTo}
use Rattle.chunk_reader.specs.Sound.{IsRead}
use Rattle.chunk_writer.specs.WriterKnown.{WriterKnown}
use Rattle.chunk_writer.specs.WriterKnown as writer
use Rattle.chunk_writer.specs.Written.{written, after_all}
use Rattle.rtmp_handshake.specs.Answer.{answered, bad_version}
use Rattle.rtmp_handshake.specs.Feeds.{used_of, read_of}
use Rattle.rtmp_handshake.specs.Handshake.{Handshake}
use Rattle.ack_window.specs.Inbound.{InWindow, ack_of, in_took, new_in, room_of}
use Rattle.ack_window.specs.Outbound.{OutWindow, out_sent}
use Rattle.command_dialog.specs.declared.types.Ask.{Ask}
use Rattle.command_dialog.specs.declared.types.Grant.{Grant}
use Rattle.command_dialog.specs.State.{State, fresh, playing_in}
use Rattle.command_dialog.specs.declared.types.Phase.{Phase}
use Rattle.command_dialog.specs.declared.types.Phase.TheVariants as phase
use Rattle.command_dialog.specs.declared.types.Playing.{Playing}
use Rattle.session_owed.specs.Acks.{ack_messages, inbound, window_after, window_by}
use Rattle.session_owed.specs.Talk.{Own, hand_bytes, is_take, item_of, shown}
use Rattle.session_owed.specs.Dialogue.{Dialogue}
use Rattle.session_owed.specs.Owed.{count_of}
use Rattle.session_owed.specs.Talks.{Asks, NeverTakes, Talks, kept_by}
use Rattle.session_owed.specs.Standing.{Past, Stands, fed_more, new_past, says_more, sent_more, stepped, took, with_call, with_message}
use Rattle.session_owed.proofs.Standing.{stands_fed, stands_hand, stands_message, stands_new, stands_reply, stands_sent, stands_take}
use Rattle.ack_window.specs.Controls.{control_in}
use Rattle.ack_window.specs.declared.control.Control.{Control}
use Rattle.ack_window.specs.declared.control.BadControl.{BadControl}
use Rattle.stream_model.specs.declared.calls.Call.{Call}
use Rattle.stream_model.specs.declared.calls.Call.TheVariants as call
use Rattle.stream_model.specs.declared.calls.Entry.{Entry}
use Rattle.stream_model.specs.declared.replies.Reply.{Reply}
use Rattle.stream_model.specs.declared.replies.Reply.TheVariants as reply
use Rattle.command_dialog.specs.declared.types.Act.{Act}
use Rattle.command_dialog.specs.declared.types.Act.TheVariants as act
use Rattle.command_dialog.specs.Dialog.{call_of, shows}
use Rattle.command_dialog.specs.Dialog as dialog
use Rattle.relay_session.proofs.Room.{room_early, room_let}
use Rattle.relay_session.proofs.Weights.{weight_hand}
use Rattle.relay_session.specs.Bounds.{Acts, HasRoom, weight}
use Rattle.relay_session.specs.Feeding.{IsSent}
use Rattle.relay_session.specs.Keeping.{IsIdle, IsOver, IsSound, StandsBefore, keeps_of, past_of}
use Rattle.relay_session.specs.Owing.{Owing, Says, Takes, nothing, pending}
use Rattle.relay_session.specs.Session.{does, does_by, entry_by, item_in, session, told}
use Rattle.relay_session.specs.declared.core_fields.Core.{Core}
use Rattle.relay_session.specs.declared.end.End.TheVariants as end

either_takes : (b : Bool) (x y : Call) → is_take x ≡ false → is_take y ≡ false → is_take (if b then x else y) ≡ false
either_takes true x y e f = e
either_takes false x y e f = f

-- a message asks for no item
act_takes : (a : Act) → is_take (call_of a) ≡ false
act_takes (act.Begin place name) = either_takes (nat_le (length name) 64) (call.BeginAs name) call.Begin refl refl
act_takes (act.Join place name) = either_takes (nat_le (length name) 64) (call.JoinAs name) call.Join refl refl
act_takes (act.Push unit) = refl
act_takes act.End = refl
act_takes (act.Leave player) = refl

asks_by : (a : Option Act) → Asks (option_map call_of a)
asks_by None = tt
asks_by (Some a) = act_takes a

does_asks : (desk : Ask → Grant) (s : State) (m : Message) (c : Result (Option Control) BadControl) → Asks (does_by desk s m c).makes
does_asks desk s m (Ok None) = asks_by (dialog.does desk s m).makes
does_asks desk s m (Ok (Some control)) = tt
does_asks desk s m (Err e) = tt

never_takes : (who window : ℕ) (desk : Ask → Grant) → NeverTakes (session who window desk)
unfolding does
never_takes who window desk = λ s m. does_asks desk s m (control_in m)

acts_by : (who at : ℕ) (k : Option Call) → Asks k → Acts (entry_by who at k)
acts_by who at None a = tt
acts_by who at (Some c) a = a

-- so none waits after it
pub loud_acts : (desk : Ask → Grant) (s : State) (m : Message) (who at : ℕ) (kept : Option Entry) → kept ≡ entry_by who at (does desk s m).makes → Acts kept
unfolding does
loud_acts desk s m who at kept e = subst Acts (sym e) (acts_by who at (does desk s m).makes (does_asks desk s m (control_in m)))

kept_is : {S : Type 0} (d : Dialogue S) (n at : ℕ) (k : Option Call) → at ≡ hand_bytes + n → entry_by d.who at k ≡ kept_by d n k
kept_is d n at None e = refl
kept_is d n at (Some c) e = ap (λ (a : ℕ). Some (record { who = d.who; at = a; call = c })) e

-- the same with equal values
keeps_same : {S : Type 0} (d : Dialogue S) (p : Past) (b c : List ℕ) (w v : WriterKnown) (i j : InWindow) (s t : S) → c ≡ b → v ≡ w → j ≡ i → t ≡ s
    → Stands d p (record { pending = b; writer = w; window = i; state = s }) → Stands d p (record { pending = c; writer = v; window = j; state = t })
keeps_same d p b c w v i j s t be we ie se st = rw (be, we, ie, se) st

-- nothing has happened yet
window_start : (w : ℕ) → new_in w ≡ inbound w 0 []
unfolding window_after
window_start w = refl

pub before_new : (desk : Ask → Grant) (who window longest : ℕ) (k : Handshake) (r : ReaderKnown) (i : InWindow) (b : OutWindow) (s : State) (o : Owing) (x sent : List ℕ) (calls : List Own)
    → r.given ≡ [] → i ≡ new_in window → s ≡ fresh window → o ≡ nothing → x ≡ [] → calls ≡ [] → sent ≡ []
    → StandsBefore desk (record { who = who; window = window; longest = longest; hand = k; reader = r; inbound = i; outbound = b; greeting = 3073; dialog = s; outgoing = o; kept = None; place = None; fed = 0; x = x; calls = calls; sent = sent })
before_new desk who window longest k r i b s o x sent calls re ie se oe xe ce te =
    let d = session who window desk in
    rw (re, xe, ce, te) (keeps_same d new_past [] (pending o) writer.fresh o.writer (inbound window 0 []) i (fresh window) s (ap pending oe) (ap (λ (v : Owing). v.writer) oe) (ie ∙ window_start window) se (stands_new d))

hand_is : (c : Core) → IsSound c → length c.x < hand_bytes → c.hand.fed ≡ c.x
hand_is c l h = ap (λ (k : Handshake). k.fed) l.hand ∙ take_all hand_bytes c.x (omega (arith, h))

-- the bytes that a handshake read are those of the piece
hand_read : (c : Core) (piece : List ℕ) (used : ℕ) → IsSound c → length c.x < hand_bytes → used ≡ used_of c.hand.fed piece → read_of c.hand.fed piece ≡ take used piece
hand_read c piece used l h u =
    let sw : min (length piece) (hand_bytes - length c.hand.fed) ≡ min (hand_bytes - length c.hand.fed) (length piece) = omega arith in
    sym (ap (λ (n : ℕ). take n piece) (u ∙ sw) ∙ take_min (hand_bytes - length c.hand.fed) piece)

pub hand_used : (c : Core) (piece : List ℕ) (used : ℕ) → IsSound c → length c.x < hand_bytes → 0 < length piece → used ≡ used_of c.hand.fed piece → (used ≤ length piece) × (0 < used)
hand_used c piece used l h some u =
    let f : length c.hand.fed ≡ length c.x = ap length (hand_is c l h) in
    (omega (arith, u), omega (arith, u, f, h, some))

hand_now : (c : Core) (piece : List ℕ) (used : ℕ) (k : Handshake) → IsSound c → length c.x < hand_bytes → used ≡ used_of c.hand.fed piece
    → k ≡ record { fed = c.hand.fed ++ read_of c.hand.fed piece; failed = None } → k ≡ record { fed = c.x ++ take used piece; failed = None }
hand_now c piece used k l h u ke =
    ke ∙ ap (λ (v : List ℕ). record { fed = v ++ read_of c.hand.fed piece; failed = None }) (hand_is c l h) ∙ ap (λ (v : List ℕ). record { fed = c.x ++ v; failed = None }) (hand_read c piece used l h u)

-- the first byte is the first
pub version_kept : (x q : List ℕ) → bad_version x ≡ None → 0 < length x → bad_version (x ++ q) ≡ None
version_kept [] q e some = absurd (omega (arith, some))
version_kept (b ∷ x) q e some = e

version_take : (x piece : List ℕ) (n : ℕ) → 0 < n → bad_version (x ++ piece) ≡ None → bad_version (x ++ take n piece) ≡ None
version_take (b ∷ x) piece n some e = e
version_take [] [] zero some e = refl
version_take [] [] (suc n) some e = refl
version_take [] (b ∷ piece) zero some e = absurd (omega (arith, some))
version_take [] (b ∷ piece) (suc n) some e = e

-- whatever the handshake then keeps, it has room
pub room_hand : (c : Core) (k : Handshake) → IsSound c → length c.x < hand_bytes → HasRoom k c.reader c.kept
room_hand c k l h = room_early k c.reader c.kept (l.placed (l.early h)).kept (l.fed ∙ drop_all hand_bytes c.x (omega (arith, h))) l.short

pub sound_hand : (c : Core) (piece x : List ℕ) (o : Owing) (used : ℕ) (k : Handshake) (more : List ℕ) → IsSound c → length c.x < hand_bytes → 0 < used → used ≡ used_of c.hand.fed piece
    → k ≡ record { fed = c.hand.fed ++ read_of c.hand.fed piece; failed = None } → length k.fed ≤ hand_bytes → x ≡ c.x ++ take used piece → bad_version (c.hand.fed ++ piece) ≡ None
    → pending o ≡ pending c.outgoing ++ more → o.others ≡ c.outgoing.others + length more
    → IsSound (record c { hand = k; outgoing = o; fed = c.fed + used; x = x })
sound_hand c piece x o used k more l h some u ke most xe ver be oe =
    let q = take used piece in
    let now = hand_now c piece used k l h u ke in
    let kf : k.fed ≡ c.x ++ q = ap (λ (v : Handshake). v.fed) now in
    let m : length (c.x ++ q) ≤ hand_bytes = subst (λ (v : List ℕ). length v ≤ hand_bytes) kf most in
    let lq : length q ≡ used = length-take-le used piece (omega (arith, u)) in
    rw xe (record {
      hand = now ∙ ap (λ (v : List ℕ). record { fed = v; failed = None }) (sym (take_all hand_bytes (c.x ++ q) m));
      version = version_take c.x piece used some (ap (λ (v : List ℕ). bad_version (v ++ piece)) (sym (hand_is c l h)) ∙ ver);
      early = λ e. l.early h;
      placed = l.placed;
      fed = l.fed ∙ drop_all hand_bytes c.x (omega (arith, h)) ∙ sym (drop_all hand_bytes (c.x ++ q) m);
      counted = omega (arith, l.counted, length-append c.x q, lq);
      taken = omega (arith, l.taken, m, h);
      reads = l.reads;
      read = l.read;
      short = l.short;
      greeting = l.greeting;
      sent = l.sent;
      others = omega (arith, l.others, oe, ap length be, length-append (pending c.outgoing) more);
      acts = l.acts;
      room = room_hand c k l h;
    })

pub before_hand : (desk : Ask → Grant) (c : Core) (piece more x : List ℕ) (o : Owing) (used : ℕ) (k : Handshake) → IsSound c → length c.x < hand_bytes → used ≡ used_of c.hand.fed piece
    → k ≡ record { fed = c.hand.fed ++ read_of c.hand.fed piece; failed = None } → length k.fed ≤ hand_bytes → answered c.hand.fed ++ more ≡ answered k.fed
    → pending o ≡ pending c.outgoing ++ more → o.writer ≡ c.outgoing.writer → x ≡ c.x ++ take used piece
    → StandsBefore desk c → StandsBefore desk (record c { hand = k; outgoing = o; fed = c.fed + used; x = x })
before_hand desk c piece more x o used k l h u ke most sum be we xe st =
    let q = take used piece in
    let kf : k.fed ≡ c.x ++ q = ap (λ (v : Handshake). v.fed) (hand_now c piece used k l h u ke) in
    let m : length (c.x ++ q) ≤ hand_bytes = subst (λ (v : List ℕ). length v ≤ hand_bytes) kf most in
    let a : answered c.x ++ more ≡ answered (c.x ++ q) = ap (λ (v : List ℕ). answered v ++ more) (sym (hand_is c l h)) ∙ sum ∙ ap answered kf in
    let d = session c.who c.window desk in
    rw xe (keeps_same d (fed_more (past_of c) q) (pending c.outgoing ++ more) (pending o) c.outgoing.writer o.writer c.inbound c.inbound c.dialog c.dialog be we refl refl
    (stands_hand d (past_of c) (keeps_of c) q more h m a st))

pub light_hand : (c : Core) (piece more x : List ℕ) (o : Owing) (used : ℕ) (k : Handshake) → IsSound c → length c.x < hand_bytes → used ≡ used_of c.hand.fed piece
    → k ≡ record { fed = c.hand.fed ++ read_of c.hand.fed piece; failed = None } → answered c.hand.fed ++ more ≡ answered k.fed
    → o.others ≡ c.outgoing.others + length more → x ≡ c.x ++ take used piece → weight o.others x c.inbound ≤ weight c.outgoing.others c.x c.inbound
light_hand c piece more x o used k l h u ke sum oe xe =
    let kf : k.fed ≡ c.x ++ take used piece = ap (λ (v : Handshake). v.fed) (hand_now c piece used k l h u ke) in
    weight_hand c.x x more c.outgoing.others o.others c.inbound (ap (λ (v : List ℕ). answered v ++ more) (sym (hand_is c l h)) ∙ sum ∙ ap answered (kf ∙ sym xe)) oe

-- ---- bytes of chunks

-- the reader after a feed
reader_fed : (c : Core) (part : List ℕ) (used : ℕ) (m : Option Message) (r : ReaderKnown) → IsFedTo c.reader part used m r → r.fed ≡ c.reader.fed ++ take used part
reader_fed c part used m r f = ap (λ (k : ReaderKnown). k.fed) f.now

-- the count of input bytes is far from its end
pub far : (c : Core) (part : List ℕ) (used : ℕ) (m : Option Message) (r : ReaderKnown) → IsSound c → hand_bytes ≤ length c.x → IsFedTo c.reader part used m r → (c.inbound.taken + used ≤ 2 ^ 62) × (c.fed + used ≤ 2 ^ 62 + hand_bytes)
far c part used m r l h f =
    let q = take used part in
    let lq : length q ≡ used = length-take-le used part f.within in
    let e : length r.fed ≡ length (c.reader.fed ++ q) = ap length (reader_fed c part used m r f) in
    let n : length r.fed ≤ 2 ^ 62 = f.read.reads.near in
    let a = length-append c.reader.fed q in
    let g : length c.reader.fed ≡ length c.x - hand_bytes = ap length l.fed ∙ length-drop hand_bytes c.x in
    (omega (arith, lq, e, n, a, g, l.taken), omega (arith, lq, e, n, a, g, l.counted, h))

-- what is said is of no item
pub says_others : (o p : Owing) (l : List Message) → Says o l p → length (pending o) + p.others ≡ o.others + length (pending p)
says_others o p l s = omega (arith, s.others, ap length s.bytes, length-append (pending o) (written o.writer l))

pub says_within : (o p : Owing) (l : List Message) → Says o l p → o.others ≤ length (pending o) → p.others ≤ length (pending p)
says_within o p l s w = omega (arith, w, says_others o p l s)

pub sound_fed : (c : Core) (part x : List ℕ) (used : ℕ) (m : Option Message) (r : ReaderKnown) (i : InWindow) (b : OutWindow) (s : State) (o : Owing) (kept : Option Entry) (place : Option ℕ) → IsSound c → hand_bytes ≤ length c.x → IsFedTo c.reader part used m r
    → i.taken ≡ c.inbound.taken + used → b.sent ≡ c.outbound.sent → o.others ≤ length (pending o) → (place ≡ None → IsIdle kept s) → Acts kept → HasRoom c.hand r kept → x ≡ c.x ++ take used part
    → IsSound (record c { reader = r; inbound = i; outbound = b; dialog = s; outgoing = o; kept = kept; place = place; fed = c.fed + used; x = x })
sound_fed c part x used m r i b s o kept place l h f t be oe pl ac ro xe =
    let q = take used part in
    let lq : length q ≡ used = length-take-le used part f.within in
    let max : r.max ≡ c.reader.max = ap (λ (k : ReaderKnown). k.max) f.now in
    rw xe (record {
      hand = l.hand ∙ ap (λ (v : List ℕ). record { fed = v; failed = None }) (sym (take-append-le hand_bytes c.x q h));
      version = version_kept c.x q l.version (omega (arith, h));
      early = λ e. absurd (omega (arith, e, h, length-append c.x q));
      placed = pl;
      fed = reader_fed c part used m r f ∙ ap (λ (v : List ℕ). v ++ q) l.fed ∙ sym (drop-append-le hand_bytes c.x q h);
      counted = omega (arith, l.counted, length-append c.x q, lq);
      taken = omega (arith, t, l.taken, length-append c.x q, lq, h);
      reads = ap (λ (k : ReaderKnown). k.failed) f.now;
      read = f.read;
      short = omega (arith, max, l.short);
      greeting = l.greeting;
      sent = be ∙ l.sent;
      others = oe;
      acts = ac;
      room = ro;
    })

-- after bytes that end no message
pub before_quiet : (desk : Ask → Grant) (c : Core) (part x : List ℕ) (used : ℕ) (r : ReaderKnown) (i : InWindow) (o : Owing) → hand_bytes ≤ length c.x → c.kept ≡ None → used ≤ room_of c.inbound
    → IsFedTo c.reader part used None r → i ≡ in_took c.inbound used → Says c.outgoing (ack_messages (ack_of c.inbound used)) o → x ≡ c.x ++ take used part
    → StandsBefore desk c → StandsBefore desk (record c { reader = r; inbound = i; outgoing = o; fed = c.fed + used; x = x })
before_quiet desk c part x used r i o h k room f ie s xe st =
    let q = take used part in
    let d = session c.who c.window desk in
    let lq : length q ≡ used = length-take-le used part f.within in
    let given : r.given ≡ c.reader.given = ap (λ (y : ReaderKnown). y.given) f.now ∙ append-nil c.reader.given in
    let base = stands_fed d (past_of c) (keeps_of c) q h k (subst (λ (n : ℕ). n ≤ room_of c.inbound) (sym lq) room) st in
    let T : ℕ → Type 0 = λ n. Stands d (fed_more (past_of c) q) (took (keeps_of c) n) in
    let there : T used = subst T lq base in
    let a = ack_messages (ack_of c.inbound used) in
    rw (xe, given) (keeps_same d (fed_more (past_of c) q) (pending c.outgoing ++ written c.outgoing.writer a) (pending o) (after_all c.outgoing.writer a) o.writer (in_took c.inbound used) i c.dialog c.dialog s.bytes s.writer ie refl there)

-- after bytes that end a message
pub before_loud : (desk : Ask → Grant) (c : Core) (part x : List ℕ) (used : ℕ) (m : Message) (r : ReaderKnown) (v i : InWindow) (b : OutWindow) (o p : Owing) (s : State) (kept : Option Entry) (put : Option ℕ) → IsSound c → hand_bytes ≤ length c.x → c.kept ≡ None → used ≤ room_of c.inbound
    → IsFedTo c.reader part used (Some m) r → v ≡ in_took c.inbound used → Says c.outgoing (ack_messages (ack_of c.inbound used)) o
    → i ≡ record { window = window_by v.window m; taken = v.taken } → Says o (does desk c.dialog m).says p → s ≡ (does desk c.dialog m).state → kept ≡ entry_by c.who (c.fed + used) (does desk c.dialog m).makes
    → x ≡ c.x ++ take used part
    → StandsBefore desk c → StandsBefore desk (record c { reader = r; inbound = i; outbound = b; dialog = s; outgoing = p; kept = kept; place = put; fed = c.fed + used; x = x })
before_loud desk c part x used m r v i b o p s kept put l h k room f ve so ie sp se ke xe st =
    let q = take used part in
    let d = session c.who c.window desk in
    let step = does desk c.dialog m in
    let lq : length q ≡ used = length-take-le used part f.within in
    let some : 0 < used = f.some refl in
    let n = count_of d (c.x ++ q) in
    let g : length c.reader.fed ≡ length c.x - hand_bytes = ap length l.fed ∙ length-drop hand_bytes c.x in
    let place : length (c.reader.fed ++ q) ≡ n = omega (arith, length-append c.reader.fed q, length-append c.x q, g, h) in
    let given : r.given ≡ c.reader.given ++ (n, m) ∷ [] = ap (λ (y : ReaderKnown). y.given) f.now ∙ ap (λ (b : ℕ). c.reader.given ++ (b, m) ∷ []) place in
    let at : c.fed + used ≡ hand_bytes + n = omega (arith, l.counted, length-append c.x q, lq, h) in
    let kk : kept ≡ kept_by d n step.makes = ke ∙ kept_is d n (c.fed + used) step.makes at in
    let base = stands_message d (past_of c) (keeps_of c) q m (never_takes c.who c.window desk) h k (subst (λ (b : ℕ). 0 < b) (sym lq) some) (subst (λ (b : ℕ). b ≤ room_of c.inbound) (sym lq) room) st in
    let T : ℕ → Type 0 = λ b. Stands d (with_message (past_of c) q n m (kept_by d n step.makes)) (stepped (took (keeps_of c) b) m step) in
    let there : T used = subst T lq base in
    let a = ack_messages (ack_of c.inbound used) in
    let w1 = after_all c.outgoing.writer a in
    let b1 = pending c.outgoing ++ written c.outgoing.writer a in
    let ww : p.writer ≡ after_all w1 step.says = sp.writer ∙ ap (λ (y : WriterKnown). after_all y step.says) so.writer in
    let bb : pending p ≡ b1 ++ written w1 step.says = sp.bytes ∙ ap (λ (b : List ℕ). b ++ written o.writer step.says) so.bytes ∙ ap (λ (y : WriterKnown). b1 ++ written y step.says) so.writer in
    let ii : i ≡ record { window = window_by c.inbound.window m; taken = c.inbound.taken + used } = ie ∙ ap (λ (y : InWindow). record { window = window_by y.window m; taken = y.taken }) ve in
    rw (xe, given, kk) (keeps_same d (with_message (past_of c) q n m (kept_by d n step.makes)) (b1 ++ written w1 step.says) (pending p) (after_all w1 step.says) p.writer
    (record { window = window_by c.inbound.window m; taken = c.inbound.taken + used }) i step.state s bb ww ii se there)

-- ---- a reply, and bytes sent

none_some : {X : Type 0} (o : Option X) (x : X) → o ≡ None → o ≡ Some x → ⊥
none_some o x e f = let h : None ≡ Some x = sym e ∙ f in cc

pub sound_heard : (c : Core) (e : Entry) (o : Owing) (s : State) (calls : List Own) → IsSound c → c.kept ≡ Some e → o.others ≤ length (pending o)
    → IsSound (record c { dialog = s; outgoing = o; kept = None; calls = calls })
sound_heard c e o s calls l k oe = record {
  hand = l.hand;
  version = l.version;
  early = l.early;
  placed = λ p. absurd (none_some c.kept e (l.placed p).kept k);
  fed = l.fed;
  counted = l.counted;
  taken = l.taken;
  reads = l.reads;
  read = l.read;
  short = l.short;
  greeting = l.greeting;
  sent = l.sent;
  others = oe;
  acts = tt;
  room = room_let c.hand c.reader c.kept l.room;
}

pub on_err : {A B : Type 0} (r : Result A B) (P : Type 0) → P → OnErr r P
on_err (Ok a) P p = tt
on_err (Err e) P p = p

-- in the handshake no call waits
not_early_by : (b : Bool) (n m : ℕ) → nat_le m n ≡ b → (n < m → ⊥) → m ≤ n
not_early_by true n m is f = grind (arith, nat_tests, is)
not_early_by false n m is f = absurd (f (grind (arith, nat_tests, is)))

not_early : (n m : ℕ) → (n < m → ⊥) → m ≤ n
not_early n m f = not_early_by (nat_le m n) n m refl f

pub late_kept : (c : Core) (e : Entry) → IsSound c → c.kept ≡ Some e → hand_bytes ≤ length c.x
late_kept c e l k = not_early (length c.x) hand_bytes (λ h. none_some c.kept e (l.placed (l.early h)).kept k)

pub late_plays : (c : Core) (p : Playing) → IsSound c → playing_in c.dialog.phase ≡ Some p → hand_bytes ≤ length c.x
late_plays c p l k = not_early (length c.x) hand_bytes (λ h. none_some (playing_in c.dialog.phase) p (ap playing_in (l.placed (l.early h)).phase) k)

pub before_heard : (desk : Ask → Grant) (c : Core) (e : Entry) (r : Reply) (o : Owing) (s : State) (calls : List Own) → hand_bytes ≤ length c.x → c.kept ≡ Some e
    → s ≡ (told c.dialog r).state → Says c.outgoing (told c.dialog r).says o → calls ≡ c.calls ++ (e, r) ∷ []
    → StandsBefore desk c → StandsBefore desk (record c { dialog = s; outgoing = o; kept = None; calls = calls })
before_heard desk c e r o s calls h k se so ce st =
    let d = session c.who c.window desk in
    let t = told c.dialog r in
    rw ce (keeps_same d (with_call (past_of c) e r) (pending c.outgoing ++ written c.outgoing.writer t.says) (pending o) (after_all c.outgoing.writer t.says) o.writer c.inbound c.inbound t.state s so.bytes so.writer refl se
    (stands_reply d (past_of c) (keeps_of c) e r h k st))

-- a reply that was heard and couldn't be answered
pub over_heard : (desk : Ask → Grant) (c : Core) (e : Entry) (r : Reply) (o : Owing) (s : State) (calls : List Own) → IsSound c → hand_bytes ≤ length c.x → c.kept ≡ Some e → calls ≡ c.calls ++ (e, r) ∷ []
    → StandsBefore desk c → IsOver desk end.OutOfMemory (record c { dialog = s; outgoing = o; kept = None; calls = calls })
over_heard desk c e r o s calls l h k ce st =
    let d = session c.who c.window desk in
    let t = told c.dialog r in
    let z = stands_reply d (past_of c) (keeps_of c) e r h k st in
    rw ce (record {
      ms = c.reader.given;
      read = subst (λ (b : List ℕ). IsRead c.reader.max b c.reader.given) l.fed l.read;
      more = pending c.outgoing ++ written c.outgoing.writer t.says;
      owes = z.owes;
      talks = z.talks;
      state = λ ne. absurd (ne refl);
    })

-- ---- a Take

plays_phase : (p : Phase) (q : Playing) → playing_in p ≡ Some q → p ≡ phase.Plays q
plays_phase (phase.Plays r) q e = let h : Some r ≡ Some q = e in ap phase.Plays (cc)
plays_phase phase.Idle q e = absurd (let h : None ≡ Some q = e in cc)
plays_phase (phase.Asked r id) q e = absurd (let h : None ≡ Some q = e in cc)
plays_phase (phase.Publishes id size) q e = absurd (let h : None ≡ Some q = e in cc)

-- what it owes is what is shown of the item that the reply brings
reply_shown : (s : State) (q : Playing) (r : Reply) (who window : ℕ) (desk : Ask → Grant) → s.phase ≡ phase.Plays q → shown (session who window desk) s r ≡ option_map_or (dialog.shown q.id) (item_in r) []
unfolding shows
reply_shown s q (reply.Sent from n item) who window desk p = ap (λ (f : Phase). dialog.shown_in f item) p
reply_shown s q (reply.Began n) who window desk p = refl
reply_shown s q (reply.InUse by) who window desk p = refl
reply_shown s q (reply.Pushed n) who window desk p = refl
reply_shown s q (reply.NotPublisher live) who window desk p = refl
reply_shown s q (reply.Ended n) who window desk p = refl
reply_shown s q (reply.Joined player from) who window desk p = refl
reply_shown s q reply.Full who window desk p = refl
reply_shown s q (reply.NoSlot slots) who window desk p = refl
reply_shown s q reply.NotPlayer who window desk p = refl
reply_shown s q (reply.Skip from to) who window desk p = refl
reply_shown s q (reply.NotYet end) who window desk p = refl
reply_shown s q (reply.Left player) who window desk p = refl
reply_shown s q (reply.Counts began pushed ended joined skips) who window desk p = refl

shown_item : (s : State) (q : Playing) (e : Entry) (r : Reply) (who window : ℕ) (desk : Ask → Grant) → is_take e.call ≡ true → s.phase ≡ phase.Plays q
    → item_of (session who window desk) s (e, r) ≡ option_map_or (dialog.shown q.id) (item_in r) []
shown_item s q e r who window desk t p = rw t (reply_shown s q r who window desk p)

taken_kept : (d : Dialogue State) (c : Core) (e : Entry) (r : Reply) (o : Owing) (m : List Message) → c.kept ≡ None → Takes c.outgoing m o → Stands d (with_call (past_of c) e r) (says_more (keeps_of c) m)
    → Stands d (record { x = c.x; ms = c.reader.given; calls = c.calls ++ (e, r) ∷ []; kept = c.kept; sent = c.sent }) (record { pending = pending o; writer = o.writer; window = c.inbound; state = c.dialog })
taken_kept d c e r o m k t z = rw k (keeps_same d (with_call (past_of c) e r) (pending c.outgoing ++ written c.outgoing.writer m) (pending o) (after_all c.outgoing.writer m) o.writer c.inbound c.inbound c.dialog c.dialog t.bytes t.writer refl refl z)

takes_none : (n : ℕ) (l : List ℕ) → n ≤ length l → l ≡ [] → n ≡ 0
takes_none n l le e = omega (arith, le, ap length e)

pub sound_taken : (c : Core) (o : Owing) (l : List Message) (calls : List Own) → IsSound c → pending c.outgoing ≡ [] → Takes c.outgoing l o
    → IsSound (record c { outgoing = o; calls = calls })
sound_taken c o m calls l none t = record {
  hand = l.hand;
  version = l.version;
  early = l.early;
  placed = l.placed;
  fed = l.fed;
  counted = l.counted;
  taken = l.taken;
  reads = l.reads;
  read = l.read;
  short = l.short;
  greeting = l.greeting;
  sent = l.sent;
  others = omega (arith, t.others, takes_none c.outgoing.others (pending c.outgoing) l.others none);
  acts = l.acts;
  room = l.room;
}

pub taken_others : (c : Core) (o : Owing) (l : List Message) → IsSound c → pending c.outgoing ≡ [] → Takes c.outgoing l o → o.others ≡ 0
taken_others c o m l none t = omega (arith, t.others, takes_none c.outgoing.others (pending c.outgoing) l.others none)

pub before_taken : (desk : Ask → Grant) (c : Core) (q : Playing) (e : Entry) (r : Reply) (o : Owing) (calls : List Own) → IsSound c → c.kept ≡ None → playing_in c.dialog.phase ≡ Some q → is_take e.call ≡ true → e.at ≡ length c.x
    → Takes c.outgoing (option_map_or (dialog.shown q.id) (item_in r) []) o → calls ≡ c.calls ++ (e, r) ∷ []
    → StandsBefore desk c → StandsBefore desk (record c { outgoing = o; calls = calls })
before_taken desk c q e r o calls l k pl tk at t ce st =
    let d = session c.who c.window desk in
    let m = option_map_or (dialog.shown q.id) (item_in r) [] in
    let n = item_of d c.dialog (e, r) in
    let nm : n ≡ m = shown_item c.dialog q e r c.who c.window desk tk (plays_phase c.dialog.phase q pl) in
    let z = stands_take d (past_of c) (keeps_of c) e r (late_plays c q l pl) k at tk (ap is_some pl) st in
    let P : List Message → Type 0 = λ w. Stands d (with_call (past_of c) e r) (says_more (keeps_of c) w) in
    rw ce (taken_kept d c e r o m k t (subst P nm z))

pub over_taken : (desk : Ask → Grant) (c : Core) (q : Playing) (e : Entry) (r : Reply) (o : Owing) (calls : List Own) → IsSound c → c.kept ≡ None → playing_in c.dialog.phase ≡ Some q → is_take e.call ≡ true → e.at ≡ length c.x
    → calls ≡ c.calls ++ (e, r) ∷ [] → StandsBefore desk c → IsOver desk end.OutOfMemory (record c { outgoing = o; calls = calls })
over_taken desk c q e r o calls l k pl tk at ce st =
    let d = session c.who c.window desk in
    let z = stands_take d (past_of c) (keeps_of c) e r (late_plays c q l pl) k at tk (ap is_some pl) st in
    rw ce (record {
      ms = c.reader.given;
      read = subst (λ (b : List ℕ). IsRead c.reader.max b c.reader.given) l.fed l.read;
      more = pending c.outgoing ++ written c.outgoing.writer (item_of d c.dialog (e, r));
      owes = z.owes;
      talks = subst (λ (o : Option Entry). Talks d (count_of d c.x) c.reader.given (c.calls ++ (e, r) ∷ []) o) (sym k) z.talks;
      state = λ ne. absurd (ne refl);
    })

-- ---- bytes sent

pub before_sent : (desk : Ask → Grant) (c : Core) (b sent : List ℕ) (o : Owing) (w : OutWindow) (g : ℕ) → pending c.outgoing ≡ b ++ pending o → o.writer ≡ c.outgoing.writer → sent ≡ c.sent ++ b
    → StandsBefore desk c → StandsBefore desk (record c { outbound = w; greeting = g; outgoing = o; sent = sent })
before_sent desk c b sent o w g be we e st =
    let d = session c.who c.window desk in
    rw e (keeps_same d (sent_more (past_of c) b) (pending o) (pending o) c.outgoing.writer o.writer c.inbound c.inbound c.dialog c.dialog refl we refl refl
    (stands_sent d (past_of c) (keeps_of c) b (pending o) st be))

-- the first of the bytes that are encoded, and the others
pub sent_cut : (o p : Owing) (n : ℕ) → p.ready ≡ drop n o.ready → p.rest ≡ o.rest → pending o ≡ take n o.ready ++ pending p
sent_cut o p n re se =
    rw (re, se) (ap (λ (l : List ℕ). l ++ o.rest) (sym (take-append-drop n o.ready)) ∙ append_assoc (take n o.ready) (drop n o.ready) o.rest)

pub sound_sent : (c : Core) (n : ℕ) (sent : List ℕ) (o : Owing) (w : OutWindow) (g : ℕ) → IsSound c → n ≤ length c.outgoing.ready → o.others ≡ min c.outgoing.others (length (pending o))
    → g ≡ c.greeting - min c.greeting n → w ≡ out_sent c.outbound (n - min c.greeting n) → sent ≡ c.sent ++ take n c.outgoing.ready
    → IsSound (record c { outbound = w; greeting = g; outgoing = o; sent = sent })
sound_sent c n sent o w g l le oe ge we se =
    let b = take n c.outgoing.ready in
    let lb : length b ≡ n = length-take-le n c.outgoing.ready le in
    let ls : length (c.sent ++ b) ≡ length c.sent + n = omega (arith, length-append c.sent b, lb) in
    rw (ge, we, se) (record {
      hand = l.hand;
      version = l.version;
      early = l.early;
      placed = l.placed;
      fed = l.fed;
      counted = l.counted;
      taken = l.taken;
      reads = l.reads;
      read = l.read;
      short = l.short;
      greeting = omega (arith, l.greeting, ls);
      sent = omega (arith, l.greeting, l.sent, ls);
      others = omega (arith, oe);
      acts = l.acts;
      room = l.room;
    })

pub all_sent : (c : Core) (n : ℕ) (sent : List ℕ) (o : Owing) (w : OutWindow) (g : ℕ) → IsSound c → n ≤ length c.outgoing.ready → o.ready ≡ drop n c.outgoing.ready → o.rest ≡ c.outgoing.rest
    → o.others ≡ min c.outgoing.others (length (pending o)) → w ≡ out_sent c.outbound (n - min c.greeting n) → sent ≡ c.sent ++ take n c.outgoing.ready
    → IsSent c n (record c { outbound = w; greeting = g; outgoing = o; sent = sent })
all_sent c n sent o w g l le re te oe we se =
    let r = c.outgoing.ready in
    let t = c.outgoing.rest in
    record {
      past = ap (λ (v : List ℕ). record { x = c.x; ms = c.reader.given; calls = c.calls; kept = c.kept; sent = v }) (se ∙ ap (λ (v : List ℕ). c.sent ++ v) (sym (take-append-le n r t le)));
      left = ap (λ (v : List ℕ). v ++ o.rest) re ∙ ap (λ (v : List ℕ). drop n r ++ v) te ∙ sym (drop-append-le n r t le);
      others = oe;
      outbound = we ∙ ap (λ (v : ℕ). out_sent c.outbound (n - v)) (omega (arith, l.greeting));
      state = refl;
      firm = refl;
    }

-- ---- more of what is pending is encoded

pub sound_filled : (c : Core) (o : Owing) → IsSound c → pending o ≡ pending c.outgoing → o.others ≡ c.outgoing.others → IsSound (record c { outgoing = o })
sound_filled c o l be oe = record {
  hand = l.hand;
  version = l.version;
  early = l.early;
  placed = l.placed;
  fed = l.fed;
  counted = l.counted;
  taken = l.taken;
  reads = l.reads;
  read = l.read;
  short = l.short;
  greeting = l.greeting;
  sent = l.sent;
  others = omega (arith, l.others, oe, ap length be);
  acts = l.acts;
  room = l.room;
}

pub before_filled : (desk : Ask → Grant) (c : Core) (o : Owing) → pending o ≡ pending c.outgoing → o.writer ≡ c.outgoing.writer → StandsBefore desk c → StandsBefore desk (record c { outgoing = o })
before_filled desk c o be we st =
    keeps_same (session c.who c.window desk) (past_of c) (pending c.outgoing) (pending o) c.outgoing.writer o.writer c.inbound c.inbound c.dialog c.dialog be we refl refl st

-- What a client owes, but for control messages
use Rattle.std.proofs.Common.{◌≡◌, ℕ, zero, suc, ◌+◌, ◌-◌, ◌%◌, ◌<◌, ◌≤◌, Bool, true, false, ◌==◌, ◌&&◌, nat_lt, if◌then◌else◌, List, [], ◌∷◌, ◌++◌, map, Option, Some, None, Result, Ok, Err, refl, sym, ap, ◌∙◌, arith, append_assoc, append-nil}
use Rattle.std.proofs.lemmas.Bool.{ne_eqb}
use Rattle.std.proofs.lemmas.Bool.Decides.{nat_tests}
use Rattle.chunk_wire.specs.declared.message.Message.{Message}
use Rattle.rtmp_command.specs.declared.command.CommandFail.{CommandFail}
use Rattle.ack_window.specs.declared.control.Control.{Control}
use Rattle.ack_window.specs.declared.control.Control.TheVariants.{ChunkSize, Abort, Acknowledgement, User, Window, Bandwidth}
use Rattle.ack_window.specs.declared.control.BadControl.{BadControl}
use Rattle.ack_window.specs.Controls.{control_in, ping_answer_of}
use Rattle.ack_window.specs.Inbound.{number_of}
use Rattle.flv_tags.specs.Layout.{is_kind}
use Rattle.session_owed.specs.Acks.{acks_at, ack_message, window_at}
use Rattle.session_owed.specs.Owed.{upto}
use Rattle.session_owed.specs.Talk.{hand_bytes, said_if, says_at}
use Rattle.session_owed.proofs.Counting.{upto_same}
use Rattle.client_owed.specs.declared.types.Wish.{Wish}
use Rattle.client_owed.specs.declared.types.Asked.{Asked}
use Rattle.client_owed.specs.declared.types.Gave.{Gave}
use Rattle.client_owed.specs.declared.types.Given.{Given}
use Rattle.client_owed.specs.declared.types.News.{News}
use Rattle.client_owed.specs.declared.types.Phase.{Phase}
use Rattle.client_owed.specs.declared.types.Given.TheVariants.{Finish, Send}
use Rattle.client_owed.specs.declared.types.News.TheVariants.{Done, Refused, Status, Other}
use Rattle.client_owed.specs.declared.types.Phase.TheVariants.{Connecting, Creating, Asking, Started}
use Rattle.client_owed.specs.News.{is_text, news_in}
use Rattle.client_owed.specs.Client.{Did, ask, connect, create_stream, created, does, does_by, is_id, learns, learns_by, pongs, start_code, stays, whole}
use Rattle.client_owed.specs.Owed.{AreGiven, Follow, MayGive, at_count, first_window, gave_on, id_of, owed, phase_after, phase_of, said_after, sent_on, start_from, start_if}
use Rattle.client_law.specs.Loud.{Rise, asked_by, flat, is_loud, keep, loud, louds, sents}
use Rattle.client_law.proofs.Uptos.{says_above, says_below, upto_says, upto_split}

-- ---- of lists

keep_joined : {X : Type 0} (b : Bool) (x : X) (l r : List X) → keep b x (l ++ r) ≡ keep b x l ++ r
keep_joined true x l r = refl
keep_joined false x l r = refl

pub loud_joined : (a b : List Message) → loud (a ++ b) ≡ loud a ++ loud b
unfolding loud
loud_joined [] b = refl
loud_joined (m ∷ a) b = ap (keep (is_loud m) m) (loud_joined a b) ∙ keep_joined (is_loud m) m (loud a) (loud b)

pub loud_upto : (f : ℕ → List Message) (n : ℕ) → loud (upto f n) ≡ upto (λ j. loud (f j)) n
unfolding upto
loud_upto f zero = refl
loud_upto f (suc n) = loud_joined (upto f n) (f (suc n)) ∙ ap (λ t. t ++ loud (f (suc n))) (loud_upto f n)

loud_if : (b : Bool) (l : List Message) → loud (said_if b l) ≡ said_if b (loud l)
unfolding loud
loud_if true l = refl
loud_if false l = refl

pub loud_says : (j : ℕ) (es : List (ℕ × List Message)) → loud (says_at j es) ≡ says_at j (louds es)
unfolding says_at louds loud
loud_says j [] = refl
loud_says j (e ∷ es) = loud_joined (said_if (e.0 == j) e.1) (says_at j es) ∙ ap (λ t. t ++ loud (says_at j es)) (loud_if (e.0 == j) e.1) ∙ ap (λ t. said_if (e.0 == j) (loud e.1) ++ t) (loud_says j es)

ack_quiet : (b : Bool) (j : ℕ) → loud (if b then ack_message (number_of j) ∷ [] else []) ≡ []
unfolding loud
ack_quiet true j = refl
ack_quiet false j = refl

pub acks_quiet : (w : ℕ) (ms : List (ℕ × Message)) (j : ℕ) → loud (acks_at w ms j) ≡ []
unfolding acks_at
acks_quiet w ms j = ack_quiet (nat_lt 0 j && (j % window_at w ms j == 0)) j

-- ---- what the answers are, but for pongs

pong_quiet : (c : Control) → loud (pongs (ping_answer_of c)) ≡ []
unfolding loud
pong_quiet (ChunkSize size) = refl
pong_quiet (Abort id) = refl
pong_quiet (Acknowledgement count) = refl
pong_quiet (User event value) = by_event (event == 6)
  where
    by_event : (b : Bool) → loud (pongs (if b then Some (User 7 value) else None)) ≡ []
    by_event true = refl
    by_event false = refl
pong_quiet (Window size) = refl
pong_quiet (Bandwidth size limit) = refl

-- what is asked for by a phase, and what is said, is what is asked for by the phase after it
abbrev Goes : Asked → Phase → Did → Type 0
Goes k p d = asked_by k p ++ loud d.says ≡ asked_by k d.phase

goes_stays : (k : Asked) (p : Phase) → Goes k p (stays p)
unfolding loud
goes_stays k p = append-nil (asked_by k p)

goes_id : (k : Asked) (b : Bool) (id : ℕ) → Goes k Creating (if b then record { phase = Asking id; says = ask k id ∷ [] } else stays Creating)
unfolding loud
goes_id k true id = refl
goes_id k false id = refl

goes_created : (k : Asked) (v : Option ℕ) → Goes k Creating (created k v)
goes_created k None = goes_stays k Creating
goes_created k (Some bits) = goes_id k (is_id bits) (whole bits)

goes_connected : (k : Asked) (b : Bool) → Goes k Connecting (if b then record { phase = Creating; says = Rattle.client_owed.specs.Client.chunk_size ∷ create_stream ∷ [] } else stays Connecting)
unfolding loud
goes_connected k true = refl
goes_connected k false = refl

goes_then : (k : Asked) (b : Bool) (v : Option ℕ) → Goes k Creating (if b then created k v else stays Creating)
goes_then k true v = goes_created k v
goes_then k false v = goes_stays k Creating

goes_started : (k : Asked) (id : ℕ) (b : Bool) → Goes k (Asking id) (if b then stays (Started id) else stays (Asking id))
unfolding loud
goes_started k id true = refl
goes_started k id false = refl

goes_learns : (k : Asked) (p : Phase) (n : News) → Goes k p (learns k p n)
goes_learns k Connecting (Done n v) = goes_connected k (n == Rattle.amf0_value.specs.Pattern.pattern 1)
goes_learns k Connecting (Refused code description) = goes_stays k Connecting
goes_learns k Connecting (Status code) = goes_stays k Connecting
goes_learns k Connecting Other = goes_stays k Connecting
goes_learns k Creating (Done n v) = goes_then k (n == Rattle.amf0_value.specs.Pattern.pattern 2) v
goes_learns k Creating (Refused code description) = goes_stays k Creating
goes_learns k Creating (Status code) = goes_stays k Creating
goes_learns k Creating Other = goes_stays k Creating
goes_learns k (Asking id) (Done n v) = goes_stays k (Asking id)
goes_learns k (Asking id) (Refused code description) = goes_stays k (Asking id)
goes_learns k (Asking id) (Status code) = goes_started k id (is_text code (start_code k.wish))
goes_learns k (Asking id) Other = goes_stays k (Asking id)
goes_learns k (Started id) n = goes_stays k (Started id)

goes_news : (k : Asked) (p : Phase) (r : Result News CommandFail) → Goes k p (learns_by k p r)
goes_news k p (Ok n) = goes_learns k p n
goes_news k p (Err e) = goes_stays k p

goes_kind : (k : Asked) (p : Phase) (b : Bool) (r : Result News CommandFail) → Goes k p (if b then learns_by k p r else stays p)
goes_kind k p true r = goes_news k p r
goes_kind k p false r = goes_stays k p

goes_by : (k : Asked) (p : Phase) (m : Message) (r : Result (Option Control) BadControl) → Goes k p (does_by k p m r)
goes_by k p m (Ok None) = goes_kind k p (m.kind == 20) (news_in m.body)
goes_by k p m (Ok (Some c)) = ap (λ t. asked_by k p ++ t) (pong_quiet c) ∙ append-nil (asked_by k p)
goes_by k p m (Err e) = goes_stays k p

goes_does : (k : Asked) (p : Phase) (m : Message) → Goes k p (does k p m)
unfolding does
goes_does k p m = goes_by k p m (control_in m)

-- ALL THAT IS ASKED FOR: the commands by the phase
pub asked_for : (k : Asked) (p : Phase) (ms : List (ℕ × Message)) → asked_by k p ++ flat (louds (said_after k p ms)) ≡ asked_by k (phase_after k p ms)
unfolding flat louds said_after phase_after
asked_for k p [] = append-nil (asked_by k p)
asked_for k p (m ∷ ms) =
    let d = does k p m.1 in
    sym (append_assoc (asked_by k p) (loud d.says) (flat (louds (said_after k d.phase ms)))) ∙ ap (λ t. t ++ flat (louds (said_after k d.phase ms))) (goes_does k p m.1) ∙ asked_for k d.phase ms

-- ---- once it has started nothing more is asked for

abbrev Rests : ℕ → Did → Type 0
Rests id d = (d.phase ≡ Started id) × (loud d.says ≡ [])

rests_stays : (id : ℕ) → Rests id (stays (Started id))
unfolding loud
rests_stays id = (refl, refl)

rests_news : (k : Asked) (id : ℕ) (r : Result News CommandFail) → Rests id (learns_by k (Started id) r)
rests_news k id (Ok n) = rests_stays id
rests_news k id (Err e) = rests_stays id

rests_kind : (k : Asked) (id : ℕ) (b : Bool) (r : Result News CommandFail) → Rests id (if b then learns_by k (Started id) r else stays (Started id))
rests_kind k id true r = rests_news k id r
rests_kind k id false r = rests_stays id

rests_by : (k : Asked) (id : ℕ) (m : Message) (r : Result (Option Control) BadControl) → Rests id (does_by k (Started id) m r)
rests_by k id m (Ok None) = rests_kind k id (m.kind == 20) (news_in m.body)
rests_by k id m (Ok (Some c)) = (refl, pong_quiet c)
rests_by k id m (Err e) = rests_stays id

pub rests : (k : Asked) (id : ℕ) (m : Message) → Rests id (does k (Started id) m)
unfolding does
rests k id m = rests_by k id m (control_in m)

pub stays_started : (k : Asked) (id : ℕ) (ms : List (ℕ × Message)) → phase_after k (Started id) ms ≡ Started id
unfolding phase_after
stays_started k id [] = refl
stays_started k id (m ∷ ms) = ap (λ q. phase_after k q ms) (rests k id m.1).0 ∙ stays_started k id ms

if_none : (b : Bool) (l : List Message) → l ≡ [] → said_if b l ≡ []
if_none true l e = e
if_none false l e = refl

quiet_started : (k : Asked) (id j : ℕ) (ms : List (ℕ × Message)) → says_at j (louds (said_after k (Started id) ms)) ≡ []
unfolding says_at louds said_after
quiet_started k id j [] = refl
quiet_started k id j (m ∷ ms) =
    ap (λ t. t ++ says_at j (louds (said_after k (does k (Started id) m.1).phase ms))) (if_none (m.0 == j) (loud (does k (Started id) m.1).says) (rests k id m.1).1)
    ∙ ap (λ q. says_at j (louds (said_after k q ms))) (rests k id m.1).0 ∙ quiet_started k id j ms

the_same : (a b : ℕ) → Some a ≡ Some b → a ≡ b
the_same a b e = cc

pub start_above : (k : Asked) (p : Phase) (lo hi s : ℕ) (ms : List (ℕ × Message)) → Rise lo hi ms → start_from k p ms ≡ Some s → lo ≤ s
unfolding start_from
start_above k p lo hi s [] r e = absurd cc
start_above k p lo hi s (m ∷ ms) r e = by_phase (λ q f. start_above k q m.0 hi s ms r.2 f) (does k p m.1).phase e
  where
    by_phase : ((q : Phase) → start_from k q ms ≡ Some s → m.0 ≤ s) → (q : Phase) → start_if q m.0 (start_from k q ms) ≡ Some s → lo ≤ s
    by_phase ih Connecting f = omega (arith, ih Connecting f, r.0)
    by_phase ih Creating f = omega (arith, ih Creating f, r.0)
    by_phase ih (Asking id) f = omega (arith, ih (Asking id) f, r.0)
    by_phase ih (Started id) f = omega (arith, the_same m.0 s f, r.0)

pub start_phase : (k : Asked) (p : Phase) (s : ℕ) (ms : List (ℕ × Message)) → start_from k p ms ≡ Some s → (id : ℕ) × (phase_after k p ms ≡ Started id)
unfolding start_from phase_after
start_phase k p s [] e = absurd cc
start_phase k p s (m ∷ ms) e = by_phase (λ q f. start_phase k q s ms f) (does k p m.1).phase e
  where
    by_phase : ((q : Phase) → start_from k q ms ≡ Some s → (id : ℕ) × (phase_after k q ms ≡ Started id)) → (q : Phase) → start_if q m.0 (start_from k q ms) ≡ Some s → (id : ℕ) × (phase_after k q ms ≡ Started id)
    by_phase ih Connecting f = ih Connecting f
    by_phase ih Creating f = ih Creating f
    by_phase ih (Asking id) f = ih (Asking id) f
    by_phase ih (Started id) f = (id, stays_started k id ms)

quiet_after : (k : Asked) (p : Phase) (lo hi s j : ℕ) (ms : List (ℕ × Message)) → Rise lo hi ms → start_from k p ms ≡ Some s → s < j → says_at j (louds (said_after k p ms)) ≡ []
unfolding says_at louds said_after start_from
quiet_after k p lo hi s j [] r e l = refl
quiet_after k p lo hi s j (m ∷ ms) r e l = by_phase (λ q f. quiet_after k q m.0 hi s j ms r.2 f l) (does k p m.1).phase e
  where
    head : m.0 < j → (says : List Message) (rest : List Message) → rest ≡ [] → said_if (m.0 == j) says ++ rest ≡ []
    head h says rest z = ap (λ c. said_if c says ++ rest) (ne_eqb m.0 j (λ q. omega (arith, q, h))) ∙ z

    by_phase : ((q : Phase) → start_from k q ms ≡ Some s → says_at j (louds (said_after k q ms)) ≡ []) → (q : Phase) → start_if q m.0 (start_from k q ms) ≡ Some s
        → said_if (m.0 == j) (loud (does k p m.1).says) ++ says_at j (louds (said_after k q ms)) ≡ []
    by_phase ih Connecting f = head (omega (arith, l, start_above k Connecting m.0 hi s ms r.2 f)) (loud (does k p m.1).says) (says_at j (louds (said_after k Connecting ms))) (ih Connecting f)
    by_phase ih Creating f = head (omega (arith, l, start_above k Creating m.0 hi s ms r.2 f)) (loud (does k p m.1).says) (says_at j (louds (said_after k Creating ms))) (ih Creating f)
    by_phase ih (Asking id) f = head (omega (arith, l, start_above k (Asking id) m.0 hi s ms r.2 f)) (loud (does k p m.1).says) (says_at j (louds (said_after k (Asking id) ms))) (ih (Asking id) f)
    by_phase ih (Started id) f = head (omega (arith, l, the_same m.0 s f)) (loud (does k p m.1).says) (says_at j (louds (said_after k (Started id) ms))) (quiet_started k id j ms)

-- ---- the places rise

rise_said : (k : Asked) (p : Phase) (lo hi : ℕ) (ms : List (ℕ × Message)) → Rise lo hi ms → Rise lo hi (louds (said_after k p ms))
unfolding louds said_after
rise_said k p lo hi [] r = r
rise_said k p lo hi (m ∷ ms) r = (r.0, r.1, rise_said k (does k p m.1).phase m.0 hi ms r.2)

follow_within : (w : Wish) (max from to : ℕ) (T : List Gave) → Follow w max from to T → from ≤ to
follow_within w max from to [] f = f
follow_within w max from to (g ∷ T) f = omega (arith, f.0, follow_within w max g.at to T f.3)

rise_gave : (w : Wish) (max id s from n : ℕ) (T : List Gave) → hand_bytes + s ≤ from → Follow w max from (hand_bytes + n) T → Rise s n (louds (map (gave_on id) T))
unfolding louds
rise_gave w max id s from n [] h f = tt
rise_gave w max id s from n (g ∷ T) h f =
    (omega (arith, h, f.0), omega (arith, follow_within w max g.at (hand_bytes + n) T f.3), rise_gave w max id (g.at - hand_bytes) g.at n T (omega (arith, h, f.0)) f.3)

-- ---- what was given

kind_loud : (kind : ℕ) → is_kind kind ≡ true → nat_lt 6 kind ≡ true
kind_loud kind e = grind (arith, nat_tests)

given_loud : (w : Wish) (max id : ℕ) (g : Given) → MayGive w max g → loud (sent_on id g ∷ []) ≡ sent_on id g ∷ []
unfolding loud
given_loud w max id (Send t) m = ap (λ b. keep b (sent_on id (Send t)) []) (kind_loud t.kind m.1)
given_loud w max id Finish m = refl

flat_gave : (w : Wish) (max id from to : ℕ) (T : List Gave) → Follow w max from to T → flat (louds (map (gave_on id) T)) ≡ sents id T
unfolding flat louds sents
flat_gave w max id from to [] f = refl
flat_gave w max id from to (g ∷ T) f =
    ap (λ t. t ++ flat (louds (map (gave_on id) T))) (given_loud w max id g.given f.1) ∙ ap (λ t. sent_on id g.given ∷ t) (flat_gave w max id g.at to T f.3)

-- ---- all that is owed

loud_at : (k : Asked) (ms : List (ℕ × Message)) (T : List Gave) (j : ℕ)
    → loud (at_count k ms T j) ≡ says_at j (louds (said_after k Connecting ms)) ++ says_at j (louds (map (gave_on (id_of (phase_of k ms))) T))
unfolding at_count
loud_at k ms T j =
    let a = said_after k Connecting ms in
    let b = map (gave_on (id_of (phase_of k ms))) T in
    loud_joined (acks_at first_window ms j) (says_at j a ++ says_at j b) ∙ ap (λ t. t ++ loud (says_at j a ++ says_at j b)) (acks_quiet first_window ms j)
    ∙ loud_joined (says_at j a) (says_at j b) ∙ ap (λ t. t ++ loud (says_at j b)) (loud_says j a) ∙ ap (λ t. says_at j (louds a) ++ t) (loud_says j b)

-- the two parts, where they meet at a count
loud_parts : (k : Asked) (n s from : ℕ) (ms : List (ℕ × Message)) (T : List Gave) → Rise 0 n ms → ((j : ℕ) → s < j → says_at j (louds (said_after k Connecting ms)) ≡ [])
    → Rise s n (louds (map (gave_on (id_of (phase_of k ms))) T)) → flat (louds (map (gave_on (id_of (phase_of k ms))) T)) ≡ sents (id_of (phase_of k ms)) T
    → loud (owed k n ms T) ≡ asked_by k (phase_of k ms) ++ sents (id_of (phase_of k ms)) T
unfolding loud owed
loud_parts k n s from ms T r q g e =
    let A = louds (said_after k Connecting ms) in
    let B = louds (map (gave_on (id_of (phase_of k ms))) T) in
    ap (λ t. connect k ∷ t) (loud_upto (at_count k ms T) n ∙ upto_same (λ j. loud (at_count k ms T j)) (λ j. says_at j A ++ says_at j B) n (λ j l. loud_at k ms T j)
    ∙ upto_split (λ j. says_at j A) (λ j. says_at j B) s n q (λ j l. says_below s n j B g l) ∙ ap (λ t. t ++ upto (λ j. says_at j B) n) (upto_says 0 n A (rise_said k Connecting 0 n ms r))
    ∙ ap (λ t. flat A ++ t) (upto_says s n B g ∙ e))
    ∙ ap (λ t. t ++ sents (id_of (phase_of k ms)) T) (asked_for k Connecting ms)

-- ALL THAT IS OWED, but for control messages: what is asked for by the phase, and then what was given
pub loud_owed : (k : Asked) (max n : ℕ) (ms : List (ℕ × Message)) (T : List Gave) → Rise 0 n ms → AreGiven k max n ms T
    → loud (owed k n ms T) ≡ asked_by k (phase_of k ms) ++ sents (id_of (phase_of k ms)) T
unfolding louds flat sents
loud_owed k max n ms [] r g = loud_parts k n n 0 ms [] r (λ j l. says_above 0 n j (louds (said_after k Connecting ms)) (rise_said k Connecting 0 n ms r) l) tt refl
loud_owed k max n ms (t ∷ T) r g =
    let id = id_of (phase_of k ms) in
    loud_parts k n g.0 (hand_bytes + g.0) ms (t ∷ T) r (λ j l. quiet_after k Connecting 0 n g.0 j ms r g.1 l) (rise_gave k.wish max id g.0 (hand_bytes + g.0) n (t ∷ T) (omega arith) g.2)
    (flat_gave k.wish max id (hand_bytes + g.0) (hand_bytes + n) (t ∷ T) g.2)

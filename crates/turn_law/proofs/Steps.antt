-- Two turns on one thread, step by step
use Rattle.std.proofs.Common.{inl, inr, ◌≡◌, ◌||◌, not, nat_le, ℕ, ◌-◌, min, Bool, true, false, List, [], ◌∷◌, ◌++◌, length, take, drop, Option, Some, None}
use Rattle.std.proofs.Common.{refl, sym, ap, ◌∙◌, subst, arith, append_assoc}
use Rattle.std.specs.List.{concat}
use Rattle.std.specs.Option.{is_some, option_map, unwrap_or}
use Rattle.std.proofs.lemmas.List.{append_cancel_left, length-take}
use Rattle.ack_window.specs.Outbound.{OutWindow, out_sent}
use Rattle.chunk_wire.specs.declared.message.Message.{Message}
use Rattle.command_dialog.specs.State.{State, playing_in}
use Rattle.command_dialog.specs.declared.types.Ask.{Ask}
use Rattle.command_dialog.specs.declared.types.Grant.{Grant}
use Rattle.command_dialog.specs.declared.types.Playing.{Playing}
use Rattle.relay_outside.specs.Heard.{Came, CameBytes, CameEnd, CameNotYet, CameFailed}
use Rattle.relay_outside.specs.MemLinkLaws.{first_bytes-front}
use Rattle.relay_outside.specs.MemLinks.{MemLinkState, MemHears, MemSays}
use Rattle.relay_outside.specs.Pieces.{cut_first, first_bytes, nonempty_from}
use Rattle.relay_outside.specs.declared.link.Said.{Said}
use Rattle.relay_outside.specs.declared.link.Said.TheVariants as said
use Rattle.session_owed.specs.Owed.{out}
use Rattle.session_owed.specs.Standing.{Past, sent_more, with_call}
use Rattle.session_owed.specs.Talk.{Own, hand_bytes, talk}
use Rattle.stream_model.specs.declared.calls.Call.{Call}
use Rattle.stream_model.specs.declared.calls.Call.TheVariants as call
use Rattle.stream_model.specs.declared.calls.Entry.{Entry}
use Rattle.stream_model.specs.declared.replies.Reply.{Reply}
use Rattle.stream_registry.specs.Books.{SoleState, SeenState}
use Rattle.stream_registry.specs.Told.{Step}
use Rattle.relay_session.specs.Feeding.{Firm, Fixed, Heard as HeardMore, IsCalled, IsOthers, IsSent, heard_of}
use Rattle.relay_session.specs.Keeping.{StandsBefore, after_greeting, past_of}
use Rattle.relay_session.specs.Owing.{pending}
use Rattle.relay_session.specs.SeatState.{SeatState, active_at, active_then, place_of, stays}
use Rattle.relay_session.specs.Session.{does, entry_by, outbound_by, place_by, session}
use Rattle.relay_session.specs.SessionState.{Lasting, lasting_of}
use Rattle.relay_session.specs.Turns.{AfterCall, AfterKept, CallAsked, CallMade, CalledBy, CameAs, EmptyBy, EndedBy, Fed, FedAs, FedBy, Gone, Input, InputBy}
use Rattle.relay_session.specs.Turns.{IsEnded, IsFilled, KeptBy, Loudly, Quietly, QuitBy, SendBy, Sent, SentAs, StandsOn, Stopping, TakeMade, Taken, TakenBy}
use Rattle.relay_session.specs.Turns.{answer, is_held_back, is_hungry, is_nil, is_not_yet, life, take_entry, takes, takes_if}
use Rattle.relay_session.specs.declared.core_fields.Core.{Core}
use Rattle.relay_session.specs.declared.end.End.{End}
use Rattle.relay_session.specs.declared.end.End.TheVariants as end
use Rattle.relay_session.specs.declared.seat_answers.Active.{Active}
use Rattle.relay_session.specs.declared.seat_answers.Made.{Made}
use Rattle.relay_session.specs.declared.seat_answers.Made.TheVariants as made
use Rattle.relay_session.specs.declared.turn.Turn.{Turn}
use Rattle.turn_law.specs.Twins.{Alike, HasRoom, IsPlain, LeftBy, Parting, SameCore, SameLeft, SamePort, SameSeat, SameTurn, SoleAsks, SoleLife}
use Rattle.turn_law.proofs.Calls.{Excludes, active_same, answered, grown_same, reply_by, reply_same}
use Rattle.turn_law.proofs.Feeds.{FaresIn, after_excludes, bytes_of, end_by, fares_at, byte_of, loud_fares, quiet_all, quiet_fares, stop_front, stop_halts}
use Rattle.turn_law.proofs.Feeds.{take_excludes}
use Rattle.turn_law.proofs.Reading.{Fate, Heard, Quiet, heard_or, heard_with, one_fate}

-- ---- what alike sessions have in common beside

abbrev owed_by : (Ask → Grant) → Lasting → Past → List ℕ
owed_by desk k p = out (session k.who k.window desk) p.x p.ms p.calls

abbrev state_by : (Ask → Grant) → Lasting → Past → State
state_by desk k p = (talk (session k.who k.window desk) p.calls p.ms).state

pub pending_same : (desk : Ask → Grant) (c d : Core) → lasting_of d ≡ lasting_of c → past_of d ≡ past_of c → StandsBefore desk c → StandsBefore desk d
    → pending d.outgoing ≡ pending c.outgoing
pending_same desk c d k p s t =
    let owed : owed_by desk (lasting_of d) (past_of d) ≡ owed_by desk (lasting_of c) (past_of c) =
    ap (λ (z : Lasting). owed_by desk z (past_of d)) k ∙ ap (λ (z : Past). owed_by desk (lasting_of c) z) p in
    let sent : d.sent ≡ c.sent = ap (λ (z : Past). z.sent) p in
    append_cancel_left c.sent (pending d.outgoing) (pending c.outgoing) (ap (λ (l : List ℕ). l ++ pending d.outgoing) (sym sent)
    ∙ (t.owes ∙ (owed ∙ sym s.owes)))

pub state_same : (desk : Ask → Grant) (c d : Core) → lasting_of d ≡ lasting_of c → past_of d ≡ past_of c → StandsBefore desk c → StandsBefore desk d
    → d.dialog ≡ c.dialog
state_same desk c d k p s t = t.state ∙ (ap (λ (z : Lasting). state_by desk z (past_of d)) k
    ∙ (ap (λ (z : Past). state_by desk (lasting_of c) z) p ∙ sym s.state))

abbrev takes_by : List ℕ → OutWindow → Option Entry → State → Option Playing
takes_by p o k s = takes_if (is_nil p) (is_held_back o) (is_some k) (playing_in s.phase)

takes_same : (desk : Ask → Grant) (c d : Core) → SameCore c d → StandsBefore desk c → StandsBefore desk d → takes d ≡ takes c
takes_same desk c d h s t =
    ap (λ (l : List ℕ). takes_by l d.outbound d.kept d.dialog) (pending_same desk c d h.lasting h.past s t)
    ∙ (ap (λ (o : OutWindow). takes_by (pending c.outgoing) o d.kept d.dialog) h.outbound
    ∙ (ap (λ (p : Past). takes_by (pending c.outgoing) c.outbound p.kept d.dialog) h.past
    ∙ ap (λ (x : State). takes_by (pending c.outgoing) c.outbound c.kept x) (state_same desk c d h.lasting h.past s t)))

abbrev entry_with : ℕ → ℕ → Call → Entry
entry_with who at c = record { who = who; at = at; call = c }

take_entry_same : (c d : Core) (p : Playing) → SameCore c d → take_entry d p ≡ take_entry c p
take_entry_same c d p h =
    ap (λ (k : Lasting). entry_with k.who (length d.x) (call.Take p.player p.want)) h.lasting
    ∙ ap (λ (z : Past). entry_with c.who (length z.x) (call.Take p.player p.want)) h.past

-- ---- steps that change a core

filled_stands : (desk : Ask → Grant) (v c : Core) → IsFilled v c → StandsBefore desk v → StandsBefore desk c
filled_stands desk v c f st = subst (λ (x : Core). StandsBefore desk x) (sym f.rest) (record {
  early = st.early;
  talks = st.talks;
  owes = ap (λ (l : List ℕ). v.sent ++ l) f.bytes ∙ st.owes;
  writer = f.writer ∙ st.writer;
  window = st.window;
  state = st.state;
})

alike_filled : (desk : Ask → Grant) (v v' : SoleLife) (c c' : Core) → IsFilled v.parts c → IsFilled v'.parts c' → Alike desk v v'
    → Alike desk (life c v.input v.port v.seat) (life c' v'.input v'.port v'.seat)
alike_filled desk v v' c c' f g h = record {
  core = record {
    lasting = ap lasting_of g.rest ∙ (h.core.lasting ∙ sym (ap lasting_of f.rest));
    place = ap (λ (x : Core). x.place) g.rest ∙ (h.core.place ∙ sym (ap (λ (x : Core). x.place) f.rest));
    past = ap past_of g.rest ∙ (h.core.past ∙ sym (ap past_of f.rest));
    fed = ap (λ (x : Core). x.fed) g.rest ∙ (h.core.fed ∙ sym (ap (λ (x : Core). x.fed) f.rest));
    outbound = ap (λ (x : Core). x.outbound) g.rest ∙ (h.core.outbound ∙ sym (ap (λ (x : Core). x.outbound) f.rest));
    others = g.others ∙ (h.core.others ∙ sym f.others);
  };
  input = h.input;
  seat = h.seat;
  port = h.port;
  first = filled_stands desk v.parts c f h.first;
  second = filled_stands desk v'.parts c' g h.second;
}

abbrev firm_lasting : Firm → Lasting
firm_lasting f = record { who = f.who; window = f.window; max = f.max }

abbrev fixed_lasting : Fixed → Lasting
fixed_lasting f = record { who = f.who; window = f.window; max = f.max }

-- how many of the pending bytes are of no item, where what came to be owed is of none
others_same : (old old' new new' : Core) → pending old'.outgoing ≡ pending old.outgoing → pending new'.outgoing ≡ pending new.outgoing
    → old'.outgoing.others ≡ old.outgoing.others
    → IsOthers old new → IsOthers old' new' → new'.outgoing.others ≡ new.outgoing.others
others_same old old' new new' p q o a b = omega (arith, ap length p, ap length q, o, a, b)

-- ---- a call that was answered

abbrev one_step : Entry → Reply → List Step
one_step e r = (e, r) ∷ []

asked_seat : (x x' y y' : SoleState) (a a' b b' : SeatState SeenState) (place place' : ℕ) (e e' : Entry) (r r' : Reply) → place' ≡ place → r' ≡ r
    → SoleAsks x a place e (made.Answer r) y b → SoleAsks x' a' place' e' (made.Answer r') y' b' → SameSeat a a' → SameSeat b b'
asked_seat x x' y y' a a' b b' place place' e e' r r' pe re k k' h =
    let spot : place_of b'.spot ≡ place_of b.spot =
    k'.asked.spot ∙ (ap (λ (n : ℕ). stays n (made.Answer r')) pe ∙ (ap (λ (z : Reply). stays place (made.Answer z)) re ∙ sym k.asked.spot)) in
    let was : active_at a'.spot a'.active place' ≡ active_at a.spot a.active place = ap (λ (n : ℕ). active_at a'.spot a'.active n) pe ∙ h.granted place in
    let active : b'.active ≡ b.active =
    k'.asked.active ∙ (ap (λ (z : Active). active_then (made.Answer r') z) was
    ∙ (ap (λ (z : Reply). active_then (made.Answer z) (active_at a.spot a.active place)) re ∙ sym k.asked.active)) in
    record { spot = spot; granted = λ q. active_same b.spot b'.spot b.active b'.active q spot active }

asked_port : (x x' y y' : SoleState) (a a' b b' : SeatState SeenState) (place place' : ℕ) (e e' : Entry) (r r' : Reply) → place' ≡ place → e' ≡ e → r' ≡ r
    → SoleAsks x a place e (made.Answer r) y b → SoleAsks x' a' place' e' (made.Answer r') y' b' → SamePort x x' → SamePort y y'
asked_port x x' y y' a a' b b' place place' e e' r r' pe ee re k k' p =
    grown_same x x' y y' place place' (one_step e r) (one_step e' r') pe (ap (λ (z : Entry). one_step z r') ee ∙ ap (λ (z : Reply). one_step e z) re) p
    k.asked.fixed k.grows.here k.grows.elsewhere k'.asked.fixed k'.grows.here k'.grows.elsewhere

module _ (v v' k k' : SoleLife) (e e' : Entry) (r r' : Reply) (ee : e' ≡ e) (re : r' ≡ r) (c : IsCalled v.parts e r k.parts)
    (c' : IsCalled v'.parts e' r' k'.parts) (core : SameCore v.parts v'.parts) where
  called_lasting : lasting_of k'.parts ≡ lasting_of k.parts
  called_lasting = ap firm_lasting c'.firm ∙ (core.lasting ∙ sym (ap firm_lasting c.firm))

  called_past : past_of k'.parts ≡ past_of k.parts
  called_past =
      c'.past ∙ (ap (λ (p : Past). with_call p e' r') core.past
      ∙ (ap (λ (z : Entry). with_call (past_of v.parts) z r') ee ∙ (ap (λ (z : Reply). with_call (past_of v.parts) e z) re ∙ sym c.past)))

  called_core : k'.parts.outgoing.others ≡ k.parts.outgoing.others → SameCore k.parts k'.parts
  called_core o = record {
    lasting = called_lasting;
    place = ap (λ (f : Firm). f.place) c'.firm ∙ (core.place ∙ sym (ap (λ (f : Firm). f.place) c.firm));
    past = called_past;
    fed = ap (λ (f : Firm). f.fed) c'.firm ∙ (core.fed ∙ sym (ap (λ (f : Firm). f.fed) c.firm));
    outbound = c'.outbound ∙ (core.outbound ∙ sym c.outbound);
    others = o;
  }

same_some : (o p : Option ℕ) (a b : ℕ) → o ≡ Some a → p ≡ Some b → p ≡ o → b ≡ a
same_some o p a b s t e = ap (λ (z : Option ℕ). unwrap_or z 0) (sym t ∙ (e ∙ s))

-- a call that waited was answered in both
call_alike : (desk : Ask → Grant) (v v' m m' : SoleLife) (e : Entry) (came came' : Made) (k : CallAsked SoleAsks v e came m)
    (k' : CallAsked SoleAsks v' e came' m')
    → came ≡ made.Answer (reply_by v.port k.place e) → came' ≡ made.Answer (reply_by v'.port k'.place e) → IsOthers v.parts m.parts → IsOthers v'.parts m'.parts
    → StandsOn v.parts m.parts → StandsOn v'.parts m'.parts → Alike desk v v' → Alike desk m m'
call_alike desk v v' m m' e came came' k k' c c' o o' st st' h =
    let r : Reply = reply_by v.port k.place e in
    let r' : Reply = reply_by v'.port k'.place e in
    let pe : k'.place ≡ k.place = same_some v.parts.place v'.parts.place k.place k'.place k.there k'.there h.core.place in
    let re : r' ≡ r = reply_same v.port v'.port k.place k'.place e e pe refl h.port in
    let a : SoleAsks v.port v.seat k.place e (made.Answer r) m.port m.seat = subst (λ (z : Made). SoleAsks v.port v.seat k.place e z m.port m.seat) c k.asked in
    let a' : SoleAsks v'.port v'.seat k'.place e (made.Answer r') m'.port m'.seat =
    subst (λ (z : Made). SoleAsks v'.port v'.seat k'.place e z m'.port m'.seat) c' k'.asked in
    let d : IsCalled v.parts e r m.parts = subst (λ (z : Made). CallMade v e z m) c k.called in
    let d' : IsCalled v'.parts e r' m'.parts = subst (λ (z : Made). CallMade v' e z m') c' k'.called in
    let first : StandsBefore desk m.parts = (st desk).stands h.first in
    let second : StandsBefore desk m'.parts = (st' desk).stands h.second in
    let lasting : lasting_of m'.parts ≡ lasting_of m.parts = called_lasting v v' m m' e e r r' refl re d d' h.core in
    let past : past_of m'.parts ≡ past_of m.parts = called_past v v' m m' e e r r' refl re d d' h.core in
    let others : m'.parts.outgoing.others ≡ m.parts.outgoing.others =
    others_same v.parts v'.parts m.parts m'.parts (pending_same desk v.parts v'.parts h.core.lasting h.core.past h.first h.second)
    (pending_same desk m.parts m'.parts lasting past first second) h.core.others o o' in
    record {
      core = called_core v v' m m' e e r r' refl re d d' h.core others;
      input = k'.input ∙ (h.input ∙ sym k.input);
      seat = asked_seat v.port v'.port m.port m'.port v.seat v'.seat m.seat m'.seat k.place k'.place e e r r' pe re a a' h.seat;
      port = asked_port v.port v'.port m.port m'.port v.seat v'.seat m.seat m'.seat k.place k'.place e e r r' pe refl re a a' h.port;
      first = first;
      second = second;
    }

-- ---- feeding

abbrev past_with : List ℕ → List (ℕ × Message) → List Own → Option Entry → List ℕ → Past
past_with x ms calls kept sent = record { x = x; ms = ms; calls = calls; kept = kept; sent = sent }

past_is : (c d : Core) → d.x ≡ c.x → d.reader.given ≡ c.reader.given → d.calls ≡ c.calls → d.kept ≡ c.kept → d.sent ≡ c.sent → past_of d ≡ past_of c
past_is c d x ms calls kept sent =
    ap (λ (z : List ℕ). past_with z d.reader.given d.calls d.kept d.sent) x
    ∙ (ap (λ (z : List (ℕ × Message)). past_with c.x z d.calls d.kept d.sent) ms
    ∙ (ap (λ (z : List Own). past_with c.x c.reader.given z d.kept d.sent) calls
    ∙ (ap (λ (z : Option Entry). past_with c.x c.reader.given c.calls z d.sent) kept
    ∙ ap (λ (z : List ℕ). past_with c.x c.reader.given c.calls c.kept z) sent)))

-- what is known of two that were fed the same, and heard the same
fed_alike : (desk : Ask → Grant) (v v' : SoleLife) (c c' : Core) (left left' : List ℕ) → c'.x ≡ c.x → heard_of c' ≡ heard_of c → left' ≡ left
    → (lasting_of c ≡ lasting_of v.parts) × (c.calls ≡ v.parts.calls) × (c.sent ≡ v.parts.sent)
    → (lasting_of c' ≡ lasting_of v'.parts) × (c'.calls ≡ v'.parts.calls) × (c'.sent ≡ v'.parts.sent)
    → IsOthers v.parts c → IsOthers v'.parts c' → StandsBefore desk c → StandsBefore desk c' → c.fed ≡ length c.x → c'.fed ≡ length c'.x → Alike desk v v'
    → Alike desk (life c left v.port v.seat) (life c' left' v'.port v'.seat)
fed_alike desk v v' c c' left left' x heard rest f f' o o' st st' n n' h =
    let calls : v'.parts.calls ≡ v.parts.calls = ap (λ (p : Past). p.calls) h.core.past in
    let sent : v'.parts.sent ≡ v.parts.sent = ap (λ (p : Past). p.sent) h.core.past in
    let lasting : lasting_of c' ≡ lasting_of c = f'.0 ∙ (h.core.lasting ∙ sym f.0) in
    let past : past_of c' ≡ past_of c = past_is c c' x (ap (λ (k : HeardMore). k.given) heard) (f'.1 ∙ (calls ∙ sym f.1))
    (ap (λ (k : HeardMore). k.kept) heard) (f'.2 ∙ (sent ∙ sym f.2)) in
    record {
      core = record {
        lasting = lasting;
        place = ap (λ (k : HeardMore). k.place) heard;
        past = past;
        fed = n' ∙ (ap length x ∙ sym n);
        outbound = ap (λ (k : HeardMore). k.outbound) heard;
        others = others_same v.parts v'.parts c c' (pending_same desk v.parts v'.parts h.core.lasting h.core.past h.first h.second)
            (pending_same desk c c' lasting past st st') h.core.others o o';
      };
      input = rest;
      seat = h.seat;
      port = h.port;
      first = st;
      second = st';
    }

abbrev heard_parts : List (ℕ × Message) → State → Option Entry → OutWindow → Option ℕ → HeardMore
heard_parts given state kept outbound place = record { given = given; state = state; kept = kept; outbound = outbound; place = place }

abbrev hears_so : (Ask → Grant) → List (ℕ × Message) → ℕ → State → OutWindow → Option ℕ → ℕ → Message → HeardMore
hears_so desk given who s o place n m = record {
  given = given ++ (n - hand_bytes, m) ∷ [];
  state = (does desk s m).state;
  kept = entry_by who n (does desk s m).makes;
  outbound = outbound_by o m;
  place = place_by desk s place m;
}

heard_same : (desk : Ask → Grant) (c d : Core) (n k : ℕ) (m q : Message) → SameCore c d → d.dialog ≡ c.dialog → k ≡ n → q ≡ m
    → hears_so desk d.reader.given d.who d.dialog d.outbound d.place k q ≡ hears_so desk c.reader.given c.who c.dialog c.outbound c.place n m
heard_same desk c d n k m q h s ke qe =
    ap (λ (p : Past). hears_so desk p.ms d.who d.dialog d.outbound d.place k q) h.past
    ∙ (ap (λ (z : Lasting). hears_so desk c.reader.given z.who d.dialog d.outbound d.place k q) h.lasting
    ∙ (ap (λ (z : State). hears_so desk c.reader.given c.who z d.outbound d.place k q) s
    ∙ (ap (λ (z : OutWindow). hears_so desk c.reader.given c.who c.dialog z d.place k q) h.outbound
    ∙ (ap (λ (z : Option ℕ). hears_so desk c.reader.given c.who c.dialog c.outbound z k q) h.place
    ∙ (ap (λ (z : ℕ). hears_so desk c.reader.given c.who c.dialog c.outbound c.place z q) ke
    ∙ ap (λ (z : Message). hears_so desk c.reader.given c.who c.dialog c.outbound c.place n z) qe)))))

-- ---- the link

-- memory was not wanting
abbrev IsSaid : Said → Type 0
IsSaid (said.Took n) = Unit {0}
IsSaid said.NotYet = Unit {0}
IsSaid said.Failed = Unit {0}
IsSaid said.OutOfMemory = ⊥

module _ (l : MemLinkState) where
  -- pieces with nothing in them give nothing
  no_bytes : (b : List ℕ) → Some b ≡ first_bytes 4096 (nonempty_from l.pieces) → concat l.pieces ≡ [] → ⊥
  no_bytes b e none =
      let front = first_bytes-front 4096 l.pieces b (omega arith) e in
      let long : length b ≡ length (take (length b) (concat l.pieces)) = ap length front.first in
      omega (arith, front.count.0, long, length-take (length b) (concat l.pieces), ap length none)

  true_not : l.recv_fails ≡ false → l.recv_fails ≡ true → ⊥
  true_not e f = (let t : false ≡ true = sym e ∙ f in absurd (cc))

  end_not : l.ended ≡ false → l.ended ≡ true → ⊥
  end_not e f = (let t : false ≡ true = sym e ∙ f in absurd (cc))

  abbrev gave_so : List ℕ → MemLinkState
  gave_so b = record l { pieces = cut_first 4096 (nonempty_from l.pieces); gave = l.gave ++ b }

  -- what a link gives is a function of the link
  pub hears_same : (c d : Came) (m k : MemLinkState) → MemHears l 4096 c m → MemHears l 4096 d k → (d ≡ c) × (k ≡ m)
  hears_same (CameBytes b) (CameBytes d) m k s t =
      let same : d ≡ b = ap (λ (o : Option (List ℕ)). unwrap_or o []) (t.1 ∙ sym s.1) in
      (ap CameBytes same, t.2 ∙ (ap gave_so same ∙ sym s.2))
  hears_same (CameBytes b) CameEnd m k s t = absurd (no_bytes b s.1 t.1)
  hears_same (CameBytes b) CameNotYet m k s t = absurd (no_bytes b s.1 t.1)
  hears_same (CameBytes b) CameFailed m k s t = absurd (true_not s.0 t.0)
  hears_same CameEnd (CameBytes d) m k s t = absurd (no_bytes d t.1 s.1)
  hears_same CameEnd CameEnd m k s t = (refl, t.3 ∙ sym s.3)
  hears_same CameEnd CameNotYet m k s t = absurd (end_not t.2 s.2)
  hears_same CameEnd CameFailed m k s t = absurd (true_not s.0 t.0)
  hears_same CameNotYet (CameBytes d) m k s t = absurd (no_bytes d t.1 s.1)
  hears_same CameNotYet CameEnd m k s t = absurd (end_not s.2 t.2)
  hears_same CameNotYet CameNotYet m k s t = (refl, t.3 ∙ sym s.3)
  hears_same CameNotYet CameFailed m k s t = absurd (true_not s.0 t.0)
  hears_same CameFailed (CameBytes d) m k s t = absurd (true_not t.0 s.0)
  hears_same CameFailed CameEnd m k s t = absurd (true_not t.0 s.0)
  hears_same CameFailed CameNotYet m k s t = absurd (true_not t.0 s.0)
  hears_same CameFailed CameFailed m k s t = (refl, t.1 ∙ sym s.1)

  send_not : l.send_fails ≡ false → l.send_fails ≡ true → ⊥
  send_not e f = (let t : false ≡ true = sym e ∙ f in absurd (cc))

  abbrev took_so : List ℕ → ℕ → MemLinkState
  took_so piece n = record l { sent = l.sent ++ take n piece; room = option_map (λ (room : ℕ). room - n) l.room }

  -- and so is what it takes of a piece
  pub says_same : (piece : List ℕ) (p q : Said) (m k : MemLinkState) → IsSaid p → IsSaid q → MemSays l piece p m → MemSays l piece q k → (q ≡ p) × (k ≡ m)
  says_same piece (said.Took n) (said.Took j) m k i o s t =
      let same : j ≡ n = t.2 ∙ sym s.2 in
      (ap said.Took same, t.3 ∙ (ap (took_so piece) same ∙ sym s.3))
  says_same piece (said.Took n) said.NotYet m k i o s t = absurd (s.1 t.1)
  says_same piece (said.Took n) said.Failed m k i o s t = absurd (send_not s.0 t.0)
  says_same piece said.NotYet (said.Took j) m k i o s t = absurd (t.1 s.1)
  says_same piece said.NotYet said.NotYet m k i o s t = (refl, t.2 ∙ sym s.2)
  says_same piece said.NotYet said.Failed m k i o s t = absurd (send_not s.0 t.0)
  says_same piece said.Failed (said.Took j) m k i o s t = absurd (send_not t.0 s.0)
  says_same piece said.Failed said.NotYet m k i o s t = absurd (send_not t.0 s.0)
  says_same piece said.Failed said.Failed m k i o s t = (refl, t.1 ∙ sym s.1)
  says_same piece (said.Took n) said.OutOfMemory m k i o s t = absurd o
  says_same piece said.NotYet said.OutOfMemory m k i o s t = absurd o
  says_same piece said.Failed said.OutOfMemory m k i o s t = absurd o
  says_same piece said.OutOfMemory q m k i o s t = absurd i

-- bytes were sent
sent_alike : (desk : Ask → Grant) (v v' : SoleLife) (n : ℕ) (c c' : Core) → IsSent v.parts n c → IsSent v'.parts n c' → StandsOn v.parts c
    → StandsOn v'.parts c' → Alike desk v v'
    → Alike desk (life c v.input v.port v.seat) (life c' v'.input v'.port v'.seat)
sent_alike desk v v' n c c' i i' st st' h =
    let was : pending v'.parts.outgoing ≡ pending v.parts.outgoing = pending_same desk v.parts v'.parts h.core.lasting h.core.past h.first h.second in
    let now : pending c'.outgoing ≡ pending c.outgoing = i'.left ∙ (ap (λ (l : List ℕ). drop n l) was ∙ sym i.left) in
    record {
      core = record {
        lasting = ap firm_lasting i'.firm ∙ (h.core.lasting ∙ sym (ap firm_lasting i.firm));
        place = ap (λ (f : Firm). f.place) i'.firm ∙ (h.core.place ∙ sym (ap (λ (f : Firm). f.place) i.firm));
        past = i'.past ∙ (ap (λ (p : Past). sent_more p (take n (pending v'.parts.outgoing))) h.core.past
            ∙ (ap (λ (l : List ℕ). sent_more (past_of v.parts) (take n l)) was ∙ sym i.past));
        fed = ap (λ (f : Firm). f.fed) i'.firm ∙ (h.core.fed ∙ sym (ap (λ (f : Firm). f.fed) i.firm));
        outbound = i'.outbound ∙ (ap (λ (o : OutWindow). out_sent o (after_greeting v'.parts.sent n)) h.core.outbound
            ∙ (ap (λ (p : Past). out_sent v.parts.outbound (after_greeting p.sent n)) h.core.past ∙ sym i.outbound));
        others = i'.others ∙ (ap (λ (k : ℕ). min k (length (pending c'.outgoing))) h.core.others
            ∙ (ap (λ (l : List ℕ). min v.parts.outgoing.others (length l)) now ∙ sym i.others));
      };
      input = h.input;
      seat = h.seat;
      port = h.port;
      first = (st desk).stands h.first;
      second = (st' desk).stands h.second;
    }

-- ---- the walk

said_by : (a : Turn) (w : SoleLife) (s : IsPlain a w) (desk : Ask → Grant) (q : Said) (v : SoleLife) (l m : MemLinkState) (moved : Bool)
    → SentAs SoleAsks desk MemHears MemSays q v l moved a w m → IsSaid q
said_by a w s desk (said.Took n) v l m moved t = tt
said_by a w s desk said.NotYet v l m moved t = tt
said_by a w s desk said.Failed v l m moved t = tt
said_by a w s desk said.OutOfMemory v l m moved t = absurd (s.memory t.0.ended)

kept_excludes : (a : Turn) (w : SoleLife) (s : IsPlain a w) (desk : Ask → Grant) (quit : Bool) (v k : SoleLife) (came : Made) (l m : MemLinkState)
    → AfterKept SoleAsks desk MemHears MemSays quit v came k l a w m → Excludes came k.port
kept_excludes a w s desk quit v k (made.Answer r) l m t = tt
kept_excludes a w s desk quit v k (made.Busy f) l m t = tt
kept_excludes a w s desk quit v k (made.Worn f) l m t = subst HasRoom t.0.port s.room
kept_excludes a w s desk quit v k (made.OutOfMemory f) l m t = absurd (s.memory t.0.ended)

module _ (desk : Ask → Grant) (a : Turn) (w : SoleLife) (a' : Turn) (w' : SoleLife) (s : IsPlain a w) (s' : IsPlain a' w') where
  abbrev Done : Type 0
  Done = SameLeft desk a w a' w'

  same_living : (moved : Bool) → a ≡ answer moved → a' ≡ answer moved → Alike desk w w' → Done
  same_living true e e' h = record { answer = e' ∙ sym e; left = subst (λ (b : Turn). LeftBy b desk w w') (sym e) h }
  same_living false e e' h = record { answer = e' ∙ sym e; left = subst (λ (b : Turn). LeftBy b desk w w') (sym e) h }

  parted : (e : End) (v v' : SoleLife) → v'.parts.fed ≡ v.parts.fed → v'.parts.who ≡ v.parts.who → v'.parts.kept ≡ v.parts.kept → SameSeat v.seat v'.seat
      → SamePort v.port v'.port
      → IsEnded e v a w → IsEnded e v' a' w' → Done
  parted e v v' fed who kept seat port i i' =
      let gone : Parting w w' = record {
        who = ap (λ (g : Gone). g.who) i'.gone ∙ (who ∙ sym (ap (λ (g : Gone). g.who) i.gone));
        fed = ap (λ (g : Gone). g.fed) i'.gone ∙ (fed ∙ sym (ap (λ (g : Gone). g.fed) i.gone));
        kept = ap (λ (g : Gone). g.kept) i'.gone ∙ (kept ∙ sym (ap (λ (g : Gone). g.kept) i.gone));
        seat = subst (λ (z : SeatState SeenState). SameSeat z w'.seat) (sym i.seat) (subst (λ (z : SeatState SeenState). SameSeat v.seat z) (sym i'.seat) seat);
        port = subst (λ (z : SoleState). SamePort z w'.port) (sym i.port) (subst (λ (z : SoleState). SamePort v.port z) (sym i'.port) port);
      } in
      record { answer = i'.ended ∙ sym i.ended; left = subst (λ (b : Turn). LeftBy b desk w w') (sym i.ended) gone }

  parted_alike : (e : End) (v v' : SoleLife) → Alike desk v v' → IsEnded e v a w → IsEnded e v' a' w' → Done
  parted_alike e v v' h i i' = parted e v v' h.core.fed (ap (λ (k : Lasting). k.who) h.core.lasting)
      (ap (λ (p : Past). p.kept) h.core.past) h.seat h.port i i'

  -- ---- step 6

  take_both : (v v' : SoleLife) (moved : Bool) (place place' : ℕ) (e e' : Entry) (r r' : Reply) → place' ≡ place → e' ≡ e → r' ≡ r
      → SoleAsks v.port v.seat place e (made.Answer r) w.port w.seat
      → SoleAsks v'.port v'.seat place' e' (made.Answer r') w'.port w'.seat → TakeMade v e moved (made.Answer r) w a
      → TakeMade v' e' moved (made.Answer r') w' a' → w.input ≡ v.input → w'.input ≡ v'.input → Alike desk v v' → Done
  take_both v v' moved place place' e e' r r' pe ee re k k' (c, inl u) (c', inl u') i i' h =
      let first : StandsBefore desk w.parts = (u.2 desk).stands h.first in
      let second : StandsBefore desk w'.parts = (u'.2 desk).stands h.second in
      same_living (moved || not (is_not_yet r)) u.0 (u'.0 ∙ ap (λ (z : Reply). answer (moved || not (is_not_yet z))) re) (record {
        core = called_core v v' w w' e e' r r' ee re c c' h.core (u'.1 ∙ sym u.1);
        input = i' ∙ (h.input ∙ sym i);
        seat = asked_seat v.port v'.port w.port w'.port v.seat v'.seat w.seat w'.seat place place' e e' r r' pe re k k' h.seat;
        port = asked_port v.port v'.port w.port w'.port v.seat v'.seat w.seat w'.seat place place' e e' r r' pe ee re k k' h.port;
        first = first;
        second = second;
      })
  take_both v v' moved place place' e e' r r' pe ee re k k' (c, inr u) t' i i' h = absurd (s.memory u)
  take_both v v' moved place place' e e' r r' pe ee re k k' (c, inl u) (c', inr u') i i' h = absurd (s'.memory u')

  taken_by_both : (o : Option Playing) (v v' : SoleLife) (moved : Bool) → TakenBy SoleAsks o v moved a w → TakenBy SoleAsks o v' moved a' w'
      → Alike desk v v' → Done
  taken_by_both None v v' moved t t' h = same_living moved t.0 t'.0
      (subst (λ (z : SoleLife). Alike desk z w') (sym t.1) (subst (λ (z : SoleLife). Alike desk v z) (sym t'.1) h))
  taken_by_both (Some p) v v' moved t t' h =
      let e : Entry = take_entry v.parts p in
      let e' : Entry = take_entry v'.parts p in
      let ee : e' ≡ e = take_entry_same v.parts v'.parts p h.core in
      let pe : t'.place ≡ t.place = same_some v.parts.place v'.parts.place t.place t'.place t.there t'.there h.core.place in
      let r : Reply = reply_by v.port t.place e in
      let r' : Reply = reply_by v'.port t'.place e' in
      let c : t.came ≡ made.Answer r = answered v.port v.seat t.place e t.came w.port w.seat t.asked (take_excludes a w s v e moved t.came t.taken) in
      let c' : t'.came ≡ made.Answer r' = answered v'.port v'.seat t'.place e' t'.came w'.port w'.seat t'.asked
      (take_excludes a' w' s' v' e' moved t'.came t'.taken) in
      take_both v v' moved t.place t'.place e e' r r' pe ee (reply_same v.port v'.port t.place t'.place e e' pe ee h.port)
      (subst (λ (z : Made). SoleAsks v.port v.seat t.place e z w.port w.seat) c t.asked)
      (subst (λ (z : Made). SoleAsks v'.port v'.seat t'.place e' z w'.port w'.seat) c' t'.asked)
      (subst (λ (z : Made). TakeMade v e moved z w a) c t.taken) (subst (λ (z : Made). TakeMade v' e' moved z w' a') c' t'.taken) t.input t'.input h

  taken_both : (v v' : SoleLife) (moved : Bool) → Taken SoleAsks v moved a w → Taken SoleAsks v' moved a' w' → Alike desk v v' → Done
  taken_both v v' moved (inl t) (inl t') h =
      let g = alike_filled desk v v' t.0 t'.0 t.1 t'.1 h in
      taken_by_both (takes t.0) (life t.0 v.input v.port v.seat) (life t'.0 v'.input v'.port v'.seat) moved t.2
      (subst (λ (o : Option Playing). TakenBy SoleAsks o (life t'.0 v'.input v'.port v'.seat) moved a' w')
      (takes_same desk t.0 t'.0 g.core g.first g.second) t'.2) g
  taken_both v v' moved (inr t) t' h = absurd (s.memory t.ended)
  taken_both v v' moved (inl t) (inr t') h = absurd (s'.memory t'.ended)

  -- ---- a call that waited, and then step 6

  after_both : (v v' m m' : SoleLife) (e : Entry) (came came' : Made) (k : CallAsked SoleAsks v e came m) (k' : CallAsked SoleAsks v' e came' m')
      → came ≡ made.Answer (reply_by v.port k.place e) → came' ≡ made.Answer (reply_by v'.port k'.place e) → (r r' : Reply)
      → AfterCall SoleAsks v (made.Answer r) m a w → AfterCall SoleAsks v' (made.Answer r') m' a' w' → Alike desk v v' → Done
  after_both v v' m m' e came came' k k' c c' r r' (inl t) (inl t') h =
      taken_both m m' true t.1 t'.1 (call_alike desk v v' m m' e came came' k k' c c' t.0 t'.0 t.2 t'.2 h)
  after_both v v' m m' e came came' k k' c c' r r' (inr t) t' h = absurd (s.memory t.ended)
  after_both v v' m m' e came came' k k' c c' r r' (inl t) (inr t') h = absurd (s'.memory t'.ended)

  called_both : (o : Option Entry) (v v' : SoleLife) → CalledBy SoleAsks o v a w → CalledBy SoleAsks o v' a' w' → Alike desk v v' → Done
  called_both None v v' t t' h = taken_both v v' true t t' h
  called_both (Some e) v v' t t' h =
      let k = t.1.1.0 in
      let k' = t'.1.1.0 in
      let c : t.0 ≡ made.Answer (reply_by v.port k.place e) =
      answered v.port v.seat k.place e t.0 t.1.0.port t.1.0.seat k.asked (after_excludes a w s v t.1.0 t.0 t.1.1.1) in
      let c' : t'.0 ≡ made.Answer (reply_by v'.port k'.place e) =
      answered v'.port v'.seat k'.place e t'.0 t'.1.0.port t'.1.0.seat k'.asked (after_excludes a' w' s' v' t'.1.0 t'.0 t'.1.1.1) in
      after_both v v' t.1.0 t'.1.0 e t.0 t'.0 k k' c c' (reply_by v.port k.place e) (reply_by v'.port k'.place e)
      (subst (λ (z : Made). AfterCall SoleAsks v z t.1.0 a w) c t.1.1.1) (subst (λ (z : Made). AfterCall SoleAsks v' z t'.1.0 a' w') c' t'.1.1.1) h

  -- ---- step 5

  module _ (v v' : SoleLife) (h : Alike desk v v') where
    max_same : v'.parts.reader.max ≡ v.parts.reader.max
    max_same = ap (λ (k : Lasting). k.max) h.core.lasting

    bytes_same : bytes_of v' ≡ bytes_of v
    bytes_same = ap (λ (p : Past). p.x ++ v'.input) h.core.past ∙ ap (λ (l : List ℕ). v.parts.x ++ l) h.input

    dialog_same : v'.parts.dialog ≡ v.parts.dialog
    dialog_same = state_same desk v.parts v'.parts h.core.lasting h.core.past h.first h.second

    fate_same : (f g : Fate) → FaresIn v f → FaresIn v' g → f ≡ g
    fate_same f g p q =
        one_fate hand_bytes v.parts.reader.max v.parts.reader.given (bytes_of v) f g p
        (fares_at v.parts.reader.max v'.parts.reader.max v.parts.reader.given v'.parts.reader.given (bytes_of v) (bytes_of v') g max_same
        (ap (λ (p : Past). p.ms) h.core.past) bytes_same q)

    -- and so they end the session alike
    end_same : (f g : Fate) → FaresIn v f → FaresIn v' g → end_by v'.parts.dialog g ≡ end_by v.parts.dialog f
    end_same f g p q = ap (λ (z : State). end_by z g) dialog_same ∙ ap (λ (z : Fate). end_by v.parts.dialog z) (sym (fate_same f g p q))

    heard_alike : heard_of v'.parts ≡ heard_of v.parts
    heard_alike =
        ap (λ (p : Past). heard_parts p.ms v'.parts.dialog p.kept v'.parts.outbound v'.parts.place) h.core.past
        ∙ (ap (λ (z : State). heard_parts v.parts.reader.given z v.parts.kept v'.parts.outbound v'.parts.place) dialog_same
        ∙ (ap (λ (z : OutWindow). heard_parts v.parts.reader.given v.parts.dialog v.parts.kept z v'.parts.place) h.core.outbound
        ∙ ap (λ (z : Option ℕ). heard_parts v.parts.reader.given v.parts.dialog v.parts.kept v.parts.outbound z) h.core.place))

    none_some : (e : End) (o p : Option End) → o ≡ None → p ≡ Some e → p ≡ o → ⊥
    none_some e o p x y z = (let t : None ≡ Some e = sym x ∙ (sym z ∙ y) in absurd (cc))

    fed_as_both : (by by' : FedBy) (moved : Bool) → FedAs SoleAsks desk by v moved a w → FedAs SoleAsks desk by' v' moved a' w' → Done
    fed_as_both Quietly Quietly moved t t' =
        let f = t.1.0 in
        let f' = t'.1.0 in
        let x : t'.0.x ≡ t.0.x = quiet_all desk a' w' s' v' moved t' ∙ (bytes_same ∙ sym (quiet_all desk a w s v moved t)) in
        let heard : heard_of t'.0 ≡ heard_of t.0 = t'.1.1 ∙ (heard_alike ∙ sym t.1.1) in
        taken_both (life t.0 [] v.port v.seat) (life t'.0 [] v'.port v'.seat) (moved || not (is_nil v.input)) t.1.2
        (subst (λ (l : List ℕ). Taken SoleAsks (life t'.0 [] v'.port v'.seat) (moved || not (is_nil l)) a' w') h.input t'.1.2)
        (fed_alike desk v v' t.0 t'.0 [] [] x heard refl
        (ap fixed_lasting f.fixed, ap (λ (k : Fixed). k.calls) f.fixed, ap (λ (k : Fixed). k.sent) f.fixed)
        (ap fixed_lasting f'.fixed, ap (λ (k : Fixed). k.calls) f'.fixed, ap (λ (k : Fixed). k.sent) f'.fixed)
        f.others f'.others (t.1.3.stands h.first) (t'.1.3.stands h.second) t.1.3.counted t'.1.3.counted h)
    fed_as_both Loudly Loudly moved t t' =
        let f = t.1.1.0 in
        let f' = t'.1.1.0 in
        let c : Core = t.0 in
        let c' : Core = t'.0 in
        let m : Message = t.1.1.1.0 in
        let m' : Message = t'.1.1.1.0 in
        let same : Heard c.x m ≡ Heard c'.x m' = fate_same (Heard c.x m) (Heard c'.x m') (loud_fares desk a w s v moved t)
        (loud_fares desk a' w' s' v' moved t') in
        let x : c'.x ≡ c.x = ap (heard_with []) (sym same) in
        let me : m' ≡ m = ap (heard_or m) (sym same) in
        let whole : c.x ++ t.1.0 ≡ bytes_of v = ap (λ (l : List ℕ). l ++ t.1.0) f.x
        ∙ (append_assoc v.parts.x f.fed t.1.0 ∙ ap (λ (l : List ℕ). v.parts.x ++ l) f.split) in
        let whole' : c'.x ++ t'.1.0 ≡ bytes_of v' = ap (λ (l : List ℕ). l ++ t'.1.0) f'.x
        ∙ (append_assoc v'.parts.x f'.fed t'.1.0 ∙ ap (λ (l : List ℕ). v'.parts.x ++ l) f'.split) in
        let rest : t'.1.0 ≡ t.1.0 = append_cancel_left c.x t'.1.0 t.1.0 (ap (λ (l : List ℕ). l ++ t'.1.0) (sym x) ∙ (whole' ∙ (bytes_same ∙ sym whole))) in
        let heard : heard_of c' ≡ heard_of c =
        t'.1.1.1.1 ∙ (heard_same desk v.parts v'.parts (length c.x) (length c'.x) m m' h.core dialog_same (ap length x) me ∙ sym t.1.1.1.1) in
        called_both c.kept (life c t.1.0 v.port v.seat) (life c' t'.1.0 v'.port v'.seat) t.1.1.2
        (subst (λ (o : Option Entry). CalledBy SoleAsks o (life c' t'.1.0 v'.port v'.seat) a' w') (ap (λ (k : HeardMore). k.kept) heard) t'.1.1.2)
        (fed_alike desk v v' c c' t.1.0 t'.1.0 x heard rest
        (ap fixed_lasting f.fixed, ap (λ (k : Fixed). k.calls) f.fixed, ap (λ (k : Fixed). k.sent) f.fixed)
        (ap fixed_lasting f'.fixed, ap (λ (k : Fixed). k.calls) f'.fixed, ap (λ (k : Fixed). k.sent) f'.fixed)
        f.others f'.others (t.1.1.4.stands h.first) (t'.1.1.4.stands h.second) t.1.1.4.counted t'.1.1.4.counted h)
    fed_as_both (Stopping e) (Stopping e') moved t t' =
        let p = stop_halts desk a w s v e moved t in
        let p' = stop_halts desk a' w' s' v' e' moved t' in
        let same : Some e' ≡ Some e = sym p'.1.1 ∙ (end_same p.0 p'.0 p.1.0 p'.1.0 ∙ p.1.1) in
        let ee : e' ≡ e = ap (λ (o : Option End). unwrap_or o end.Quit) same in
        let long : length t'.0.x ≡ length t.0.x = sym p'.1.2 ∙ (ap byte_of ee ∙ p.1.2) in
        parted e (life t.0 v.input v.port v.seat) (life t'.0 v'.input v'.port v'.seat) (t'.1.0.counted ∙ (long ∙ sym t.1.0.counted))
        (ap (λ (k : Fixed). k.who) t'.1.0.fixed ∙ (ap (λ (k : Lasting). k.who) h.core.lasting ∙ sym (ap (λ (k : Fixed). k.who) t.1.0.fixed)))
        (t'.1.0.kept ∙ (ap (λ (z : Past). z.kept) h.core.past ∙ sym t.1.0.kept)) h.seat h.port t.1.1
        (subst (λ (z : End). IsEnded z (life t'.0 v'.input v'.port v'.seat) a' w') ee t'.1.1)
    fed_as_both Quietly Loudly moved t t' =
        let same : Quiet ≡ Heard t'.0.x t'.1.1.1.0 = fate_same Quiet (Heard t'.0.x t'.1.1.1.0) (quiet_fares desk a w s v moved t)
        (loud_fares desk a' w' s' v' moved t') in absurd (cc)
    fed_as_both Loudly Quietly moved t t' =
        let same : Heard t.0.x t.1.1.1.0 ≡ Quiet = fate_same (Heard t.0.x t.1.1.1.0) Quiet (loud_fares desk a w s v moved t)
        (quiet_fares desk a' w' s' v' moved t') in absurd (cc)
    fed_as_both Quietly (Stopping e') moved t t' =
        let p' = stop_halts desk a' w' s' v' e' moved t' in
        absurd (none_some e' None (end_by v'.parts.dialog p'.0) refl p'.1.1 (end_same Quiet p'.0 (quiet_fares desk a w s v moved t) p'.1.0))
    fed_as_both Loudly (Stopping e') moved t t' =
        let p' = stop_halts desk a' w' s' v' e' moved t' in
        absurd (none_some e' (end_by v.parts.dialog (Heard t.0.x t.1.1.1.0)) (end_by v'.parts.dialog p'.0) t.1.1.1.2 p'.1.1
        (end_same (Heard t.0.x t.1.1.1.0) p'.0 (loud_fares desk a w s v moved t) p'.1.0))
    fed_as_both (Stopping e) Quietly moved t t' =
        let p = stop_halts desk a w s v e moved t in
        absurd (none_some e None (end_by v.parts.dialog p.0) refl p.1.1 (sym (end_same p.0 Quiet p.1.0 (quiet_fares desk a' w' s' v' moved t'))))
    fed_as_both (Stopping e) Loudly moved t t' =
        let p = stop_halts desk a w s v e moved t in
        absurd (none_some e (end_by v'.parts.dialog (Heard t'.0.x t'.1.1.1.0)) (end_by v.parts.dialog p.0) t'.1.1.1.2 p.1.1
        (sym (end_same p.0 (Heard t'.0.x t'.1.1.1.0) p.1.0 (loud_fares desk a' w' s' v' moved t'))))

  fed_both : (v v' : SoleLife) (moved : Bool) → Fed SoleAsks desk v moved a w → Fed SoleAsks desk v' moved a' w' → Alike desk v v' → Done
  fed_both v v' moved t t' h = fed_as_both v v' h t.0 t'.0 moved t.1 t'.1

  came_both : (came : Came) (v v' : SoleLife) (moved : Bool) → CameAs SoleAsks desk came v moved a w → CameAs SoleAsks desk came v' moved a' w'
      → Alike desk v v' → Done
  came_both (CameBytes b) v v' moved (inl t) (inl t') h =
      fed_both (life v.parts b v.port v.seat) (life v'.parts b v'.port v'.seat) true t t'
      (record { core = h.core; input = refl; seat = h.seat; port = h.port; first = h.first; second = h.second })
  came_both (CameBytes b) v v' moved (inr t) t' h = absurd (s.memory t.ended)
  came_both (CameBytes b) v v' moved (inl t) (inr t') h = absurd (s'.memory t'.ended)
  came_both CameNotYet v v' moved t t' h = taken_both v v' moved t t' h
  came_both CameEnd v v' moved t t' h = parted_alike end.PeerClosed v v' h t t'
  came_both CameFailed v v' moved t t' h = parted_alike end.LinkFault v v' h t t'

  module _ (m m' : MemLinkState) where
    abbrev DoneAt : Type 0
    DoneAt = SameTurn desk a w m a' w' m'

    with_link : m' ≡ m → Done → DoneAt
    with_link e d = record { turn = d; link = e }

    empty_both : (b : Bool) (v v' : SoleLife) (l : MemLinkState) (moved : Bool) → EmptyBy SoleAsks desk MemHears b v l moved a w m
        → EmptyBy SoleAsks desk MemHears b v' l moved a' w' m' → Alike desk v v' → DoneAt
    empty_both true v v' l moved t t' h =
        let same = hears_same l t.0 t'.0 m m' t.1.0 t'.1.0 in
        with_link same.1 (came_both t.0 v v' moved t.1.1 (subst (λ (c : Came). CameAs SoleAsks desk c v' moved a' w') same.0 t'.1.1) h)
    empty_both false v v' l moved t t' h = with_link (t'.1 ∙ sym t.1) (fed_both v v' moved t.0 t'.0 h)

    input_by_both : (b : Bool) (v v' : SoleLife) (l : MemLinkState) (moved : Bool) → InputBy SoleAsks desk MemHears b v l moved a w m
        → InputBy SoleAsks desk MemHears b v' l moved a' w' m' → Alike desk v v' → DoneAt
    input_by_both true v v' l moved t t' h =
        empty_both (is_nil v.input) v v' l moved t (subst (λ (i : List ℕ). EmptyBy SoleAsks desk MemHears (is_nil i) v' l moved a' w' m') h.input t') h
    input_by_both false v v' l moved t t' h = with_link (t'.1 ∙ sym t.1) (taken_both v v' moved t.0 t'.0 h)

    input_both : (v v' : SoleLife) (l : MemLinkState) (moved : Bool) → Input SoleAsks desk MemHears v l moved a w m
        → Input SoleAsks desk MemHears v' l moved a' w' m' → Alike desk v v' → DoneAt
    input_both v v' l moved t t' h =
        input_by_both (is_hungry v.parts) v v' l moved t (subst (λ (b : Bool). InputBy SoleAsks desk MemHears b v' l moved a' w' m')
        (ap (λ (n : ℕ). nat_le n 8192) h.core.others) t') h

    -- ---- step 4

    sent_as_both : (q : Said) (v v' : SoleLife) (l : MemLinkState) (moved : Bool) → SentAs SoleAsks desk MemHears MemSays q v l moved a w m
        → SentAs SoleAsks desk MemHears MemSays q v' l moved a' w' m' → Alike desk v v' → DoneAt
    sent_as_both (said.Took n) v v' l moved t t' h =
        input_both (life t.0 v.input v.port v.seat) (life t'.0 v'.input v'.port v'.seat) l true t.1.1 t'.1.1
        (sent_alike desk v v' n t.0 t'.0 t.1.0 t'.1.0 t.1.2 t'.1.2 h)
    sent_as_both said.NotYet v v' l moved t t' h = input_both v v' l moved t t' h
    sent_as_both said.Failed v v' l moved t t' h = with_link (t'.1 ∙ sym t.1) (parted_alike end.LinkFault v v' h t.0 t'.0)
    sent_as_both said.OutOfMemory v v' l moved t t' h = absurd (s.memory t.0.ended)

    send_both : (b : Bool) (v v' : SoleLife) (l : MemLinkState) (moved : Bool) → SendBy SoleAsks desk MemHears MemSays b v l moved a w m
        → SendBy SoleAsks desk MemHears MemSays b v' l moved a' w' m' → Alike desk v v' → DoneAt
    send_both true v v' l moved t t' h = input_both v v' l moved t t' h
    send_both false v v' l moved t t' h =
        let piece : take 16384 (pending v'.parts.outgoing) ≡ take 16384 (pending v.parts.outgoing) =
        ap (λ (x : List ℕ). take 16384 x) (pending_same desk v.parts v'.parts h.core.lasting h.core.past h.first h.second) in
        let says : MemSays l (take 16384 (pending v.parts.outgoing)) t'.0 t'.1.0 = subst (λ (x : List ℕ). MemSays l x t'.0 t'.1.0) piece t'.1.1.0 in
        let same = says_same l (take 16384 (pending v.parts.outgoing)) t.0 t'.0 t.1.0 t'.1.0 (said_by a w s desk t.0 v t.1.0 m moved t.1.1.1)
        (said_by a' w' s' desk t'.0 v' t'.1.0 m' moved t'.1.1.1) t.1.1.0 says in
        sent_as_both t.0 v v' t.1.0 moved t.1.1.1
        (subst (λ (q : Said). SentAs SoleAsks desk MemHears MemSays q v' t.1.0 moved a' w' m') same.0
        (subst (λ (k : MemLinkState). SentAs SoleAsks desk MemHears MemSays t'.0 v' k moved a' w' m') same.1 t'.1.1.1)) h

    sent_both : (v v' : SoleLife) (l : MemLinkState) (moved : Bool) → Sent SoleAsks desk MemHears MemSays v l moved a w m
        → Sent SoleAsks desk MemHears MemSays v' l moved a' w' m' → Alike desk v v' → DoneAt
    sent_both v v' l moved (inl t) (inl t') h =
        let g = alike_filled desk v v' t.0 t'.0 t.1.0 t'.1.0 h in
        let nil : is_nil (pending t'.0.outgoing) ≡ is_nil (pending t.0.outgoing) =
        ap is_nil (pending_same desk t.0 t'.0 g.core.lasting g.core.past g.first g.second) in
        send_both (is_nil (pending t.0.outgoing)) (life t.0 v.input v.port v.seat) (life t'.0 v'.input v'.port v'.seat) l moved t.1.1
        (subst (λ (b : Bool). SendBy SoleAsks desk MemHears MemSays b (life t'.0 v'.input v'.port v'.seat) l moved a' w' m') nil t'.1.1) g
    sent_both v v' l moved (inr t) t' h = absurd (s.memory t.0.ended)
    sent_both v v' l moved (inl t) (inr t') h = absurd (s'.memory t'.0.ended)

    -- ---- steps 3, 2 and 1

    quit_both : (quit : Bool) (v v' : SoleLife) (l : MemLinkState) (moved : Bool) → QuitBy SoleAsks desk MemHears MemSays quit v l moved a w m
        → QuitBy SoleAsks desk MemHears MemSays quit v' l moved a' w' m' → Alike desk v v' → DoneAt
    quit_both true v v' l moved t t' h = with_link (t'.1 ∙ sym t.1) (parted_alike end.Quit v v' h t.0 t'.0)
    quit_both false v v' l moved t t' h = sent_both v v' l moved t t' h

    kept_after : (quit : Bool) (v v' k k' : SoleLife) (e : Entry) (l : MemLinkState) (came came' : Made) (c : CallAsked SoleAsks v e came k)
        (c' : CallAsked SoleAsks v' e came' k')
        → came ≡ made.Answer (reply_by v.port c.place e) → came' ≡ made.Answer (reply_by v'.port c'.place e) → (r r' : Reply)
        → AfterKept SoleAsks desk MemHears MemSays quit v (made.Answer r) k l a w m
        → AfterKept SoleAsks desk MemHears MemSays quit v' (made.Answer r') k' l a' w' m' → Alike desk v v' → DoneAt
    kept_after quit v v' k k' e l came came' c c' p p' r r' (inl t) (inl t') h =
        quit_both quit k k' l true t.1 t'.1 (call_alike desk v v' k k' e came came' c c' p p' t.0 t'.0 t.2 t'.2 h)
    kept_after quit v v' k k' e l came came' c c' p p' r r' (inr t) t' h = absurd (s.memory t.0.ended)
    kept_after quit v v' k k' e l came came' c c' p p' r r' (inl t) (inr t') h = absurd (s'.memory t'.0.ended)

    kept_both : (o : Option Entry) (quit : Bool) (v v' : SoleLife) (l : MemLinkState) → KeptBy SoleAsks desk MemHears MemSays o quit v l a w m
        → KeptBy SoleAsks desk MemHears MemSays o quit v' l a' w' m' → Alike desk v v' → DoneAt
    kept_both None quit v v' l t t' h = quit_both quit v v' l false t t' h
    kept_both (Some e) quit v v' l t t' h =
        let k = t.1.1.0 in
        let k' = t'.1.1.0 in
        let c : t.0 ≡ made.Answer (reply_by v.port k.place e) =
        answered v.port v.seat k.place e t.0 t.1.0.port t.1.0.seat k.asked (kept_excludes a w s desk quit v t.1.0 t.0 l m t.1.1.1) in
        let c' : t'.0 ≡ made.Answer (reply_by v'.port k'.place e) =
        answered v'.port v'.seat k'.place e t'.0 t'.1.0.port t'.1.0.seat k'.asked (kept_excludes a' w' s' desk quit v' t'.1.0 t'.0 l m' t'.1.1.1) in
        kept_after quit v v' t.1.0 t'.1.0 e l t.0 t'.0 k k' c c' (reply_by v.port k.place e) (reply_by v'.port k'.place e)
        (subst (λ (z : Made). AfterKept SoleAsks desk MemHears MemSays quit v z t.1.0 l a w m) c t.1.1.1)
        (subst (λ (z : Made). AfterKept SoleAsks desk MemHears MemSays quit v' z t'.1.0 l a' w' m') c' t'.1.1.1) h

    -- A TURN
    pub turn_both : (quit : Bool) (v v' : SoleLife) (l : MemLinkState) → EndedBy SoleAsks desk MemHears MemSays None quit v l a w m
        → EndedBy SoleAsks desk MemHears MemSays None quit v' l a' w' m' → Alike desk v v' → DoneAt
    turn_both quit v v' l t t' h =
        kept_both v.parts.kept quit v v' l t (subst (λ (o : Option Entry). KeptBy SoleAsks desk MemHears MemSays o quit v' l a' w' m')
        (ap (λ (p : Past). p.kept) h.core.past) t') h

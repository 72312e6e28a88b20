-- An edge that was made, turned until it ended, and closed
use Rattle.std.proofs.Common.{◌≡◌, ◌<◌, ℕ, Bool, true, false, List, [], ◌++◌, length, drop, Option, Some, None, refl, sym, ap, ◌∙◌, subst, append-nil, arith}
use Rattle.relay_outside.specs.Told.{LinkCounts}
use Rattle.chunk_reader.specs.Laws.{SameReading}
use Rattle.chunk_reader.specs.Reads.{Reads}
use Rattle.chunk_reader.specs.Sound.{IsRead}
use Rattle.chunk_reader.proofs.Reading.{reads_nothing}
use Rattle.chunk_wire.specs.State.{State}
use Rattle.chunk_wire.specs.declared.message.Message.{Message}
use Rattle.client_owed.specs.Owed.{out}
use Rattle.client_owed.specs.Pulled.{pulled}
use Rattle.client_owed.specs.Standing.{Past}
use Rattle.client_owed.specs.declared.types.Asked.{Asked}
use Rattle.client_owed.specs.declared.types.Gave.{Gave}
use Rattle.rtmp_client.specs.ClientState.{ClientState, StandsBy as ClientStands}
use Rattle.rtmp_client.specs.declared.core_fields.Core.{Core as ClientCore}
use Rattle.rtmp_client.specs.declared.end.ClientEnd.{ClientEnd}
use Rattle.session_owed.specs.Talk.{Own, hand_bytes}
use Rattle.stream_model.specs.declared.calls.Entry.{Entry}
use Rattle.stream_model.specs.declared.calls.Shape.{Shape}
use Rattle.stream_registry.specs.Names.{PortRules}
use Rattle.stream_registry.specs.Told.{Histories, Step}
use Rattle.relay_session.specs.SeatState.{SeatState, StandsAt, known}
use Rattle.relay_session.specs.SeatVisits.{AllStand, Visit}
use Rattle.relay_session.specs.declared.seat_answers.Active.{Active}
use Rattle.relay_session.specs.declared.seat_answers.Active.TheVariants as active
use Rattle.origin_calls.specs.Calls.{edge_calls, entries}
use Rattle.origin_pull.specs.EdgeState.{EdgeState, IsNew, Lasting, StandsBy, StandsFor}
use Rattle.origin_pull.specs.Keeping.{AreEdgeCalls, AreHere, IsAt, granted_by, made}
use Rattle.origin_pull.specs.declared.core_fields.Core.{Core}
use Rattle.origin_pull.specs.declared.end.EdgeEnd.{EdgeEnd}
use Rattle.origin_pull.specs.declared.end.EdgeEnd.TheVariants as edge
use Rattle.client_command.proofs.Passing.{calm_here, passed_as, passed_same}
use Rattle.edge_serve.specs.Driving.{Drives, HasDriven, HasLeft, WaitsBy, end_then}
use Rattle.edge_serve.specs.Pulls.{AreFor, EdgeCause, HasPlayed, HasPulled, LeftBy, Origin, Parts}

-- ---- a new edge

pub new_drives : {Q : Type 0} (k : Asked) (max who place : ℕ) (start : Origin) (s : EdgeState Q) (c : ClientState) → IsNew c → c.input ≡ []
    → c.parts.asked ≡ k → c.parts.reader.max ≡ max → s.client ≡ c → s.ended ≡ None → s.parts.who ≡ who
    → s.parts.place ≡ place → Drives k max who place start start s
new_drives k max who place start s c new input asked mx same lives name there =
    let y : s.client.parts.y ≡ [] = ap (λ (x : ClientState). x.parts.y) same ∙ ap (λ (p : Past). p.y) new.past in
    let sent : s.client.parts.sent ≡ [] = ap (λ (x : ClientState). x.parts.sent) same ∙ ap (λ (p : Past). p.sent) new.past in
    let none : s.client.input ≡ [] = ap (λ (x : ClientState). x.input) same ∙ input in
    record {
      lives = lives;
      lasts = ap (λ (n : ℕ). record { who = n; place = s.parts.place; asked = s.client.parts.asked; max = s.client.parts.reader.max }) name
          ∙ (ap (λ (n : ℕ). record { who = who; place = n; asked = s.client.parts.asked; max = s.client.parts.reader.max }) there
          ∙ (ap (λ (x : ClientState). record { who = who; place = place; asked = x.parts.asked; max = x.parts.reader.max }) same
          ∙ (ap (λ (a : Asked). record { who = who; place = place; asked = a; max = c.parts.reader.max }) asked
          ∙ ap (λ (n : ℕ). record { who = who; place = place; asked = k; max = n }) mx)));
      passed = passed_as [] (s.client.parts.y ++ s.client.input) [] s.client.parts.sent start.told start.told
          (sym (ap (λ (x : List ℕ). x ++ s.client.input) y ∙ none)) (sym sent) (passed_same start.told start.told refl);
      calm = calm_here start.counts;
      few = omega (arith, ap length none);
      gave = ap (λ (x : ClientState). x.parts.gave) same ∙ ap (λ (p : Past). p.gave) new.past;
    }

pub new_at : {Q : Type 0} (fits : ℕ → Q → Type 0) (count : ℕ) (s : EdgeState Q) → s.seat ≡ record { spot = None; active = active.Nothing; visits = [] }
    → s.parts.calls ≡ [] → s.parts.place < count → IsAt fits count s.parts s.seat
new_at fits count s seat calls there = subst (λ x. IsAt fits count s.parts x) (sym seat) (record {
  fit = tt;
  there = there;
  here = refl;
  calls = calls;
  places = tt;
  granted = sym (ap (granted_by active.Nothing) calls);
})

module _ {P Q : Type 0} (rules : P → PortRules) (root : P → Histories) (seen : Q → List Step) where
  pub new_stands : (port : P) (s : EdgeState Q) → s.seat ≡ record { spot = None; active = active.Nothing; visits = [] } → StandsAt rules root seen port s.seat
  new_stands port s seat = subst (λ x. StandsAt rules root seen port x) (sym seat) (record { calls = record { at_each = λ q. tt }; granted = refl })

  -- one that is nowhere: its calls stand in what the root knows
  pub stands_root : (port : P) (s : SeatState Q) → s.spot ≡ None → StandsAt rules root seen port s → AllStand (rules port).limits (root port) s.visits
  stands_root port s away st =
      subst (λ (h : Histories). AllStand (rules port).limits h s.visits)
      (ap (λ (o : Option (ℕ × Q)). known root seen port (record { spot = o; active = s.active; visits = s.visits })) away) st.calls

-- ---- what its client owes

record IsOwing (k : Asked) (max : ℕ) (c : ClientCore) : Type 0 where
  pub ms : List (ℕ × Message)
  pub read : IsRead max (drop hand_bytes c.y) ms
  pub more : List ℕ
  pub owes : c.sent ++ more ≡ out k c.y ms []

owing_by : (o : Option ClientEnd) (k : Asked) (max : ℕ) (c : ClientCore) → c.asked ≡ k → c.reader.max ≡ max → c.gave ≡ [] → ClientStands o c → IsOwing k max c
owing_by None k max c asked mx gave s = record {
  ms = c.reader.given;
  read = subst (λ (n : ℕ). IsRead n (drop hand_bytes c.y) c.reader.given) mx s.read;
  more = c.outgoing.pending;
  owes = s.stands.owes ∙ (ap (λ (a : Asked). out a c.y c.reader.given c.gave) asked ∙ ap (λ (T : List Gave). out k c.y c.reader.given T) gave);
}
owing_by (Some e) k max c asked mx gave s = record {
  ms = s.over.ms;
  read = subst (λ (n : ℕ). IsRead n (drop hand_bytes c.y) s.over.ms) mx s.over.read;
  more = s.more;
  owes = s.over.owes ∙ (ap (λ (a : Asked). out a c.y s.over.ms c.gave) asked ∙ ap (λ (T : List Gave). out k c.y s.over.ms T) gave);
}

-- ---- its calls are for these messages

-- an edge that has ended so owes these calls, by the messages that its client's bytes read as
record IsCalling (k : Asked) (max who : ℕ) (e : EdgeEnd) (c : Core) (q : ClientCore) : Type 0 where
  pub ms : List (ℕ × Message)
  pub read : IsRead max (drop hand_bytes q.y) ms
  pub for_it : AreFor e c.calls (entries who (edge_calls false (pulled k ms)))

calls_as : (k : Asked) (max who : ℕ) (c : Core) (q : ClientCore) (es : List Entry) → c.who ≡ who → q.asked ≡ k → q.reader.max ≡ max
    → (a : AreEdgeCalls c.who q es) → IsRead max (drop hand_bytes q.y) a.ms × (es ≡ entries who (edge_calls false (pulled k a.ms)))
calls_as k max who c q es name asked mx a = (
  subst (λ (n : ℕ). IsRead n (drop hand_bytes q.y) a.ms) mx a.read,
  a.calls ∙ (ap (λ (n : ℕ). entries n (edge_calls false (pulled q.asked a.ms))) name
      ∙ ap (λ (x : Asked). entries who (edge_calls false (pulled x a.ms))) asked),
)

begun_as : (k : Asked) (max who : ℕ) (e : EdgeEnd) (c : Core) (q : ClientCore) (more : List Entry) → c.who ≡ who → q.asked ≡ k → q.reader.max ≡ max
    → AreEdgeCalls c.who q (made c.calls ++ more)
    → ((es : List Entry) → made c.calls ++ more ≡ es → AreFor e c.calls es) → IsCalling k max who e c q
begun_as k max who e c q more name asked mx a f = let h = calls_as k max who c q (made c.calls ++ more) name asked mx a in
    record { ms = a.ms; read = h.0; for_it = f _ h.1 }

calling_by : (e : EdgeEnd) (k : Asked) (max who : ℕ) (c : Core) (j : ClientState) → c.who ≡ who → j.parts.asked ≡ k → j.parts.reader.max ≡ max
    → StandsBy (Some e) c j → IsCalling k max who e c j.parts
calling_by edge.Client k max who c j name asked mx s = let h = calls_as k max who c j.parts (made c.calls) name asked mx s.1.calls in
    record { ms = s.1.calls.ms; read = h.0; for_it = h.1 }
calling_by (edge.InUse by) k max who c j name asked mx s = begun_as k max who (edge.InUse by) c j.parts s.1.0 name asked mx s.1.1 (λ es is. (s.1.0, is))
calling_by edge.Worn k max who c j name asked mx s = begun_as k max who edge.Worn c j.parts s.1.0 name asked mx s.1.1 (λ es is. (s.1.0, is))
calling_by edge.OutOfMemory k max who c j name asked mx s = begun_as k max who edge.OutOfMemory c j.parts s.1.0 name asked mx s.1.1 (λ es is. (s.1.0, is))
calling_by edge.NoSlot k max who c j name asked mx s = begun_as k max who edge.NoSlot c j.parts s.1.0 name asked mx s.1.1 (λ es is. (s.1.0, is))
calling_by edge.Closed k max who c j name asked mx s = begun_as k max who edge.Closed c j.parts s.1.0 name asked mx s.1.1 (λ es is. (s.1.0, is))

-- ---- a full history at the end

for_then : (e : EdgeEnd) (worn : Bool) (calls : List Own) (es : List Entry) → AreFor e calls es → AreFor (end_then e worn) calls es
for_then edge.OutOfMemory worn calls es f = f
for_then edge.Client true calls es f = ([], append-nil (made calls) ∙ f)
for_then (edge.InUse by) true calls es f = f
for_then edge.NoSlot true calls es f = f
for_then edge.Worn true calls es f = f
for_then edge.Closed true calls es f = f
for_then edge.Client false calls es f = f
for_then (edge.InUse by) false calls es f = f
for_then edge.NoSlot false calls es f = f
for_then edge.Worn false calls es f = f
for_then edge.Closed false calls es f = f

cause_then : (e : EdgeEnd) (worn : Bool) (c : Option ClientEnd) (who : ℕ) (calls : List Own) (max fed : ℕ) (all : List ℕ) (n n' : LinkCounts)
    → EdgeCause e c who calls max fed all n n' → EdgeCause (end_then e worn) c who calls max fed all n n'
cause_then edge.OutOfMemory worn c who calls max fed all n n' f = f
cause_then edge.Client true c who calls max fed all n n' f = tt
cause_then (edge.InUse by) true c who calls max fed all n n' f = tt
cause_then edge.NoSlot true c who calls max fed all n n' f = tt
cause_then edge.Worn true c who calls max fed all n n' f = tt
cause_then edge.Closed true c who calls max fed all n n' f = tt
cause_then edge.Client false c who calls max fed all n n' f = f
cause_then (edge.InUse by) false c who calls max fed all n n' f = f
cause_then edge.NoSlot false c who calls max fed all n n' f = f
cause_then edge.Worn false c who calls max fed all n n' f = f
cause_then edge.Closed false c who calls max fed all n n' f = f

left_then : (e : EdgeEnd) (worn : Bool) (who : ℕ) (waited : Option Entry) (a : Active) (calls : List Own) (V W : List Visit)
    → a ≡ granted_by active.Nothing calls → WaitsBy e waited → (h : HasLeft who waited a V worn W) → LeftBy (end_then e worn) who calls h.left
left_then edge.OutOfMemory worn who waited a calls V W g w h = (waited, h.left_by)
left_then edge.Client true who waited a calls V W g w h = (waited, h.left_by)
left_then (edge.InUse by) true who waited a calls V W g w h = (waited, h.left_by)
left_then edge.NoSlot true who waited a calls V W g w h = (waited, h.left_by)
left_then edge.Worn true who waited a calls V W g w h = (waited, h.left_by)
left_then edge.Closed true who waited a calls V W g w h = absurd w
left_then edge.Client false who waited a calls V W g w h = subst (λ (x : Active). Parts who x h.left) g (h.parts refl w)
left_then (edge.InUse by) false who waited a calls V W g w h = subst (λ (x : Active). Parts who x h.left) g (h.parts refl w)
left_then edge.NoSlot false who waited a calls V W g w h = subst (λ (x : Active). Parts who x h.left) g (h.parts refl w)
left_then edge.Worn false who waited a calls V W g w h = (waited, h.left_by)
left_then edge.Closed false who waited a calls V W g w h = absurd w

-- ---- the whole

module _ (same_reading : (max : ℕ) (b : List ℕ) (ms ns : List (ℕ × Message)) (s t : State) (q r : List ℕ) → Reads max b ms s q → Reads max b ns t r
    → SameReading ms ns s t q r) where
  -- two readings of the same bytes have the same messages
  same_messages : (max : ℕ) (b : List ℕ) (ms ns : List (ℕ × Message)) → IsRead max b ms → IsRead max b ns → ms ≡ ns
  same_messages max b ms ns i j = (same_reading max b ms ns i.s j.s i.r j.r i.reads j.reads).messages_same

  -- ONE THAT WAS DRIVEN TO ITS END AND HAS LEFT has pulled
  pub has_pulled : {Q : Type 0} (fits : ℕ → Q → Type 0) (count : ℕ) (k : Asked) (max who place : ℕ) (limits : ℕ
      → Shape) (histories : Histories) (start now : Origin) (e : EdgeEnd) (worn : Bool) (s t : EdgeState Q)
      → HasDriven k max who place start now e s → StandsFor s → IsAt fits count s.parts s.seat → t.client ≡ s.client → AreHere s.parts.place t.seat.visits
      → HasLeft s.parts.who s.parts.kept s.seat.active s.seat.visits worn t.seat.visits
      → AllStand limits histories t.seat.visits → HasPulled k max who place limits histories (end_then e worn) t.client.ended start now
  has_pulled fits count k max who place limits histories start now e worn s t d stands at client here left stand =
      let q = s.client.parts in
      let name : s.parts.who ≡ who = ap (λ (x : Lasting). x.who) d.lasts in
      let there : s.parts.place ≡ place = ap (λ (x : Lasting). x.place) d.lasts in
      let asked : q.asked ≡ k = ap (λ (x : Lasting). x.asked) d.lasts in
      let mx : q.reader.max ≡ max = ap (λ (x : Lasting). x.max) d.lasts in
      let over : StandsBy (Some e) s.parts s.client = subst (λ (o : Option EdgeEnd). StandsBy o s.parts s.client) d.ended stands in
      let owing = owing_by s.client.ended k max q asked mx d.gave over.0 in
      let calling = calling_by e k max who s.parts s.client name asked mx over in
      let ms : calling.ms ≡ owing.ms = same_messages max (drop hand_bytes q.y) calling.ms owing.ms calling.read owing.read in
      record {
        link = record {
          y = q.y;
          rest = d.rest;
          few = d.few;
          ms = owing.ms;
          read = owing.read;
          took = q.sent;
          passed = d.passed;
          more = owing.more;
          owes = owing.owes;
        };
        visits = t.seat.visits;
        stand = stand;
        here = subst (λ (n : ℕ). AreHere n t.seat.visits) there here;
        calls = s.parts.calls;
        left = left.left;
        calls_are = left.calls_are ∙ ap (λ (C : List Own). C ++ left.left) (sym at.calls);
        for_it = for_then e worn s.parts.calls _ (subst (λ (x : List (ℕ × Message)). AreFor e s.parts.calls (entries who (edge_calls false (pulled k x))))
            ms calling.for_it);
        left_by = subst (λ (n : ℕ). LeftBy (end_then e worn) n s.parts.calls left.left) name
            (left_then e worn s.parts.who s.parts.kept s.seat.active s.parts.calls s.seat.visits t.seat.visits at.granted d.waits left);
        cause = subst (λ (o : Option ClientEnd). EdgeCause (end_then e worn) o who s.parts.calls max (length q.y) (q.y ++ d.rest) start.counts now.counts)
            (sym (ap (λ (x : ClientState). x.ended) client))
            (cause_then e worn s.client.ended who s.parts.calls max (length q.y) (q.y ++ d.rest) start.counts now.counts d.cause);
      }

-- nothing was done over the link
pub nothing_played : (k : Asked) (max : ℕ) (o : Origin) → HasPlayed k max o o
nothing_played k max o = record {
  y = [];
  rest = [];
  few = omega arith;
  ms = [];
  read = record { s = _; r = []; reads = reads_nothing max };
  took = [];
  passed = passed_same o.told o.told refl;
  more = out k [] [] [];
  owes = refl;
}

-- ---- where its histories went on

pub pulled_later : (k : Asked) (max who place : ℕ) (limits limits' : ℕ → Shape) (h h' : Histories) (e : EdgeEnd) (c : Option ClientEnd) (o o' : Origin)
    → ((V : List Visit) → AllStand limits h V → AllStand limits' h' V)
    → HasPulled k max who place limits h e c o o' → HasPulled k max who place limits' h' e c o o'
pulled_later k max who place limits limits' h h' e c o o' go p = record {
  link = p.link;
  visits = p.visits;
  stand = go p.visits p.stand;
  here = p.here;
  calls = p.calls;
  left = p.left;
  calls_are = p.calls_are;
  for_it = p.for_it;
  left_by = p.left_by;
  cause = p.cause;
}

-- A turn of a client or of a session in two runs
use Rattle.std.proofs.Common.{◌≡◌, ◌≢◌, ◌++◌, Bool, true, false, [], length, Option, Some, None, Result, Ok, Err, sym, ap, ◌∙◌, subst}
use Rattle.std.proofs.Common.{arith}
use Rattle.relay_outside.specs.MemLinks.{MemHears, MemLinkState, MemSays}
use Rattle.rtmp_client.specs.ClientState.{ClientState, TurnMade}
use Rattle.rtmp_client.specs.Turns as client_turns
use Rattle.rtmp_client.specs.declared.end.ClientEnd.{ClientEnd}
use Rattle.rtmp_client.specs.declared.end.ClientEnd.TheVariants as client_end
use Rattle.rtmp_client.specs.declared.end.ClientTurn.{ClientTurn}
use Rattle.stream_registry.specs.Books.{SeenState, SoleState}
use Rattle.relay_session.specs.SessionState.{SessionState, ended_by, life_at}
use Rattle.relay_session.specs.Turns.{EndedBy}
use Rattle.relay_session.specs.declared.end.End.{End}
use Rattle.relay_session.specs.declared.end.End.TheVariants as session_end
use Rattle.relay_session.specs.declared.turn.Turn.{Turn}
use Rattle.relay_session.specs.declared.turn.Turn.TheVariants.{Moved, Idle, Ended}
use Rattle.turn_law.specs.Twins.{Alike, HasRoom, IsPlain, LeftBy, SamePort, SoleAsks, SoleLife}
use Rattle.turn_law.proofs.Steps as session_turn
use Rattle.client_turn_law.specs.Twins.{AreAlike, HasMemory}
use Rattle.client_turn_law.proofs.Steps as client_turn
use Rattle.loop_command.specs.Course.{ClientTurned, Passes, SessionTurned, is_on, pieces_with}
use Rattle.loop_command.specs.Desk.{granted}
use Rattle.loop_command.specs.declared.line.Line.{Line}
use Rattle.loop_law.proofs.Growing.{Adds, same_adds, turn_adds}

-- the lines of two runs, at the port of each
pub record SameLine (p q : SoleState) (l m : Line) : Type 0 where
  pub client : AreAlike l.client m.client
  pub near : m.near ≡ l.near
  pub session : Alike granted (life_at l.session p) (life_at m.session q)
  pub lives : l.session.ended ≡ None
  pub lives_too : m.session.ended ≡ None
  pub quit : m.session.quit ≡ l.session.quit
  pub far : m.far ≡ l.far
  pub forth : m.forth ≡ l.forth

-- at ports that are the same
pub at_ports : (p q x y : SoleState) (l m : Line) → SamePort x y → SameLine p q l m → SameLine x y l m
at_ports p q x y l m s h = record {
  client = h.client;
  near = h.near;
  session = record {
    core = h.session.core;
    input = h.session.input;
    seat = h.session.seat;
    port = s;
    first = h.session.first;
    second = h.session.second;
  };
  lives = h.lives;
  lives_too = h.lives_too;
  quit = h.quit;
  far = h.far;
  forth = h.forth;
}

-- with other clients
pub with_clients : (p q : SoleState) (l m : Line) (c d : ClientState) → AreAlike c d → SameLine p q l m
    → SameLine p q (record l { client = c }) (record m { client = d })
with_clients p q l m c d a h = record {
  client = a;
  near = h.near;
  session = h.session;
  lives = h.lives;
  lives_too = h.lives_too;
  quit = h.quit;
  far = h.far;
  forth = h.forth;
}

-- ---- what a link took

abbrev handed_on : MemLinkState → MemLinkState
handed_on from = record from { handed = from.handed ++ from.sent; sent = [] }

abbrev given_to : MemLinkState → MemLinkState → MemLinkState
given_to from to = record to { pieces = pieces_with to.pieces from.sent }

passed_from : (from to a b from' to' a' b' : MemLinkState) → from' ≡ from → Passes from to a b → Passes from' to' a' b' → a' ≡ a
passed_from from to a b from' to' a' b' e x x' = x'.handed ∙ (ap handed_on e ∙ sym x.handed)

passed_to : (from to a b from' to' a' b' : MemLinkState) → from' ≡ from → to' ≡ to → Passes from to a b → Passes from' to' a' b' → b' ≡ b
passed_to from to a b from' to' a' b' e f x x' =
    x'.given ∙ (ap (λ (z : MemLinkState). given_to z to') e ∙ (ap (λ (z : MemLinkState). given_to from z) f ∙ sym x.given))

-- ---- a turn of a client

abbrev TurnsSo : Option ClientEnd → client_turns.Life → MemLinkState → Result Bool ClientEnd → client_turns.Life → MemLinkState → Type 0
TurnsSo = client_turns.EndedBy MemHears MemSays

module _ (a : ClientTurn) (l m : Line) (x : ClientTurned a l m) where
  memory_by : (comes : Result Bool ClientEnd) → a ≡ client_turns.turn_of comes → m.client.ended ≡ client_turns.end_of comes → HasMemory m.client
  memory_by (Ok moved) e f is = (let t : None ≡ Some client_end.OutOfMemory = sym f ∙ is in absurd (cc))
  memory_by (Err w) e f is =
      (let t : Some client_end.Done ≡ Some client_end.OutOfMemory = sym (x.all_sent (ap is_on e)) ∙ is in absurd (cc))

  pub has_memory : HasMemory m.client
  has_memory = memory_by x.turn.comes x.turn.answered x.turn.ended

  lives_by : (comes : Result Bool ClientEnd) → a ≡ client_turns.turn_of comes → m.client.ended ≡ client_turns.end_of comes → is_on a ≡ true
      → m.client.ended ≡ None
  lives_by (Ok moved) e f on = f
  lives_by (Err w) e f on = (let t : true ≡ false = sym on ∙ ap is_on e in absurd (cc))

  pub still_lives : is_on a ≡ true → m.client.ended ≡ None
  still_lives on = lives_by x.turn.comes x.turn.answered x.turn.ended on

pub record SameClientTurn (p q : SoleState) (a : ClientTurn) (l : Line) (b : ClientTurn) (m : Line) : Type 0 where
  pub answer : b ≡ a
  pub line : SameLine p q l m

pub client_same : (p q : SoleState) (l l' m m' : Line) (a a' : ClientTurn) → SameLine p q l l' → ClientTurned a l m → ClientTurned a' l' m'
    → SameClientTurn p q a m a' m'
client_same p q l l' m m' a a' h x x' =
    let t = client_turn.turn_both l.client l'.client m.client m'.client l.near x.link x'.link a a' h.client x.turn
    (subst (λ (k : MemLinkState). TurnMade TurnsSo l'.client k a' m'.client x'.link) h.near x'.turn) (has_memory a l m x) (has_memory a' l' m' x') in
    record {
      answer = t.answer;
      line = record {
        client = t.clients;
        near = passed_from x.link l.far m.near m.far x'.link l'.far m'.near m'.far t.link x.passed x'.passed;
        session = subst (λ (s : SessionState SeenState). Alike granted (life_at s p) (life_at m'.session q)) (sym x.session)
            (subst (λ (s : SessionState SeenState). Alike granted (life_at l.session p) (life_at s q)) (sym x'.session) h.session);
        lives = ap (λ (s : SessionState SeenState). s.ended) x.session ∙ h.lives;
        lives_too = ap (λ (s : SessionState SeenState). s.ended) x'.session ∙ h.lives_too;
        quit = ap (λ (s : SessionState SeenState). s.quit) x'.session ∙ (h.quit ∙ sym (ap (λ (s : SessionState SeenState). s.quit) x.session));
        far = passed_to x.link l.far m.near m.far x'.link l'.far m'.near m'.far t.link h.far x.passed x'.passed;
        forth = omega (arith, x.forth, x'.forth, h.forth, ap (λ (k : MemLinkState). length k.sent) t.link);
      };
    }

-- ---- a turn of a session

memory_not : (a : Turn) → ended_by a ≡ None → a ≢ Ended session_end.OutOfMemory
memory_not Moved e is = absurd (cc)
memory_not Idle e is = absurd (cc)
memory_not (Ended x) e is = (let t : Some x ≡ None = e in absurd (cc))

left_alike : (a : Turn) (w v : SoleLife) → ended_by a ≡ None → LeftBy a granted w v → Alike granted w v
left_alike Moved w v e h = h
left_alike Idle w v e h = h
left_alike (Ended x) w v e h = (let t : Some x ≡ None = e in absurd (cc))

abbrev SessionTurnsSo : Option End → Bool → SoleLife → MemLinkState → Turn → SoleLife → MemLinkState → Type 0
SessionTurnsSo = EndedBy SoleAsks granted MemHears MemSays

pub session_same : (p q p' q' : SoleState) (l m l' m' : Line) → SessionTurned p q l m → SessionTurned p' q' l' m' → SameLine p p' l l' → HasRoom q → HasRoom q'
    → SameLine q q' m m'
session_same p q p' q' l m l' m' x x' h r r' =
    let v : SoleLife = life_at l.session p in
    let v' : SoleLife = life_at l'.session p' in
    let w : SoleLife = life_at m.session q in
    let w' : SoleLife = life_at m'.session q' in
    let t : SessionTurnsSo None l.session.quit v l.far x.answer w x.link =
    subst (λ (o : Option End). SessionTurnsSo o l.session.quit v l.far x.answer w x.link) h.lives x.turn in
    let t' : SessionTurnsSo None l.session.quit v' l.far x'.answer w' x'.link =
    subst (λ (k : MemLinkState). SessionTurnsSo None l.session.quit v' k x'.answer w' x'.link) h.far
    (subst (λ (b : Bool). SessionTurnsSo None b v' l'.far x'.answer w' x'.link) h.quit
    (subst (λ (o : Option End). SessionTurnsSo o l'.session.quit v' l'.far x'.answer w' x'.link) h.lives_too x'.turn)) in
    let s : IsPlain x.answer w = record { memory = memory_not x.answer x.lives; room = r } in
    let s' : IsPlain x'.answer w' = record { memory = memory_not x'.answer x'.lives; room = r' } in
    let both = session_turn.turn_both granted x.answer w x'.answer w' s s' x.link x'.link l.session.quit v v' l.far t t' h.session in
    record {
      client = subst (λ (c : ClientState). AreAlike c m'.client) (sym x.client) (subst (λ (c : ClientState). AreAlike l.client c) (sym x'.client) h.client);
      near = passed_to x.link l.near m.far m.near x'.link l'.near m'.far m'.near both.link h.near x.passed x'.passed;
      session = left_alike x.answer w w' x.lives both.turn.left;
      lives = x.ended;
      lives_too = x'.ended;
      quit = x'.quit ∙ (h.quit ∙ sym x.quit);
      far = passed_from x.link l.near m.far m.near x'.link l'.near m'.far m'.near both.link x.passed x'.passed;
      forth = x'.forth ∙ (h.forth ∙ sym x.forth);
    }

adds_by : (o : Option End) (quit : Bool) (v : SoleLife) (l : MemLinkState) (a : Turn) (w : SoleLife) (m : MemLinkState) → SessionTurnsSo o quit v l a w m
    → Adds 3 v.port w.port
adds_by None quit v l a w m t = turn_adds granted quit v l a w m t
adds_by (Some e) quit v l a w m t = same_adds 3 v.port w.port (ap (λ (x : SoleLife). x.port) t.1)

pub session_adds : (p q : SoleState) (l m : Line) → SessionTurned p q l m → Adds 3 p q
session_adds p q l m x = adds_by l.session.ended l.session.quit (life_at l.session p) l.far x.answer (life_at m.session q) x.link x.turn

-- Only proofs and private functions use it.
-- A client and the session that serves it, with the link of each
use Rattle.std.specs.Prelude.{◌≡◌, ◌≢◌, ◌≤◌, ◌<◌, ◌+◌, ◌^◌, ◌++◌, ℕ, Bool, true, false, List, [], ◌∷◌, length, drop, map, Option, Some, None}
use Rattle.std.specs.List.{concat}
use Rattle.relay_outside.specs.MemLinks.{MemLinkState}
use Rattle.chunk_reader.specs.Sound.{IsRead}
use Rattle.chunk_wire.specs.declared.message.Message.{Message}
use Rattle.session_owed.specs.Talk.{hand_bytes}
use Rattle.client_owed.specs.declared.types.Asked.{Asked}
use Rattle.client_owed.specs.declared.types.Gave.{Gave}
use Rattle.client_owed.specs.declared.types.Gift.{Gift}
use Rattle.client_owed.specs.Owed.{AreGiven, out}
use Rattle.client_owed.specs.Pulled.{pulled}
use Rattle.client_owed.specs.Standing.{count_of, is_finished}
use Rattle.rtmp_client.specs.ClientState.{ClientState}
use Rattle.stream_registry.specs.Books.{FitsSole, SeenState, SoleState, journal_at, sole_rules}
use Rattle.stream_registry.specs.Names.{places}
use Rattle.stream_registry.specs.Told.{Step}
use Rattle.stream_model.specs.Counts.{how_many}
use Rattle.stream_model.specs.declared.calls.Call.TheVariants.{Count}
use Rattle.stream_model.specs.declared.calls.Entry.{Entry}
use Rattle.stream_model.specs.declared.replies.Reply.{Reply}
use Rattle.relay_session.specs.Places.{IsAt}
use Rattle.relay_session.specs.SeatState.{GoOn, SeatState, StandsAt, place_of}
use Rattle.relay_session.specs.SeatVisits.{Visit}
use Rattle.relay_session.specs.SessionState.{Publishes, Rises, SessionState, StandsFor}
use Rattle.client_command.specs.Runs.{AreFriendly, most_message}
use Rattle.client_command.specs.Turned.{IsLive, gifts_of}
use Rattle.loop_command.specs.Desk.{granted, max_message, window}
use Rattle.loop_command.specs.declared.line.Line.{Line}

-- what a link gave are the bytes fed and those to be fed, and what it took was sent; so much was handed over
-- before, and these are all the bytes that it was given
pub record Tied (h z : List ℕ) (m : MemLinkState) (x input sent : List ℕ) : Type 0 where
  pub gave : m.gave ≡ x ++ input
  pub took : m.handed ++ m.sent ≡ sent
  pub handed : m.handed ≡ h
  pub stream : m.gave ++ concat m.pieces ≡ z

-- no call of it fails, and its input doesn't end
pub record Works (m : MemLinkState) : Type 0 where
  pub receives : m.recv_fails ≡ false
  pub sends : m.send_fails ≡ false
  pub lasts : m.ended ≡ false

-- ---- the client

-- one that lives, over its link
pub record ClientRuns (k : Asked) (c : ClientState) (m : MemLinkState) : Type 0 where
  pub live : IsLive c
  pub asked : c.parts.asked ≡ k
  pub gave : m.gave ≡ c.parts.y ++ c.input
  pub took : m.handed ++ m.sent ≡ c.parts.sent
  pub friendly : AreFriendly c.parts.reader.given

-- a client was fed the bytes y of those that its link gave, was given T and told these gifts, and what the
-- link took is what it owes for them, but for these bytes more
pub record ClientSide (k : Asked) (m : MemLinkState) (T : List Gave) (gifts : List Gift) (more : List ℕ) : Type 0 where
  pub y : List ℕ
  pub rest : List ℕ
  pub ms : List (ℕ × Message)
  pub gave : m.gave ≡ y ++ rest
  pub took : (m.handed ++ m.sent) ++ more ≡ out k y ms T
  pub early : length y < hand_bytes → (ms ≡ []) × (T ≡ [])
  pub read : IsRead most_message (drop hand_bytes y) ms
  pub given : AreGiven k most_message (count_of y) ms T
  pub told : gifts ≡ pulled k ms

-- after a turn: it lives, or has sent all that it owed and was finished
abbrev pub ClientGoes : Bool → Asked → ClientState → ClientState → MemLinkState → Type 0
ClientGoes true k old new m = ClientRuns k new m
ClientGoes false k old new m = ClientSide k m old.parts.gave (gifts_of old.parts) [] × (is_finished old.parts.gave ≡ true)

-- ---- the session

-- it is nowhere, or at the first place
abbrev pub IsHome : Option ℕ → Type 0
IsHome place = (p : ℕ) → place ≡ Some p → p ≡ 0

-- its calls are made there, and no other place has a history
pub record StaysHome (where_is : Option ℕ) (p : SoleState) (s : SeatState SeenState) : Type 0 where
  pub place : IsHome where_is
  pub spot : IsHome (place_of s.spot)
  pub none : (q : ℕ) → q ≢ 0 → journal_at p.books q ≡ []

-- one that lives, over its link and at these streams
pub record Serves (who : ℕ) (p : SoleState) (s : SessionState SeenState) (m : MemLinkState) : Type 0 where
  pub lives : s.ended ≡ None
  pub goes_on : s.quit ≡ false
  pub who_is : s.parts.who ≡ who
  pub window_is : s.parts.window ≡ window
  pub max : s.parts.reader.max ≡ max_message
  pub stands : StandsFor granted s
  pub publishes : Publishes granted s.parts
  pub rises : Rises granted s.parts
  pub at : IsAt (FitsSole p) (places (sole_rules p.rules)) s.parts s.seat
  pub home : StaysHome s.parts.place p s.seat
  pub visits : StandsAt (λ (q : SoleState). sole_rules q.rules) (λ (q : SoleState). journal_at q.books) (λ (q : SeenState). q.seen) p s.seat
  pub gave : m.gave ≡ s.parts.x ++ s.input
  pub took : m.handed ++ m.sent ≡ s.parts.sent

-- the streams went on
pub record GoesAhead (p q : SoleState) : Type 0 where
  pub rules : sole_rules q.rules ≡ sole_rules p.rules
  pub roots : GoOn (journal_at p.books) (journal_at q.books)
  pub passes : (place : ℕ) (pass : SeenState) → FitsSole p place pass → FitsSole q place pass
  pub others : ((n : ℕ) → n ≢ 0 → journal_at p.books n ≡ []) → (n : ℕ) → n ≢ 0 → journal_at q.books n ≡ []

-- one call more was made at the stream of the loop, which asked for its counts
pub record HasCounted (p q : SoleState) : Type 0 where
  pub entry : Entry
  pub reply : Reply
  pub asks : entry.call ≡ Count
  pub adds : journal_at q.books 0 ≡ journal_at p.books 0 ++ (entry, reply) ∷ []

-- its calls, the newest first
abbrev pub steps_of : List Visit → List Step
steps_of visits = map (λ (v : Visit). v.1) visits

-- THE CALLS OF BOTH in some order: of replies of each kind the history has as many as they
abbrev pub Mixes : SoleState → SeatState SeenState → SeatState SeenState → Type 0
Mixes p s t = (f : Reply → Bool) → how_many f (journal_at p.books 0) ≡ how_many f (steps_of s.visits) + how_many f (steps_of t.visits)

-- ---- both

abbrev pub most_passed : ℕ
most_passed = 2 ^ 61

-- what a link has handed over came to the other, and is counted, and the link works
pub record IsPassed (from to : MemLinkState) (total : ℕ) : Type 0 where
  pub came : to.gave ++ concat to.pieces ≡ from.handed
  pub none : from.sent ≡ []
  pub total_is : total ≡ length from.handed
  pub few : total ≤ most_passed
  pub works : Works from

pub record ArePassed (l : Line) : Type 0 where
  pub forth : IsPassed l.near l.far l.forth
  pub back : IsPassed l.far l.near l.back

-- few bytes passed
pub record AreFew (l : Line) : Type 0 where
  pub forth : l.forth ≤ most_passed
  pub back : l.back ≤ most_passed

-- a session has taken a turn and lives
pub record Served (who : ℕ) (p q : SoleState) (l : Line) : Type 0 where
  pub serves : Serves who q l.session l.far
  pub passed : ArePassed l
  pub ahead : GoesAhead p q

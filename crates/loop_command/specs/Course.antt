-- THE RUN OF A FILM, as a relation: rounds of turns, each of them that of a client or of a session
use Rattle.std.specs.Prelude.{◌≡◌, ◌⊎◌, ◌<◌, ◌+◌, ◌-◌, ◌*◌, ◌^◌, ◌++◌, ℕ, Bool, true, false, ◌&&◌, not, min, nat_eq, nat_le, List, [], ◌∷◌, length, Option}
use Rattle.std.specs.Prelude.{Some, None, if◌then◌else◌}
use Rattle.std.specs.Option.{is_some}
use Rattle.flv_tags.specs.declared.tag.Tag.{Tag}
use Rattle.relay_outside.specs.MemLinks.{MemHears, MemLinkState, MemSays}
use Rattle.ack_window.specs.Outbound.{new_out}
use Rattle.client_owed.specs.declared.types.Gift.{Gift}
use Rattle.client_owed.specs.declared.types.Given.{Given}
use Rattle.client_owed.specs.declared.types.Given.TheVariants.{Finish, Send}
use Rattle.client_owed.specs.declared.types.Wish.{Wish}
use Rattle.client_owed.specs.declared.types.Wish.TheVariants as wish
use Rattle.client_owed.specs.Standing.{gave_more, with_given}
use Rattle.rtmp_client.specs.ClientState.{ClientState, TurnMade, has_started, untouched_of, without_gift}
use Rattle.rtmp_client.specs.Keeping as client_keeping
use Rattle.rtmp_client.specs.Owing.{Counts}
use Rattle.rtmp_client.specs.Turns as client_turns
use Rattle.rtmp_client.specs.declared.end.ClientEnd.TheVariants as client_end
use Rattle.rtmp_client.specs.declared.end.ClientTurn.{ClientTurn}
use Rattle.rtmp_client.specs.declared.end.ClientTurn.TheVariants as client_turn
use Rattle.client_command.specs.Gifts.{pull_text}
use Rattle.client_command.specs.Telling.{is_last}
use Rattle.client_command.specs.Turned.{IsLive, IsNew}
use Rattle.session_owed.specs.Standing as session_standing
use Rattle.stream_model.specs.Counts.{is_skip}
use Rattle.stream_model.specs.declared.calls.Entry.{Entry}
use Rattle.stream_registry.specs.Books.{FitsSole, SeenState, SoleState, journal_at, sole_rules}
use Rattle.stream_registry.specs.Told.{Step}
use Rattle.client_law.specs.Pull.{item_in}
use Rattle.relay_session.specs.Keeping as session_keeping
use Rattle.relay_session.specs.Places.{AskedAlone}
use Rattle.relay_session.specs.SeatState.{SeatState}
use Rattle.relay_session.specs.SessionState.{SessionState, StandsBy, ended_by, life_at, pending_by}
use Rattle.relay_session.specs.Turns.{EndedBy}
use Rattle.relay_session.specs.declared.seat_answers.Made.{Made}
use Rattle.relay_session.specs.declared.turn.Turn.{Turn}
use Rattle.loop_command.specs.Desk.{asked_by, granted, max_message, player, publisher, rules, window}
use Rattle.loop_command.specs.declared.line.Line.{Line}
use Rattle.loop_command.specs.declared.rounds.Run.{Run}
use Rattle.loop_command.specs.declared.rounds.Stage.{Stage}
use Rattle.loop_command.specs.declared.rounds.Stage.TheVariants.{Giving, Finishing, Done}

-- ---- what a link took comes to the other

abbrev pub pieces_with : List (List ℕ) → List ℕ → List (List ℕ)
pieces_with pieces [] = pieces
pieces_with pieces (b ∷ l) = pieces ++ (b ∷ l) ∷ []

-- as one piece, where it took some
pub record Passes (from to from' to' : MemLinkState) : Type 0 where
  pub handed : from' ≡ record from { handed = from.handed ++ from.sent; sent = [] }
  pub given : to' ≡ record to { pieces = pieces_with to.pieces from.sent }

-- ---- a turn of a client

abbrev pub is_on : ClientTurn → Bool
is_on client_turn.Moved = true
is_on client_turn.Idle = true
is_on client_turn.Ended = false

-- the turn, and what its link took comes to the session, and is counted
pub record ClientTurned (answer : ClientTurn) (l m : Line) : Type 0 where
  pub link : MemLinkState
  pub turn : TurnMade (client_turns.EndedBy MemHears MemSays) l.client l.near answer m.client link
  pub passed : Passes link l.far m.near m.far
  pub forth : m.forth ≡ l.forth + length link.sent
  pub session : m.session ≡ l.session
  pub all_sent : is_on answer ≡ false → m.client.ended ≡ Some client_end.Done

-- ---- a turn of a session

abbrev pub Asks : SoleState → SeatState SeenState → ℕ → Entry → Made → SoleState → SeatState SeenState → Type 0
Asks = AskedAlone FitsSole (λ (s : SoleState). sole_rules s.rules) (λ (s : SoleState). journal_at s.books) (λ (p : SeenState). p.seen)
    (λ (p : SeenState). length p.seen) (λ (e : Entry). Unit {0}) (λ (s : SoleState). 0) (λ (h xs i : List Step). i ≡ h ++ xs)
    (λ (s : SoleState) (q : ℕ). []) (λ (p : SeenState). [])

-- the turn of one that lives on, and what its link took comes to the client
pub record SessionTurned (p q : SoleState) (l m : Line) : Type 0 where
  pub answer : Turn
  pub link : MemLinkState
  pub turn : EndedBy Asks granted MemHears MemSays l.session.ended l.session.quit (life_at l.session p) l.far answer (life_at m.session q) link
  pub lives : ended_by answer ≡ None
  pub ended : m.session.ended ≡ None
  pub quit : m.session.quit ≡ l.session.quit
  pub passed : Passes link l.near m.far m.near
  pub forth : m.forth ≡ l.forth
  pub client : m.client ≡ l.client

-- ---- the client that plays, and its session

abbrev pub without : ClientState → ClientState
without c = record c { parts = without_gift c.parts }

-- the gift that waits is taken and written, unless the stream was over
abbrev pub TakesGift : Bool → Option Gift → Run → Run → Type 0
TakesGift true g r s = s ≡ r
TakesGift false None r s = s ≡ record r { pull = record r.pull { client = without r.pull.client } }
TakesGift false (Some g) r s =
    s ≡ record r { pull = record r.pull { client = without r.pull.client }; begun = true; over = is_last g; told = min (r.told + 1) (2 ^ 64 - 1) }

-- a turn of the client, which lives on
pub record Pulled (r s : Run) : Type 0 where
  pub answer : ClientTurn
  pub lives : is_on answer ≡ true
  pub turned : ClientTurned answer r.pull s.pull
  pub others : s ≡ record r { pull = s.pull }

-- a turn of its session
pub record PlayerServed (r s : Run) : Type 0 where
  pub turned : SessionTurned r.port s.port r.pull s.pull
  pub others : s ≡ record r { port = s.port; pull = s.pull }

-- a turn of the client, its gift, and a turn of the session
pub record Plays (r s : Run) : Type 0 where
  pub pulled : Run
  pub told : Run
  pub client : Pulled r pulled
  pub gift : TakesGift pulled.over pulled.pull.client.parts.gift pulled told
  pub session : PlayerServed told s

-- ---- the client that publishes, and its session

-- it was given this
pub record Gives (g : Given) (c d : ClientState) : Type 0 where
  pub past : client_keeping.past_of d.parts ≡ with_given (client_keeping.past_of c.parts) (record { at = length c.parts.y; given = g })
  pub keeps : client_keeping.keeps_of d.parts ≡ gave_more (client_keeping.keeps_of c.parts) g
  pub counts : Counts g c.parts.outgoing d.parts.outgoing
  pub others : untouched_of d ≡ untouched_of c

-- the next tag, or that no more will come
abbrev pub GivesNext : List Tag → Run → Run → Type 0
GivesNext (t ∷ queue) r s =
    Gives (Send t) r.push.client s.push.client × (s.tags.items ≡ queue) × (s ≡ record r { push = record r.push { client = s.push.client }; tags = s.tags })
GivesNext [] r s =
    Gives Finish r.push.client s.push.client × (s.tags.items ≡ [])
    × (s ≡ record r { push = record r.push { client = s.push.client }; tags = s.tags; stage = Finishing })

-- where it can be given anything: it has started, and nothing is pending
abbrev pub can_give : ClientState → Bool
can_give c = has_started c.parts.phase && nat_eq (length c.parts.outgoing.pending) 0

abbrev pub GivesWhere : Stage → Bool → Run → Run → Type 0
GivesWhere Giving true r s = GivesNext r.tags.items r s
GivesWhere Giving false r s = s ≡ r
GivesWhere Finishing b r s = s ≡ r
GivesWhere Done b r s = s ≡ r

abbrev pub stage_after : Bool → Stage → Stage
stage_after true stage = stage
stage_after false stage = Done

pub record Pushed (r s : Run) : Type 0 where
  pub answer : ClientTurn
  pub turned : ClientTurned answer r.push s.push
  pub others : s ≡ record r { push = s.push; stage = stage_after (is_on answer) r.stage }

-- unless it has sent all
abbrev pub PushesWhere : Stage → Run → Run → Type 0
PushesWhere Giving r s = Pushed r s
PushesWhere Finishing r s = Pushed r s
PushesWhere Done r s = s ≡ r

-- it is given something and takes a turn once the client that plays has started
abbrev pub PushesOnce : Bool → Run → Run → Type 0
PushesOnce true r s = (given : Run) × GivesWhere r.stage (can_give r.push.client) r given × PushesWhere given.stage given s
PushesOnce false r s = s ≡ r

-- a turn of its session
pub record PublisherServed (r s : Run) : Type 0 where
  pub turned : SessionTurned r.port s.port r.push s.push
  pub others : s ≡ record r { port = s.port; push = s.push }

-- the client's part, and a turn of the session
pub record Publishes (r s : Run) : Type 0 where
  pub pushed : Run
  pub client : PushesOnce (has_started r.pull.client.parts.phase) r pushed
  pub session : PublisherServed pushed s

-- ---- rounds

-- A ROUND
pub record Round (r s : Run) : Type 0 where
  pub between : Run
  pub plays : Plays r between
  pub publishes : Publishes between s

abbrev pub is_done : Stage → Bool
is_done Giving = false
is_done Finishing = false
is_done Done = true

-- no call of the session waits, and nothing that it owes is to be sent
abbrev pub is_still : SessionState SeenState → Bool
is_still s = not (is_some s.parts.kept) && nat_eq (pending_by s.ended s.parts) 0

-- how many items were sent in a history
abbrev pub sent_in : List Step → ℕ
sent_in [] = 0
sent_in (c ∷ C) = length (item_in c.1) + sent_in C

-- the client that plays was told of all
abbrev pub has_told : Run → Bool
has_told r = nat_le (sent_in (journal_at r.port.books 0)) r.told

-- a player was told in a history that the stream's window has gone past its place
abbrev pub skips_in : List Step → Bool
skips_in [] = false
skips_in (c ∷ C) = if is_skip c.1 then true else skips_in C

-- THE PLAYER MISSED items of the stream, as its window went past them
abbrev pub has_skipped : Run → Bool
has_skipped r = skips_in (journal_at r.port.books 0)

-- the stream is over for the client that plays, the other has sent all, which its session has read, and
-- nothing is to be sent
abbrev pub is_quiet : Run → Bool
is_quiet r =
    r.over
    && (is_done r.stage
    && (nat_eq (length r.push.session.parts.x) r.push.forth
    && (is_still r.push.session && (is_still r.pull.session && nat_eq (length r.pull.client.parts.outgoing.pending) 0))))

-- IT HAS COME TO ITS END
abbrev pub is_settled : Run → Bool
is_settled r = is_quiet r && has_told r

-- ---- the whole run

-- a link that nothing has passed
abbrev pub new_link : MemLinkState
new_link = record {
  pieces = [];
  ended = false;
  gave = [];
  handed = [];
  sent = [];
  room = None;
  recv_fails = false;
  send_fails = false;
  counts = record { faults = 0; waits = 0; ends = 0 };
}

-- a new client and a new session, and their links
pub record IsFirstLine (w : Wish) (who : ℕ) (l : Line) : Type 0 where
  pub asked : l.client.parts.asked ≡ asked_by w
  pub client : IsNew l.client
  pub live : IsLive l.client
  pub near : l.near ≡ new_link
  pub forth : l.forth ≡ 0
  pub past : session_keeping.past_of l.session.parts ≡ session_standing.new_past
  pub who_is : l.session.parts.who ≡ who
  pub window_is : l.session.parts.window ≡ window
  pub max : l.session.parts.reader.max ≡ max_message
  pub input : l.session.input ≡ []
  pub lives : l.session.ended ≡ None
  pub goes_on : l.session.quit ≡ false
  pub fed : l.session.parts.fed ≡ 0
  pub outbound : l.session.parts.outbound ≡ new_out window
  pub others : l.session.parts.outgoing.others ≡ 0
  pub stands : StandsBy l.session.ended granted l.session.parts
  pub place : l.session.parts.place ≡ None
  pub spot : l.session.seat.spot ≡ None
  pub visits : l.session.seat.visits ≡ []
  pub far : l.far ≡ new_link

-- a run of which nothing was done
pub record IsFirst (tags : List Tag) (r : Run) : Type 0 where
  pub rules_are : sole_rules r.port.rules ≡ rules
  pub none : (q : ℕ) → journal_at r.port.books q ≡ []
  pub pull : IsFirstLine wish.Pull player r.pull
  pub push : IsFirstLine wish.Push publisher r.push
  pub tags_are : r.tags.items ≡ tags
  pub stage : r.stage ≡ Giving
  pub begun : r.begun ≡ false
  pub over : r.over ≡ false
  pub told : r.told ≡ 0

-- the states before each of its rounds, the newest first. None of those behind a round is its end
abbrev pub IsCourse : Run → List Run → Run → Type 0
IsCourse first [] last = last ≡ first
IsCourse first (m ∷ states) last = IsCourse first states m × Round m last × (is_settled last ≡ false)

-- how many rounds a film of so many bytes has
abbrev pub rounds_of : ℕ → ℕ
rounds_of bytes = 4096 + 2 * bytes

-- what the client that plays was told, as FLV
abbrev pub text_of : Run → List ℕ
text_of r = pull_text r.pull.client.parts.taken

-- THE FILM HAS COME BACK as this text, within its rounds
pub record CameBack (tags : List Tag) (bytes : ℕ) (text : List ℕ) : Type 0 where
  pub first : Run
  pub fresh : IsFirst tags first
  pub states : List Run
  pub before : Run
  pub course : IsCourse first states before
  pub within : length states < rounds_of bytes
  pub last : Run
  pub round : Round before last
  pub settled : is_settled last ≡ true
  pub text_is : text ≡ text_of last

-- IT HASN'T within them: all are made. This text came
pub record CameNot (tags : List Tag) (bytes : ℕ) (text : List ℕ) : Type 0 where
  pub first : Run
  pub fresh : IsFirst tags first
  pub states : List Run
  pub last : Run
  pub course : IsCourse first states last
  pub count : length states ≡ rounds_of bytes
  pub text_is : text ≡ text_of last

-- in the midst of a round: before it, or behind the turn of the client that plays and its gift
abbrev pub IsWithin : Run → Run → Type 0
IsWithin r s = (s ≡ r) ⊎ ((pulled : Run) × Pulled r pulled × TakesGift pulled.over pulled.pull.client.parts.gift pulled s)

-- IT ENDED IN A ROUND, in the midst of which this text had come
pub record CamePart (tags : List Tag) (bytes : ℕ) (text : List ℕ) : Type 0 where
  pub first : Run
  pub fresh : IsFirst tags first
  pub states : List Run
  pub before : Run
  pub course : IsCourse first states before
  pub within : length states < rounds_of bytes
  pub last : Run
  pub begun : IsWithin before last
  pub text_is : text ≡ text_of last

-- Only proofs and private functions use it.
-- A client and a session of which nothing was done
use Rattle.std.specs.Prelude.{◌≡◌, ◌≢◌, ℕ, false, [], None}
use Rattle.ack_window.specs.Outbound.{new_out}
use Rattle.client_owed.specs.declared.types.Wish.{Wish}
use Rattle.rtmp_client.specs.ClientState.{ClientState}
use Rattle.client_command.specs.Turned.{IsLive}
use Rattle.session_owed.specs.Standing.{new_past}
use Rattle.stream_registry.specs.Books.{SeenState, SoleState, journal_at, sole_rules}
use Rattle.relay_session.specs.Keeping.{past_of}
use Rattle.relay_session.specs.SessionState.{SessionState, StandsBy}
use Rattle.relay_session.specs.declared.seat_answers.Active.TheVariants.{Nothing}
use Rattle.loop_command.specs.Course.{IsFirstLine, new_link}
use Rattle.loop_command.specs.Desk.{asked_by, granted, max_message, rules, window}
use Rattle.loop_command.specs.Lines.{ArePassed, ClientRuns, Serves}
use Rattle.loop_command.specs.declared.line.Line.{Line}

-- a session that was fed nothing and is granted nothing
pub record IsNewSession (who : ℕ) (s : SessionState SeenState) : Type 0 where
  pub past : past_of s.parts ≡ new_past
  pub who_is : s.parts.who ≡ who
  pub window_is : s.parts.window ≡ window
  pub max : s.parts.reader.max ≡ max_message
  pub input : s.input ≡ []
  pub lives : s.ended ≡ None
  pub goes_on : s.quit ≡ false
  pub fed : s.parts.fed ≡ 0
  pub outbound : s.parts.outbound ≡ new_out window
  pub others : s.parts.outgoing.others ≡ 0
  pub place : s.parts.place ≡ None
  pub spot : s.seat.spot ≡ None
  pub visits : s.seat.visits ≡ []
  pub active : s.seat.active ≡ Nothing
  pub stands : StandsBy s.ended granted s.parts

abbrev pub fresh_line : ClientState → SessionState SeenState → Line
fresh_line c s = record { client = c; near = new_link; session = s; far = new_link; forth = 0; back = 0 }

-- a port to the one stream, which nobody has called
pub record IsNewPort (p : SoleState) : Type 0 where
  pub rules_are : sole_rules p.rules ≡ rules
  pub none : (q : ℕ) → journal_at p.books q ≡ []

-- a client and its session, at any port that nobody has called
pub record IsNewLine (w : Wish) (who : ℕ) (l : Line) : Type 0 where
  pub passed : ArePassed l
  pub live : IsLive l.client
  pub runs : ClientRuns (asked_by w) l.client l.near
  pub serves : (p : SoleState) → ((q : ℕ) → q ≢ 0 → journal_at p.books q ≡ []) → Serves who p l.session l.far
  pub first : IsFirstLine w who l

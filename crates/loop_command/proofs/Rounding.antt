-- How the steps of a round make a round, and rounds a run
use Rattle.std.proofs.Common.{◌≡◌, ℕ, ◌+◌, Bool, true, false, List, [], ◌∷◌, Option, Result, Ok, Err, refl, sym, subst, arith}
use Rattle.std.specs.Prelude.{IfErr, MatchResult, OnOk}
use Rattle.flv_tags.specs.declared.tag.Tag.{Tag}
use Rattle.rtmp_client.specs.ClientState.{has_started}
use Rattle.loop_command.specs.Course.{GivesWhere, PlayerServed, Plays, PublisherServed, Publishes, Pulled, PushesOnce, PushesWhere, Round, SessionTurned}
use Rattle.loop_command.specs.Course.{TakesGift, can_give, is_settled}
use Rattle.loop_command.specs.declared.line.Line.{Line}
use Rattle.loop_command.specs.Rounds.{ClientEnds, Goes, HasSettled, IsOwn, IsRun, IsUnsettled, IsWanting, PlaysBy, PublishesBy, RoundBy, RunsBy, RunsOn}
use Rattle.loop_command.specs.Rounds.{SessionEnds, SinkCause, StepBy, TurnsClient, TurnsSession, is_failure}
use Rattle.loop_command.specs.declared.rounds.Run.{Run}
use Rattle.loop_command.specs.declared.stop.Stop.{Stop}
use Rattle.loop_command.specs.declared.stop.Stop.TheVariants.{Refused, Source, Sink, Memory, Unfinished}
use Rattle.stream_registry.specs.Books.{SoleState}
use Rattle.rtmp_client.specs.declared.end.ClientEnd.{ClientEnd}
use Rattle.loop_command.proofs.Running.{own_cause, run_text}

-- ---- steps

pub step_fails : (stop : Stop) (A B F G : Type 0) → (F → G) → StepBy (Err stop) A F → StepBy (Err stop) B G
step_fails Unfinished A B F G f h = f h
step_fails (Refused at) A B F G f h = tt
step_fails Source A B F G f h = tt
step_fails Sink A B F G f h = tt
step_fails Memory A B F G f h = tt

pub step_then : (r : Result (Unit {0}) Stop) (A B F G : Type 0) → (A → B) → (F → G) → StepBy r A F → StepBy r B G
step_then (Ok x) A B F G f g h = f h
step_then (Err stop) A B F G f g h = step_fails stop A B F G g h

pub memory_steps : (stop : Stop) (B G : Type 0) → stop ≡ Memory → StepBy (Err stop) B G
memory_steps stop B G e = subst (λ (s : Stop). StepBy (Err s) B G) (sym e) tt

-- one that can want memory alone, or a sink
pub step_wants : (stop : Stop) (B G : Type 0) → IsWanting stop → StepBy (Err stop) B G
step_wants Unfinished B G w = absurd w
step_wants (Refused at) B G w = tt
step_wants Source B G w = tt
step_wants Sink B G w = tt
step_wants Memory B G w = tt

pub own_match : (r : Result (Unit {0}) Stop) (n m : ℕ) → m ≡ n → IfErr r IsOwn → MatchResult r (λ x. m ≡ n) (λ stop. SinkCause stop n m)
own_match (Ok x) n m e h = e
own_match (Err stop) n m e h = subst (λ (k : ℕ). SinkCause stop n k) (sym e) (own_cause stop n h)

-- ---- turns of a line

pub own_turn : (stop : Stop) (l m : Line) → TurnsClient (Err stop) l m → IsOwn stop
own_turn Unfinished l m h = tt
own_turn Memory l m h = tt
own_turn (Refused at) l m h = h
own_turn Source l m h = h
own_turn Sink l m h = h

pub own_session : (q : Result (Unit {0}) Stop) (a b : SoleState) (l m : Line) → TurnsSession q a b l m → IfErr q IsOwn
own_session (Ok x) a b l m h = tt
own_session (Err Unfinished) a b l m h = tt
own_session (Err Memory) a b l m h = tt
own_session (Err (Refused at)) a b l m h = h
own_session (Err Source) a b l m h = h
own_session (Err Sink) a b l m h = h

-- a client's turn, by which it hasn't ended
pub client_ends : (stop : Stop) (B : Type 0) (l m : Line) → ((e : ClientEnd) → is_failure e ≡ true → ClientEnds l e → ⊥)
    → TurnsClient (Err stop) l m → StepBy (Err stop) B ⊥
client_ends Unfinished B l m f h = f h.0 h.1 h.2
client_ends Memory B l m f h = tt
client_ends (Refused at) B l m f h = tt
client_ends Source B l m f h = tt
client_ends Sink B l m f h = tt

-- a session's turn, by which it hasn't ended
pub session_by : (q : Result (Unit {0}) Stop) (a b : SoleState) (l m : Line) (B : Type 0) → (SessionTurned a b l m → OnOk q B) → (SessionEnds a l → ⊥)
    → TurnsSession q a b l m → StepBy q B ⊥
session_by (Ok x) a b l m B f g h = f h
session_by (Err Unfinished) a b l m B f g h = g h
session_by (Err Memory) a b l m B f g h = tt
session_by (Err (Refused at)) a b l m B f g h = tt
session_by (Err Source) a b l m B f g h = tt
session_by (Err Sink) a b l m B f g h = tt

-- ---- the client that plays, and its session

pub plays_on : (file : List Tag) (r pulled told s : Run) (old now : Option (List ℕ)) → Pulled r pulled
    → TakesGift pulled.over pulled.pull.client.parts.gift pulled told → Goes file s old now (PlayerServed told s) → Goes file s old now (Plays r s)
plays_on file r pulled told s old now p t g = record {
  is_run = g.is_run;
  made =
      record { pulled = pulled; told = told; client = p; gift = t; session = g.made };
}

-- what a step came to
pub pull_stops : (stop : Stop) (A : Type 0) (file : List Tag) (r s : Run) (old now : Option (List ℕ)) → StepBy (Err stop) A ⊥
    → PlaysBy (Err stop) file r s old now
pull_stops stop A file r s old now t = step_fails stop A (Goes file s old now (Plays r s)) ⊥ ⊥ (λ x. x) t

pub write_stops : (stop : Stop) (file : List Tag) (r s : Run) (old now : Option (List ℕ)) → IsWanting stop → PlaysBy (Err stop) file r s old now
write_stops stop file r s old now w = step_wants stop (Goes file s old now (Plays r s)) ⊥ w

pub plays_by : (q : Result (Unit {0}) Stop) (file : List Tag) (r pulled told s : Run) (old now : Option (List ℕ)) → Pulled r pulled
    → TakesGift pulled.over pulled.pull.client.parts.gift pulled told → StepBy q (Goes file s old now (PlayerServed told s)) ⊥ → PlaysBy q file r s old now
plays_by q file r pulled told s old now p t b =
    step_then q (Goes file s old now (PlayerServed told s)) (Goes file s old now (Plays r s)) ⊥ ⊥ (plays_on file r pulled told s old now p t) (λ x. x) b

-- ---- the client that publishes, and its session

abbrev Starts : Run → Bool
Starts r = has_started r.pull.client.parts.phase

pub pushes_on : (file : List Tag) (r given s : Run) (old now : Option (List ℕ)) → Starts r ≡ true → GivesWhere r.stage (can_give r.push.client) r given
    → Goes file s old now (PushesWhere given.stage given s) → Goes file s old now (PushesOnce (Starts r) r s)
pushes_on file r given s old now e v g = record { is_run = g.is_run; made = subst (λ (b : Bool). PushesOnce b r s) (sym e) (given, v, g.made) }

pub publishes_on : (file : List Tag) (r pushed s : Run) (old now : Option (List ℕ)) → PushesOnce (Starts r) r pushed
    → Goes file s old now (PublisherServed pushed s) → Goes file s old now (Publishes r s)
publishes_on file r pushed s old now p g = record { is_run = g.is_run; made = record { pushed = pushed; client = p; session = g.made } }

abbrev pub PushesBy : Result (Unit {0}) Stop → List Tag → Run → Run → Option (List ℕ) → Option (List ℕ) → Type 0
PushesBy q file r s old now = StepBy q (Goes file s old now (PushesOnce (Starts r) r s)) ⊥

pub pushes_by : (q : Result (Unit {0}) Stop) (file : List Tag) (r given s : Run) (old now : Option (List ℕ)) → Starts r ≡ true
    → GivesWhere r.stage (can_give r.push.client) r given → StepBy q (Goes file s old now (PushesWhere given.stage given s)) ⊥ → PushesBy q file r s old now
pushes_by q file r given s old now e v b =
    step_then q (Goes file s old now (PushesWhere given.stage given s)) (Goes file s old now (PushesOnce (Starts r) r s)) ⊥ ⊥
    (pushes_on file r given s old now e v) (λ x. x) b

pub unstarted : (file : List Tag) (r : Run) (old now : Option (List ℕ)) → Starts r ≡ false → IsRun file r old now
    → Goes file r old now (PushesOnce (Starts r) r r)
unstarted file r old now e h = record { is_run = h; made = subst (λ (b : Bool). PushesOnce b r r) (sym e) refl }

pub push_stops : (stop : Stop) (A : Type 0) (file : List Tag) (r s : Run) (old now : Option (List ℕ)) → StepBy (Err stop) A ⊥
    → PublishesBy (Err stop) file r s old now
push_stops stop A file r s old now t = step_fails stop A (Goes file s old now (Publishes r s)) ⊥ ⊥ (λ x. x) t

pub publishes_by : (q : Result (Unit {0}) Stop) (file : List Tag) (r pushed s : Run) (old now : Option (List ℕ)) → PushesOnce (Starts r) r pushed
    → StepBy q (Goes file s old now (PublisherServed pushed s)) ⊥ → PublishesBy q file r s old now
publishes_by q file r pushed s old now p b =
    step_then q (Goes file s old now (PublisherServed pushed s)) (Goes file s old now (Publishes r s)) ⊥ ⊥ (publishes_on file r pushed s old now p)
    (λ x. x) b

-- ---- rounds

round_on : (file : List Tag) (r between s : Run) (old now : Option (List ℕ)) → Plays r between → Goes file s old now (Publishes between s)
    → Goes file s old now (Round r s)
round_on file r between s old now p g = record { is_run = g.is_run; made = record { between = between; plays = p; publishes = g.made } }

pub play_stops : (stop : Stop) (A : Type 0) (file : List Tag) (r s : Run) (old now : Option (List ℕ)) → StepBy (Err stop) A ⊥
    → RoundBy (Err stop) file r s old now
play_stops stop A file r s old now t = step_fails stop A (Goes file s old now (Round r s)) ⊥ ⊥ (λ x. x) t

pub round_by : (q : Result (Unit {0}) Stop) (file : List Tag) (r between s : Run) (old now : Option (List ℕ)) → Plays r between
    → PublishesBy q file between s old now → RoundBy q file r s old now
round_by q file r between s old now p b =
    step_then q (Goes file s old now (Publishes between s)) (Goes file s old now (Round r s)) ⊥ ⊥ (round_on file r between s old now p) (λ x. x) b

pub run_begins : (file : List Tag) (r : Run) (rounds : ℕ) (old now : Option (List ℕ)) → IsRun file r old now → RunsOn file r r rounds rounds old now
run_begins file r rounds old now h = record { is_run = h; states = []; course = refl; count = omega arith }

pub run_on : (file : List Tag) (first r s : Run) (rounds left left' : ℕ) (old held now : Option (List ℕ)) → RunsOn file first r rounds left old held
    → left ≡ left' + 1 → is_settled s ≡ false → Goes file s old now (Round r s) → RunsOn file first s rounds left' old now
run_on file first r s rounds left left' old held now o e f g =
    record { is_run = g.is_run; states = r ∷ o.states; course = (o.course, g.made, f); count = omega (arith, e, o.count) }

pub run_settles : (file : List Tag) (first r s : Run) (rounds left left' : ℕ) (old held now : Option (List ℕ)) → RunsOn file first r rounds left old held
    → left ≡ left' + 1 → is_settled s ≡ true → Goes file s old now (Round r s) → Goes file s old now (HasSettled first s rounds)
run_settles file first r s rounds left left' old held now o e f g = record {
  is_run = g.is_run;
  made = record { states = o.states; before = r; course = o.course; within = omega (arith, e, o.count); round = g.made; settled = f };
}

pub round_stops : (stop : Stop) (A : Type 0) (file : List Tag) (first s : Run) (rounds : ℕ) (old now : Option (List ℕ)) → StepBy (Err stop) A ⊥
    → RunsBy (Err stop) file first s rounds old now
round_stops stop A file first s rounds old now t =
    step_fails stop A (Goes file s old now (HasSettled first s rounds)) ⊥ (IsUnsettled first s rounds old now) (λ x. absurd x) t

pub run_out : (file : List Tag) (first r : Run) (rounds left : ℕ) (old now : Option (List ℕ)) → RunsOn file first r rounds left old now → left ≡ 0
    → IsUnsettled first r rounds old now
run_out file first r rounds left old now o e =
    record { states = o.states; course = o.course; count = omega (arith, e, o.count); written = run_text file r old now o.is_run }

-- What each step of a round leaves of a run
use Rattle.std.proofs.Common.{◌≡◌, ℕ, ◌+◌, ◌-◌, ◌≤◌, ◌^◌, min, Bool, true, false, nat_eq, List, [], ◌∷◌, ◌++◌, length, Option, Some, None, Result, Ok, Err}
use Rattle.std.proofs.Common.{refl, sym, ap, ◌∙◌, subst, arith, append_assoc, append-nil, length-append}
use Rattle.std.specs.Io.KnownBytes.{append_known}
use Rattle.std.specs.Prelude.{OnOk}
use Rattle.chunk_reader.specs.ReaderKnown.{ReaderKnown}
use Rattle.flv_tags.specs.declared.tag.Tag.{Tag}
use Rattle.relay_outside.specs.MemLinks.{MemLinkState}
use Rattle.client_owed.specs.declared.types.Asked.{Asked}
use Rattle.client_owed.specs.declared.types.Given.{Given}
use Rattle.client_owed.specs.declared.types.Given.TheVariants as given
use Rattle.client_owed.specs.declared.types.Gift.{Gift}
use Rattle.client_owed.specs.declared.types.Gift.TheVariants as gift
use Rattle.client_owed.specs.Standing.{Keeps, Past, listed}
use Rattle.rtmp_client.specs.ClientState.{ClientState, Lasting, has_started, Untouched, lasting_of}
use Rattle.rtmp_client.specs.declared.end.ClientTurn.{ClientTurn}
use Rattle.stream_registry.specs.Books.{FitsSole, SeenState, SoleState, sole_rules}
use Rattle.stream_registry.specs.Names.{places}
use Rattle.relay_session.specs.Places.{IsThere}
use Rattle.relay_session.specs.SessionState.{SessionState}
use Rattle.client_command.specs.Film.{tags_given}
use Rattle.client_command.specs.Gifts.{pull_text}
use Rattle.client_command.specs.Runs.{AreFriendly}
use Rattle.client_command.specs.Telling.{has_some, is_last}
use Rattle.client_command.specs.Turned.{IsLive, PutCause, gifts_of}
use Rattle.client_command.specs.declared.stop.Stop.{Stop as CommandStop}
use Rattle.client_command.specs.declared.stop.Stop.TheVariants as command
use Rattle.client_command.proofs.Pulled.{on_more, some_more}
use Rattle.client_command.proofs.Pushed.{gave_all, none_long, open_given}
use Rattle.client_command.proofs.Telling.{live_without}
use Rattle.loop_command.specs.Course.{ClientTurned, Gives, GivesNext, GivesWhere, Passes, PlayerServed, PublisherServed, Pushed, PushesWhere, SessionTurned}
use Rattle.loop_command.specs.Course.{TakesGift, can_give, is_done, is_on, stage_after, text_of, without}
use Rattle.loop_command.specs.Desk.{player, publisher, puller, pusher}
use Rattle.loop_command.specs.Lines.{AreFew, ArePassed, ClientGoes, ClientRuns, Mixes, Served, Serves}
use Rattle.loop_command.specs.Rounds.{CanPush, Goes, IsOwn, IsRun, IsSound, IsTold, IsWanting, PushesOf, SinkCause, StandsIn, TurnsSession, stop_within}
use Rattle.loop_command.specs.declared.line.Line.{Line}
use Rattle.loop_command.specs.declared.rounds.Run.{Run}
use Rattle.loop_command.specs.declared.rounds.Stage.{Stage}
use Rattle.loop_command.specs.declared.rounds.Stage.TheVariants.{Giving, Finishing, Done}
use Rattle.loop_command.specs.declared.stop.Stop.{Stop}
use Rattle.loop_command.specs.declared.stop.Stop.TheVariants.{Refused, Source, Sink, Memory, Unfinished}
use Rattle.loop_command.proofs.Clients.{runs_at, side_at}
use Rattle.loop_command.proofs.Mixing.{mixes_swap, served_mixed}
use Rattle.loop_command.proofs.Sessions.{fit_on, serves_at, serves_on}
use Rattle.loop_command.proofs.Settling.{both, same_is}

-- ---- what a stop says

pub own_cause : (stop : Stop) (n : ℕ) → IsOwn stop → SinkCause stop n n
own_cause (Refused at) n h = h
own_cause Source n h = h
own_cause Sink n h = absurd h
own_cause Memory n h = refl
own_cause Unfinished n h = refl

pub put_wanting : (stop : CommandStop) (n m : ℕ) → PutCause stop n m → IsWanting (stop_within stop) × SinkCause (stop_within stop) n m
put_wanting command.Client n m h = absurd h
put_wanting (command.Refused at) n m h = absurd h
put_wanting command.Source n m h = absurd h
put_wanting command.Sink n m h = (tt, h)
put_wanting command.Memory n m h = (tt, h)

-- ---- the link of the other end

far_gave : (link far near' far' : MemLinkState) → Passes link far near' far' → far'.gave ≡ far.gave
far_gave link far near' far' p = ap (λ (m : MemLinkState). m.gave) p.given

far_took : (link far near' far' : MemLinkState) → Passes link far near' far' → far'.handed ++ far'.sent ≡ far.handed ++ far.sent
far_took link far near' far' p = ap (λ (m : MemLinkState). m.handed ++ m.sent) p.given

-- a session whose client took a turn
serves_turned : (who : ℕ) (p : SoleState) (a : ClientTurn) (l m : Line) → ClientTurned a l m → Serves who p l.session l.far → Serves who p m.session m.far
serves_turned who p a l m t s =
    subst (λ (x : SessionState SeenState). Serves who p x m.far) (sym t.session)
    (serves_at who p l.session l.far m.far (far_gave t.link l.far m.near m.far t.passed) (far_took t.link l.far m.near m.far t.passed) s)

-- and a client whose session did
runs_served : (k : Asked) (p q : SoleState) (l m : Line) → SessionTurned p q l m → ClientRuns k l.client l.near → ClientRuns k m.client m.near
runs_served k p q l m t r =
    subst (λ (x : ClientState). ClientRuns k x m.near) (sym t.client)
    (runs_at k l.client l.near m.near (far_gave t.link l.near m.far m.near t.passed) (far_took t.link l.near m.far m.near t.passed) r)

pub stands_on : (p q : SoleState) (s : SessionState SeenState) → sole_rules q.rules ≡ sole_rules p.rules
    → ((place : ℕ) (pass : SeenState) → FitsSole p place pass → FitsSole q place pass) → StandsIn p s → StandsIn q s
stands_on p q s e f a = record {
  fit = fit_on p q s.seat.spot f a.fit;
  there = subst (λ (n : ℕ). IsThere n s.parts.place) (sym (ap places e)) a.there;
  calls = a.calls;
}

-- ---- the client that plays

-- what it was told is written
pub told_text : (over begun : Bool) (taken : List Gift) (old now : Option (List ℕ)) → IsTold over begun taken old now → now ≡ append_known old (pull_text taken)
told_text true begun taken old now t = t.1
told_text false begun taken old now t = t.2

pub run_text : (file : List Tag) (r : Run) (old now : Option (List ℕ)) → IsRun file r old now → now ≡ append_known old (text_of r)
run_text file r old now h = told_text r.over r.begun r.pull.client.parts.taken old now h.told

pub pull_sound : (a : ClientTurn) (r : Run) (l : Line) → AreFew l → IsLive l.client → ClientTurned a r.pull l → IsSound r → IsSound (record r { pull = l })
pull_sound a r l few live t s = record {
  rules_are = s.rules_are;
  pull_few = few;
  push_few = s.push_few;
  plays = subst (StandsIn r.port) (sym t.session) s.plays;
  publishes = s.publishes;
  pulls = live;
  pushes = s.pushes;
}

pub pull_run : (file : List Tag) (old now : Option (List ℕ)) (a : ClientTurn) (r : Run) (l : Line) → ArePassed l → ClientRuns puller l.client l.near
    → lasting_of l.client.parts ≡ lasting_of r.pull.client.parts → ClientTurned a r.pull l
    → IsRun file r old now → IsRun file (record r { pull = l }) old now
pull_run file old now a r l passed runs la t h = record {
  pull_passed = passed;
  push_passed = h.push_passed;
  plays = serves_turned player r.port a r.pull l t h.plays;
  publishes = h.publishes;
  pulls = runs;
  gave_none = ap (λ (x : Lasting). x.gave) la ∙ h.gave_none;
  told = subst (λ (x : List Gift). IsTold r.over r.begun x old now) (sym (ap (λ (x : Lasting). x.taken) la)) h.told;
  few = subst (λ (x : List Gift). r.told ≤ length x) (sym (ap (λ (x : Lasting). x.taken) la)) h.few;
  pushes = h.pushes;
  mixed = subst (λ (s : SessionState SeenState). Mixes r.port s.seat r.push.session.seat) (sym t.session) h.mixed;
}

-- ---- its gift

told_next : (g : Gift) (begun : Bool) (taken : List Gift) (old held held' : Option (List ℕ)) → IsTold false begun taken old held
    → held' ≡ append_known old (pull_text (taken ++ g ∷ [])) → IsTold (is_last g) true (taken ++ g ∷ []) old held'
told_next gift.Unpublished begun taken old held held' t e = ((taken, refl), e)
told_next gift.Published begun taken old held held' t e = (on_more taken gift.Published t.0 refl, some_more taken gift.Published, e)
told_next (gift.Tag tag) begun taken old held held' t e = (on_more taken (gift.Tag tag) t.0 refl, some_more taken (gift.Tag tag), e)

-- none is taken where the stream was over
pub over_gift : (r : Run) → r.over ≡ true → TakesGift r.over r.pull.client.parts.gift r r
over_gift r e = subst (λ (b : Bool). TakesGift b r.pull.client.parts.gift r r) (sym e) refl

pub none_gift : (r : Run) → r.over ≡ false → r.pull.client.parts.gift ≡ None
    → TakesGift r.over r.pull.client.parts.gift r (record r { pull = record r.pull { client = without r.pull.client } })
none_gift r e n =
    subst (λ (b : Bool). TakesGift b r.pull.client.parts.gift r (record r { pull = record r.pull { client = without r.pull.client } })) (sym e)
    (subst (λ (o : Option Gift). TakesGift false o r (record r { pull = record r.pull { client = without r.pull.client } })) (sym n) refl)

-- the run with this gift
abbrev pub with_gift : Run → Gift → Run
with_gift r g = record r { pull = record r.pull { client = without r.pull.client }; begun = true; over = is_last g; told = min (r.told + 1) (2 ^ 64 - 1) }

pub some_gift : (r : Run) (g : Gift) → r.over ≡ false → r.pull.client.parts.gift ≡ Some g → TakesGift r.over r.pull.client.parts.gift r (with_gift r g)
some_gift r g e n =
    subst (λ (b : Bool). TakesGift b r.pull.client.parts.gift r (with_gift r g)) (sym e)
    (subst (λ (o : Option Gift). TakesGift false o r (with_gift r g)) (sym n) refl)

pub gift_sound : (r : Run) (c : ClientState) (begun over : Bool) (told : ℕ) → IsLive c → IsSound r
    → IsSound (record r { pull = record r.pull { client = c }; begun = begun; over = over; told = told })
gift_sound r c begun over told live s = record {
  rules_are = s.rules_are;
  pull_few = record { forth = s.pull_few.forth; back = s.pull_few.back };
  push_few = s.push_few;
  plays = s.plays;
  publishes = s.publishes;
  pulls = live;
  pushes = s.pushes;
}

-- what is taken of it leaves the rest
runs_taken : (k : Asked) (c : ClientState) (m : MemLinkState) → ClientRuns k c m → ClientRuns k (without c) m
runs_taken k c m r = record { live = live_without c (without c) refl (refl, refl) r.live; asked = r.asked; gave = r.gave; took = r.took; friendly = r.friendly }

none_run : (file : List Tag) (old now : Option (List ℕ)) (r : Run) → r.pull.client.parts.gift ≡ None → IsRun file r old now
    → IsRun file (record r { pull = record r.pull { client = without r.pull.client } }) old now
none_run file old now r none h =
    let c = r.pull.client.parts in
    let same : c.taken ++ listed c.gift ≡ c.taken = ap (λ (g : Option Gift). c.taken ++ listed g) none ∙ append-nil c.taken in
    record {
      pull_passed = record { forth = h.pull_passed.forth; back = h.pull_passed.back };
      push_passed = h.push_passed;
      plays = h.plays;
      publishes = h.publishes;
      pulls = runs_taken puller r.pull.client r.pull.near h.pulls;
      gave_none = h.gave_none;
      told = subst (λ (x : List Gift). IsTold r.over r.begun x old now) (sym same) h.told;
      few = subst (λ (x : List Gift). r.told ≤ length x) (sym same) h.few;
      pushes = h.pushes;
      mixed = h.mixed;
    }

gift_run : (file : List Tag) (old held held' : Option (List ℕ)) (r : Run) (g : Gift) → r.over ≡ false → r.pull.client.parts.gift ≡ Some g
    → held' ≡ append_known old (pull_text (r.pull.client.parts.taken ++ g ∷ []))
    → IsRun file r old held → IsRun file (with_gift r g) old held'
gift_run file old held held' r g over some text h =
    let c = r.pull.client.parts in
    let taken : c.taken ++ listed c.gift ≡ c.taken ++ g ∷ [] = ap (λ (x : Option Gift). c.taken ++ listed x) some in
    let told : IsTold false r.begun c.taken old held = subst (λ (b : Bool). IsTold b r.begun c.taken old held) over h.told in
    record {
      pull_passed = record { forth = h.pull_passed.forth; back = h.pull_passed.back };
      push_passed = h.push_passed;
      plays = h.plays;
      publishes = h.publishes;
      pulls = runs_taken puller r.pull.client r.pull.near h.pulls;
      gave_none = h.gave_none;
      told = subst (λ (x : List Gift). IsTold (is_last g) true x old held') (sym taken) (told_next g r.begun c.taken old held held' told text);
      few = omega (arith, h.few, ap length taken, length-append c.taken (g ∷ []));
      pushes = h.pushes;
      mixed = h.mixed;
    }

-- where another state of the client stands for it
pub none_goes : (file : List Tag) (old now : Option (List ℕ)) (r : Run) (c : ClientState) → c ≡ without r.pull.client → r.over ≡ false
    → r.pull.client.parts.gift ≡ None → IsRun file r old now
    → Goes file (record r { pull = record r.pull { client = c } }) old now
    (TakesGift r.over r.pull.client.parts.gift r (record r { pull = record r.pull { client = c } }))
none_goes file old now r c e over none h =
    subst (λ (x : ClientState). Goes file (record r { pull = record r.pull { client = x } }) old now
    (TakesGift r.over r.pull.client.parts.gift r (record r { pull = record r.pull { client = x } }))) (sym e)
    (record { is_run = none_run file old now r none h; made = none_gift r over none })

abbrev gift_with : Run → ClientState → Bool → ℕ → Run
gift_with r c over told = record r { pull = record r.pull { client = c }; begun = true; over = over; told = told }

pub gift_goes : (file : List Tag) (old held held' : Option (List ℕ)) (r : Run) (g : Gift) (c : ClientState) (over : Bool) (told : ℕ)
    → c ≡ without r.pull.client → over ≡ is_last g → told ≡ min (r.told + 1) (2 ^ 64 - 1) → r.over ≡ false
    → r.pull.client.parts.gift ≡ Some g → held' ≡ append_known old (pull_text (r.pull.client.parts.taken ++ g ∷ [])) → IsRun file r old held
    → Goes file (record r { pull = record r.pull { client = c }; begun = true; over = over; told = told }) old held'
    (TakesGift r.over r.pull.client.parts.gift r (record r { pull = record r.pull { client = c }; begun = true; over = over; told = told }))
gift_goes file old held held' r g c over told e f n was some text h =
    subst (λ (x : ClientState). Goes file (gift_with r x over told) old held' (TakesGift r.over r.pull.client.parts.gift r (gift_with r x over told))) (sym e)
    (subst (λ (b : Bool). Goes file (gift_with r (without r.pull.client) b told) old held'
    (TakesGift r.over r.pull.client.parts.gift r (gift_with r (without r.pull.client) b told))) (sym f)
    (subst (λ (k : ℕ). Goes file (gift_with r (without r.pull.client) (is_last g) k) old held'
    (TakesGift r.over r.pull.client.parts.gift r (gift_with r (without r.pull.client) (is_last g) k))) (sym n)
    (record { is_run = gift_run file old held held' r g was some text h; made = some_gift r g was some })))

-- its text, where it goes on
pub told_is : (file : List Tag) (r : Run) (old now : Option (List ℕ)) → r.over ≡ false → IsRun file r old now
    → (r.begun ≡ has_some r.pull.client.parts.taken) × (now ≡ append_known old (pull_text r.pull.client.parts.taken))
told_is file r old now e h = let t : IsTold false r.begun r.pull.client.parts.taken old now =
    subst (λ (b : Bool). IsTold b r.begun r.pull.client.parts.taken old now) e h.told in (t.1, t.2)

-- ---- its session

pub player_sound : (r : Run) (q : SoleState) (l : Line) → AreFew l → StandsIn q l.session → sole_rules q.rules ≡ sole_rules r.port.rules
    → ((place : ℕ) (pass : SeenState) → FitsSole r.port place pass → FitsSole q place pass)
    → l.client ≡ r.pull.client → IsSound r → IsSound (record r { port = q; pull = l })
player_sound r q l few at e f c s = record {
  rules_are = e ∙ s.rules_are;
  pull_few = few;
  push_few = s.push_few;
  plays = at;
  publishes = stands_on r.port q r.push.session e f s.publishes;
  pulls = subst IsLive (sym c) s.pulls;
  pushes = s.pushes;
}

pub player_run : (file : List Tag) (old now : Option (List ℕ)) (r : Run) (q : SoleState) (l : Line) → Served player r.port q l
    → SessionTurned r.port q r.pull l → IsRun file r old now → IsRun file (record r { port = q; pull = l }) old now
player_run file old now r q l v t h = record {
  pull_passed = v.passed;
  push_passed = h.push_passed;
  plays = v.serves;
  publishes = serves_on publisher r.port q r.push.session r.push.far v.ahead h.publishes;
  pulls = runs_served puller r.port q r.pull l t h.pulls;
  gave_none = ap (λ (c : ClientState). c.parts.gave) t.client ∙ h.gave_none;
  told = subst (λ (c : ClientState). IsTold r.over r.begun c.parts.taken old now) (sym t.client) h.told;
  few = subst (λ (c : ClientState). r.told ≤ length c.parts.taken) (sym t.client) h.few;
  pushes = h.pushes;
  mixed = served_mixed player r.port q r.pull l r.push.session.seat t h.pull_passed h.plays h.mixed;
}

-- what a turn of it came to
pub player_ok : (v : Result (Unit {0}) Stop) (r : Run) (q : SoleState) (l : Line) → OnOk v (AreFew l) → OnOk v (StandsIn q l.session)
    → sole_rules q.rules ≡ sole_rules r.port.rules
    → ((place : ℕ) (pass : SeenState) → FitsSole r.port place pass → FitsSole q place pass) → TurnsSession v r.port q r.pull l → IsSound r
    → OnOk v (IsSound (record r { port = q; pull = l }))
player_ok (Ok x) r q l few at e f t s = player_sound r q l few at e f t.client s
player_ok (Err stop) r q l few at e f t s = tt

pub player_goes : (v : Result (Unit {0}) Stop) (file : List Tag) (old now : Option (List ℕ)) (r : Run) (q : SoleState) (l : Line)
    → OnOk v (Served player r.port q l) → IsRun file r old now → SessionTurned r.port q r.pull l
    → OnOk v (Goes file (record r { port = q; pull = l }) old now (PlayerServed r (record r { port = q; pull = l })))
player_goes (Ok x) file old now r q l v h t = record { is_run = player_run file old now r q l v t h; made = record { turned = t; others = refl } }
player_goes (Err stop) file old now r q l v h t = tt

-- ---- what the client that publishes is given

runs_given : (k : Asked) (c d : ClientState) (g : Given) (m : MemLinkState) → IsLive d → Gives g c d → ClientRuns k c m → ClientRuns k d m
runs_given k c d g m live v r =
    let y : d.parts.y ≡ c.parts.y = ap (λ (x : Past). x.y) v.past in
    record {
      live = live;
      asked = ap (λ (x : Untouched). x.asked) v.others ∙ r.asked;
      gave = r.gave ∙ sym (ap (λ (x : List ℕ). x ++ d.input) y ∙ ap (λ (x : List ℕ). c.parts.y ++ x) (ap (λ (x : Untouched). x.input) v.others));
      took = r.took ∙ sym (ap (λ (x : Past). x.sent) v.past);
      friendly = subst (λ (x : ReaderKnown). AreFriendly x.given) (sym (ap (λ (x : Untouched). x.reader) v.others)) r.friendly;
    }

pub tag_pushes : (file queue : List Tag) (t : Tag) (c d : ClientState) (m : MemLinkState) → IsLive d → Gives (given.Send t) c d
    → PushesOf Giving file (t ∷ queue) c m → PushesOf Giving file queue d m
tag_pushes file queue t c d m live v h = (
  runs_given pusher c d (given.Send t) m live v h.0,
  ap (λ (x : Keeps). x.finished) v.keeps,
  ap (λ (l : List Tag). l ++ queue) (gave_all c d (given.Send t) v.past) ∙ append_assoc (tags_given c.parts.gave) (t ∷ []) queue ∙ h.2,
)

pub end_pushes : (file : List Tag) (c d : ClientState) (m : MemLinkState) → IsLive d → Gives given.Finish c d → PushesOf Giving file [] c m
    → PushesOf Finishing file [] d m
end_pushes file c d m live v h = (runs_given pusher c d given.Finish m live v h.0, gave_all c d given.Finish v.past ∙ h.2)

-- the client that publishes is another, and so are its tags and its stage
pub push_sound : (r s : Run) → s.port ≡ r.port → s.pull ≡ r.pull → AreFew s.push → s.push.session ≡ r.push.session
    → CanPush s.stage s.tags.items s.push.client → IsSound r → IsSound s
push_sound r s port pull few session can h = record {
  rules_are = ap (λ (p : SoleState). sole_rules p.rules) port ∙ h.rules_are;
  pull_few = subst AreFew (sym pull) h.pull_few;
  push_few = few;
  plays = subst (λ (p : SoleState). StandsIn p s.pull.session) (sym port) (subst (λ (l : Line). StandsIn r.port l.session) (sym pull) h.plays);
  publishes = subst (λ (p : SoleState). StandsIn p s.push.session) (sym port) (subst (StandsIn r.port) (sym session) h.publishes);
  pulls = subst (λ (l : Line). IsLive l.client) (sym pull) h.pulls;
  pushes = can;
}

-- what of a run the client that publishes doesn't touch
pub record Aside (r s : Run) : Type 0 where
  pub port : s.port ≡ r.port
  pub pull : s.pull ≡ r.pull
  pub begun : s.begun ≡ r.begun
  pub over : s.over ≡ r.over
  pub told : s.told ≡ r.told
  pub session : s.push.session ≡ r.push.session

pub push_run : (file : List Tag) (old now : Option (List ℕ)) (r s : Run) → Aside r s → ArePassed s.push
    → Serves publisher s.port s.push.session s.push.far → PushesOf s.stage file s.tags.items s.push.client s.push.near
    → IsRun file r old now → IsRun file s old now
push_run file old now r s a passed publishes pushes h = record {
  pull_passed = subst ArePassed (sym a.pull) h.pull_passed;
  push_passed = passed;
  plays = subst (λ (p : SoleState). Serves player p s.pull.session s.pull.far) (sym a.port)
      (subst (λ (l : Line). Serves player r.port l.session l.far) (sym a.pull) h.plays);
  publishes = publishes;
  pulls = subst (λ (l : Line). ClientRuns puller l.client l.near) (sym a.pull) h.pulls;
  gave_none = ap (λ (l : Line). l.client.parts.gave) a.pull ∙ h.gave_none;
  told = subst (λ (l : Line). IsTold s.over s.begun l.client.parts.taken old now) (sym a.pull)
      (subst (λ (b : Bool). IsTold b s.begun r.pull.client.parts.taken old now) (sym a.over)
      (subst (λ (b : Bool). IsTold r.over b r.pull.client.parts.taken old now) (sym a.begun) h.told));
  few = subst (λ (l : Line). s.told ≤ length l.client.parts.taken) (sym a.pull) (subst (λ (n : ℕ). n ≤ length r.pull.client.parts.taken) (sym a.told) h.few);
  pushes = pushes;
  mixed =
      subst (λ (x : SessionState SeenState). Mixes s.port s.pull.session.seat x.seat) (sym a.session)
      (subst (λ (l : Line). Mixes s.port l.session.seat r.push.session.seat) (sym a.pull)
      (subst (λ (p : SoleState). Mixes p r.pull.session.seat r.push.session.seat) (sym a.port) h.mixed));
}

-- a turn of it, which has sent all that it owed where it doesn't live
pushes_turned : (stage : Stage) (lives : Bool) (file queue : List Tag) (c d : ClientState) (m n : MemLinkState) → is_done stage ≡ false
    → lasting_of d.parts ≡ lasting_of c.parts → ClientGoes lives pusher c d m → PushesOf stage file queue c n
    → PushesOf (stage_after lives stage) file queue d m
pushes_turned Giving true file queue c d m n e la g h = (
  g,
  ap (λ (x : Lasting). x.finished) la ∙ h.1,
  ap (λ (x : Lasting). tags_given x.gave ++ queue) la
      ∙ h.2,
)
pushes_turned Finishing true file queue c d m n e la g h = (g, ap (λ (x : Lasting). tags_given x.gave) la ∙ h.1)
pushes_turned Giving false file queue c d m n e la g h = absurd (let b : true ≡ false = sym g.1 ∙ sym h.0.live.stands.stands.finished ∙ h.1 in cc)
pushes_turned Finishing false file queue c d m n e la g h = (c.parts.gave, gifts_of c.parts, g.0, h.1, g.1)
pushes_turned Done lives file queue c d m n e la g h = absurd (cc)

pushed_run : (file : List Tag) (old now : Option (List ℕ)) (a : ClientTurn) (r : Run) (l : Line) → is_done r.stage ≡ false → ArePassed l
    → ClientGoes (is_on a) pusher r.push.client l.client l.near → lasting_of l.client.parts ≡ lasting_of r.push.client.parts
    → ClientTurned a r.push l → IsRun file r old now → IsRun file (record r { push = l; stage = stage_after (is_on a) r.stage }) old now
pushed_run file old now a r l done passed goes la t h =
    push_run file old now r (record r { push = l; stage = stage_after (is_on a) r.stage })
    (record { port = refl; pull = refl; begun = refl; over = refl; told = refl; session = t.session }) passed
    (serves_turned publisher r.port a r.push l t h.publishes)
    (pushes_turned r.stage (is_on a) file r.tags.items r.push.client l.client l.near r.push.near done la goes h.pushes) h

-- and whether it can be given more
can_turned : (stage : Stage) (lives : Bool) (queue : List Tag) (c d : ClientState) → (lives ≡ true → IsLive c → IsLive d)
    → lasting_of d.parts ≡ lasting_of c.parts → CanPush stage queue c → CanPush (stage_after lives stage) queue d
can_turned Giving true queue c d live la h = (
  record {
    live = live refl h.0.live;
    pushes = ap (λ (x : Lasting). x.asked.wish) la
        ∙ h.0.pushes;
    open_is = ap (λ (x : Lasting). x.finished) la ∙ h.0.open_is;
  },
  h.1,
)
can_turned Finishing true queue c d live la h = tt
can_turned Done true queue c d live la h = tt
can_turned Giving false queue c d live la h = tt
can_turned Finishing false queue c d live la h = tt
can_turned Done false queue c d live la h = tt

pushed_sound : (a : ClientTurn) (r : Run) (l : Line) → AreFew l → (is_on a ≡ true → IsLive r.push.client → IsLive l.client)
    → lasting_of l.client.parts ≡ lasting_of r.push.client.parts → ClientTurned a r.push l
    → IsSound r → IsSound (record r { push = l; stage = stage_after (is_on a) r.stage })
pushed_sound a r l few live la t s =
    push_sound r (record r { push = l; stage = stage_after (is_on a) r.stage }) refl refl few t.session
    (can_turned r.stage (is_on a) r.tags.items r.push.client l.client live la s.pushes) s

pub pushes_runs : (stage : Stage) (file queue : List Tag) (c : ClientState) (m : MemLinkState) → is_done stage ≡ false → PushesOf stage file queue c m
    → ClientRuns pusher c m
pushes_runs Giving file queue c m e h = h.0
pushes_runs Finishing file queue c m e h = h.0
pushes_runs Done file queue c m e h = absurd (cc)

-- by whether it lives
pub pushed_ok : (b : Bool) (a : ClientTurn) (r : Run) (l : Line) → is_on a ≡ b → AreFew l → (is_on a ≡ true → IsLive r.push.client → IsLive l.client)
    → lasting_of l.client.parts ≡ lasting_of r.push.client.parts → ClientTurned a r.push l
    → IsSound r → IsSound (record r { push = l; stage = stage_after b r.stage })
pushed_ok b a r l e few live la t s = subst (λ (x : Bool). IsSound (record r { push = l; stage = stage_after x r.stage })) e
    (pushed_sound a r l few live la t s)

pub pushed_goes : (b : Bool) (file : List Tag) (old now : Option (List ℕ)) (a : ClientTurn) (r : Run) (l : Line) → is_on a ≡ b → is_done r.stage ≡ false
    → ArePassed l → ClientGoes (is_on a) pusher r.push.client l.client l.near
    → lasting_of l.client.parts ≡ lasting_of r.push.client.parts → ClientTurned a r.push l → IsRun file r old now
    → Goes file (record r { push = l; stage = stage_after b r.stage }) old now (Pushed r (record r { push = l; stage = stage_after b r.stage }))
pushed_goes b file old now a r l e done passed goes la t h = record {
  is_run = subst (λ (x : Bool). IsRun file (record r { push = l; stage = stage_after x r.stage }) old now) e
      (pushed_run file old now a r l done passed goes la t h);
  made = record { answer = a; turned = t; others = ap (λ (x : Bool). record r { push = l; stage = stage_after x r.stage }) (sym e) };
}

-- it takes no turn where it has sent all
pub push_where : (stage : Stage) (r s : Run) → is_done stage ≡ false → r.stage ≡ stage → Pushed r s → PushesWhere r.stage r s
push_where Giving r s d e p = subst (λ (x : Stage). PushesWhere x r s) (sym e) p
push_where Finishing r s d e p = subst (λ (x : Stage). PushesWhere x r s) (sym e) p
push_where Done r s d e p = absurd (cc)

pub push_done : (r : Run) → r.stage ≡ Done → PushesWhere r.stage r r
push_done r e = subst (λ (x : Stage). PushesWhere x r r) (sym e) refl

-- ---- its session

pub publisher_sound : (r : Run) (q : SoleState) (l : Line) → AreFew l → StandsIn q l.session → sole_rules q.rules ≡ sole_rules r.port.rules
    → ((place : ℕ) (pass : SeenState) → FitsSole r.port place pass → FitsSole q place pass)
    → l.client ≡ r.push.client → IsSound r → IsSound (record r { port = q; push = l })
publisher_sound r q l few at e f c s = record {
  rules_are = e ∙ s.rules_are;
  pull_few = s.pull_few;
  push_few = few;
  plays = stands_on r.port q r.pull.session e f s.plays;
  publishes = at;
  pulls = s.pulls;
  pushes = subst (CanPush r.stage r.tags.items) (sym c) s.pushes;
}

side_at_link : (file queue : List Tag) (stage : Stage) (p q : SoleState) (l m : Line) → SessionTurned p q l m → PushesOf stage file queue l.client l.near
    → PushesOf stage file queue m.client m.near
side_at_link file queue Giving p q l m t h = (
  runs_served pusher p q l m t h.0,
  ap (λ (c : ClientState). c.parts.finished) t.client
      ∙ h.1,
  ap (λ (c : ClientState). tags_given c.parts.gave ++ queue) t.client ∙ h.2,
)
side_at_link file queue Finishing p q l m t h = (runs_served pusher p q l m t h.0, ap (λ (c : ClientState). tags_given c.parts.gave) t.client ∙ h.1)
side_at_link file queue Done p q l m t h = (
  h.0,
  h.1,
  side_at pusher l.near m.near h.0 h.1 [] (far_gave t.link l.near m.far m.near t.passed) (far_took t.link l.near m.far m.near t.passed) h.2,
  h.3,
  h.4,
)

pub publisher_run : (file : List Tag) (old now : Option (List ℕ)) (r : Run) (q : SoleState) (l : Line) → Served publisher r.port q l
    → SessionTurned r.port q r.push l → IsRun file r old now → IsRun file (record r { port = q; push = l }) old now
publisher_run file old now r q l v t h = record {
  pull_passed = h.pull_passed;
  push_passed = v.passed;
  plays = serves_on player r.port q r.pull.session r.pull.far v.ahead h.plays;
  publishes = v.serves;
  pulls = h.pulls;
  gave_none = h.gave_none;
  told = h.told;
  few = h.few;
  pushes = side_at_link file r.tags.items r.stage r.port q r.push l t h.pushes;
  mixed =
      mixes_swap q l.session.seat r.pull.session.seat
      (served_mixed publisher r.port q r.push l r.pull.session.seat t h.push_passed h.publishes
      (mixes_swap r.port r.pull.session.seat r.push.session.seat h.mixed));
}

pub publisher_ok : (v : Result (Unit {0}) Stop) (r : Run) (q : SoleState) (l : Line) → OnOk v (AreFew l) → OnOk v (StandsIn q l.session)
    → sole_rules q.rules ≡ sole_rules r.port.rules
    → ((place : ℕ) (pass : SeenState) → FitsSole r.port place pass → FitsSole q place pass) → TurnsSession v r.port q r.push l → IsSound r
    → OnOk v (IsSound (record r { port = q; push = l }))
publisher_ok (Ok x) r q l few at e f t s = publisher_sound r q l few at e f t.client s
publisher_ok (Err stop) r q l few at e f t s = tt

pub publisher_goes : (v : Result (Unit {0}) Stop) (file : List Tag) (old now : Option (List ℕ)) (r : Run) (q : SoleState) (l : Line)
    → OnOk v (Served publisher r.port q l) → IsRun file r old now → SessionTurned r.port q r.push l
    → OnOk v (Goes file (record r { port = q; push = l }) old now (PublisherServed r (record r { port = q; push = l })))
publisher_goes (Ok x) file old now r q l v h t = record { is_run = publisher_run file old now r q l v t h; made = record { turned = t; others = refl } }
publisher_goes (Err stop) file old now r q l v h t = tt

-- ---- what is given

few_given : (l m : Line) (c : ClientState) → m ≡ record l { client = c } → AreFew l → AreFew m
few_given l m c e f = subst AreFew (sym e) (record { forth = f.forth; back = f.back })

passed_given : (l m : Line) (c : ClientState) → m ≡ record l { client = c } → ArePassed l → ArePassed m
passed_given l m c e f = subst ArePassed (sym e) (record { forth = f.forth; back = f.back })

-- the client that publishes was given something: its tags and its stage are these
given_sound : (r : Run) (c : ClientState) (stage : Stage) (s : Run) → s ≡ record r { push = record r.push { client = c }; tags = s.tags; stage = stage }
    → CanPush stage s.tags.items c → IsSound r → IsSound s
given_sound r c stage s e can h =
    let push : s.push ≡ record r.push { client = c } = ap (λ (x : Run). x.push) e in
    push_sound r s (ap (λ (x : Run). x.port) e) (ap (λ (x : Run). x.pull) e) (few_given r.push s.push c push h.push_few) (ap (λ (l : Line). l.session) push)
    (subst (λ (x : Stage). CanPush x s.tags.items s.push.client) (sym (ap (λ (x : Run). x.stage) e))
    (subst (λ (l : Line). CanPush stage s.tags.items l.client) (sym push) can)) h

given_run : (file : List Tag) (old now : Option (List ℕ)) (r : Run) (c : ClientState) (stage : Stage) (s : Run)
    → s ≡ record r { push = record r.push { client = c }; tags = s.tags; stage = stage } → PushesOf stage file s.tags.items c r.push.near
    → IsRun file r old now → IsRun file s old now
given_run file old now r c stage s e pushes h =
    let push : s.push ≡ record r.push { client = c } = ap (λ (x : Run). x.push) e in
    let port : s.port ≡ r.port = ap (λ (x : Run). x.port) e in
    push_run file old now r s (record {
      port = port;
      pull = ap (λ (x : Run). x.pull) e;
      begun = ap (λ (x : Run). x.begun) e;
      over =
          ap (λ (x : Run). x.over) e;
      told = ap (λ (x : Run). x.told) e;
      session = ap (λ (l : Line). l.session) push;
    })
    (passed_given r.push s.push c push h.push_passed)
    (subst (λ (p : SoleState). Serves publisher p s.push.session s.push.far) (sym port)
    (subst (λ (l : Line). Serves publisher r.port l.session l.far) (sym push) h.publishes))
    (subst (λ (x : Stage). PushesOf x file s.tags.items s.push.client s.push.near) (sym (ap (λ (x : Run). x.stage) e))
    (subst (λ (l : Line). PushesOf stage file s.tags.items l.client l.near) (sym push) pushes)) h

-- the next tag
tag_can : (queue : List Tag) (t : Tag) (c d : ClientState) → IsLive d → Gives (given.Send t) c d → CanPush Giving (t ∷ queue) c → CanPush Giving queue d
tag_can queue t c d live v h = (open_given c d t h.0 live v.keeps v.others, h.1.1)

-- where it can be given anything
pub can_open : (r : Run) → r.stage ≡ Giving → IsSound r → CanPush Giving r.tags.items r.push.client
can_open r e s = subst (λ (x : Stage). CanPush x r.tags.items r.push.client) e s.pushes

pub can_parts : (c : ClientState) → can_give c ≡ true → (has_started c.parts.phase ≡ true) × (c.parts.outgoing.pending ≡ [])
can_parts c e =
    let b = both (has_started c.parts.phase) (nat_eq (length c.parts.outgoing.pending) 0) e in
    (b.0, none_long c.parts.outgoing.pending (length c.parts.outgoing.pending) refl (same_is (length c.parts.outgoing.pending) 0 b.1))

pub no_tags : (tags : List Tag) (n : ℕ) → n ≡ length tags → n ≡ 0 → tags ≡ []
no_tags [] n e z = refl
no_tags (t ∷ tags) n e z = absurd (omega (arith, e, z))

-- the run with what was given
abbrev With : Run → Run → Stage → Type 0
With r s stage = s ≡ record r { push = record r.push { client = s.push.client }; tags = s.tags; stage = stage }

still_giving : (r s : Run) → r.stage ≡ Giving → s ≡ record r { push = record r.push { client = s.push.client }; tags = s.tags } → With r s Giving
still_giving r s g e = e ∙ ap (λ (x : Stage). record r { push = record r.push { client = s.push.client }; tags = s.tags; stage = x }) g

pub tag_sound : (r s : Run) (t : Tag) → r.stage ≡ Giving → r.tags.items ≡ t ∷ s.tags.items
    → s ≡ record r { push = record r.push { client = s.push.client }; tags = s.tags } → Gives (given.Send t) r.push.client s.push.client → IsLive s.push.client
    → IsSound r → IsSound s
tag_sound r s t g items e v live h =
    given_sound r s.push.client Giving s (still_giving r s g e)
    (tag_can s.tags.items t r.push.client s.push.client live v (subst (λ (l : List Tag). CanPush Giving l r.push.client) items (can_open r g h))) h

pub tag_goes : (file : List Tag) (old now : Option (List ℕ)) (r s : Run) (t : Tag) → r.stage ≡ Giving → r.tags.items ≡ t ∷ s.tags.items
    → s ≡ record r { push = record r.push { client = s.push.client }; tags = s.tags }
    → Gives (given.Send t) r.push.client s.push.client → IsLive s.push.client → IsRun file r old now → Goes file s old now (GivesNext r.tags.items r s)
tag_goes file old now r s t g items e v live h =
    let pushes : PushesOf Giving file (t ∷ s.tags.items) r.push.client r.push.near =
    subst (λ (l : List Tag). PushesOf Giving file l r.push.client r.push.near) items
    (subst (λ (x : Stage). PushesOf x file r.tags.items r.push.client r.push.near) g h.pushes) in
    record {
      is_run = given_run file old now r s.push.client Giving s (still_giving r s g e)
          (tag_pushes file s.tags.items t r.push.client s.push.client r.push.near live v pushes) h;
      made = subst (λ (l : List Tag). GivesNext l r s) (sym items) (v, refl, e);
    }

pub end_sound : (r s : Run) → With r s Finishing → IsSound r → IsSound s
end_sound r s e h = given_sound r s.push.client Finishing s e tt h

pub end_goes : (file : List Tag) (old now : Option (List ℕ)) (r s : Run) → r.stage ≡ Giving → r.tags.items ≡ [] → s.tags.items ≡ [] → With r s Finishing
    → Gives given.Finish r.push.client s.push.client → IsLive s.push.client
    → IsRun file r old now → Goes file s old now (GivesNext r.tags.items r s)
end_goes file old now r s g items left e v live h =
    let pushes : PushesOf Giving file [] r.push.client r.push.near =
    subst (λ (l : List Tag). PushesOf Giving file l r.push.client r.push.near) items
    (subst (λ (x : Stage). PushesOf x file r.tags.items r.push.client r.push.near) g h.pushes) in
    record {
      is_run = given_run file old now r s.push.client Finishing s e (end_pushes file r.push.client s.push.client r.push.near live v pushes) h;
      made = subst (λ (l : List Tag). GivesNext l r s) (sym items) (v, left, e);
    }

-- whether anything is given
pub given_where : (v : Result (Unit {0}) Stop) (file : List Tag) (old now : Option (List ℕ)) (r s : Run) → r.stage ≡ Giving
    → can_give r.push.client ≡ true → OnOk v (Goes file s old now (GivesNext r.tags.items r s))
    → OnOk v (Goes file s old now (GivesWhere r.stage (can_give r.push.client) r s))
given_where (Ok x) file old now r s g e h = record {
  is_run = h.is_run;
  made = subst (λ (x : Stage). GivesWhere x (can_give r.push.client) r s) (sym g) (subst (λ (b : Bool). GivesWhere Giving b r s) (sym e) h.made);
}
given_where (Err stop) file old now r s g e h = tt

pub given_none : (r : Run) → can_give r.push.client ≡ false → GivesWhere r.stage (can_give r.push.client) r r
given_none r e = by_stage r.stage
  where
    by_stage : (x : Stage) → GivesWhere x (can_give r.push.client) r r
    by_stage Giving = subst (λ (b : Bool). GivesWhere Giving b r r) (sym e) refl
    by_stage Finishing = refl
    by_stage Done = refl

pub given_late : (stage : Stage) (r : Run) → r.stage ≡ stage → (stage ≡ Giving → ⊥) → GivesWhere r.stage (can_give r.push.client) r r
given_late Giving r e n = absurd (n refl)
given_late Finishing r e n = subst (λ (x : Stage). GivesWhere x (can_give r.push.client) r r) (sym e) refl
given_late Done r e n = subst (λ (x : Stage). GivesWhere x (can_give r.push.client) r r) (sym e) refl

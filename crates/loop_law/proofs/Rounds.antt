-- A round in two runs
use Rattle.std.proofs.Common.{◌≡◌, ◌≤◌, ◌<◌, ◌+◌, ◌-◌, ◌^◌, ◌&&◌, nat_eq, min, ℕ, Bool, true, false, List, [], ◌∷◌, length, Option, Some, None, refl, sym, ap}
use Rattle.std.proofs.Common.{◌∙◌, subst, arith}
use Rattle.flv_tags.specs.declared.tag.Tag.{Tag}
use Rattle.client_owed.specs.declared.types.Gift.{Gift}
use Rattle.client_owed.specs.declared.types.Given.{Given}
use Rattle.client_owed.specs.declared.types.Given.TheVariants.{Finish, Send}
use Rattle.rtmp_client.specs.ClientState.{ClientState, Untouched, has_started}
use Rattle.rtmp_client.specs.declared.end.ClientEnd.{ClientEnd}
use Rattle.rtmp_client.specs.declared.end.ClientTurn.{ClientTurn}
use Rattle.stream_registry.specs.Books.{SoleState, journal_at}
use Rattle.turn_law.specs.Twins.{HasRoom}
use Rattle.client_command.specs.Telling.{is_last}
use Rattle.client_turn_law.specs.Twins.{WasGiven}
use Rattle.client_turn_law.proofs.Alike.{are_given_alike, taken_alike, told_alike}
use Rattle.loop_command.specs.Course.{Gives, GivesNext, GivesWhere, PlayerServed, Plays, PublisherServed, Publishes, Pulled, Pushed, PushesOnce, PushesWhere}
use Rattle.loop_command.specs.Course.{Round}
use Rattle.loop_command.specs.Course.{TakesGift, can_give, is_done, is_on, stage_after, without}
use Rattle.loop_command.specs.declared.line.Line.{Line}
use Rattle.loop_command.specs.declared.rounds.Run.{Run}
use Rattle.loop_command.specs.declared.rounds.Stage.{Stage}
use Rattle.loop_command.specs.declared.rounds.Stage.TheVariants.{Giving, Finishing, Done}
use Rattle.loop_law.proofs.Growing.{Adds}
use Rattle.loop_law.proofs.Lines.{SameLine, at_ports, client_same, session_adds, session_same, still_lives, with_clients}

-- TWO RUNS ARE ALIKE
pub record SameRun (r s : Run) : Type 0 where
  pub pull : SameLine r.port s.port r.pull s.pull
  pub push : SameLine r.port s.port r.push s.push
  pub tags : s.tags.items ≡ r.tags.items
  pub stage : s.stage ≡ r.stage
  pub over : s.over ≡ r.over
  pub told : s.told ≡ r.told
  pub playing : r.pull.client.ended ≡ None
  pub pushing : is_done r.stage ≡ false → r.push.client.ended ≡ None

same_at : (r s x y : Run) → x ≡ r → y ≡ s → SameRun r s → SameRun x y
same_at r s x y e f h = subst (λ (z : Run). SameRun z y) (sym e) (subst (λ (z : Run). SameRun r z) (sym f) h)

-- no history has more calls than so many
abbrev pub AreFew : ℕ → SoleState → Type 0
AreFew n p = (q : ℕ) → length (journal_at p.books q) ≤ n

pub few_more : (n k : ℕ) (x y : SoleState) → AreFew n x → Adds k x y → AreFew (n + k) y
few_more n k x y f a = λ q. omega (arith, f q, a q)

few_room : (n : ℕ) (p : SoleState) → n < 2 ^ 62 → AreFew n p → HasRoom p
few_room n p less f = λ q. omega (arith, less, f q)

-- ---- the client that plays, and its session

pulled_same : (r s r' s' : Run) → Pulled r s → Pulled r' s' → SameRun r r' → SameRun s s'
pulled_same r s r' s' x x' h =
    let t = client_same r.port r'.port r.pull r'.pull s.pull s'.pull x.answer x'.answer h.pull x.turned x'.turned in
    same_at (record r { pull = s.pull }) (record r' { pull = s'.pull }) s s' x.others x'.others (record {
      pull = t.line;
      push = h.push;
      tags = h.tags;
      stage = h.stage;
      over = h.over;
      told = h.told;
      playing = still_lives x.answer r.pull s.pull x.turned x.lives;
      pushing = h.pushing;
    })

pulled_port : (r s : Run) → Pulled r s → s.port ≡ r.port
pulled_port r s x = ap (λ (z : Run). z.port) x.others

abbrev pulled_on : Run → Line
pulled_on r = record r.pull { client = without r.pull.client }

taken_line : (r r' : Run) → SameRun r r' → SameLine r.port r'.port (pulled_on r) (pulled_on r')
taken_line r r' h =
    with_clients r.port r'.port r.pull r'.pull (without r.pull.client) (without r'.pull.client) (taken_alike r.pull.client r'.pull.client h.pull.client) h.pull

gift_same : (over : Bool) (g : Option Gift) (r s r' s' : Run) → TakesGift over g r s → TakesGift over g r' s' → SameRun r r' → SameRun s s'
gift_same true g r s r' s' x x' h = same_at r r' s s' x x' h
gift_same false None r s r' s' x x' h = same_at (record r { pull = pulled_on r }) (record r' { pull = pulled_on r' }) s s' x x' (record {
  pull = taken_line r r' h;
  push = h.push;
  tags = h.tags;
  stage = h.stage;
  over = h.over;
  told = h.told;
  playing = h.playing;
  pushing = h.pushing;
})
gift_same false (Some g) r s r' s' x x' h =
    same_at (record r { pull = pulled_on r; begun = true; over = is_last g; told = min (r.told + 1) (2 ^ 64 - 1) })
    (record r' { pull = pulled_on r'; begun = true; over = is_last g; told = min (r'.told + 1) (2 ^ 64 - 1) }) s s' x x' (record {
      pull = taken_line r r' h;
      push = h.push;
      tags = h.tags;
      stage = h.stage;
      over = refl;
      told = ap (λ (n : ℕ). min (n + 1) (2 ^ 64 - 1)) h.told;
      playing = h.playing;
      pushing = h.pushing;
    })

gift_port : (over : Bool) (g : Option Gift) (r s : Run) → TakesGift over g r s → s.port ≡ r.port
gift_port true g r s x = ap (λ (z : Run). z.port) x
gift_port false None r s x = ap (λ (z : Run). z.port) x
gift_port false (Some g) r s x = ap (λ (z : Run). z.port) x

player_same : (r s r' s' : Run) → PlayerServed r s → PlayerServed r' s' → HasRoom s.port → HasRoom s'.port → SameRun r r' → SameRun s s'
player_same r s r' s' x x' room room' h =
    let line = session_same r.port s.port r'.port s'.port r.pull s.pull r'.pull s'.pull x.turned x'.turned h.pull room room' in
    same_at (record r { port = s.port; pull = s.pull }) (record r' { port = s'.port; pull = s'.pull }) s s' x.others x'.others (record {
      pull = line;
      push = at_ports r.port r'.port s.port s'.port r.push r'.push line.session.port h.push;
      tags = h.tags;
      stage = h.stage;
      over = h.over;
      told = h.told;
      playing = ap (λ (c : ClientState). c.ended) x.turned.client ∙ h.playing;
      pushing = h.pushing;
    })

plays_adds : (r s : Run) → Plays r s → Adds 3 r.port s.port
plays_adds r s x =
    let port : x.told.port ≡ r.port = gift_port x.pulled.over x.pulled.pull.client.parts.gift x.pulled x.told x.gift ∙ pulled_port r x.pulled x.client in
    subst (λ (p : SoleState). Adds 3 p s.port) port (session_adds x.told.port s.port x.told.pull s.pull x.session.turned)

plays_same : (n : ℕ) (r s r' s' : Run) → n + 3 < 2 ^ 62 → AreFew n r.port → AreFew n r'.port → Plays r s → Plays r' s' → SameRun r r' → SameRun s s'
plays_same n r s r' s' less f f' x x' h =
    let pulled : SameRun x.pulled x'.pulled = pulled_same r x.pulled r' x'.pulled x.client x'.client h in
    let gift : x'.pulled.pull.client.parts.gift ≡ x.pulled.pull.client.parts.gift =
    (told_alike x.pulled.pull.client x'.pulled.pull.client pulled.pull.client).gift in
    let told : SameRun x.told x'.told =
    gift_same x.pulled.over x.pulled.pull.client.parts.gift x.pulled x.told x'.pulled x'.told x.gift
    (subst (λ (b : Bool). TakesGift b x.pulled.pull.client.parts.gift x'.pulled x'.told) pulled.over
    (subst (λ (g : Option Gift). TakesGift x'.pulled.over g x'.pulled x'.told) gift x'.gift)) pulled in
    player_same x.told s x'.told s' x.session x'.session (few_room (n + 3) s.port less (few_more n 3 r.port s.port f (plays_adds r s x)))
    (few_room (n + 3) s'.port less (few_more n 3 r'.port s'.port f' (plays_adds r' s' x'))) told

-- ---- the client that publishes, and its session

given_so : (g : Given) (c d : ClientState) → c.ended ≡ None → Gives g c d → WasGiven g c d
given_so g c d e x = record { lives = e; past = x.past; keeps = x.keeps; counts = x.counts; untouched = x.others }

given_lives : (g : Given) (c d : ClientState) → c.ended ≡ None → Gives g c d → d.ended ≡ None
given_lives g c d e x = ap (λ (u : Untouched). u.ended) x.others ∙ e

module _ (r s r' s' : Run) (h : SameRun r r') (e : r.push.client.ended ≡ None) where
  lives_too : r'.push.client.ended ≡ None
  lives_too = h.push.client.ended ∙ e

  given_line : (g : Given) → Gives g r.push.client s.push.client → Gives g r'.push.client s'.push.client
      → SameLine r.port r'.port (record r.push { client = s.push.client }) (record r'.push { client = s'.push.client })
  given_line g x x' =
      with_clients r.port r'.port r.push r'.push s.push.client s'.push.client
      (are_given_alike g r.push.client r'.push.client s.push.client s'.push.client h.push.client (given_so g r.push.client s.push.client e x)
      (given_so g r'.push.client s'.push.client lives_too x')) h.push

  next_same : (l : List Tag) → GivesNext l r s → GivesNext l r' s' → SameRun s s'
  next_same (t ∷ queue) x x' =
      same_at (record r { push = record r.push { client = s.push.client }; tags = s.tags })
      (record r' { push = record r'.push { client = s'.push.client }; tags = s'.tags }) s s' x.2 x'.2 (record {
        pull = h.pull;
        push = given_line (Send t) x.0 x'.0;
        tags = x'.1 ∙ sym x.1;
        stage = h.stage;
        over = h.over;
        told = h.told;
        playing = h.playing;
        pushing = λ n. given_lives (Send t) r.push.client s.push.client e x.0;
      })
  next_same [] x x' =
      same_at (record r { push = record r.push { client = s.push.client }; tags = s.tags; stage = Finishing })
      (record r' { push = record r'.push { client = s'.push.client }; tags = s'.tags; stage = Finishing }) s s' x.2 x'.2 (record {
        pull = h.pull;
        push = given_line Finish x.0 x'.0;
        tags = x'.1 ∙ sym x.1;
        stage = refl;
        over = h.over;
        told = h.told;
        playing = h.playing;
        pushing = λ n. given_lives Finish r.push.client s.push.client e x.0;
      })

  by_can : (b : Bool) → GivesWhere Giving b r s → GivesWhere Giving b r' s' → SameRun s s'
  by_can true x x' = next_same r.tags.items x (subst (λ (l : List Tag). GivesNext l r' s') h.tags x')
  by_can false x x' = same_at r r' s s' x x' h

  can_same : can_give r'.push.client ≡ can_give r.push.client
  can_same =
      let t = told_alike r.push.client r'.push.client h.push.client in
      ap (λ (b : Bool). b && nat_eq (length r'.push.client.parts.outgoing.pending) 0) t.started
      ∙ ap (λ (n : ℕ). has_started r.push.client.parts.phase && nat_eq n 0) (t.pending e)

given_same : (stage : Stage) (r s r' s' : Run) → r.stage ≡ stage → GivesWhere stage (can_give r.push.client) r s
    → GivesWhere stage (can_give r'.push.client) r' s' → SameRun r r' → SameRun s s'
given_same Giving r s r' s' is x x' h =
    let e : r.push.client.ended ≡ None = h.pushing (ap is_done is) in
    by_can r s r' s' h e (can_give r.push.client) x (subst (λ (b : Bool). GivesWhere Giving b r' s') (can_same r s r' s' h e) x')
given_same Finishing r s r' s' is x x' h = same_at r r' s s' x x' h
given_same Done r s r' s' is x x' h = same_at r r' s s' x x' h

next_port : (l : List Tag) (r s : Run) → GivesNext l r s → s.port ≡ r.port
next_port (t ∷ queue) r s x = ap (λ (z : Run). z.port) x.2
next_port [] r s x = ap (λ (z : Run). z.port) x.2

given_port : (stage : Stage) (b : Bool) (r s : Run) → GivesWhere stage b r s → s.port ≡ r.port
given_port Giving true r s x = next_port r.tags.items r s x
given_port Giving false r s x = ap (λ (z : Run). z.port) x
given_port Finishing b r s x = ap (λ (z : Run). z.port) x
given_port Done b r s x = ap (λ (z : Run). z.port) x

still_pushes : (b : Bool) (stage : Stage) (o : Option ClientEnd) → (b ≡ true → o ≡ None) → is_done (stage_after b stage) ≡ false → o ≡ None
still_pushes true stage o f n = f refl
still_pushes false stage o f n = (let t : true ≡ false = n in absurd (cc))

abbrev stage_by : Stage → ClientTurn → Stage
stage_by stage a = stage_after (is_on a) stage

pushed_same : (r s r' s' : Run) → Pushed r s → Pushed r' s' → SameRun r r' → SameRun s s'
pushed_same r s r' s' x x' h =
    let t = client_same r.port r'.port r.push r'.push s.push s'.push x.answer x'.answer h.push x.turned x'.turned in
    same_at (record r { push = s.push; stage = stage_after (is_on x.answer) r.stage })
    (record r' { push = s'.push; stage = stage_after (is_on x'.answer) r'.stage }) s s' x.others x'.others (record {
      pull = h.pull;
      push = t.line;
      tags = h.tags;
      stage = ap (stage_by r'.stage) t.answer ∙ ap (λ (z : Stage). stage_by z x.answer) h.stage;
      over = h.over;
      told = h.told;
      playing = h.playing;
      pushing = still_pushes (is_on x.answer) r.stage s.push.client.ended (still_lives x.answer r.push s.push x.turned);
    })

pushes_same : (stage : Stage) (r s r' s' : Run) → PushesWhere stage r s → PushesWhere stage r' s' → SameRun r r' → SameRun s s'
pushes_same Giving r s r' s' x x' h = pushed_same r s r' s' x x' h
pushes_same Finishing r s r' s' x x' h = pushed_same r s r' s' x x' h
pushes_same Done r s r' s' x x' h = same_at r r' s s' x x' h

pushes_port : (stage : Stage) (r s : Run) → PushesWhere stage r s → s.port ≡ r.port
pushes_port Giving r s x = ap (λ (z : Run). z.port) x.others
pushes_port Finishing r s x = ap (λ (z : Run). z.port) x.others
pushes_port Done r s x = ap (λ (z : Run). z.port) x

once_same : (b : Bool) (r s r' s' : Run) → PushesOnce b r s → PushesOnce b r' s' → SameRun r r' → SameRun s s'
once_same true r s r' s' x x' h =
    let given : SameRun x.0 x'.0 = given_same r.stage r x.0 r' x'.0 refl x.1
    (subst (λ (z : Stage). GivesWhere z (can_give r'.push.client) r' x'.0) h.stage x'.1) h in
    pushes_same x.0.stage x.0 s x'.0 s' x.2 (subst (λ (z : Stage). PushesWhere z x'.0 s') given.stage x'.2) given
once_same false r s r' s' x x' h = same_at r r' s s' x x' h

once_port : (b : Bool) (r s : Run) → PushesOnce b r s → s.port ≡ r.port
once_port true r s x = pushes_port x.0.stage x.0 s x.2 ∙ given_port r.stage (can_give r.push.client) r x.0 x.1
once_port false r s x = ap (λ (z : Run). z.port) x

publisher_same : (r s r' s' : Run) → PublisherServed r s → PublisherServed r' s' → HasRoom s.port → HasRoom s'.port → SameRun r r' → SameRun s s'
publisher_same r s r' s' x x' room room' h =
    let line = session_same r.port s.port r'.port s'.port r.push s.push r'.push s'.push x.turned x'.turned h.push room room' in
    same_at (record r { port = s.port; push = s.push }) (record r' { port = s'.port; push = s'.push }) s s' x.others x'.others (record {
      pull = at_ports r.port r'.port s.port s'.port r.pull r'.pull line.session.port h.pull;
      push = line;
      tags = h.tags;
      stage = h.stage;
      over = h.over;
      told = h.told;
      playing = h.playing;
      pushing = λ n. ap (λ (c : ClientState). c.ended) x.turned.client ∙ h.pushing n;
    })

publishes_adds : (r s : Run) → Publishes r s → Adds 3 r.port s.port
publishes_adds r s x =
    subst (λ (p : SoleState). Adds 3 p s.port) (once_port (has_started r.pull.client.parts.phase) r x.pushed x.client)
    (session_adds x.pushed.port s.port x.pushed.push s.push x.session.turned)

publishes_same : (n : ℕ) (r s r' s' : Run) → n + 3 < 2 ^ 62 → AreFew n r.port → AreFew n r'.port → Publishes r s → Publishes r' s' → SameRun r r' → SameRun s s'
publishes_same n r s r' s' less f f' x x' h =
    let started : has_started r'.pull.client.parts.phase ≡ has_started r.pull.client.parts.phase =
    (told_alike r.pull.client r'.pull.client h.pull.client).started in
    let pushed : SameRun x.pushed x'.pushed =
    once_same (has_started r.pull.client.parts.phase) r x.pushed r' x'.pushed x.client (subst (λ (b : Bool). PushesOnce b r' x'.pushed) started x'.client) h in
    publisher_same x.pushed s x'.pushed s' x.session x'.session (few_room (n + 3) s.port less (few_more n 3 r.port s.port f (publishes_adds r s x)))
    (few_room (n + 3) s'.port less (few_more n 3 r'.port s'.port f' (publishes_adds r' s' x'))) pushed

-- ---- A ROUND

pub round_few : (n : ℕ) (r s : Run) → Round r s → AreFew n r.port → AreFew (n + 6) s.port
round_few n r s x f = λ q.
    omega (arith, few_more n 3 r.port x.between.port f (plays_adds r x.between x.plays) q, publishes_adds x.between s x.publishes q)

pub round_same : (n : ℕ) (r s r' s' : Run) → n + 6 < 2 ^ 62 → AreFew n r.port → AreFew n r'.port → Round r s → Round r' s' → SameRun r r' → SameRun s s'
round_same n r s r' s' less f f' x x' h =
    let between : SameRun x.between x'.between =
    plays_same n r x.between r' x'.between (omega (arith, less)) f f' x.plays x'.plays h in
    publishes_same (n + 3) x.between s x'.between s' (omega (arith, less)) (few_more n 3 r.port x.between.port f (plays_adds r x.between x.plays))
    (few_more n 3 r'.port x'.between.port f' (plays_adds r' x'.between x'.plays)) x.publishes x'.publishes between

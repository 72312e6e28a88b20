-- A run of which nothing was done
use Rattle.std.proofs.Common.{◌≡◌, ℕ, Bool, false, List, [], ◌∷◌, ◌++◌, length, Option, Result, Ok, Err, refl, sym, ap, ◌∙◌, subst, arith}
use Rattle.flv_tags.specs.declared.tag.Tag.{Tag}
use Rattle.client_owed.specs.declared.types.Asked.{Asked}
use Rattle.client_owed.specs.declared.types.Gave.{Gave}
use Rattle.client_owed.specs.declared.types.Gift.{Gift}
use Rattle.client_owed.specs.declared.types.Wish.{Wish}
use Rattle.client_owed.specs.declared.types.Wish.TheVariants as wish
use Rattle.client_owed.specs.Standing.{Keeps, Past}
use Rattle.std.specs.List.{concat}
use Rattle.rtmp_client.specs.ClientState.{ClientState}
use Rattle.relay_outside.specs.MemLinks.{MemLinkState}
use Rattle.std.specs.Prelude.{IfOk}
use Rattle.stream_registry.specs.Books.{SeenState, SoleRules, SoleState, journal_at, sole_rules}
use Rattle.stream_registry.specs.Names.{AreFew as AreFewNames}
use Rattle.stream_registry.specs.declared.names.Name.{Name}
use Rattle.stream_registry.specs.declared.names.OpenName.{OpenName}
use Rattle.relay_session.specs.SeatVisits.{Visit}
use Rattle.relay_session.specs.SessionState.{SessionState}
use Rattle.stream_model.specs.Counts.{how_many}
use Rattle.client_command.specs.Film.{tags_given}
use Rattle.client_command.specs.Turned.{IsLive, IsNew}
use Rattle.client_command.proofs.Pushed.{new_open}
use Rattle.client_command.proofs.Writing.{append_known_nil}
use Rattle.loop_command.specs.Course.{IsFirst, IsFirstLine, new_link}
use Rattle.loop_command.specs.Desk.{asked_by, limits, one_name, player, publisher}
use Rattle.loop_command.specs.Lines.{AreFew, ArePassed, IsPassed, Serves, Works, steps_of}
use Rattle.loop_command.specs.Newly.{IsNewLine, IsNewPort, IsNewSession, fresh_line}
use Rattle.loop_command.specs.Rounds.{AreWritable, CanPush, IsNewRun, IsRun, IsSound, IsTold, PushesOf}
use Rattle.loop_command.specs.declared.line.Line.{Line}
use Rattle.loop_command.specs.declared.rounds.Run.{Run}
use Rattle.loop_command.specs.declared.rounds.Stage.{Stage}
use Rattle.loop_command.specs.declared.rounds.Stage.TheVariants.{Giving}
use Rattle.loop_command.proofs.Clients.{new_client}
use Rattle.loop_command.proofs.Sessions.{new_serves}

few_passed : (l : Line) → ArePassed l → AreFew l
few_passed l p = record { forth = p.forth.few; back = p.back.few }

new_passed_one : (m n : MemLinkState) → m ≡ new_link → n ≡ new_link → IsPassed m n 0
new_passed_one m n e f = record {
  came = ap (λ (x : MemLinkState). x.gave ++ concat x.pieces) f ∙ sym (ap (λ (x : MemLinkState). x.handed) e);
  none = ap (λ (x : MemLinkState). x.sent) e;
  total_is = sym (ap (λ (x : MemLinkState). length x.handed) e);
  few = omega arith;
  works = subst Works (sym e) (record { receives = refl; sends = refl; lasts = refl });
}

pub new_passed : (l : Line) → l.near ≡ new_link → l.far ≡ new_link → l.forth ≡ 0 → l.back ≡ 0 → ArePassed l
new_passed l e f n m = record {
  forth = subst (λ (k : ℕ). IsPassed l.near l.far k) (sym n) (new_passed_one l.near l.far e f);
  back = subst (λ (k : ℕ). IsPassed l.far l.near k) (sym m) (new_passed_one l.far l.near f e);
}

first_line : (w : Wish) (who : ℕ) (l : Line) → l.client.parts.asked ≡ asked_by w → IsNew l.client → IsLive l.client → l.near ≡ new_link → l.forth ≡ 0
    → IsNewSession who l.session → l.far ≡ new_link → IsFirstLine w who l
first_line w who l asked client live near forth s far = record {
  asked = asked;
  client = client;
  live = live;
  near = near;
  forth = forth;
  past = s.past;
  who_is = s.who_is;
  window_is = s.window_is;
  max = s.max;
  input = s.input;
  lives = s.lives;
  goes_on = s.goes_on;
  fed = s.fed;
  outbound = s.outbound;
  others = s.others;
  stands = s.stands;
  place = s.place;
  spot = s.spot;
  visits = s.visits;
  far = far;
}

pub line_begins : (w : Wish) (who : ℕ) (c : ClientState) (s : SessionState SeenState) (l : Line) → l ≡ fresh_line c s → c.parts.asked ≡ asked_by w
    → IsNew c → IsLive c → IsNewSession who s → IsNewLine w who l
line_begins w who c s l e asked new live fresh =
    subst (IsNewLine w who) (sym e) (record {
      passed = new_passed (fresh_line c s) refl refl refl refl;
      live = live;
      runs = new_client w c new_link asked new live refl refl refl;
      serves = λ p none. new_serves who p s new_link fresh none refl refl refl;
      first = first_line w who (fresh_line c s) asked new live refl refl fresh refl;
    })

-- what is known of a new run
pub record Begins (r : Run) : Type 0 where
  pub port : IsNewPort r.port
  pub pull : IsNewLine wish.Pull player r.pull
  pub push : IsNewLine wish.Push publisher r.push
  pub stage : r.stage ≡ Giving
  pub begun : r.begun ≡ false
  pub over : r.over ≡ false
  pub told : r.told ≡ 0

plays_first : (r : Run) → Begins r → Serves player r.port r.pull.session r.pull.far
plays_first r b = b.pull.serves r.port (λ q n. b.port.none q)

publishes_first : (r : Run) → Begins r → Serves publisher r.port r.push.session r.push.far
publishes_first r b = b.push.serves r.port (λ q n. b.port.none q)

pub begins_sound : (r : Run) → Begins r → AreWritable r.tags.items → IsSound r
begins_sound r b fine = record {
  rules_are = b.port.rules_are;
  pull_few = few_passed r.pull b.pull.passed;
  push_few = few_passed r.push b.push.passed;
  plays = (plays_first r b).at;
  publishes = (publishes_first r b).at;
  pulls = b.pull.live;
  pushes = subst (λ (s : Stage). CanPush s r.tags.items r.push.client) (sym b.stage)
      (new_open r.push.client (ap (λ (k : Asked). k.wish) b.push.runs.asked) b.push.first.client b.push.live, fine);
}

none_told : (taken : List Gift) (held : Option (List ℕ)) → taken ≡ [] → IsTold false false taken held held
none_told [] held e = (tt, refl, sym (append_known_nil held))
none_told (g ∷ taken) held e = absurd (cc)

none_given : (T : List Gave) (tags : List Tag) → T ≡ [] → tags_given T ++ tags ≡ tags
none_given [] tags e = refl
none_given (g ∷ T) tags e = absurd (cc)

pub begins_run : (r : Run) (held : Option (List ℕ)) → Begins r → IsRun r.tags.items r held held
begins_run r held b =
    let taken : r.pull.client.parts.taken ≡ [] = ap (λ (p : Past). p.taken) b.pull.first.client.past in
    record {
      pull_passed = b.pull.passed;
      push_passed = b.push.passed;
      plays = plays_first r b;
      publishes = publishes_first r b;
      pulls = b.pull.runs;
      gave_none = ap (λ (p : Past). p.gave) b.pull.first.client.past;
      told = subst (λ (o : Bool). IsTold o r.begun r.pull.client.parts.taken held held) (sym b.over)
          (subst (λ (o : Bool). IsTold false o r.pull.client.parts.taken held held) (sym b.begun) (none_told r.pull.client.parts.taken held taken));
      few = omega (arith, b.told);
      pushes = subst (λ (s : Stage). PushesOf s r.tags.items r.tags.items r.push.client r.push.near) (sym b.stage) (
        b.push.runs,
        ap (λ (k : Keeps). k.finished) b.push.first.client.keeps,
        none_given r.push.client.parts.gave r.tags.items (ap (λ (p : Past). p.gave) b.push.first.client.past),
      );
      mixed = λ f. omega (
        arith,
        ap (how_many f) (b.port.none 0),
        ap (λ (l : List Visit). how_many f (steps_of l)) b.pull.first.visits,
        ap (λ (l : List Visit). how_many f (steps_of l)) b.push.first.visits,
      );
    }

pub begins_first : (r : Run) → Begins r → IsFirst r.tags.items r
begins_first r b = record {
  rules_are = b.port.rules_are;
  none = b.port.none;
  pull = b.pull.first;
  push = b.push.first;
  tags_are = refl;
  stage = b.stage;
  begun = b.begun;
  over = b.over;
  told = b.told;
}

abbrev rules_of : List Name → List OpenName → SoleRules
rules_of names opens = record { names = names; opens = opens; limits = limits }

pub begins_new : (r : Run) → IsNewPort r.port → IsNewLine wish.Pull player r.pull → IsNewLine wish.Push publisher r.push → r.stage ≡ Giving
    → r.begun ≡ false → r.over ≡ false → r.told ≡ 0 → AreWritable r.tags.items → IsNewRun r.tags.items r
begins_new r port pull push stage begun over told fine =
    let b : Begins r = record { port = port; pull = pull; push = push; stage = stage; begun = begun; over = over; told = told } in
    record { sound = begins_sound r b fine; is_run = λ held. begins_run r held b; first = begins_first r b }

-- ---- its port

pub few_names : (names : List Name) (opens : List OpenName) → names ≡ one_name ∷ [] → opens ≡ [] → AreFewNames names opens
few_names names opens e f = subst (λ (o : List OpenName). AreFewNames names o) (sym f)
    (subst (λ (n : List Name). AreFewNames n []) (sym e) (record { some = tt; most = omega arith }))

pub new_port : {E : Type 0} → (v : Result SoleState E) (names : List Name) (opens : List OpenName) → names ≡ one_name ∷ [] → opens ≡ []
    → IfOk v (λ s. (s.rules ≡ record { names = names; opens = opens; limits = limits }) × ((q : ℕ) → journal_at s.books q ≡ [])) → IfOk v IsNewPort
new_port (Ok s) names opens e f h = record {
  rules_are = ap sole_rules (h.0 ∙ ap (λ (n : List Name). rules_of n opens) e ∙ ap (rules_of (one_name ∷ [])) f);
  none = h.1;
}
new_port (Err x) names opens e f h = tt

-- A turn of a client over a link in memory
use Rattle.std.proofs.Common.{◌≡◌, ◌⊎◌, inl, inr, ℕ, ◌+◌, ◌≤◌, Bool, true, false, List, [], ◌++◌, length, take, Option, Some, None, Result, Ok, Err, refl, sym}
use Rattle.std.proofs.Common.{ap, ◌∙◌, subst, append-nil}
use Rattle.std.specs.List.{concat}
use Rattle.std.specs.Prelude.{drop}
use Rattle.chunk_reader.specs.Sound.{IsRead}
use Rattle.relay_outside.specs.MemLinks.{MemHears, MemLinkState, MemSays, mem_told}
use Rattle.relay_outside.specs.MemLinkLaws.{mem_hears_mean, mem_says_mean}
use Rattle.relay_outside.specs.Told.{LinkCounts, LinkTold}
use Rattle.relay_outside.specs.declared.link.Said.{Said}
use Rattle.relay_outside.specs.declared.link.Said.TheVariants as said
use Rattle.client_owed.specs.declared.types.Asked.{Asked}
use Rattle.client_owed.specs.declared.types.Gave.{Gave}
use Rattle.client_owed.specs.declared.types.Gift.{Gift}
use Rattle.client_owed.specs.declared.types.Wish.{Wish}
use Rattle.client_owed.specs.Owed.{AreGiven, out}
use Rattle.client_owed.specs.Pulled.{pulled}
use Rattle.client_owed.specs.Standing.{Past, count_of, is_finished}
use Rattle.rtmp_client.specs.Bounds.{IsInput}
use Rattle.rtmp_client.specs.ClientState.{ClientState, StandsBy, TurnMade, lasting_of, life_of}
use Rattle.rtmp_client.specs.Turns.{DoneBy, EmptyBy, EndedBy, InputBy, Life, SendBy, SentAs, end_of, is_done, is_hungry, is_nil, life, turn_of}
use Rattle.rtmp_client.specs.declared.end.ClientEnd.{ClientEnd}
use Rattle.rtmp_client.specs.declared.end.ClientEnd.TheVariants as end
use Rattle.rtmp_client.specs.declared.end.ClientTurn.{ClientTurn}
use Rattle.rtmp_client.specs.declared.end.ClientTurn.TheVariants.{Moved, Idle, Ended}
use Rattle.client_command.specs.Runs.{AreFriendly, Causes, HasRun, most_message}
use Rattle.client_command.specs.Turned.{IsDone, IsLive, IsNew, Runs, StillLives, Turned, gifts_of}
use Rattle.client_command.proofs.Passing.{calm_here}
use Rattle.client_command.proofs.Telling.{live_turned}
use Rattle.client_command.proofs.Turns.{turned}
use Rattle.loop_command.specs.Course.{Passes, is_on}
use Rattle.loop_command.specs.Desk.{asked_by}
use Rattle.loop_command.specs.Lines.{ArePassed, ClientGoes, ClientRuns, ClientSide, most_passed}
use Rattle.loop_command.specs.Rounds.{ClientEnds, LivesBy, TurnsClient, is_failure, is_stuck}
use Rattle.loop_command.specs.declared.line.Line.{Line}
use Rattle.loop_command.specs.declared.stop.Stop.{Stop}
use Rattle.loop_command.specs.declared.stop.Stop.TheVariants.{Refused, Source, Sink, Memory, Unfinished}
use Rattle.loop_command.proofs.Links.{Keeps, handed_on, heard_keeps, keeps_link, keeps_then, said_keeps, still_passed, took_same}

-- ---- what its link keeps

empty_keeps : (b : Bool) (v w : Life) (l m : MemLinkState) (moved : Bool) (a : Result Bool ClientEnd) → EmptyBy MemHears b v l moved a w m → Keeps l m
empty_keeps true v w l m moved a f = heard_keeps f.0 l m f.1.0
empty_keeps false v w l m moved a f = keeps_link l m f.1

input_keeps : (b : Bool) (v w : Life) (l m : MemLinkState) (moved : Bool) (a : Result Bool ClientEnd) → InputBy MemHears b v l moved a w m → Keeps l m
input_keeps true v w l m moved a f = empty_keeps (is_nil v.input) v w l m moved a f
input_keeps false v w l m moved a f = keeps_link l m f.2

done_keeps : (b : Bool) (v w : Life) (l m : MemLinkState) (moved : Bool) (a : Result Bool ClientEnd) → DoneBy MemHears b v l moved a w m → Keeps l m
done_keeps true v w l m moved a f = keeps_link l m f.1
done_keeps false v w l m moved a f = input_keeps (is_hungry v.parts) v w l m moved a f

sent_keeps : (q : Said) (v w : Life) (l m : MemLinkState) (a : Result Bool ClientEnd) → SentAs MemHears MemSays q v l a w m → Keeps l m
sent_keeps (said.Took n) v w l m a f = done_keeps (is_done f.0) (life f.0 v.input) w l m true a f.1.1
sent_keeps said.NotYet v w l m a f = done_keeps (is_done v.parts) v w l m false a f
sent_keeps said.Failed v w l m a f = keeps_link l m f.1
sent_keeps said.OutOfMemory v w l m a f = keeps_link l m f.1

send_keeps : (b : Bool) (v w : Life) (l m : MemLinkState) (a : Result Bool ClientEnd) → SendBy MemHears MemSays b v l a w m → Keeps l m
send_keeps true v w l m a f = done_keeps (is_done v.parts) v w l m false a f
send_keeps false v w l m a f = keeps_then l f.1.0 m (said_keeps f.0 (take 16384 v.parts.outgoing.pending) l f.1.0 f.1.1.0)
    (sent_keeps f.0 v w f.1.0 m a f.1.1.1)

ended_keeps : (o : Option ClientEnd) (v w : Life) (l m : MemLinkState) (a : Result Bool ClientEnd) → EndedBy MemHears MemSays o v l a w m → Keeps l m
ended_keeps (Some e) v w l m a f = keeps_link l m f.2
ended_keeps None v w l m a f = send_keeps (is_nil v.parts.outgoing.pending) v w l m a f

pub turn_keeps : (c d : ClientState) (l m : MemLinkState) (a : ClientTurn) → TurnMade (EndedBy MemHears MemSays) c l a d m → Keeps l m
turn_keeps c d l m a t = ended_keeps c.ended (life_of c) (life_of d) l m t.comes t.made

-- ---- a client that runs

-- since nothing had passed
abbrev pub start_of : MemLinkState → LinkTold
start_of m = record { left = m.gave ++ concat m.pieces; gave = []; took = [] }

pub to_runs : (k : Asked) (c : ClientState) (m : MemLinkState) → ClientRuns k c m → Runs k c (Some (start_of m)) (Some (mem_told m)) m.counts m.counts
to_runs k c m r = record {
  live = r.live;
  asked = r.asked;
  passed = record { left = ap (λ (l : List ℕ). l ++ concat m.pieces) r.gave; gave = r.gave; took = r.took };
  friendly = r.friendly;
  calm = calm_here m.counts;
}

from_runs : (k : Asked) (c : ClientState) (t : LinkTold) (m : MemLinkState) (n : LinkCounts) → t.gave ≡ [] → t.took ≡ []
    → Runs k c (Some t) (Some (mem_told m)) n m.counts → ClientRuns k c m
from_runs k c t m n gave took r = record {
  live = r.live;
  asked = r.asked;
  gave = r.passed.gave ∙ ap (λ (l : List ℕ). l ++ (c.parts.y ++ c.input)) gave;
  took = r.passed.took ∙ ap (λ (l : List ℕ). l ++ c.parts.sent) took;
  friendly = r.friendly;
}

-- one that has sent all that it owed
done_side : (k : Asked) (c : ClientState) (t : LinkTold) (m : MemLinkState) (rest more : List ℕ) → t.gave ≡ [] → t.took ≡ []
    → (r : HasRun k c.parts.y rest c.parts.reader.given c.parts.gave (gifts_of c.parts) more (Some t) (Some (mem_told m))) → more ≡ [] → IsLive c
    → ClientSide k m c.parts.gave (gifts_of c.parts) []
done_side k c t m rest more gave took r none live = record {
  y = c.parts.y;
  rest = rest;
  ms = c.parts.reader.given;
  gave = r.passed.gave ∙ ap (λ (l : List ℕ). l ++ (c.parts.y ++ rest)) gave;
  took = append-nil (m.handed ++ m.sent) ∙ r.passed.took ∙ ap (λ (l : List ℕ). l ++ r.took) took ∙ sym (append-nil r.took)
      ∙ ap (λ (l : List ℕ). r.took ++ l) (sym none) ∙ r.owes;
  early = λ l. let e = live.stands.stands.early l in (e.messages, e.gave);
  read = r.read;
  given = r.given;
  told = r.told;
}

went : (a : ClientTurn) (lives : Bool) (k : Asked) (c d : ClientState) (m : MemLinkState) (t : LinkTold) (n : LinkCounts) → IsLive c → t.gave ≡ []
    → t.took ≡ [] → Turned a k c d (Some t) (Some (mem_told m)) n m.counts
    → lives ≡ is_on a → (is_on a ≡ false → d.ended ≡ Some end.Done) → ClientGoes lives k c d m
went Moved lives k c d m t n live gave took r e ends = subst (λ (b : Bool). ClientGoes b k c d m) (sym e) (from_runs k d t m n gave took r)
went Idle lives k c d m t n live gave took r e ends = subst (λ (b : Bool). ClientGoes b k c d m) (sym e) (from_runs k d t m n gave took r)
went Ended lives k c d m t n live gave took r e ends =
    let is : Some r.0 ≡ Some end.Done = sym r.1 ∙ ends refl in
    let done : r.0 ≡ end.Done = cc in
    subst (λ (b : Bool). ClientGoes b k c d m) (sym e) (by_why r.2.why done)
  where
    by_why : (IsDone r.0 c.parts r.2.more n m.counts ⊎ Causes r.0 c.parts.reader.given (c.parts.y ++ r.2.rest) n m.counts) → r.0 ≡ end.Done
        → ClientSide k m c.parts.gave (gifts_of c.parts) [] × (is_finished c.parts.gave ≡ true)
    by_why (inl w) f = (done_side k c t m r.2.rest r.2.more gave took r.2.run w.none live, sym live.stands.stands.finished ∙ w.finished)
    by_why (inr w) f = absurd (subst (λ (x : ClientEnd). Causes x c.parts.reader.given (c.parts.y ++ r.2.rest) n m.counts) f w)

pub turn_goes : (a : ClientTurn) (lives : Bool) (k : Asked) (c d : ClientState) (l m : MemLinkState) → TurnMade (EndedBy MemHears MemSays) c l a d m
    → StandsBy d.ended d.parts → lasting_of d.parts ≡ lasting_of c.parts → IsInput d.ended d.input
    → lives ≡ is_on a → (is_on a ≡ false → d.ended ≡ Some end.Done) → ClientRuns k c l → ClientGoes lives k c d m
turn_goes a lives k c d l m t s la i e ends r =
    went a lives k c d m (start_of l) l.counts r.live refl refl
    (turned MemHears (λ (x : MemLinkState). Some (mem_told x)) (λ (x : MemLinkState). x.counts) mem_hears_mean MemSays mem_says_mean a k c d
    (Some (start_of l)) l m l.counts t s la i (to_runs k c l r)) e ends

-- it lives on
pub turn_lives : (a : ClientTurn) (lives : Bool) (c d : ClientState) (l m : MemLinkState) → TurnMade (EndedBy MemHears MemSays) c l a d m
    → StandsBy d.ended d.parts → lasting_of d.parts ≡ lasting_of c.parts → IsInput d.ended d.input
    → lives ≡ is_on a → lives ≡ true → IsLive c → IsLive d
turn_lives a lives c d l m t s la i e f live = by_turn a (sym e ∙ f) (live_turned (EndedBy MemHears MemSays) a c d l m t s la i live)
  where
    by_turn : (b : ClientTurn) → is_on b ≡ true → StillLives b d → IsLive d
    by_turn Moved g h = h
    by_turn Idle g h = h
    by_turn Ended g h = absurd (cc)

-- a turn by which it has ended has an end
pub turn_ended : (a : ClientTurn) (c d : ClientState) (l m : MemLinkState) → TurnMade (EndedBy MemHears MemSays) c l a d m → a ≡ Ended
    → (e : ClientEnd) × (d.ended ≡ Some e)
turn_ended a c d l m t e = by_answer t.comes (sym t.answered ∙ e) t.ended
  where
    by_answer : (r : Result Bool ClientEnd) → turn_of r ≡ Ended → d.ended ≡ end_of r → (x : ClientEnd) × (d.ended ≡ Some x)
    by_answer (Ok true) f g = absurd (cc)
    by_answer (Ok false) f g = absurd (cc)
    by_answer (Err x) f g = (x, g)

-- an end that isn't that all was sent
pub stuck_ends : (l : Line) (a : ClientTurn) (d : ClientState) (m : MemLinkState) → TurnMade (EndedBy MemHears MemSays) l.client l.near a d m
    → StandsBy d.ended d.parts → lasting_of d.parts ≡ lasting_of l.client.parts → IsInput d.ended d.input → a ≡ Ended → is_stuck d.ended ≡ true
    → (e : ClientEnd) × (is_failure e ≡ true) × ClientEnds l e
stuck_ends l a d m t s la i e f =
    let x = turn_ended a l.client d l.near m t e in
    let g : is_failure x.0 ≡ true = sym (ap is_stuck x.1) ∙ f in (
      x.0,
      g,
      record {
        new = d;
        link = m;
        turn = subst (λ (b : ClientTurn). TurnMade (EndedBy MemHears MemSays) l.client l.near b d m) e t;
        ended = x.1;
        stands = s;
        lasts = la;
        input = i;
      },
    )

-- the link is another that gave and took the same
pub runs_at : (k : Asked) (c : ClientState) (l m : MemLinkState) → m.gave ≡ l.gave → m.handed ++ m.sent ≡ l.handed ++ l.sent → ClientRuns k c l
    → ClientRuns k c m
runs_at k c l m gave took r = record { live = r.live; asked = r.asked; gave = gave ∙ r.gave; took = took ∙ r.took; friendly = r.friendly }

pub side_at : (k : Asked) (l m : MemLinkState) (T : List Gave) (gifts : List Gift) (more : List ℕ) → m.gave ≡ l.gave
    → m.handed ++ m.sent ≡ l.handed ++ l.sent → ClientSide k l T gifts more → ClientSide k m T gifts more
side_at k l m T gifts more gave took s = record {
  y = s.y;
  rest = s.rest;
  ms = s.ms;
  gave = gave ∙ s.gave;
  took = ap (λ (x : List ℕ). x ++ more) took ∙ s.took;
  early = s.early;
  read = s.read;
  given = s.given;
  told = s.told;
}

pub goes_at : (lives : Bool) (k : Asked) (c d : ClientState) (l m : MemLinkState) → m.gave ≡ l.gave → m.handed ++ m.sent ≡ l.handed ++ l.sent
    → ClientGoes lives k c d l → ClientGoes lives k c d m
goes_at true k c d l m gave took r = runs_at k d l m gave took r
goes_at false k c d l m gave took r = (side_at k l m c.parts.gave (gifts_of c.parts) [] gave took r.0, r.1)

-- one that lives, as it stands
pub side_of : (k : Asked) (c : ClientState) (m : MemLinkState) → ClientRuns k c m → ClientSide k m c.parts.gave (gifts_of c.parts) c.parts.outgoing.pending
side_of k c m r =
    let s = r.live.stands in
    record {
      y = c.parts.y;
      rest = c.input;
      ms = c.parts.reader.given;
      gave = r.gave;
      took = ap (λ (l : List ℕ). l ++ c.parts.outgoing.pending) r.took ∙ s.stands.owes
          ∙ ap (λ (x : Asked). out x c.parts.y c.parts.reader.given c.parts.gave) r.asked;
      early = λ l. let e = s.stands.early l in (e.messages, e.gave);
      read = subst (λ (x : ℕ). IsRead x (drop Rattle.session_owed.specs.Talk.hand_bytes c.parts.y) c.parts.reader.given) r.live.max s.read;
      given = subst (λ (x : Asked). AreGiven x most_message (count_of c.parts.y) c.parts.reader.given c.parts.gave) r.asked
          (subst (λ (x : ℕ). AreGiven c.parts.asked x (count_of c.parts.y) c.parts.reader.given c.parts.gave) r.live.max s.stands.given);
      told = s.stands.told ∙ ap (λ (x : Asked). pulled x c.parts.reader.given) r.asked;
    }

-- a new one
pub new_client : (w : Wish) (c : ClientState) (m : MemLinkState) → c.parts.asked ≡ asked_by w → IsNew c → IsLive c → m.gave ≡ [] → m.handed ≡ []
    → m.sent ≡ [] → ClientRuns (asked_by w) c m
new_client w c m asked n live gave handed sent =
    let y : c.parts.y ≡ [] = ap (λ (x : Past). x.y) n.past in
    record {
      live = live;
      asked = asked;
      gave = gave ∙ sym (ap (λ (l : List ℕ). l ++ c.input) y ∙ n.input);
      took = ap (λ (l : List ℕ). l ++ m.sent) handed ∙ sent ∙ sym (ap (λ (x : Past). x.sent) n.past);
      friendly = subst AreFriendly (sym (ap (λ (x : Past). x.ms) n.past)) tt;
    }

-- ---- the line then

abbrev pub turned_line : Line → ClientState → MemLinkState → MemLinkState → ℕ → Line
turned_line l c near far forth = record { client = c; near = near; session = l.session; far = far; forth = forth; back = l.back }

pub client_passed : (l : Line) (c : ClientState) (link near far : MemLinkState) (forth : ℕ) (a : ClientTurn)
    → TurnMade (EndedBy MemHears MemSays) l.client l.near a c link → Passes link l.far near far → forth ≡ l.forth + length link.sent → forth ≤ most_passed
    → ArePassed l
    → ArePassed (turned_line l c near far forth)
client_passed l c link near far forth a t passes count few passed =
    let k = turn_keeps l.client c l.near link a t in
    record {
      forth = handed_on l.near link l.far near far l.forth forth passed.forth k passes count few;
      back = still_passed l.far l.near link near far l.back passed.back k passes;
    }

pub client_goes : (lives : Bool) (k : Asked) (c d : ClientState) (link near far far' : MemLinkState) → Passes link far near far'
    → ClientGoes lives k c d link → ClientGoes lives k c d near
client_goes lives k c d link near far far' passes g = goes_at lives k c d link near (ap (λ (m : MemLinkState). m.gave) passes.handed)
    (took_same link near passes.handed) g

pub client_turned : (l : Line) (c : ClientState) (link near far : MemLinkState) (forth : ℕ) (a : ClientTurn) (lives : Bool)
    → TurnMade (EndedBy MemHears MemSays) l.client l.near a c link → Passes link l.far near far → forth ≡ l.forth + length link.sent
    → LivesBy (Ok lives) a c.ended → TurnsClient (Ok lives) l (turned_line l c near far forth)
client_turned l c link near far forth a lives t passes count h =
    (a, h.0, record { link = link; turn = t; passed = passes; forth = count; session = refl; all_sent = h.1 })

pub client_stops : (stop : Stop) (l m : Line) (c : ClientState) (link : MemLinkState) (a : ClientTurn) → LivesBy (Err stop) a c.ended
    → TurnMade (EndedBy MemHears MemSays) l.client l.near a c link → StandsBy c.ended c.parts → lasting_of c.parts ≡ lasting_of l.client.parts
    → IsInput c.ended c.input → TurnsClient (Err stop) l m
client_stops Unfinished l m c link a h t s la i = stuck_ends l a c link t s la i h.0 h.1
client_stops (Refused at) l m c link a h t s la i = absurd h
client_stops Source l m c link a h t s la i = absurd h
client_stops Sink l m c link a h t s la i = absurd h
client_stops Memory l m c link a h t s la i = tt

pub client_wants : (stop : Stop) (l m : Line) → stop ≡ Memory → TurnsClient (Err stop) l m
client_wants stop l m e = subst (λ (s : Stop). TurnsClient (Err s) l m) (sym e) tt

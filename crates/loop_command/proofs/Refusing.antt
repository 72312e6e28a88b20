-- No session of a run ends but for want of memory, and no client but for this, or since it is done
use Rattle.std.proofs.Common.{◌≡◌, ◌⊎◌, inl, inr, ℕ, ◌+◌, ◌≤◌, ◌^◌, Bool, true, false, List, [], ◌∷◌, ◌++◌, length, take, drop, reverse, Option, Some, None}
use Rattle.std.proofs.Common.{Result}
use Rattle.std.proofs.Common.{Ok, Err, refl, sym, ap, ◌∙◌, subst, arith, append_assoc, append-nil, length-append}
use Rattle.std.specs.List.{concat}
use Rattle.chunk_reader.specs.Sound.{IsRead}
use Rattle.chunk_wire.specs.declared.message.Message.{Message}
use Rattle.client_command.specs.Runs.{Causes, most_message}
use Rattle.client_command.specs.Turned.{IsDone, Turned, gifts_of}
use Rattle.client_command.proofs.Turns.{turned}
use Rattle.client_law.specs.Laws.{IsNamed}
use Rattle.client_law.specs.Room.{HaveRoom}
use Rattle.client_owed.specs.Owed as client
use Rattle.client_owed.specs.declared.types.Asked.{Asked}
use Rattle.client_owed.specs.declared.types.Gave.{Gave}
use Rattle.client_owed.specs.declared.types.Gift.{Gift}
use Rattle.client_owed.specs.declared.types.Wish.{Wish}
use Rattle.client_owed.specs.declared.types.Wish.TheVariants.{Pull, Push}
use Rattle.client_owed.specs.Standing.{is_finished}
use Rattle.flv_tags.specs.declared.tag.Tag.{Tag}
use Rattle.command_dialog.specs.State.{State}
use Rattle.command_dialog.specs.declared.types.Ask.{Ask}
use Rattle.command_dialog.specs.declared.types.Grant.{Grant}
use Rattle.command_dialog.specs.declared.types.Grant.TheVariants as grant
use Rattle.refusal_law.specs.Refusals.{AreGranted, AreOpened, Begins, ClientWants, HaveTalked, IsWant, asking_of}
use Rattle.relay_outside.specs.Heard.{Came, CameBytes, CameEnd, CameFailed, CameNotYet}
use Rattle.relay_outside.specs.MemLinkLaws.{mem_hears_mean, mem_says_mean}
use Rattle.relay_outside.specs.MemLinks.{MemHears, MemLinkState, MemSays, mem_told}
use Rattle.relay_outside.specs.declared.link.Said.{Said}
use Rattle.relay_outside.specs.declared.link.Said.TheVariants as said
use Rattle.relay_session.specs.Decided.{IsDecided}
use Rattle.relay_session.specs.Feeding.{Fixed as SessionFixed, IsStopped}
use Rattle.relay_session.specs.Keeping.{IsOver}
use Rattle.relay_session.specs.SeatVisits.{StandIn as SeatStandIn, Visit, calls_of}
use Rattle.relay_session.specs.Session.{session}
use Rattle.relay_session.specs.SessionState.{IsWhole, Lasting as SessionLasting, SessionState, StandsBy, StandsFor, life_at}
use Rattle.relay_session.specs.Turns.{Gone, gone_of}
use Rattle.relay_session.specs.declared.core_fields.Core.{Core as SessionCore}
use Rattle.relay_session.specs.declared.end.End.{End}
use Rattle.relay_session.specs.declared.end.End.TheVariants as session_end
use Rattle.rtmp_client.specs.ClientState.{ClientState, life_of}
use Rattle.rtmp_client.specs.Feeding.{Decides}
use Rattle.rtmp_client.specs.Turns.{CameAs, DoneBy, EmptyBy, EndedBy, FedAs, FedBy, InputBy, Life, Loudly, Quietly, SendBy, SentAs, Stopping, end_of}
use Rattle.rtmp_client.specs.Turns.{is_done, is_hungry, is_nil, life}
use Rattle.rtmp_client.specs.declared.end.ClientEnd.{ClientEnd}
use Rattle.rtmp_client.specs.declared.end.ClientEnd.TheVariants as end
use Rattle.rtmp_client.specs.declared.end.ClientTurn.TheVariants as client_turn
use Rattle.rtmp_client.specs.declared.core_fields.Core.{Core}
use Rattle.relay_session.specs.declared.turn.Turn.TheVariants as session_turn
use Rattle.session_owed.specs.Dialogue.{Dialogue}
use Rattle.session_owed.specs.Owed as owing
use Rattle.session_owed.specs.Talk.{Own, hand_bytes, makes}
use Rattle.session_owed.specs.Talks.{Talks, entries_of}
use Rattle.stream_model.specs.Counts.{how_many}
use Rattle.stream_model.specs.declared.calls.Entry.{Entry}
use Rattle.stream_model.specs.declared.replies.Reply.{Reply}
use Rattle.stream_registry.specs.Books.{SeenState, SoleState, journal_at, sole_rules}
use Rattle.loop_command.specs.Course.{Asks, is_done as has_sent}
use Rattle.loop_command.specs.Desk.{asked_by, dialogue, granted, max_message, player, publisher, puller, pusher, rules, shape, window}
use Rattle.loop_command.specs.Lines.{ArePassed, ClientGoes, ClientRuns, ClientSide, Serves, StaysHome, Works, most_passed, steps_of}
use Rattle.loop_command.specs.Rounds.{ClientEnds, IsRun, PushesOf, SessionEnds, is_failure, is_session_cause}
use Rattle.loop_command.specs.declared.line.Line.{Line}
use Rattle.loop_command.specs.declared.rounds.Run.{Run}
use Rattle.loop_command.specs.declared.rounds.Stage.{Stage}
use Rattle.loop_command.specs.declared.rounds.Stage.TheVariants.{Giving, Finishing, Done}
use Rattle.loop_command.proofs.Back.{calls_room}
use Rattle.loop_command.proofs.Clients.{side_of, start_of, to_runs, turn_keeps}
use Rattle.loop_command.proofs.Granted.{many_reverse, pull_granted, push_granted}
use Rattle.loop_command.proofs.Home.{asked_home, heard_home}
use Rattle.loop_command.proofs.Laws.{passed_all}
use Rattle.loop_command.proofs.Links.{said_keeps}
use Rattle.loop_command.proofs.Owning.{AreBoth}
use Rattle.loop_command.proofs.Running.{pushes_runs}
use Rattle.loop_command.proofs.Sessions.{one_place, tied_before}
use Rattle.loop_command.proofs.Ties.{Fell, Why, not_both, turned_on}

-- ---- a link that works ends no client

abbrev ByLink : Result Bool ClientEnd → Type 0
ByLink (Ok moved) = ⊥
ByLink (Err end.PeerClosed) = Unit {0}
ByLink (Err end.LinkFault) = Unit {0}
ByLink (Err (end.BadVersion at)) = ⊥
ByLink (Err (end.BadChunk cause at)) = ⊥
ByLink (Err (end.BadControl at)) = ⊥
ByLink (Err (end.BadCommand at)) = ⊥
ByLink (Err (end.Refused code description)) = ⊥
ByLink (Err end.Done) = ⊥
ByLink (Err end.OutOfMemory) = ⊥

as_answer : (a b : Result Bool ClientEnd) → a ≡ b → (ByLink b → ⊥) → ByLink a → ⊥
as_answer a b e n = subst (λ (r : Result Bool ClientEnd). ByLink r → ⊥) (sym e) n

byte_not : (e : ClientEnd) (max n : ℕ) (ms : List (ℕ × Message)) (y : List ℕ) → Decides max ms y n e → ByLink (Err e) → ⊥
byte_not end.PeerClosed max n ms y d b = d
byte_not end.LinkFault max n ms y d b = d
byte_not (end.BadVersion at) max n ms y d b = b
byte_not (end.BadChunk cause at) max n ms y d b = b
byte_not (end.BadControl at) max n ms y d b = b
byte_not (end.BadCommand at) max n ms y d b = b
byte_not (end.Refused code description) max n ms y d b = b
byte_not end.Done max n ms y d b = b
byte_not end.OutOfMemory max n ms y d b = b

fed_not : (by : FedBy) (v w : Life) (moved : Bool) (a : Result Bool ClientEnd) → FedAs by v moved a w → ByLink a → ⊥
fed_not Quietly v w moved a f = as_answer a _ f.3 (λ b. b)
fed_not Loudly v w moved a f = as_answer a _ f.3 (λ b. b)
fed_not (Stopping e) v w moved a f = as_answer a _ f.1 (byte_not e v.parts.reader.max (length w.parts.y) v.parts.reader.given (v.parts.y ++ v.input) f.0.cause)

came_not : (came : Came) (v w : Life) (l m : MemLinkState) (moved : Bool) (a : Result Bool ClientEnd) → Works l → MemHears l 4096 came m
    → CameAs came v moved a w
    → ByLink a → ⊥
came_not (CameBytes b) v w l m moved a k s (inl f) = fed_not f.0 (life v.parts b) w true a f.1
came_not (CameBytes b) v w l m moved a k s (inr f) = as_answer a _ f.ended (λ b. b)
came_not CameNotYet v w l m moved a k s f = as_answer a _ f.0 (λ b. b)
came_not CameEnd v w l m moved a k s f = absurd (not_both l.ended s.2 k.lasts)
came_not CameFailed v w l m moved a k s f = absurd (not_both l.recv_fails s.0 k.receives)

empty_not : (b : Bool) (v w : Life) (l m : MemLinkState) (moved : Bool) (a : Result Bool ClientEnd) → Works l → EmptyBy MemHears b v l moved a w m
    → ByLink a → ⊥
empty_not true v w l m moved a k f = came_not f.0 v w l m moved a k f.1.0 f.1.1
empty_not false v w l m moved a k f = fed_not f.0.0 v w moved a f.0.1

input_not : (b : Bool) (v w : Life) (l m : MemLinkState) (moved : Bool) (a : Result Bool ClientEnd) → Works l → InputBy MemHears b v l moved a w m
    → ByLink a → ⊥
input_not true v w l m moved a k f = empty_not (is_nil v.input) v w l m moved a k f
input_not false v w l m moved a k f = as_answer a _ f.0 (λ b. b)

done_not : (b : Bool) (v w : Life) (l m : MemLinkState) (moved : Bool) (a : Result Bool ClientEnd) → Works l → DoneBy MemHears b v l moved a w m → ByLink a → ⊥
done_not true v w l m moved a k f = as_answer a _ f.0.ended (λ b. b)
done_not false v w l m moved a k f = input_not (is_hungry v.parts) v w l m moved a k f

sent_not : (q : Said) (p : List ℕ) (v w : Life) (l m n : MemLinkState) (a : Result Bool ClientEnd) → Works l → MemSays l p q m
    → SentAs MemHears MemSays q v m a w n
    → ByLink a → ⊥
sent_not (said.Took j) p v w l m n a k s f =
    done_not (is_done f.0) (life f.0 v.input) w m n true a ((said_keeps (said.Took j) p l m s).works k) f.1.1
sent_not said.NotYet p v w l m n a k s f = done_not (is_done v.parts) v w m n false a ((said_keeps said.NotYet p l m s).works k) f
sent_not said.Failed p v w l m n a k s f = absurd (not_both l.send_fails s.0 k.sends)
sent_not said.OutOfMemory p v w l m n a k s f = as_answer a _ f.0.ended (λ b. b)

send_not : (b : Bool) (v w : Life) (l m : MemLinkState) (a : Result Bool ClientEnd) → Works l → SendBy MemHears MemSays b v l a w m → ByLink a → ⊥
send_not true v w l m a k f = done_not (is_done v.parts) v w l m false a k f
send_not false v w l m a k f = sent_not f.0 (take 16384 v.parts.outgoing.pending) v w l f.1.0 m a k f.1.1.0 f.1.1.1

turn_not : (o : Option ClientEnd) (v w : Life) (l m : MemLinkState) (a : Result Bool ClientEnd) → o ≡ None → Works l → EndedBy MemHears MemSays o v l a w m
    → ByLink a → ⊥
turn_not (Some e) v w l m a n k f = absurd (let g : Some e ≡ None = n in cc)
turn_not None v w l m a n k f = send_not (is_nil v.parts.outgoing.pending) v w l m a k f

-- ---- what was said

abbrev pub ClientLaw : Type 0
ClientLaw = (k : Asked) (who window max n place : ℕ) (desk : Ask → Grant) (x y more : List ℕ) (ms ns : List (ℕ × Message)) (T : List Gave) (C : List Own)
    (e : ClientEnd) → (h : HaveTalked k (session who window desk) max x y ms ns T C) → HaveRoom max C → desk (asking_of k) ≡ grant.Place place
    → AreGranted C → Begins more h.left → length (y ++ more) ≤ 2 ^ 61
    → Decides max ns (y ++ more) n e → ClientWants e

abbrev pub OnceLaw : Type 0
OnceLaw = (k : Asked) (who window max place : ℕ) (desk : Ask → Grant) (x y : List ℕ) (ms ns : List (ℕ × Message)) (T : List Gave) (C : List Own)
    → (h : HaveTalked k (session who window desk) max x y ms ns T C) → HaveRoom max C → desk (asking_of k) ≡ grant.Place place
    → AreOpened k.wish (makes C ++ entries_of h.kept)

abbrev pub SessionLaw : Type 0
SessionLaw = (k : Asked) (who window max n : ℕ) (desk : Ask → Grant) (x y more : List ℕ) (ms ns : List (ℕ × Message)) (T : List Gave) (C : List Own) (e : End)
    → (h : HaveTalked k (session who window desk) max x y ms ns T C) → Begins more h.rest → length (x ++ more) ≤ 2 ^ 61
    → IsDecided who window desk ms C max (x ++ more) n e → IsWant e

abbrev pub DecidedLaw : Type 0
DecidedLaw = (desk : Ask → Grant) (old stopped left : SessionCore) (input : List ℕ) (e : End) → IsStopped old input e stopped → gone_of left ≡ gone_of stopped
    → (over : IsOver desk e left) → IsDecided left.who left.window desk over.ms left.calls left.reader.max (old.x ++ input) (length left.x) e

-- its first call begins what is wished, if it has made one, and no other begins anything
pub record Opens (w : Wish) (C : List Own) : Type 0 where
  pub rest : List Entry
  pub opened : AreOpened w (makes C ++ rest)

is_none : (m : MemLinkState) → m.sent ≡ [] → m.handed ++ m.sent ≡ m.handed
is_none m e = ap (λ (l : List ℕ). m.handed ++ l) e ∙ append-nil m.handed

-- bytes, with those behind them, of which more are owed
owes_more : (a b all more out : List ℕ) → a ++ b ≡ all → all ++ more ≡ out → a ++ (b ++ more) ≡ out
owes_more a b all more out e f = sym (append_assoc a b more) ∙ ap (λ (l : List ℕ). l ++ more) e ∙ f

front_few : (a b all : List ℕ) → a ++ b ≡ all → length all ≤ most_passed → length a ≤ 2 ^ 61
front_few a b all e l = omega (arith, length-append a b, ap length e, l)

the_end : (a b : ClientEnd) → Some a ≡ Some b → a ≡ b
the_end a b e = cc

module _ (who : ℕ) (k : Asked) (named : IsNamed k) (p : SoleState) (l : Line) (passed : ArePassed l) (serves : Serves who p l.session l.far)
    (whole : IsWhole granted l.session.parts) (room : HaveRoom max_message l.session.parts.calls) (desk_is : granted (asking_of k) ≡ grant.Place 0) where
  abbrev s : SessionCore
  s = l.session.parts

  is : session s.who s.window granted ≡ dialogue who
  is = ap (λ (a : ℕ). session a s.window granted) serves.who_is ∙ ap (λ (b : ℕ). session who b granted) serves.window_is

  sent : l.far.handed ≡ s.sent
  sent = sym (is_none l.far passed.back.none) ∙ serves.took

  owes : l.far.handed ++ whole.more ≡ owing.out (dialogue who) s.x whole.ms s.calls
  owes = ap (λ (b : List ℕ). b ++ whole.more) sent ∙ whole.owes ∙ ap (λ (d : Dialogue State). owing.out d s.x whole.ms s.calls) is

  -- what came to the session by it
  forth : s.x ++ (l.session.input ++ concat l.far.pieces) ≡ l.near.handed
  forth = passed_all s.x l.session.input (concat l.far.pieces) l.near.handed l.far.gave passed.forth.came serves.gave

  few_forth : length l.near.handed ≤ most_passed
  few_forth = omega (arith, passed.forth.total_is, passed.forth.few)

  few_back : length l.far.handed ≤ most_passed
  few_back = omega (arith, passed.back.total_is, passed.back.few)

  session_reads : IsRead max_message (drop hand_bytes s.x) whole.ms
  session_reads = subst (λ (j : ℕ). IsRead j (drop hand_bytes s.x) whole.ms) serves.max whole.read

  few_x : length s.x ≤ 2 ^ 61
  few_x = front_few s.x (l.session.input ++ concat l.far.pieces) l.near.handed forth few_forth

  session_talks : Talks (dialogue who) (owing.count_of (dialogue who) s.x) whole.ms s.calls s.kept
  session_talks = subst (λ (d : Dialogue State). Talks d (owing.count_of d s.x) whole.ms s.calls s.kept) is whole.talks

  -- ---- which calls its session has made

  module _ (once : OnceLaw) (T : List Gave) (gifts : List Gift) (more : List ℕ) (side : ClientSide k l.near T gifts more) where
    all_asked : l.near.handed ++ more ≡ client.out k side.y side.ms T
    all_asked = ap (λ (b : List ℕ). b ++ more) (sym (is_none l.near passed.forth.none)) ∙ side.took

    all_told : side.y ++ (side.rest ++ concat l.near.pieces) ≡ l.far.handed
    all_told = passed_all side.y side.rest (concat l.near.pieces) l.far.handed l.near.gave passed.back.came side.gave

    line_talked : HaveTalked k (dialogue who) max_message s.x side.y whole.ms side.ms T s.calls
    line_talked = record {
      named = named;
      least = omega arith;
      most = omega arith;
      given = side.given;
      rest = (l.session.input ++ concat l.far.pieces) ++ more;
      sent = owes_more s.x (l.session.input ++ concat l.far.pieces) l.near.handed more (client.out k side.y side.ms T) forth all_asked;
      left = (side.rest ++ concat l.near.pieces) ++ whole.more;
      told = owes_more side.y (side.rest ++ concat l.near.pieces) l.far.handed whole.more (owing.out (dialogue who) s.x whole.ms s.calls) all_told owes;
      session_read = session_reads;
      client_read = side.read;
      few = few_x;
      kept = s.kept;
      talks = session_talks;
    }

    -- IT BEGINS ONE ROLE
    pub line_opens : Opens k.wish s.calls
    line_opens = record {
      rest = entries_of line_talked.kept;
      opened = once k who window max_message 0 granted s.x side.y whole.ms side.ms T s.calls line_talked room desk_is;
    }

  -- ---- a client that has ended

  module _ (law : ClientLaw) (runs : ClientRuns k l.client l.near) (grants : AreGranted s.calls) (e : ClientEnd) (ends : ClientEnds l e) where
    abbrev m : MemLinkState
    m = ends.link

    stopped : Turned client_turn.Ended k l.client ends.new (Some (start_of l.near)) (Some (mem_told m)) l.near.counts m.counts
    stopped =
        turned MemHears (λ (x : MemLinkState). Some (mem_told x)) (λ (x : MemLinkState). x.counts) mem_hears_mean MemSays mem_says_mean
        client_turn.Ended k l.client ends.new (Some (start_of l.near)) l.near m l.near.counts ends.turn
        ends.stands ends.lasts ends.input (to_runs k l.client l.near runs)

    same : stopped.0 ≡ e
    same = the_end stopped.0 e (sym stopped.1 ∙ ends.ended)

    abbrev c : Core
    c = l.client.parts

    abbrev rest : List ℕ
    rest = stopped.2.rest

    gave : m.gave ≡ c.y ++ rest
    gave = stopped.2.run.passed.gave

    -- all that came to it was sent by the session
    came : c.y ++ (rest ++ concat m.pieces) ≡ l.far.handed
    came =
        passed_all c.y rest (concat m.pieces) l.far.handed m.gave
        ((turn_keeps l.client ends.new l.near m client_turn.Ended ends.turn).stream ∙ passed.back.came) gave

    asks : l.near.handed ++ c.outgoing.pending ≡ client.out k c.y c.reader.given c.gave
    asks =
        ap (λ (b : List ℕ). b ++ c.outgoing.pending) (sym (is_none l.near passed.forth.none) ∙ runs.took) ∙ runs.live.stands.stands.owes
        ∙ ap (λ (x : Asked). client.out x c.y c.reader.given c.gave) runs.asked

    talked : HaveTalked k (dialogue who) max_message s.x c.y whole.ms c.reader.given c.gave s.calls
    talked = record {
      named = named;
      least = omega arith;
      most = omega arith;
      given = stopped.2.run.given;
      rest = (l.session.input ++ concat l.far.pieces) ++ c.outgoing.pending;
      sent = owes_more s.x (l.session.input ++ concat l.far.pieces) l.near.handed c.outgoing.pending (client.out k c.y c.reader.given c.gave) forth asks;
      left = (rest ++ concat m.pieces) ++ whole.more;
      told = owes_more c.y (rest ++ concat m.pieces) l.far.handed whole.more (owing.out (dialogue who) s.x whole.ms s.calls) came owes;
      session_read = session_reads;
      client_read = stopped.2.run.read;
      few = few_x;
      kept = s.kept;
      talks = session_talks;
    }

    few_came : length (c.y ++ rest) ≤ 2 ^ 61
    few_came = front_few (c.y ++ rest) (concat m.pieces) l.far.handed (append_assoc c.y rest (concat m.pieces) ∙ came) few_back

    by_byte : (n : ℕ) (x : ClientEnd) → Decides most_message c.reader.given (c.y ++ rest) n x → ClientWants x
    unfolding talked stopped
    by_byte n x d =
        law k who window max_message n 0 granted s.x c.y rest whole.ms c.reader.given c.gave s.calls x talked room desk_is grants
        (concat m.pieces ++ whole.more, sym (append_assoc rest (concat m.pieces) whole.more)) few_came d

    not_link : ByLink (Err e) → ⊥
    not_link b = by_comes ends.turn.comes ends.turn.ended (turn_not l.client.ended (life_of l.client) (life_of ends.new) l.near m ends.turn.comes
        runs.live.lives passed.forth.works ends.turn.made)
      where
        by_comes : (r : Result Bool ClientEnd) → ends.new.ended ≡ end_of r → (ByLink r → ⊥) → ⊥
        by_comes (Ok moved) f n = absurd (let g : None ≡ Some e = sym f ∙ ends.ended in cc)
        by_comes (Err x) f n = n (subst (λ (z : ClientEnd). ByLink (Err z)) (sym (the_end x e (sym f ∙ ends.ended))) b)

    by_cause : (x : ClientEnd) → x ≡ e → is_failure x ≡ true → (IsDone x c stopped.2.more l.near.counts m.counts
        ⊎ Causes x c.reader.given (c.y ++ rest) l.near.counts m.counts) → ⊥
    by_cause end.PeerClosed q f w = not_link (subst (λ (z : ClientEnd). ByLink (Err z)) q tt)
    by_cause end.LinkFault q f w = not_link (subst (λ (z : ClientEnd). ByLink (Err z)) q tt)
    by_cause (end.Refused code description) q f (inl w) = absurd (let g : end.Refused code description ≡ end.Done = w.is_done in cc)
    by_cause (end.Refused code description) q f (inr w) = by_byte w.0.0 (end.Refused code description) w.0.1
    by_cause (end.BadVersion at) q f (inl w) = absurd (let g : end.BadVersion at ≡ end.Done = w.is_done in cc)
    by_cause (end.BadVersion at) q f (inr w) = by_byte w.0.0 (end.BadVersion at) w.0.1
    by_cause (end.BadChunk cause at) q f (inl w) = absurd (let g : end.BadChunk cause at ≡ end.Done = w.is_done in cc)
    by_cause (end.BadChunk cause at) q f (inr w) = by_byte w.0.0 (end.BadChunk cause at) w.0.1
    by_cause (end.BadControl at) q f (inl w) = absurd (let g : end.BadControl at ≡ end.Done = w.is_done in cc)
    by_cause (end.BadControl at) q f (inr w) = by_byte w.0.0 (end.BadControl at) w.0.1
    by_cause (end.BadCommand at) q f (inl w) = absurd (let g : end.BadCommand at ≡ end.Done = w.is_done in cc)
    by_cause (end.BadCommand at) q f (inr w) = by_byte w.0.0 (end.BadCommand at) w.0.1
    by_cause end.Done q f w = absurd cc
    by_cause end.OutOfMemory q f w = absurd cc

    -- NO CLIENT HAS, but done or for want of memory
    pub never_failed : is_failure e ≡ true → ⊥
    never_failed f = by_cause stopped.0 same (subst (λ (z : ClientEnd). is_failure z ≡ true) (sym same) f) stopped.2.why

-- ---- a session that has ended

module _ (law : SessionLaw) (decided : DecidedLaw) (who : ℕ) (k : Asked) (named : IsNamed k) (T : List Gave) (gifts : List Gift) (more : List ℕ) (p : SoleState)
    (l : Line) (side : ClientSide k l.near T gifts more) (passed : ArePassed l) (serves : Serves who p l.session l.far) where
  -- by a byte
  abbrev FellBy : End → SessionEnds p l → Type 0
  FellBy e ends = Fell Asks granted l.far.handed (l.far.gave ++ concat l.far.pieces) StaysHome heard_home asked_home ⊥ e (life_at ends.new ends.port) ends.link

  module _ (ends : SessionEnds p l) (e : End) (cause : ends.cause ≡ e) (f : FellBy e ends) where
    abbrev link : MemLinkState
    link = ends.link

    abbrev w : SessionCore
    w = ends.new.parts

    over : IsOver granted e w
    over =
        subst (λ (x : End). IsOver granted x w) cause
        (subst (λ (o : Option End). StandsBy o granted w) ends.ended (ends.stands serves.stands))

    sent_same : w.sent ≡ f.old.sent
    sent_same = ap (λ (g : Gone). g.sent) f.gone ∙ ap (λ (g : SessionFixed). g.sent) f.stop.fixed

    x_is : w.x ≡ f.old.x ++ f.stop.fed
    x_is = ap (λ (g : Gone). g.x) f.gone ∙ f.stop.x

    all_is : w.x ++ f.stop.left ≡ f.old.x ++ f.input
    all_is = ap (λ (b : List ℕ). b ++ f.stop.left) x_is ∙ append_assoc f.old.x f.stop.fed f.stop.left ∙ ap (λ (b : List ℕ). f.old.x ++ b) f.stop.split

    link_gave : link.gave ≡ w.x ++ f.stop.left
    link_gave = f.tied.gave ∙ sym all_is

    who_same : w.who ≡ who
    who_same = ap (λ (g : SessionLasting). g.who) ends.lasts ∙ serves.who_is

    window_same : w.window ≡ window
    window_same = ap (λ (g : SessionLasting). g.window) ends.lasts ∙ serves.window_is

    max_same : w.reader.max ≡ max_message
    max_same = ap (λ (g : SessionLasting). g.max) ends.lasts ∙ serves.max

    is_one : session w.who w.window granted ≡ dialogue who
    is_one = ap (λ (a : ℕ). session a w.window granted) who_same ∙ ap (λ (b : ℕ). session who b granted) window_same

    came_forth : w.x ++ (f.stop.left ++ concat link.pieces) ≡ l.near.handed
    came_forth = passed_all w.x f.stop.left (concat link.pieces) l.near.handed link.gave (f.tied.stream ∙ passed.forth.came) link_gave

    asks_more : l.near.handed ++ more ≡ client.out k side.y side.ms T
    asks_more = ap (λ (b : List ℕ). b ++ more) (sym (is_none l.near passed.forth.none)) ∙ side.took

    came_back : side.y ++ (side.rest ++ concat l.near.pieces) ≡ l.far.handed
    came_back = passed_all side.y side.rest (concat l.near.pieces) l.far.handed l.near.gave passed.back.came side.gave

    owes_back : l.far.handed ++ (link.sent ++ over.more) ≡ owing.out (dialogue who) w.x over.ms w.calls
    owes_back =
        sym (append_assoc l.far.handed link.sent over.more)
        ∙ ap (λ (b : List ℕ). b ++ over.more) (ap (λ (b : List ℕ). b ++ link.sent) (sym f.tied.handed) ∙ f.tied.took ∙ sym sent_same)
        ∙ over.owes ∙ ap (λ (d : Dialogue State). owing.out d w.x over.ms w.calls) is_one

    few_sent : length l.near.handed ≤ most_passed
    few_sent = omega (arith, passed.forth.total_is, passed.forth.few)

    few_all : length (w.x ++ f.stop.left) ≤ 2 ^ 61
    few_all = front_few (w.x ++ f.stop.left) (concat link.pieces) l.near.handed (append_assoc w.x f.stop.left (concat link.pieces) ∙ came_forth) few_sent

    have_talked : HaveTalked k (dialogue who) max_message w.x side.y over.ms side.ms T w.calls
    have_talked = record {
      named = named;
      least = omega arith;
      most = omega arith;
      given = side.given;
      rest = (f.stop.left ++ concat link.pieces) ++ more;
      sent = owes_more w.x (f.stop.left ++ concat link.pieces) l.near.handed more (client.out k side.y side.ms T) came_forth asks_more;
      left = (side.rest ++ concat l.near.pieces) ++ (link.sent ++ over.more);
      told = owes_more side.y (side.rest ++ concat l.near.pieces) l.far.handed (link.sent ++ over.more) (owing.out (dialogue who) w.x over.ms w.calls)
          came_back owes_back;
      session_read = subst (λ (j : ℕ). IsRead j (drop hand_bytes w.x) over.ms) max_same over.read;
      client_read = side.read;
      few = front_few w.x (f.stop.left ++ concat link.pieces) l.near.handed came_forth few_sent;
      kept = w.kept;
      talks = subst (λ (d : Dialogue State). Talks d (owing.count_of d w.x) over.ms w.calls w.kept) is_one over.talks;
    }

    byte_wants : IsWant e
    unfolding have_talked
    byte_wants =
        let i = decided granted f.old f.stopped w f.input e f.stop f.gone over in
        law k who window max_message (length w.x) granted w.x side.y f.stop.left over.ms side.ms T w.calls e have_talked
        (concat link.pieces ++ more, sym (append_assoc f.stop.left (concat link.pieces) more)) few_all
        (subst (λ (b : List ℕ). IsDecided who window granted over.ms w.calls max_message b (length w.x) e) (sym all_is)
        (subst (λ (a : ℕ). IsDecided who window granted over.ms w.calls a (f.old.x ++ f.input) (length w.x) e) max_same
        (subst (λ (a : ℕ). IsDecided who a granted over.ms w.calls w.reader.max (f.old.x ++ f.input) (length w.x) e) window_same
        (subst (λ (a : ℕ). IsDecided a w.window granted over.ms w.calls w.reader.max (f.old.x ++ f.input) (length w.x) e) who_same i))))

  by_why : (ends : SessionEnds p l) (e : End) → ends.cause ≡ e → is_session_cause e ≡ true
      → Why Asks granted l.far.handed (l.far.gave ++ concat l.far.pieces) StaysHome heard_home asked_home ⊥ e (life_at ends.new ends.port) ends.link → ⊥
  by_why ends session_end.PeerClosed q c y = y
  by_why ends session_end.LinkFault q c y = y
  by_why ends (session_end.BadVersion at) q c y = byte_wants ends (session_end.BadVersion at) q y
  by_why ends (session_end.BadChunk cause at) q c y = byte_wants ends (session_end.BadChunk cause at) q y
  by_why ends (session_end.BadControl at) q c y = byte_wants ends (session_end.BadControl at) q y
  by_why ends (session_end.BadCommand at) q c y = byte_wants ends (session_end.BadCommand at) q y
  by_why ends (session_end.TooManyStreams at) q c y = byte_wants ends (session_end.TooManyStreams at) q y
  by_why ends session_end.Quit q c y = y
  by_why ends session_end.Worn q c y = absurd cc
  by_why ends session_end.OutOfMemory q c y = absurd cc

  -- NONE HAS
  pub never_ends : SessionEnds p l → ⊥
  never_ends ends =
      by_why ends ends.cause refl ends.why
      (turned_on Asks granted l.far.handed (l.far.gave ++ concat l.far.pieces) StaysHome heard_home asked_home ⊥ l.session.ended l.session.quit
      (life_at l.session p) (life_at ends.new ends.port) l.far (session_turn.Ended ends.cause) ends.link serves.lives
      (λ e. not_both l.session.quit e serves.goes_on) ends.turn
      (record { tied = tied_before who p l.session l.far serves; home = serves.home; works = passed.back.works }))

-- ---- of a run

named : (w : Wish) → IsNamed (asked_by w)
named w = record { address = omega arith; app = omega arith; name = omega arith }

room_of : (who : ℕ) (p : SoleState) (s : SessionState SeenState) (m : MemLinkState) → Serves who p s m → sole_rules p.rules ≡ rules
    → HaveRoom max_message (journal_at p.books 0) → HaveRoom max_message s.parts.calls
room_of who p s m v r room =
    calls_room max_message shape s.parts.calls (journal_at p.books 0) (one_place s.seat p s.parts.calls v.home.none r v.at.calls v.visits v.at.fit) room

pub player_lasts : SessionLaw → DecidedLaw → (file : List Tag) (old now : Option (List ℕ)) (r : Run) → IsRun file r old now → SessionEnds r.port r.pull → ⊥
player_lasts law decided file old now r h =
    never_ends law decided player puller (named Pull) r.pull.client.parts.gave (gifts_of r.pull.client.parts) r.pull.client.parts.outgoing.pending r.port r.pull
    (side_of puller r.pull.client r.pull.near h.pulls) h.pull_passed h.plays

-- what the client that publishes was fed and given
record Side (c : ClientState) (m : MemLinkState) : Type 0 where
  given : List Gave
  gifts : List Gift
  more : List ℕ
  side : ClientSide pusher m given gifts more

runs_side : (c : ClientState) (m : MemLinkState) → ClientRuns pusher c m → Side c m
runs_side c m r = record { given = c.parts.gave; gifts = gifts_of c.parts; more = c.parts.outgoing.pending; side = side_of pusher c m r }

pushes_side : (stage : Stage) (file queue : List Tag) (c : ClientState) (m : MemLinkState) → PushesOf stage file queue c m → Side c m
pushes_side Giving file queue c m h = runs_side c m h.0
pushes_side Finishing file queue c m h = runs_side c m h.0
pushes_side Done file queue c m h = record { given = h.0; gifts = h.1; more = []; side = h.2 }

-- what each client asks is granted by the desk
grants_to : (w : Wish) → granted (asking_of (asked_by w)) ≡ grant.Place 0
grants_to w = refl

-- the calls of both sessions, where both have said what they owe
module _ (once : OnceLaw) (file : List Tag) (old now : Option (List ℕ)) (r : Run) (rule : sole_rules r.port.rules ≡ rules) (h : IsRun file r old now)
    (plays : IsWhole granted r.pull.session.parts) (publishes : IsWhole granted r.push.session.parts) (room : HaveRoom max_message (journal_at r.port.books 0))
  where
    abbrev C : List Own
    C = r.pull.session.parts.calls

    abbrev D : List Own
    D = r.push.session.parts.calls

    plays_room : HaveRoom max_message C
    plays_room = room_of player r.port r.pull.session r.pull.far h.plays rule room

    publishes_room : HaveRoom max_message D
    publishes_room = room_of publisher r.port r.push.session r.push.far h.publishes rule room

    pull_opens : Opens Pull C
    pull_opens =
        line_opens player puller (named Pull) r.port r.pull h.pull_passed h.plays plays plays_room (grants_to Pull) once r.pull.client.parts.gave
        (gifts_of r.pull.client.parts) r.pull.client.parts.outgoing.pending (side_of puller r.pull.client r.pull.near h.pulls)

    push_opens : Opens Push D
    push_opens =
        let d = pushes_side r.stage file r.tags.items r.push.client r.push.near h.pushes in
        line_opens publisher pusher (named Push) r.port r.push h.push_passed h.publishes publishes publishes_room (grants_to Push) once d.given d.gifts
        d.more d.side

    played : SeatStandIn shape (reverse C) (reverse (journal_at r.port.books 0))
    played = one_place r.pull.session.seat r.port C h.plays.home.none rule h.plays.at.calls h.plays.visits h.plays.at.fit

    published : SeatStandIn shape (reverse D) (reverse (journal_at r.port.books 0))
    published = one_place r.push.session.seat r.port D h.publishes.home.none rule h.publishes.at.calls h.publishes.visits h.publishes.at.fit

    calls_count : (f : Reply → Bool) (E : List Own) (visits : List Visit) → E ≡ calls_of visits → how_many f E ≡ how_many f (steps_of visits)
    calls_count f E visits e = ap (how_many f) e ∙ many_reverse f (steps_of visits)

    counted : (f : Reply → Bool) → how_many f (journal_at r.port.books 0) ≡ how_many f C + how_many f D
    counted f = omega (
      arith,
      h.mixed f,
      calls_count f C r.pull.session.seat.visits h.plays.at.calls,
      calls_count f D r.push.session.seat.visits h.publishes.at.calls,
    )

    -- THE STREAM'S CALLS ARE THEIRS
    pub are_both : AreBoth (journal_at r.port.books 0) D C
    are_both = record {
      theirs = λ f n. omega (arith, counted f);
      rest = push_opens.rest;
      begins = push_opens.opened;
      more = pull_opens.rest;
      joins = pull_opens.opened;
    }

    player_granted : AreGranted C
    player_granted = pull_granted (journal_at r.port.books 0) C D played published counted pull_opens.rest push_opens.rest pull_opens.opened push_opens.opened

    publisher_granted : AreGranted D
    publisher_granted =
        push_granted (journal_at r.port.books 0) D C published played (λ f. omega (arith, counted f)) push_opens.rest pull_opens.rest push_opens.opened
        pull_opens.opened

    pub pull_lasts : ClientLaw → (e : ClientEnd) → is_failure e ≡ true → ClientEnds r.pull e → ⊥
    pull_lasts law e f ends =
        never_failed player puller (named Pull) r.port r.pull h.pull_passed h.plays plays plays_room (grants_to Pull) law h.pulls player_granted e ends f

    pub push_lasts : ClientLaw → has_sent r.stage ≡ false → (e : ClientEnd) → is_failure e ≡ true → ClientEnds r.push e → ⊥
    push_lasts law lives e f ends =
        never_failed publisher pusher (named Push) r.port r.push h.push_passed h.publishes publishes publishes_room (grants_to Push) law
        (pushes_runs r.stage file r.tags.items r.push.client r.push.near lives h.pushes) publisher_granted e ends f

pub publisher_lasts : SessionLaw → DecidedLaw → (file : List Tag) (old now : Option (List ℕ)) (r : Run) → IsRun file r old now → SessionEnds r.port r.push → ⊥
publisher_lasts law decided file old now r h =
    let d = pushes_side r.stage file r.tags.items r.push.client r.push.near h.pushes in
    never_ends law decided publisher pusher (named Push) d.given d.gifts d.more r.port r.push d.side h.push_passed h.publishes

-- one that plays is never finished
never_finished : (T : List Gave) → T ≡ [] → is_finished T ≡ true → ⊥
unfolding Rattle.client_owed.specs.Standing.is_finished
never_finished [] e f = cc
never_finished (g ∷ T) e f = absurd cc

pub pull_goes_on : (file : List Tag) (old now : Option (List ℕ)) (r : Run) (d : ClientState) (m : MemLinkState) → IsRun file r old now
    → ClientGoes false puller r.pull.client d m → ⊥
pull_goes_on file old now r d m h g = never_finished r.pull.client.parts.gave h.gave_none g.1

-- what is known of a session that a turn of its client left
pub same_whole : (s t : SessionState SeenState) → t ≡ s → StandsFor granted s → (StandsFor granted t → IsWhole granted t.parts) → IsWhole granted s.parts
same_whole s t e h f = subst (λ (x : SessionState SeenState). IsWhole granted x.parts) e (f (subst (StandsFor granted) (sym e) h))

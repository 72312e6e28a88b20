-- What the answer of a turn says follows from what the turn did
use Rattle.std.proofs.Common.{◌≡◌, ℕ, ◌≤◌, Bool, true, false, List, [], ◌∷◌, ◌++◌, length, Option, Some, None, refl, sym, ap, ◌∙◌, subst}
use Rattle.std.specs.declared.result.Result.{Result}
use Rattle.std.specs.declared.result.Result.TheVariants.{Ok, Err}
use Rattle.relay_outside.specs.declared.sink.Put.{Put}
use Rattle.relay_outside.specs.declared.sink.Put.TheVariants as put
use Rattle.av_unit.specs.declared.item.Item.{Item}
use Rattle.stream_model.specs.declared.calls.Shape.{Shape}
use Rattle.stream_model.specs.declared.calls.Entry.{Entry}
use Rattle.stream_model.specs.declared.calls.Call.TheVariants as call
use Rattle.stream_model.specs.declared.replies.Reply.{Reply}
use Rattle.stream_model.specs.declared.replies.Reply.TheVariants as reply
use Rattle.stream_registry.specs.declared.port.PortFail.{PortFail}
use Rattle.stream_registry.specs.declared.port.PortFail.TheVariants as fail
use Rattle.stream_registry.specs.Names.{PortRules}
use Rattle.stream_registry.specs.Told.{Step, Histories, Rose}
use Rattle.media_recorder.specs.declared.turn.RecEnd.{RecEnd}
use Rattle.media_recorder.specs.declared.turn.RecTurn.{RecTurn}
use Rattle.media_recorder.specs.declared.turn.RecTurn.TheVariants.{Moved, Idle, Busy, Ended}
use Rattle.media_recorder.specs.Ports.{mine_of}
use Rattle.media_recorder.specs.Seats.{SeatState, Asks, AskedIf, entry_of}
use Rattle.media_recorder.specs.Tapes.{TapeState}
use Rattle.media_recorder.specs.Turns.{RecorderState, all, is_empty, GoesOn, Stops, PutEnds, Unmade, Joins, JoinEnds, Writing, Takes, TakeEnds, Calls, Works}
use Rattle.media_recorder.specs.Says.{Rests, Says}
use Rattle.media_recorder.proofs.Standing.{begins_length}

empty_is : (bs : List ℕ) → is_empty bs ≡ true → bs ≡ []
empty_is [] e = refl
empty_is (b ∷ bs) e = cc

module _ {Q : Type 0} (seen : Q → List Step) (mine : Q → List ℕ) (count : Q → ℕ) (limits : Shape) (root : List Step) (busies busies' : ℕ) where
  pub record IsLast (pass : Option Q) : Type 0 where
    pub numbers : List ℕ
    pub number : ℕ
    pub mine_are : mine_of mine pass ≡ numbers ++ number ∷ []
    pub after_all : length root ≤ number

  is_last : (entry : Entry) (before : Option Q) (r : Reply) (pass : Option Q) → AskedIf seen mine count limits root busies busies' entry before (Ok r) pass → IsLast pass
  is_last entry before r None a = absurd a
  is_last entry before r (Some p) a = record {
    numbers = mine_of mine before;
    number = length a.made.before;
    mine_are = a.made.mine_is;
    after_all = begins_length root a.made.before a.made.root_first;
  }

  rose : (entry : Entry) (before : Option Q) (e : Entry) (pass : Option Q) → AskedIf seen mine count limits root busies busies' entry before (Err (fail.Busy e)) pass → Rose busies busies'
  rose entry before e None a = absurd a
  rose entry before e (Some p) a = a.failed.1

  Goal : RecTurn → RecorderState Q → Type 0
  Goal turn r = Says mine root busies busies' turn r

  moved : (turn : RecTurn) (r : RecorderState Q) → GoesOn Moved turn r.end → Goal turn r
  unfolding Goal
  moved turn r g = subst (λ (t : RecTurn). Says mine root busies busies' t r) (sym g.0) g.1

  stops : (e : RecEnd) (turn : RecTurn) (r : RecorderState Q) → Stops e turn r.end → Goal turn r
  unfolding Goal
  stops e turn r g = subst (λ (t : RecTurn). Says mine root busies busies' t r) (sym g.0) g.1

  unmade : (entry : Entry) (before : Option Q) (f : PortFail) (turn : RecTurn) (r : RecorderState Q) → AskedIf seen mine count limits root busies busies' entry before (Err f) r.seat.pass → Unmade f turn r.end → Goal turn r
  unfolding Goal
  unmade entry before (fail.Busy e) turn r a u = subst (λ (t : RecTurn). Says mine root busies busies' t r) (sym u.0) (u.1, rose entry before e r.seat.pass a)
  unmade entry before (fail.Worn e) turn r a u = stops _ turn r u
  unmade entry before (fail.OutOfMemory e) turn r a u = stops _ turn r u

  put_says : (answer : Put) (t : TapeState) (turn : RecTurn) (r : RecorderState Q) → PutEnds answer t turn r.tape r.end → Goal turn r
  put_says (put.Took n) t turn r p = moved turn r p.0
  put_says put.Failed t turn r p = stops _ turn r p.0
  put_says put.OutOfMemory t turn r p = stops _ turn r p.0

  joins : (x : Reply) (turn : RecTurn) (r : RecorderState Q) → Joins x turn r.player r.end → Goal turn r
  joins (reply.Joined place from) turn r j = moved turn r j.0
  joins reply.Full turn r j = stops _ turn r j.0
  joins _ turn r j = moved turn r j.0

  join_says : (s : SeatState Q) (answer : Result Reply PortFail) (turn : RecTurn) (r : RecorderState Q) → Asks seen mine count limits root busies busies' s call.Join answer r.seat → JoinEnds answer turn r.player r.end → Goal turn r
  join_says s (Ok x) turn r a j = joins x turn r j
  join_says s (Err f) turn r a j = unmade (entry_of s.who call.Join) s.pass f turn r a.asked j.0

  writes : (t : TapeState) (item : Item) (turn : RecTurn) (r : RecorderState Q) → Writing t item turn r.tape r.end → Goal turn r
  unfolding Goal
  writes t item Moved r w = w.0
  writes t item (Ended e) r w = w.1 ∙ ap Some (sym w.0)
  writes t item Idle r w = absurd w
  writes t item Busy r w = absurd w

  idle : (player last : ℕ) (s : SeatState Q) (t : TapeState) (turn : RecTurn) (r : RecorderState Q) → t.pending ≡ [] → Asks seen mine count limits root busies busies' s (call.Take player all) (Ok (reply.NotYet last)) r.seat
      → GoesOn Idle turn r.end → r.tape ≡ t → Goal turn r
  unfolding Goal
  idle player last s t turn r none a g same =
      let l : IsLast r.seat.pass = is_last (entry_of s.who (call.Take player all)) s.pass (reply.NotYet last) r.seat.pass a.asked in
      let who : entry_of s.who (call.Take player all) ≡ entry_of r.seat.who (call.Take player all) = ap (λ (w : ℕ). entry_of w (call.Take player all)) (sym a.who) in
      let rests : Rests mine root r = record {
        drained = ap (λ (x : TapeState). x.pending) same ∙ none;
        earlier = s.calls;
        player = player;
        last = last;
        calls_are = a.calls ∙ ap (λ (e : Entry). s.calls ++ (e, reply.NotYet last) ∷ []) who;
        numbers = l.numbers;
        number = l.number;
        mine_are = l.mine_are;
        after_all = l.after_all;
      } in
      subst (λ (x : RecTurn). Says mine root busies busies' x r) (sym g.0) (g.1, rests)

  takes : (player : ℕ) (s : SeatState Q) (t : TapeState) (x : Reply) (turn : RecTurn) (r : RecorderState Q) → t.pending ≡ [] → Asks seen mine count limits root busies busies' s (call.Take player all) (Ok x) r.seat → Takes x t turn r.tape r.end → Goal turn r
  takes player s t (reply.Sent from n item) turn r none a k = writes t item turn r k
  takes player s t (reply.NotYet last) turn r none a k = idle player last s t turn r none a k.0 k.1
  takes player s t _ turn r none a k = moved turn r k.0

  take_says : (player : ℕ) (s : SeatState Q) (t : TapeState) (answer : Result Reply PortFail) (turn : RecTurn) (r : RecorderState Q) → t.pending ≡ [] → Asks seen mine count limits root busies busies' s (call.Take player all) answer r.seat → TakeEnds answer t turn r.tape r.end → Goal turn r
  take_says player s t (Ok x) turn r none a k = takes player s t x turn r none a k
  take_says player s t (Err f) turn r none a k = unmade (entry_of s.who (call.Take player all)) s.pass f turn r a.asked k.0

module _ {P Q K : Type 0} (rules : P → PortRules) (root : P → Histories) (busies : P → ℕ) (seen : Q → List Step) (mine : Q → List ℕ) (count : Q → ℕ) (takes_by : K → List ℕ → Put → K → Type 0) (port port' : P) (sink sink' : K) (r : RecorderState Q) (turn : RecTurn) (r' : RecorderState Q) where
  -- the answer of a call, by the player's place
  calls_say : (player : Option ℕ) → is_empty r.tape.pending ≡ true → Calls rules root busies seen mine count player port port' r turn r' → Says mine (root port r.seat.place) (busies port) (busies port') turn r'
  unfolding Goal
  calls_say None e c = join_says seen mine count ((rules port).limits r.seat.place) (root port r.seat.place) (busies port) (busies port') r.seat c.answer turn r' c.asks c.ends
  calls_say (Some player) e c = take_says seen mine count ((rules port).limits r.seat.place) (root port r.seat.place) (busies port) (busies port') player r.seat r.tape c.answer turn r' (empty_is r.tape.pending e) c.asks c.ends

  pub works_say : (b : Bool) → is_empty r.tape.pending ≡ b → Works rules root busies seen mine count takes_by b port port' sink sink' r turn r' → Says mine (root port r.seat.place) (busies port) (busies port') turn r'
  unfolding Goal
  works_say false e w = put_says seen mine count ((rules port).limits r.seat.place) (root port r.seat.place) (busies port) (busies port') w.answer r.tape turn r' w.ends
  works_say true e w = calls_say r.player e w.0

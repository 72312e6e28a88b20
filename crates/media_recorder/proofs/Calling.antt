-- What a recorder that ended early had called
use Rattle.std.proofs.Common.{◌≡◌, ◌≢◌, ℕ, ◌^◌, List, [], ◌∷◌, ◌++◌, Option, Some, None, refl, sym, ap, ◌∙◌, subst}
use Rattle.std.proofs.lemmas.List.{append-nil}
use Rattle.std.proofs.lemmas.List.Concat.{flat_map-append}
use Rattle.std.specs.declared.result.Result.{Result}
use Rattle.std.specs.declared.result.Result.TheVariants.{Ok, Err}
use Rattle.relay_outside.specs.declared.sink.Put.{Put}
use Rattle.relay_outside.specs.declared.sink.Put.TheVariants as put
use Rattle.av_unit.specs.declared.item.Item.{Item}
use Rattle.stream_model.specs.declared.calls.Shape.{Shape}
use Rattle.stream_model.specs.declared.calls.Call.TheVariants as call
use Rattle.stream_model.specs.declared.calls.Entry.{Entry}
use Rattle.stream_model.specs.declared.replies.Reply.{Reply}
use Rattle.stream_model.specs.declared.replies.Reply.TheVariants as reply
use Rattle.stream_registry.specs.declared.port.PortFail.{PortFail}
use Rattle.stream_registry.specs.declared.port.PortFail.TheVariants as fail
use Rattle.stream_registry.specs.Names.{PortRules}
use Rattle.stream_registry.specs.Told.{Step, Histories}
use Rattle.media_recorder.specs.declared.turn.RecEnd.{RecEnd}
use Rattle.media_recorder.specs.declared.turn.RecEnd.TheVariants as end
use Rattle.media_recorder.specs.declared.turn.RecTurn.{RecTurn}
use Rattle.media_recorder.specs.declared.turn.RecTurn.TheVariants.{Moved, Idle, Busy, Ended}
use Rattle.media_recorder.specs.Seats.{SeatState, AskedIf, calls_after, entry_of}
use Rattle.media_recorder.specs.Taken.{item_at, taken}
use Rattle.media_recorder.specs.Tallied.{HasSeen, IsTurnedAway}
use Rattle.media_recorder.specs.Tapes.{TapeState}
use Rattle.media_recorder.specs.Turns.{RecorderState, all, PutEnds, Unmade, Joins, JoinEnds, Writing, Takes, TakeEnds, Puts, Calls}

-- ---- ends that no answer of the stream brings

abbrev Unasked : Option RecEnd → Type 0
Unasked end' = (end' ≢ Some end.Full) × (end' ≢ Some end.Worn)

live : (end' : Option RecEnd) → end' ≡ None → Unasked end'
live end' n = (λ is. let e : None ≡ Some end.Full = sym n ∙ is in cc, λ is. let e : None ≡ Some end.Worn = sym n ∙ is in cc)

faulty : (end' : Option RecEnd) → end' ≡ Some end.SinkFault → Unasked end'
faulty end' n = (λ is. let e : Some end.SinkFault ≡ Some end.Full = sym n ∙ is in cc, λ is. let e : Some end.SinkFault ≡ Some end.Worn = sym n ∙ is in cc)

starved : (end' : Option RecEnd) → end' ≡ Some end.OutOfMemory → Unasked end'
starved end' n = (λ is. let e : Some end.OutOfMemory ≡ Some end.Full = sym n ∙ is in cc, λ is. let e : Some end.OutOfMemory ≡ Some end.Worn = sym n ∙ is in cc)

put_unasked : (answer : Put) (t : TapeState) (turn : RecTurn) (t' : TapeState) (end' : Option RecEnd) → PutEnds answer t turn t' end' → Unasked end'
put_unasked (put.Took n) t turn t' end' p = live end' p.0.1
put_unasked put.Failed t turn t' end' p = faulty end' p.0.1
put_unasked put.OutOfMemory t turn t' end' p = starved end' p.0.1

writing_unasked : (t : TapeState) (item : Item) (turn : RecTurn) (t' : TapeState) (end' : Option RecEnd) → Writing t item turn t' end' → Unasked end'
writing_unasked t item Moved t' end' w = live end' w.0
writing_unasked t item (Ended e) t' end' w = starved end' w.1
writing_unasked t item Idle t' end' w = absurd w
writing_unasked t item Busy t' end' w = absurd w

takes_unasked : (x : Reply) (t : TapeState) (turn : RecTurn) (t' : TapeState) (end' : Option RecEnd) → Takes x t turn t' end' → Unasked end'
takes_unasked (reply.Sent from n item) t turn t' end' k = writing_unasked t item turn t' end' k
takes_unasked (reply.NotYet last) t turn t' end' k = live end' k.0.1
takes_unasked _ t turn t' end' k = live end' k.0.1

-- ---- Full comes of its Join alone

unmade_full : (f : PortFail) (turn : RecTurn) (end' : Option RecEnd) → Unmade f turn end' → end' ≢ Some end.Full
unmade_full (fail.Busy e) turn end' u = (live end' u.1).0
unmade_full (fail.Worn e) turn end' u = λ is. let n : Some end.Worn ≡ Some end.Full = sym u.1 ∙ is in cc
unmade_full (fail.OutOfMemory e) turn end' u = (starved end' u.1).0

take_full : (answer : Result Reply PortFail) (t : TapeState) (turn : RecTurn) (t' : TapeState) (end' : Option RecEnd) → TakeEnds answer t turn t' end' → end' ≢ Some end.Full
take_full (Ok x) t turn t' end' k = (takes_unasked x t turn t' end' k).0
take_full (Err f) t turn t' end' k = unmade_full f turn end' k.0

joins_full : (who : ℕ) (x : Reply) (calls calls' : List Step) (turn : RecTurn) (player' : Option ℕ) (end' : Option RecEnd) → Joins x turn player' end' → calls' ≡ calls ++ (entry_of who call.Join, x) ∷ []
    → taken calls' ≡ [] → end' ≡ Some end.Full → (player' ≡ None) × IsTurnedAway who calls'
joins_full who (reply.Joined place from) calls calls' turn player' end' j e none is = absurd ((live end' j.0.1).0 is)
joins_full who reply.Full calls calls' turn player' end' j e none is = (j.1, record { earlier = calls; calls_are = e; nothing = none })
joins_full who _ calls calls' turn player' end' j e none is = absurd ((live end' j.0.1).0 is)

join_full : (who : ℕ) (answer : Result Reply PortFail) (calls calls' : List Step) (turn : RecTurn) (player' : Option ℕ) (end' : Option RecEnd) → JoinEnds answer turn player' end'
    → calls' ≡ calls_after calls (entry_of who call.Join) answer → taken calls' ≡ [] → end' ≡ Some end.Full → (player' ≡ None) × IsTurnedAway who calls'
join_full who (Ok x) calls calls' turn player' end' j e none is = joins_full who x calls calls' turn player' end' j e none is
join_full who (Err f) calls calls' turn player' end' j e none is = absurd (unmade_full f turn end' j.0 is)

-- a Join is sent no item
pub taken_join : (who : ℕ) (answer : Result Reply PortFail) (calls : List Step) → taken (calls_after calls (entry_of who call.Join) answer) ≡ taken calls
taken_join who (Ok x) calls = flat_map-append (λ (s : Step). item_at s.0.call s.1) calls ((entry_of who call.Join, x) ∷ []) ∙ append-nil (taken calls)
taken_join who (Err f) calls = refl

-- ---- Worn comes of a full history

joins_worn : (x : Reply) (turn : RecTurn) (player' : Option ℕ) (end' : Option RecEnd) → Joins x turn player' end' → end' ≢ Some end.Worn
joins_worn (reply.Joined place from) turn player' end' j = (live end' j.0.1).1
joins_worn reply.Full turn player' end' j = λ is. let n : Some end.Full ≡ Some end.Worn = sym j.0.1 ∙ is in cc
joins_worn _ turn player' end' j = (live end' j.0.1).1

module _ {Q : Type 0} (seen : Q → List Step) (mine : Q → List ℕ) (count : Q → ℕ) (limits : Shape) (root : List Step) (busies busies' : ℕ) (entry : Entry) (before : Option Q) where
  seen_all : (e : Entry) (pass : Option Q) → AskedIf seen mine count limits root busies busies' entry before (Err (fail.Worn e)) pass → HasSeen count (2 ^ 62) pass
  seen_all e None a = absurd a
  seen_all e (Some p) a = a.failed.1

  unmade_worn : (f : PortFail) (turn : RecTurn) (end' : Option RecEnd) (pass : Option Q) → AskedIf seen mine count limits root busies busies' entry before (Err f) pass → Unmade f turn end'
      → end' ≡ Some end.Worn → HasSeen count (2 ^ 62) pass
  unmade_worn (fail.Busy e) turn end' pass a u is = absurd ((live end' u.1).1 is)
  unmade_worn (fail.Worn e) turn end' pass a u is = seen_all e pass a
  unmade_worn (fail.OutOfMemory e) turn end' pass a u is = absurd ((starved end' u.1).1 is)

  join_worn : (answer : Result Reply PortFail) (turn : RecTurn) (player' : Option ℕ) (end' : Option RecEnd) (pass : Option Q)
      → AskedIf seen mine count limits root busies busies' entry before answer pass → JoinEnds answer turn player' end' → end' ≡ Some end.Worn → HasSeen count (2 ^ 62) pass
  join_worn (Ok x) turn player' end' pass a j is = absurd (joins_worn x turn player' end' j is)
  join_worn (Err f) turn player' end' pass a j is = unmade_worn f turn end' pass a j.0 is

  take_worn : (answer : Result Reply PortFail) (t : TapeState) (turn : RecTurn) (t' : TapeState) (end' : Option RecEnd) (pass : Option Q)
      → AskedIf seen mine count limits root busies busies' entry before answer pass → TakeEnds answer t turn t' end' → end' ≡ Some end.Worn → HasSeen count (2 ^ 62) pass
  take_worn (Ok x) t turn t' end' pass a k is = absurd ((takes_unasked x t turn t' end' k).1 is)
  take_worn (Err f) t turn t' end' pass a k is = unmade_worn f turn end' pass a k.0 is

-- ---- the turn's

-- what a tally says of a recorder's calls
pub record HasCalled {Q : Type 0} (count : Q → ℕ) (r : RecorderState Q) : Type 0 where
  pub unjoined : r.player ≡ None → taken r.seat.calls ≡ []
  pub full : r.end ≡ Some end.Full → (r.player ≡ None) × IsTurnedAway r.seat.who r.seat.calls
  pub worn : r.end ≡ Some end.Worn → HasSeen count (2 ^ 62) r.seat.pass

module _ {P Q : Type 0} (rules : P → PortRules) (root : P → Histories) (busies : P → ℕ) (seen : Q → List Step) (mine : Q → List ℕ) (count : Q → ℕ) (port port' : P) where
  pub has_called : (player : Option ℕ) (r : RecorderState Q) (turn : RecTurn) (r' : RecorderState Q) → r.player ≡ player → Calls rules root busies seen mine count player port port' r turn r'
      → (r.player ≡ None → taken r.seat.calls ≡ []) → HasCalled count r'
  has_called None r turn r' is c none =
      let a = c.asks in
      let still : taken r'.seat.calls ≡ [] = ap (λ (l : List Step). taken l) a.calls ∙ (taken_join r.seat.who c.answer r.seat.calls ∙ none is) in
      record {
        unjoined = λ n. still;
        full = λ e.
            let f = join_full r.seat.who c.answer r.seat.calls r'.seat.calls turn r'.player r'.end c.ends a.calls still e in
            (f.0, subst (λ (w : ℕ). IsTurnedAway w r'.seat.calls) (sym a.who) f.1);
        worn = λ e. join_worn seen mine count ((rules port).limits r.seat.place) (root port r.seat.place) (busies port) (busies port') (entry_of r.seat.who call.Join) r.seat.pass
            c.answer turn r'.player r'.end r'.seat.pass a.asked c.ends e;
      }
  has_called (Some player) r turn r' is c none =
      record {
        unjoined = λ n. absurd (let f : Some player ≡ None = sym is ∙ (sym c.player_is ∙ n) in cc);
        full = λ e. absurd (take_full c.answer r.tape turn r'.tape r'.end c.ends e);
        worn = λ e. take_worn seen mine count ((rules port).limits r.seat.place) (root port r.seat.place) (busies port) (busies port') (entry_of r.seat.who (call.Take player all)) r.seat.pass
            c.answer r.tape turn r'.tape r'.end r'.seat.pass c.asks.asked c.ends e;
      }

  pub has_put : {K : Type 0} (takes : K → List ℕ → Put → K → Type 0) (sink sink' : K) (r : RecorderState Q) (turn : RecTurn) (r' : RecorderState Q) → Puts takes port port' sink sink' r turn r'
      → (r.player ≡ None → taken r.seat.calls ≡ []) → HasCalled count r'
  has_put takes sink sink' r turn r' w none =
      let u = put_unasked w.answer r.tape turn r'.tape r'.end w.ends in
      record {
        unjoined = λ n. ap (λ (s : SeatState Q). taken s.calls) w.seat_is ∙ none (sym w.player_is ∙ n);
        full = λ e. absurd (u.0 e);
        worn = λ e. absurd (u.1 e);
      }

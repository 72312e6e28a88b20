-- A turn of a recorder in two runs
use Rattle.std.proofs.Common.{inl, inr, ◌≡◌, ◌≢◌, ◌<◌, ◌^◌, ℕ, Bool, true, false, List, [], ◌∷◌, ◌++◌, length, take, reverse, Option, Some, None, Result, Ok}
use Rattle.std.proofs.Common.{Err, refl, sym, ap, ◌∙◌, subst, arith, append-nil, length-append}
use Rattle.std.proofs.lemmas.Bool.{cases_eq}
use Rattle.std.proofs.lemmas.List.{append_cancel_left}
use Rattle.av_unit.specs.declared.item.Item.{Item}
use Rattle.relay_outside.specs.Counts.{risen as file_risen}
use Rattle.relay_outside.specs.declared.sink.Put.{Put}
use Rattle.relay_outside.specs.declared.sink.Put.TheVariants as put
use Rattle.stream_model.specs.Shape.{shape_reply}
use Rattle.stream_model.specs.declared.calls.Call.{Call}
use Rattle.stream_model.specs.declared.calls.Call.TheVariants as call
use Rattle.stream_model.specs.declared.calls.Entry.{Entry}
use Rattle.stream_model.specs.declared.replies.Reply.{Reply}
use Rattle.stream_model.specs.declared.replies.Reply.TheVariants as reply
use Rattle.stream_registry.specs.Books.{SoleState, SeenState, FitsSole, journal_at, sole_rules}
use Rattle.stream_registry.specs.Placed.{answered as answered_step}
use Rattle.stream_registry.specs.Told.{Step, risen}
use Rattle.stream_registry.specs.declared.port.PortFail.{PortFail}
use Rattle.stream_registry.specs.declared.port.PortFail.TheVariants as fail
use Rattle.turn_gate.specs.Histories.{Begins}
use Rattle.media_recorder.specs.Ports.{FitsIf}
use Rattle.media_recorder.specs.Seats.{AskedIf, SeatState as RecSeat, calls_after, entry_of}
use Rattle.media_recorder.specs.Taken.{taken}
use Rattle.media_recorder.specs.Tapes.{TapeState}
use Rattle.media_recorder.specs.Turns.{AsksAt, Calls, JoinEnds, Joins, JoinsAt, PutEnds, RecorderState, TakeEnds, Takes, TakesAt, Turns, Works, Writing, all}
use Rattle.media_recorder.specs.Turns.{is_empty}
use Rattle.media_recorder.specs.declared.turn.RecEnd.{RecEnd}
use Rattle.media_recorder.specs.declared.turn.RecEnd.TheVariants as rec_end
use Rattle.media_recorder.specs.declared.turn.RecTurn.{RecTurn}
use Rattle.media_recorder.specs.declared.turn.RecTurn.TheVariants as rec
use Rattle.relay_script.specs.declared.replay.Form.{Form}
use Rattle.turn_law.specs.Twins.{HasRoom, SamePort}
use Rattle.turn_law.proofs.Calls.{between_is, grown_same, reply_by, reply_same}
use Rattle.relay_replay.specs.Cast.{AfterRecTurn, HasRecMemory, OneAsk, RecState, RecorderTurn, ServesAt, text_in}
use Rattle.relay_replay.specs.Files.{FileState, FileTakes}
use Rattle.replay_law.proofs.Alike.{SameRec}

-- ---- one call

abbrev ok_of : Reply → Result Reply PortFail
ok_of r = Ok r

-- the call of a recorder in a turn, at the streams of one thread
abbrev SoleCalls : SoleState → SoleState → RecSeat SeenState → Call → Result Reply PortFail → RecSeat SeenState → Type 0
SoleCalls = AsksAt (λ (s : SoleState). sole_rules s.rules) (λ s. journal_at s.books) (λ _. 0) (λ (p : SeenState). p.seen) (λ p. p.mine) (λ p. length p.seen)

abbrev SoleJoins : SoleState → SoleState → RecorderState SeenState → RecTurn → RecorderState SeenState → Type 0
SoleJoins = JoinsAt (λ (s : SoleState). sole_rules s.rules) (λ s. journal_at s.books) (λ _. 0) (λ (p : SeenState). p.seen) (λ p. p.mine) (λ p. length p.seen)

abbrev SoleTakes : ℕ → SoleState → SoleState → RecorderState SeenState → RecTurn → RecorderState SeenState → Type 0
SoleTakes = TakesAt (λ (s : SoleState). sole_rules s.rules) (λ s. journal_at s.books) (λ _. 0) (λ (p : SeenState). p.seen) (λ p. p.mine) (λ p. length p.seen)

abbrev SoleCallsBy : Option ℕ → SoleState → SoleState → RecorderState SeenState → RecTurn → RecorderState SeenState → Type 0
SoleCallsBy = Calls (λ (s : SoleState). sole_rules s.rules) (λ s. journal_at s.books) (λ _. 0) (λ (p : SeenState). p.seen) (λ p. p.mine) (λ p. length p.seen)

abbrev SoleWorks : Bool → SoleState → SoleState → FileState → FileState → RecorderState SeenState → RecTurn → RecorderState SeenState → Type 0
SoleWorks = Works (λ (s : SoleState). sole_rules s.rules) (λ s. journal_at s.books) (λ _. 0) (λ (p : SeenState). p.seen) (λ p. p.mine)
    (λ p. length p.seen) FileTakes

abbrev RecTurnsAt : Option RecEnd → SoleState → SoleState → FileState → FileState → RecorderState SeenState → RecTurn → RecorderState SeenState → Type 0
RecTurnsAt = Turns (λ (s : SoleState). sole_rules s.rules) (λ s. journal_at s.books) (λ _. 0) (λ (p : SeenState). p.seen) (λ p. p.mine)
    (λ p. length p.seen) FileTakes

-- memory was not wanting
abbrev HasAnswer : Result Reply PortFail → Type 0
HasAnswer (Ok r) = Unit {0}
HasAnswer (Err (fail.Busy e)) = Unit {0}
HasAnswer (Err (fail.Worn e)) = Unit {0}
HasAnswer (Err (fail.OutOfMemory e)) = ⊥

-- what the rules answer it
abbrev rec_reply : SoleState → RecSeat SeenState → Call → Reply
rec_reply x s c = reply_by x s.place (entry_of s.who c)

-- exactly it came to the history of its place
pub record Came (x : SoleState) (s : RecSeat SeenState) (c : Call) (y : SoleState) : Type 0 where
  pub here : journal_at y.books s.place ≡ journal_at x.books s.place ++ (entry_of s.who c, rec_reply x s c) ∷ []
  pub elsewhere : (q : ℕ) → q ≢ s.place → journal_at y.books q ≡ journal_at x.books q ++ []
  pub rules : sole_rules y.rules ≡ sole_rules x.rules

pushed_not : (xs : List Step) (s : Step) → xs ++ s ∷ [] ≡ xs → ⊥
pushed_not xs s e = omega (arith, ap length e, length-append xs (s ∷ []))

no_more : (xs : List Step) (s : Step) (o : Result Reply PortFail) (e : Entry) → xs ++ s ∷ [] ≡ calls_after xs e o → answered_step e o ≡ s ∷ []
no_more xs s (Ok r) e is = sym (append_cancel_left xs (s ∷ []) ((e, r) ∷ []) is)
no_more xs s (Err f) e is = absurd (pushed_not xs s is)

-- it came to the history
added : (x y : SoleState) (s s' : RecSeat SeenState) (step : Step) → s'.calls ≡ s.calls ++ step ∷ [] → OneAsk x y s s'
    → journal_at y.books s.place ≡ journal_at x.books s.place ++ step ∷ []
added x y s s' step e (inl a) = absurd (pushed_not s.calls step (sym e ∙ ap (λ (z : RecSeat SeenState). z.calls) a.1))
added x y s s' step e (inr (c, (o, k))) = k.history ∙ ap (λ (l : List Step). journal_at x.books s.place ++ l)
    (no_more s.calls step o (entry_of s.who c) (sym e ∙ k.calls))

busy_not : 0 ≡ risen 0 → ⊥
busy_not t = omega (arith, t)

module _ (x y : SoleState) (s s' : RecSeat SeenState) (c : Call) (serves : ServesAt s.place x y) (alone : OneAsk x y s s')
    (fits : FitsIf (FitsSole y s'.place) s'.pass) (place : s'.place ≡ s.place) (room : HasRoom y) where
  reply_at : (r : Reply) (o : Option SeenState) → FitsIf (FitsSole y s'.place) o → s'.calls ≡ s.calls ++ (entry_of s.who c, r) ∷ []
      → AskedIf (λ (p : SeenState). p.seen) (λ p. p.mine) (λ p. length p.seen) ((sole_rules x.rules).limits s.place) (journal_at x.books s.place) 0 0
      (entry_of s.who c) s.pass (Ok r) o → r ≡ rec_reply x s c
  reply_at r None f k a = absurd a
  reply_at r (Some p) f k a =
      let h : List Step = journal_at x.books s.place in
      let step : Step = (entry_of s.who c, r) in
      let m = a.made in
      let here : journal_at y.books s.place ≡ h ++ step ∷ [] = added x y s s' step k alone in
      let seen : Begins p.seen (journal_at y.books s.place) = subst (λ (n : ℕ). Begins p.seen (journal_at y.books n)) place f.seen in
      let within : Begins (m.before ++ step ∷ []) (h ++ step ∷ []) =
      subst (λ (t : List Step). Begins t (h ++ step ∷ [])) m.seen_is (subst (λ (t : List Step). Begins p.seen t) here seen) in
      m.reply_is ∙ ap (λ (t : List Step). shape_reply ((sole_rules x.rules).limits s.place) (reverse t) (entry_of s.who c))
      (between_is h m.before step m.root_first within)

  unmade : (e : PortFail) (o : Option SeenState) → FitsIf (FitsSole y s'.place) o → HasAnswer (Err e)
      → AskedIf (λ (p : SeenState). p.seen) (λ p. p.mine) (λ p. length p.seen) ((sole_rules x.rules).limits s.place) (journal_at x.books s.place) 0 0
      (entry_of s.who c) s.pass (Err e) o → ⊥
  unmade e None f n a = a
  unmade (fail.Busy e) (Some p) f n a = busy_not a.once
  unmade (fail.Worn e) (Some p) f n a =
      let full : length p.seen ≡ 2 ^ 62 = a.failed.1 in
      let seen : Begins p.seen (journal_at y.books s'.place) = f.seen in
      omega (arith, full, room s'.place, ap length seen.1, length-append p.seen seen.0)
  unmade (fail.OutOfMemory e) (Some p) f n a = n

  -- WHAT IT WAS ANSWERED
  pub call_is : (o : Result Reply PortFail) → SoleCalls x y s c o s' → HasAnswer o → o ≡ Ok (rec_reply x s c)
  call_is (Ok r) k n = ap ok_of (reply_at r s'.pass fits k.calls k.asked)
  call_is (Err e) k n = absurd (unmade e s'.pass fits n k.asked)

  pub call_came : SoleCalls x y s c (Ok (rec_reply x s c)) s' → Came x s c y
  call_came k = record {
    here = added x y s s' (entry_of s.who c, rec_reply x s c) k.calls alone;
    elsewhere = λ q d. serves.others q d
        ∙ sym (append-nil (journal_at x.books q));
    rules = serves.fixed;
  }

-- ---- a turn

rec_memory : (a : RecTurn) (o p : Option RecEnd) → AfterRecTurn a o p → a ≢ rec.Ended rec_end.OutOfMemory
rec_memory rec.Moved o p t e = absurd (cc)
rec_memory rec.Idle o p t e = absurd (cc)
rec_memory rec.Busy o p t e = absurd (cc)
rec_memory (rec.Ended x) o p t e = subst HasRecMemory (ap (end_of x) e) t.0
  where
    end_of : RecEnd → RecTurn → RecEnd
    end_of d rec.Moved = d
    end_of d rec.Idle = d
    end_of d rec.Busy = d
    end_of d (rec.Ended y) = y

rec_ended : (a : RecTurn) (o o' p p' : Option RecEnd) → o' ≡ o → AfterRecTurn a o p → AfterRecTurn a o' p' → p' ≡ p
rec_ended rec.Moved o o' p p' e t t' = t' ∙ (e ∙ sym t)
rec_ended rec.Idle o o' p p' e t t' = t' ∙ (e ∙ sym t)
rec_ended rec.Busy o o' p p' e t t' = t' ∙ (e ∙ sym t)
rec_ended (rec.Ended x) o o' p p' e t t' = t'.1 ∙ sym t.1

-- what two turns leave
record Left (a : RecTurn) (r : RecorderState SeenState) (f : FileState) (y : SoleState) (a' : RecTurn) (r' : RecorderState SeenState) (f' : FileState)
    (y' : SoleState) : Type 0 where
  answer : a' ≡ a
  calls : r'.seat.calls ≡ r.seat.calls
  player : r'.player ≡ r.player
  sent : r'.tape.sent ≡ r.tape.sent
  end : r'.end ≡ r.end
  file : f' ≡ f
  port : SamePort y y'

abbrev one_step : Entry → Reply → List Step
one_step e r = (e, r) ∷ []

abbrev put_so : FileState → List ℕ → FileState
put_so f piece = record f { bytes = f.bytes ++ piece }

abbrev failed_so : FileState → FileState
failed_so f = record f { put_fails = false; faults = file_risen f.faults }

joins_both : (r : Reply) (a a' : RecTurn) (p p' : Option ℕ) (e e' : Option RecEnd) → Joins r a p e → Joins r a' p' e' → (a' ≡ a) × (p' ≡ p) × (e' ≡ e)
joins_both (reply.Joined place from) a a' p p' e e' t t' = (t'.0.0 ∙ sym t.0.0, t'.1 ∙ sym t.1, t'.0.1 ∙ sym t.0.1)
joins_both reply.Full a a' p p' e e' t t' = (t'.0.0 ∙ sym t.0.0, t'.1 ∙ sym t.1, t'.0.1 ∙ sym t.0.1)
joins_both _ a a' p p' e e' t t' = (t'.0.0 ∙ sym t.0.0, t'.1 ∙ sym t.1, t'.0.1 ∙ sym t.0.1)

join_has : (o : Result Reply PortFail) (a : RecTurn) (p : Option ℕ) (e : Option RecEnd) → a ≢ rec.Ended rec_end.OutOfMemory → JoinEnds o a p e → HasAnswer o
join_has (Ok r) a p e n t = tt
join_has (Err (fail.Busy x)) a p e n t = tt
join_has (Err (fail.Worn x)) a p e n t = tt
join_has (Err (fail.OutOfMemory x)) a p e n t = absurd (n t.0.0)

take_has : (o : Result Reply PortFail) (tape : TapeState) (a : RecTurn) (tape' : TapeState) (e : Option RecEnd) → a ≢ rec.Ended rec_end.OutOfMemory
    → TakeEnds o tape a tape' e → HasAnswer o
take_has (Ok r) tape a tape' e n t = tt
take_has (Err (fail.Busy x)) tape a tape' e n t = tt
take_has (Err (fail.Worn x)) tape a tape' e n t = tt
take_has (Err (fail.OutOfMemory x)) tape a tape' e n t = absurd (n t.0.0)

-- an item that is written, or nothing that is
writing_one : (tape tape' : TapeState) (item : Item) (a : RecTurn) (e : Option RecEnd) → a ≢ rec.Ended rec_end.OutOfMemory → Writing tape item a tape' e
    → (a ≡ rec.Moved) × (e ≡ None) × (tape'.sent ≡ tape.sent)
writing_one tape tape' item rec.Moved e n t = (refl, t.0, t.1.sent)
writing_one tape tape' item (rec.Ended x) e n t = absurd (n (ap rec.Ended t.0))
writing_one tape tape' item rec.Idle e n t = absurd t
writing_one tape tape' item rec.Busy e n t = absurd t

-- what a reply to its Take makes of a recorder
abbrev take_turn : Reply → RecTurn
take_turn (reply.NotYet last) = rec.Idle
take_turn _ = rec.Moved

takes_one : (r : Reply) (tape tape' : TapeState) (a : RecTurn) (e : Option RecEnd) → a ≢ rec.Ended rec_end.OutOfMemory → Takes r tape a tape' e
    → (a ≡ take_turn r) × (e ≡ None) × (tape'.sent ≡ tape.sent)
takes_one (reply.Sent from n item) tape tape' a e w t = writing_one tape tape' item a e w t
takes_one (reply.NotYet last) tape tape' a e w t = (t.0.0, t.0.1, ap (λ (z : TapeState). z.sent) t.1)
takes_one _ tape tape' a e w t = (t.0.0, t.0.1, ap (λ (z : TapeState). z.sent) t.1)

module _ (x x' y y' : SoleState) (ports : SamePort x x') (r r' q q' : RecorderState SeenState) (f f' g g' : FileState) (a a' : RecTurn)
    (n : a ≢ rec.Ended rec_end.OutOfMemory) (n' : a' ≢ rec.Ended rec_end.OutOfMemory)
    (who : r'.seat.who ≡ r.seat.who) (place : r'.seat.place ≡ r.seat.place) (calls : r'.seat.calls ≡ r.seat.calls) (player : r'.player ≡ r.player)
    (sent : r'.tape.sent ≡ r.tape.sent) (pending : r'.tape.pending ≡ r.tape.pending)
    (file : f' ≡ f) (serves : ServesAt r.seat.place x y) (serves' : ServesAt r'.seat.place x' y') (alone : OneAsk x y r.seat q.seat)
    (alone' : OneAsk x' y' r'.seat q'.seat) (fits : FitsIf (FitsSole y q.seat.place) q.seat.pass)
    (fits' : FitsIf (FitsSole y' q'.seat.place) q'.seat.pass) (kept : q.seat.place ≡ r.seat.place) (kept' : q'.seat.place ≡ r'.seat.place)
    (room : HasRoom y) (room' : HasRoom y') where
  puts_by : (p p' : Put) → FileTakes f r.tape.pending p g → FileTakes f' r'.tape.pending p' g' → PutEnds p r.tape a q.tape q.end
      → PutEnds p' r'.tape a' q'.tape q'.end
      → (y ≡ x) × (q.seat ≡ r.seat) × (q.player ≡ r.player) → (y' ≡ x') × (q'.seat ≡ r'.seat) × (q'.player ≡ r'.player) → Left a q g y a' q' g' y'
  puts_by (put.Took k) (put.Took j) s s' e e' o o' = record {
    answer = e'.0.0 ∙ sym e.0.0;
    calls = ap (λ (z : RecSeat SeenState). z.calls) o'.1 ∙ (calls ∙ sym (ap (λ (z : RecSeat SeenState). z.calls) o.1));
    player = o'.2 ∙ (player ∙ sym o.2);
    sent = ap (λ (z : TapeState). z.sent) e'.1 ∙ (ap (λ (z : List ℕ). z ++ take j r'.tape.pending) sent ∙ (ap (λ (z : List ℕ). r.tape.sent ++ take j z) pending
        ∙ (ap (λ (z : ℕ). r.tape.sent ++ take z r.tape.pending) (s'.1 ∙ (ap length pending ∙ sym s.1)) ∙ sym (ap (λ (z : TapeState). z.sent) e.1))));
    end = e'.0.1 ∙ sym e.0.1;
    file = s'.2 ∙ (ap (λ (z : FileState). put_so z r'.tape.pending) file ∙ (ap (put_so f) pending ∙ sym s.2));
    port = subst (λ (z : SoleState). SamePort z y') (sym o.0) (subst (λ (z : SoleState). SamePort x z) (sym o'.0) ports);
  }
  puts_by put.Failed put.Failed s s' e e' o o' = record {
    answer = e'.0.0 ∙ sym e.0.0;
    calls = ap (λ (z : RecSeat SeenState). z.calls) o'.1 ∙ (calls ∙ sym (ap (λ (z : RecSeat SeenState). z.calls) o.1));
    player = o'.2 ∙ (player ∙ sym o.2);
    sent = ap (λ (z : TapeState). z.sent) e'.1 ∙ (sent ∙ sym (ap (λ (z : TapeState). z.sent) e.1));
    end = e'.0.1 ∙ sym e.0.1;
    file = s'.1 ∙ (ap failed_so file ∙ sym s.1);
    port = subst (λ (z : SoleState). SamePort z y') (sym o.0) (subst (λ (z : SoleState). SamePort x z) (sym o'.0) ports);
  }
  puts_by (put.Took k) put.Failed s s' e e' o o' = (let t : false ≡ true = sym s.0 ∙ (sym (ap (λ (z : FileState). z.put_fails) file) ∙ s'.0) in absurd (cc))
  puts_by put.Failed (put.Took j) s s' e e' o o' = (let t : true ≡ false = sym s.0 ∙ (sym (ap (λ (z : FileState). z.put_fails) file) ∙ s'.0) in absurd (cc))
  puts_by put.OutOfMemory p' s s' e e' o o' = absurd (n e.0.0)
  puts_by (put.Took k) put.OutOfMemory s s' e e' o o' = absurd (n' e'.0.0)
  puts_by put.Failed put.OutOfMemory s s' e e' o o' = absurd (n' e'.0.0)

  -- both made this call, which was answered
  module _ (c : Call) (o o' : Result Reply PortFail) (k : SoleCalls x y r.seat c o q.seat) (k' : SoleCalls x' y' r'.seat c o' q'.seat) (has : HasAnswer o)
      (has' : HasAnswer o') where
    is : o ≡ Ok (rec_reply x r.seat c)
    is = call_is x y r.seat q.seat c serves alone fits kept room o k has

    is' : o' ≡ Ok (rec_reply x' r'.seat c)
    is' = call_is x' y' r'.seat q'.seat c serves' alone' fits' kept' room' o' k' has'

    entry_same : entry_of r'.seat.who c ≡ entry_of r.seat.who c
    entry_same = ap (λ (z : ℕ). entry_of z c) who

    replies : rec_reply x' r'.seat c ≡ rec_reply x r.seat c
    replies = reply_same x x' r.seat.place r'.seat.place (entry_of r.seat.who c) (entry_of r'.seat.who c) place entry_same ports

    answers : o' ≡ o
    answers = is' ∙ (ap ok_of replies ∙ sym is)

    calls_then : q'.seat.calls ≡ q.seat.calls
    calls_then =
        k'.calls ∙ (ap (λ (z : List Step). calls_after z (entry_of r'.seat.who c) o') calls
        ∙ (ap (λ (z : Entry). calls_after r.seat.calls z o') entry_same
        ∙ (ap (λ (z : Result Reply PortFail). calls_after r.seat.calls (entry_of r.seat.who c) z) answers ∙ sym k.calls)))

    ports_then : SamePort y y'
    ports_then =
        let m = call_came x y r.seat q.seat c serves alone fits kept room (subst (λ (z : Result Reply PortFail). SoleCalls x y r.seat c z q.seat) is k) in
        let m' = call_came x' y' r'.seat q'.seat c serves' alone' fits' kept' room'
        (subst (λ (z : Result Reply PortFail). SoleCalls x' y' r'.seat c z q'.seat) is' k') in
        grown_same x x' y y' r.seat.place r'.seat.place (one_step (entry_of r.seat.who c) (rec_reply x r.seat c))
        (one_step (entry_of r'.seat.who c) (rec_reply x' r'.seat c)) place
        (ap (λ (z : Entry). one_step z (rec_reply x' r'.seat c)) entry_same ∙ ap (λ (z : Reply). one_step (entry_of r.seat.who c) z) replies) ports
        m.rules m.here m.elsewhere m'.rules m'.here m'.elsewhere

  joins_left : SoleJoins x y r a q → SoleJoins x' y' r' a' q' → g ≡ f → g' ≡ f' → Left a q g y a' q' g' y'
  joins_left t t' u u' =
      let has = join_has t.answer a q.player q.end n t.ends in
      let has' = join_has t'.answer a' q'.player q'.end n' t'.ends in
      let e : Joins (rec_reply x r.seat call.Join) a q.player q.end =
      subst (λ (z : Result Reply PortFail). JoinEnds z a q.player q.end) (is call.Join t.answer t'.answer t.asks t'.asks has has') t.ends in
      let e' : Joins (rec_reply x r.seat call.Join) a' q'.player q'.end =
      subst (λ (z : Result Reply PortFail). JoinEnds z a' q'.player q'.end)
      (answers call.Join t.answer t'.answer t.asks t'.asks has has' ∙ is call.Join t.answer t'.answer t.asks t'.asks has has') t'.ends in
      let b = joins_both (rec_reply x r.seat call.Join) a a' q.player q'.player q.end q'.end e e' in
      record {
        answer = b.0;
        calls = calls_then call.Join t.answer t'.answer t.asks t'.asks has has';
        player = b.1;
        sent = ap (λ (z : TapeState). z.sent) t'.tape_is ∙ (sent ∙ sym (ap (λ (z : TapeState). z.sent) t.tape_is));
        end = b.2;
        file = u' ∙ (file ∙ sym u);
        port = ports_then call.Join t.answer t'.answer t.asks t'.asks has has';
      }

  takes_left : (p : ℕ) → SoleTakes p x y r a q → SoleTakes p x' y' r' a' q' → g ≡ f → g' ≡ f' → Left a q g y a' q' g' y'
  takes_left p t t' u u' =
      let c : Call = call.Take p all in
      let has = take_has t.answer r.tape a q.tape q.end n t.ends in
      let has' = take_has t'.answer r'.tape a' q'.tape q'.end n' t'.ends in
      let e : Takes (rec_reply x r.seat c) r.tape a q.tape q.end =
      subst (λ (z : Result Reply PortFail). TakeEnds z r.tape a q.tape q.end) (is c t.answer t'.answer t.asks t'.asks has has') t.ends in
      let e' : Takes (rec_reply x r.seat c) r'.tape a' q'.tape q'.end =
      subst (λ (z : Result Reply PortFail). TakeEnds z r'.tape a' q'.tape q'.end)
      (answers c t.answer t'.answer t.asks t'.asks has has' ∙ is c t.answer t'.answer t.asks t'.asks has has') t'.ends in
      let b = takes_one (rec_reply x r.seat c) r.tape q.tape a q.end n e in
      let b' = takes_one (rec_reply x r.seat c) r'.tape q'.tape a' q'.end n' e' in
      record {
        answer = b'.0 ∙ sym b.0;
        calls = calls_then c t.answer t'.answer t.asks t'.asks has has';
        player = t'.player_is ∙ (player ∙ sym t.player_is);
        sent = b'.2 ∙ (sent ∙ sym b.2);
        end = b'.1 ∙ sym b.1;
        file = u' ∙ (file ∙ sym u);
        port = ports_then c t.answer t'.answer t.asks t'.asks has has';
      }

  calls_left : (p : Option ℕ) → SoleCallsBy p x y r a q → SoleCallsBy p x' y' r' a' q' → g ≡ f → g' ≡ f' → Left a q g y a' q' g' y'
  calls_left None t t' u u' = joins_left t t' u u'
  calls_left (Some p) t t' u u' = takes_left p t t' u u'

  works_left : (b : Bool) → SoleWorks b x y f g r a q → SoleWorks b x' y' f' g' r' a' q' → Left a q g y a' q' g' y'
  works_left false t t' = puts_by t.answer t'.answer t.step t'.step t.ends t'.ends (t.port_is, t.seat_is, t.player_is) (t'.port_is, t'.seat_is, t'.player_is)
  works_left true t t' = calls_left r.player t.0 (subst (λ (o : Option ℕ). SoleCallsBy o x' y' r' a' q') player t'.0) t.1 t'.1

  turn_left : (e : Option RecEnd) → r'.end ≡ r.end → RecTurnsAt e x y f g r a q → RecTurnsAt e x' y' f' g' r' a' q' → Left a q g y a' q' g' y'
  turn_left (Some e) ends t t' = record {
    answer = t'.0 ∙ sym t.0;
    calls = ap (λ (z : RecorderState SeenState). z.seat.calls) t'.1 ∙ (calls ∙ sym (ap (λ (z : RecorderState SeenState). z.seat.calls) t.1));
    player = ap (λ (z : RecorderState SeenState). z.player) t'.1 ∙ (player ∙ sym (ap (λ (z : RecorderState SeenState). z.player) t.1));
    sent = ap (λ (z : RecorderState SeenState). z.tape.sent) t'.1 ∙ (sent ∙ sym (ap (λ (z : RecorderState SeenState). z.tape.sent) t.1));
    end = ap (λ (z : RecorderState SeenState). z.end) t'.1 ∙ (ends ∙ sym (ap (λ (z : RecorderState SeenState). z.end) t.1));
    file = t'.3 ∙ (file ∙ sym t.3);
    port = subst (λ (z : SoleState). SamePort z y') (sym t.2) (subst (λ (z : SoleState). SamePort x z) (sym t'.2) ports);
  }
  turn_left None ends t t' = works_left (is_empty r.tape.pending) t (subst (λ (l : List ℕ). SoleWorks (is_empty l) x' y' f' g' r' a' q') pending t')

-- what a recorder that is alike has yet to write
pending_same : (c d : RecState) → SameRec c d → d.recorder.tape.pending ≡ c.recorder.tape.pending
pending_same c d h =
    let text : text_in d.form (taken d.recorder.seat.calls) ≡ text_in c.form (taken c.recorder.seat.calls) =
    ap (λ (z : Form). text_in z (taken d.recorder.seat.calls)) h.form ∙ ap (λ (z : List Step). text_in c.form (taken z)) h.calls in
    append_cancel_left c.recorder.tape.sent d.recorder.tape.pending c.recorder.tape.pending
    (ap (λ (z : List ℕ). z ++ d.recorder.tape.pending) (sym h.sent) ∙ (h.texts.1 ∙ (text ∙ sym h.texts.0)))

-- a history that has room had room before
pub rec_room : (place : ℕ) (x y : SoleState) → ServesAt place x y → HasRoom y → HasRoom x
rec_room place x y s r = λ q. elim (cases_eq q place) [
  | inl i ↦ (
      let on : Begins (journal_at x.books place) (journal_at y.books place) = s.here in
      let there : length (journal_at x.books place) < 2 ^ 62 = omega (arith, r place, ap length on.1, length-append (journal_at x.books place) on.0) in
      subst (λ (p : ℕ). length (journal_at x.books p) < 2 ^ 62) (sym i) there)
  | inr d ↦ (let same : journal_at y.books q ≡ journal_at x.books q = s.others q d in omega (arith, r q, ap length same))
]

-- TURNS OF TWO RECORDERS THAT ARE ALIKE
pub rec_same : (x x' y y' : SoleState) (c c' d d' : RecState) → SamePort x x' → HasRoom y → HasRoom y' → SameRec c c' → RecorderTurn x c y d
    → RecorderTurn x' c' y' d' → SamePort y y' × SameRec d d'
rec_same x x' y y' c c' d d' ports room room' h t t' =
    let l = turn_left x x' y y' ports c.recorder c'.recorder d.recorder d'.recorder c.file c'.file d.file d'.file t.answer t'.answer
    (rec_memory t.answer c.ended d.ended t.leads) (rec_memory t'.answer c'.ended d'.ended t'.leads) h.who h.place h.calls h.player h.sent
    (pending_same c c' h) h.file
    t.served t'.served t.alone t'.alone t.fits t'.fits t.label.1 t'.label.1 room room' c.recorder.end h.end t.turn
    (subst (λ (o : Option RecEnd). RecTurnsAt o x' y' c'.file d'.file c'.recorder t'.answer d'.recorder) h.end t'.turn) in (
      l.port,
      record {
        form = t'.form ∙ (h.form ∙ sym t.form);
        who = t'.label.0 ∙ (h.who ∙ sym t.label.0);
        place = t'.label.1 ∙ (h.place ∙ sym t.label.1);
        calls = l.calls;
        player = l.player;
        sent = l.sent;
        end = l.end;
        file = l.file;
        ended = rec_ended t.answer c.ended c'.ended d.ended d'.ended h.ended t.leads
            (subst (λ (a : RecTurn). AfterRecTurn a c'.ended d'.ended) l.answer t'.leads);
        texts = (t.text, t'.text);
      },
    )

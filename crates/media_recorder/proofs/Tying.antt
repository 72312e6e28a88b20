-- What the sink took stays what it holds
use Rattle.std.proofs.Common.{◌≡◌, ◌≢◌, ℕ, ◌<◌, Bool, true, false, List, [], ◌∷◌, ◌++◌, length, Option, Some, None, refl, sym, ap, ◌∙◌, arith}
use Rattle.std.specs.Prelude.{take}
use Rattle.std.specs.Io.KnownBytes.{append_known}
use Rattle.std.specs.declared.result.Result.{Result}
use Rattle.std.specs.declared.result.Result.TheVariants.{Ok, Err}
use Rattle.relay_outside.specs.declared.sink.Put.{Put}
use Rattle.relay_outside.specs.declared.sink.Put.TheVariants as put
use Rattle.relay_outside.specs.Put.{PutFaults, PutHolds, PutStep}
use Rattle.av_unit.specs.declared.item.Item.{Item}
use Rattle.stream_model.specs.declared.replies.Reply.{Reply}
use Rattle.stream_model.specs.declared.replies.Reply.TheVariants as reply
use Rattle.stream_registry.specs.declared.port.PortFail.{PortFail}
use Rattle.stream_registry.specs.declared.port.PortFail.TheVariants as fail
use Rattle.stream_registry.specs.Names.{PortRules}
use Rattle.stream_registry.specs.Told.{Step, Histories}
use Rattle.media_recorder.specs.declared.turn.RecEnd.{RecEnd}
use Rattle.media_recorder.specs.declared.turn.RecEnd.TheVariants as end
use Rattle.media_recorder.specs.declared.turn.RecTurn.{RecTurn}
use Rattle.media_recorder.specs.declared.turn.RecTurn.TheVariants.{Moved, Idle, Busy, Ended}
use Rattle.media_recorder.specs.Tapes.{TapeState}
use Rattle.media_recorder.specs.Tallied.{Tallied}
use Rattle.media_recorder.specs.Turns.{RecorderState, is_empty, PutEnds, Unmade, Joins, JoinEnds, Writing, Takes, TakeEnds, Calls, Works}
use Rattle.media_recorder.proofs.Calling.{has_called, has_put}

put_ties : (answer : Put) (t : TapeState) (turn : RecTurn) (t' : TapeState) (end' : Option RecEnd) (holds holds' : Option (List ℕ)) → PutEnds answer t turn t' end' → PutHolds holds holds' t.pending answer → holds ≡ Some t.sent → holds' ≡ Some t'.sent
put_ties (put.Took n) t turn t' end' holds holds' p h e =
    h ∙ (ap (λ (o : Option (List ℕ)). append_known o (take n t.pending)) e ∙ ap (λ (x : TapeState). Some x.sent) (sym p.1))
put_ties put.Failed t turn t' end' holds holds' p h e = h ∙ (e ∙ ap (λ (x : TapeState). Some x.sent) (sym p.1))
put_ties put.OutOfMemory t turn t' end' holds holds' p h e = h ∙ (e ∙ ap (λ (x : TapeState). Some x.sent) (sym p.1))

sent_same : (t t' : TapeState) → t' ≡ t → t'.sent ≡ t.sent
sent_same t t' e = ap (λ (x : TapeState). x.sent) e

writing_sends : (t : TapeState) (item : Item) (turn : RecTurn) (t' : TapeState) (end' : Option RecEnd) → Writing t item turn t' end' → t'.sent ≡ t.sent
writing_sends t item Moved t' end' w = w.1.sent
writing_sends t item (Ended e) t' end' w = w.2.sent
writing_sends t item Idle t' end' w = absurd w
writing_sends t item Busy t' end' w = absurd w

takes_send : (x : Reply) (t : TapeState) (turn : RecTurn) (t' : TapeState) (end' : Option RecEnd) → Takes x t turn t' end' → t'.sent ≡ t.sent
takes_send (reply.Sent from n item) t turn t' end' k = writing_sends t item turn t' end' k
takes_send (reply.NotYet last) t turn t' end' k = sent_same t t' k.1
takes_send _ t turn t' end' k = sent_same t t' k.1

take_sends : (answer : Result Reply PortFail) (t : TapeState) (turn : RecTurn) (t' : TapeState) (end' : Option RecEnd) → TakeEnds answer t turn t' end' → t'.sent ≡ t.sent
take_sends (Ok x) t turn t' end' k = takes_send x t turn t' end' k
take_sends (Err f) t turn t' end' k = sent_same t t' k.1

-- ---- the file is blamed only where a put failed

put_tells : (answer : Put) (t : TapeState) (turn : RecTurn) (t' : TapeState) (end' : Option RecEnd) (holds holds' : Option (List ℕ)) → PutEnds answer t turn t' end' → PutHolds holds holds' t.pending answer
    → ((bytes : List ℕ) → holds ≡ Some bytes → bytes ≡ t.sent) → (bytes : List ℕ) → holds' ≡ Some bytes → bytes ≡ t'.sent
put_tells (put.Took n) t turn t' end' None holds' p h told bytes is = absurd (let e : None ≡ Some bytes = sym h ∙ is in cc)
put_tells (put.Took n) t turn t' end' (Some before) holds' p h told bytes is =
    let e : before ++ take n t.pending ≡ bytes = let s : Some (before ++ take n t.pending) ≡ Some bytes = sym h ∙ is in cc in
    sym e ∙ (ap (λ (l : List ℕ). l ++ take n t.pending) (told before refl) ∙ sym (ap (λ (x : TapeState). x.sent) p.1))
put_tells put.Failed t turn t' end' holds holds' p h told bytes is = told bytes (sym h ∙ is) ∙ sym (ap (λ (x : TapeState). x.sent) p.1)
put_tells put.OutOfMemory t turn t' end' holds holds' p h told bytes is = told bytes (sym h ∙ is) ∙ sym (ap (λ (x : TapeState). x.sent) p.1)

-- no fault of the file
abbrev Spared : Option RecEnd → Type 0
Spared end' = end' ≢ Some end.SinkFault

spared_none : (end' : Option RecEnd) → end' ≡ None → Spared end'
spared_none end' n = λ is. let e : None ≡ Some end.SinkFault = sym n ∙ is in cc

put_blames : (answer : Put) (t : TapeState) (turn : RecTurn) (t' : TapeState) (end' : Option RecEnd) (faults faults' : ℕ) → PutEnds answer t turn t' end' → PutFaults faults faults' answer → end' ≡ Some end.SinkFault → faults' ≢ 0
put_blames (put.Took n) t turn t' end' faults faults' p f is = absurd (spared_none end' p.0.1 is)
put_blames put.Failed t turn t' end' faults faults' p f is = λ z. let h = f.higher in omega (arith, h, z)
put_blames put.OutOfMemory t turn t' end' faults faults' p f is = absurd (let e : Some end.OutOfMemory ≡ Some end.SinkFault = sym p.0.1 ∙ is in cc)

unmade_spares : (f : PortFail) (turn : RecTurn) (end' : Option RecEnd) → Unmade f turn end' → Spared end'
unmade_spares (fail.Busy e) turn end' u = spared_none end' u.1
unmade_spares (fail.Worn e) turn end' u = λ is. let n : Some end.Worn ≡ Some end.SinkFault = sym u.1 ∙ is in cc
unmade_spares (fail.OutOfMemory e) turn end' u = λ is. let n : Some end.OutOfMemory ≡ Some end.SinkFault = sym u.1 ∙ is in cc

joins_spare : (x : Reply) (turn : RecTurn) (player' : Option ℕ) (end' : Option RecEnd) → Joins x turn player' end' → Spared end'
joins_spare (reply.Joined place from) turn player' end' j = spared_none end' j.0.1
joins_spare reply.Full turn player' end' j = λ is. let n : Some end.Full ≡ Some end.SinkFault = sym j.0.1 ∙ is in cc
joins_spare _ turn player' end' j = spared_none end' j.0.1

join_spares : (answer : Result Reply PortFail) (turn : RecTurn) (player' : Option ℕ) (end' : Option RecEnd) → JoinEnds answer turn player' end' → Spared end'
join_spares (Ok x) turn player' end' j = joins_spare x turn player' end' j
join_spares (Err f) turn player' end' j = unmade_spares f turn end' j.0

writing_spares : (t : TapeState) (item : Item) (turn : RecTurn) (t' : TapeState) (end' : Option RecEnd) → Writing t item turn t' end' → Spared end'
writing_spares t item Moved t' end' w = spared_none end' w.0
writing_spares t item (Ended e) t' end' w = λ is. let n : Some end.OutOfMemory ≡ Some end.SinkFault = sym w.1 ∙ is in cc
writing_spares t item Idle t' end' w = absurd w
writing_spares t item Busy t' end' w = absurd w

takes_spare : (x : Reply) (t : TapeState) (turn : RecTurn) (t' : TapeState) (end' : Option RecEnd) → Takes x t turn t' end' → Spared end'
takes_spare (reply.Sent from n item) t turn t' end' k = writing_spares t item turn t' end' k
takes_spare (reply.NotYet last) t turn t' end' k = spared_none end' k.0.1
takes_spare _ t turn t' end' k = spared_none end' k.0.1

take_spares : (answer : Result Reply PortFail) (t : TapeState) (turn : RecTurn) (t' : TapeState) (end' : Option RecEnd) → TakeEnds answer t turn t' end' → Spared end'
take_spares (Ok x) t turn t' end' k = takes_spare x t turn t' end' k
take_spares (Err f) t turn t' end' k = unmade_spares f turn end' k.0

some_bytes : (bs : List ℕ) → is_empty bs ≡ false → 0 < length bs
some_bytes [] e = let f : ⊥ = cc in absurd f
some_bytes (b ∷ bs) e = omega arith

module _ {P Q K : Type 0} (rules : P → PortRules) (root : P → Histories) (busies : P → ℕ) (seen : Q → List Step) (mine : Q → List ℕ) (count : Q → ℕ) (takes : K → List ℕ → Put → K → Type 0) (holds : K → Option (List ℕ)) (faults : K → ℕ) where
  calls_send : (player : Option ℕ) (port port' : P) (r : RecorderState Q) (turn : RecTurn) (r' : RecorderState Q) → Calls rules root busies seen mine count player port port' r turn r' → r'.tape.sent ≡ r.tape.sent
  calls_send None port port' r turn r' c = sent_same r.tape r'.tape c.tape_is
  calls_send (Some player) port port' r turn r' c = take_sends c.answer r.tape turn r'.tape r'.end c.ends

  calls_spare : (player : Option ℕ) (port port' : P) (r : RecorderState Q) (turn : RecTurn) (r' : RecorderState Q) → Calls rules root busies seen mine count player port port' r turn r' → Spared r'.end
  calls_spare None port port' r turn r' c = join_spares c.answer turn r'.player r'.end c.ends
  calls_spare (Some player) port port' r turn r' c = take_spares c.answer r.tape turn r'.tape r'.end c.ends

  pub works_tie : ((s : K) (piece : List ℕ) (answer : Put) (t : K) → 0 < length piece → takes s piece answer t → PutStep piece (holds s) (holds t) (faults s) (faults t) answer)
      → (b : Bool) (port port' : P) (sink sink' : K) (r : RecorderState Q) (turn : RecTurn) (r' : RecorderState Q) → is_empty r.tape.pending ≡ b
      → Works rules root busies seen mine count takes b port port' sink sink' r turn r' → holds sink ≡ Some r.tape.sent → holds sink' ≡ Some r'.tape.sent
  works_tie mean false port port' sink sink' r turn r' e w h =
      put_ties w.answer r.tape turn r'.tape r'.end (holds sink) (holds sink') w.ends (mean sink r.tape.pending w.answer sink' (some_bytes r.tape.pending e) w.step).bytes h
  works_tie mean true port port' sink sink' r turn r' e w h =
      ap (λ (s : K). holds s) w.1 ∙ (h ∙ ap (λ (l : List ℕ). Some l) (sym (calls_send r.player port port' r turn r' w.0)))

  pub works_tally : ((s : K) (piece : List ℕ) (answer : Put) (t : K) → 0 < length piece → takes s piece answer t → PutStep piece (holds s) (holds t) (faults s) (faults t) answer)
      → (b : Bool) (port port' : P) (sink sink' : K) (r : RecorderState Q) (turn : RecTurn) (r' : RecorderState Q) → is_empty r.tape.pending ≡ b
      → Works rules root busies seen mine count takes b port port' sink sink' r turn r' → Tallied count (holds sink) (faults sink) r → Tallied count (holds sink') (faults sink') r'
  works_tally mean false port port' sink sink' r turn r' e w t =
      let step = mean sink r.tape.pending w.answer sink' (some_bytes r.tape.pending e) w.step in
      let h = has_put rules root busies seen mine count port port' takes sink sink' r turn r' w t.unjoined in
      record {
        told = put_tells w.answer r.tape turn r'.tape r'.end (holds sink) (holds sink') w.ends step.bytes t.told;
        blamed = put_blames w.answer r.tape turn r'.tape r'.end (faults sink) (faults sink') w.ends step.cause;
        unjoined = h.unjoined;
        full = h.full;
        worn = h.worn;
      }
  works_tally mean true port port' sink sink' r turn r' e w t =
      let h = has_called rules root busies seen mine count port port' r.player r turn r' refl w.0 t.unjoined in
      record {
        told = λ bytes is. t.told bytes (sym (ap holds w.1) ∙ is) ∙ sym (calls_send r.player port port' r turn r' w.0);
        blamed = λ is. absurd (calls_spare r.player port port' r turn r' w.0 is);
        unjoined = h.unjoined;
        full = h.full;
        worn = h.worn;
      }

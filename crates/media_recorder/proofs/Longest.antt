-- A turn leaves the most bytes of a unit that a recorder writes
use Rattle.std.proofs.Common.{◌≡◌, ℕ, Bool, true, false, List, Option, Some, None, ap}
use Rattle.std.specs.declared.result.Result.{Result}
use Rattle.std.specs.declared.result.Result.TheVariants.{Ok, Err}
use Rattle.relay_outside.specs.declared.sink.Put.{Put}
use Rattle.relay_outside.specs.declared.sink.Put.TheVariants as put
use Rattle.av_unit.specs.declared.item.Item.{Item}
use Rattle.stream_model.specs.declared.replies.Reply.{Reply}
use Rattle.stream_model.specs.declared.replies.Reply.TheVariants as reply
use Rattle.stream_registry.specs.declared.port.PortFail.{PortFail}
use Rattle.stream_registry.specs.Names.{PortRules}
use Rattle.stream_registry.specs.Told.{Step, Histories}
use Rattle.media_recorder.specs.declared.turn.RecEnd.{RecEnd}
use Rattle.media_recorder.specs.declared.turn.RecTurn.{RecTurn}
use Rattle.media_recorder.specs.declared.turn.RecTurn.TheVariants.{Moved, Idle, Busy, Ended}
use Rattle.media_recorder.specs.Tapes.{TapeState}
use Rattle.media_recorder.specs.Turns.{RecorderState, PutEnds, Writing, Takes, TakeEnds, Calls, Works}

same : (t t' : TapeState) → t' ≡ t → t'.longest ≡ t.longest
same t t' e = ap (λ (x : TapeState). x.longest) e

put_leaves : (answer : Put) (t : TapeState) (turn : RecTurn) (t' : TapeState) (end' : Option RecEnd) → PutEnds answer t turn t' end' → t'.longest ≡ t.longest
put_leaves (put.Took n) t turn t' end' p = ap (λ (x : TapeState). x.longest) p.1
put_leaves put.Failed t turn t' end' p = same t t' p.1
put_leaves put.OutOfMemory t turn t' end' p = same t t' p.1

writing_leaves : (t : TapeState) (item : Item) (turn : RecTurn) (t' : TapeState) (end' : Option RecEnd) → Writing t item turn t' end' → t'.longest ≡ t.longest
writing_leaves t item Moved t' end' w = w.1.longest
writing_leaves t item (Ended e) t' end' w = w.2.longest
writing_leaves t item Idle t' end' w = absurd w
writing_leaves t item Busy t' end' w = absurd w

takes_leave : (x : Reply) (t : TapeState) (turn : RecTurn) (t' : TapeState) (end' : Option RecEnd) → Takes x t turn t' end' → t'.longest ≡ t.longest
takes_leave (reply.Sent from n item) t turn t' end' k = writing_leaves t item turn t' end' k
takes_leave (reply.NotYet last) t turn t' end' k = same t t' k.1
takes_leave _ t turn t' end' k = same t t' k.1

take_leaves : (answer : Result Reply PortFail) (t : TapeState) (turn : RecTurn) (t' : TapeState) (end' : Option RecEnd) → TakeEnds answer t turn t' end' → t'.longest ≡ t.longest
take_leaves (Ok x) t turn t' end' k = takes_leave x t turn t' end' k
take_leaves (Err f) t turn t' end' k = same t t' k.1

module _ {P Q K : Type 0} (rules : P → PortRules) (root : P → Histories) (busies : P → ℕ) (seen : Q → List Step) (mine : Q → List ℕ) (count : Q → ℕ) (takes : K → List ℕ → Put → K → Type 0) where
  calls_leave : (player : Option ℕ) (port port' : P) (r : RecorderState Q) (turn : RecTurn) (r' : RecorderState Q) → Calls rules root busies seen mine count player port port' r turn r' → r'.tape.longest ≡ r.tape.longest
  calls_leave None port port' r turn r' c = same r.tape r'.tape c.tape_is
  calls_leave (Some player) port port' r turn r' c = take_leaves c.answer r.tape turn r'.tape r'.end c.ends

  pub works_leave : (b : Bool) (port port' : P) (sink sink' : K) (r : RecorderState Q) (turn : RecTurn) (r' : RecorderState Q) → Works rules root busies seen mine count takes b port port' sink sink' r turn r'
      → r'.tape.longest ≡ r.tape.longest
  works_leave false port port' sink sink' r turn r' w = put_leaves w.answer r.tape turn r'.tape r'.end w.ends
  works_leave true port port' sink sink' r turn r' w = calls_leave r.player port port' r turn r' w.0

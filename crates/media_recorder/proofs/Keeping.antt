-- What was taken is written, after one call more
use Rattle.std.proofs.Common.{◌≡◌, ℕ, List, [], ◌∷◌, ◌++◌, Option, Some, None, sym, ap, ◌∙◌, subst}
use Rattle.std.proofs.lemmas.List.{append-nil}
use Rattle.std.proofs.lemmas.List.Concat.{flat_map-append}
use Rattle.std.specs.declared.result.Result.{Result}
use Rattle.std.specs.declared.result.Result.TheVariants.{Ok, Err}
use Rattle.av_unit.specs.declared.head.Want.{Want}
use Rattle.av_unit.specs.declared.item.Item.{Item}
use Rattle.stream_model.specs.declared.calls.Call.TheVariants as call
use Rattle.stream_model.specs.declared.replies.Reply.{Reply}
use Rattle.stream_model.specs.declared.replies.Reply.TheVariants as reply
use Rattle.stream_registry.specs.declared.port.PortFail.{PortFail}
use Rattle.stream_registry.specs.Told.{Step}
use Rattle.media_recorder.specs.declared.turn.RecEnd.{RecEnd}
use Rattle.media_recorder.specs.declared.turn.RecEnd.TheVariants as end
use Rattle.media_recorder.specs.declared.turn.RecTurn.{RecTurn}
use Rattle.media_recorder.specs.declared.turn.RecTurn.TheVariants.{Moved, Idle, Busy, Ended}
use Rattle.media_recorder.specs.Recorders.{AreWritten}
use Rattle.media_recorder.specs.Seats.{calls_after, entry_of}
use Rattle.media_recorder.specs.Taken.{item_at, item_in, taken}
use Rattle.media_recorder.specs.Tapes.{TapeState}
use Rattle.media_recorder.specs.Turns.{Writing, Takes, TakeEnds}
use Rattle.media_recorder.proofs.Calling.{taken_join}
use Rattle.media_recorder.proofs.Standing.{begins_same}

-- all of it is
same_written : (end' : Option RecEnd) (items all : List Item) → items ≡ all → AreWritten end' items all
same_written None items all e = e
same_written (Some end.SinkFault) items all e = e
same_written (Some end.Full) items all e = e
same_written (Some end.Worn) items all e = e
same_written (Some end.OutOfMemory) items all e = begins_same items all (sym e)

pub join_written : (who : ℕ) (calls calls' : List Step) (answer : Result Reply PortFail) (items : List Item) (end' : Option RecEnd) → items ≡ taken calls
    → calls' ≡ calls_after calls (entry_of who call.Join) answer → AreWritten end' items (taken calls')
join_written who calls calls' answer items end' is made =
    same_written end' items (taken calls') (is ∙ (sym (taken_join who answer calls) ∙ ap (λ (l : List Step). taken l) (sym made)))

writing_written : (t t' : TapeState) (item : Item) (items : List Item) (turn : RecTurn) (end' : Option RecEnd) → t.items ≡ items → Writing t item turn t' end'
    → AreWritten end' t'.items (items ++ item ∷ [])
writing_written t t' item items Moved end' is w = same_written end' t'.items (items ++ item ∷ []) (w.1.items ∙ ap (λ (l : List Item). l ++ item ∷ []) is)
writing_written t t' item items (Ended e) end' is w =
    subst (λ (o : Option RecEnd). AreWritten o t'.items (items ++ item ∷ [])) (sym w.1) (item ∷ [], ap (λ (l : List Item). l ++ item ∷ []) (w.2.items ∙ is))
writing_written t t' item items Idle end' is w = absurd w
writing_written t t' item items Busy end' is w = absurd w

unchanged : (t t' : TapeState) (items : List Item) (end' : Option RecEnd) → t.items ≡ items → t' ≡ t → AreWritten end' t'.items (items ++ [])
unchanged t t' items end' is e = same_written end' t'.items (items ++ []) (ap (λ (x : TapeState). x.items) e ∙ (is ∙ sym (append-nil items)))

takes_written : (x : Reply) (t t' : TapeState) (items : List Item) (turn : RecTurn) (end' : Option RecEnd) → t.items ≡ items → Takes x t turn t' end'
    → AreWritten end' t'.items (items ++ item_in x)
takes_written (reply.Sent from n item) t t' items turn end' is k = writing_written t t' item items turn end' is k
takes_written (reply.NotYet last) t t' items turn end' is k = unchanged t t' items end' is k.1
takes_written _ t t' items turn end' is k = unchanged t t' items end' is k.1

taken_take : (who player : ℕ) (want : Want) (calls : List Step) (x : Reply) → taken (calls ++ (entry_of who (call.Take player want), x) ∷ []) ≡ taken calls ++ item_in x
taken_take who player want calls x =
    flat_map-append (λ (s : Step). item_at s.0.call s.1) calls ((entry_of who (call.Take player want), x) ∷ []) ∙ ap (λ (l : List Item). taken calls ++ l) (append-nil (item_in x))

answer_written : (who player : ℕ) (want : Want) (calls : List Step) (answer : Result Reply PortFail) (t t' : TapeState) (turn : RecTurn) (end' : Option RecEnd) → t.items ≡ taken calls
    → TakeEnds answer t turn t' end' → AreWritten end' t'.items (taken (calls_after calls (entry_of who (call.Take player want)) answer))
answer_written who player want calls (Ok x) t t' turn end' is k =
    subst (λ (l : List Item). AreWritten end' t'.items l) (sym (taken_take who player want calls x)) (takes_written x t t' (taken calls) turn end' is k)
answer_written who player want calls (Err f) t t' turn end' is k = same_written end' t'.items (taken calls) (ap (λ (x : TapeState). x.items) k.1 ∙ is)

pub take_written : (who player : ℕ) (want : Want) (calls calls' : List Step) (answer : Result Reply PortFail) (t t' : TapeState) (turn : RecTurn) (end' : Option RecEnd) → t.items ≡ taken calls
    → TakeEnds answer t turn t' end' → calls' ≡ calls_after calls (entry_of who (call.Take player want)) answer → AreWritten end' t'.items (taken calls')
take_written who player want calls calls' answer t t' turn end' is k made =
    subst (λ (l : List Step). AreWritten end' t'.items (taken l)) (sym made) (answer_written who player want calls answer t t' turn end' is k)

-- before a call a recorder hasn't ended
pub written_live : (end' : Option RecEnd) (items all : List Item) → end' ≡ None → AreWritten end' items all → items ≡ all
written_live end' items all live w = subst (λ (o : Option RecEnd). AreWritten o items all) live w

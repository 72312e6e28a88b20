-- The number with which a caller joined, after one call more
use Rattle.std.proofs.Common.{◌≡◌, ℕ, Bool, true, false, List, [], ◌∷◌, ◌++◌, Option, Some, None, refl, sym, ap, ◌∙◌}
use Rattle.std.specs.Option.{option_or}
use Rattle.std.specs.declared.result.Result.{Result}
use Rattle.std.specs.declared.result.Result.TheVariants.{Ok, Err}
use Rattle.av_unit.specs.declared.head.Want.{Want}
use Rattle.relay_outside.specs.declared.sink.Put.{Put}
use Rattle.stream_model.specs.declared.calls.Call.TheVariants as call
use Rattle.stream_model.specs.declared.calls.Entry.{Entry}
use Rattle.stream_model.specs.declared.replies.Reply.{Reply}
use Rattle.stream_registry.specs.declared.port.PortFail.{PortFail}
use Rattle.stream_registry.specs.Names.{PortRules}
use Rattle.stream_registry.specs.Told.{Step, Histories}
use Rattle.media_recorder.specs.declared.turn.RecTurn.{RecTurn}
use Rattle.media_recorder.specs.Joined.{from_answered, from_at, joined_from}
use Rattle.media_recorder.specs.Seats.{SeatState, calls_after, entry_of}
use Rattle.media_recorder.specs.Turns.{RecorderState, Calls, Works}

or_none : (a : Option ℕ) → option_or a None ≡ a
or_none None = refl
or_none (Some n) = refl

or_or : (a b c : Option ℕ) → option_or a (option_or b c) ≡ option_or (option_or a b) c
or_or None b c = refl
or_or (Some n) b c = refl

-- one call more
pub joined_more : (calls : List Step) (step : Step) → joined_from (calls ++ step ∷ []) ≡ option_or (joined_from calls) (from_at step.0.call step.1)
joined_more [] step = or_none (from_at step.0.call step.1)
joined_more (first ∷ calls) step =
    ap (λ (o : Option ℕ). option_or (from_at first.0.call first.1) o) (joined_more calls step)
    ∙ or_or (from_at first.0.call first.1) (joined_from calls) (from_at step.0.call step.1)

after_join : (who : ℕ) (calls : List Step) (answer : Result Reply PortFail) → joined_from (calls_after calls (entry_of who call.Join) answer) ≡ option_or (joined_from calls) (from_answered answer)
after_join who calls (Ok r) = joined_more calls (entry_of who call.Join, r)
after_join who calls (Err e) = sym (or_none (joined_from calls))

after_take : (who player : ℕ) (want : Want) (calls : List Step) (answer : Result Reply PortFail) → joined_from (calls_after calls (entry_of who (call.Take player want)) answer) ≡ joined_from calls
after_take who player want calls (Ok r) = joined_more calls (entry_of who (call.Take player want), r) ∙ or_none (joined_from calls)
after_take who player want calls (Err e) = refl

-- the number that is kept, after a Join and after a Take
pub from_join : (who : ℕ) (calls calls' : List Step) (answer : Result Reply PortFail) (from from' : Option ℕ) → from ≡ joined_from calls → calls' ≡ calls_after calls (entry_of who call.Join) answer
    → from' ≡ option_or from (from_answered answer) → from' ≡ joined_from calls'
from_join who calls calls' answer from from' is made kept =
    kept ∙ (ap (λ (o : Option ℕ). option_or o (from_answered answer)) is ∙ (sym (after_join who calls answer) ∙ ap (λ (l : List Step). joined_from l) (sym made)))

pub from_take : (who player : ℕ) (want : Want) (calls calls' : List Step) (answer : Result Reply PortFail) (from : Option ℕ) → from ≡ joined_from calls
    → calls' ≡ calls_after calls (entry_of who (call.Take player want)) answer → from ≡ joined_from calls'
from_take who player want calls calls' answer from is made = is ∙ (sym (after_take who player want calls answer) ∙ ap (λ (l : List Step). joined_from l) (sym made))

-- ---- a turn's

first_stays : (a b : Option ℕ) (n : ℕ) → a ≡ Some n → option_or a b ≡ Some n
first_stays a b n is = ap (λ (o : Option ℕ). option_or o b) is

-- who has joined stays joined, whatever is called
pub still_joined : (calls : List Step) (entry : Entry) (answer : Result Reply PortFail) (n : ℕ) → joined_from calls ≡ Some n → joined_from (calls_after calls entry answer) ≡ Some n
still_joined calls entry (Ok r) n is = joined_more calls (entry, r) ∙ first_stays (joined_from calls) (from_at entry.call r) n is
still_joined calls entry (Err e) n is = is

module _ {P Q K : Type 0} (rules : P → PortRules) (root : P → Histories) (busies : P → ℕ) (seen : Q → List Step) (mine : Q → List ℕ) (count : Q → ℕ) (takes : K → List ℕ → Put → K → Type 0) where
  calls_join : (player : Option ℕ) (port port' : P) (r : RecorderState Q) (turn : RecTurn) (r' : RecorderState Q) → Calls rules root busies seen mine count player port port' r turn r'
      → (n : ℕ) → joined_from r.seat.calls ≡ Some n → joined_from r'.seat.calls ≡ Some n
  calls_join None port port' r turn r' c n is = ap (λ (l : List Step). joined_from l) c.asks.calls ∙ still_joined r.seat.calls (entry_of r.seat.who call.Join) c.answer n is
  calls_join (Some player) port port' r turn r' c n is =
      ap (λ (l : List Step). joined_from l) c.asks.calls ∙ still_joined r.seat.calls (entry_of r.seat.who (call.Take player _)) c.answer n is

  pub works_join : (b : Bool) (port port' : P) (sink sink' : K) (r : RecorderState Q) (turn : RecTurn) (r' : RecorderState Q) → Works rules root busies seen mine count takes b port port' sink sink' r turn r'
      → (n : ℕ) → joined_from r.seat.calls ≡ Some n → joined_from r'.seat.calls ≡ Some n
  works_join false port port' sink sink' r turn r' w n is = ap (λ (s : SeatState Q). joined_from s.calls) w.seat_is ∙ is
  works_join true port port' sink sink' r turn r' w n is = calls_join r.player port port' r turn r' w.0 n is

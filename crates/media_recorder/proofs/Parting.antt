-- How a caller goes
use Rattle.std.proofs.Common.{◌≡◌, ℕ, List, Option, Some, None, sym, subst}
use Rattle.std.specs.declared.result.Result.{Result}
use Rattle.std.specs.declared.result.Result.TheVariants.{Ok, Err}
use Rattle.stream_model.specs.declared.calls.Shape.{Shape}
use Rattle.stream_model.specs.declared.calls.Entry.{Entry}
use Rattle.stream_model.specs.declared.calls.Call.TheVariants as call
use Rattle.stream_model.specs.declared.replies.Reply.{Reply}
use Rattle.turn_gate.specs.Histories.{Begins}
use Rattle.stream_registry.specs.declared.port.PortFail.{PortFail}
use Rattle.stream_registry.specs.declared.port.PortFail.TheVariants.{Worn}
use Rattle.stream_registry.specs.Names.{PortRules}
use Rattle.stream_registry.specs.Told.{Step, Histories}
use Rattle.media_recorder.specs.declared.turn.Leaving.TheVariants.{Done}
use Rattle.media_recorder.specs.Calls.{Stand}
use Rattle.media_recorder.specs.Ports.{FitsIf, seen_of, mine_of}
use Rattle.media_recorder.specs.Seats.{SeatState, StandIf, Asks}
use Rattle.media_recorder.specs.Turns.{RecorderState}
use Rattle.media_recorder.specs.Leaves.{Parts, LeaveEnds, LeavesAt, Goes}
use Rattle.media_recorder.proofs.Standing.{begins_trans, stand_if, stand_later}

seen_back : {Q : Type 0} (seen : Q → List Step) (root root' history : List Step) (pass : Option Q) → Begins root root' → Begins (seen_of seen root' pass) history → Begins (seen_of seen root pass) history
seen_back seen root root' history None r b = begins_trans root root' history r b
seen_back seen root root' history (Some p) r b = b

module _ {P Q : Type 0} (rules : P → PortRules) (root : P → Histories) (seen : Q → List Step) (mine : Q → List ℕ) where
  -- a pass whose calls stand in what it has seen is detached
  pub parts : (limits : Q → Shape) (fits : Q → Type 0) (port port' : P) (who place : ℕ) (pass : Option Q) (calls : List Step) → ((p : Q) → fits p → limits p ≡ (rules port).limits place)
      → FitsIf fits pass → StandIf limits seen mine who pass calls → Begins (seen_of seen (root port place) pass) (root port' place)
      → Parts rules root seen mine port port' (record { who = who; place = place; pass = pass; calls = calls })
  parts limits fits port port' who place pass calls ruled f s b = record {
    seen_first = b;
    calls_stand = stand_later ((rules port).limits place) who (seen_of seen (root port place) pass) (root port' place) (mine_of mine pass) calls b
        (stand_if limits seen mine fits ((rules port).limits place) ruled who (root port place) pass calls f s);
  }

  -- the same, told from before its last call
  parts_back : (port mid port' : P) (s : SeatState Q) → rules mid ≡ rules port → Begins (root port s.place) (root mid s.place) → Parts rules root seen mine mid port' s → Parts rules root seen mine port port' s
  parts_back port mid port' s same r p = record {
    seen_first = seen_back seen (root port s.place) (root mid s.place) (root port' s.place) s.pass r p.seen_first;
    calls_stand = subst (λ (x : PortRules). Stand (x.limits s.place) s.who (root port' s.place) (mine_of mine s.pass) s.calls) same p.calls_stand;
  }

  module _ (busies : P → ℕ) (count : Q → ℕ) where
    gone : (port mid port' : P) (r : RecorderState Q) (player : ℕ) (s' : SeatState Q) (answer : Result Reply PortFail)
        → (Parts rules root seen mine port port' s' → LeaveEnds rules root busies seen mine count answer port port' r s' Done)
        → r.player ≡ Some player → rules mid ≡ rules port → Begins (root port r.seat.place) (root mid r.seat.place) → busies port' ≡ busies mid
        → Asks seen mine count ((rules port).limits r.seat.place) (root port r.seat.place) (busies port) (busies mid) r.seat (call.Leave player) answer s'
        → Parts rules root seen mine mid port' s' → Goes rules root busies seen mine count r.player port port' r Done
    gone port mid port' r player s' answer ends has same begun idle asks p =
        let here : Begins (root port s'.place) (root mid s'.place) = subst (λ (q : ℕ). Begins (root port q) (root mid q)) (sym asks.place) begun in
        let at : LeavesAt rules root busies seen mine count player port port' r Done = record {
          answer = answer;
          seat = s';
          asks = subst (λ (b : ℕ). Asks seen mine count ((rules port).limits r.seat.place) (root port r.seat.place) (busies port) b r.seat (call.Leave player) answer s') (sym idle) asks;
          ends = ends (parts_back port mid port' s' same here p);
        } in
        subst (λ (o : Option ℕ). Goes rules root busies seen mine count o port port' r Done) (sym has) at

    pub gone_made : (port mid port' : P) (r : RecorderState Q) (player : ℕ) (s' : SeatState Q) (answer : Result Reply PortFail) (x : Reply) → answer ≡ Ok x
        → r.player ≡ Some player → rules mid ≡ rules port → Begins (root port r.seat.place) (root mid r.seat.place) → busies port' ≡ busies mid
        → Asks seen mine count ((rules port).limits r.seat.place) (root port r.seat.place) (busies port) (busies mid) r.seat (call.Leave player) answer s'
        → Parts rules root seen mine mid port' s' → Goes rules root busies seen mine count r.player port port' r Done
    gone_made port mid port' r player s' answer x is =
        gone port mid port' r player s' answer (λ p. subst (λ (a : Result Reply PortFail). LeaveEnds rules root busies seen mine count a port port' r s' Done) (sym is) p)

    pub gone_worn : (port mid port' : P) (r : RecorderState Q) (player : ℕ) (s' : SeatState Q) (answer : Result Reply PortFail) (e : Entry) → answer ≡ Err (Worn e)
        → r.player ≡ Some player → rules mid ≡ rules port → Begins (root port r.seat.place) (root mid r.seat.place) → busies port' ≡ busies mid
        → Asks seen mine count ((rules port).limits r.seat.place) (root port r.seat.place) (busies port) (busies mid) r.seat (call.Leave player) answer s'
        → Parts rules root seen mine mid port' s' → Goes rules root busies seen mine count r.player port port' r Done
    gone_worn port mid port' r player s' answer e is =
        gone port mid port' r player s' answer (λ p. subst (λ (a : Result Reply PortFail). LeaveEnds rules root busies seen mine count a port port' r s' Done) (sym is) p)

-- A call is made alone: its pass was there or came, and then the call is the port's
use Rattle.std.proofs.Common.{◌≡◌, ℕ, List, [], ◌∷◌, length, IfOk, ap, subst, arith, length-append}
use Rattle.std.specs.declared.result.Result.{Result}
use Rattle.stream_model.specs.declared.calls.Call.{Call}
use Rattle.stream_model.specs.declared.calls.Shape.{Shape}
use Rattle.stream_model.specs.declared.replies.Reply.{Reply}
use Rattle.turn_gate.specs.declared.view.Branch.{Branch}
use Rattle.stream_registry.specs.declared.port.PortFail.{PortFail}
use Rattle.stream_registry.specs.Names.{PortRules}
use Rattle.stream_registry.specs.Placed.{Placed, answered}
use Rattle.stream_registry.specs.Splits.{Kin, CallSplits}
use Rattle.stream_registry.specs.Told.{Step, Histories, Keeps}
use Rattle.media_recorder.specs.Seats.{SeatState, calls_after, entry_of}
use Rattle.media_recorder.specs.Alone.{AsksAlone, Enters, Reaches, ReachesIf, branches_of}

-- what a port says of a call that was made
pub reaches : (limits had has : Shape) (root known : List Step) (mine : List ℕ) (step : Step) (seen : List Step) (mine' : List ℕ) → has ≡ limits → Placed had root known mine step seen mine' → Keeps has seen → Reaches limits root seen
reaches limits had has root known mine step seen mine' e p k = record {
  long = omega (arith, ap length p.seen_is, ap length p.root_first.1, length-append root p.root_first.0, length-append p.before (step ∷ []));
  lawful = subst (λ (l : Shape). Keeps l seen) e k;
}

module _ {P Q : Type 0} (rules : P → PortRules) (adds : List Step → List Step → List Step → Type 0) (root : P → Histories) (seen : Q → List Step) (kin : P → Kin) (branches : Q → List Branch) where
  pub asks_alone : (port mid port' : P) (s : SeatState Q) (call : Call) (answer : Result Reply PortFail) (s' : SeatState Q) (pass : List Branch) → s'.calls ≡ calls_after s.calls (entry_of s.who call) answer
      → IfOk answer (λ _. ReachesIf seen ((rules port).limits s.place) (root port s.place) s'.pass) → ((q : ℕ) → root mid q ≡ root port q) → adds (root mid s.place) (answered (entry_of s.who call) answer) (root port' s.place) → Enters branches (kin port) s.place s.pass pass (kin mid)
      → CallSplits (kin mid) pass answer (kin port') (branches_of branches s'.pass) s.place → AsksAlone rules adds root seen kin branches port port' s call answer s'
  asks_alone port mid port' s call answer s' pass calls laws same a e k = record {
    calls = calls;
    laws = laws;
    history = subst (λ (h : List Step). adds h (answered (entry_of s.who call) answer) (root port' s.place)) (same s.place) a;
    between = kin mid;
    pass = pass;
    enters = e;
    splits = k;
  }

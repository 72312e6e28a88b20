-- No pass is lost in a turn
use Rattle.std.proofs.Common.{◌≡◌, ◌≢◌, inl, inr, ℕ, Bool, List, ◌++◌, refl, sym, ap, ◌∙◌, subst, append-nil, Option, Some, None}
use Rattle.turn_gate.specs.declared.view.Branch.{Branch}
use Rattle.turn_gate.specs.Branches.{Kindred}
use Rattle.turn_gate.proofs.Kindreds.{kindred_same, kindred_then}
use Rattle.command_dialog.specs.declared.types.Ask.{Ask}
use Rattle.command_dialog.specs.declared.types.Grant.{Grant}
use Rattle.relay_outside.specs.Heard.{Came}
use Rattle.relay_outside.specs.declared.link.Said.{Said}
use Rattle.stream_model.specs.declared.calls.Entry.{Entry}
use Rattle.stream_registry.specs.Names.{PortRules}
use Rattle.stream_registry.specs.Splits.{Kin}
use Rattle.stream_registry.specs.Told.{Step, Histories}
use Rattle.stream_registry.proofs.Kinning.{attached_kindred, called_kindred}
use Rattle.media_recorder.specs.Alone.{Enters, OneAtMost, branches_of}
use Rattle.media_recorder.specs.Seats.{SeatState as RecorderSeat}
use Rattle.passes_law.specs.Passes.{KeepsPasses, spot_of}
use Rattle.relay_session.specs.Places.{AskedAlone}
use Rattle.relay_session.specs.SeatState.{SeatState}
use Rattle.relay_session.specs.Turns.{EndedBy, Life}
use Rattle.relay_session.specs.declared.end.End.{End}
use Rattle.relay_session.specs.declared.seat_answers.Made.{Made}
use Rattle.relay_session.specs.declared.turn.Turn.{Turn}
use Rattle.passes_law.proofs.Passing.{asked_keeps, none_keeps, placed_keeps, then_keeps}
use Rattle.relay_worker.proofs.Moving.{moves_turned}

-- ---- of a session

module _ {P Q : Type 0} (fits : P → ℕ → Q → Type 0) (rules : P → PortRules) (root : P → Histories) (seen : Q → List Step) (count : Q → ℕ)
    (wants : Entry → Type 0) (busies : P → ℕ)
    (adds : List Step → List Step → List Step → Type 0) (kin : P → Kin) (branches : Q → List Branch) where
  abbrev Asks : P → SeatState Q → ℕ → Entry → Made → P → SeatState Q → Type 0
  Asks = AskedAlone fits rules root seen count wants busies adds kin branches

  abbrev Keeps : P → SeatState Q → P → SeatState Q → Type 0
  Keeps p s q t = KeepsPasses kin branches p s.spot q t.spot

  keeps_asked : (p : P) (s : SeatState Q) (place : ℕ) (e : Entry) (r : Made) (q : P) (t : SeatState Q) → Asks p s place e r q t → Keeps p s q t
  keeps_asked p s place e r q t a = asked_keeps branches kin p q s.spot t.spot place r a.asked.spot a.splits

  module _ (desk : Ask → Grant) {L : Type 0} (hears : L → ℕ → Came → L → Type 0) (says : L → List ℕ → Said → L → Type 0) where
    pub keeps_ended : (o : Option End) (quit : Bool) (v : Life P (SeatState Q)) (l : L) (a : Turn) (w : Life P (SeatState Q)) (m : L)
        → EndedBy Asks desk hears says o quit v l a w m
        → Keeps v.port v.seat w.port w.seat
    keeps_ended = moves_turned Keeps (λ p s. none_keeps branches kin p s.spot)
        (λ p s q t r u x y. then_keeps branches kin p q r s.spot t.spot u.spot x y) Asks keeps_asked desk hears says

-- ---- of a recorder

module _ {Q : Type 0} (branches : Q → List Branch) where
  entered : (kin kin' : Kin) (place : ℕ) (o : Option Q) (pass : List Branch) → Enters branches kin place o pass kin'
      → Kindred (kin place ++ branches_of branches o) (kin' place ++ pass)
  entered kin kin' place None pass e = subst (λ (l : List Branch). Kindred l (kin' place ++ pass)) (sym (append-nil (kin place)))
      (attached_kindred kin kin' place pass e.1 e.0)
  entered kin kin' place (Some p) pass e = kindred_same (kin place ++ branches p) (kin' place ++ pass)
      (ap (λ (k : Kin). k place ++ pass) e.1 ∙ ap (λ (l : List Branch). kin place ++ l) e.0)

  elsewhere : (kin kin' : Kin) (place : ℕ) (o : Option Q) (pass : List Branch) → Enters branches kin place o pass kin' → (q : ℕ) → q ≢ place → kin' q ≡ kin q
  elsewhere kin kin' place None pass e q d = e.1.others q d
  elsewhere kin kin' place (Some p) pass e q d = ap (λ (k : Kin). k q) e.1

module _ {P Q : Type 0} (rules : P → PortRules) (adds : List Step → List Step → List Step → Type 0) (root : P → Histories) (seen : Q → List Step)
    (kin : P → Kin) (branches : Q → List Branch) where
  stays_put : (x y : P) (s t : RecorderSeat Q) → OneAtMost rules adds root seen kin branches x y s t
      → KeepsPasses kin branches x (spot_of s.place s.pass) y (spot_of s.place t.pass)
  stays_put x y s t (inl e) = subst (λ (p : P). KeepsPasses kin branches x (spot_of s.place s.pass) p (spot_of s.place t.pass)) (sym e.0)
      (subst (λ (u : RecorderSeat Q). KeepsPasses kin branches x (spot_of s.place s.pass) x (spot_of s.place u.pass)) (sym e.1)
      (none_keeps branches kin x (spot_of s.place s.pass)))
  stays_put x y s t (inr w) =
      let a = w.1.1 in
      placed_keeps branches kin x y s.place s.pass t.pass
      (kindred_then (kin x s.place ++ branches_of branches s.pass) (a.between s.place ++ a.pass) (kin y s.place ++ branches_of branches t.pass)
      (entered branches (kin x) a.between s.place s.pass a.pass a.enters)
      (called_kindred (a.between s.place) a.pass (kin y s.place) (branches_of branches t.pass) w.1.0 a.splits.here))
      (λ q d. a.splits.others q d ∙ elsewhere branches (kin x) a.between s.place s.pass a.pass a.enters q d)

  -- ONE CALL AT MOST
  pub recorder_keeps : (x y : P) (s t : RecorderSeat Q) → t.place ≡ s.place → OneAtMost rules adds root seen kin branches x y s t
      → KeepsPasses kin branches x (spot_of s.place s.pass) y (spot_of t.place t.pass)
  recorder_keeps x y s t there a = subst (λ (n : ℕ). KeepsPasses kin branches x (spot_of s.place s.pass) y (spot_of n t.pass)) (sym there) (stays_put x y s t a)

-- A recorder with its file
use Rattle.std.specs.Prelude.{◌≡◌, ◌||◌, ℕ, Bool, List, Option, Some, is_some}
use Rattle.av_unit.specs.declared.item.Item.{Item}
use Rattle.flv_tags.specs.Text.{flv_text}
use Rattle.stream_registry.specs.Names.{PortRules}
use Rattle.stream_registry.specs.Splits.{Kin}
use Rattle.stream_registry.specs.Told.{Step, Histories}
use Rattle.turn_gate.specs.declared.view.Branch.{Branch}
use Rattle.relay_outside.specs.declared.sink.Put.{Put}
use Rattle.media_recorder.specs.declared.turn.RecTurn.{RecTurn}
use Rattle.media_recorder.specs.declared.turn.Leaving.{Leaving}
use Rattle.media_recorder.specs.declared.turn.Leaving.TheVariants as leaving
use Rattle.media_recorder.specs.Alone.{OneAtMost}
use Rattle.media_recorder.specs.Joined.{joined_from}
use Rattle.media_recorder.specs.Leaves.{Goes}
use Rattle.media_recorder.specs.Ports.{Serves}
use Rattle.media_recorder.specs.Says.{Says}
use Rattle.media_recorder.specs.Tallied.{Tallied}
use Rattle.media_recorder.specs.Transport.{recorded_text}
use Rattle.media_recorder.specs.Turns.{RecorderState, Turns}
use Rattle.relay_worker.specs.declared.recorder.RecordingForm.{RecordingForm}
use Rattle.relay_worker.specs.declared.recorder.RecordingForm.TheVariants as form
use Rattle.relay_worker.specs.declared.recorder.Recorder.{Recorder}
use Rattle.relay_worker.specs.declared.recorder.Recorder.TheVariants as recorder
use Rattle.relay_worker.specs.declared.recorder.Parted.{Parted}
use Rattle.relay_worker.specs.declared.recorder.Parted.TheVariants as parted

abbrev pub form_of : {P K Q : Type 0} → Recorder P K Q → RecordingForm
form_of (recorder.Flv r sink) = form.Flv
form_of (recorder.Ts r sink) = form.Ts

abbrev pub state_of : {P K Q : Type 0} → Recorder P K Q → RecorderState Q
state_of (recorder.Flv r sink) = r
state_of (recorder.Ts r sink) = r

abbrev pub sink_of : {P K Q : Type 0} → Recorder P K Q → K
sink_of (recorder.Flv r sink) = sink
sink_of (recorder.Ts r sink) = sink

-- the text of items in that form
abbrev pub text_in : RecordingForm → List Item → List ℕ
text_in form.Flv items = flv_text items
text_in form.Ts items = recorded_text items

abbrev pub text_of : {P K Q : Type 0} → Recorder P K Q → List Item → List ℕ
text_of r = text_in (form_of r)

-- it has joined its stream, or has ended
abbrev pub is_ready : {P K Q : Type 0} → Recorder P K Q → Bool
is_ready r = is_some (joined_from (state_of r).seat.calls) || is_some (state_of r).end

-- its file tells what was sent to it, and where it ended early, that has its cause: in the file's faults, in
-- the answer of its Join, or in all the calls that its pass has seen
abbrev pub Tallies : {P K Q : Type 0} → (Q → ℕ) → (K → Option (List ℕ)) → (K → ℕ) → Recorder P K Q → Type 0
Tallies count holds faults r = Tallied count (holds (sink_of r)) (faults (sink_of r)) (state_of r)

-- what became of the recorder alone
abbrev pub left_by : {P K Q : Type 0} → Parted P K Q → Leaving (RecorderState Q)
left_by (parted.Done sink) = leaving.Done
left_by (parted.Busy r) = leaving.Busy (state_of r)
left_by (parted.OutOfMemory r) = leaving.OutOfMemory (state_of r)

-- its file comes back, or it comes back with its file
abbrev pub KeepsFile : {P K Q : Type 0} → Recorder P K Q → Parted P K Q → Type 0
KeepsFile r (parted.Done sink) = sink ≡ sink_of r
KeepsFile r (parted.Busy r') = (sink_of r' ≡ sink_of r) × (form_of r' ≡ form_of r)
KeepsFile r (parted.OutOfMemory r') = (sink_of r' ≡ sink_of r) × (form_of r' ≡ form_of r)

-- HOW A RECORDER WITH ITS FILE LEAVES
pub record Leaves {P K Q : Type 0} (rules : P → PortRules) (root : P → Histories) (busies : P → ℕ)
    (seen : Q → List Step) (mine : Q → List ℕ) (count : Q → ℕ) (port port' : P) (r : Recorder P K Q) (answer : Parted P K Q) : Type 0 where
  pub goes : Goes rules root busies seen mine count (state_of r).player port port' (state_of r) (left_by answer)
  pub file : KeepsFile r answer

-- ONE TURN OF A RECORDER with its file. It makes one call at most, and nobody else makes any
pub record TakesTurn {P K Q : Type 0} (fits : P → ℕ → Q → Type 0) (rules : P → PortRules) (root : P → Histories) (busies : P → ℕ)
    (seen : Q → List Step) (mine : Q → List ℕ) (count : Q → ℕ) (adds : List Step → List Step → List Step → Type 0) (kin : P → Kin)
    (branches : Q → List Branch) (takes : K → List ℕ → Put → K → Type 0) (holds : K → Option (List ℕ))
    (port : P) (r : Recorder P K Q) (answer : RecTurn) (port' : P) (r' : Recorder P K Q) : Type 0 where
  pub serves : Serves rules root busies fits (state_of r).seat.place port port'
  pub alone : OneAtMost rules adds root seen kin branches port port' (state_of r).seat (state_of r').seat
  pub turn : Turns rules root busies seen mine count takes (state_of r).end port port' (sink_of r) (sink_of r')
      (state_of r) answer (state_of r')
  pub took : holds (sink_of r) ≡ Some (state_of r).tape.sent → holds (sink_of r') ≡ Some (state_of r').tape.sent
  pub says : Says mine (root port (state_of r).seat.place) (busies port) (busies port') answer (state_of r')
  pub who : (state_of r').seat.who ≡ (state_of r).seat.who
  pub place : (state_of r').seat.place ≡ (state_of r).seat.place
  pub form : form_of r' ≡ form_of r
  pub longest : (state_of r').tape.longest ≡ (state_of r).tape.longest

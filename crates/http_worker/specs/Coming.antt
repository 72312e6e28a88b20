-- HOW A WORKER COMES TO ITS END: by rounds, one after another
use Rattle.std.specs.Prelude.{ℕ, List, Option, Bool}
use Rattle.turn_gate.specs.declared.view.Branch.{Branch}
use Rattle.command_dialog.specs.declared.types.Ask.{Ask}
use Rattle.command_dialog.specs.declared.types.Grant.{Grant}
use Rattle.relay_outside.specs.Doors.{DoorTold}
use Rattle.relay_outside.specs.Heard.{Came}
use Rattle.relay_outside.specs.Told.{LinkTold, LinkCounts}
use Rattle.relay_outside.specs.declared.link.Said.{Said}
use Rattle.stream_model.specs.declared.calls.Entry.{Entry}
use Rattle.stream_registry.specs.Names.{PortRules}
use Rattle.stream_registry.specs.Splits.{Kin}
use Rattle.stream_registry.specs.Told.{Step, Histories}
use Rattle.relay_worker.specs.Rounds.{Walks}
use Rattle.relay_worker.specs.declared.round.Round.{Round}
use Rattle.http_worker.specs.Benches.{WorkerState}
use Rattle.http_worker.specs.Players.{Closes, TakesTurn}
use Rattle.http_worker.specs.Rounds.{Rounds}

module _ {P D Q L : Type 0} (fits : P → ℕ → Q → Type 0) (rules : P → PortRules) (root : P → Histories) (seen : Q → List Step)
    (count : Q → ℕ) (wants : Entry → Type 0) (busies : P → ℕ)
    (adds : List Step → List Step → List Step → Type 0) (kin : P → Kin) (branches : Q → List Branch)
    (told : L → Option LinkTold) (counts : L → LinkCounts) (hears : L → ℕ → Came → L → Type 0) (says : L → List ℕ → Said → L → Type 0)
    (ready : L → Bool → Type 0) (doors : D → DoorTold) (desk : Ask → Grant) where
  -- one round, whatever its answer
  abbrev pub RoundOn : WorkerState P D Q L → WorkerState P D Q L → Type 0
  RoundOn w w' = (answer : Round) × Rounds told counts doors
      (TakesTurn fits rules root seen count wants busies adds kin branches desk counts hears says) busies ready
      (Closes fits rules root seen count wants busies adds kin branches) w answer w'

  -- IT COMES THERE BY ROUNDS. Each begins with just what the one before left: the port, the door and the
  -- players. So no pass is split off and no call made but in a turn or a close of a player, in its own name
  pub record ByRounds (w w' : WorkerState P D Q L) : Type 0 where
    pub times : ℕ
    pub rounds : Walks (λ n. RoundOn) times w w'

-- Rounds, one after another
use Rattle.std.proofs.Common.{◌≡◌, ℕ, suc, List, Option, Bool, refl, subst, sym}
use Rattle.turn_gate.specs.declared.view.Branch.{Branch}
use Rattle.command_dialog.specs.declared.types.Ask.{Ask}
use Rattle.command_dialog.specs.declared.types.Grant.{Grant}
use Rattle.relay_outside.specs.Doors.{DoorTold}
use Rattle.relay_outside.specs.Heard.{Came}
use Rattle.relay_outside.specs.Told.{LinkTold, LinkCounts}
use Rattle.relay_outside.specs.declared.link.Said.{Said}
use Rattle.stream_model.specs.declared.calls.Entry.{Entry}
use Rattle.stream_registry.specs.Names.{PortRules}
use Rattle.stream_registry.specs.Splits.{Kin}
use Rattle.stream_registry.specs.Told.{Step, Histories}
use Rattle.http_worker.specs.Benches.{WorkerState}
use Rattle.http_worker.specs.Coming.{ByRounds, RoundOn}

module _ {P D Q L : Type 0} {fits : P → ℕ → Q → Type 0} {rules : P → PortRules} {root : P → Histories} {seen : Q → List Step}
    {count : Q → ℕ} {wants : Entry → Type 0} {busies : P → ℕ} {adds : List Step → List Step → List Step → Type 0}
    {kin : P → Kin} {branches : Q → List Branch}
    {told : L → Option LinkTold} {counts : L → LinkCounts} {hears : L → ℕ → Came → L → Type 0} {says : L → List ℕ → Said → L → Type 0}
    {ready : L → Bool → Type 0} {doors : D → DoorTold} {desk : Ask → Grant} where
  -- no round yet
  pub by_none : (w : WorkerState P D Q L)
      → ByRounds fits rules root seen count wants busies adds kin branches told counts hears says ready doors desk w w
  by_none w = record { times = 0; rounds = refl }

  -- a round more, and then nothing
  pub by_more : (u v m w : WorkerState P D Q L)
      → ByRounds fits rules root seen count wants busies adds kin branches told counts hears says ready doors desk u v
      → RoundOn fits rules root seen count wants busies adds kin branches told counts hears says ready doors desk v m
      → w ≡ m
      → ByRounds fits rules root seen count wants busies adds kin branches told counts hears says ready doors desk u w
  by_more u v m w b r e =
      let Goes : WorkerState P D Q L → Type 0 =
      λ x. RoundOn fits rules root seen count wants busies adds kin branches told counts hears says ready doors desk v x in
      record { times = suc b.times; rounds = (v, (b.rounds, subst Goes (sym e) r)) }

-- Turns and closes, one after another
use Rattle.std.proofs.Common.{ℕ, suc, List, refl}
use Rattle.turn_gate.specs.declared.view.Branch.{Branch}
use Rattle.relay_outside.specs.Heard.{Came}
use Rattle.relay_outside.specs.declared.link.Said.{Said}
use Rattle.stream_model.specs.declared.calls.Entry.{Entry}
use Rattle.stream_registry.specs.Names.{PortRules}
use Rattle.stream_registry.specs.Splits.{Kin}
use Rattle.stream_registry.specs.Told.{Histories, Step}
use Rattle.edge_serve.specs.Coming.{AtPort, ByCloses, ByTurns, CloseOn, OnLink, TurnOn}

module _ {P Q : Type 0} {fits : P → ℕ → Q → Type 0} {rules : P → PortRules} {root : P → Histories} {seen : Q → List Step}
    {count : Q → ℕ} {wants : Entry → Type 0} {busies : P → ℕ} {adds : List Step → List Step → List Step → Type 0}
    {kin : P → Kin} {branches : Q → List Branch} where
  -- no close yet
  pub no_close : (v : AtPort P Q) → ByCloses fits rules root seen count wants busies adds kin branches v v
  no_close v = record { times = 0; closes = refl }

  -- a close more
  pub close_more : (u v w : AtPort P Q) → ByCloses fits rules root seen count wants busies adds kin branches u v
      → CloseOn fits rules root seen count wants busies adds kin branches v w
      → ByCloses fits rules root seen count wants busies adds kin branches u w
  close_more u v w b c = record { times = suc b.times; closes = (v, (b.closes, c)) }

  module _ {L : Type 0} {hears : L → ℕ → Came → L → Type 0} {says : L → List ℕ → Said → L → Type 0} where
    -- no turn yet
    pub no_turn : (v : OnLink P Q L) → ByTurns fits rules root seen count wants busies adds kin branches hears says v v
    no_turn v = record { times = 0; turns = refl }

    -- a turn more
    pub turn_more : (u v w : OnLink P Q L) → ByTurns fits rules root seen count wants busies adds kin branches hears says u v
        → TurnOn fits rules root seen count wants busies adds kin branches hears says v w
        → ByTurns fits rules root seen count wants busies adds kin branches hears says u w
    turn_more u v w b t = record { times = suc b.times; turns = (v, (b.turns, t)) }

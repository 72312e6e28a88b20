use Rattle.std.proofs.Common.{◌≡◌, ◌<◌, ◌^◌, length, arith, ap}
use Rattle.stream_model.specs.History.{History}
use Rattle.stream_core.specs.Table.{known}
use Rattle.stream_registry.specs.Pasts.{past_of}
use Rattle.stream_registry.proofs.Counted.{few_answered}
use Rattle.stream_registry.proofs.Wanting.{desk_more, known_same}
use Rattle.stream_registry.proofs.place_table.PlaceTableMachine.apply.Goals as goal

pub apply-requires : goal.apply-requires
apply-requires c =
    let h = c.requires.0 in
    let few = few_answered h in
    let same : length (known c.args.self.now.table).past ≡ length (past_of h) = ap (λ (p : History). length p) c.requires.1.0 in
    let short : length h < 2 ^ 62 = c.requires.2 in
    omega arith

pub returns-clause-history : goal.returns-clause-history
returns-clause-history c = λ h s _. desk_more (known c.args.self.now.table) (known c.apply.new.self) h c.args.call c.apply.result c.apply.ensures.ok
    (known_same c.apply.result c.args.self.now.table c.apply.new.self c.apply.ensures.err) c.apply.ensures.memory s

use Rattle.std.proofs.Common.{◌≡◌, List, subst, sym, rules}
use Rattle.stream_model.specs.declared.calls.Shape.{Shape}
use Rattle.stream_registry.specs.Names.{AreTables, shapes_of}
use Rattle.stream_registry.proofs.Shaping.{tables}
use Rattle.stream_registry.proofs.shapes.place_shapes.Goals as goal

pub returns-clause-tables : goal.returns-clause-tables
returns-clause-tables c =
    let is : c.add_pools.new.list.items ≡ shapes_of c.args.limits c.args.names.now c.args.opens.now = search rules in
    subst (λ (l : List Shape). AreTables l) (sym is) (tables c.args.limits c.args.names.now c.args.opens.now c.requires)

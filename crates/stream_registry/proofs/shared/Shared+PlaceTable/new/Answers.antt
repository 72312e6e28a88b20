use Rattle.std.proofs.Common.{rules, refl, ◌≡◌, ◌∙◌, length}
use Rattle.std.proofs.lemmas.List.{length-map}
use Rattle.stream_registry.specs.declared.place_table.Site.{Site}
use Rattle.stream_registry.specs.Pasts.{Attempt}
use Rattle.stream_registry.specs.Names.{shapes_of}
use Rattle.stream_registry.specs.Roots.{Root}
use Rattle.stream_registry.specs.Sites.{AreNewRoots}
use Rattle.stream_registry.proofs.Placing.{sites_all, seen_all}
use Rattle.stream_registry.proofs.Shaping.{shapes_length}
use Rattle.stream_registry.proofs.shared.Shared+PlaceTable.new.Goals as goal

pub returns-clause-new : goal.returns-clause-new
returns-clause-new c =
    let shapes = shapes_of c.args.limits c.args.names c.args.opens in
    let all : AreNewRoots shapes c.in_ok-ways.ways = search rules in
    record { names_are = search rules; opens_are = search rules; gates_are = refl; unseen = seen_all shapes c.in_ok-ways.ways all; no_busies = refl }

pub returns-clause-gates : goal.returns-clause-gates
returns-clause-gates c =
    let shapes = shapes_of c.args.limits c.args.names c.args.opens in
    let all : AreNewRoots shapes c.in_ok-ways.ways = search rules in
    let count : length c.in_ok-ways.ways ≡ length shapes = search rules in
    (sites_all shapes c.in_ok-ways.ways all, length-map c.in_ok-ways.ways (λ (k : Root Site Attempt). k.gate) ∙ (count ∙ shapes_length c.args.limits c.args.names c.args.opens))

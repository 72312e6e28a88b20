use Rattle.std.proofs.Common.{rules, refl, ◌≡◌, ◌∙◌, ap, length, map}
use Rattle.std.proofs.lemmas.List.{length-map}
use Rattle.stream_registry.specs.Names.{shapes_of}
use Rattle.stream_registry.specs.Books.{new_book}
use Rattle.stream_registry.proofs.Booking.{empty_journals, limits_new}
use Rattle.stream_registry.proofs.Shaping.{shapes_length, few_places}
use Rattle.stream_registry.proofs.sole.Sole.new.Goals as goal

pub invariant_of-result : goal.invariant_of-result
invariant_of-result c =
    let shapes = shapes_of c.args.limits c.args.names c.args.opens in
    let books : c.in_ok-books.books.items ≡ map new_book shapes = search rules in
    (limits_new shapes c.in_ok-books.books.items books, ap length books ∙ (length-map shapes new_book ∙ shapes_length c.args.limits c.args.names c.args.opens), few_places c.args.names c.args.opens c.requires)

pub returns : goal.returns
returns c =
    let shapes = shapes_of c.args.limits c.args.names c.args.opens in
    let books : c.in_ok-books.books.items ≡ map new_book shapes = search rules in
    (refl, empty_journals shapes c.in_ok-books.books.items books)

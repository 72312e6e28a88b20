use Rattle.std.proofs.Common.{◌≡◌, map, take}
use Rattle.stream_registry.specs.Books.{new_book}
use Rattle.stream_registry.proofs.sole.new_books.Given as goal

abbrev pub invariant-loop-shape : goal.invariant-loop-shape
invariant-loop-shape l = l.books.items ≡ map new_book (take l.shape-index l.shapes)

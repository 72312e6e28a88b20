use Rattle.std.proofs.Common.{rules, ◌≡◌, ◌<◌, ◌∙◌, length, get_or, sym, ap}
use Rattle.stream_registry.specs.Names.{shape_at, shapes_of}
use Rattle.stream_registry.specs.Books.{SoleRules, journal_at, shapes_in}
use Rattle.stream_registry.proofs.Booking.{journal_is, limits_at, held_same, most_same}
use Rattle.stream_registry.proofs.sole.Sole.held.Goals as goal

pub returns-clause-sum : goal.returns-clause-sum
returns-clause-sum c =
    let books = c.self.inside.books.items in
    let there : c.args.place < length books = search rules in
    let book = c.index-book.result.now in
    let read : book ≡ get_or books c.args.place book = search rules in
    let rules_are : record { names = c.self.inside.names; opens = c.self.inside.opens; limits = c.self.inside.limits } ≡ c.args.self.now.rules = search rules in
    let limits : book.limits ≡ shape_at (shapes_in c.args.self.now.rules) c.args.place =
    limits_at books (shapes_of c.self.inside.limits c.self.inside.names c.self.inside.opens) c.args.place book c.self.invariant.0 there read ∙ ap (λ (r : SoleRules). shape_at (shapes_in r) c.args.place) rules_are in
    let view : books ≡ c.args.self.now.books = search rules in
    let journal : book.journal ≡ journal_at c.args.self.now.books c.args.place = sym (journal_is books c.args.place book there read) ∙ ap (λ l. journal_at l c.args.place) view in
    held_same c.held.result book.limits (shape_at (shapes_in c.args.self.now.rules) c.args.place) book.journal (journal_at c.args.self.now.books c.args.place) limits journal c.held.ensures.sum

pub returns-clause-most : goal.returns-clause-most
returns-clause-most c =
    let books = c.self.inside.books.items in
    let there : c.args.place < length books = search rules in
    let book = c.index-book.result.now in
    let read : book ≡ get_or books c.args.place book = search rules in
    let rules_are : record { names = c.self.inside.names; opens = c.self.inside.opens; limits = c.self.inside.limits } ≡ c.args.self.now.rules = search rules in
    let limits : book.limits ≡ shape_at (shapes_in c.args.self.now.rules) c.args.place =
    limits_at books (shapes_of c.self.inside.limits c.self.inside.names c.self.inside.opens) c.args.place book c.self.invariant.0 there read ∙ ap (λ (r : SoleRules). shape_at (shapes_in r) c.args.place) rules_are in
    most_same c.held.result book.limits (shape_at (shapes_in c.args.self.now.rules) c.args.place) limits c.held.ensures.most

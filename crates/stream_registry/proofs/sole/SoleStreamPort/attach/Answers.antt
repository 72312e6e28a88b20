use Rattle.std.proofs.Common.{rules, ◌≡◌, ◌<◌, ◌∙◌, length, get_or, sym, ap, subst, append-nil, []}
use Rattle.stream_registry.specs.Names.{shape_at, shapes_of}
use Rattle.stream_registry.specs.Books.{BookState, SoleRules, journal_at, shapes_in}
use Rattle.stream_registry.proofs.Booking.{journal_is, limits_at}
use Rattle.stream_registry.proofs.sole.SoleStreamPort.attach.Goals as goal

pub returns-clause-pass : goal.returns-clause-pass
returns-clause-pass c =
    let books = c.self.inside.books.items in
    let there : c.args.place < length books = search rules in
    let read : c.index-book.result.now ≡ get_or books c.args.place c.index-book.result.now = search rules in
    let value : c.of.result.value ≡ c.index-book.result.now = search rules in
    let view : books ≡ c.args.self.now.books = search rules in
    let room : c.args.place < length c.args.self.now.books = subst (λ l. c.args.place < length l) view there in
    let rules_are : record { names = c.self.inside.names; opens = c.self.inside.opens; limits = c.self.inside.limits } ≡ c.args.self.now.rules = search rules in
    let about : c.of.result.value.limits ≡ shape_at (shapes_in c.args.self.now.rules) c.args.place =
    ap (λ (b : BookState). b.limits) value ∙ (limits_at books (shapes_of c.self.inside.limits c.self.inside.names c.self.inside.opens) c.args.place c.index-book.result.now c.self.invariant.0 there read ∙ ap (λ (r : SoleRules). shape_at (shapes_in r) c.args.place) rules_are) in
    let journal : c.of.result.value.journal ≡ journal_at c.args.self.now.books c.args.place =
    ap (λ (b : BookState). b.journal) value ∙ (sym (journal_is books c.args.place c.index-book.result.now there read) ∙ ap (λ l. journal_at l c.args.place) view) in
    (record { there = room; limits = about; seen = ([], append-nil c.of.result.value.journal ∙ journal) }, about)

pub returns-clause-seen : goal.returns-clause-seen
returns-clause-seen c =
    let books = c.self.inside.books.items in
    let there : c.args.place < length books = search rules in
    let read : c.index-book.result.now ≡ get_or books c.args.place c.index-book.result.now = search rules in
    let value : c.of.result.value ≡ c.index-book.result.now = search rules in
    let view : books ≡ c.args.self.now.books = search rules in
    (ap (λ (b : BookState). b.journal) value ∙ (sym (journal_is books c.args.place c.index-book.result.now there read) ∙ ap (λ l. journal_at l c.args.place) view), search rules)

use Rattle.std.proofs.Common.{rules, ◌≡◌, ◌<◌, ◌∙◌, List, length, get_or, sym, ap, subst, IfOk}
use Rattle.stream_registry.specs.Told.{Step}
use Rattle.stream_registry.specs.Placed.{Placed}
use Rattle.stream_registry.specs.Books.{journal_at}
use Rattle.stream_registry.proofs.Booking.{journal_is, length_set, limits_set, sole_call}
use Rattle.stream_registry.proofs.sole.SoleStreamPort.call.Goals as goal

pub returns-clause-pass : goal.returns-clause-pass
returns-clause-pass c =
    let s = sole_call c.args.self.now record { names = c.self.inside.names; opens = c.self.inside.opens; limits = c.self.inside.limits } c.self.inside.books.items c.args.place c.index_mut.result.now c.ask.new.book c.args.pass.now c.ask.new.pass (search rules) (search rules) c.requires (search rules) c.ask.ensures.book.1 c.ask.ensures.pass.0 c.ask.ensures.pass.1 in
    (s.fits, c.ask.ensures.pass.0, s.seen)

pub returns-clause-reply : goal.returns-clause-reply
returns-clause-reply c =
    let books = c.self.inside.books.items in
    let there : c.args.place < length books = search rules in
    let read : c.index_mut.result.now ≡ get_or books c.args.place c.index_mut.result.now = search rules in
    let view : books ≡ c.args.self.now.books = search rules in
    let journal : c.index_mut.result.now.journal ≡ journal_at c.args.self.now.books c.args.place = sym (journal_is books c.args.place c.index_mut.result.now there read) ∙ ap (λ l. journal_at l c.args.place) view in
    subst (λ (h : List Step). IfOk c.ask.result (λ r. Placed c.args.pass.now.limits h c.args.pass.now.seen c.args.pass.now.mine (c.args.entry, r) c.ask.new.pass.seen c.ask.new.pass.mine)) journal c.ask.ensures.reply

pub returns-clause-here : goal.returns-clause-here
returns-clause-here c =
    let s = sole_call c.args.self.now record { names = c.self.inside.names; opens = c.self.inside.opens; limits = c.self.inside.limits } c.self.inside.books.items c.args.place c.index_mut.result.now c.ask.new.book c.args.pass.now c.ask.new.pass (search rules) (search rules) c.requires (search rules) c.ask.ensures.book.1 c.ask.ensures.pass.0 c.ask.ensures.pass.1 in
    s.later c.args.place

pub returns-clause-others : goal.returns-clause-others
returns-clause-others c =
    let s = sole_call c.args.self.now record { names = c.self.inside.names; opens = c.self.inside.opens; limits = c.self.inside.limits } c.self.inside.books.items c.args.place c.index_mut.result.now c.ask.new.book c.args.pass.now c.ask.new.pass (search rules) (search rules) c.requires (search rules) c.ask.ensures.book.1 c.ask.ensures.pass.0 c.ask.ensures.pass.1 in
    s.others

pub returns-clause-fits : goal.returns-clause-fits
returns-clause-fits c =
    let s = sole_call c.args.self.now record { names = c.self.inside.names; opens = c.self.inside.opens; limits = c.self.inside.limits } c.self.inside.books.items c.args.place c.index_mut.result.now c.ask.new.book c.args.pass.now c.ask.new.pass (search rules) (search rules) c.requires (search rules) c.ask.ensures.book.1 c.ask.ensures.pass.0 c.ask.ensures.pass.1 in
    s.still

pub invariant_of-self : goal.invariant_of-self
invariant_of-self c =
    let books = c.self.inside.books.items in
    let there : c.args.place < length books = search rules in
    let read : c.index_mut.result.now ≡ get_or books c.args.place c.index_mut.result.now = search rules in
    (limits_set books c.args.place c.index_mut.result.now c.ask.new.book there read c.ask.ensures.book.0 ∙ c.self.invariant.0, length_set books c.args.place c.ask.new.book ∙ c.self.invariant.1, c.self.invariant.2)

use Rattle.std.proofs.Common.{◌≡◌, ◌<◌, ◌^◌, ◌∙◌, length, arith, ap, rules}
use Rattle.std.specs.Prelude.{reverse}
use Rattle.std.proofs.lemmas.List.{length-reverse}
use Rattle.stream_core.specs.Table.{known}
use Rattle.stream_registry.proofs.Alone.{alone_at}
use Rattle.stream_registry.proofs.book.Book.call.Goals as goal

pub apply_twice-requires : goal.apply_twice-requires
apply_twice-requires c =
    let journal = c.self.inside.journal.items in
    let same : length (known c.self.inside.table).past ≡ length journal = ap length c.self.invariant.0 ∙ length-reverse journal in
    let short : length journal < 2 ^ 62 = search rules in
    omega (arith, same, short)

pub returns-in-Ok-apply_twice-clause-alone : goal.returns-in-Ok-apply_twice-clause-alone
returns-in-Ok-apply_twice-clause-alone c =
    alone_at c.takes_alone.ensures c.takes_alone_at_pools.ensures c.args.self.now.limits (reverse c.args.self.now.journal) c.args.entry c.in-Ok-apply_twice.reply c.laws.ensures.keeps.rules (search rules)

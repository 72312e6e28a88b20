use Rattle.std.proofs.Common.{List, rules, subst, ℕ}
use Rattle.flv_tags.specs.Feeds.{IsRefused}
use Rattle.client_command.proofs.Filming.{feed_stops}
use Rattle.client_command.proofs.film.read.Goals as goal

pub returns-in_err-used-clause-err : goal.returns-in_err-used-clause-err
returns-in_err-used-clause-err c =
    let h = feed_stops c.args.film.now c.feed.new.self c.in_err-used.field-0.0 c.requires.reading (subst (λ (x : List ℕ). IsRefused c.args.film.now.reader x c.in_err-used.field-0.0 c.feed.new.self) c.left.ensures.value (c.in_err-used.ensures.err c.requires.reading.lives)) in
    search (rules, h)

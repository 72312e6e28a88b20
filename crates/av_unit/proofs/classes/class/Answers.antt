use Rattle.std.proofs.Common.{◌≡◌, drop, rules}
use Rattle.av_unit.specs.Classes.{finer, message_type}
use Rattle.av_unit.proofs.Alone.{again}
use Rattle.av_unit.proofs.classes.class.Goals as goal

pub returns-clause-again : goal.returns-clause-again
returns-clause-again c =
    let rest = drop c.in_ok-kind.field-0.from c.args.body.now in
    let kind = c.in_ok-kind.field-0.kind in
    let is : c.finer.result ≡ finer c.args.size rest kind = search rules in
    let same : message_type c.finer.result ≡ message_type kind = search rules in
    again c.args.size rest kind c.finer.result is same c.in_ok-kind.ensures.again

use Rattle.std.proofs.Common.{Some, not, refl, ap}
use Rattle.relay_config.specs.Refusals.{is_known}
use Rattle.relay_config.proofs.Keys.{first_is}
use Rattle.relay_config.proofs.check.unknown_key.Goals as goal

pub returns-in-Some : goal.returns-in-Some
returns-in-Some c =
    first_is (λ k. not (is_known c.args.rows.now k)) c.in_ok-as_table.field-0.now.entries _ _ _
    c.in_ok-as_table.ensures c.in-Some.ensures (ap Some c.as_str.ensures.value)

pub returns-in-None : goal.returns-in-None
returns-in-None c = first_is (λ k. not (is_known c.args.rows.now k)) c.in_ok-as_table.field-0.now.entries _ _ _ c.in_ok-as_table.ensures c.in-None.ensures refl

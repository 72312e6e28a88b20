use Rattle.std.proofs.Common.{◌≡◌, Some, false, length, drop, sym, ◌∙◌}
use Rattle.std.specs.Prelude.{◌&&◌, nat_lt}
use Rattle.av_unit.specs.Fits.{is_config}
use Rattle.av_unit.specs.Classes.{kind_of}
use Rattle.av_unit.proofs.Alone.{alone}
use Rattle.av_unit.proofs.classes.table_class.Goals as goal

pub returns-clause-again : goal.returns-clause-again
returns-clause-again c no_text =
    let rest = drop c.front-from.result c.args.body.now in
    let is : kind_of c.args.message_kind rest ≡ Some c.in_ok-kind.kind = sym (rw c.after-rest.ensures at c.in_ok-kind.ensures.value) in
    let small : (is_config c.in_ok-kind.kind && nat_lt 65536 (length rest)) ≡ false = sym (rw c.after-rest.ensures at c.is_too_long.ensures) ∙ c.if-is_too_long.false in
    rw c.in_ok-kind.ensures.type_of_kind (alone c.args.message_kind rest c.in_ok-kind.kind is small no_text)

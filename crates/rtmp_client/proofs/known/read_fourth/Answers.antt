use Rattle.std.proofs.Common.{refl}
use Rattle.rtmp_client.proofs.Knowing.{fourth_read}
use Rattle.rtmp_client.proofs.known.read_fourth.Goals as goal

pub returns : goal.returns
returns c =
    fourth_read c.args.bytes.now c.in_ok-level.field-0-1.now c.in_ok-code.field-0-1.now c.in_ok-description.field-0-1.now c.in_ok-value.rest.now
    c.in_ok-level.level c.in_ok-code.code c.in_ok-description.description c.in_ok-value.value
    (record { number = c.bits_in.result; level = c.text_or_none.result; code = c.text_or_none-2.result; description = c.text_or_none-3.result }) c.in_ok-level.ensures c.in_ok-code.ensures c.in_ok-description.ensures c.in_ok-value.ensures
    (rw (c.bits_in.ensures, c.text_or_none.ensures, c.text_or_none-2.ensures, c.text_or_none-3.ensures) refl)

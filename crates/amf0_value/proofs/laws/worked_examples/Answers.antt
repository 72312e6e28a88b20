use Rattle.amf0_value.proofs.Examples.{number, boolean_is, text_is, object_is, ecma_is, bad_end, cut, count, marker, deep, not_too_deep}
use Rattle.amf0_value.proofs.laws.worked_examples.Goals as goal

pub returns : goal.returns
returns c =
    record { number = number; boolean = boolean_is; text = text_is; object = object_is; ecma = ecma_is; bad_end = bad_end; cut = cut; count = count; marker = marker; deep = deep; not_too_deep = not_too_deep }

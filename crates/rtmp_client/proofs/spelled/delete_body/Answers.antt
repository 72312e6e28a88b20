use Rattle.std.proofs.Common.{ℕ, ◌++◌, ap, ◌∙◌}
use Rattle.std.specs.Prelude.{codes}
use Rattle.amf0_value.specs.Tree.{null, number, text}
use Rattle.amf0_value.specs.Pattern.{pattern}
use Rattle.amf0_value.specs.Encoding.{spelling}
use Rattle.rtmp_client.proofs.Spelling.{four_parts}
use Rattle.rtmp_client.proofs.spelled.delete_body.Goals as goal

pub returns : goal.returns
returns c =
    four_parts c.in_ok-out.out c.put_null.new.out c.put_number.new.out (spelling (text (codes "deleteStream"))) (spelling (number (pattern 4))) (spelling null) (spelling (number (pattern c.args.id)))
    c.in_ok-out.ensures c.in_ok-put_null.ensures (c.in_ok-put_number.ensures ∙ ap (λ (n : ℕ). c.put_null.new.out ++ spelling (number n)) (c.bits_of.ensures.value ∙ ap pattern c.from.ensures))

use Rattle.std.proofs.Common.{◌≡◌, length, ap, arith, rules}
use Rattle.flv_tags.specs.Text.{item_bytes}
use Rattle.http_flv.proofs.Sounding.{item_length}
use Rattle.http_flv.proofs.texts.tag_text.Goals as goal

pub returns-clause-short : goal.returns-clause-short
returns-clause-short c =
    let text : c.write_item.new.out ≡ item_bytes c.args.item.now = search rules in
    omega (arith, ap length text, item_length c.args.item.now, c.body_len.ensures.value, c.if-body_len-longest.false)

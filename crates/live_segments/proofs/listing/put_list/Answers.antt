use Rattle.std.specs.Prelude.{option_to_list}
use Rattle.live_segments.proofs.Lists.{whole_text}
use Rattle.live_segments.proofs.listing.put_list.Goals as goal

pub returns : goal.returns
returns c =
    whole_text c.args.name.now c.args.most c.args.first c.args.gone c.args.rows.now (option_to_list c.args.last) c.args.ended c.args.out.now c.put_head.new.out c.put_rows.new.out c.put_open.new.out c.put_end.new.out
    c.in_ok-put_head.ensures c.in_ok-put_rows.ensures c.in_ok-put_open.ensures c.in_ok-put_end.ensures

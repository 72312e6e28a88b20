use Rattle.rtmp_client.proofs.Spelling.{url_parts}
use Rattle.rtmp_client.proofs.spelled.tc_url.Goals as goal

pub returns : goal.returns
returns c =
    url_parts c.args.asked.now c.new-url.result c.append.new.self c.append-2.new.self c.append-3.new.self c.append-4.new.self c.as_slice.result.now c.as_slice-2.result.now
    c.new-url.ensures c.as_slice.ensures c.as_slice-2.ensures c.in_ok-append.ensures.ok c.in_ok-append-2.ensures.ok c.in_ok-append-3.ensures.ok c.in_ok-append-4.ensures.ok

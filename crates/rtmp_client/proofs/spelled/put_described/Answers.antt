use Rattle.std.proofs.Common.{ap, arith, length, ◌∙◌}
use Rattle.rtmp_client.proofs.Sayable.{url_short}
use Rattle.rtmp_client.proofs.Spelling.{described_parts}
use Rattle.rtmp_client.proofs.spelled.put_described.Goals as goal

pub put_text-requires : goal.put_text-requires
put_text-requires c = omega (arith, ap length c.as_slice.ensures, c.requires.app_most)

pub put_text-requires-3 : goal.put_text-requires-3
put_text-requires-3 c = omega (arith, ap length (c.as_slice-2.ensures ∙ c.in_ok-url.ensures), url_short c.args.asked.now c.requires)

pub returns : goal.returns
returns c =
    described_parts c.args.asked.now c.args.out.now c.append.new.self c.put_text.new.out c.append-2.new.self c.put_text-2.new.out c.append-3.new.self c.put_text-3.new.out c.append-4.new.self
    c.as_slice.result.now c.as_slice-2.result.now c.as_slice.ensures (c.as_slice-2.ensures ∙ c.in_ok-url.ensures)
    c.in_ok-append.ensures.ok c.in_ok-put_text.ensures c.in_ok-append-2.ensures.ok c.in_ok-put_text-2.ensures c.in_ok-append-3.ensures.ok c.in_ok-put_text-3.ensures c.in_ok-append-4.ensures.ok

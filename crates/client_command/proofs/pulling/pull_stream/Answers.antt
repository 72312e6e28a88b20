use Rattle.client_command.specs.Pulls.{pull_seen}
use Rattle.client_command.proofs.Pulled.{new_none, new_plays, no_client, pull_outcome}
use Rattle.client_command.proofs.pulling.pull_stream.Goals as goal

pub returns-in-Err : goal.returns-in-Err
returns-in-Err g c =
    let seen = pull_seen (g.L.Link.told c.args.link.now) (g.L.Link.counts c.args.link.now) (g.K.Sink.holds c.args.out.now) (g.K.Sink.faults c.args.out.now) in
    no_client _ seen c.with_code.result c.with_code.ensures

pub pull_all-run-requires-clause-none : goal.pull_all-run-requires-clause-none
pull_all-run-requires-clause-none g c = new_none c.in-Ok.client c.in-Ok.ensures.fresh

pub returns-in-Ok : goal.returns-in-Ok
returns-in-Ok g c =
    let L = g.L.Link in
    let K = g.K.Sink in
    let t = c.pull_all-run in
    let old = pull_seen (L.told c.args.link.now) (L.counts c.args.link.now) (K.holds c.args.out.now) (K.faults c.args.out.now) in
    let new = pull_seen (L.told t.new.link) (L.counts t.new.link) (K.holds t.new.out) (K.faults t.new.out) in
    let plays = new_plays _ c.in-Ok.client old c.in-Ok.ensures.asked c.in-Ok.ensures.fresh c.in-Ok.ensures.live in
    pull_outcome t.result c.end.result.now t.new.client _ old new c.tell_end.result c.end.ensures (t.ensures _ old plays) c.tell_end.ensures

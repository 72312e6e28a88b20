use Rattle.std.proofs.Common.{length}
use Rattle.stream_registry.specs.Names.{places}
use Rattle.http_flv.proofs.Standing.{unread_at}
use Rattle.http_flv.proofs.turns.hear_on.Goals as goal

pub returns-in-Err-clause-at : goal.returns-in-Err-clause-at
returns-in-Err-clause-at g c =
    let P = g.P.StreamPort in
    unread_at (P.fits c.args.port.now) (places (P.rules c.args.port.now)) c.args.body.now.core c.read_bytes.new.core c.args.bytes.now c.args.body.now.seat c.in-Err.ensures.failed c.in-Err.ensures.stays c.requires.at

use Rattle.std.proofs.Common.{ap, arith, ◌<◌, length}
use Rattle.std.proofs.lemmas.Result.{err_from_is_err_and}
use Rattle.amf0_value.specs.Tree.{item, no_items}
use Rattle.rtmp_command.proofs.Hearing.{nothing_more, one_more, first_fails, later_fails}
use Rattle.rtmp_client.specs.Known.{known_with}
use Rattle.rtmp_client.proofs.known.read_behind_transaction.Goals as goal

pub returns-then-bytes-eq0 : goal.returns-then-bytes-eq0
returns-then-bytes-eq0 c = (no_items, nothing_more c.args.bytes.now c.if-bytes-eq0.true, ap (known_with c.args.name c.args.transaction) c.nothing.ensures)

pub returns-in_err-rest : goal.returns-in_err-rest
returns-in_err-rest c =
    let p = err_from_is_err_and c.from_residual.result c.from_residual.ensures.1 in
    let lt : 0 < length c.args.bytes.now = omega (arith, c.if-bytes-eq0.false) in
    rw (p.1, p.2) (first_fails c.args.bytes.now c.in_err-rest.field-0.0 lt c.in_err-rest.ensures)

pub returns-in_err-known : goal.returns-in_err-known
returns-in_err-known c =
    let p = err_from_is_err_and c.from_residual-in_err-known.result c.from_residual-in_err-known.ensures.1 in
    let h = c.in_ok-rest.ensures in
    rw (p.1, p.2) (later_fails c.args.bytes.now c.in_ok-rest.rest.now h.0 c.in_err-known.field-0.0 h.1 c.in_err-known.ensures)

pub returns : goal.returns
returns c =
    let h = c.in_ok-rest.ensures in
    let m = c.in_ok-known.ensures in
    (item h.0 m.0, one_more c.args.bytes.now c.in_ok-rest.rest.now h.0 m.0 h.1 m.1, m.2)

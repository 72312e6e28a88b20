use Rattle.std.proofs.Common.{ap, ◌∙◌, arith, ◌<◌, length}
use Rattle.std.proofs.lemmas.Result.{err_from_is_err_and}
use Rattle.amf0_value.specs.Tree.{item, no_items}
use Rattle.rtmp_command.specs.Heard.{number_in_brief}
use Rattle.rtmp_command.proofs.Hearing.{nothing_more, one_more, first_fails, later_fails}
use Rattle.rtmp_client.specs.Known.{behind_transaction, known_with}
use Rattle.rtmp_client.proofs.known.read_behind_name.Goals as goal

pub returns-then-bytes-eq0 : goal.returns-then-bytes-eq0
returns-then-bytes-eq0 c = (no_items, nothing_more c.args.bytes.now c.if-bytes-eq0.true, ap (known_with c.args.name 0) c.nothing.ensures)

pub returns-in_err-second : goal.returns-in_err-second
returns-in_err-second c =
    let p = err_from_is_err_and c.from_residual.result c.from_residual.ensures.1 in
    let lt : 0 < length c.args.bytes.now = omega (arith, c.if-bytes-eq0.false) in
    rw (p.1, p.2) (first_fails c.args.bytes.now c.in_err-second.field-0.0 lt c.in_err-second.ensures)

pub returns-in_err-known : goal.returns-in_err-known
returns-in_err-known c =
    let p = err_from_is_err_and c.from_residual-in_err-known.result c.from_residual-in_err-known.ensures.1 in
    let h = c.in_ok-second.ensures in
    rw (p.1, p.2) (later_fails c.args.bytes.now c.in_ok-second.rest.now h.0 c.in_err-known.field-0.0 h.1 c.in_err-known.ensures)

pub returns : goal.returns
returns c =
    let h = c.in_ok-second.ensures in
    let m = c.in_ok-known.ensures in
    (item h.0 m.0, one_more c.args.bytes.now c.in_ok-second.rest.now h.0 m.0 h.1 m.1, m.2 ∙ ap (λ n. behind_transaction c.args.name n m.0) (c.number.ensures ∙ ap number_in_brief h.2))

use Rattle.std.proofs.Common.{ap}
use Rattle.client_owed.specs.declared.types.Asked.{Asked}
use Rattle.client_command.specs.Pushes.{push_seen}
use Rattle.client_command.proofs.Pushed.{new_gives, new_open, no_client, push_outcome}
use Rattle.client_command.proofs.pushing.push_stream.Goals as goal

pub returns-in-Err : goal.returns-in-Err
returns-in-Err g c =
    let seen = push_seen (g.S.Source.left c.args.input.now) (g.S.Source.faults c.args.input.now) (g.L.Link.told c.args.link.now) (g.L.Link.counts c.args.link.now) in
    no_client _ seen c.with_code.result c.with_code.ensures

pub push_all-stop-requires-clause-may : goal.push_all-stop-requires-clause-may
push_all-stop-requires-clause-may g c =
    let e = c.in-Ok.ensures in
    new_open c.in-Ok.client (ap (λ (x : Asked). x.wish) e.asked) e.fresh e.live

pub returns-in-Ok : goal.returns-in-Ok
returns-in-Ok g c =
    let L = g.L.Link in
    let S = g.S.Source in
    let t = c.push_all-stop in
    let f = c.new_film-film in
    let e = c.in-Ok.ensures in
    let old = push_seen (S.left c.args.input.now) (S.faults c.args.input.now) (L.told c.args.link.now) (L.counts c.args.link.now) in
    let new = push_seen (S.left t.new.input) (S.faults t.new.input) (L.told t.new.link) (L.counts t.new.link) in
    let gives = new_gives _ c.in-Ok.client f.result old e.asked e.fresh e.live f.ensures.none f.ensures.given in
    push_outcome t.result c.end.result.now t.new.client _ old new c.tell_end.result c.end.ensures (t.ensures _ old gives) c.tell_end.ensures

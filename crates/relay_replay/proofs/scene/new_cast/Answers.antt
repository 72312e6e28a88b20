use Rattle.std.proofs.Common.{◌≡◌, [], length, map, subst, sym, rules}
use Rattle.relay_replay.specs.Scenes.{Sits, name_of, open_name}
use Rattle.relay_replay.proofs.New.{new_sits}
use Rattle.relay_replay.proofs.scene.new_cast.Goals as goal

pub returns-clause-sits : goal.returns-clause-sits
returns-clause-sits c =
    let port = c.in_ok-port.port in
    let rs = c.in_ok-recorders.recorders.items in
    let streams = c.args.places.now in
    let opens = c.args.opens.now in
    let names : port.rules.names ≡ map name_of streams = search rules in
    let tables : port.rules.opens ≡ map open_name opens = search rules in
    let made : c.new-2.result ≡ record { port = port; sessions = []; recorders = rs } = search rules in
    subst (Sits streams opens (length c.args.plans.now)) (sym made)
    (new_sits streams opens c.args.plans.now port rs (record { names = names; tables = tables }) c.in_ok-recorders.ensures.new c.requires.spots)

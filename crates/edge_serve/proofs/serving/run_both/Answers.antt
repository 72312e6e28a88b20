use denote.Param.Send.{sendable}
use Rattle.std.proofs.Crossing.{crosses}
use Rattle.stream_registry.proofs.Crossing.{port_send}
use Rattle.edge_serve.proofs.serving.run_both.Goals as goal

pub join-requires-send-F : goal.join-requires-send-F
join-requires-send-F g c κs within =
    let b = c.type_bounds in
    let t = b.sync-T in
    let l = b.send-L in
    let q = b.send-Q in
    let p = port_send in
    search (sendable, crosses) depth 40 fits 20000

pub join-requires-send-A : goal.join-requires-send-A
join-requires-send-A g c κs within =
    let l = c.type_bounds.send-L in
    let p = port_send in
    search (sendable, crosses) depth 40 fits 20000

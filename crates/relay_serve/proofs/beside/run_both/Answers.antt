use denote.Exit.{yes}
use denote.Param.{param}
use denote.Param.Send.{arg_send, param_send, sendable}
use Rattle.std.proofs.Crossing.{crosses}
use Rattle.http_worker.proofs.Crossing.{worker_field, worker_send}
use Rattle.relay_serve.proofs.beside.run_both.Goals as goal

pub join-requires-send-F : goal.join-requires-send-F
join-requires-send-F g c κs within =
    let b = c.type_bounds in
    let t = b.sync-T in
    let d = b.sync-G in
    let w = worker_send (param 1 g.row.P) (param 6 g.row.P-Pass) g.P.StreamPort (param 2 g.row.D) (param 3 g.row.R) (param 7 g.row.D-Link) g.D.Door g.D.Link.Link b.send-P b.send-D b.send-R b.send-P-Pass b.send-D-Link in
    let f = worker_field (param 1 g.row.P) (param 6 g.row.P-Pass) g.P.StreamPort (param 2 g.row.D) (param 3 g.row.R) (param 7 g.row.D-Link) g.D.Door g.D.Link.Link b.send-P b.send-D b.send-R b.send-P-Pass b.send-D-Link in
    search (sendable, crosses) depth 40 fits 20000

pub join-requires-send-A : goal.join-requires-send-A
join-requires-send-A g c κs within =
    let b = c.type_bounds in
    param_send 3 _ (arg_send _ yes _ (worker_send (param 1 g.row.P) (param 6 g.row.P-Pass) g.P.StreamPort (param 2 g.row.D) (param 3 g.row.R) (param 7 g.row.D-Link) g.D.Door g.D.Link.Link b.send-P b.send-D b.send-R b.send-P-Pass b.send-D-Link))

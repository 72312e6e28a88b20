use denote.Exit.{yes}
use denote.Param.Send.{arg_send, param_send, sendable}
use Rattle.std.proofs.Crossing.{crosses}
use Rattle.stream_registry.proofs.Crossing.{port_send}
use Rattle.server_tests.proofs.sessions.one_thread_plays_what_another_publishes.Goals as goal

pub join-near-requires-send-F : goal.join-near-requires-send-F
join-near-requires-send-F g c κs within =
    let p = port_send in
    search (sendable, crosses) depth 40 fits 20000

pub join-near-requires-send-A : goal.join-near-requires-send-A
join-near-requires-send-A g c κs within = param_send 3 _ (arg_send _ yes _ port_send)

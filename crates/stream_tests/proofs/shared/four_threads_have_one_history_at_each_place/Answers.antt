use denote.Exit.{yes}
use denote.Param.Send.{arg_send, param_send, sendable}
use Rattle.std.proofs.Crossing.{crosses}
use Rattle.stream_registry.proofs.Crossing.{port_send}
use Rattle.stream_tests.proofs.shared.four_threads_have_one_history_at_each_place.Goals as goal

pub join-port-requires-send-F : goal.join-port-requires-send-F
join-port-requires-send-F g c κs within =
    let p = port_send in
    search (sendable, crosses) depth 40 fits 20000

pub join-port-requires-send-A : goal.join-port-requires-send-A
join-port-requires-send-A g c κs within = param_send 3 _ (arg_send _ yes _ port_send)

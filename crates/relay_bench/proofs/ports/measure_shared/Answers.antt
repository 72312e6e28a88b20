use denote.Exit.{yes}
use denote.Param.Send.{arg_send, param_send}
use Rattle.stream_registry.proofs.Crossing.{pass_send, port_send}
use Rattle.relay_bench.proofs.ports.measure_shared.Goals as goal

pub run_all-requires-send-P : goal.run_all-requires-send-P
run_all-requires-send-P g c κs within = param_send 1 _ (arg_send _ yes _ port_send)

pub run_all-requires-send-P-Pass : goal.run_all-requires-send-P-Pass
run_all-requires-send-P-Pass g c κs within = param_send 2 _ (arg_send _ yes _ pass_send)

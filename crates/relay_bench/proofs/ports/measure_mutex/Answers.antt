use denote.Exit.{yes}
use denote.Param.Send.{arg_send, param_send}
use Rattle.relay_bench.proofs.Crossing.{busy_send}
use Rattle.relay_bench.proofs.ports.measure_mutex.Goals as goal

pub run_mutexes-requires-send-T : goal.run_mutexes-requires-send-T
run_mutexes-requires-send-T g c κs within = param_send 1 _ (arg_send _ yes _ busy_send)

use Rattle.std.proofs.Common.{◌≡◌}
use Rattle.rtmp_client.specs.ClientState.{lasting_of}
use Rattle.client_tests.proofs.tests.turned.Given as goal

abbrev pub invariant-loop : goal.invariant-loop
invariant-loop l = lasting_of l.client.parts ≡ lasting_of l.initial.client.parts

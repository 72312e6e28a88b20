-- New clients
use Rattle.std.proofs.Common.{◌≡◌, length, Option, None, Result, Ok, Err, ap, arith, subst}
use Rattle.std.specs.Prelude.{IfOk, []}
use Rattle.av_unit.specs.declared.bytes.OutOfMemory.{OutOfMemory}
use Rattle.client_owed.specs.Standing.{new_keeps, new_past}
use Rattle.rtmp_client.specs.ClientState.{ClientState, StandsBy, StandsFor}
use Rattle.rtmp_client.specs.Keeping.{keeps_of, past_of}
use Rattle.rtmp_client.specs.declared.end.ClientEnd.{ClientEnd}
use Rattle.client_command.specs.Runs.{most_message}
use Rattle.client_command.specs.Turned.{IsLive, IsNew}

pub new_live : (r : Result ClientState OutOfMemory) → IfOk r (λ c. c.ended ≡ None) → IfOk r (λ c. c.parts.reader.max ≡ most_message) → IfOk r (λ c. StandsFor c) → IfOk r (λ c. c.input ≡ []) → IfOk r IsLive
new_live (Ok c) e m s i = record { lives = e; max = m; short = omega (arith, ap length i); stands = subst (λ (o : Option ClientEnd). StandsBy o c.parts) e s }
new_live (Err f) e m s i = tt

pub new_is : (r : Result ClientState OutOfMemory) → IfOk r (λ c. past_of c.parts ≡ new_past) → IfOk r (λ c. keeps_of c.parts ≡ new_keeps)
    → IfOk r (λ c. c.parts.outgoing.others ≡ length c.parts.outgoing.pending) → IfOk r (λ c. c.input ≡ []) → IfOk r IsNew
new_is (Ok c) p k o i = record { past = p; keeps = k; others = o; input = i }
new_is (Err f) p k o i = tt

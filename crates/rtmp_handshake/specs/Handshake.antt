-- What contracts see of a handshake.
use Rattle.std.specs.Prelude.{ℕ, ◌+◌, ◌-◌, nat_lt, if◌then◌else◌, List, length, min, Option, Some, None, Result, Ok, Err}
use Rattle.rtmp_handshake.specs.declared.fail.HandFail.{HandFail}
use Rattle.rtmp_handshake.specs.declared.fail.HandFail.TheVariants.{BadVersion, OutOfMemory}

-- the client's bytes that it has read, the oldest first, and how it failed, if it did
pub record Handshake : Type 0 where
  pub fed : List ℕ
  pub failed : Option HandFail

-- the version that an answer refuses
abbrev pub refused_version : {X : Type 0} → Result X HandFail → Option ℕ
refused_version (Ok _) = None
refused_version (Err (BadVersion byte)) = Some byte
refused_version (Err OutOfMemory) = None

-- HOW MANY BYTES IT KEEPS after it has read n: those of C1's time and random bytes among them, until it has
-- answered or failed
abbrev pub held_by : Option HandFail → ℕ → ℕ
held_by None n = if nat_lt n 1537 then min 4 (n - 1) + min 1528 (n - 9) else 0
held_by (Some e) n = 0

abbrev pub held_of : Handshake → ℕ
held_of h = held_by h.failed (length h.fed)

-- What is read of a packet that is written
use Rattle.std.specs.Prelude.{◌≡◌, ℕ, ◌-◌, ◌≤◌, Bool, true, List, length, drop, Some, is_some}
use Rattle.pes_packets.specs.declared.flags.PesFlags.{PesFlags}
use Rattle.pes_packets.specs.Packet.{IsCounter, IsPid, packet, room}
use Rattle.ts_reader.specs.Fields.{counter_in, is_plain, is_synced, packet_size, payload_at, pid_in, starts}

-- a payload that a packet has room for
pub record MayCarry (pid counter : ℕ) (flags : PesFlags) (payload : List ℕ) : Type 0 where
  pub pid_fits : IsPid pid
  pub counter_fits : IsCounter counter
  pub some : 1 ≤ length payload
  pub fits : length payload ≤ room flags

-- a packet with this PID, this counter and this payload, which starts a unit or not, and has a clock reference or none
pub record IsPacket (pid counter : ℕ) (start clock : Bool) (payload p : List ℕ) : Type 0 where
  pub size : length p ≡ packet_size
  pub synced : is_synced p ≡ true
  pub plain : is_plain p ≡ true
  pub start_is : starts p ≡ start
  pub pid_is : pid_in p ≡ pid
  pub counter_is : counter_in p ≡ counter
  pub place : payload_at clock p ≡ Some (packet_size - length payload)
  pub payload_is : drop (packet_size - length payload) p ≡ payload

-- A PACKET IS READ as it was written: it has a clock reference exactly where its flags tell one
abbrev pub IsRead : ℕ → ℕ → Bool → PesFlags → List ℕ → Type 0
IsRead pid counter start flags payload = IsPacket pid counter start (is_some flags.pcr) payload (packet pid counter start flags payload)

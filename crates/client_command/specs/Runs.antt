-- What a client has done over a link, and why it ends
use Rattle.std.specs.Prelude.{◌≡◌, ◌≤◌, ◌++◌, ℕ, List, [], ◌∷◌, drop, length, None}
use Rattle.relay_outside.specs.Counts.{Rose}
use Rattle.relay_outside.specs.Told.{LinkCounts, LinkTold}
use Rattle.std.specs.declared.option.Option.{Option}
use Rattle.chunk_reader.specs.Sound.{IsRead}
use Rattle.chunk_wire.specs.declared.message.Message.{Message}
use Rattle.session_owed.specs.Talk.{hand_bytes}
use Rattle.client_owed.specs.declared.types.Asked.{Asked}
use Rattle.client_owed.specs.declared.types.Gave.{Gave}
use Rattle.client_owed.specs.declared.types.Gift.{Gift}
use Rattle.client_owed.specs.Owed.{AreGiven, out}
use Rattle.client_owed.specs.Pulled.{pulled}
use Rattle.client_owed.specs.Standing.{count_of}
use Rattle.rtmp_client.specs.Feeding.{Decides}
use Rattle.rtmp_client.specs.Refusing.{refused}
use Rattle.rtmp_client.specs.declared.end.ClientEnd.{ClientEnd}
use Rattle.rtmp_client.specs.declared.end.ClientEnd.TheVariants as end
use Rattle.client_command.specs.Ends.{How, ByClient}
use Rattle.client_command.specs.Traffic.{IsCalm, Passed}

-- the longest message that is taken and sent
abbrev pub most_message : ℕ
most_message = 4194304

-- how many bytes a client takes of its link at a time, at most
abbrev pub most_received : ℕ
most_received = 4096

-- none of the messages ends a client
abbrev pub AreFriendly : List (ℕ × Message) → Type 0
AreFriendly [] = Unit {0}
AreFriendly (m ∷ ms) = (refused 0 m.1 ≡ None) × AreFriendly ms

-- A CLIENT WAS FED the bytes y, which read as the messages ms and end no client, of those that the link gave;
-- it was given T and told these gifts, and what the link took is what it owes for them, but for these bytes more
pub record HasRun (k : Asked) (y rest : List ℕ) (ms : List (ℕ × Message)) (T : List Gave) (gifts : List Gift) (more : List ℕ) (old new : Option LinkTold) : Type 0 where
  pub took : List ℕ
  pub passed : Passed (y ++ rest) took old new
  pub read : IsRead most_message (drop hand_bytes y) ms
  pub friendly : AreFriendly ms
  pub owes : took ++ more ≡ out k y ms T
  pub given : AreGiven k most_message (count_of y) ms T
  pub told : gifts ≡ pulled k ms

-- OF WHAT THE LINK GAVE THESE BYTES WEREN'T FED: no more than are taken at a time, and none where the server
-- closed it
pub record IsUnfed (how : How) (rest : List ℕ) : Type 0 where
  pub few : length rest ≤ most_received
  pub none : how ≡ ByClient end.PeerClosed → rest ≡ []

-- the byte decides: so many stand before it
abbrev pub Decided : List (ℕ × Message) → List ℕ → ClientEnd → Type 0
Decided ms all e = (n : ℕ) × Decides most_message ms all n e

-- WHY THE CLIENT ENDS, where the link gave all these bytes, and first those of the messages ms
abbrev pub Causes : ClientEnd → List (ℕ × Message) → List ℕ → LinkCounts → LinkCounts → Type 0
Causes end.PeerClosed ms all n n' = Rose n.ends n'.ends × (n'.faults ≡ n.faults)
Causes end.LinkFault ms all n n' = Rose n.faults n'.faults × (n'.ends ≡ n.ends)
Causes (end.BadVersion at) ms all n n' = Decided ms all (end.BadVersion at) × IsCalm n n'
Causes (end.BadChunk cause at) ms all n n' = Decided ms all (end.BadChunk cause at) × IsCalm n n'
Causes (end.BadControl at) ms all n n' = Decided ms all (end.BadControl at) × IsCalm n n'
Causes (end.BadCommand at) ms all n n' = Decided ms all (end.BadCommand at) × IsCalm n n'
Causes (end.Refused code description) ms all n n' = Decided ms all (end.Refused code description) × IsCalm n n'
Causes end.Done ms all n n' = ⊥
Causes end.OutOfMemory ms all n n' = IsCalm n n'

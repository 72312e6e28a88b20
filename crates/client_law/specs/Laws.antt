-- A client and a session that have read each other
use Rattle.std.specs.Prelude.{◌≡◌, ◌≤◌, ◌^◌, ◌-◌, ℕ, false, List, ◌++◌, length, drop}
use Rattle.av_unit.specs.Media.{Media}
use Rattle.chunk_wire.specs.declared.message.Message.{Message}
use Rattle.chunk_reader.specs.Sound.{IsRead}
use Rattle.chunk_writer.specs.WriterKnown.{fresh}
use Rattle.chunk_writer.specs.Written.{written}
use Rattle.chunk_law.specs.ReadBack.{AreReadable}
use Rattle.command_dialog.specs.State.{State}
use Rattle.session_owed.specs.Dialogue.{Dialogue}
use Rattle.session_owed.specs.Owed as session
use Rattle.session_owed.specs.Published.{published}
use Rattle.session_owed.specs.Talk.{Own, hand_bytes, talk}
use Rattle.client_owed.specs.declared.types.Asked.{Asked}
use Rattle.client_owed.specs.declared.types.Gave.{Gave}
use Rattle.client_owed.specs.Owed.{AreGiven, out, owed}
use Rattle.client_law.specs.Loud.{Rise, bare, units}

-- the address and the names have lengths that are sent
pub record IsNamed (k : Asked) : Type 0 where
  pub address : length k.address ≤ 255
  pub app : length k.app ≤ 255
  pub name : length k.name ≤ 255

-- THEY HAVE READ EACH OTHER: the client the messages ns, with which the session's begin, in n bytes of
-- chunks, and the session all that the client owes for them, which are the messages ms, in o bytes of chunks;
-- and none of its calls waits
pub record HaveRead (k : Asked) (d : Dialogue State) (max n o : ℕ) (ns ms : List (ℕ × Message)) (T : List Gave) (C : List Own) : Type 0 where
  pub named : IsNamed k
  pub rise : Rise 0 n ns
  pub given : AreGiven k max n ns T
  pub heard : bare ms ≡ owed k n ns T
  pub later : List Message
  pub told : bare ns ++ later ≡ session.owed d o ms C
  pub made : (talk d C ms).stuck ≡ false

-- THEY HAVE READ EACH OTHER so far: the client the messages ns, with which the session's begin, in n bytes of
-- chunks, and the session the messages ms, with which the client's begin, in o bytes of chunks
pub record HaveBegun (k : Asked) (d : Dialogue State) (max n o : ℕ) (ns ms : List (ℕ × Message)) (T : List Gave) (C : List Own) : Type 0 where
  pub named : IsNamed k
  pub rise : Rise 0 n ns
  pub given : AreGiven k max n ns T
  pub rest : List Message
  pub heard : bare ms ++ rest ≡ owed k n ns T
  pub later : List Message
  pub told : bare ns ++ later ≡ session.owed d o ms C

-- these units are the first of those
abbrev pub Begins : List Media → List Media → Type 0
Begins a b = (later : List Media) × (a ++ later ≡ b)

-- WHAT A SESSION PUBLISHES of these messages begins the units of the tags that its client was given
abbrev pub IsPublished : Dialogue State → List (ℕ × Message) → List Gave → List Own → Type 0
IsPublished d ms T C = Begins (published d ms C) (units T)

-- THE BYTES OF EACH HAVE COME TO THE OTHER: all that the client owes to the session, and the first of what
-- the session owes to the client, at least its handshake. Both take messages of up to max bytes, what the
-- session owes can be read, and none of its calls waits. The client was given T
pub record HaveSent (k : Asked) (d : Dialogue State) (max : ℕ) (x y : List ℕ) (ms ns : List (ℕ × Message)) (T : List Gave) (C : List Own) : Type 0 where
  pub named : IsNamed k
  pub least : 4096 ≤ max
  pub most : max ≤ 4194304
  pub greeted : hand_bytes ≤ length y
  pub given : AreGiven k max (length y - hand_bytes) ns T
  pub sent : x ≡ out k y ns T
  pub rest : List ℕ
  pub told : y ++ rest ≡ session.out d x ms C
  pub session_read : IsRead max (drop hand_bytes x) ms
  pub client_read : IsRead max (drop hand_bytes y) ns
  pub session_says : AreReadable max (session.owed d (session.count_of d x) ms C)
  pub near : length (written fresh (session.owed d (session.count_of d x) ms C)) ≤ 2 ^ 62
  pub made : (talk d C ms).stuck ≡ false

-- THE FIRST BYTES OF EACH HAVE COME TO THE OTHER, which take messages of up to max bytes, and what the session
-- owes can be read. The client was given T
pub record HaveCome (k : Asked) (d : Dialogue State) (max : ℕ) (x y : List ℕ) (ms ns : List (ℕ × Message)) (T : List Gave) (C : List Own) : Type 0 where
  pub named : IsNamed k
  pub least : 4096 ≤ max
  pub most : max ≤ 4194304
  pub given : AreGiven k max (length y - hand_bytes) ns T
  pub rest : List ℕ
  pub sent : x ++ rest ≡ out k y ns T
  pub left : List ℕ
  pub told : y ++ left ≡ session.out d x ms C
  pub session_read : IsRead max (drop hand_bytes x) ms
  pub client_read : IsRead max (drop hand_bytes y) ns
  pub client_near : length (written fresh (owed k (length y - hand_bytes) ns T)) ≤ 2 ^ 62
  pub session_says : AreReadable max (session.owed d (session.count_of d x) ms C)
  pub session_near : length (written fresh (session.owed d (session.count_of d x) ms C)) ≤ 2 ^ 62

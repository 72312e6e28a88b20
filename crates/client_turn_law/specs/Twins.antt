-- WHEN TWO CLIENTS ARE ALIKE, and what two turns of theirs have in common
use Rattle.std.specs.Prelude.{◌≡◌, ◌≢◌, ℕ, Bool, List, [], length, Option, None, Some}
use Rattle.client_owed.specs.declared.types.Asked.{Asked}
use Rattle.client_owed.specs.declared.types.Gave.{Gave}
use Rattle.client_owed.specs.declared.types.Gift.{Gift}
use Rattle.client_owed.specs.declared.types.Given.{Given}
use Rattle.client_owed.specs.declared.types.Phase.{Phase}
use Rattle.client_owed.specs.Standing.{Keeps, Past, gave_more, new_keeps, new_past, with_given}
use Rattle.relay_outside.specs.MemLinks.{MemLinkState}
use Rattle.rtmp_client.specs.ClientState.{ClientState, has_started, life_of, untouched_of, without_gift}
use Rattle.rtmp_client.specs.Keeping.{keeps_of, past_of}
use Rattle.rtmp_client.specs.Owing.{Counts}
use Rattle.rtmp_client.specs.Turns.{Life}
use Rattle.rtmp_client.specs.declared.core_fields.Core.{Core}
use Rattle.rtmp_client.specs.declared.end.ClientEnd.{ClientEnd}
use Rattle.rtmp_client.specs.declared.end.ClientEnd.TheVariants as end
use Rattle.rtmp_client.specs.declared.end.ClientTurn.{ClientTurn}

-- ---- clients

-- all that decides what a client does from then on: what it asks, the longest message that it takes, its
-- past, what it keeps of what it owes and is told, how many of the bytes pending are of no tag, and the bytes
-- received and not fed
pub record Seen : Type 0 where
  pub asked : Asked
  pub max : ℕ
  pub past : Past
  pub keeps : Keeps
  pub others : ℕ
  pub input : List ℕ

abbrev pub seen_of : Life → Seen
seen_of v = record {
  asked = v.parts.asked;
  max = v.parts.reader.max;
  past = past_of v.parts;
  keeps = keeps_of v.parts;
  others = v.parts.outgoing.others;
  input = v.input;
}

-- TWO CLIENTS THAT LIVE ARE ALIKE
abbrev pub Alike : Life → Life → Type 0
Alike v w = seen_of w ≡ seen_of v

-- what a client that has ended was fed, given and told, and what it has sent. What it was still to send is free
pub record Left : Type 0 where
  pub asked : Asked
  pub max : ℕ
  pub y : List ℕ
  pub gave : List Gave
  pub sent : List ℕ
  pub taken : List Gift
  pub gift : Option Gift
  pub finished : Bool
  pub phase : Phase

abbrev pub left_of : Core → Left
left_of c = record {
  asked = c.asked;
  max = c.reader.max;
  y = c.y;
  gave = c.gave;
  sent = c.sent;
  taken = c.taken;
  gift = c.gift;
  finished = c.finished;
  phase = c.phase;
}

-- two that have ended
abbrev pub Parted : Core → Core → Type 0
Parted c d = left_of d ≡ left_of c

abbrev pub SameBy : Option ClientEnd → ClientState → ClientState → Type 0
SameBy None s t = Alike (life_of s) (life_of t)
SameBy (Some e) s t = Parted s.parts t.parts

-- TWO CLIENTS ARE ALIKE: both live, or both have ended so
pub record AreAlike (s t : ClientState) : Type 0 where
  pub ended : t.ended ≡ s.ended
  pub same : SameBy s.ended s t

-- what alike clients tell: why they have ended, whether they have started, and the gift that waits
pub record TellTheSame (s t : ClientState) : Type 0 where
  pub ended : t.ended ≡ s.ended
  pub started : has_started t.parts.phase ≡ has_started s.parts.phase
  pub gift : t.parts.gift ≡ s.parts.gift
  pub pending : s.ended ≡ None → length t.parts.outgoing.pending ≡ length s.parts.outgoing.pending

-- ---- turns

-- it hasn't ended for want of memory
abbrev pub HasMemory : ClientState → Type 0
HasMemory s = s.ended ≢ Some end.OutOfMemory

-- TWO TURNS THAT DID THE SAME, with their links
pub record SameTurn (a : ClientTurn) (s : ClientState) (l : MemLinkState) (b : ClientTurn) (t : ClientState) (m : MemLinkState) : Type 0 where
  pub answer : b ≡ a
  pub clients : AreAlike s t
  pub link : m ≡ l

-- ---- what else is done with a client

-- a new client that asks this and takes messages of so many bytes at most: what `Client::new` says of it
pub record IsBegun (k : Asked) (max : ℕ) (c : ClientState) : Type 0 where
  pub asked : c.parts.asked ≡ k
  pub max_is : c.parts.reader.max ≡ max
  pub past : past_of c.parts ≡ new_past
  pub keeps : keeps_of c.parts ≡ new_keeps
  pub others : c.parts.outgoing.others ≡ length c.parts.outgoing.pending
  pub input : c.input ≡ []
  pub lives : c.ended ≡ None

-- a client that lives was given this: what `Client::give` and `Client::finish` say of it
pub record WasGiven (g : Given) (c d : ClientState) : Type 0 where
  pub lives : c.ended ≡ None
  pub past : past_of d.parts ≡ with_given (past_of c.parts) (record { at = length c.parts.y; given = g })
  pub keeps : keeps_of d.parts ≡ gave_more (keeps_of c.parts) g
  pub counts : Counts g c.parts.outgoing d.parts.outgoing
  pub untouched : untouched_of d ≡ untouched_of c

-- the gift that waited was taken: what `Client::take` leaves
abbrev pub gift_taken : ClientState → ClientState
gift_taken s = record s { parts = without_gift s.parts }

-- HOW AN EDGE HAS PULLED, and why it has ended
use Rattle.std.specs.Prelude.{◌≡◌, ◌≤◌, ◌^◌, ◌+◌, ℕ, false, List, [], ◌∷◌, ◌++◌, length, drop, Option, Some, None}
use Rattle.chunk_reader.specs.Sound.{IsRead}
use Rattle.chunk_wire.specs.declared.message.Message.{Message}
use Rattle.client_command.specs.Traffic.{IsCalm, Passed}
use Rattle.client_owed.specs.Owed.{out}
use Rattle.client_owed.specs.Pulled.{pulled}
use Rattle.client_owed.specs.declared.types.Asked.{Asked}
use Rattle.origin_calls.specs.Calls.{edge_calls, entries, entry_of}
use Rattle.origin_pull.specs.Keeping.{AreHere, granted_by, made}
use Rattle.origin_pull.specs.declared.end.EdgeEnd.{EdgeEnd}
use Rattle.origin_pull.specs.declared.end.EdgeEnd.TheVariants as edge
use Rattle.relay_outside.specs.Counts.{Rose}
use Rattle.relay_outside.specs.Told.{LinkCounts, LinkTold}
use Rattle.relay_session.specs.SeatState.{last_of}
use Rattle.relay_session.specs.SeatVisits.{AllStand, Visit, calls_of}
use Rattle.relay_session.specs.declared.seat_answers.Active.{Active}
use Rattle.relay_session.specs.declared.seat_answers.Active.TheVariants as active
use Rattle.relay_worker.specs.Books.{LeavesBy}
use Rattle.rtmp_client.specs.Feeding.{Decides}
use Rattle.rtmp_client.specs.declared.end.ClientEnd.{ClientEnd}
use Rattle.rtmp_client.specs.declared.end.ClientEnd.TheVariants as client
use Rattle.session_owed.specs.Talk.{Own, hand_bytes}
use Rattle.stream_model.specs.declared.calls.Call.{Call}
use Rattle.stream_model.specs.declared.calls.Call.TheVariants as call
use Rattle.stream_model.specs.declared.calls.Entry.{Entry}
use Rattle.stream_model.specs.declared.calls.Shape.{Shape}
use Rattle.stream_model.specs.declared.replies.Reply.{Reply}
use Rattle.stream_model.specs.declared.replies.Reply.TheVariants as reply
use Rattle.stream_registry.specs.Told.{Histories}

-- THE NAME of the edge, and its place: the first
abbrev pub edge_name : ℕ
edge_name = 2 ^ 61 + 2 ^ 60

abbrev pub edge_place : ℕ
edge_place = 0

-- what is seen of the link to the origin: its bytes, where it tells them, and its counts
pub record Origin : Type 0 where
  pub told : Option LinkTold
  pub counts : LinkCounts

abbrev pub origin : Option LinkTold → LinkCounts → Origin
origin told counts = record { told = told; counts = counts }

-- ---- why it has ended

-- the byte behind those that were fed decides
abbrev pub Decided : ℕ → ℕ → List ℕ → ClientEnd → Type 0
Decided max fed all e = (ms : List (ℕ × Message)) × Decides max ms all fed e

-- its peer has closed: the link has ended, without a fault, and all that it gave was fed
pub record HasClosed (fed : ℕ) (all : List ℕ) (n n' : LinkCounts) : Type 0 where
  pub rose : Rose n.ends n'.ends
  pub faults : n'.faults ≡ n.faults
  pub all_fed : length all ≡ fed

-- WHY ITS CLIENT HAS, where the link gave all these bytes, so many of which were fed
abbrev pub ClientCause : ClientEnd → ℕ → ℕ → List ℕ → LinkCounts → LinkCounts → Type 0
ClientCause client.PeerClosed max fed all n n' = HasClosed fed all n n'
ClientCause client.LinkFault max fed all n n' = Rose n.faults n'.faults × (n'.ends ≡ n.ends)
ClientCause (client.BadVersion at) max fed all n n' = Decided max fed all (client.BadVersion at) × IsCalm n n'
ClientCause (client.BadChunk cause at) max fed all n n' = Decided max fed all (client.BadChunk cause at) × IsCalm n n'
ClientCause (client.BadControl at) max fed all n n' = Decided max fed all (client.BadControl at) × IsCalm n n'
ClientCause (client.BadCommand at) max fed all n n' = Decided max fed all (client.BadCommand at) × IsCalm n n'
ClientCause (client.Refused code description) max fed all n n' = Decided max fed all (client.Refused code description) × IsCalm n n'
ClientCause client.Done max fed all n n' = ⊥
ClientCause client.OutOfMemory max fed all n n' = ⊥

-- the last of these calls of the name is this one, answered so
abbrev pub IsLast : ℕ → Call → Reply → List Own → Type 0
IsLast who c r calls = (before : List Own) × (calls ≡ before ++ (entry_of who c, r) ∷ [])

-- WHY IT HAS: by its client, as somebody else publishes at its place, or as that has no slot for it. A full
-- history and want of memory are no matter of the link: they are told of apart
abbrev pub EdgeCause : EdgeEnd → Option ClientEnd → ℕ → List Own → ℕ → ℕ → List ℕ → LinkCounts → LinkCounts → Type 0
EdgeCause edge.Client (Some e) who calls max fed all n n' = ClientCause e max fed all n n'
EdgeCause edge.Client None who calls max fed all n n' = ⊥
EdgeCause (edge.InUse by) c who calls max fed all n n' = IsLast who call.Begin (reply.InUse by) calls
EdgeCause edge.NoSlot c who calls max fed all n n' = (slots : ℕ) × IsLast who call.Begin (reply.NoSlot slots) calls
EdgeCause edge.Worn c who calls max fed all n n' = Unit {0}
EdgeCause edge.OutOfMemory c who calls max fed all n n' = Unit {0}
EdgeCause edge.Closed c who calls max fed all n n' = ⊥

-- ---- its calls

-- where its client has ended they are all of those that are due; else they begin them
abbrev pub AreFor : EdgeEnd → List Own → List Entry → Type 0
AreFor edge.Client calls es = made calls ≡ es
AreFor (edge.InUse by) calls es = (more : List Entry) × (made calls ++ more ≡ es)
AreFor edge.Worn calls es = (more : List Entry) × (made calls ++ more ≡ es)
AreFor edge.OutOfMemory calls es = (more : List Entry) × (made calls ++ more ≡ es)
AreFor edge.NoSlot calls es = (more : List Entry) × (made calls ++ more ≡ es)
AreFor edge.Closed calls es = (more : List Entry) × (made calls ++ more ≡ es)

-- the call that ends what it was granted, and nothing where that is nothing
abbrev pub PartsBy : ℕ → Option Call → List Own → Type 0
PartsBy who None left = left ≡ []
PartsBy who (Some c) left = (r : Reply) × (left ≡ (entry_of who c, r) ∷ [])

abbrev pub Parts : ℕ → Active → List Own → Type 0
Parts who a left = PartsBy who (last_of a) left

-- HOW IT LEFT its place: by the call that ends what it was granted. Where the history there was full, or
-- there was no memory, that call may not have been made, and one that waited may have been
abbrev pub LeftBy : EdgeEnd → ℕ → List Own → List Own → Type 0
LeftBy edge.Client who calls left = Parts who (granted_by active.Nothing calls) left
LeftBy (edge.InUse by) who calls left = Parts who (granted_by active.Nothing calls) left
LeftBy edge.NoSlot who calls left = Parts who (granted_by active.Nothing calls) left
LeftBy edge.Worn who calls left = (waited : Option Entry) × LeavesBy waited left
LeftBy edge.OutOfMemory who calls left = (waited : Option Entry) × LeavesBy waited left
LeftBy edge.Closed who calls left = ⊥

-- ---- the whole

-- THIS STREAM WAS PLAYED OVER THE LINK, with messages of at most so many bytes: the link took a beginning of
-- what a client owes that plays it, for the first of the bytes that the link gave. These are all but what it
-- takes from the link at once
pub record HasPlayed (k : Asked) (max : ℕ) (old new : Origin) : Type 0 where
  -- what its client was fed of what the link gave, and the messages that this reads as
  pub y : List ℕ
  pub rest : List ℕ
  pub few : length rest ≤ 4096
  pub ms : List (ℕ × Message)
  pub read : IsRead max (drop hand_bytes y) ms
  -- what the link took
  pub took : List ℕ
  pub passed : Passed (y ++ rest) took old.told new.told
  pub more : List ℕ
  pub owes : took ++ more ≡ out k y ms []

-- AN EDGE HAS PULLED THIS STREAM, and has ended so: it was played over the link. The edge's calls stand in
-- the history of its place, in their order and each once, answered by the rules: those for what its client
-- was told by the bytes that it was fed, and then the one by which it left
pub record HasPulled (k : Asked) (max who place : ℕ) (limits : ℕ → Shape) (histories : Histories) (e : EdgeEnd) (c : Option ClientEnd)
    (old new : Origin) : Type 0 where
  pub link : HasPlayed k max old new
  -- the calls
  pub visits : List Visit
  pub stand : AllStand limits histories visits
  pub here : AreHere place visits
  pub calls : List Own
  pub left : List Own
  pub calls_are : calls_of visits ≡ calls ++ left
  pub for_it : AreFor e calls (entries who (edge_calls false (pulled k link.ms)))
  pub left_by : LeftBy e who calls left
  pub cause : EdgeCause e c who calls max (length link.y) (link.y ++ link.rest) old.counts new.counts

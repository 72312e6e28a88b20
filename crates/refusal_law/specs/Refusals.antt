-- A client and a session that have read each other so far, and what can end one of them at the next byte
use Rattle.std.specs.Prelude.{◌≡◌, ◌≤◌, ◌-◌, ◌^◌, ℕ, Bool, true, false, List, [], ◌∷◌, ◌++◌, length, drop, Option}
use Rattle.chunk_reader.specs.Sound.{IsRead}
use Rattle.chunk_wire.specs.declared.message.Message.{Message}
use Rattle.client_owed.specs.declared.types.Asked.{Asked}
use Rattle.client_owed.specs.declared.types.Gave.{Gave}
use Rattle.client_owed.specs.Owed.{AreGiven, out}
use Rattle.client_law.specs.Laws.{IsNamed}
use Rattle.client_owed.specs.declared.types.Wish.{Wish}
use Rattle.client_owed.specs.declared.types.Wish.TheVariants as wish
use Rattle.command_dialog.specs.State.{State}
use Rattle.command_dialog.specs.Words.{app_in, key_in, name_in}
use Rattle.command_dialog.specs.declared.types.Ask.{Ask}
use Rattle.command_dialog.specs.declared.types.Role.{Role}
use Rattle.command_dialog.specs.declared.types.Role.TheVariants as role
use Rattle.relay_session.specs.declared.end.End.{End}
use Rattle.relay_session.specs.declared.end.End.TheVariants as session_end
use Rattle.rtmp_client.specs.declared.end.ClientEnd.{ClientEnd}
use Rattle.rtmp_client.specs.declared.end.ClientEnd.TheVariants as client_end
use Rattle.session_owed.specs.Dialogue.{Dialogue}
use Rattle.session_owed.specs.Owed as session
use Rattle.session_owed.specs.Talk.{Own, hand_bytes}
use Rattle.session_owed.specs.Talks.{Talks}
use Rattle.stream_model.specs.declared.calls.Call.{Call}
use Rattle.stream_model.specs.declared.calls.Call.TheVariants as call
use Rattle.stream_model.specs.declared.calls.Entry.{Entry}
use Rattle.stream_model.specs.declared.replies.Reply.{Reply}
use Rattle.stream_model.specs.declared.replies.Reply.TheVariants as reply

-- bytes with which others begin
abbrev pub Begins : List ℕ → List ℕ → Type 0
Begins more rest = (later : List ℕ) × (more ++ later ≡ rest)

-- THEY HAVE READ EACH OTHER SO FAR: the session the bytes x, as the messages ms, of those that the client
-- owes, and the client the bytes y, as ns, of those that the session owes for its calls C. Both take messages
-- of up to max bytes. The client was given T
pub record HaveTalked (k : Asked) (d : Dialogue State) (max : ℕ) (x y : List ℕ) (ms ns : List (ℕ × Message)) (T : List Gave) (C : List Own) : Type 0 where
  pub named : IsNamed k
  pub least : 4096 ≤ max
  pub most : max ≤ 4194304
  pub given : AreGiven k max (length y - hand_bytes) ns T
  pub rest : List ℕ
  pub sent : x ++ rest ≡ out k y ns T
  pub left : List ℕ
  pub told : y ++ left ≡ session.out d x ms C
  pub session_read : IsRead max (drop hand_bytes x) ms
  pub client_read : IsRead max (drop hand_bytes y) ns
  pub few : length x ≤ 2 ^ 61
  -- the call that waits, if one does
  pub kept : Option Entry
  pub talks : Talks d (session.count_of d x) ms C kept

-- a session that wants memory
abbrev pub IsWant : End → Type 0
IsWant session_end.PeerClosed = ⊥
IsWant session_end.LinkFault = ⊥
IsWant (session_end.BadVersion at) = ⊥
IsWant (session_end.BadChunk cause at) = ⊥
IsWant (session_end.BadControl at) = ⊥
IsWant (session_end.BadCommand at) = ⊥
IsWant (session_end.TooManyStreams at) = ⊥
IsWant session_end.Quit = ⊥
IsWant session_end.Worn = ⊥
IsWant session_end.OutOfMemory = Unit {0}

-- a client that is refused, or wants memory
abbrev pub IsRefusal : ClientEnd → Type 0
IsRefusal client_end.PeerClosed = ⊥
IsRefusal client_end.LinkFault = ⊥
IsRefusal (client_end.BadVersion at) = ⊥
IsRefusal (client_end.BadChunk cause at) = ⊥
IsRefusal (client_end.BadControl at) = ⊥
IsRefusal (client_end.BadCommand at) = ⊥
IsRefusal (client_end.Refused code description) = Unit {0}
IsRefusal client_end.Done = ⊥
IsRefusal client_end.OutOfMemory = Unit {0}

-- one that wants memory
abbrev pub ClientWants : ClientEnd → Type 0
ClientWants client_end.PeerClosed = ⊥
ClientWants client_end.LinkFault = ⊥
ClientWants (client_end.BadVersion at) = ⊥
ClientWants (client_end.BadChunk cause at) = ⊥
ClientWants (client_end.BadControl at) = ⊥
ClientWants (client_end.BadCommand at) = ⊥
ClientWants (client_end.Refused code description) = ⊥
ClientWants client_end.Done = ⊥
ClientWants client_end.OutOfMemory = Unit {0}

-- ---- what a client asks of its session

abbrev pub role_of : Wish → Role
role_of wish.Push = role.Publish
role_of wish.Pull = role.Play

-- what a desk is asked
abbrev pub asking_of : Asked → Ask
asking_of k = record { role = role_of k.wish; app = app_in k.app; name = name_in k.name; key = key_in k.name }

-- a call by which a broadcast or a play begins
abbrev pub opens : Call → Bool
opens call.Begin = true
opens (call.BeginAs name) = true
opens call.Join = true
opens (call.JoinAs name) = true
opens (call.Push unit) = false
opens call.End = false
opens (call.Take player want) = false
opens (call.Leave player) = false
opens call.Count = false

-- that of what is wished
abbrev pub OpensFor : Wish → Call → Type 0
OpensFor wish.Push call.Begin = Unit {0}
OpensFor wish.Push (call.BeginAs name) = Unit {0}
OpensFor wish.Pull call.Join = Unit {0}
OpensFor wish.Pull (call.JoinAs name) = Unit {0}
OpensFor w c = ⊥

abbrev pub AreClosed : List Entry → Type 0
AreClosed [] = Unit {0}
AreClosed (e ∷ es) = (opens e.call ≡ false) × AreClosed es

-- NONE, or the first begins what is wished, and no other begins anything
abbrev pub AreOpened : Wish → List Entry → Type 0
AreOpened w [] = Unit {0}
AreOpened w (e ∷ es) = OpensFor w e.call × AreClosed es

abbrev pub HasBegun : Reply → Type 0
HasBegun (reply.Began n) = Unit {0}
HasBegun _ = ⊥

abbrev pub HasJoined : Reply → Type 0
HasJoined (reply.Joined player from) = Unit {0}
HasJoined _ = ⊥

-- what would begin has begun
abbrev pub IsGranted : Call → Reply → Type 0
IsGranted call.Begin r = HasBegun r
IsGranted (call.BeginAs name) r = HasBegun r
IsGranted call.Join r = HasJoined r
IsGranted (call.JoinAs name) r = HasJoined r
IsGranted (call.Push unit) r = Unit {0}
IsGranted call.End r = Unit {0}
IsGranted (call.Take player want) r = Unit {0}
IsGranted (call.Leave player) r = Unit {0}
IsGranted call.Count r = Unit {0}

abbrev pub AreGranted : List Own → Type 0
AreGranted [] = Unit {0}
AreGranted (c ∷ C) = IsGranted c.0.call c.1 × AreGranted C

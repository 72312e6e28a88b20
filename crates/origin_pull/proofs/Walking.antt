-- A client that took no whole message in a turn is told nothing in it
use Rattle.std.proofs.Common.{◌≡◌, inl, inr, ℕ, Bool, true, false, List, Option, Some, None, Result, Ok, Err, sym, ap, subst}
use Rattle.relay_outside.specs.Heard.{Came, CameBytes, CameEnd, CameNotYet, CameFailed}
use Rattle.relay_outside.specs.declared.link.Said.{Said}
use Rattle.relay_outside.specs.declared.link.Said.TheVariants as said
use Rattle.client_owed.specs.Standing.{Keeps}
use Rattle.client_owed.specs.declared.types.Gift.{Gift}
use Rattle.rtmp_client.specs.ClientState.{ClientState, TurnMade}
use Rattle.rtmp_client.specs.Feeding.{Heard}
use Rattle.rtmp_client.specs.Turns.{CameAs, DoneBy, EmptyBy, EndedBy, FedAs, FedBy, Quietly, Loudly, Stopping, Gone, InputBy, IsEnded, Life, SendBy, SentAs}
use Rattle.rtmp_client.specs.Turns.{end_of, is_done, is_hungry, is_nil, life, turn_of}
use Rattle.rtmp_client.specs.declared.end.ClientEnd.{ClientEnd}
use Rattle.rtmp_client.specs.declared.end.ClientEnd.TheVariants as end
use Rattle.rtmp_client.specs.declared.end.ClientTurn.{ClientTurn}
use Rattle.rtmp_client.specs.declared.end.ClientTurn.TheVariants as turn

-- the gift that waits is the same, unless something moved
abbrev KeepsBy : Result Bool ClientEnd → Option Gift → Option Gift → Type 0
KeepsBy (Ok true) g h = Unit {0}
KeepsBy (Ok false) g h = h ≡ g
KeepsBy (Err e) g h = h ≡ g

abbrev Keep : Result Bool ClientEnd → Life → Life → Type 0
Keep a v w = KeepsBy a v.parts.gift w.parts.gift

kept_ok : (b : Bool) (g h : Option Gift) → h ≡ g → KeepsBy (Ok b) g h
kept_ok true g h e = tt
kept_ok false g h e = e

kept_by : (a : Result Bool ClientEnd) (g h : Option Gift) → h ≡ g → KeepsBy a g h
kept_by (Ok b) g h e = kept_ok b g h e
kept_by (Err f) g h e = e

ended_keeps : (e : ClientEnd) (v w : Life) (a : Result Bool ClientEnd) → IsEnded e v a w → Keep a v w
ended_keeps e v w a i = kept_by a v.parts.gift w.parts.gift (ap (λ (g : Gone). g.gift) i.gone)

life_keeps : (v w : Life) (a : Result Bool ClientEnd) → w ≡ v → Keep a v w
life_keeps v w a e = kept_by a v.parts.gift w.parts.gift (ap (λ (x : Life). x.parts.gift) e)

fed_keeps : (by : FedBy) (v w : Life) (moved : Bool) (a : Result Bool ClientEnd) → FedAs by v moved a w → Keep a v w
fed_keeps Quietly v w moved a f = kept_by a v.parts.gift w.parts.gift (ap (λ (h : Heard). h.gift) f.1)
fed_keeps Loudly v w moved a f = subst (λ (x : Result Bool ClientEnd). KeepsBy x v.parts.gift w.parts.gift) (sym f.3) tt
fed_keeps (Stopping e) v w moved a f = kept_by a v.parts.gift w.parts.gift f.0.gift

came_keeps : (came : Came) (v w : Life) (moved : Bool) (a : Result Bool ClientEnd) → CameAs came v moved a w → Keep a v w
came_keeps (CameBytes b) v w moved a (inl f) = fed_keeps f.0 (life v.parts b) w true a f.1
came_keeps (CameBytes b) v w moved a (inr e) = ended_keeps end.OutOfMemory v w a e
came_keeps CameNotYet v w moved a f = life_keeps v w a f.1
came_keeps CameEnd v w moved a e = ended_keeps end.PeerClosed v w a e
came_keeps CameFailed v w moved a e = ended_keeps end.LinkFault v w a e

-- by its answer: whether it lives then, and the gift that waits
abbrev pub LeavesAs : ClientTurn → ClientState → ClientState → Type 0
LeavesAs turn.Moved k j = j.ended ≡ None
LeavesAs turn.Idle k j = (j.ended ≡ None) × (j.parts.gift ≡ k.parts.gift)
LeavesAs turn.Ended k j = ((e : ClientEnd) × (j.ended ≡ Some e)) × (j.parts.gift ≡ k.parts.gift)

leaves_by : (a : Result Bool ClientEnd) (k j : ClientState) → j.ended ≡ end_of a → KeepsBy a k.parts.gift j.parts.gift → LeavesAs (turn_of a) k j
leaves_by (Ok true) k j e g = e
leaves_by (Ok false) k j e g = (e, g)
leaves_by (Err f) k j e g = ((f, e), g)

module _ {L : Type 0} (hears : L → ℕ → Came → L → Type 0) (says : L → List ℕ → Said → L → Type 0) where
  empty_keeps : (b : Bool) (v w : Life) (moved : Bool) (a : Result Bool ClientEnd) (l m : L) → EmptyBy hears b v l moved a w m → Keep a v w
  empty_keeps true v w moved a l m f = came_keeps f.0 v w moved a f.1.1
  empty_keeps false v w moved a l m f = fed_keeps f.0.0 v w moved a f.0.1

  input_keeps : (b : Bool) (v w : Life) (moved : Bool) (a : Result Bool ClientEnd) (l m : L) → InputBy hears b v l moved a w m → Keep a v w
  input_keeps true v w moved a l m f = empty_keeps (is_nil v.input) v w moved a l m f
  input_keeps false v w moved a l m f = life_keeps v w a f.1

  done_keeps : (b : Bool) (v w : Life) (moved : Bool) (a : Result Bool ClientEnd) (l m : L) → DoneBy hears b v l moved a w m → Keep a v w
  done_keeps true v w moved a l m f = ended_keeps end.Done v w a f.0
  done_keeps false v w moved a l m f = input_keeps (is_hungry v.parts) v w moved a l m f

  said_keeps : (q : Said) (v w : Life) (a : Result Bool ClientEnd) (l m : L) → SentAs hears says q v l a w m → Keep a v w
  said_keeps (said.Took n) v w a l m f =
      let same : f.0.gift ≡ v.parts.gift = ap (λ (k : Keeps). k.gift) f.1.0.keeps in
      subst (λ (g : Option Gift). KeepsBy a g w.parts.gift) same (done_keeps (is_done f.0) (life f.0 v.input) w true a l m f.1.1)
  said_keeps said.NotYet v w a l m f = done_keeps (is_done v.parts) v w false a l m f
  said_keeps said.Failed v w a l m f = ended_keeps end.LinkFault v w a f.0
  said_keeps said.OutOfMemory v w a l m f = ended_keeps end.OutOfMemory v w a f.0

  send_keeps : (b : Bool) (v w : Life) (a : Result Bool ClientEnd) (l m : L) → SendBy hears says b v l a w m → Keep a v w
  send_keeps true v w a l m f = done_keeps (is_done v.parts) v w false a l m f
  send_keeps false v w a l m f = said_keeps f.0 v w a f.1.0 m f.1.1.1

  turn_keeps : (o : Option ClientEnd) (v w : Life) (a : Result Bool ClientEnd) (l m : L) → EndedBy hears says o v l a w m → Keep a v w
  turn_keeps (Some e) v w a l m f = life_keeps v w a f.1
  turn_keeps None v w a l m f = send_keeps (is_nil v.parts.outgoing.pending) v w a l m f

  pub turn_leaves : (k j : ClientState) (answer : ClientTurn) (l m : L) → TurnMade (EndedBy hears says) k l answer j m → LeavesAs answer k j
  turn_leaves k j answer l m t =
      subst (λ (x : ClientTurn). LeavesAs x k j) (sym t.answered)
      (leaves_by t.comes k j t.ended (turn_keeps k.ended (life k.parts k.input) (life j.parts j.input) t.comes l m t.made))

-- What a turn by which a client ends says nothing of: the input that is left
use Rattle.std.proofs.Common.{◌≡◌, ◌||◌, not, ℕ, Bool, true, false, List, Option, Some, None, Ok, Err, inl, inr, refl, sym, subst}
use Rattle.relay_outside.specs.Heard.{Came, CameBytes, CameEnd, CameNotYet, CameFailed}
use Rattle.relay_outside.specs.declared.link.Said.{Said}
use Rattle.relay_outside.specs.declared.link.Said.TheVariants as said
use Rattle.rtmp_client.specs.ClientState.{TurnMade, client_of}
use Rattle.rtmp_client.specs.Turns.{CameAs, DoneBy, EmptyBy, EndedBy, FedAs, FedBy, Quietly, Loudly, Stopping, InputBy, IsEnded, Life, SendBy, Sent, SentAs, is_done, is_hungry, is_nil, life}
use Rattle.rtmp_client.specs.declared.core_fields.Core.{Core}
use Rattle.rtmp_client.specs.declared.end.ClientEnd.{ClientEnd}
use Rattle.rtmp_client.specs.declared.end.ClientEnd.TheVariants as end
use Rattle.rtmp_client.specs.declared.end.ClientTurn.TheVariants.{Ended}

module _ {L : Type 0} (hears : L → ℕ → Came → L → Type 0) (says : L → List ℕ → Said → L → Type 0) (e : ClientEnd) (c : Core) (i j : List ℕ) where
  ended_left : (d : ClientEnd) (v : Life) → IsEnded d v (Err e) (life c i) → IsEnded d v (Err e) (life c j)
  ended_left d v x = record { ended = x.ended; gone = x.gone }

  never : {X : Type 0} (b : Bool) → Err e ≡ Ok b → X
  never b f = absurd (cc)

  fed_left : (by : FedBy) (v : Life) (moved : Bool) → FedAs by v moved (Err e) (life c i) → FedAs by v moved (Err e) (life c j)
  fed_left Quietly v moved f = never (moved || not (is_nil v.input)) f.3
  fed_left Loudly v moved f = never true f.3
  fed_left (Stopping d) v moved f = f

  came_left : (came : Came) (v : Life) (moved : Bool) → CameAs came v moved (Err e) (life c i) → CameAs came v moved (Err e) (life c j)
  came_left (CameBytes b) v moved (inl f) = inl (f.0, fed_left f.0 (life v.parts b) true f.1)
  came_left (CameBytes b) v moved (inr x) = inr (ended_left end.OutOfMemory v x)
  came_left CameNotYet v moved f = never moved f.0
  came_left CameEnd v moved x = ended_left end.PeerClosed v x
  came_left CameFailed v moved x = ended_left end.LinkFault v x

  empty_left : (b : Bool) (v : Life) (moved : Bool) (l m : L) → EmptyBy hears b v l moved (Err e) (life c i) m → EmptyBy hears b v l moved (Err e) (life c j) m
  empty_left true v moved l m f = (f.0, (f.1.0, came_left f.0 v moved f.1.1))
  empty_left false v moved l m f = ((f.0.0, fed_left f.0.0 v moved f.0.1), f.1)

  input_left : (b : Bool) (v : Life) (moved : Bool) (l m : L) → InputBy hears b v l moved (Err e) (life c i) m → InputBy hears b v l moved (Err e) (life c j) m
  input_left true v moved l m f = empty_left (is_nil v.input) v moved l m f
  input_left false v moved l m f = never moved f.0

  done_left : (b : Bool) (v : Life) (moved : Bool) (l m : L) → DoneBy hears b v l moved (Err e) (life c i) m → DoneBy hears b v l moved (Err e) (life c j) m
  done_left true v moved l m f = (ended_left end.Done v f.0, f.1)
  done_left false v moved l m f = input_left (is_hungry v.parts) v moved l m f

  said_left : (q : Said) (v : Life) (l m : L) → SentAs hears says q v l (Err e) (life c i) m → SentAs hears says q v l (Err e) (life c j) m
  said_left (said.Took n) v l m f = (f.0, (f.1.0, done_left (is_done f.0) (life f.0 v.input) true l m f.1.1))
  said_left said.NotYet v l m f = done_left (is_done v.parts) v false l m f
  said_left said.Failed v l m f = (ended_left end.LinkFault v f.0, f.1)
  said_left said.OutOfMemory v l m f = (ended_left end.OutOfMemory v f.0, f.1)

  send_left : (b : Bool) (v : Life) (l m : L) → SendBy hears says b v l (Err e) (life c i) m → SendBy hears says b v l (Err e) (life c j) m
  send_left true v l m f = done_left (is_done v.parts) v false l m f
  send_left false v l m f = (f.0, (f.1.0, (f.1.1.0, said_left f.0 v f.1.0 m f.1.1.1)))

  -- so it may be let go of
  pub made_left : (d : Core) (input : List ℕ) (o : Option ClientEnd) (l m : L) → o ≡ None → Sent hears says (life d input) l (Err e) (life c i) m → TurnMade (EndedBy hears says) (client_of d input o) l Ended (client_of c j (Some e)) m
  made_left d input o l m none f = record {
    comes = Err e;
    made = subst (λ (x : Option ClientEnd). EndedBy hears says x (life d input) l (Err e) (life c j) m) (sym none) (send_left (is_nil d.outgoing.pending) (life d input) l m f);
    answered = refl;
    ended = refl;
  }

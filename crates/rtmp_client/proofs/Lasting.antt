-- What a turn leaves as it is
use Rattle.std.proofs.Common.{◌≡◌, ℕ, Bool, true, false, List, Option, Some, None, Result, ap, ◌∙◌, inl, inr}
use Rattle.chunk_reader.specs.ReaderKnown.{ReaderKnown}
use Rattle.relay_outside.specs.Heard.{Came, CameBytes, CameEnd, CameNotYet, CameFailed}
use Rattle.relay_outside.specs.declared.link.Said.{Said}
use Rattle.relay_outside.specs.declared.link.Said.TheVariants as said
use Rattle.client_owed.specs.declared.types.Asked.{Asked}
use Rattle.client_owed.specs.declared.types.Gave.{Gave}
use Rattle.client_owed.specs.declared.types.Gift.{Gift}
use Rattle.client_owed.specs.Standing.{Keeps, Past}
use Rattle.rtmp_client.specs.ClientState.{ClientState, Lasting, TurnMade, lasting_of}
use Rattle.rtmp_client.specs.Feeding.{Fixed, IsSent, fixed_of}
use Rattle.rtmp_client.specs.Turns.{CameAs, DoneBy, EmptyBy, EndedBy, FedAs, FedBy, Quietly, Loudly, Stopping, Gone, InputBy, IsEnded, Life, SendBy, SentAs, is_done, is_hungry, is_nil, life}
use Rattle.rtmp_client.specs.declared.core_fields.Core.{Core}
use Rattle.rtmp_client.specs.declared.end.ClientEnd.{ClientEnd}
use Rattle.rtmp_client.specs.declared.end.ClientEnd.TheVariants as end
use Rattle.rtmp_client.specs.declared.end.ClientTurn.{ClientTurn}

abbrev Same : Life → Life → Type 0
Same v w = lasting_of w.parts ≡ lasting_of v.parts

ended_same : (e : ClientEnd) (v w : Life) (a : Result Bool ClientEnd) → IsEnded e v a w → Same v w
ended_same e v w a i = ap (λ (g : Gone). record { asked = g.asked; max = g.max; gave = g.gave; taken = g.taken; finished = g.finished }) i.gone

fixed_same : (c d : Core) → fixed_of d ≡ fixed_of c → lasting_of d ≡ lasting_of c
fixed_same c d f = ap (λ (x : Fixed). record { asked = x.asked; max = x.max; gave = x.gave; taken = x.taken; finished = x.finished }) f

life_same : (v w : Life) → w ≡ v → Same v w
life_same v w e = ap (λ (x : Life). lasting_of x.parts) e

fed_same : (by : FedBy) (v w : Life) (moved : Bool) (a : Result Bool ClientEnd) → FedAs by v moved a w → Same v w
fed_same Quietly v w moved a f = fixed_same v.parts w.parts f.0.fixed
fed_same Loudly v w moved a f = fixed_same v.parts w.parts f.0.fixed
fed_same (Stopping e) v w moved a f = fixed_same v.parts w.parts f.0.fixed

sent_same : (c d : Core) (n : ℕ) → IsSent c n d → lasting_of d ≡ lasting_of c
sent_same c d n s =
    let L : Asked → ℕ → List Gave → List Gift → Bool → Lasting = λ k m g t f. record { asked = k; max = m; gave = g; taken = t; finished = f } in
    ap (λ (k : Asked). L k d.reader.max d.gave d.taken d.finished) s.fixed.0 ∙ ap (λ (r : ReaderKnown). L c.asked r.max d.gave d.taken d.finished) s.fixed.1
    ∙ ap (λ (p : Past). L c.asked c.reader.max p.gave p.taken d.finished) s.past ∙ ap (λ (q : Keeps). L c.asked c.reader.max c.gave c.taken q.finished) s.keeps

came_same : (came : Came) (v w : Life) (moved : Bool) (a : Result Bool ClientEnd) → CameAs came v moved a w → Same v w
came_same (CameBytes b) v w moved a (inl f) = fed_same f.0 (life v.parts b) w true a f.1
came_same (CameBytes b) v w moved a (inr e) = ended_same end.OutOfMemory v w a e
came_same CameNotYet v w moved a f = life_same v w f.1
came_same CameEnd v w moved a e = ended_same end.PeerClosed v w a e
came_same CameFailed v w moved a e = ended_same end.LinkFault v w a e

module _ {L : Type 0} (hears : L → ℕ → Came → L → Type 0) (says : L → List ℕ → Said → L → Type 0) where
  empty_same : (b : Bool) (v w : Life) (moved : Bool) (a : Result Bool ClientEnd) (l m : L) → EmptyBy hears b v l moved a w m → Same v w
  empty_same true v w moved a l m f = came_same f.0 v w moved a f.1.1
  empty_same false v w moved a l m f = fed_same f.0.0 v w moved a f.0.1

  input_same : (b : Bool) (v w : Life) (moved : Bool) (a : Result Bool ClientEnd) (l m : L) → InputBy hears b v l moved a w m → Same v w
  input_same true v w moved a l m f = empty_same (is_nil v.input) v w moved a l m f
  input_same false v w moved a l m f = life_same v w f.1

  done_same : (b : Bool) (v w : Life) (moved : Bool) (a : Result Bool ClientEnd) (l m : L) → DoneBy hears b v l moved a w m → Same v w
  done_same true v w moved a l m f = ended_same end.Done v w a f.0
  done_same false v w moved a l m f = input_same (is_hungry v.parts) v w moved a l m f

  said_same : (q : Said) (v w : Life) (a : Result Bool ClientEnd) (l m : L) → SentAs hears says q v l a w m → Same v w
  said_same (said.Took n) v w a l m f = done_same (is_done f.0) (life f.0 v.input) w true a l m f.1.1 ∙ sent_same v.parts f.0 n f.1.0
  said_same said.NotYet v w a l m f = done_same (is_done v.parts) v w false a l m f
  said_same said.Failed v w a l m f = ended_same end.LinkFault v w a f.0
  said_same said.OutOfMemory v w a l m f = ended_same end.OutOfMemory v w a f.0

  send_same : (b : Bool) (v w : Life) (a : Result Bool ClientEnd) (l m : L) → SendBy hears says b v l a w m → Same v w
  send_same true v w a l m f = done_same (is_done v.parts) v w false a l m f
  send_same false v w a l m f = said_same f.0 v w a f.1.0 m f.1.1.1

  turn_same : (o : Option ClientEnd) (v w : Life) (a : Result Bool ClientEnd) (l m : L) → EndedBy hears says o v l a w m → Same v w
  turn_same (Some e) v w a l m f = life_same v w f.1
  turn_same None v w a l m f = send_same (is_nil v.parts.outgoing.pending) v w a l m f

  pub made_same : (old new : ClientState) (answer : ClientTurn) (l m : L) → TurnMade (EndedBy hears says) old l answer new m → lasting_of new.parts ≡ lasting_of old.parts
  made_same old new answer l m t = turn_same old.ended (life old.parts old.input) (life new.parts new.input) t.comes l m t.made

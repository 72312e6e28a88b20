-- A turn, as what it comes to
use Rattle.std.proofs.Common.{◌≡◌, ◌<◌, ◌≤◌, ℕ, List, length, Option, Some, Err, refl, sym, subst}
use Rattle.relay_outside.specs.Heard.{Came, HearStep}
use Rattle.relay_outside.specs.Said.{SayStep}
use Rattle.relay_outside.specs.Told.{LinkCounts, LinkTold}
use Rattle.relay_outside.specs.declared.link.Said.{Said}
use Rattle.rtmp_client.specs.Causes.{Did, MayBe}
use Rattle.rtmp_client.specs.ClientState.{ClientState, TurnMade, client_of, life_of}
use Rattle.rtmp_client.specs.Turns.{EndedBy, life}
use Rattle.rtmp_client.specs.declared.core_fields.Core.{Core}
use Rattle.rtmp_client.specs.declared.end.ClientEnd.{ClientEnd}
use Rattle.rtmp_client.specs.declared.end.ClientTurn.{ClientTurn}
use Rattle.rtmp_client.specs.declared.end.ClientTurn.TheVariants.{Ended}
use Rattle.rtmp_client.proofs.Causing.{turn_did, turn_may}

module _ {L : Type 0} (hears : L → ℕ → Came → L → Type 0) (says : L → List ℕ → Said → L → Type 0) where
  pub again : (c : Core) (input : List ℕ) (o : Option ClientEnd) (e : ClientEnd) (l : L) → o ≡ Some e → TurnMade (EndedBy hears says) (client_of c input o) l Ended (client_of c input o) l
  again c input o e l is = record {
    comes = Err e;
    made = subst (λ (x : Option ClientEnd). EndedBy hears says x (life c input) l (Err e) (life c input) l) (sym is) (refl, refl, refl);
    answered = refl;
    ended = is;
  }

  module _ (told : L → Option LinkTold) (counts : L → LinkCounts)
      (hears_mean : (l : L) (room : ℕ) (answer : Came) (m : L) → 0 < room → hears l room answer m → HearStep room (told l) (told m) (counts l) (counts m) answer)
      (says_mean : (l : L) (piece : List ℕ) (answer : Said) (m : L) → 0 < length piece → says l piece answer m → SayStep piece (told l) (told m) (counts l) (counts m) answer) where
    pub did_made : (old new : ClientState) (answer : ClientTurn) (l m : L) → TurnMade (EndedBy hears says) old l answer new m → Did answer (life_of old) (life_of new)
    did_made old new answer l m t =
        subst (λ (x : ClientTurn). Did x (life_of old) (life_of new)) (sym t.answered) (turn_did hears told counts hears_mean says says_mean old.ended (life_of old) (life_of new) t.comes l m t.made)

    pub may_made : (old new : ClientState) (answer : ClientTurn) (l m : L) → old.parts.outgoing.others ≤ length old.parts.outgoing.pending → TurnMade (EndedBy hears says) old l answer new m → MayBe answer (counts l) (counts m) (life_of new)
    may_made old new answer l m le t =
        subst (λ (x : ClientTurn). MayBe x (counts l) (counts m) (life_of new)) (sym t.answered) (turn_may hears told counts hears_mean says says_mean old.ended (life_of old) (life_of new) t.comes l m le t.made)

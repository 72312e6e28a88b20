-- The steps of a turn, put together
use Rattle.std.proofs.Common.{◌≡◌, inl, inr, ◌≤◌, ℕ, Bool, true, false, not, ◌||◌, List, length, take, refl, sym, ap, ◌∙◌, subst, arith, Option, Some, None, Result, Ok, Err}
use Rattle.std.proofs.lemmas.List.{length-take}
use Rattle.relay_outside.specs.Heard.{Came}
use Rattle.relay_outside.specs.declared.link.Said.{Said}
use Rattle.relay_outside.specs.declared.link.Said.TheVariants as said
use Rattle.command_dialog.specs.declared.types.Ask.{Ask}
use Rattle.command_dialog.specs.declared.types.Grant.{Grant}
use Rattle.stream_model.specs.declared.calls.Entry.{Entry}
use Rattle.stream_model.specs.declared.replies.Reply.{Reply}
use Rattle.relay_session.specs.Turns.{is_nil, is_not_yet}
use Rattle.relay_session.specs.declared.seat_answers.Made.{Made}
use Rattle.relay_session.specs.declared.seat_answers.Made.TheVariants as made
use Rattle.http_flv.specs.Keeping.{take_entry}
use Rattle.http_flv.specs.Turns.{AfterJoin, AfterKept, IsJoined, IsSent, IsTaken, IsTried, JoinedBy, KeptOn, Life, PlaceBy, SendBy, Sent, SentAs, TakeAsked, Taken, ToldBy, answer, gone_of, life, noted, told, unheard}
use Rattle.http_flv.specs.declared.core_fields.Core.{Core}
use Rattle.http_flv.specs.declared.end.HttpEnd.{HttpEnd}
use Rattle.http_flv.specs.declared.end.HttpEnd.TheVariants as end
use Rattle.http_flv.specs.declared.stage.Stage.{Stage}
use Rattle.http_flv.specs.declared.stage.Stage.TheVariants as stage
use Rattle.http_flv.specs.declared.turn.HttpTurn.{HttpTurn}
use Rattle.http_flv.specs.declared.turn.HttpTurn.TheVariants.{Idle, Ended}

pub sent_within : (l piece : List ℕ) (most n : ℕ) → piece ≡ take most l → n ≤ length piece → n ≤ length l
sent_within l piece most n e le = omega (arith, le, ap length e, length-take most l)

module _ {P S : Type 0} (asks : P → S → ℕ → Entry → Made → P → S → Type 0) where
  -- the entry that was made names what was read by its count
  pub take_ok : (v w : Life P S) (place player n : ℕ) (moved : Bool) (a : HttpTurn) (r : Reply) → n ≡ length v.parts.x → asks v.port v.seat place (take_entry v.parts.who n player) (made.Answer r) w.port w.seat
      → IsTaken v.parts (take_entry v.parts.who n player) r w.parts → a ≡ answer (moved || not (is_not_yet r)) → TakeAsked asks v place player moved a w
  take_ok v w place player n moved a r e k i f = record {
    came = made.Answer r;
    asked = subst (λ (m : ℕ). asks v.port v.seat place (take_entry v.parts.who m player) (made.Answer r) w.port w.seat) e k;
    taken = inl (subst (λ (m : ℕ). IsTaken v.parts (take_entry v.parts.who m player) r w.parts) e i, f);
  }

  pub take_failed : (v w : Life P S) (place player n : ℕ) (moved : Bool) (a : HttpTurn) (r : Reply) → n ≡ length v.parts.x → asks v.port v.seat place (take_entry v.parts.who n player) (made.Answer r) w.port w.seat
      → w.parts ≡ noted v.parts (take_entry v.parts.who n player) r → a ≡ Ended end.OutOfMemory → TakeAsked asks v place player moved a w
  take_failed v w place player n moved a r e k i f = record {
    came = made.Answer r;
    asked = subst (λ (m : ℕ). asks v.port v.seat place (take_entry v.parts.who m player) (made.Answer r) w.port w.seat) e k;
    taken = inr (ap gone_of (subst (λ (m : ℕ). w.parts ≡ noted v.parts (take_entry v.parts.who m player) r) e i), f);
  }

  -- a Join was made, and heard or not
  pub tried_heard : (v w : Life P S) (place : ℕ) (e : Entry) (r : Reply) → v.parts.stage ≡ stage.Joining place → asks v.port v.seat place e (made.Answer r) w.port w.seat → IsJoined place v.parts e r w.parts → IsTried asks v e (Ok true) w
  tried_heard v w place e r s k i = record {
    place = place;
    came = made.Answer r;
    asked = record { there = subst (λ (t : Stage). PlaceBy t place) (sym s) refl; asked = k };
    became = inl (refl, i);
  }

  pub tried_unheard : (v w : Life P S) (place : ℕ) (e : Entry) (r : Reply) → v.parts.stage ≡ stage.Joining place → asks v.port v.seat place e (made.Answer r) w.port w.seat → gone_of w.parts ≡ gone_of (unheard v.parts e r)
      → IsTried asks v e (Err end.OutOfMemory) w
  tried_unheard v w place e r s k i = record {
    place = place;
    came = made.Answer r;
    asked = record { there = subst (λ (t : Stage). PlaceBy t place) (sym s) refl; asked = k };
    became = inr (refl, i);
  }

  -- a call that waited is the one that was tried
  same_kept : (c : Core) (o : Option Entry) → c.kept ≡ o → record c { kept = o } ≡ c
  same_kept c o e = ap (λ (k : Option Entry). record c { kept = k }) (sym e)

  pub joined_none : (v w : Life P S) (k : Option Entry) (a : HttpTurn) → v.parts.kept ≡ None → k ≡ None → Taken asks (life (record v.parts { kept = k }) v.port v.seat) true a w → JoinedBy asks v.parts.kept v a w
  joined_none v w k a e ke t =
      let T : Core → Type 0 = λ c. Taken asks (life c v.port v.seat) true a w in
      subst (λ (o : Option Entry). JoinedBy asks o v a w) (sym e) (subst T (same_kept v.parts k (e ∙ sym ke)) t)

  pub joined_some : (v m w : Life P S) (e : Entry) (r : Result Bool HttpEnd) (a : HttpTurn) → v.parts.kept ≡ Some e → IsTried asks (life (record v.parts { kept = Some e }) v.port v.seat) e r m → AfterJoin asks r m a w → JoinedBy asks v.parts.kept v a w
  joined_some v m w e r a ke t n =
      let T : Core → Type 0 = λ c. IsTried asks (life c v.port v.seat) e r m in
      subst (λ (o : Option Entry). JoinedBy asks o v a w) (sym ke) (r, (m, (subst T (same_kept v.parts (Some e) ke) t, n)))

  module _ (desk : Ask → Grant) {L : Type 0} (hears : L → ℕ → Came → L → Type 0) (says : L → List ℕ → Said → L → Type 0) where
    pub sent_some : (v w : Life P S) (l k m : L) (b : List ℕ) (q : Said) (moved : Bool) (a : HttpTurn) → is_nil v.parts.out.left ≡ false → b ≡ take 16384 v.parts.out.left → says l b q k
        → SentAs asks desk hears says q v k moved a w m → Sent asks desk hears says v l moved a w m
    sent_some v w l k m b q moved a n be s t =
        subst (λ (x : Bool). SendBy asks desk hears says x v l moved a w m) (sym n) (q, (k, (subst (λ (x : List ℕ). says l x q k) be s, t)))

    pub took_on : (v w : Life P S) (k m : L) (c : Core) (n : ℕ) (o : Option ℕ) (moved : Bool) (a : HttpTurn) → IsSent v.parts n c → told c ≡ o → ToldBy asks desk hears says o (life c v.port v.seat) k a w m
        → SentAs asks desk hears says (said.Took n) v k moved a w m
    took_on v w k m c n o moved a i e t = (c, (i, subst (λ (x : Option ℕ). ToldBy asks desk hears says x (life c v.port v.seat) k a w m) (sym e) t))

    pub after_true : (k w : Life P S) (l m : L) (b : Bool) (a : HttpTurn) → b ≡ true → Sent asks desk hears says k l true a w m → AfterKept asks desk hears says (Ok b) k l a w m
    after_true k w l m b a e t = subst (λ (x : Bool). AfterKept asks desk hears says (Ok x) k l a w m) (sym e) t

    pub after_false : (k : Life P S) (l : L) (b : Bool) (a : HttpTurn) → b ≡ false → a ≡ Idle → AfterKept asks desk hears says (Ok b) k l a k l
    after_false k l b a e f = subst (λ (x : Bool). AfterKept asks desk hears says (Ok x) k l a k l) (sym e) (f, refl, refl)

    pub kept_none : (v w : Life P S) (l m : L) (k : Option Entry) (a : HttpTurn) → v.parts.kept ≡ None → k ≡ None → Sent asks desk hears says (life (record v.parts { kept = k }) v.port v.seat) l false a w m → KeptOn asks desk hears says v.parts.kept v l a w m
    kept_none v w l m k a e ke t =
        let T : Core → Type 0 = λ c. Sent asks desk hears says (life c v.port v.seat) l false a w m in
        subst (λ (o : Option Entry). KeptOn asks desk hears says o v l a w m) (sym e) (subst T (same_kept v.parts k (e ∙ sym ke)) t)

    pub kept_some : (v k w : Life P S) (l m : L) (e : Entry) (r : Result Bool HttpEnd) (a : HttpTurn) → v.parts.kept ≡ Some e → IsTried asks (life (record v.parts { kept = Some e }) v.port v.seat) e r k
        → AfterKept asks desk hears says r k l a w m → KeptOn asks desk hears says v.parts.kept v l a w m
    kept_some v k w l m e r a ke t n =
        let T : Core → Type 0 = λ c. IsTried asks (life c v.port v.seat) e r k in
        subst (λ (o : Option Entry). KeptOn asks desk hears says o v l a w m) (sym ke) (r, (k, (subst T (same_kept v.parts (Some e) ke) t, n)))

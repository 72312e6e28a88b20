-- What messages tell a client, whatever their places: control messages tell nothing
use Rattle.std.proofs.Common.{◌≡◌, ℕ, Bool, true, false, ◌==◌, ◌&&◌, nat_lt, if◌then◌else◌, List, [], ◌∷◌, ◌++◌, refl, sym, ap, ◌∙◌, arith, append_assoc}
use Rattle.std.proofs.lemmas.Bool.Decides.{nat_tests}
use Rattle.chunk_wire.specs.declared.message.Message.{Message}
use Rattle.ack_window.specs.Controls.{control_in}
use Rattle.flv_tags.specs.Layout.{is_kind}
use Rattle.client_owed.specs.declared.types.Asked.{Asked}
use Rattle.client_owed.specs.declared.types.Gift.{Gift}
use Rattle.client_owed.specs.declared.types.Gift.TheVariants as gift
use Rattle.client_owed.specs.declared.types.Phase.{Phase}
use Rattle.client_owed.specs.declared.types.Phase.TheVariants.{Connecting, Creating, Asking, Started}
use Rattle.client_owed.specs.declared.types.Wish.{Wish}
use Rattle.client_owed.specs.declared.types.Wish.TheVariants as wish
use Rattle.client_owed.specs.Client.{does}
use Rattle.client_owed.specs.News.{news_in}
use Rattle.client_owed.specs.Pulled.{gift_for, gift_in, pulled_from, tag_of, tag_on, told_in}
use Rattle.client_law.specs.Loud.{Every, bare, is_loud, keep, loud}
use Rattle.client_law.specs.Pull.{gifts_in}
use Rattle.client_law.proofs.Alike.{not_command}
use Rattle.client_law.proofs.Louds.{rests}
use Rattle.client_law.proofs.Starts.{IsBefore, NoStart, phase_by}

-- ---- what has not started is told nothing

before_told : (w : Wish) (p : Phase) (m : Message) → IsBefore p → gift_for w p m ≡ []
unfolding gift_in
before_told wish.Push p m h = refl
before_told wish.Pull Connecting m h = refl
before_told wish.Pull Creating m h = refl
before_told wish.Pull (Asking id) m h = refl
before_told wish.Pull (Started id) m h = absurd h

-- ---- a control message tells nothing

not_tag : (kind : ℕ) → nat_lt 6 kind ≡ false → is_kind kind ≡ false
not_tag kind e = grind (arith, nat_tests)

quiet_in : (p : Phase) (m : Message) → is_loud m ≡ false → gift_in p m ≡ []
unfolding gift_in
quiet_in Connecting m e = refl
quiet_in Creating m e = refl
quiet_in (Asking id) m e = refl
quiet_in (Started id) m e =
    ap (λ b. if b then told_in (news_in m.body) else tag_on id m) (not_command m.kind e) ∙ ap (λ b. if b && (m.stream == id) then gift.Tag (tag_of m) ∷ [] else []) (not_tag m.kind e)

quiet_told : (w : Wish) (p : Phase) (m : Message) → is_loud m ≡ false → gift_for w p m ≡ []
quiet_told wish.Push p m e = refl
quiet_told wish.Pull p m e = quiet_in p m e

quiet_phase : (k : Asked) (p : Phase) (m : Message) → is_loud m ≡ false → (does k p m).phase ≡ p
unfolding does
quiet_phase k p m e = phase_by k p m (control_in m) (not_command m.kind e)

module _ (k : Asked) where
  -- where the dialogue stands after these messages
  unfoldable pub phase_in : Phase → List Message → Phase
  phase_in p [] = p
  phase_in p (m ∷ ms) = phase_in (does k p m).phase ms

  -- what they tell
  unfoldable pub told_from : Phase → List Message → List Gift
  told_from p [] = []
  told_from p (m ∷ ms) = gift_for k.wish p m ++ told_from (does k p m).phase ms

  pub told_bare : (p : Phase) (ms : List (ℕ × Message)) → pulled_from k p ms ≡ told_from p (bare ms)
  unfolding pulled_from told_from bare
  told_bare p [] = refl
  told_bare p (m ∷ ms) = ap (λ t. gift_for k.wish p m.1 ++ t) (told_bare (does k p m.1).phase ms)

  pub told_joined : (p : Phase) (a b : List Message) → told_from p (a ++ b) ≡ told_from p a ++ told_from (phase_in p a) b
  unfolding told_from phase_in
  told_joined p [] b = refl
  told_joined p (m ∷ a) b =
      let q = (does k p m).phase in
      ap (λ t. gift_for k.wish p m ++ t) (told_joined q a b) ∙ sym (append_assoc (gift_for k.wish p m) (told_from q a) (told_from (phase_in q a) b))

  loud_by : (p : Phase) (m : Message) (ms : List Message) (b : Bool) → is_loud m ≡ b → ((q : Phase) → told_from q (loud ms) ≡ told_from q ms) → told_from p (keep b m (loud ms)) ≡ gift_for k.wish p m ++ told_from (does k p m).phase ms
  unfolding told_from
  loud_by p m ms true e ih = ap (λ t. gift_for k.wish p m ++ t) (ih (does k p m).phase)
  loud_by p m ms false e ih = ih p ∙ sym (ap (λ t. t ++ told_from (does k p m).phase ms) (quiet_told k.wish p m e) ∙ ap (λ q. told_from q ms) (quiet_phase k p m e))

  pub told_loud : (p : Phase) (ms : List Message) → told_from p (loud ms) ≡ told_from p ms
  unfolding told_from loud
  told_loud p [] = refl
  told_loud p (m ∷ ms) = loud_by p m ms (is_loud m) refl (λ q. told_loud q ms)

  -- ---- nothing, where none of them starts it

  pub phase_before : (p : Phase) (ms : List Message) → IsBefore p → Every (NoStart k) ms → IsBefore (phase_in p ms)
  unfolding phase_in
  phase_before p [] h e = h
  phase_before p (m ∷ ms) h e = phase_before (does k p m).phase ms (e.0 p h) e.1

  pub told_before : (p : Phase) (ms : List Message) → IsBefore p → Every (NoStart k) ms → told_from p ms ≡ []
  unfolding told_from
  told_before p [] h e = refl
  told_before p (m ∷ ms) h e = ap (λ t. t ++ told_from (does k p m).phase ms) (before_told k.wish p m h) ∙ told_before (does k p m).phase ms (e.0 p h) e.1

  -- and nothing by one more
  pub told_last : (p : Phase) (ms : List Message) (m : Message) → IsBefore p → Every (NoStart k) ms → told_from p (ms ++ m ∷ []) ≡ []
  unfolding told_from
  told_last p ms m h e =
      let q = phase_in p ms in
      told_joined p ms (m ∷ []) ∙ ap (λ t. t ++ (gift_for k.wish q m ++ [])) (told_before p ms h e) ∙ ap (λ t. t ++ []) (before_told k.wish q m (phase_before p ms h e))

  -- ---- once it has started

  pub told_started : k.wish ≡ wish.Pull → (id : ℕ) (ms : List Message) → told_from (Started id) ms ≡ gifts_in id ms
  unfolding told_from gifts_in
  told_started w id [] = refl
  told_started w id (m ∷ ms) =
      ap (λ (v : Wish). gift_for v (Started id) m ++ told_from (does k (Started id) m).phase ms) w ∙ ap (λ q. gift_in (Started id) m ++ told_from q ms) (rests k id m).0
      ∙ ap (λ t. gift_in (Started id) m ++ t) (told_started w id ms)

pub gifts_joined : (id : ℕ) (a b : List Message) → gifts_in id (a ++ b) ≡ gifts_in id a ++ gifts_in id b
unfolding gifts_in
gifts_joined id [] b = refl
gifts_joined id (m ∷ a) b = ap (λ t. gift_in (Started id) m ++ t) (gifts_joined id a b) ∙ sym (append_assoc (gift_in (Started id) m) (gifts_in id a) (gifts_in id b))

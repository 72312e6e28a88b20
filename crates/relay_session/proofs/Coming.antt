-- A call that waits has come to its place: the seat has a pass there
use Rattle.std.proofs.Common.{inl, inr, ◌≡◌, ◌≢◌, ◌⊎◌, ◌||◌, not, ℕ, Bool, true, false, List, [], ap, sym, refl, ◌∙◌, subst, Option, Some, None}
use Rattle.relay_outside.specs.Heard.{Came, CameBytes, CameEnd, CameNotYet, CameFailed}
use Rattle.relay_outside.specs.declared.link.Said.{Said}
use Rattle.relay_outside.specs.declared.link.Said.TheVariants as said
use Rattle.command_dialog.specs.declared.types.Ask.{Ask}
use Rattle.command_dialog.specs.declared.types.Grant.{Grant}
use Rattle.command_dialog.specs.declared.types.Playing.{Playing}
use Rattle.session_owed.specs.Standing.{Past}
use Rattle.stream_model.specs.declared.calls.Entry.{Entry}
use Rattle.relay_session.specs.Coming.{ComesTo}
use Rattle.relay_session.specs.Feeding.{Firm, Heard}
use Rattle.relay_session.specs.Owing.{pending}
use Rattle.relay_session.proofs.Whole.{left_kept}
use Rattle.relay_session.specs.SeatState.{LeavesFrom, left_at, stays}
use Rattle.relay_session.specs.SeatVisits.{Visit}
use Rattle.relay_session.specs.Turns.{AfterCall, AfterKept, CallAsked, CallMade, CalledBy, CameAs, EmptyBy, Fed, FedAs, FedBy, Gone, Input, InputBy, IsEnded, KeptBy, Life, Loudly, Quietly, QuitBy, SendBy, Sent, SentAs, Stopping, TakeMade, Taken, TakenBy, is_hungry, is_nil, life, takes}
use Rattle.relay_session.specs.declared.core_fields.Core.{Core}
use Rattle.relay_session.specs.declared.end.End.{End}
use Rattle.relay_session.specs.declared.seat_answers.Active.{Active}
use Rattle.relay_session.specs.declared.seat_answers.Leaving.{Leaving}
use Rattle.relay_session.specs.declared.seat_answers.Leaving.TheVariants as leaving
use Rattle.relay_session.specs.declared.seat_answers.Made.{Made}
use Rattle.relay_session.specs.declared.seat_answers.Made.TheVariants as made
use Rattle.relay_session.specs.declared.turn.Turn.{Turn}

-- it depends on the call that waits, its place and where the pass is alone
same_come : (kept kept' : Option Entry) (place place' at at' : Option ℕ) → kept' ≡ kept → place' ≡ place → at' ≡ at → ComesTo kept place at → ComesTo kept' place' at'
same_come kept kept' place place' at at' k p e h = rw (k, p, e) h

-- none waits
pub free_come : (kept : Option Entry) (place at : Option ℕ) → kept ≡ None → ComesTo kept place at
free_come kept place at k = rw k tt

-- it was tried there, and waits on
tried_come : (kept : Option Entry) (place at : Option ℕ) (p : ℕ) → place ≡ Some p → at ≡ Some p → ComesTo kept place at
tried_come None place at p e f = tt
tried_come (Some k) place at p e f = (p, e, f)

module _ {P S : Type 0} (asks : P → S → ℕ → Entry → Made → P → S → Type 0) (at : S → Option ℕ)
    (comes : (port : P) (seat : S) (place : ℕ) (e : Entry) (came : Made) (port' : P) (seat' : S) → asks port seat place e came port' seat' → at seat' ≡ stays place came) where
  abbrev Come : Life P S → Type 0
  Come v = ComesTo v.parts.kept v.parts.place (at v.seat)

  ended_come : (e : End) (v : Life P S) (a : Turn) (w : Life P S) → IsEnded e v a w → Come v → Come w
  ended_come e v a w i h = same_come v.parts.kept w.parts.kept v.parts.place w.parts.place (at v.seat) (at w.seat) (ap (λ (g : Gone). g.kept) i.gone) (ap (λ (g : Gone). g.place) i.gone) (ap at i.seat) h

  in_parts : (v : Life P S) (c : Core) (input : List ℕ) → c.kept ≡ v.parts.kept → c.place ≡ v.parts.place → Come v → Come (life c input v.port v.seat)
  in_parts v c input k p h = same_come v.parts.kept c.kept v.parts.place c.place (at v.seat) (at v.seat) k p refl h

  -- ---- step 6

  made_come : (v : Life P S) (e : Entry) (place : ℕ) (moved : Bool) (came : Made) (w : Life P S) (a : Turn) → v.parts.place ≡ Some place → at w.seat ≡ stays place came → TakeMade v e moved came w a → Come w
  made_come v e place moved (made.Answer r) w a p s t = free_come w.parts.kept w.parts.place (at w.seat) (ap (λ (x : Past). x.kept) t.0.past)
  made_come v e place moved (made.Busy f) w a p s t = tried_come w.parts.kept w.parts.place (at w.seat) place (ap (λ (x : Core). x.place) t.0 ∙ p) s
  made_come v e place moved (made.Worn f) w a p s t = tried_come w.parts.kept w.parts.place (at w.seat) place (ap (λ (x : Core). x.place) t.0 ∙ p) s
  made_come v e place moved (made.OutOfMemory f) w a p s t = tried_come w.parts.kept w.parts.place (at w.seat) place (ap (λ (x : Core). x.place) t.0 ∙ p) s

  taken_by_come : (o : Option Playing) (v : Life P S) (moved : Bool) (a : Turn) (w : Life P S) → TakenBy asks o v moved a w → Come v → Come w
  taken_by_come None v moved a w t h = subst Come (sym t.1) h
  taken_by_come (Some p) v moved a w t h = made_come v _ t.place moved t.came w a t.there (comes _ _ _ _ _ _ _ t.asked) t.taken

  taken_come : (v : Life P S) (moved : Bool) (a : Turn) (w : Life P S) → Taken asks v moved a w → Come v → Come w
  taken_come v moved a w (inl t) h = taken_by_come (takes t.0) (life t.0 v.input v.port v.seat) moved a w t.2 (in_parts v t.0 v.input (ap (λ (x : Core). x.kept) t.1.rest) (ap (λ (x : Core). x.place) t.1.rest) h)
  taken_come v moved a w (inr t) h = ended_come _ v a w t h

  -- ---- a call that waited

  call_made_come : (v : Life P S) (e : Entry) (place : ℕ) (came : Made) (w : Life P S) → v.parts.place ≡ Some place → at w.seat ≡ stays place came → CallMade v e came w → Come w
  call_made_come v e place (made.Answer r) w p s t = free_come w.parts.kept w.parts.place (at w.seat) (ap (λ (x : Past). x.kept) t.past)
  call_made_come v e place (made.Busy f) w p s t = tried_come w.parts.kept w.parts.place (at w.seat) place (ap (λ (x : Core). x.place) t ∙ p) s
  call_made_come v e place (made.Worn f) w p s t = tried_come w.parts.kept w.parts.place (at w.seat) place (ap (λ (x : Core). x.place) t ∙ p) s
  call_made_come v e place (made.OutOfMemory f) w p s t = tried_come w.parts.kept w.parts.place (at w.seat) place (ap (λ (x : Core). x.place) t ∙ p) s

  call_come : (v : Life P S) (e : Entry) (came : Made) (w : Life P S) → CallAsked asks v e came w → Come w
  call_come v e came w t = call_made_come v e t.place came w t.there (comes _ _ _ _ _ _ _ t.asked) t.called

  after_come : (v m : Life P S) (came : Made) (a : Turn) (w : Life P S) → AfterCall asks v came m a w → Come m → Come w
  after_come v m (made.Answer r) a w (inl t) h = taken_come m true a w t.1 h
  after_come v m (made.Answer r) a w (inr t) h = ended_come _ m a w t h
  after_come v m (made.Busy f) a w t h = taken_come m true a w t h
  after_come v m (made.Worn f) a w t h = ended_come _ m a w t h
  after_come v m (made.OutOfMemory f) a w t h = ended_come _ m a w t h

  called_come : (o : Option Entry) (v : Life P S) (a : Turn) (w : Life P S) → v.parts.kept ≡ o → CalledBy asks o v a w → Come w
  called_come None v a w k t = taken_come v true a w t (free_come v.parts.kept v.parts.place (at v.seat) k)
  called_come (Some e) v a w k t = after_come v t.1.0 t.0 a w t.1.1.1 (call_come v e t.0 t.1.0 t.1.1.0)

  module _ (desk : Ask → Grant) where
    -- ---- step 5

    fed_as_come : (by : FedBy) (v : Life P S) (moved : Bool) (a : Turn) (w : Life P S) → FedAs asks desk by v moved a w → Come v → Come w
    fed_as_come Quietly v moved a w t h = taken_come (life t.0 [] v.port v.seat) (moved || not (is_nil v.input)) a w t.1.2 (in_parts v t.0 [] (ap (λ (x : Heard). x.kept) t.1.1) (ap (λ (x : Heard). x.place) t.1.1) h)
    fed_as_come Loudly v moved a w t h = called_come t.0.kept (life t.0 t.1.0 v.port v.seat) a w refl t.1.1.2
    fed_as_come (Stopping e) v moved a w t h = ended_come e (life t.0 v.input v.port v.seat) a w t.1.1 (in_parts v t.0 v.input t.1.0.kept t.1.0.place h)

    fed_come : (v : Life P S) (moved : Bool) (a : Turn) (w : Life P S) → Fed asks desk v moved a w → Come v → Come w
    fed_come v moved a w t h = fed_as_come t.0 v moved a w t.1 h

    came_come : (came : Came) (v : Life P S) (moved : Bool) (a : Turn) (w : Life P S) → CameAs asks desk came v moved a w → Come v → Come w
    came_come (CameBytes b) v moved a w (inl t) h = fed_come (life v.parts b v.port v.seat) true a w t h
    came_come (CameBytes b) v moved a w (inr t) h = ended_come _ v a w t h
    came_come CameNotYet v moved a w t h = taken_come v moved a w t h
    came_come CameEnd v moved a w t h = ended_come _ v a w t h
    came_come CameFailed v moved a w t h = ended_come _ v a w t h

    module _ {L : Type 0} (hears : L → ℕ → Came → L → Type 0) where
      empty_come : (b : Bool) (v : Life P S) (l : L) (moved : Bool) (a : Turn) (w : Life P S) (m : L) → EmptyBy asks desk hears b v l moved a w m → Come v → Come w
      empty_come true v l moved a w m t h = came_come t.0 v moved a w t.1.1 h
      empty_come false v l moved a w m t h = fed_come v moved a w t.0 h

      input_by_come : (b : Bool) (v : Life P S) (l : L) (moved : Bool) (a : Turn) (w : Life P S) (m : L) → InputBy asks desk hears b v l moved a w m → Come v → Come w
      input_by_come true v l moved a w m t h = empty_come (is_nil v.input) v l moved a w m t h
      input_by_come false v l moved a w m t h = taken_come v moved a w t.0 h

      input_come : (v : Life P S) (l : L) (moved : Bool) (a : Turn) (w : Life P S) (m : L) → Input asks desk hears v l moved a w m → Come v → Come w
      input_come v l moved a w m t h = input_by_come (is_hungry v.parts) v l moved a w m t h

      module _ (says : L → List ℕ → Said → L → Type 0) where
        -- ---- step 4

        sent_as_come : (q : Said) (v : Life P S) (l : L) (moved : Bool) (a : Turn) (w : Life P S) (m : L) → SentAs asks desk hears says q v l moved a w m → Come v → Come w
        sent_as_come (said.Took n) v l moved a w m t h =
            input_come (life t.0 v.input v.port v.seat) l true a w m t.1.1 (in_parts v t.0 v.input (ap (λ (x : Past). x.kept) t.1.0.past) (ap (λ (x : Firm). x.place) t.1.0.firm) h)
        sent_as_come said.NotYet v l moved a w m t h = input_come v l moved a w m t h
        sent_as_come said.Failed v l moved a w m t h = ended_come _ v a w t.0 h
        sent_as_come said.OutOfMemory v l moved a w m t h = ended_come _ v a w t.0 h

        send_come : (b : Bool) (v : Life P S) (l : L) (moved : Bool) (a : Turn) (w : Life P S) (m : L) → SendBy asks desk hears says b v l moved a w m → Come v → Come w
        send_come true v l moved a w m t h = input_come v l moved a w m t h
        send_come false v l moved a w m t h = sent_as_come t.0 v t.1.0 moved a w m t.1.1.1 h

        sent_come : (v : Life P S) (l : L) (moved : Bool) (a : Turn) (w : Life P S) (m : L) → Sent asks desk hears says v l moved a w m → Come v → Come w
        sent_come v l moved a w m (inl t) h =
            send_come (is_nil (pending t.0.outgoing)) (life t.0 v.input v.port v.seat) l moved a w m t.1.1 (in_parts v t.0 v.input (ap (λ (x : Core). x.kept) t.1.0.rest) (ap (λ (x : Core). x.place) t.1.0.rest) h)
        sent_come v l moved a w m (inr t) h = ended_come _ v a w t.0 h

        -- ---- steps 3 and 2

        quit_come : (quit : Bool) (v : Life P S) (l : L) (moved : Bool) (a : Turn) (w : Life P S) (m : L) → QuitBy asks desk hears says quit v l moved a w m → Come v → Come w
        quit_come true v l moved a w m t h = ended_come _ v a w t.0 h
        quit_come false v l moved a w m t h = sent_come v l moved a w m t h

        after_kept_come : (quit : Bool) (v k : Life P S) (came : Made) (l : L) (a : Turn) (w : Life P S) (m : L) → AfterKept asks desk hears says quit v came k l a w m → Come k → Come w
        after_kept_come quit v k (made.Answer r) l a w m (inl t) h = quit_come quit k l true a w m t.1 h
        after_kept_come quit v k (made.Answer r) l a w m (inr t) h = ended_come _ k a w t.0 h
        after_kept_come quit v k (made.Busy f) l a w m t h = subst Come (sym t.1) h
        after_kept_come quit v k (made.Worn f) l a w m t h = ended_come _ k a w t.0 h
        after_kept_come quit v k (made.OutOfMemory f) l a w m t h = ended_come _ k a w t.0 h

        pub kept_come : (o : Option Entry) (quit : Bool) (v : Life P S) (l : L) (a : Turn) (w : Life P S) (m : L) → KeptBy asks desk hears says o quit v l a w m → ComesTo v.parts.kept v.parts.place (at v.seat) → ComesTo w.parts.kept w.parts.place (at w.seat)
        kept_come None quit v l a w m t h = quit_come quit v l false a w m t h
        kept_come (Some e) quit v l a w m t h = after_kept_come quit v t.1.0 t.0 l a w m t.1.1.1 (call_come v e t.0 t.1.0 t.1.1.0)

-- ---- closed

-- where it was nowhere none waited
from_none : (kept : Option Entry) (place : Option ℕ) → ComesTo kept place None → kept ≡ None
from_none None place h = refl
from_none (Some e) place h = absurd (let q : None ≡ Some h.0 = h.2 in cc)

pub done_come : (at : Option ℕ) (place : Option ℕ) (who fed : ℕ) (kept : Option Entry) (a : Active) (visits : List Visit) (r : Leaving) (kept' : Option Entry) (a' : Active) (visits' : List Visit) → ComesTo kept place at
    → LeavesFrom at who fed kept a visits r kept' a' visits' → r ≡ leaving.Done → kept' ≡ None
done_come None place who fed kept a visits r kept' a' visits' h l e = l.2 ∙ from_none kept place h
done_come (Some p) place who fed kept a visits leaving.Done kept' a' visits' h l e = l.1
done_come (Some p) place who fed kept a visits leaving.Worn kept' a' visits' h l e = absurd cc
done_come (Some p) place who fed kept a visits leaving.Busy kept' a' visits' h l e = absurd cc
done_come (Some p) place who fed kept a visits leaving.OutOfMemory kept' a' visits' h l e = absurd cc

held_come : (kept kept' : Option Entry) (place at at' : Option ℕ) → at' ≡ at → (kept' ≡ kept) ⊎ (kept' ≡ None) → ComesTo kept place at → ComesTo kept' place at'
held_come kept kept' place at at' e (inl k) h = same_come kept kept' place place at at' k refl e h
held_come kept kept' place at at' e (inr k) h = free_come kept' place at' k

pub closed_come : (at at' place : Option ℕ) (who fed : ℕ) (kept : Option Entry) (a : Active) (visits : List Visit) (r : Leaving) (kept' : Option Entry) (a' : Active) (visits' : List Visit) → ComesTo kept place at
    → LeavesFrom at who fed kept a visits r kept' a' visits' → at' ≡ left_at r at → r ≢ leaving.Worn → ComesTo kept' place at'
closed_come at at' place who fed kept a visits leaving.Done kept' a' visits' h l e n = free_come kept' place at' (done_come at place who fed kept a visits leaving.Done kept' a' visits' h l refl)
closed_come at at' place who fed kept a visits leaving.Worn kept' a' visits' h l e n = absurd (n refl)
closed_come at at' place who fed kept a visits leaving.Busy kept' a' visits' h l e n = held_come kept kept' place at at' e (left_kept at who fed kept a visits leaving.Busy kept' a' visits' l) h
closed_come at at' place who fed kept a visits leaving.OutOfMemory kept' a' visits' h l e n = held_come kept kept' place at at' e (left_kept at who fed kept a visits leaving.OutOfMemory kept' a' visits' l) h

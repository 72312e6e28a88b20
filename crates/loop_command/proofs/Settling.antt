-- What a run that has come to its end is
use Rattle.std.proofs.Common.{◌≡◌, ℕ, ◌≤◌, ◌<◌, Bool, true, false, ◌&&◌, not, nat_eq, nat_le, List, [], ◌∷◌, length, Option, Some, None, is_some, refl, sym}
use Rattle.std.proofs.Common.{◌∙◌, subst, arith}
use Rattle.std.proofs.lemmas.Bool.Decides.{nat_tests}
use Rattle.av_unit.specs.Fits.{Fits}
use Rattle.av_unit.specs.declared.item.Item.{Item}
use Rattle.av_unit.specs.declared.unit.Kind.{Kind}
use Rattle.av_unit.specs.declared.unit.Kind.TheVariants as kind
use Rattle.command_dialog.specs.declared.types.Ask.{Ask}
use Rattle.command_dialog.specs.declared.types.Grant.{Grant}
use Rattle.stream_model.specs.declared.calls.Entry.{Entry}
use Rattle.stream_model.specs.declared.replies.Reply.{Reply}
use Rattle.stream_model.specs.declared.replies.Reply.TheVariants as reply
use Rattle.client_law.specs.Room.{BringsRoom, HaveRoom}
use Rattle.stream_registry.specs.Books.{SeenState, journal_at}
use Rattle.stream_registry.specs.Told.{Step}
use Rattle.relay_session.specs.SessionState.{IsUnsent, SessionState, StandsFor, pending_by}
use Rattle.loop_command.specs.Course.{has_told, is_done, is_quiet, is_settled, is_still, sent_in}
use Rattle.loop_command.specs.Desk.{granted}
use Rattle.loop_command.specs.Rounds.{IsSettled, IsStill}
use Rattle.loop_command.specs.declared.rounds.Run.{Run}
use Rattle.loop_command.specs.declared.rounds.Stage.{Stage}
use Rattle.loop_command.specs.declared.rounds.Stage.TheVariants.{Giving, Finishing, Done}

pub both : (a b : Bool) → (a && b) ≡ true → (a ≡ true) × (b ≡ true)
both true b e = (refl, e)
both false b e = absurd (cc)

pub same_is : (n m : ℕ) → nat_eq n m ≡ true → n ≡ m
same_is n m e = grind (arith, nat_tests, e)

few_is : (n m : ℕ) → nat_le n m ≡ true → n ≤ m
few_is n m e = grind (arith, nat_tests, e)

none_kept : (o : Option Entry) → not (is_some o) ≡ true → o ≡ None
none_kept None e = refl
none_kept (Some x) e = absurd (cc)

pub still : (s : SessionState SeenState) (n : ℕ) → n ≡ pending_by s.ended s.parts
    → ((desk : Ask → Grant) → StandsFor desk s → IsUnsent s.ended desk s.parts n) → is_still s ≡ true → IsStill s
still s n e u t =
    let b = both (not (is_some s.parts.kept)) (nat_eq (pending_by s.ended s.parts) 0) t in
    let zero : n ≡ 0 = e ∙ same_is (pending_by s.ended s.parts) 0 b.1 in
    record { none = none_kept s.parts.kept b.0; unsent = λ h. subst (λ (k : ℕ). IsUnsent s.ended granted s.parts k) zero (u granted h) }

done_is : (stage : Stage) → is_done stage ≡ true → stage ≡ Done
done_is Giving e = absurd (cc)
done_is Finishing e = absurd (cc)
done_is Done e = refl

pub quiet_stills : (r : Run) → is_quiet r ≡ true → (is_still r.push.session ≡ true) × (is_still r.pull.session ≡ true)
quiet_stills r e =
    let a = both r.over _ e in
    let b = both (is_done r.stage) _ a.1 in
    let c = both (nat_eq (length r.push.session.parts.x) r.push.forth) _ b.1 in
    let d = both (is_still r.push.session) _ c.1 in
    (d.0, (both (is_still r.pull.session) _ d.1).0)

pub settled : (r : Run) → (is_quiet r ≡ true → IsStill r.push.session × IsStill r.pull.session) → is_settled r ≡ true → IsSettled r
settled r stills e =
    let q = both (is_quiet r) (has_told r) e in
    let a = both r.over _ q.0 in
    let b = both (is_done r.stage) _ a.1 in
    let c = both (nat_eq (length r.push.session.parts.x) r.push.forth) _ b.1 in
    let d = both (is_still r.push.session) _ c.1 in
    let f = both (is_still r.pull.session) _ d.1 in
    let s = stills q.0 in
    record {
      over_is = a.0;
      stage_is = done_is r.stage b.0;
      came = same_is (length r.push.session.parts.x) r.push.forth c.0;
      publishes = s.0;
      plays = s.1;
      pulls = same_is (length r.pull.client.parts.outgoing.pending) 0 f.1;
      told = few_is (sent_in (journal_at r.port.books 0)) r.told q.1;
    }

pub le_true : (n m : ℕ) → n ≤ m → true ≡ nat_le n m
le_true n m e = sym (grind (arith, nat_tests, e))

pub le_false : (n m : ℕ) → m < n → false ≡ nat_le n m
le_false n m e = sym (grind (arith, nat_tests, e))

-- ---- a history that is gone through

pub none_sent : (history : List Step) → length history < 1 → sent_in history ≡ 0
none_sent [] e = refl
none_sent (c ∷ history) e = absurd (omega (arith, e))

pub none_brought : (history : List Step) → length history < 1 → HaveRoom 4194304 history
none_brought [] e = tt
none_brought (c ∷ history) e = absurd (omega (arith, e))

-- ---- what has room in a message

pub fits_room : (k : Kind) (body : List ℕ) → Fits k body → length body ≤ 4194304
fits_room kind.Meta body f = omega (arith, f)
fits_room kind.VConfig body f = omega (arith, f)
fits_room kind.AConfig body f = omega (arith, f)
fits_room kind.Key body f = f
fits_room kind.Inter body f = f
fits_room kind.Spare body f = f
fits_room kind.Audio body f = f
fits_room kind.Data body f = f

-- a reply that brings no item
pub brings_none : (r : Reply) → ((from n : ℕ) (item : Item) → r ≡ reply.Sent from n item → ⊥) → BringsRoom 4194304 r
brings_none (reply.Sent from n item) none = absurd (none from n item refl)
brings_none (reply.Began n) none = tt
brings_none (reply.InUse by) none = tt
brings_none (reply.Pushed n) none = tt
brings_none (reply.NotPublisher live) none = tt
brings_none (reply.Ended n) none = tt
brings_none (reply.Joined player from) none = tt
brings_none reply.Full none = tt
brings_none reply.NotPlayer none = tt
brings_none (reply.Skip from to) none = tt
brings_none (reply.NotYet end) none = tt
brings_none (reply.Left player) none = tt
brings_none (reply.Counts began pushed ended joined skips) none = tt
brings_none (reply.NoSlot slots) none = tt

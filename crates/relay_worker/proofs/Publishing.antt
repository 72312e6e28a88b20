-- What a session pushed is what its messages publish
use Rattle.std.proofs.Common.{◌≡◌, inl, inr, List, [], ◌∷◌, ◌++◌, Option, refl, sym, ap, subst, ◌∙◌, append_assoc, append-nil, ℕ}
use Rattle.av_unit.specs.Media.{Media}
use Rattle.command_dialog.specs.declared.types.Ask.{Ask}
use Rattle.command_dialog.specs.declared.types.Grant.{Grant}
use Rattle.session_owed.specs.Owed.{count_of}
use Rattle.session_owed.specs.Published.{published, pushed_by, pushed_in, unit_of}
use Rattle.session_owed.specs.Talk.{Own}
use Rattle.session_owed.proofs.Publishing.{published_are}
use Rattle.stream_model.specs.declared.calls.Call.{Call}
use Rattle.stream_model.specs.declared.calls.Entry.{Entry}
use Rattle.stream_model.specs.declared.calls.Shape.{Shape}
use Rattle.stream_registry.specs.Told.{Histories}
use Rattle.turn_gate.specs.Histories.{Begins}
use Rattle.relay_session.specs.SeatVisits.{calls_of}
use Rattle.relay_session.specs.Session.{session}
use Rattle.relay_worker.specs.Books.{Account, Accounted, IsParted, IsParting, IsWaited}
use Rattle.relay_worker.specs.declared.bench.Terms.{Terms}

pushed_append : (C D : List Own) → pushed_by (C ++ D) ≡ pushed_by C ++ pushed_by D
unfolding pushed_by
pushed_append [] D = refl
pushed_append (c ∷ C) D = ap (λ (l : List Media). unit_of c.0.call ++ l) (pushed_append C D) ∙ sym (append_assoc (unit_of c.0.call) (pushed_by C) (pushed_by D))

-- a call that ends what was granted publishes nothing
pushes_none : (c : Call) → IsParting c → unit_of c ≡ []
pushes_none c (inl e) = ap unit_of e
pushes_none c (inr e) = ap unit_of e.1

pushed_parted : (last : List Own) → IsParted last → pushed_by last ≡ []
unfolding pushed_by
pushed_parted last (inl e) = ap pushed_by e
pushed_parted last (inr e) = ap pushed_by e.1.1 ∙ (append-nil (unit_of e.0.0.call) ∙ pushes_none e.0.0.call e.1.0)

pushed_waited : (waited : Option Entry) (first : List Own) → IsWaited waited first → Begins (pushed_by first) (pushed_in waited)
unfolding pushed_by
pushed_waited waited first (inl e) = (pushed_in waited, ap (λ (C : List Own). pushed_by C ++ pushed_in waited) e)
pushed_waited waited first (inr e) =
    ([], append-nil (pushed_by first) ∙ (ap pushed_by e.1.1.1 ∙ (append-nil (unit_of e.0.call) ∙ sym (ap pushed_in e.1.1.0))))

begins_after : (a b : List Media) (P Q : List Media) → Begins P Q → a ≡ b ++ P → Begins a (b ++ Q)
begins_after a b P Q s e = (s.0, ap (λ (l : List Media). l ++ s.0) e ∙ (append_assoc b P s.0 ∙ ap (λ (l : List Media). b ++ l) s.1))

-- THE UNITS THAT A SESSION PUSHED begin those that its messages publish
pub published_begins : (desk : Ask → Grant) (t : Terms) (limits : ℕ → Shape) (histories : Histories) (a : Account) (w : Accounted desk t limits histories a)
    → Begins (pushed_by (calls_of w.visits)) (published (session a.who t.limits.window desk) w.ms w.calls)
published_begins desk t limits histories a w =
    let d = session a.who t.limits.window desk in
    let b = w.left_by in
    let all : pushed_by (calls_of w.visits) ≡ pushed_by w.calls ++ pushed_by b.first =
    ap pushed_by w.calls_are ∙ (pushed_append w.calls w.left ∙ ap (λ (l : List Media). pushed_by w.calls ++ l)
    (ap pushed_by b.calls_are ∙ (pushed_append b.first b.last ∙ (ap (λ (l : List Media). pushed_by b.first ++ l) (pushed_parted b.last b.last_is) ∙ append-nil (pushed_by b.first))))) in
    subst (Begins (pushed_by (calls_of w.visits))) (published_are d (count_of d w.x) w.ms w.calls w.waited w.talks)
    (begins_after (pushed_by (calls_of w.visits)) (pushed_by w.calls) (pushed_by b.first) (pushed_in w.waited) (pushed_waited w.waited b.first b.first_is) all)

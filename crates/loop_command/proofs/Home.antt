-- The sessions of a loop call at its one stream alone
use Rattle.std.proofs.Common.{◌≡◌, ◌≢◌, ℕ, Bool, true, false, ◌&&◌, if◌then◌else◌, List, codes, Option, Some, None, Result, Ok, Err, refl, sym, ◌∙◌}
use Rattle.std.proofs.Common.{subst, arith}
use Rattle.ack_window.specs.declared.control.BadControl.{BadControl}
use Rattle.ack_window.specs.declared.control.Control.{Control}
use Rattle.ack_window.specs.Controls.{control_in}
use Rattle.chunk_wire.specs.declared.message.Message.{Message}
use Rattle.client_owed.specs.News.{is_text}
use Rattle.command_dialog.specs.declared.types.Act.TheVariants as act
use Rattle.command_dialog.specs.declared.types.Ask.{Ask}
use Rattle.command_dialog.specs.declared.types.DialogFail.{DialogFail}
use Rattle.command_dialog.specs.declared.types.Grant.{Grant}
use Rattle.command_dialog.specs.declared.types.Grant.TheVariants as grant
use Rattle.command_dialog.specs.declared.types.Meant.{Meant}
use Rattle.command_dialog.specs.declared.types.Meant.TheVariants as meant
use Rattle.command_dialog.specs.declared.types.Phase.{Phase}
use Rattle.command_dialog.specs.declared.types.Phase.TheVariants as phase
use Rattle.command_dialog.specs.declared.types.Role.{Role}
use Rattle.command_dialog.specs.declared.types.Role.TheVariants as role
use Rattle.command_dialog.specs.Dialog as dialog
use Rattle.command_dialog.specs.Meaning.{meaning}
use Rattle.command_dialog.specs.State.{State}
use Rattle.av_unit.specs.Media.{Media}
use Rattle.relay_session.specs.Places.{IsGrantThere, IsOffered}
use Rattle.relay_session.specs.SeatState.{IsElsewhere, SeatState, place_of, stays}
use Rattle.relay_session.specs.Session.{place_by, place_in}
use Rattle.relay_session.specs.Session as session
use Rattle.relay_session.specs.declared.seat_answers.Made.{Made}
use Rattle.relay_session.specs.declared.seat_answers.Made.TheVariants as made
use Rattle.stream_model.specs.declared.calls.Entry.{Entry}
use Rattle.stream_registry.specs.Books.{SeenState, SoleState}
use Rattle.loop_command.specs.Course.{Asks}
use Rattle.loop_command.specs.Desk.{granted}
use Rattle.loop_command.specs.Lines.{IsHome, StaysHome}

-- ---- messages

test_home : (b : Bool) (p : ℕ) → (if b then grant.Place 0 else grant.NoName) ≡ grant.Place p → p ≡ 0
test_home true p e = let f : grant.Place 0 ≡ grant.Place p = e in cc
test_home false p e = absurd (cc)

-- it offers the one place alone
pub offered : (n : ℕ) → n ≡ 1 → IsOffered granted n
offered n e a = by_test (is_text a.app (codes "live") && is_text a.name (codes "cam"))
  where
    by_test : (b : Bool) → IsGrantThere n (if b then grant.Place 0 else grant.NoName)
    by_test true = omega (arith, e)
    by_test false = tt

-- what a desk may grant
abbrev GrantsHome : Option Grant → Type 0
GrantsHome g = (p : ℕ) → g ≡ Some (grant.Place p) → p ≡ 0

granted_home : (a : Ask) → GrantsHome (Some (granted a))
granted_home a p e =
    let f : granted a ≡ grant.Place p = cc in
    test_home (is_text a.app (codes "live") && is_text a.name (codes "cam")) p f

act_home : (place : Option ℕ) (r : Role) (name : List ℕ) (g : Option Grant) → GrantsHome g → IsHome place
    → IsHome (session.place_after place (dialog.calls_by r name g))
act_home place role.Publish name (Some (grant.Place p)) g h = λ q e. let f : p ≡ q = cc in sym f ∙ g p refl
act_home place role.Play name (Some (grant.Place p)) g h = λ q e. let f : p ≡ q = cc in sym f ∙ g p refl
act_home place role.Publish name (Some grant.Refused) g h = h
act_home place role.Play name (Some grant.Refused) g h = h
act_home place role.Publish name (Some grant.NoName) g h = h
act_home place role.Play name (Some grant.NoName) g h = h
act_home place role.Publish name None g h = h
act_home place role.Play name None g h = h

ends_home : (place : Option ℕ) (id : ℕ) (p : Phase) → IsHome place → IsHome (session.place_after place (dialog.ends id p))
ends_home place id (phase.Publishes n size) h = by_test (Rattle.std.proofs.Common.nat_eq n id)
  where
    by_test : (b : Bool) → IsHome (session.place_after place (if b then Some act.End else None))
    by_test true = h
    by_test false = h
ends_home place id (phase.Plays p) h = by_test (Rattle.std.proofs.Common.nat_eq p.id id)
  where
    by_test : (b : Bool) → IsHome (session.place_after place (if b then Some (act.Leave p.player) else None))
    by_test true = h
    by_test false = h
ends_home place id phase.Idle h = h
ends_home place id (phase.Asked r n) h = h

media_home : (place : Option ℕ) (u : Option Media) → IsHome place → IsHome (session.place_after place (Rattle.std.specs.Option.option_map act.Push u))
media_home place None h = h
media_home place (Some u) h = h

makes_home : (place : Option ℕ) (s : State) (m : Message) (x : Meant) → IsHome place
    → IsHome (session.place_after place (dialog.makes s m (dialog.granted granted x) x))
unfolding Rattle.command_dialog.specs.Dialog.makes
makes_home place s m meant.Passed h = h
makes_home place s m (meant.Connects transaction app) h = h
makes_home place s m (meant.Creates transaction id) h = h
makes_home place s m (meant.Busy r id) h = h
makes_home place s m (meant.Asks a id) h = act_home place a.role a.name (Some (granted a)) (granted_home a) h
makes_home place s m (meant.Closes id) h = ends_home place id s.phase h
makes_home place s m (meant.Turns p) h = h
makes_home place s m meant.Media h = media_home place (dialog.published_in s.phase m) h

does_home : (place : Option ℕ) (s : State) (m : Message) (r : Result Meant DialogFail) → IsHome place
    → IsHome (session.place_after place (dialog.does_by granted s m r).makes)
does_home place s m (Ok x) h = makes_home place s m x h
does_home place s m (Err e) h = h

control_home : (place : Option ℕ) (s : State) (m : Message) (r : Result (Option Control) BadControl) → IsHome place → IsHome (place_in granted s m place r)
unfolding Rattle.command_dialog.specs.Dialog.does
control_home place s m (Ok None) h = does_home place s m (meaning s m) h
control_home place s m (Ok (Some c)) h = h
control_home place s m (Err e) h = h

pub heard_home : (s : State) (place : Option ℕ) (m : Message) (x : SoleState) (t : SeatState SeenState) → StaysHome place x t
    → StaysHome (place_by granted s place m) x t
unfolding Rattle.relay_session.specs.Session.place_by
heard_home s place m x t h = record { place = control_home place s m (control_in m) h.place; spot = h.spot; none = h.none }

-- ---- calls

stays_home : (place : ℕ) (r : Made) → place ≡ 0 → IsHome (stays place r)
stays_home place (made.Answer r) e = by_test (Rattle.relay_session.specs.SeatState.is_over r)
  where
    by_test : (b : Bool) → IsHome (if b then None else Some place)
    by_test true = λ q f. absurd (cc)
    by_test false = λ q f. let g : place ≡ q = cc in sym g ∙ e
stays_home place (made.Busy f) e = λ q i. let g : place ≡ q = cc in sym g ∙ e
stays_home place (made.Worn f) e = λ q i. let g : place ≡ q = cc in sym g ∙ e
stays_home place (made.OutOfMemory f) e = λ q i. let g : place ≡ q = cc in sym g ∙ e

elsewhere : (spot : Option (ℕ × SeenState)) (q : ℕ) → q ≢ 0 → IsHome (place_of spot) → IsElsewhere spot q
elsewhere None q n h = tt
elsewhere (Some p) q n h = λ e. n (e ∙ h p.0 refl)

pub asked_home : (x : SoleState) (s : SeatState SeenState) (place : ℕ) (e : Entry) (r : Made) (y : SoleState) (t : SeatState SeenState)
    → Asks x s place e r y t → StaysHome (Some place) x s → StaysHome (Some place) y t
asked_home x s place e r y t a h =
    let zero : place ≡ 0 = h.place place refl in
    record {
      place = h.place;
      spot = subst IsHome (sym a.asked.spot) (stays_home place r zero);
      none = λ q n. a.asked.others q (λ f. n (f ∙ zero)) (elsewhere s.spot q n h.spot) ∙ h.none q n;
    }

-- The unit that a message publishes is no longer than the message
use Rattle.std.proofs.Common.{◌≡◌, ◌≤◌, ℕ, Bool, true, false, cond, eqb, if◌then◌else◌, nat_le, List, length, drop, option_map, Option, Some, None, Result, Ok, Err, refl, sym, ap, arith, length-drop}
use Rattle.av_unit.specs.Classes.{class_of, unit_from}
use Rattle.av_unit.specs.Media.{Media}
use Rattle.av_unit.specs.declared.unit.Class.{Class}
use Rattle.ack_window.specs.Controls.{control_in}
use Rattle.ack_window.specs.declared.control.Control.{Control}
use Rattle.ack_window.specs.declared.control.BadControl.{BadControl}
use Rattle.chunk_wire.specs.declared.message.Message.{Message}
use Rattle.command_dialog.specs.Dialog as dialog
use Rattle.command_dialog.specs.Dialog.{call_of, calls_by, ends, granted, published_in}
use Rattle.command_dialog.specs.Meaning.{meaning}
use Rattle.command_dialog.specs.State.{State}
use Rattle.command_dialog.specs.declared.types.Act.{Act}
use Rattle.command_dialog.specs.declared.types.Act.TheVariants as act
use Rattle.command_dialog.specs.declared.types.Ask.{Ask}
use Rattle.command_dialog.specs.declared.types.DialogFail.{DialogFail}
use Rattle.command_dialog.specs.declared.types.Grant.{Grant}
use Rattle.command_dialog.specs.declared.types.Grant.TheVariants as grant
use Rattle.command_dialog.specs.declared.types.Meant.{Meant}
use Rattle.command_dialog.specs.declared.types.Meant.TheVariants as meant
use Rattle.command_dialog.specs.declared.types.Phase.{Phase}
use Rattle.command_dialog.specs.declared.types.Phase.TheVariants as phase
use Rattle.command_dialog.specs.declared.types.Role.{Role}
use Rattle.command_dialog.specs.declared.types.Role.TheVariants as role
use Rattle.stream_model.specs.declared.calls.Call.{Call}
use Rattle.stream_model.specs.declared.calls.Call.TheVariants as call
use Rattle.stream_model.specs.declared.calls.Entry.{Entry}
use Rattle.relay_session.specs.Bounds.{call_bytes, kept_bytes}
use Rattle.relay_session.specs.Session.{does, does_by, entry_by}

-- of an act as a call
abbrev asked_bytes : ℕ → ℕ → Option Act → ℕ
asked_bytes who at a = kept_bytes (entry_by who at (option_map call_of a))

unit_most : (kind time size : ℕ) (body : List ℕ) (u : Media) → unit_from kind time body size ≡ Some u → length u.body ≤ length body
unfolding unit_from
unit_most kind time size body u e = unit_case (class_of kind body size) e
  where
    unit_case : (c : Option Class) → option_map (λ c. record { kind = c.kind; time = time; body = drop c.from body }) c ≡ Some u → length u.body ≤ length body
    unit_case None f = absurd (cc)
    unit_case (Some c) f =
        let v : Media = record { kind = c.kind; time = time; body = drop c.from body } in
        let same : v ≡ u = cc in
        omega (arith, ap (λ (x : Media). length x.body) (sym same), length-drop c.from body)

published_most : (p : Phase) (m : Message) (u : Media) → published_in p m ≡ Some u → length u.body ≤ length m.body
published_most (phase.Publishes id size) m u e = unit_most m.kind m.time size m.body u e
published_most phase.Idle m u e = absurd (let h : None ≡ Some u = e in cc)
published_most (phase.Asked r id) m u e = absurd (let h : None ≡ Some u = e in cc)
published_most (phase.Plays p) m u e = absurd (let h : None ≡ Some u = e in cc)

push_most : (who at n : ℕ) (u : Option Media) → ((v : Media) → u ≡ Some v → length v.body ≤ n) → asked_bytes who at (option_map act.Push u) ≤ n
push_most who at n None f = omega arith
push_most who at n (Some v) f = f v refl

either_bytes : (n : ℕ) (b : Bool) (c d : Call) → call_bytes c ≤ n → call_bytes d ≤ n → call_bytes (if b then c else d) ≤ n
either_bytes n true c d f g = f
either_bytes n false c d f g = g

asks_none : (who at n : ℕ) (r : Role) (name : List ℕ) (g : Option Grant) → asked_bytes who at (calls_by r name g) ≤ n
asks_none who at n role.Publish name (Some (grant.Place place)) = either_bytes n (nat_le (length name) 64) (call.BeginAs name) call.Begin (omega arith) (omega arith)
asks_none who at n role.Publish name (Some grant.Refused) = omega arith
asks_none who at n role.Publish name (Some grant.NoName) = omega arith
asks_none who at n role.Publish name None = omega arith
asks_none who at n role.Play name (Some (grant.Place place)) = either_bytes n (nat_le (length name) 64) (call.JoinAs name) call.Join (omega arith) (omega arith)
asks_none who at n role.Play name (Some grant.Refused) = omega arith
asks_none who at n role.Play name (Some grant.NoName) = omega arith
asks_none who at n role.Play name None = omega arith

ends_case : (who at n player : ℕ) (t : Bool) → (asked_bytes who at (cond t (Some act.End) None) ≤ n) × (asked_bytes who at (cond t (Some (act.Leave player)) None) ≤ n)
ends_case who at n player true = (omega arith, omega arith)
ends_case who at n player false = (omega arith, omega arith)

ends_none : (who at n id : ℕ) (p : Phase) → asked_bytes who at (ends id p) ≤ n
ends_none who at n id (phase.Publishes m size) = (ends_case who at n 0 (eqb m id)).0
ends_none who at n id (phase.Plays p) = (ends_case who at n p.player (eqb p.id id)).1
ends_none who at n id phase.Idle = omega arith
ends_none who at n id (phase.Asked r m) = omega arith

made_most : (who at : ℕ) (s : State) (m : Message) (g : Option Grant) (meant : Meant) → asked_bytes who at (dialog.makes s m g meant) ≤ length m.body
unfolding dialog.makes
made_most who at s m g meant.Passed = omega arith
made_most who at s m g (meant.Connects t app) = omega arith
made_most who at s m g (meant.Creates t id) = omega arith
made_most who at s m g (meant.Busy r id) = omega arith
made_most who at s m g (meant.Asks a id) = asks_none who at (length m.body) a.role a.name g
made_most who at s m g (meant.Closes id) = ends_none who at (length m.body) id s.phase
made_most who at s m g (meant.Turns p) = omega arith
made_most who at s m g meant.Media = push_most who at (length m.body) (published_in s.phase m) (λ u e. published_most s.phase m u e)

command_by : (who at : ℕ) (desk : Ask → Grant) (s : State) (m : Message) (r : Result Meant DialogFail) → asked_bytes who at (dialog.does_by desk s m r).makes ≤ length m.body
command_by who at desk s m (Ok meant) = made_most who at s m (granted desk meant) meant
command_by who at desk s m (Err e) = omega arith

command_most : (who at : ℕ) (desk : Ask → Grant) (s : State) (m : Message) → asked_bytes who at (dialog.does desk s m).makes ≤ length m.body
unfolding dialog.does
command_most who at desk s m = command_by who at desk s m (meaning s m)

message_by : (who at : ℕ) (desk : Ask → Grant) (s : State) (m : Message) (c : Result (Option Control) BadControl) → kept_bytes (entry_by who at (does_by desk s m c).makes) ≤ length m.body
message_by who at desk s m (Ok None) = command_most who at desk s m
message_by who at desk s m (Ok (Some control)) = omega arith
message_by who at desk s m (Err e) = omega arith

-- the call that a message asks for
pub loud_most : (who at : ℕ) (desk : Ask → Grant) (s : State) (m : Message) (kept : Option Entry) → kept ≡ entry_by who at (does desk s m).makes → kept_bytes kept ≤ length m.body
unfolding does
loud_most who at desk s m kept e = omega (arith, ap kept_bytes e, message_by who at desk s m (control_in m))

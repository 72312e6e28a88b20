-- The order of refusals, that no act takes an item, and some worked examples.
use Rattle.std.proofs.Common.{◌≡◌, ℕ, Bool, true, false, if◌then◌else◌, nat_le, length, List, [], ◌∷◌, Some, None, refl}
use Rattle.std.specs.Prelude.{codes}
use Rattle.std.specs.Int.Count.{count_leading_zeros}
use Rattle.av_unit.specs.declared.head.Want.{Want}
use Rattle.amf0_value.specs.Pattern.{pattern}
use Rattle.rtmp_command.specs.declared.answer.Why.TheVariants as why
use Rattle.stream_model.specs.declared.calls.Call.{Call}
use Rattle.stream_model.specs.declared.calls.Call.TheVariants as call
use Rattle.stream_model.specs.declared.replies.Reply.TheVariants as reply
use Rattle.command_dialog.specs.declared.types.Role.{Role}
use Rattle.command_dialog.specs.declared.types.Role.TheVariants as role
use Rattle.command_dialog.specs.declared.types.Ask.{Ask}
use Rattle.command_dialog.specs.declared.types.Grant.TheVariants as grant
use Rattle.command_dialog.specs.declared.types.Act.{Act}
use Rattle.command_dialog.specs.declared.types.Act.TheVariants as act
use Rattle.command_dialog.specs.declared.types.Phase.{Phase}
use Rattle.command_dialog.specs.declared.types.Phase.TheVariants as phase
use Rattle.command_dialog.specs.declared.types.Meant.TheVariants as meant
use Rattle.command_dialog.specs.State.{State, with_phase}
use Rattle.command_dialog.specs.Words.{app_in, name_in, key_in}
use Rattle.command_dialog.specs.Meaning.{asks_while, free_from, least_free, closed_in}
use Rattle.command_dialog.specs.Dialog.{refuses, says, told, call_of}

no_name_takes : (b : Bool) (with_name : List ℕ → Call) (without_name : Call) (name : List ℕ) (player : ℕ) (want : Want)
    → (with_name name ≡ call.Take player want → ⊥) → (without_name ≡ call.Take player want → ⊥)
    → (if b then with_name name else without_name) ≡ call.Take player want → ⊥
no_name_takes true with_name without_name name player want h k e = h e
no_name_takes false with_name without_name name player want h k e = k e

pub no_take : (a : Act) (player : ℕ) (want : Want) → call_of a ≡ call.Take player want → ⊥
no_take (act.Begin place name) player want e = no_name_takes (nat_le (length name) 64) call.BeginAs call.Begin name player want (λ e. absurd cc) (λ e. absurd cc) e
no_take (act.Join place name) player want e = no_name_takes (nat_le (length name) 64) call.JoinAs call.Join name player want (λ e. absurd cc) (λ e. absurd cc) e
no_take (act.Push unit) player want e = absurd cc
no_take act.End player want e = absurd cc
no_take (act.Leave n) player want e = absurd cc

-- ---- the order of refusals

pub is_busy : (p : Phase) (r : Role) (id : ℕ) (app text : List ℕ) → (p ≡ phase.Idle → ⊥) → asks_while p r id app text ≡ meant.Busy r id
is_busy phase.Idle r id app text ne = absurd (ne refl)
is_busy (phase.Asked q n) r id app text ne = refl
is_busy (phase.Publishes n size) r id app text ne = refl
is_busy (phase.Plays p) r id app text ne = refl

pub busy_refused : (s : State) (r : Role) (id : ℕ) → says s None (meant.Busy r id) ≡ refuses r id why.RoleActive
unfolding says
busy_refused s r id = refl

pub no_name_refused : (s : State) (a : Ask) (id : ℕ) → says s (Some grant.NoName) (meant.Asks a id) ≡ refuses a.role id why.NoName
unfolding says
no_name_refused s a id = refl

pub guard_refused : (s : State) (a : Ask) (id : ℕ) → says s (Some grant.Refused) (meant.Asks a id) ≡ refuses a.role id why.Refused
unfolding says
guard_refused s a id = refl

pub in_use_refused : (s : State) (id by : ℕ) → (told (with_phase s (phase.Asked role.Publish id)) (reply.InUse by)).says ≡ refuses role.Publish id why.InUse
unfolding told
in_use_refused s id by = refl

pub no_slot_refused : (s : State) (r : Role) (id slots : ℕ) → (told (with_phase s (phase.Asked r id)) (reply.NoSlot slots)).says ≡ refuses r id why.Full
unfolding told
no_slot_refused s role.Publish id slots = refl
no_slot_refused s role.Play id slots = refl

pub full_refused : (s : State) (id : ℕ) → (told (with_phase s (phase.Asked role.Play id)) reply.Full).says ≡ refuses role.Play id why.Full
unfolding told
full_refused s id = refl

-- ---- worked examples

pub apps : (app_in (codes "live/?a=b") ≡ codes "live") × (app_in (codes "live//") ≡ codes "live/") × (app_in (codes "?live") ≡ [])
apps = (refl, refl, refl)

pub names : (name_in (codes "cam?abc?d") ≡ codes "cam") × (key_in (codes "cam?abc?d") ≡ codes "abc?d") × (key_in (codes "cam") ≡ [])
names = (refl, refl, refl)

pub ids_are : (least_free [] ≡ Some 1) × (least_free (1 ∷ 3 ∷ 2 ∷ []) ≡ Some 4) × (least_free (1 ∷ 2 ∷ 3 ∷ 4 ∷ 5 ∷ 6 ∷ 7 ∷ 8 ∷ 9 ∷ 10 ∷ 11 ∷ 12 ∷ 13 ∷ 14 ∷ 15 ∷ 16 ∷ []) ≡ None)
unfolding free_from
ids_are = (refl, refl, refl)

pub closes_is : (closed_in 4607182418800017408 (2 ∷ 1 ∷ []) ≡ Some 1) × (closed_in 4607182418800017409 (2 ∷ 1 ∷ []) ≡ None)
unfolding pattern count_leading_zeros
closes_is = (refl, refl)

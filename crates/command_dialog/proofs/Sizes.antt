-- The length size that the dialogue knows is that of the last video configuration pushed since the Begin.
use Rattle.std.proofs.Common.{◌≡◌, ℕ, Bool, true, false, cond, nat_eq, List, [], ◌∷◌, Option, Some, None, option_map, refl, sym, ap, ◌∙◌}
use Rattle.av_unit.specs.Media.{Media}
use Rattle.av_unit.specs.declared.unit.Kind.{Kind}
use Rattle.av_unit.specs.declared.unit.Kind.TheVariants as kind
use Rattle.chunk_wire.specs.declared.message.Message.{Message}
use Rattle.stream_model.specs.declared.replies.Reply.{Reply}
use Rattle.stream_model.specs.declared.replies.Reply.TheVariants as reply
use Rattle.command_dialog.specs.declared.types.Role.{Role}
use Rattle.command_dialog.specs.declared.types.Role.TheVariants as role
use Rattle.command_dialog.specs.declared.types.Grant.{Grant}
use Rattle.command_dialog.specs.declared.types.Grant.TheVariants as grant
use Rattle.command_dialog.specs.declared.types.Act.TheVariants as act
use Rattle.command_dialog.specs.declared.types.Phase.{Phase}
use Rattle.command_dialog.specs.declared.types.Phase.TheVariants as phase
use Rattle.command_dialog.specs.declared.types.Meant.{Meant}
use Rattle.command_dialog.specs.declared.types.Meant.TheVariants as meant
use Rattle.command_dialog.specs.State.{State}
use Rattle.command_dialog.specs.Meaning.{meaning}
use Rattle.command_dialog.specs.Dialog.{calls_by, ends, makes, after, asked, phase_without, published_in, size_by, sized, phase_after, told}
use Rattle.command_dialog.specs.Past.{Event, met, answered, or_passed, one, state_of}
use Rattle.command_dialog.specs.Sizes.{pushed_then, pushed_of, last_size}

-- what a phase knows of the units pushed since the last Begin
abbrev Knows : Phase → List Media → Type 0
Knows (phase.Publishes id size) units = size ≡ last_size units
Knows (phase.Asked role.Publish id) units = units ≡ []
Knows (phase.Asked role.Play id) units = Unit {0}
Knows phase.Idle units = Unit {0}
Knows (phase.Plays p) units = Unit {0}

-- ---- a publish or play with its grant

asks_know : (r : Role) (name : List ℕ) (id : ℕ) (g : Option Grant) (units : List Media) → Knows (asked r id g) (pushed_then (calls_by r name g) units)
asks_know role.Publish name id (Some (grant.Place place)) units = refl
asks_know role.Play name id (Some (grant.Place place)) units = tt
asks_know role.Publish name id (Some grant.Refused) units = tt
asks_know role.Play name id (Some grant.Refused) units = tt
asks_know role.Publish name id (Some grant.NoName) units = tt
asks_know role.Play name id (Some grant.NoName) units = tt
asks_know role.Publish name id None units = tt
asks_know role.Play name id None units = tt

-- ---- a message stream is closed

closed_by : (b : Bool) (n size : ℕ) (units : List Media) → size ≡ last_size units
    → Knows (cond b phase.Idle (phase.Publishes n size)) (pushed_then (cond b (Some act.End) None) units)
closed_by true n size units h = tt
closed_by false n size units h = h

left_by : (b : Bool) (p : Phase) (player : ℕ) (units : List Media) → Knows p units
    → Knows (cond b phase.Idle p) (pushed_then (cond b (Some (act.Leave player)) None) units)
left_by true p player units h = tt
left_by false p player units h = h

closes_know : (id : ℕ) (p : Phase) (units : List Media) → Knows p units → Knows (phase_without id p) (pushed_then (ends id p) units)
closes_know id (phase.Publishes n size) units h = closed_by (nat_eq n id) n size units h
closes_know id (phase.Plays p) units h = left_by (nat_eq p.id id) (phase.Plays p) p.player units tt
closes_know id phase.Idle units h = tt
closes_know id (phase.Asked r n) units h = h

-- ---- a unit is pushed

told_more : (k : Kind) (time : ℕ) (body : List ℕ) (size : ℕ) (units : List Media) → size ≡ last_size units
    → size_by k body size ≡ last_size (record { kind = k; time = time; body = body } ∷ units)
told_more kind.VConfig time body size units h = refl
told_more kind.Meta time body size units h = h
told_more kind.AConfig time body size units h = h
told_more kind.Key time body size units h = h
told_more kind.Inter time body size units h = h
told_more kind.Spare time body size units h = h
told_more kind.Audio time body size units h = h
told_more kind.Data time body size units h = h

pushed_knows : (o : Option Media) (id size : ℕ) (units : List Media) → size ≡ last_size units
    → Knows (sized o (phase.Publishes id size)) (pushed_then (option_map act.Push o) units)
pushed_knows None id size units h = h
pushed_knows (Some u) id size units h = told_more u.kind u.time u.body size units h

media_knows : (p : Phase) (m : Message) (units : List Media) → Knows p units → Knows (sized (published_in p m) p) (pushed_then (option_map act.Push (published_in p m)) units)
media_knows (phase.Publishes id size) m units h = pushed_knows (published_in (phase.Publishes id size) m) id size units h
media_knows phase.Idle m units h = tt
media_knows (phase.Asked r id) m units h = h
media_knows (phase.Plays p) m units h = tt

-- ---- each event

step_knows : (s : State) (m : Message) (g : Option Grant) (meant : Meant) (units : List Media) → Knows s.phase units
    → Knows (after s m g meant).phase (pushed_then (makes s m g meant) units)
unfolding after makes
step_knows s m g meant.Passed units h = h
step_knows s m g (meant.Connects transaction app) units h = h
step_knows s m g (meant.Creates transaction id) units h = h
step_knows s m g (meant.Busy r id) units h = h
step_knows s m g (meant.Asks a id) units h = asks_know a.role a.name id g units
step_knows s m g (meant.Closes id) units h = closes_know id s.phase units h
step_knows s m g (meant.Turns p) units h = tt
step_knows s m g meant.Media units h = media_knows s.phase m units h

begun_knows : (id : ℕ) (r : Reply) (units : List Media) → units ≡ [] → Knows (phase_after (phase.Asked role.Publish id) r) units
begun_knows id (reply.Began n) units h = sym (ap last_size h)
begun_knows id (reply.InUse by) units h = tt
begun_knows id (reply.Pushed n) units h = tt
begun_knows id (reply.NotPublisher live) units h = tt
begun_knows id (reply.Ended n) units h = tt
begun_knows id (reply.Joined player from) units h = tt
begun_knows id reply.Full units h = tt
begun_knows id reply.NotPlayer units h = tt
begun_knows id (reply.Sent from n item) units h = tt
begun_knows id (reply.Skip from to) units h = tt
begun_knows id (reply.NotYet end) units h = tt
begun_knows id (reply.Left player) units h = tt
begun_knows id (reply.Counts began pushed ended joined skips) units h = tt
begun_knows id (reply.NoSlot slots) units h = tt

joined_knows : (id : ℕ) (r : Reply) (units : List Media) → Knows (phase_after (phase.Asked role.Play id) r) units
joined_knows id (reply.Began n) units = tt
joined_knows id (reply.InUse by) units = tt
joined_knows id (reply.Pushed n) units = tt
joined_knows id (reply.NotPublisher live) units = tt
joined_knows id (reply.Ended n) units = tt
joined_knows id (reply.Joined player from) units = tt
joined_knows id reply.Full units = tt
joined_knows id reply.NotPlayer units = tt
joined_knows id (reply.Sent from n item) units = tt
joined_knows id (reply.Skip from to) units = tt
joined_knows id (reply.NotYet end) units = tt
joined_knows id (reply.Left player) units = tt
joined_knows id (reply.Counts began pushed ended joined skips) units = tt
joined_knows id (reply.NoSlot slots) units = tt

answer_knows : (p : Phase) (r : Reply) (units : List Media) → Knows p units → Knows (phase_after p r) units
answer_knows (phase.Asked role.Publish id) r units h = begun_knows id r units h
answer_knows (phase.Asked role.Play id) r units h = joined_knows id r units
answer_knows phase.Idle r units h = tt
answer_knows (phase.Publishes id size) r units h = h
answer_knows (phase.Plays p) r units h = tt

one_knows : (s : State) (e : Event) (units : List Media) → Knows s.phase units → Knows (one s e).state.phase (pushed_then (one s e).makes units)
unfolding told
one_knows s (met m g) units h = step_knows s m g (or_passed (meaning s m)) units h
one_knows s (answered r) units h = answer_knows s.phase r units h

all_know : (window : ℕ) (past : List Event) → Knows (state_of window past).phase (pushed_of window past)
all_know window [] = tt
all_know window (e ∷ past) = one_knows (state_of window past) e (pushed_of window past) (all_know window past)

phase_knows : (p : Phase) (id size : ℕ) (units : List Media) → p ≡ phase.Publishes id size → Knows p units → size ≡ last_size units
phase_knows (phase.Publishes n given) id size units e h = let same : given ≡ size = cc in sym same ∙ h
phase_knows phase.Idle id size units e h = absurd cc
phase_knows (phase.Asked r n) id size units e h = absurd cc
phase_knows (phase.Plays p) id size units e h = absurd cc

pub size_is_told : (window : ℕ) (past : List Event) (id size : ℕ) → (state_of window past).phase ≡ phase.Publishes id size → size ≡ last_size (pushed_of window past)
size_is_told window past id size e = phase_knows (state_of window past).phase id size (pushed_of window past) e (all_know window past)

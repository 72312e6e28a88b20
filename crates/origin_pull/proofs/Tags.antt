-- The unit of a tag is no longer than the tag
use Rattle.std.proofs.Common.{◌≡◌, ◌≤◌, ◌+◌, ℕ, Bool, true, false, List, ◌++◌, length, length-drop, drop, Option, Some, None, refl, arith}
use Rattle.std.specs.Prelude.{option_map}
use Rattle.av_unit.specs.Classes.{class_of, unit_from}
use Rattle.av_unit.specs.Media.{Media}
use Rattle.av_unit.specs.declared.unit.Class.{Class}
use Rattle.flv_tags.specs.declared.tag.Tag.{Tag}
use Rattle.client_owed.specs.declared.types.Gift.{Gift}
use Rattle.client_owed.specs.declared.types.Gift.TheVariants as gift
use Rattle.rtmp_client.specs.Bounds.{gift_bytes}
use Rattle.stream_model.specs.declared.calls.Entry.{Entry}
use Rattle.relay_session.specs.Bounds.{kept_bytes}
use Rattle.origin_calls.specs.Calls.{calls_for, entries, pushes, unit_in}
use Rattle.origin_pull.specs.Keeping.{bytes_in, calls_due, due_bytes, listed}
use Rattle.origin_pull.specs.declared.due.Due.{Due}
use Rattle.origin_pull.specs.declared.due.Due.TheVariants.{Nothing, One, Two}

abbrev media_at : ℕ → List ℕ → Class → Media
media_at time body c = record { kind = c.kind; time = time; body = drop c.from body }

-- no unit, or one that is no longer than this
abbrev Within : ℕ → Option Media → Type 0
Within n None = Unit {0}
Within n (Some u) = length u.body ≤ n

class_short : (time : ℕ) (body : List ℕ) (o : Option Class) → Within (length body) (option_map (media_at time body) o)
class_short time body None = tt
class_short time body (Some c) = omega (arith, length-drop c.from body)

unit_short : (kind time size : ℕ) (body : List ℕ) → Within (length body) (unit_from kind time body size)
unfolding unit_from
unit_short kind time size body = class_short time body (class_of kind body size)

pushes_short : (who n : ℕ) (live : Bool) (o : Option Media) → Within n o → bytes_in (entries who (pushes live o)) ≤ n
pushes_short who n live None s = omega arith
pushes_short who n true (Some u) s = omega (arith, s)
pushes_short who n false (Some u) s = omega (arith, s)

-- so the units that a gift makes due are no longer than its tag
pub calls_short : (who : ℕ) (live : Bool) (g : Gift) → bytes_in (entries who (calls_for live g)) ≤ gift_bytes (Some g)
calls_short who true gift.Published = omega arith
calls_short who false gift.Published = omega arith
calls_short who true gift.Unpublished = omega arith
calls_short who false gift.Unpublished = omega arith
calls_short who live (gift.Tag t) = pushes_short who (length t.body) live (unit_in t) (unit_short t.kind t.time 0 t.body)

-- ---- the bytes of the units that wait, as they are counted

pub bytes_wait : (who : ℕ) (o : Option Entry) (d : Due) → bytes_in (listed o ++ entries who (calls_due d)) ≡ kept_bytes o + due_bytes d
bytes_wait who None Nothing = refl
bytes_wait who None (One c) = omega arith
bytes_wait who None (Two c d) = omega arith
bytes_wait who (Some e) Nothing = omega arith
bytes_wait who (Some e) (One c) = omega arith
bytes_wait who (Some e) (Two c d) = omega arith

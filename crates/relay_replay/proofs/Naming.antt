-- What the streams and the open tables of a script keep, with one more, or one key more
use Rattle.std.proofs.Common.{◌≡◌, ◌<◌, ◌≤◌, ◌+◌, ◌++◌, ℕ, zero, suc, Bool, true, false, ◌&&◌}
use Rattle.std.proofs.Common.{not, nat_le, nat_lt, List, [], ◌∷◌, length, slice_get, slice_set, All}
use Rattle.std.proofs.Common.{Option, Some, None, refl, ap, sym, ◌∙◌, arith}
use Rattle.std.specs.List.{list_any}
use Rattle.std.proofs.lemmas.Bool.Decides.{nat_tests}
use Rattle.std.proofs.lemmas.List.Elements.{All-head, All-push, All-set, All-tail}
use Rattle.key_guard.specs.declared.check.Mode.{Mode}
use Rattle.relay_config.specs.Sum.{names_of}
use Rattle.relay_config.specs.declared.config.OpenRule.{OpenRule}
use Rattle.relay_config.specs.declared.config.PlaceRule.{PlaceRule}
use Rattle.relay_script.specs.declared.replay.ReplayLine.TheVariants.{Stream, OpenApp}
use Rattle.relay_script.specs.declared.replay.Side.{Side}
use Rattle.relay_replay.specs.Scenes.{AreNamed, SceneState, stand_of}
use Rattle.relay_replay.specs.Stand.{allows, is_app, is_pair, is_setting, keyed, keyed_at, keyed_table}
use Rattle.relay_replay.specs.Stand.{names_in, open_place, open_table, table_keyed_at, takes_stream, takes_table}
use Rattle.relay_replay.proofs.Keep.{length_set}
use Rattle.relay_replay.proofs.Serving.{all_at}

abbrev Short : PlaceRule → Type 0
Short p = length p.name ≤ 64

abbrev HasNames : OpenRule → Type 0
HasNames o = 1 ≤ o.names

-- an open table has a name at least, so there are no more tables than names
tables_few : (opens : List OpenRule) → All HasNames opens → length opens ≤ names_of opens
tables_few [] a = omega arith
tables_few (o ∷ opens) a = omega (arith, All-head HasNames o opens a, tables_few opens (All-tail HasNames o opens a))

pub places_few : (streams : List PlaceRule) (opens : List OpenRule) → AreNamed streams opens → length streams + length opens ≤ 64
places_few streams opens n = omega (arith, n.few, tables_few opens n.some)

-- ---- a stream more

pub both : (a b : Bool) → (a && b) ≡ true → (a ≡ true) × (b ≡ true)
both true true e = (refl, refl)
both true false e = absurd (cc)
both false b e = absurd (cc)

one_longer : {A : Type 0} → (xs : List A) (x : A) → length (xs ++ x ∷ []) ≡ length xs + 1
one_longer [] x = omega arith
one_longer (y ∷ ys) x = omega (arith, one_longer ys x)

pub with_stream : (s : SceneState) (app name : List ℕ) → AreNamed s.places s.opens → allows (Stream app name) (stand_of s) ≡ true
    → AreNamed (s.places ++ open_place app name ∷ []) s.opens
with_stream s app name n e =
    let more = nat_lt (names_in (stand_of s)) 64 && not (list_any (is_pair app name) s.places) in
    let parts = (both (is_setting (stand_of s).sessions) (takes_stream app name (stand_of s)) e).1 in
    let rest = both (nat_le (length name) 64) more parts in
    let short : length name ≤ 64 = grind (arith, nat_tests, rest.0) in
    let room = (both (nat_lt (names_in (stand_of s)) 64) (not (list_any (is_pair app name) s.places)) rest.1).0 in
    let few : names_in (stand_of s) < 64 = grind (arith, nat_tests, room) in
    record {
      few = omega (arith, few, one_longer s.places (open_place app name));
      short = All-push Short s.places (open_place app name) n.short short;
      some = n.some;
    }

-- ---- a key more of a stream

short_keyed : (streams : List PlaceRule) (i : ℕ) (o : Option PlaceRule) (side : Side) (mode : Mode) (key : List ℕ) → slice_get streams i ≡ o → All Short streams
    → All Short (keyed_at streams i o side mode key)
short_keyed streams i None side mode key e a = a
short_keyed streams i (Some p) side mode key e a = All-set Short streams i (keyed p side mode key) (all_at Short streams i p e a) a

as_long : (streams : List PlaceRule) (i : ℕ) (o : Option PlaceRule) (side : Side) (mode : Mode) (key : List ℕ)
    → length (keyed_at streams i o side mode key) ≡ length streams
as_long streams i None side mode key = refl
as_long streams i (Some p) side mode key = length_set streams i (keyed p side mode key)

pub with_stream_key : (streams : List PlaceRule) (opens : List OpenRule) (i : ℕ) (side : Side) (mode : Mode) (key : List ℕ) → AreNamed streams opens
    → AreNamed (keyed_at streams i (slice_get streams i) side mode key) opens
with_stream_key streams opens i side mode key n = record {
  few = omega (arith, n.few, as_long streams i (slice_get streams i) side mode key);
  short = short_keyed streams i (slice_get streams i) side mode key refl n.short;
  some = n.some;
}

-- ---- an open table more

names_more : (opens : List OpenRule) (app : List ℕ) (k : ℕ) → names_of (opens ++ open_table app k ∷ []) ≡ names_of opens + k
names_more [] app k = omega arith
names_more (o ∷ opens) app k = omega (arith, names_more opens app k)

pub with_table : (s : SceneState) (app : List ℕ) (k : ℕ) → AreNamed s.places s.opens → allows (OpenApp app k) (stand_of s) ≡ true
    → AreNamed s.places (s.opens ++ open_table app k ∷ [])
with_table s app k n e =
    let more = nat_le (names_in (stand_of s) + k) 64 && not (list_any (is_app app) s.opens) in
    let parts = (both (is_setting (stand_of s).sessions) (takes_table app k (stand_of s)) e).1 in
    let rest = both (nat_le 1 k) more parts in
    let some : 1 ≤ k = grind (arith, nat_tests, rest.0) in
    let room = (both (nat_le (names_in (stand_of s) + k) 64) (not (list_any (is_app app) s.opens)) rest.1).0 in
    let few : names_in (stand_of s) + k ≤ 64 = grind (arith, nat_tests, room) in
    record {
      few = omega (arith, few, names_more s.opens app k);
      short = n.short;
      some = All-push HasNames s.opens (open_table app k) n.some some;
    }

-- ---- a key more of an open table

names_set : (opens : List OpenRule) (i : ℕ) (o x : OpenRule) → slice_get opens i ≡ Some o → x.names ≡ o.names → names_of (slice_set opens i x) ≡ names_of opens
names_set [] i o x e same = refl
names_set (y ∷ ys) zero o x e same = let is : y ≡ o = cc in ap (λ (k : ℕ). k + names_of ys) (same ∙ sym (ap (λ (r : OpenRule). r.names) is))
names_set (y ∷ ys) (suc i) o x e same = ap (λ (k : ℕ). y.names + k) (names_set ys i o x e same)

as_named : (opens : List OpenRule) (i : ℕ) (o : Option OpenRule) (side : Side) (mode : Mode) (key : List ℕ) → slice_get opens i ≡ o
    → names_of (table_keyed_at opens i o side mode key) ≡ names_of opens
as_named opens i None side mode key e = refl
as_named opens i (Some o) side mode key e = names_set opens i o (keyed_table o side mode key) e refl

some_keyed : (opens : List OpenRule) (i : ℕ) (o : Option OpenRule) (side : Side) (mode : Mode) (key : List ℕ) → slice_get opens i ≡ o → All HasNames opens
    → All HasNames (table_keyed_at opens i o side mode key)
some_keyed opens i None side mode key e a = a
some_keyed opens i (Some o) side mode key e a = All-set HasNames opens i (keyed_table o side mode key) (all_at HasNames opens i o e a) a

pub with_table_key : (streams : List PlaceRule) (opens : List OpenRule) (i : ℕ) (side : Side) (mode : Mode) (key : List ℕ) → AreNamed streams opens
    → AreNamed streams (table_keyed_at opens i (slice_get opens i) side mode key)
with_table_key streams opens i side mode key n = record {
  few = omega (arith, n.few, as_named opens i (slice_get opens i) side mode key refl);
  short = n.short;
  some = some_keyed opens i (slice_get opens i) side mode key refl n.some;
}

-- what a line more of these makes is so again
pub ruleset named_so = (with_stream, with_stream_key, with_table, with_table_key)

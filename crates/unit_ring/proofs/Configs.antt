-- The configuration in effect at a number of the window, by the slots and by what is kept.
use Rattle.std.proofs.Common.{◌≡◌, ℕ, ◌<◌, ◌≤◌, true, false, List, Some, None, Option, refl, sym, ◌∙◌, if◌then◌else◌}
use Rattle.std.specs.List.{slice_get}
use Rattle.std.proofs.lemmas.Bool.{false≢true}
use Rattle.av_unit.specs.declared.item.Item.{Item}
use Rattle.av_unit.specs.declared.item.Item.TheVariants as item
use Rattle.av_unit.specs.declared.head.Slot.{Slot}
use Rattle.av_unit.specs.declared.head.Slot.TheVariants as slot
use Rattle.av_unit.specs.declared.unit.Kind.{Kind}
use Rattle.av_unit.specs.declared.unit.Kind.TheVariants.{Meta, VConfig, AConfig}
use Rattle.stream_model.specs.declared.calls.StreamLimits.{StreamLimits}
use Rattle.stream_model.specs.Items.{config_at}
use Rattle.stream_model.specs.Take.{at_kind}
use Rattle.stream_model.specs.Slots.{slot_kind}
use Rattle.stream_model.specs.Window.{base, newest_key, key_from}
use Rattle.stream_model.specs.Held.{config_body, config_sum}
use Rattle.stream_law.proofs.Effect.{in_effect, config_earlier}
use Rattle.unit_ring.specs.declared.kept.NumberedConfig.{NumberedConfig}
use Rattle.unit_ring.specs.declared.kept.KeptConfigs.{KeptConfigs}
use Rattle.unit_ring.specs.declared.window.Window.{Window}
use Rattle.unit_ring.specs.declared.newest.Newest.{Newest}
use Rattle.unit_ring.specs.Marks.{mark_of, marks_at, is_unit, IsNewest}
use Rattle.unit_ring.specs.Kept.{IsKept, AreKept, kept_of, kept_body, kept_sum}
use Rattle.unit_ring.specs.IsWindow.{IsWindow, IsLeast}
use Rattle.unit_ring.proofs.Dropping.{base_is}

pub mark_is : (s : Slot) (items : List Item) (n : ℕ) → mark_of s (marks_at items n) ≡ config_at (slot_kind s) items n
mark_is slot.Meta items n = refl
mark_is slot.Video items n = refl
mark_is slot.Audio items n = refl

slot_kept : (s : Slot) (items : List Item) (n : ℕ) (k : KeptConfigs) → AreKept items n k → IsKept (slot_kind s) items n (kept_of s k)
slot_kept slot.Meta items n k are = are.meta
slot_kept slot.Video items n k are = are.video
slot_kept slot.Audio items n k are = are.audio

pub config_within : (kind : Kind) (items : List Item) (n m : ℕ) → config_at kind items n ≡ Some m → m < n
config_within kind items n m e = (in_effect kind items n m e).before

number_is : (kind : Kind) (items : List Item) (base m : ℕ) (kept : NumberedConfig) → IsKept kind items base (Some kept) → config_at kind items base ≡ Some m → kept.number ≡ m
number_is kind items base m kept k e = let f = k.0 in cc

-- what was in effect before the base, and is in effect behind it, is kept
pub kept_number : (s : Slot) (items : List Item) (base n m : ℕ) (k : KeptConfigs) (kept : NumberedConfig) → AreKept items base k → config_at (slot_kind s) items n ≡ Some m → base ≤ n → m < base →
    kept_of s k ≡ Some kept → kept.number ≡ m
kept_number s items base n m k kept are e le lt is =
    number_is (slot_kind s) items base m kept (rw is at (slot_kept s items base k are)) (config_earlier (slot_kind s) items n base m e le lt)

pub none_kept : (s : Slot) (items : List Item) (base n m : ℕ) (k : KeptConfigs) → AreKept items base k → config_at (slot_kind s) items n ≡ Some m → base ≤ n → m < base → kept_of s k ≡ None → ⊥
none_kept s items base n m k are e le lt is =
    let none : config_at (slot_kind s) items base ≡ None = rw is at (slot_kept s items base k are) in
    let some = config_earlier (slot_kind s) items n base m e le lt in
    cc

kind_unit : (kind : Kind) (x : Item) → at_kind kind (Some x) ≡ true → is_unit x ≡ true
kind_unit kind item.Begin e = absurd (false≢true e)
kind_unit kind (item.Unit u) e = refl
kind_unit kind item.End e = absurd (false≢true e)

-- a configuration is a unit
pub config_unit : (kind : Kind) (items : List Item) (n m : ℕ) (x : Item) → config_at kind items n ≡ Some m → slice_get items m ≡ Some x → is_unit x ≡ false → ⊥
config_unit kind items n m x e is marker =
    let here : at_kind kind (Some x) ≡ true = rw is at (in_effect kind items n m e).is_kind in
    false≢true (sym marker ∙ kind_unit kind x here)

pub newest_is : (limits : StreamLimits) (w : Window) (s : Newest) → IsWindow limits w → IsLeast limits w → IsNewest w.items s →
    newest_key limits w.items ≡ (if s.live then key_from w.base s.key else None)
newest_is limits w s is least newest = rw (newest.live, newest.key, base_is limits w is least) refl

kept_config : (kind : Kind) (items : List Item) (n : ℕ) (o : Option NumberedConfig) → IsKept kind items n o → config_body kind items n ≡ kept_body o
kept_config kind items n None k = rw k refl
kept_config kind items n (Some kept) k = rw (k.0, k.1) refl

pub kept_sum_is : (items : List Item) (n : ℕ) (k : KeptConfigs) → AreKept items n k → config_sum items n ≡ kept_sum k
kept_sum_is items n k are = rw (kept_config Meta items n k.meta are.meta, kept_config VConfig items n k.video are.video, kept_config AConfig items n k.audio are.audio) refl

-- What is known of a window when an item leaves it and when one is added.
use Rattle.std.proofs.Common.{◌≡◌, ℕ, zero, suc, ◌+◌, ◌-◌, ◌*◌, ◌<◌, ◌≤◌, ◌⊎◌, inl, inr, true, false, List, [], ◌∷◌, ◌++◌, length, map, drop, Some, refl, ap, sym, ◌∙◌, arith, length-append}
use Rattle.std.specs.List.{slice_get}
use Rattle.std.specs.VecDeque.{deque_len, deque_capacity}
use Rattle.std.proofs.lemmas.List.{length-drop, drop-append-le, drop_all, map-append, length-map}
use Rattle.std.proofs.lemmas.Bool.{cases_lt}
use Rattle.std.proofs.lemmas.Bool.Decides.{nat_tests}
use Rattle.std.proofs.lemmas.Option.{slice_get_within}
use Rattle.av_unit.specs.declared.item.Item.{Item}
use Rattle.av_unit.specs.Cost.{cost_of}
use Rattle.stream_model.specs.declared.calls.StreamLimits.{StreamLimits}
use Rattle.stream_model.specs.Window.{cost_sum, fits, base}
use Rattle.stream_model.specs.Held.{body_sum}
use Rattle.stream_model.proofs.Places.{slice_get-append, slice_get-push, slice_get-drop}
use Rattle.stream_model.proofs.Windows.{cost_sum-append, cost_sum-bodies, fits_when, fits_no_bytes, fits_no_items, base_at, base_zero}
use Rattle.unit_ring.specs.declared.window.Slotted.{Slotted}
use Rattle.unit_ring.specs.declared.window.Window.{Window}
use Rattle.unit_ring.specs.Marks.{marks_at}
use Rattle.unit_ring.specs.Kept.{AreSmall, kept_after}
use Rattle.unit_ring.specs.IsWindow.{IsWindow, HasRoom, IsTight, IsLeast}
use Rattle.unit_ring.proofs.Marking.{kept_passed, kept_grown, marks_grown}

-- what stands first from a number on
record Front {X : Type 0} (xs : List X) (n : ℕ) (x : X) (ys : List X) : Type 0 where
  here : slice_get xs n ≡ Some x
  rest : drop (n + 1) xs ≡ ys
  within : n < length xs

front_of : {X : Type 0} (xs : List X) (n : ℕ) (x : X) (ys : List X) → drop n xs ≡ x ∷ ys → Front xs n x ys
front_of [] zero x ys e = absurd (cc)
front_of [] (suc n) x ys e = absurd (cc)
front_of (z ∷ zs) zero x ys e = let same : z ≡ x = cc in let rest : zs ≡ ys = cc in record { here = ap Some same; rest = rest; within = omega arith }
front_of (z ∷ zs) (suc n) x ys e =
    let f = front_of zs n x ys e in
    let on : suc n + 1 ≡ suc (n + 1) = omega arith in
    record { here = f.here; rest = rw on f.rest; within = let lt = f.within in omega arith }

-- the number of slots
pub slots_are : (limits : StreamLimits) (w : Window) → IsWindow limits w → w.base + deque_len w.slots ≡ length w.items
slots_are limits w is =
    let count : length w.slots.items ≡ length (drop w.base w.items) = sym (length-map w.slots.items (λ (s : Slotted). s.item)) ∙ ap (λ (l : List Item). length l) is.slots in
    let le = is.within in
    let long = w.slots.ok.0 in
    omega (arith, length-drop w.base w.items)

-- the first item leaves
pub dropped : (limits : StreamLimits) (w new : Window) (first : Slotted) → IsWindow limits w → w.slots.items ≡ first ∷ new.slots.items → deque_len new.slots + 1 ≡ deque_len w.slots →
    deque_capacity new.slots ≡ deque_capacity w.slots → new.base ≡ w.base + 1 → new.cost ≡ w.cost - cost_of first.item → new.items ≡ w.items →
    new.kept ≡ kept_after w.base first.item w.kept → AreSmall new.kept → IsWindow limits new
dropped limits w new first is slots len capacity base cost items kept small =
    let fronts : drop w.base w.items ≡ first.item ∷ map (λ s. s.item) new.slots.items = sym is.slots ∙ ap (map (λ s. s.item)) slots in
    let f = front_of w.items w.base first.item (map (λ s. s.item) new.slots.items) fronts in
    let sum : cost_sum (drop w.base w.items) ≡ cost_of first.item + cost_sum (drop (w.base + 1) w.items) = rw (fronts, f.rest) refl in
    record {
      within = rw (base, items) (let lt = f.within in omega arith);
      slots = rw (base, items) (sym f.rest);
      marks = λ i s e.
          let on : w.base + suc i ≡ new.base + i = omega arith in
          rw (items, ← on) (is.marks (suc i) s (rw slots e));
      kept = rw (base, items, kept) (kept_passed w.items w.base first.item w.kept f.here is.kept (rw kept at small));
      cost = rw (base, items) (let a = is.cost in omega arith);
      bytes = let a = is.bytes in omega arith;
      count = let a = is.count in omega arith;
      few = is.few;
      capacity = rw capacity is.capacity;
      each = λ i s e. is.each (suc i) s (rw slots e);
    }

last_found : (slots : List Slotted) (last s : Slotted) (i : ℕ) → i ≡ length slots → slice_get (slots ++ last ∷ []) i ≡ Some s → last ≡ s
last_found slots last s i at found = let here = slice_get-push slots last in let f : slice_get (slots ++ last ∷ []) (length slots) ≡ Some s = rw at at found in cc

no_items : (slots : List Slotted) → length slots ≡ 0 → slots ≡ []
no_items [] e = refl
no_items (s ∷ slots) e = absurd (omega arith)

-- an item is added in a slot
pub added : (limits : StreamLimits) (w new : Window) (last : Slotted) → IsWindow limits w → new.slots.items ≡ w.slots.items ++ last ∷ [] → deque_len new.slots ≡ deque_len w.slots + 1 →
    deque_capacity new.slots ≡ deque_capacity w.slots → new.base ≡ w.base → new.cost ≡ w.cost + cost_of last.item → new.items ≡ w.items ++ last.item ∷ [] → new.kept ≡ w.kept →
    HasRoom limits (cost_of last.item) w → cost_of last.item ≤ 4194368 → last.before ≡ marks_at w.items (length w.items) → IsWindow limits new
added limits w new last is slots len capacity base cost items kept room most before =
    let xs = w.items in
    let x = last.item in
    let le = is.within in
    let end = slots_are limits w is in
    let long = w.slots.ok.0 in
    let rest : drop w.base (xs ++ x ∷ []) ≡ drop w.base xs ++ x ∷ [] = drop-append-le w.base xs (x ∷ []) le in
    record {
      within = rw (base, items) (omega (arith, length-append xs (x ∷ [])));
      slots = rw (base, items, slots) (map-append (λ (s : Slotted). s.item) w.slots.items (last ∷ []) ∙ ap (λ (l : List Item). l ++ x ∷ []) is.slots ∙ sym rest);
      marks = λ i s e. elim (cases_lt i (length w.slots.items)) [
        | inl lt ↦
            let old : slice_get w.slots.items i ≡ Some s = sym (slice_get-append w.slots.items (last ∷ []) i lt) ∙ rw slots at e in
            rw (base, items) (is.marks i s old ∙ sym (marks_grown xs (x ∷ []) (w.base + i) (omega arith)))
        | inr ge ↦
            let within = slice_get_within new.slots.items i s e in
            let at : i ≡ length w.slots.items = omega (arith, ap (λ (l : List Slotted). length l) slots, length-append w.slots.items (last ∷ [])) in
            let found : slice_get (w.slots.items ++ last ∷ []) i ≡ Some s = rw slots at e in
            let same : last ≡ s = last_found w.slots.items last s i at found in
            let number : w.base + i ≡ length xs = omega arith in
            rw (base, items, number, ← same) (before ∙ sym (marks_grown xs (x ∷ []) (length xs) (omega arith)))
      ];
      kept = rw (base, items, kept) (kept_grown xs (x ∷ []) w.base w.kept le is.kept);
      cost = rw (base, items, rest, cost_sum-append (drop w.base xs) (x ∷ [])) (let a = is.cost in omega arith);
      bytes = let a = room.0 in omega arith;
      count = let a = room.1 in omega arith;
      few = is.few;
      capacity = rw capacity is.capacity;
      each = λ i s e. elim (cases_lt i (length w.slots.items)) [
        | inl lt ↦ is.each i s (sym (slice_get-append w.slots.items (last ∷ []) i lt) ∙ rw slots at e)
        | inr ge ↦
            let within = slice_get_within new.slots.items i s e in
            let at : i ≡ length w.slots.items = omega (arith, ap (λ (l : List Slotted). length l) slots, length-append w.slots.items (last ∷ [])) in
            let found : slice_get (w.slots.items ++ last ∷ []) i ≡ Some s = rw slots at e in
            let same : last ≡ s = last_found w.slots.items last s i at found in
            rw (← same) most
      ];
    }

-- an item goes by, where no slot is left
pub gone_by : (limits : StreamLimits) (w new : Window) (x : Item) → IsWindow limits w → deque_len w.slots ≡ 0 → new.slots ≡ w.slots → new.base ≡ w.base + 1 → new.cost ≡ w.cost →
    new.items ≡ w.items ++ x ∷ [] → new.kept ≡ kept_after w.base x w.kept → AreSmall new.kept → IsWindow limits new
gone_by limits w new x is none slots base cost items kept small =
    let xs = w.items in
    let end = slots_are limits w is in
    let at : w.base ≡ length xs = omega arith in
    let here : slice_get (xs ++ x ∷ []) w.base ≡ Some x = rw at (slice_get-push xs x) in
    let over : length (xs ++ x ∷ []) ≤ w.base + 1 = omega (arith, length-append xs (x ∷ [])) in
    let long = w.slots.ok.0 in
    let empty : w.slots.items ≡ [] = no_items w.slots.items (omega arith) in
    record {
      within = rw (base, items) (omega (arith, length-append xs (x ∷ [])));
      slots = rw (base, items, slots, empty) (sym (drop_all (w.base + 1) (xs ++ x ∷ []) over));
      marks = λ i s e. let f : slice_get [] i ≡ Some s = rw (slots, empty) at e in absurd (cc f);
      kept = rw (base, items, kept) (kept_passed (xs ++ x ∷ []) w.base x w.kept here (kept_grown xs (x ∷ []) w.base w.kept is.within is.kept) (rw kept at small));
      cost = rw (base, items, drop_all (w.base + 1) (xs ++ x ∷ []) over, cost) (is.cost ∙ rw (drop_all w.base xs (omega arith)) refl);
      bytes = rw cost is.bytes;
      count = rw slots is.count;
      few = is.few;
      capacity = rw slots is.capacity;
      each = λ i s e. let f : slice_get [] i ≡ Some s = rw (slots, empty) at e in absurd (cc f);
    }

-- more items at the end cost more
unfit_grown : (limits : StreamLimits) (xs : List Item) (x : Item) (v : ℕ) → v ≤ length xs → fits limits (drop v xs) ≡ false → fits limits (drop v (xs ++ x ∷ [])) ≡ false
unfit_grown limits xs x v le e = rw (drop-append-le v xs (x ∷ []) le) (grind (arith, nat_tests, cost_sum-append (drop v xs) (x ∷ []), length-append (drop v xs) (x ∷ [])))

tight_unfit : (limits : StreamLimits) (w : Window) (x : Item) → w.base ≤ length w.items → IsTight limits (cost_of x) w → fits limits (drop (w.base - 1) (w.items ++ x ∷ [])) ≡ false
tight_unfit limits w x le t = elim t.1 [
  | inl h ↦ rw (drop-append-le (w.base - 1) w.items (x ∷ []) (omega arith)) (fits_no_bytes limits (drop (w.base - 1) w.items ++ x ∷ []) (omega (arith, cost_sum-append (drop (w.base - 1) w.items) (x ∷ []))))
  | inr h ↦ rw (drop-append-le (w.base - 1) w.items (x ∷ []) (omega arith)) (fits_no_items limits (drop (w.base - 1) w.items ++ x ∷ []) (omega (arith, length-append (drop (w.base - 1) w.items) (x ∷ []))))
]

-- the base is the least number after an item that has its slot
pub least_added : (limits : StreamLimits) (old w new : Window) (x : Item) → IsLeast limits old → w.items ≡ old.items → w.base ≤ length w.items → (w.base ≡ old.base) ⊎ IsTight limits (cost_of x) w →
    new.base ≡ w.base → new.items ≡ w.items ++ x ∷ [] → IsLeast limits new
least_added limits old w new x least same le t base items = λ pos. rw (base, items) (elim t [
  | inl e ↦ unfit_grown limits w.items x (w.base - 1) (omega arith) (rw (same, e) (least (omega arith)))
  | inr t ↦ tight_unfit limits w x le t
])

window_fits : (limits : StreamLimits) (w : Window) → IsWindow limits w → fits limits (drop w.base w.items) ≡ true
window_fits limits w is =
    let end = slots_are limits w is in
    fits_when limits (drop w.base w.items) (let a = is.cost in let b = is.bytes in omega arith) (let a = is.count in omega (arith, length-drop w.base w.items))

-- the number of the first slot is the base
pub base_is : (limits : StreamLimits) (w : Window) → IsWindow limits w → IsLeast limits w → w.base ≡ base limits w.items
base_is limits w is least = elim (cases_lt 0 w.base) [
  | inl pos ↦ sym (base_at limits w.items w.base pos is.within (least pos) (window_fits limits w is))
  | inr none ↦
      let zero_at : w.base ≡ 0 = omega arith in
      zero_at ∙ sym (base_zero limits w.items (rw zero_at at (window_fits limits w is)))
]

slot_item : (slots : List Slotted) (i : ℕ) (s : Slotted) → slice_get slots i ≡ Some s → slice_get (map (λ t. t.item) slots) i ≡ Some s.item
slot_item [] i s e = absurd (cc)
slot_item (t ∷ slots) zero s e = let same : t ≡ s = cc in ap (λ (u : Slotted). Some u.item) same
slot_item (t ∷ slots) (suc i) s e = slot_item slots i s e

-- what stands in a slot is the item of its number
pub item_at : (limits : StreamLimits) (w : Window) (i : ℕ) (s : Slotted) → IsWindow limits w → slice_get w.slots.items i ≡ Some s → slice_get w.items (w.base + i) ≡ Some s.item
item_at limits w i s is e = sym (slice_get-drop w.base w.items i) ∙ rw is.slots at (slot_item w.slots.items i s e)

slots_most : (slots : List Slotted) → ((i : ℕ) (s : Slotted) → slice_get slots i ≡ Some s → cost_of s.item ≤ 4194368) → cost_sum (map (λ s. s.item) slots) ≤ 4194368 * length slots
slots_most [] each = omega arith
slots_most (s ∷ slots) each = let first = each 0 s refl in omega (arith, slots_most slots (λ i t e. each (suc i) t e))

-- what the slots cost is the lengths of their bodies, and 64 for each
pub record Costs (w : Window) : Type 0 where
  pub bodies : w.cost ≡ body_sum (drop w.base w.items) + 64 * deque_len w.slots
  pub most : w.cost ≤ 4194368 * deque_len w.slots

pub costs_are : (limits : StreamLimits) (w : Window) → IsWindow limits w → Costs w
costs_are limits w is =
    let end = slots_are limits w is in
    let long = w.slots.ok.0 in
    record {
      bodies = let a = is.cost in omega (arith, cost_sum-bodies (drop w.base w.items), length-drop w.base w.items);
      most = let a = is.cost in let b = slots_most w.slots.items is.each in omega (arith, ap (λ (l : List Item). cost_sum l) is.slots);
    }

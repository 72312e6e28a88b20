-- What a film becomes that comes back
use Rattle.std.proofs.Common.{◌≡◌, ◌≢◌, inl, inr, ℕ, zero, suc, ◌+◌, ◌≤◌, Bool, true, false, nat_eq, if◌then◌else◌, List, [], ◌∷◌, ◌++◌, length, map, reverse}
use Rattle.std.proofs.Common.{refl, sym, ap, ◌∙◌, subst, arith, append-nil, length-append}
use Rattle.std.specs.Prelude.{flat_map}
use Rattle.std.proofs.lemmas.List.{reverse-append, reverse-reverse}
use Rattle.av_unit.specs.Media.{Media}
use Rattle.av_unit.specs.declared.item.Item.{Item}
use Rattle.av_unit.specs.declared.item.Item.TheVariants as item
use Rattle.flv_tags.specs.declared.tag.Tag.{Tag}
use Rattle.flv_tags.specs.Text.{flv_text, item_bytes}
use Rattle.flv_tags.specs.Written.{header, tag_bytes}
use Rattle.client_owed.specs.declared.types.Gave.{Gave}
use Rattle.client_owed.specs.declared.types.Given.{Given}
use Rattle.client_owed.specs.declared.types.Given.TheVariants.{Finish, Send}
use Rattle.client_owed.specs.declared.types.Gift.{Gift}
use Rattle.client_owed.specs.declared.types.Gift.TheVariants as gift
use Rattle.client_law.specs.Loud.{listed, size_after, tag_unit, units, units_from}
use Rattle.client_law.specs.Pull.{gift_of, gifts_of, item_for, item_in, items_sent}
use Rattle.client_law.specs.Room.{BringsRoom, HaveRoom}
use Rattle.client_command.specs.Film.{sends_in, tags_given}
use Rattle.client_command.specs.Gifts.{pull_text, tags_in}
use Rattle.session_owed.specs.Talk.{Own, is_take}
use Rattle.stream_model.specs.declared.calls.Shape.{Shape}
use Rattle.stream_registry.specs.Told.{Step}
use Rattle.relay_session.specs.SeatVisits.{StandIn, Visit, calls_at}
use Rattle.loop_command.specs.Course.{sent_in}
use Rattle.loop_command.specs.Looped.{gave_tag, units_of}

-- ---- the units of tags

units_step : (size : ℕ) (x : Given) (T : List Gave) → ((s : ℕ) → units_from s T ≡ units_from s (map gave_tag (tags_given T)))
    → listed (tag_unit size x) ++ units_from (size_after (tag_unit size x) size) T ≡ units_from size (map gave_tag (sends_in x ++ tags_given T))
unfolding units_from
units_step size (Send t) T same = ap (λ (l : List Media). listed (tag_unit size (Send t)) ++ l) (same (size_after (tag_unit size (Send t)) size))
units_step size Finish T same = same size

units_same : (T : List Gave) (size : ℕ) → units_from size T ≡ units_from size (map gave_tag (tags_given T))
unfolding units_from
units_same [] size = refl
units_same (g ∷ T) size = units_step size g.given T (λ s. units_same T s)

pub units_given : (T : List Gave) (tags : List Tag) → tags_given T ≡ tags → units T ≡ units_of tags
units_given T tags e = units_same T 0 ∙ ap (λ (l : List Tag). units_from 0 (map gave_tag l)) e

-- ---- the items that were told

pub record Told (gs : List Gift) (items : List Item) : Type 0 where
  pub told : List Item
  pub later : List Item
  pub all : told ++ later ≡ items
  pub gifts : gifts_of told ≡ gs

pub told_first : (gs hs : List Gift) (items : List Item) → gs ++ hs ≡ gifts_of items → Told gs items
unfolding gifts_of
told_first [] hs items e = record { told = []; later = items; all = refl; gifts = refl }
told_first (g ∷ gs) hs [] e = absurd (cc)
told_first (g ∷ gs) hs (i ∷ items) e =
    let first : g ≡ gift_of i = cc in
    let rest : gs ++ hs ≡ gifts_of items = cc in
    let t = told_first gs hs items rest in
    record {
      told = i ∷ t.told;
      later = t.later;
      all = ap (λ (l : List Item). i ∷ l) t.all;
      gifts = ap (λ (l : List Gift). gift_of i ∷ l) t.gifts
          ∙ ap (λ (x : Gift). x ∷ gs) (sym first);
    }

gifts_long : (items : List Item) → length (gifts_of items) ≡ length items
unfolding gifts_of
gifts_long [] = refl
gifts_long (i ∷ items) = ap (λ (n : ℕ). suc n) (gifts_long items)

nil_long : (items : List Item) → length items ≤ 0 → items ≡ []
nil_long [] l = refl
nil_long (i ∷ items) l = absurd (omega (arith, l))

-- where there are no more items than were told, none is left
pub none_later : (gs : List Gift) (items : List Item) (t : Told gs items) → length items ≤ length gs → t.later ≡ []
none_later gs items t few = nil_long t.later (omega (arith, few, length-append t.told t.later, ap length t.all, gifts_long t.told, ap length t.gifts))

end_of : (i : Item) → gift_of i ≡ gift.Unpublished → i ≡ item.End
end_of item.Begin e = absurd (cc)
end_of (item.Unit u) e = absurd (cc)
end_of item.End e = refl

-- the last of them is an End
pub record Closes (told : List Item) : Type 0 where
  pub before : List Item
  pub last : told ≡ before ++ item.End ∷ []

pub last_is : (told : List Item) (before : List Gift) → gifts_of told ≡ before ++ gift.Unpublished ∷ [] → Closes told
unfolding gifts_of
last_is [] [] e = absurd (cc)
last_is [] (g ∷ before) e = absurd (cc)
last_is (i ∷ []) [] e =
    let h : gift_of i ≡ gift.Unpublished = cc in
    record { before = []; last = ap (λ (x : Item). x ∷ []) (end_of i h) }
last_is (i ∷ j ∷ told) [] e = absurd (cc)
last_is (i ∷ told) (g ∷ before) e =
    let h : gifts_of told ≡ before ++ gift.Unpublished ∷ [] = cc in
    let c = last_is told before h in
    record { before = i ∷ c.before; last = ap (λ (l : List Item). i ∷ l) c.last }

-- ---- their text

tags_bytes : (items : List Item) → flat_map tag_bytes (tags_in (gifts_of items)) ≡ flat_map item_bytes items
unfolding gifts_of
tags_bytes [] = refl
tags_bytes (item.Begin ∷ items) = tags_bytes items
tags_bytes (item.Unit u ∷ items) = ap (λ (l : List ℕ). tag_bytes (Rattle.flv_tags.specs.Text.tag_of u) ++ l) (tags_bytes items)
tags_bytes (item.End ∷ items) = tags_bytes items

pub text_same : (items : List Item) (i : Item) → pull_text (gifts_of (i ∷ items)) ≡ flv_text (i ∷ items)
unfolding gifts_of
text_same items i = ap (λ (l : List ℕ). header ++ l) (tags_bytes (i ∷ items))

pub text_closed : (before : List Item) → pull_text (gifts_of (before ++ item.End ∷ [])) ≡ flv_text (before ++ item.End ∷ [])
text_closed [] = text_same [] item.End
text_closed (i ∷ before) = text_same (before ++ item.End ∷ []) i

-- ---- calls in a history

room_join : (max : ℕ) (a b : List Own) → HaveRoom max a → HaveRoom max b → HaveRoom max (a ++ b)
room_join max [] b x y = y
room_join max (c ∷ a) b x y = (x.0, room_join max a b x.1 y)

pub reversed : (c : Own) (C : List Own) → reverse (c ∷ C) ≡ reverse C ++ c ∷ []
reversed c C = reverse-append (c ∷ []) C

room_reversed : (max : ℕ) (C : List Own) → HaveRoom max C → HaveRoom max (reverse C)
room_reversed max [] h = tt
room_reversed max (c ∷ C) h = subst (HaveRoom max) (sym (reversed c C)) (room_join max (reverse C) (c ∷ []) (room_reversed max C h.1) (h.0, tt))

room_in : (max : ℕ) (limits : Shape) (calls past : List Own) → StandIn limits calls past → HaveRoom max past → HaveRoom max calls
room_in max limits [] past s h = tt
room_in max limits (c ∷ calls) [] s h = absurd s
room_in max limits (c ∷ calls) (p ∷ past) (inl s) h = (subst (λ (x : Own). BringsRoom max x.1) (sym s.0) h.0, room_in max limits calls past s.2 h.1)
room_in max limits (c ∷ calls) (p ∷ past) (inr s) h = room_in max limits (c ∷ calls) past s h.1

-- what stands in a history whose items have room
pub calls_room : (max : ℕ) (limits : Shape) (C history : List Own) → StandIn limits (reverse C) (reverse history) → HaveRoom max history → HaveRoom max C
calls_room max limits C history s h =
    subst (HaveRoom max) (reverse-reverse C) (room_reversed max (reverse C) (room_in max limits (reverse C) (reverse history) s (room_reversed max history h)))

-- ---- how many items were sent

sent_join : (a b : List Step) → sent_in (a ++ b) ≡ sent_in a + sent_in b
sent_join [] b = omega arith
sent_join (c ∷ a) b = omega (arith, sent_join a b)

sent_reversed : (C : List Step) → sent_in (reverse C) ≡ sent_in C
sent_reversed [] = refl
sent_reversed (c ∷ C) =
    let e : sent_in (reverse (c ∷ C)) ≡ sent_in (reverse C) + sent_in (c ∷ []) = ap sent_in (reversed c C) ∙ sent_join (reverse C) (c ∷ []) in
    omega (arith, e, sent_reversed C)

sent_first : (limits : Shape) (calls past : List Step) → StandIn limits calls past → sent_in calls ≤ sent_in past
sent_first limits [] past s = omega arith
sent_first limits (c ∷ calls) [] s = absurd s
sent_first limits (c ∷ calls) (p ∷ past) (inl s) =
    let h : length (item_in c.1) ≡ length (item_in p.1) = ap (λ (x : Step). length (item_in x.1)) s.0 in
    omega (arith, h, sent_first limits calls past s.2)
sent_first limits (c ∷ calls) (p ∷ past) (inr s) = omega (arith, sent_first limits (c ∷ calls) past s)

items_few : (C : List Own) → length (items_sent C) ≤ sent_in C
unfolding items_sent
items_few [] = omega arith
items_few (c ∷ C) =
    let h : length (item_for c) ≤ length (item_in c.1) = by_test (is_take c.0.call) in
    omega (arith, h, items_few C, length-append (item_for c) (items_sent C))
  where
    by_test : (b : Bool) → length (if b then item_in c.1 else []) ≤ length (item_in c.1)
    by_test true = omega arith
    by_test false = omega arith

-- no more were sent by calls that stand in a history than in all of it
pub sent_few : (limits : Shape) (C history : List Own) → StandIn limits (reverse C) (reverse history) → length (items_sent C) ≤ sent_in history
sent_few limits C history s = omega (arith, items_few C, sent_reversed C, sent_reversed history, sent_first limits (reverse C) (reverse history) s)

-- ---- all calls are at the one place

pub none_in : (limits : Shape) (calls : List Step) → StandIn limits calls [] → calls ≡ []
none_in limits [] s = refl
none_in limits (c ∷ calls) s = absurd s

at_first : (place : ℕ) (step : Step) (vs : List Visit) → ((q : ℕ) → q ≢ 0 → calls_at q ((place, step) ∷ vs) ≡ [])
    → (place ≡ 0) × ((q : ℕ) → q ≢ 0 → calls_at q vs ≡ [])
at_first zero step vs h = (refl, λ q n. by_test q (nat_eq 0 q) (h q n))
  where
    by_test : (q : ℕ) (b : Bool) → (if b then step ∷ calls_at q vs else calls_at q vs) ≡ [] → calls_at q vs ≡ []
    by_test q true e = absurd (cc)
    by_test q false e = e
at_first (suc place) step vs h = absurd (here (h (suc place) (λ z. omega (arith, z))))
  where
    here : calls_at (suc place) ((suc place, step) ∷ vs) ≡ [] → ⊥
    here e = let f : step ∷ calls_at (suc place) vs ≡ [] = sym (Rattle.relay_session.proofs.SeatStanding.calls_here (suc place) step vs) ∙ e in absurd (cc)

pub all_here : (vs : List Visit) → ((q : ℕ) → q ≢ 0 → calls_at q vs ≡ []) → calls_at 0 vs ≡ map (λ v. v.1) vs
all_here [] h = refl
all_here (v ∷ vs) h = one v.0 v.1 (at_first v.0 v.1 vs h) (all_here vs (at_first v.0 v.1 vs h).1)
  where
    one : (place : ℕ) (step : Step) → (place ≡ 0) × ((q : ℕ) → q ≢ 0 → calls_at q vs ≡ []) → calls_at 0 vs ≡ map (λ (w : Visit). w.1) vs
        → calls_at 0 ((place, step) ∷ vs) ≡ step ∷ map (λ (w : Visit). w.1) vs
    one zero step f e = ap (λ (l : List Step). step ∷ l) e
    one (suc place) step f e = absurd (omega (arith, f.0))

-- ---- lists of bytes

pub all_came : (a b c : List ℕ) → a ++ b ≡ c → length a ≡ length c → a ≡ c
all_came a [] c e l = sym (append-nil a) ∙ e
all_came a (x ∷ b) c e l = absurd (omega (arith, length-append a (x ∷ b), ap length e, l))

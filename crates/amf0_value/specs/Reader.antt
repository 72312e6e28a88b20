-- What bytes are read as, as a function of them: the spelling that stands in them, or the first refusal. The
-- laws say that it is those (`one_answer`).
use Rattle.std.specs.Prelude.{ℕ, zero, suc, ◌+◌, ◌-◌, Bool, true, false, ◌==◌, if◌then◌else◌, List, [], ◌∷◌, length, get_or, take, drop, Option, Some, None}
use Rattle.std.specs.Prelude.{Result, Ok, Err}
use Rattle.std.specs.Int.{Width, w16, w32, w64, byte_len}
use Rattle.amf0_value.specs.declared.marker.Scalar.{Scalar}
use Rattle.amf0_value.specs.declared.marker.Scalar.TheVariants as scalar
use Rattle.amf0_value.specs.declared.marker.Container.{Container}
use Rattle.amf0_value.specs.declared.marker.Container.TheVariants as container
use Rattle.amf0_value.specs.declared.marker.Marker.{Marker}
use Rattle.amf0_value.specs.declared.marker.Marker.TheVariants as marker
use Rattle.amf0_value.specs.declared.fail.Cause.TheVariants as cause
use Rattle.amf0_value.specs.declared.fail.AmfFail.{AmfFail}
use Rattle.amf0_value.specs.Tree.{Tree, number, boolean, text, object, null, undefined, reference, ecma, strict, date, long, unsupported, xml, typed, Members}
use Rattle.amf0_value.specs.Tree.{no_members, member, Items, no_items, item}
use Rattle.amf0_value.specs.Spelling.{front, marker_at}
use Rattle.amf0_value.specs.Refusal.{Refusal, value_refusal, key_refusal, fail_at}

abbrev pub Answer : Type 0 → Type 0
Answer X = Result (X × List ℕ) Refusal

abbrev pub cut : Refusal
cut = (cause.Truncated, [])

abbrev pub unless : {X : Type 0} → Option Refusal → Answer X → Answer X
unless None a = a
unless (Some r) a = Err r

abbrev pub over : {X : Type 0} → (X → Tree) → Answer X → Answer Tree
over f (Ok x) = Ok (f x.0, x.1)
over f (Err e) = Err e

abbrev pub text_behind : Width → List ℕ → List ℕ
text_behind w body = take (front w body) (drop (byte_len w) body)

abbrev pub text_after : Width → List ℕ → List ℕ
text_after w body = drop (front w body) (drop (byte_len w) body)

abbrev pub is_true : ℕ → Bool
is_true byte = if byte == 0 then false else true

abbrev pub scalar_content : Scalar → List ℕ → Answer Tree
scalar_content scalar.Number body = Ok (number (front w64 body), drop 8 body)
scalar_content scalar.Boolean body = Ok (boolean (is_true (get_or body 0 0)), drop 1 body)
scalar_content scalar.Text body = Ok (text (text_behind w16 body), text_after w16 body)
scalar_content scalar.Null body = Ok (null, body)
scalar_content scalar.Undefined body = Ok (undefined, body)
scalar_content scalar.Reference body = Ok (reference (front w16 body), drop 2 body)
scalar_content scalar.Date body = Ok (date (front w64 body) (front w16 (drop 8 body)), drop 2 (drop 8 body))
scalar_content scalar.Long body = Ok (long (text_behind w32 body), text_after w32 body)
scalar_content scalar.Unsupported body = Ok (unsupported, body)
scalar_content scalar.Xml body = Ok (xml (text_behind w32 body), text_after w32 body)

abbrev pub container_content : (List ℕ → Answer Members) → (ℕ → List ℕ → Answer Items) → Container → List ℕ → Answer Tree
container_content ms vs container.Object body = over object (ms body)
container_content ms vs container.Ecma body = over (ecma (front w32 body)) (ms (drop 4 body))
container_content ms vs container.Strict body = over strict (vs (front w32 body) (drop 4 body))
container_content ms vs container.Typed body = over (typed (text_behind w16 body)) (ms (text_after w16 body))

abbrev pub content_of : (List ℕ → Answer Members) → (ℕ → List ℕ → Answer Items) → List ℕ → Option Marker → Answer Tree
content_of ms vs body None = Err cut
content_of ms vs body (Some (marker.Scalar k)) = scalar_content k body
content_of ms vs body (Some (marker.Container k)) = container_content ms vs k body

abbrev pub content : (List ℕ → Answer Members) → (ℕ → List ℕ → Answer Items) → List ℕ → Answer Tree
content ms vs [] = Err cut
content ms vs (m ∷ body) = content_of ms vs body (marker_at m)

abbrev pub over_members : List ℕ → Tree → Answer Members → Answer Members
over_members k v (Ok x) = Ok (member k v x.0, x.1)
over_members k v (Err e) = Err e

abbrev pub pair_by : List ℕ → (List ℕ → Answer Members) → Answer Tree → Answer Members
pair_by k more (Ok x) = over_members k x.0 (more x.1)
pair_by k more (Err e) = Err e

abbrev pub members_by : (List ℕ → Answer Tree) → (List ℕ → Answer Members) → List ℕ → Answer Members
members_by one more bytes = if front w16 bytes == 0 then Ok (no_members, drop 3 bytes) else pair_by (text_behind w16 bytes) more (one (text_after w16 bytes))

unfoldable pub members : (List ℕ → Answer Tree) → ℕ → List ℕ → Answer Members
members one zero bytes = Err cut
members one (suc n) bytes = unless (key_refusal bytes) (members_by one (members one n) bytes)

abbrev pub over_items : Tree → Answer Items → Answer Items
over_items v (Ok x) = Ok (item v x.0, x.1)
over_items v (Err e) = Err e

abbrev pub item_by : (List ℕ → Answer Items) → Answer Tree → Answer Items
item_by more (Ok x) = over_items x.0 (more x.1)
item_by more (Err e) = Err e

unfoldable pub items : (List ℕ → Answer Tree) → ℕ → List ℕ → Answer Items
items one zero bytes = Ok (no_items, bytes)
items one (suc n) bytes = item_by (items one n) (one bytes)

-- with that many containers that may still open, inside outer open ones
unfoldable pub value : ℕ → ℕ → List ℕ → Answer Tree
value zero outer bytes = unless (value_refusal outer bytes) (content (λ b. Err cut) (λ n b. Err cut) bytes)
value (suc d) outer bytes =
    unless (value_refusal outer bytes) (content (λ b. members (value d (outer + 1)) (suc (length b)) b) (λ n b. items (value d (outer + 1)) n b) bytes)

abbrev pub all_over : Tree → Result Items Refusal → Result Items Refusal
all_over v (Ok vs) = Ok (item v vs)
all_over v (Err e) = Err e

abbrev pub all_by : (List ℕ → Result Items Refusal) → Answer Tree → Result Items Refusal
all_by more (Ok x) = all_over x.0 (more x.1)
all_by more (Err e) = Err e

-- values to the end of so many bytes at most; each has a byte at least
unfoldable pub to_end : ℕ → List ℕ → Result Items Refusal
to_end zero bytes = Ok no_items
to_end (suc n) [] = Ok no_items
to_end (suc n) (x ∷ xs) = all_by (to_end n) (value 32 0 (x ∷ xs))

abbrev pub at_place : List ℕ → Result Items Refusal → Result Items AmfFail
at_place bytes (Ok vs) = Ok vs
at_place bytes (Err r) = Err (fail_at r.0 (length bytes - length r.1))

-- THE VALUES that fill the bytes, or why and where there are none
abbrev pub values_in : List ℕ → Result Items AmfFail
values_in bytes = at_place bytes (to_end (length bytes) bytes)

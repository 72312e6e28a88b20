-- What an item adds to the text of an FLV file
use Rattle.std.proofs.Common.{◌≡◌, ℕ, ◌+◌, ◌≤◌, List, [], ◌∷◌, ◌++◌, length, refl, sym, ap, ◌∙◌, subst, arith, length-append}
use Rattle.std.specs.List.{slice_index_or}
use Rattle.std.proofs.lemmas.List.{append-nil}
use Rattle.av_unit.specs.declared.item.Item.{Item}
use Rattle.av_unit.specs.declared.item.Item.TheVariants.{Begin, Unit as AUnit, End}
use Rattle.av_unit.specs.Classes.{message_type}
use Rattle.stream_model.specs.Held.{body_of}
use Rattle.flv_tags.specs.Written.{head_bytes, back_bytes}
use Rattle.flv_tags.specs.Text.{item_bytes, flv_text}
use Rattle.media_recorder.specs.Flv.{flv_more}
use Rattle.media_recorder.specs.Mediums.{AreWithin, Adds}

head_length : (kind time size : ℕ) → length (head_bytes kind time size) ≡ 11
unfolding head_bytes
head_length kind time size = refl

back_length : (size : ℕ) → length (back_bytes size) ≡ 4
unfolding back_bytes
back_length size = refl

item_length : (x : Item) → length (item_bytes x) ≤ body_of x + 15
item_length Begin = omega arith
item_length End = omega arith
item_length (AUnit u) =
    let head = head_bytes (message_type u.kind) u.time (length u.body) in
    let back = back_bytes (length u.body) in
    omega (arith, length-append head (u.body ++ back), length-append u.body back, head_length (message_type u.kind) u.time (length u.body), back_length (length u.body))

at_end : (xs : List Item) (x d : Item) → slice_index_or (xs ++ x ∷ []) (length xs) d ≡ x
at_end [] x d = refl
at_end (y ∷ ys) x d = at_end ys x d

last_within : (m : ℕ) (items : List Item) (x : Item) → AreWithin m (items ++ x ∷ []) → body_of x ≤ m
last_within m items x w =
    subst (λ (y : Item). body_of y ≤ m) (at_end items x x) (w (length items) x (omega (arith, length-append items (x ∷ []))))

pub flv_adds : (items items' : List Item) (x : Item) (out out' : List ℕ) → items' ≡ items ++ x ∷ [] → out' ≡ out ++ item_bytes x → body_of x ≤ 4194304 → Adds flv_text items x items' out out' 0
flv_adds items items' x out out' is added most = record {
  more = item_bytes x;
  items_are = is;
  text_is = ap flv_text is ∙ (sym (flv_more items (x ∷ [])) ∙ ap (λ (b : List ℕ). flv_text items ++ b) (append-nil (item_bytes x)));
  out_is = added;
  room = λ m within. omega (arith, item_length x, last_within m items x (subst (λ (l : List Item). AreWithin m l) is within));
  most = omega (arith, item_length x, most);
}

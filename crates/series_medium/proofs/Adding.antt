-- What an item adds to the text of a medium
use Rattle.std.proofs.Common.{◌≡◌, ℕ, ◌≤◌, List, [], ◌∷◌, ◌++◌, length, fold, Option, refl, sym, ap, ◌∙◌, subst, arith, append-nil}
use Rattle.std.proofs.lemmas.List.{get_or_push, length_push}
use Rattle.av_unit.specs.declared.item.Item.{Item}
use Rattle.stream_model.specs.Held.{body_of}
use Rattle.media_recorder.specs.Mediums.{Adds, AreWithin}
use Rattle.series_medium.specs.Text.{added, on_air, series_text, text_behind}
use Rattle.series_medium.specs.Writers.{TextGrows, on_air_of}
use Rattle.series_medium.specs.GoesOn.{text_on}

last_within : (m : ℕ) (items : List Item) (x : Item) → AreWithin m (items ++ x ∷ []) → body_of x ≤ m
last_within m items x w = subst (λ (y : Item). body_of y ≤ m) (get_or_push items x x (length items) refl) (w (length items) x (omega (arith, length_push items x)))

pub series_adds : (file : List Item → Option (List ℕ)) (items items' : List Item) (x : Item) (on on' : List Item) (old new : List ℕ) (kept : ℕ) → on ≡ on_air_of items
    → items' ≡ items ++ x ∷ [] → body_of x ≤ 4194304 → TextGrows file on x on' old new kept → Adds (series_text file) items x items' old new kept
series_adds file items items' x on on' old new kept on_is is most g =
    let adds : text_behind file (fold on_air [] items) (x ∷ []) ≡ g.more
    = append-nil (added file (on_air_of items) x) ∙ ap (λ (l : List Item). added file l x) (sym on_is) ∙ sym g.more_is in
    record {
      more = g.more;
      items_are = is;
      text_is = ap (series_text file) is ∙ text_on file [] items (x ∷ []) ∙ ap (λ (l : List ℕ). series_text file items ++ l) adds;
      out_is = g.out_is;
      room = λ m within. omega (arith, g.room, last_within m items x (subst (λ (l : List Item). AreWithin m l) is within));
      most = omega (arith, g.room, most);
    }

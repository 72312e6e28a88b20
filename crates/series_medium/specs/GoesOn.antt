-- Only the law of a medium uses it.
-- A text of broadcasts goes on with each item
use Rattle.std.specs.Prelude.{◌≡◌, ℕ, List, [], ◌∷◌, ◌++◌, fold, Option}
use Rattle.std.proofs.Common.{refl, sym, ap, ◌∙◌, append_assoc}
use Rattle.av_unit.specs.declared.item.Item.{Item}
use Rattle.turn_gate.specs.Histories.{Begins}
use Rattle.series_medium.specs.Text.{added, on_air, series_text, text_behind}

module _ (file : List Item → Option (List ℕ)) where
  pub text_on : (now items more : List Item)
      → text_behind file now (items ++ more) ≡ text_behind file now items ++ text_behind file (fold on_air now items) more
  text_on now [] more = refl
  text_on now (x ∷ xs) more =
      ap (λ (l : List ℕ). added file now x ++ l) (text_on (on_air now x) xs more)
      ∙ sym (append_assoc (added file now x) (text_behind file (on_air now x) xs) (text_behind file (fold on_air (on_air now x) xs) more))

  pub series_goes_on : (items more : List Item) → Begins (series_text file items) (series_text file (items ++ more))
  series_goes_on items more = (text_behind file (fold on_air [] items) more, sym (text_on [] items more))

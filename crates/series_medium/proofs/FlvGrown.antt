-- What a file of FLV grows by
use Rattle.std.proofs.Common.{◌≡◌, ℕ, ◌+◌, ◌≤◌, Bool, true, false, List, [], ◌∷◌, ◌++◌, length, drop, Option, Some, None, is_some, refl, sym, ap, ◌∙◌, arith, append_assoc, append-nil, length-append}
use Rattle.std.proofs.lemmas.List.{drop_at}
use Rattle.std.proofs.lemmas.List.Concat.{flat_map-append}
use Rattle.std.specs.List.{flat_map}
use Rattle.av_unit.specs.declared.item.Item.{Item}
use Rattle.av_unit.specs.declared.item.Item.TheVariants.{Begin, Unit as AUnit, End}
use Rattle.av_unit.specs.Classes.{message_type}
use Rattle.av_unit.specs.Media.{Media}
use Rattle.stream_model.specs.Held.{body_of}
use Rattle.flv_tags.specs.Written.{back_bytes, head_bytes, header}
use Rattle.flv_tags.specs.Text.{item_bytes}
use Rattle.series_medium.specs.Broadcasts.{flv_file, if_any}
use Rattle.series_medium.specs.Text.{grown}
use Rattle.series_medium.specs.Writers.{FileGrows}
use Rattle.series_medium.specs.FlvFiles.{flv_more, opens}

-- the file of written tags
abbrev flv_by : List ℕ → Option (List ℕ)
flv_by written = if_any written (header ++ written)

more_is : (old more : List ℕ) → drop (length old) (old ++ more) ≡ more
more_is old more = drop_at old more (length old) refl

-- a tag isn't empty
first_tag : (u : Media) → flv_by (item_bytes (AUnit u) ++ []) ≡ Some (header ++ (item_bytes (AUnit u) ++ []))
unfolding head_bytes
first_tag u = refl

grown_by : (written : List ℕ) (x : Item) → grown (flv_by written) (flv_by (written ++ (item_bytes x ++ []))) ≡ flv_more (is_some (flv_by written)) x
grown_by [] Begin = refl
grown_by [] End = refl
grown_by [] (AUnit u) =
    ap (λ (o : Option (List ℕ)). grown None o) (first_tag u) ∙ ap (λ (l : List ℕ). header ++ l) (append-nil (item_bytes (AUnit u)))
grown_by (w ∷ ws) x =
    ap (λ (l : List ℕ). drop (length (header ++ w ∷ ws)) l) (sym (append_assoc header (w ∷ ws) (item_bytes x ++ [])))
    ∙ more_is (header ++ w ∷ ws) (item_bytes x ++ [])
    ∙ append-nil (item_bytes x)
    ∙ open_more x
  where
    open_more : (y : Item) → item_bytes y ≡ flv_more true y
    open_more Begin = refl
    open_more End = refl
    open_more (AUnit u) = refl

opens_by : (written : List ℕ) (x : Item) → is_some (flv_by (written ++ (item_bytes x ++ []))) ≡ opens (is_some (flv_by written)) x
opens_by [] Begin = refl
opens_by [] End = refl
opens_by [] (AUnit u) = ap (λ (o : Option (List ℕ)). is_some o) (first_tag u)
opens_by (w ∷ ws) Begin = refl
opens_by (w ∷ ws) End = refl
opens_by (w ∷ ws) (AUnit u) = refl

flv_next : (items : List Item) (x : Item) → flv_file (items ++ x ∷ []) ≡ flv_by (flat_map item_bytes items ++ (item_bytes x ++ []))
flv_next items x = ap flv_by (flat_map-append item_bytes items (x ∷ []))

-- ---- lengths

head_length : (kind time size : ℕ) → length (head_bytes kind time size) ≡ 11
unfolding head_bytes
head_length kind time size = refl

back_length : (size : ℕ) → length (back_bytes size) ≡ 4
unfolding back_bytes
back_length size = refl

tag_length : (u : Media) → length (item_bytes (AUnit u)) ≡ length u.body + 15
tag_length u =
    let head = head_bytes (message_type u.kind) u.time (length u.body) in
    let back = back_bytes (length u.body) in
    omega (arith, length-append head (u.body ++ back), length-append u.body back, head_length (message_type u.kind) u.time (length u.body), back_length (length u.body))

more_length : (is_open : Bool) (x : Item) → length (flv_more is_open x) ≤ body_of x + 28
more_length is_open Begin = omega arith
more_length is_open End = omega arith
more_length true (AUnit u) = omega (arith, tag_length u)
more_length false (AUnit u) = omega (arith, tag_length u, length-append header (item_bytes (AUnit u)))

pub flv_adds : (items items' : List Item) (x : Item) (is_open : Bool) (old new : List ℕ) → is_open ≡ is_some (flv_file items) → items' ≡ items ++ x ∷ []
    → new ≡ old ++ flv_more is_open x → FileGrows flv_file items x items' old new 0
flv_adds items items' x is_open old new open_is is added =
    let more : grown (flv_file items) (flv_file items') ≡ flv_more is_open x
    = ap (λ (l : List Item). grown (flv_file items) (flv_file l)) is
    ∙ ap (λ (o : Option (List ℕ)). grown (flv_file items) o) (flv_next items x)
    ∙ grown_by (flat_map item_bytes items) x
    ∙ ap (λ (b : Bool). flv_more b x) (sym open_is) in
    record {
      items_are = is;
      out_is = added ∙ ap (λ (l : List ℕ). old ++ l) (sym more);
      room = (let n = ap length more in omega (arith, n, more_length is_open x));
    }

pub flv_opens : (items items' : List Item) (x : Item) (is_open now : Bool) → is_open ≡ is_some (flv_file items) → items' ≡ items ++ x ∷ [] → now ≡ opens is_open x
    → now ≡ is_some (flv_file items')
flv_opens items items' x is_open now open_is is opened =
    opened ∙ ap (λ (b : Bool). opens b x) open_is ∙ sym (opens_by (flat_map item_bytes items) x) ∙ ap (λ (o : Option (List ℕ)). is_some o) (sym (flv_next items x))
    ∙ ap (λ (l : List Item). is_some (flv_file l)) (sym is)

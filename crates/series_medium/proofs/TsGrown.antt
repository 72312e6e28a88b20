-- What a file of a transport stream grows by
use Rattle.std.proofs.Common.{◌≡◌, ℕ, ◌+◌, ◌*◌, ◌≤◌, Bool, nat_lt, List, [], ◌∷◌, ◌++◌, length, reverse, Option, is_some, refl, sym, ap, ◌∙◌, arith, length-append}
use Rattle.std.proofs.lemmas.List.{drop_at, reverse-append, reverse-reverse}
use Rattle.std.proofs.lemmas.Bool.Decides.{nat_tests}
use Rattle.av_unit.specs.declared.item.Item.{Item}
use Rattle.av_unit.specs.declared.item.Item.TheVariants.{Begin, Unit as AUnit, End}
use Rattle.stream_model.specs.Held.{body_of}
use Rattle.ts_writer.specs.Held.{held_of, most_added}
use Rattle.ts_writer.specs.Known.{TsKnown, given}
use Rattle.ts_writer.specs.Text.{in_force, item_text, ts_text}
use Rattle.series_medium.specs.Broadcasts.{if_any, ts_file}
use Rattle.series_medium.specs.Text.{grown}
use Rattle.series_medium.specs.TsFiles.{IsTsFile, is_any}
use Rattle.series_medium.specs.Writers.{FileGrows}

-- the file of a text
abbrev ts_by : List ℕ → Option (List ℕ)
ts_by text = if_any text text

grown_by : (text more : List ℕ) → grown (ts_by text) (ts_by (text ++ more)) ≡ more
grown_by [] [] = refl
grown_by [] (b ∷ bs) = refl
grown_by (c ∷ cs) more = drop_at (c ∷ cs) more (length (c ∷ cs)) refl

opens_by : (text more : List ℕ) (before now : ℕ) → now ≡ before + length more → is_any (is_some (ts_by text)) (nat_lt before now) ≡ is_some (ts_by (text ++ more))
opens_by [] [] before now is = grind (arith, nat_tests)
opens_by [] (b ∷ bs) before now is = grind (arith, nat_tests)
opens_by (c ∷ cs) more before now is = refl

-- the file of items by the newest first
file_back : (past : List Item) → ts_file (reverse past) ≡ ts_by (ts_text past)
file_back past = ap (λ (l : List Item). ts_by (ts_text l)) (reverse-reverse past)

one_more : (past : List Item) (x : Item) → reverse (x ∷ past) ≡ reverse past ++ x ∷ []
one_more past x = reverse-append (x ∷ []) past

most_of : (x : Item) → most_added x ≤ 4 * body_of x + 131072
most_of Begin = omega arith
most_of (AUnit u) = omega arith
most_of End = omega arith

ts_grown : (past : List Item) (x : Item) → grown (ts_file (reverse past)) (ts_file (reverse (x ∷ past))) ≡ item_text past x
ts_grown past x =
    ap (λ (o : Option (List ℕ)). grown o (ts_file (reverse (x ∷ past)))) (file_back past)
    ∙ ap (λ (o : Option (List ℕ)). grown (ts_by (ts_text past)) o) (file_back (x ∷ past))
    ∙ grown_by (ts_text past) (item_text past x)

pub ts_adds : (w w' : TsKnown) (x : Item) (old new : List ℕ) (held : ℕ) → w' ≡ given w x → new ≡ old ++ item_text w.past x → length new ≤ length old + most_added x
    → held ≡ held_of (in_force w'.past) → held ≤ 65536
    → FileGrows ts_file (reverse w.past) x (reverse w'.past) old new (held_of (in_force (reverse (reverse w'.past))))
ts_adds w w' x old new held is added most held_is small =
    let past : w'.past ≡ x ∷ w.past = ap (λ (k : TsKnown). k.past) is in
    let more : grown (ts_file (reverse w.past)) (ts_file (reverse w'.past)) ≡ item_text w.past x
    = ap (λ (l : List Item). grown (ts_file (reverse w.past)) (ts_file (reverse l))) past ∙ ts_grown w.past x in
    let kept : held_of (in_force (reverse (reverse w'.past))) ≡ held = ap (λ (l : List Item). held_of (in_force l)) (reverse-reverse w'.past) ∙ sym held_is in
    record {
      items_are = ap (λ (l : List Item). reverse l) past ∙ one_more w.past x;
      out_is = added ∙ ap (λ (l : List ℕ). old ++ l) (sym more);
      room = (let n = ap length more in let m = ap length added in omega (arith, n, m, length-append old (item_text w.past x), most, most_of x, kept, small));
    }

pub ts_goes : (w w' : TsKnown) (x : Item) (is_open now : Bool) (old new : List ℕ) → IsTsFile w is_open → w' ≡ given w x → new ≡ old ++ item_text w.past x
    → now ≡ is_any is_open (nat_lt (length old) (length new)) → IsTsFile w' now
ts_goes w w' x is_open now old new f is added grew =
    let past : w'.past ≡ x ∷ w.past = ap (λ (k : TsKnown). k.past) is in
    let was : is_open ≡ is_some (ts_by (ts_text w.past)) = f.open_is ∙ ap (λ (o : Option (List ℕ)). is_some o) (file_back w.past) in
    let size : length new ≡ length old + length (item_text w.past x) = ap length added ∙ length-append old (item_text w.past x) in
    record {
      works = ap (λ (k : TsKnown). k.broken) is ∙ f.works;
      open_is = grew ∙ ap (λ (b : Bool). is_any b (nat_lt (length old) (length new))) was
          ∙ opens_by (ts_text w.past) (item_text w.past x) (length old) (length new) size
          ∙ ap (λ (o : Option (List ℕ)). is_some o) (sym (file_back (x ∷ w.past)))
          ∙ ap (λ (l : List Item). is_some (ts_file (reverse l))) (sym past);
    }

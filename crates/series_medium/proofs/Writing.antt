-- Frames that are written
use Rattle.std.proofs.Common.{◌≡◌, ◌≢◌, ℕ, ◌+◌, ◌-◌, ◌<◌, ◌≤◌, ◌^◌, Bool, true, nat_lt, List, [], ◌∷◌, ◌++◌, length, take, drop, slice_index, Option, refl, sym, ap, ◌∙◌, arith, append_assoc, append-nil, length-append}
use Rattle.std.proofs.lemmas.List.{drop_all, drop_at, length-drop, take_at, take_more}
use Rattle.std.proofs.lemmas.Bool.Decides.{nat_tests}
use Rattle.av_unit.specs.declared.item.Item.{Item}
use Rattle.stream_model.specs.Held.{body_of}
use Rattle.series_medium.specs.Frames.{size_bytes}
use Rattle.series_medium.specs.Text.{data_text, framed, grown}
use Rattle.series_medium.specs.Writers.{FileGrows, FrameGrows}

is_small : (n : ℕ) → n < 2 ^ 32 → nat_lt n (2 ^ 32) ≡ true
is_small n small = grind (arith, nat_tests)

data_is : (bytes : List ℕ) → 0 < length bytes → length bytes < 2 ^ 32 → data_text bytes ≡ 0 ∷ (size_bytes (length bytes) ++ bytes)
data_is [] some small = absurd (omega (arith, some))
data_is (b ∷ bs) some small = ap (λ (t : Bool). framed t (b ∷ bs)) (is_small (length (b ∷ bs)) small)

-- a frame is closed
pub closed : (old : List ℕ) (at size : ℕ) → slice_index old at ≡ 0 → at + 5 ≤ length old → size ≡ length old - at - 5 → size ≢ 0 → size < 2 ^ 32
    → take (at + 1) old ++ (size_bytes size ++ drop (at + 5) old) ≡ take at old ++ data_text (drop (at + 5) old)
closed old at size kind there is some small =
    let n : length (drop (at + 5) old) ≡ size = omega (arith, length-drop (at + 5) old, is) in
    let text : data_text (drop (at + 5) old) ≡ 0 ∷ (size_bytes size ++ drop (at + 5) old)
    = data_is (drop (at + 5) old) (omega (arith, n, some)) (omega (arith, n, small)) ∙ ap (λ (m : ℕ). 0 ∷ (size_bytes m ++ drop (at + 5) old)) n in
    let first : take (at + 1) old ≡ take at old ++ 0 ∷ [] = take_more old at 0 (omega (arith, there)) ∙ ap (λ (b : ℕ). take at old ++ b ∷ []) kind in
    ap (λ (l : List ℕ). l ++ (size_bytes size ++ drop (at + 5) old)) first
    ∙ append_assoc (take at old) (0 ∷ []) (size_bytes size ++ drop (at + 5) old)
    ∙ ap (λ (l : List ℕ). take at old ++ l) (sym text)

-- or nothing was written
pub closed_none : (old : List ℕ) (at : ℕ) → length old ≤ at + 5 → take at old ≡ take at old ++ data_text (drop (at + 5) old)
closed_none old at none =
    sym (append-nil (take at old)) ∙ ap (λ (l : List ℕ). take at old ++ data_text l) (sym (drop_all (at + 5) old none))

size_length : (n : ℕ) → length (size_bytes n) ≡ 4
unfolding size_bytes
size_length n = refl

pub data_length : (bytes : List ℕ) → length bytes < 2 ^ 32 → length (data_text bytes) ≤ length bytes + 5
data_length [] small = omega arith
data_length (b ∷ bs) small =
    let n = ap length (data_is (b ∷ bs) (omega arith) small) in
    omega (arith, n, length-append (size_bytes (length (b ∷ bs))) (b ∷ bs), size_length (length (b ∷ bs)))

module _ (file : List Item → Option (List ℕ)) where
  -- a frame behind others
  pub frame_grows : (items items' : List Item) (item : Item) (old headed filled new zeros : List ℕ) (kept : ℕ) → body_of item ≤ 4194304 → length zeros ≡ 5
      → headed ≡ old ++ zeros → FileGrows file items item items' headed filled kept
      → new ≡ take (length old) filled ++ data_text (drop (length old + 5) filled) → FrameGrows file items item items' old new kept
  frame_grows items items' item old headed filled new zeros kept most five head g is =
      let more = grown (file items) (file items') in
      let all : filled ≡ old ++ (zeros ++ more) = g.out_is ∙ ap (λ (l : List ℕ). l ++ more) head ∙ append_assoc old zeros more in
      let all' : filled ≡ (old ++ zeros) ++ more = g.out_is ∙ ap (λ (l : List ℕ). l ++ more) head in
      let first : take (length old) filled ≡ old = ap (λ (l : List ℕ). take (length old) l) all ∙ take_at old (zeros ++ more) (length old) refl in
      let size : length (old ++ zeros) ≡ length old + 5 = omega (arith, length-append old zeros, five) in
      let rest : drop (length old + 5) filled ≡ more = ap (λ (l : List ℕ). drop (length old + 5) l) all' ∙ drop_at (old ++ zeros) more (length old + 5) size in
      record {
        items_are = g.items_are;
        more = data_text more;
        more_is = refl;
        out_is = is ∙ ap (λ (l : List ℕ). l ++ data_text (drop (length old + 5) filled)) first ∙ ap (λ (l : List ℕ). old ++ data_text l) rest;
        room = (let n = data_length more (omega (arith, g.room, most)) in omega (arith, n, g.room));
      }

-- A byte stream is NAL units, each behind a zero byte and a start code
use Rattle.std.proofs.Common.{◌≡◌, ℕ, zero, suc, ◌+◌, ◌-◌, ◌<◌, ◌≤◌, Bool, true, false, List, [], ◌∷◌, ◌++◌, length, take, drop, slice_index, Option, Some, None, refl, sym, ap, ◌∙◌, arith, append-nil, Ok, subst}
use Rattle.std.specs.Prelude.{option_map}
use Rattle.std.proofs.lemmas.Bool.Decides.{nat_tests}
use Rattle.std.proofs.lemmas.List.{drop_at, get_or-take, get_or_append_left, length-take-le, take-append-drop, take_all}
use Rattle.std.proofs.lemmas.Slice.Eq.{bytes_eq-Decides}
use Rattle.avc_annexb.specs.Nal.{AreNals, IsNal, dirty_in, is_triple, or_last, triple_in}
use Rattle.avc_annexb.specs.AnnexB.{annexb, started}
use Rattle.avc_annexb.specs.Split.{split_of}
use Rattle.avc_annexb.proofs.Splits.{again, found}
use Rattle.ts_reader.specs.Payloads.{behind_unit, is_none, is_stream, unit_length}
use Rattle.ts_reader.specs.Laws.{StreamOf}
use Rattle.ts_reader.proofs.Units.{behind_shorter, fill_ends, fill_more, fill_stops, picks, unit_all, unit_found}

-- bytes that don't begin with such three don't do so when they are cut
cut_triple : (x : ℕ) (xs : List ℕ) (j : ℕ) → is_triple (x ∷ xs) ≡ false → is_triple (x ∷ take j xs) ≡ false
cut_triple x [] zero e = refl
cut_triple x [] (suc j) e = refl
cut_triple x (y ∷ ys) zero e = refl
cut_triple x (y ∷ []) (suc zero) e = refl
cut_triple x (y ∷ []) (suc (suc j)) e = refl
cut_triple x (y ∷ z ∷ zs) (suc zero) e = refl
cut_triple x (y ∷ z ∷ zs) (suc (suc j)) e = e

not_here : (x : ℕ) (xs : List ℕ) → is_triple (x ∷ xs) ≡ false → triple_in (x ∷ xs) ≡ option_map (λ i. 1 + i) (triple_in xs)
unfolding triple_in
not_here x xs e = rw e refl

at_front : (x : ℕ) (xs : List ℕ) → is_triple (x ∷ xs) ≡ true → triple_in (x ∷ xs) ≡ Some 0
unfolding triple_in
at_front x xs e = rw e refl

none_in : triple_in [] ≡ None
unfolding triple_in
none_in = refl

map_some : (o : Option ℕ) (i : ℕ) → option_map (λ k. 1 + k) o ≡ Some i → (j : ℕ) × ((o ≡ Some j) × (i ≡ suc j))
map_some None i e = absurd (cc)
map_some (Some j) i e = let f : 1 + j ≡ i = cc in (j, (refl, omega arith))

map_none : (o : Option ℕ) → option_map (λ k. 1 + k) o ≡ None → o ≡ None
map_none None e = refl
map_none (Some j) e = absurd (cc)

-- before the first such three there are none
clean_by : (b : Bool) (x : ℕ) (xs : List ℕ) (i : ℕ) → is_triple (x ∷ xs) ≡ b → triple_in (x ∷ xs) ≡ Some i
    → ((j : ℕ) → triple_in xs ≡ Some j → triple_in (take j xs) ≡ None) → triple_in (take i (x ∷ xs)) ≡ None
clean_by true x xs i e f h =
    let z : Some 0 ≡ Some i = sym (at_front x xs e) ∙ f in
    let n : 0 ≡ i = cc in
    ap (λ (k : ℕ). triple_in (take k (x ∷ xs))) (sym n) ∙ none_in
clean_by false x xs i e f h =
    let m = map_some (triple_in xs) i (sym (not_here x xs e) ∙ f) in
    ap (λ (k : ℕ). triple_in (take k (x ∷ xs))) m.1.1
    ∙ not_here x (take m.0 xs) (cut_triple x xs m.0 e)
    ∙ ap (option_map (λ k. 1 + k)) (h m.0 m.1.0)

clean_to : (u : List ℕ) (i : ℕ) → triple_in u ≡ Some i → triple_in (take i u) ≡ None
clean_to [] i e = let z : None ≡ Some i = sym none_in ∙ e in absurd (cc)
clean_to (x ∷ xs) i e = clean_by (is_triple (x ∷ xs)) x xs i refl e (λ j f. clean_to xs j f)

-- the bytes before it
unit_clean_by : (u : List ℕ) (o : Option ℕ) → triple_in u ≡ o → triple_in (take (unit_length u) u) ≡ None
unit_clean_by u None e = ap (λ (n : ℕ). triple_in (take n u)) (unit_all u e) ∙ ap triple_in (take_all (length u) u (omega arith)) ∙ e
unit_clean_by u (Some i) e = ap (λ (n : ℕ). triple_in (take n u)) (unit_found u i e) ∙ clean_to u i e

clean_dirty : (b : List ℕ) → triple_in b ≡ None → (slice_index b (length b - 1) ≡ 0 → ⊥) → dirty_in b ≡ None
unfolding dirty_in
clean_dirty b e last = rw e (grind (arith, nat_tests, last))

within_by : (b : Bool) (x : ℕ) (xs : List ℕ) (i : ℕ) → is_triple (x ∷ xs) ≡ b → triple_in (x ∷ xs) ≡ Some i
    → ((j : ℕ) → triple_in xs ≡ Some j → j < length xs) → i < length (x ∷ xs)
within_by true x xs i e f h = let z : Some 0 ≡ Some i = sym (at_front x xs e) ∙ f in let n : 0 ≡ i = cc in omega arith
within_by false x xs i e f h =
    let m = map_some (triple_in xs) i (sym (not_here x xs e) ∙ f) in
    let n = m.1.1 in
    let k = h m.0 m.1.0 in
    omega arith

found_within : (u : List ℕ) (i : ℕ) → triple_in u ≡ Some i → i < length u
found_within [] i e = let z : None ≡ Some i = sym none_in ∙ e in absurd (cc)
found_within (x ∷ xs) i e = within_by (is_triple (x ∷ xs)) x xs i refl e (λ j f. found_within xs j f)

length_by : (u : List ℕ) (o : Option ℕ) → triple_in u ≡ o → unit_length u ≤ length u
length_by u None e = let n = unit_all u e in omega arith
length_by u (Some i) e = let n = unit_found u i e in let k = found_within u i e in omega arith

some_unit : (n : ℕ) (u : List ℕ) → is_none n u ≡ false → (0 < n) × (slice_index u (n - 1) ≡ 0 → ⊥)
some_unit n u e = (grind (arith, nat_tests), λ z. grind (arith, nat_tests))

-- the unit in front is a NAL unit
front_nal : (u : List ℕ) → is_none (unit_length u) u ≡ false → IsNal (take (unit_length u) u)
front_nal u e =
    let s = some_unit (unit_length u) u e in
    let most = length_by u (triple_in u) refl in
    let n : length (take (unit_length u) u) ≡ unit_length u = length-take-le (unit_length u) u most in
    let at : slice_index (take (unit_length u) u) (length (take (unit_length u) u) - 1) ≡ slice_index u (unit_length u - 1) =
    ap (λ (k : ℕ). slice_index (take (unit_length u) u) (k - 1)) n ∙ get_or-take (unit_length u) u (unit_length u - 1) 0 (omega (arith, s.0)) in
    record {
      some = omega (arith, s.0, n);
      clean = clean_dirty (take (unit_length u) u) (unit_clean_by u (triple_in u) refl) (λ z. s.1 (sym at ∙ z));
    }

-- what stands behind a unit stands behind it in the byte stream
front_is : (b r : List ℕ) → behind_unit b ≡ Some r → (u : List ℕ) × (IsNal u × (b ≡ started u ++ r))
unfolding behind_unit
front_is b r e =
    let p = picks _ _ _ r e in
    let code : 0 ∷ 0 ∷ 0 ∷ 1 ∷ [] ≡ take 4 b = (bytes_eq-Decides (0 ∷ 0 ∷ 0 ∷ 1 ∷ []) (take 4 b)).0 p.0 in
    let n = unit_length (drop 4 b) in
    let unit = take n (drop 4 b) in
    let tail : drop 4 b ≡ unit ++ r = sym (take-append-drop n (drop 4 b)) ∙ ap (λ (x : List ℕ). unit ++ x) p.2 in
    let all : b ≡ (0 ∷ 0 ∷ 0 ∷ 1 ∷ []) ++ (unit ++ r) =
    sym (take-append-drop 4 b) ∙ ap (λ (x : List ℕ). x ++ drop 4 b) (sym code) ∙ ap (λ (x : List ℕ). (0 ∷ 0 ∷ 0 ∷ 1 ∷ []) ++ x) tail in
    (unit, (front_nal (drop 4 b) p.1, all))

-- what fills bytes
fills_by : (n : ℕ) (b : List ℕ) (o : Option (List ℕ)) → 0 < length b → length b ≤ suc n → is_stream b ≡ true → behind_unit b ≡ o
    → ((r : List ℕ) → length r ≤ n → is_stream r ≡ true → StreamOf r) → StreamOf b
fills_by n b None some h e f next = let z : true ≡ false = sym e ∙ fill_stops b some f in absurd (cc)
fills_by n b (Some r) some h e f next =
    let s = behind_shorter b r f in
    let front = front_is b r f in
    let more = next r (omega arith) (sym (fill_more b r some f) ∙ e) in
    record {
      units = front.0 ∷ more.units;
      nals = (front.1.0, more.nals);
      bytes = front.1.1 ∙ ap (λ (x : List ℕ). started front.0 ++ x) more.bytes;
    }

fills : (n : ℕ) (b : List ℕ) → length b ≤ n → is_stream b ≡ true → StreamOf b
fills n [] h e = record { units = []; nals = tt; bytes = refl }
fills zero (x ∷ xs) h e = absurd (omega arith)
fills (suc n) (x ∷ xs) h e = fills_by n (x ∷ xs) (behind_unit (x ∷ xs)) (omega arith) h e refl (λ r k f. fills n r k f)

pub stream_read : (b : List ℕ) → is_stream b ≡ true → StreamOf b
stream_read b e = fills (length b) b (omega arith) e

-- a NAL unit has no such three bytes, and its last isn't 0
nal_by : (b : List ℕ) (o : Option ℕ) → 0 < length b → or_last b o ≡ None → (o ≡ None) × (slice_index b (length b - 1) ≡ 0 → ⊥)
nal_by b None some e = (refl, λ z. grind (arith, nat_tests))
nal_by b (Some i) some e = absurd (cc)

nal_parts : (b : List ℕ) → IsNal b → (triple_in b ≡ None) × (slice_index b (length b - 1) ≡ 0 → ⊥)
unfolding dirty_in
nal_parts b n = nal_by b (triple_in b) n.some n.clean

some_none : (o : Option ℕ) → o ≡ Some 0 → o ≡ None → ⊥
some_none o e f = absurd (cc)

head_by : (b : Bool) (x : ℕ) (xs : List ℕ) → is_triple (x ∷ xs) ≡ b → triple_in (x ∷ xs) ≡ None → (is_triple (x ∷ xs) ≡ false) × (triple_in xs ≡ None)
head_by true x xs e f = absurd (some_none (triple_in (x ∷ xs)) (at_front x xs e) f)
head_by false x xs e f = (e, map_none (triple_in xs) (sym (not_here x xs e) ∙ f))

codes : (rest : List ℕ) → triple_in (0 ∷ 0 ∷ 0 ∷ rest) ≡ Some 0
codes rest = at_front 0 (0 ∷ 0 ∷ rest) refl

behind_one : (x : ℕ) (more : List ℕ) (n : ℕ) → is_triple (x ∷ more) ≡ false → triple_in more ≡ Some n → triple_in (x ∷ more) ≡ Some (1 + n)
behind_one x more n e f = not_here x more e ∙ ap (option_map (λ k. 1 + k)) f

-- the last of bytes is the last of those behind the first
last_tail : (x y : ℕ) (ys : List ℕ) → slice_index (x ∷ y ∷ ys) (length (x ∷ y ∷ ys) - 1) ≡ slice_index (y ∷ ys) (length (y ∷ ys) - 1)
last_tail x y ys =
    let e : length (x ∷ y ∷ ys) - 1 ≡ suc (length ys) = omega arith in
    let f : length (y ∷ ys) - 1 ≡ length ys = omega arith in
    ap (slice_index (x ∷ y ∷ ys)) e ∙ ap (slice_index (y ∷ ys)) (sym f)

found_behind : (n rest : List ℕ) → triple_in n ≡ None → 0 < length n → (slice_index n (length n - 1) ≡ 0 → ⊥)
    → triple_in (n ++ 0 ∷ 0 ∷ 0 ∷ rest) ≡ Some (length n)
found_behind [] rest e some last = absurd (omega arith)
found_behind (x ∷ []) rest e some last =
    let no : is_triple (x ∷ 0 ∷ 0 ∷ 0 ∷ rest) ≡ false = grind (arith, nat_tests, last) in
    behind_one x (0 ∷ 0 ∷ 0 ∷ rest) 0 no (codes rest) ∙ ap Some (omega arith)
found_behind (x ∷ y ∷ []) rest e some last =
    let no : is_triple (x ∷ y ∷ 0 ∷ 0 ∷ 0 ∷ rest) ≡ false = grind (arith, nat_tests, last) in
    let h = head_by (is_triple (x ∷ y ∷ [])) x (y ∷ []) refl e in
    behind_one x (y ∷ 0 ∷ 0 ∷ 0 ∷ rest) 1 no (found_behind (y ∷ []) rest h.1 (omega arith) last) ∙ ap Some (omega arith)
found_behind (x ∷ y ∷ z ∷ zs) rest e some last =
    let h = head_by (is_triple (x ∷ y ∷ z ∷ zs)) x (y ∷ z ∷ zs) refl e in
    behind_one x (y ∷ z ∷ (zs ++ 0 ∷ 0 ∷ 0 ∷ rest)) (length (y ∷ z ∷ zs)) h.0 (found_behind (y ∷ z ∷ zs) rest h.1 (omega arith) (λ k. last (last_tail x y (z ∷ zs) ∙ k))) ∙ ap Some (omega arith)

unit_before : (n : List ℕ) (ns : List (List ℕ)) → IsNal n → unit_length (n ++ annexb ns) ≡ length n
unit_before n [] i = unit_all (n ++ []) (ap triple_in (append-nil n) ∙ (nal_parts n i).0) ∙ ap length (append-nil n)
unit_before n (m ∷ ms) i =
    let p = nal_parts n i in
    unit_found (n ++ annexb (m ∷ ms)) (length n) (found_behind n (1 ∷ (m ++ annexb ms)) p.0 i.some p.1)

behind_is : (n r : List ℕ) → unit_length (n ++ r) ≡ length n → 0 < length n → (slice_index n (length n - 1) ≡ 0 → ⊥) → behind_unit (started n ++ r) ≡ Some r
unfolding behind_unit
behind_is n r e some last =
    let at : slice_index (n ++ r) (length n - 1) ≡ slice_index n (length n - 1) = get_or_append_left n r 0 (length n - 1) (omega arith) in
    let is : is_none (length n) (n ++ r) ≡ false = grind (arith, nat_tests, last) in
    rw (e, is) (ap Some (drop_at n r (length n) refl))

pub stream_written : (units : List (List ℕ)) → AreNals units → is_stream (annexb units) ≡ true
stream_written [] a = fill_ends [] refl
stream_written (n ∷ ns) a =
    let p = nal_parts n a.0 in
    let b = behind_is n (annexb ns) (unit_before n ns a.0) a.0.some p.1 in
    fill_more (started n ++ annexb ns) (annexb ns) (omega arith) b ∙ stream_written ns a.1

-- what `split_annexb` reads of it
pub stream_split : (b : List ℕ) → is_stream b ≡ true → (units : List (List ℕ)) × (split_of b ≡ Ok units)
stream_split b e = let s = stream_read b e in (s.units, again s.units b s.nals s.bytes)

pub split_stream : (b : List ℕ) (units : List (List ℕ)) → AreNals units → split_of b ≡ Ok units → is_stream b ≡ true
split_stream b units a e =
    let P : List ℕ → Type 0 = λ x. is_stream x ≡ true in subst P (sym (found b units e)) (stream_written units a)

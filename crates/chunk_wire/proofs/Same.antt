-- A header is determined by its own bytes, whatever follows them
use Rattle.std.proofs.Common.{◌≡◌, ℕ, ◌+◌, ◌/◌, ◌<◌, ◌≤◌, Bool, true, false, cond, List, ◌++◌, length, drop, slice_index, refl, sym, ap, ◌∙◌, arith}
use Rattle.std.proofs.lemmas.Bool.Decides.{nat_tests}
use Rattle.std.proofs.lemmas.List.{get_or-drop, get_or_append_left}
use Rattle.relay_base.specs.Numbers.{be24_of, be32_of, le32_of}
use Rattle.chunk_wire.specs.declared.headers.Basic.{Basic}
use Rattle.chunk_wire.specs.Layout.{basic_size, id_in, basic_in, format_in, head_in, head_size}
use Rattle.chunk_wire.specs.State.{State}
use Rattle.chunk_wire.specs.Chunk.{is_extended, header_size, value_in, opened, head_fields}
use Rattle.chunk_wire.proofs.Sizes.{basic_size_some}

-- the first n bytes are the same
abbrev pub Same : ℕ → List ℕ → List ℕ → Type 0
Same n a b = (i : ℕ) → i < n → slice_index a i ≡ slice_index b i

pub same_append : (a x : List ℕ) → Same (length a) (a ++ x) a
same_append a x i h = get_or_append_left a x 0 i h

pub same_back : (n : ℕ) (a b : List ℕ) → Same n a b → Same n b a
same_back n a b s i h = sym (s i h)

pub same_less : (m n : ℕ) (a b : List ℕ) → m ≤ n → Same n a b → Same m a b
same_less m n a b le s i h = s i (omega arith)

pub same_drop : (k n m : ℕ) (a b : List ℕ) → k + n ≤ m → Same m a b → Same n (drop k a) (drop k b)
same_drop k n m a b le s i h = get_or-drop k a i 0 ∙ s (k + i) (omega arith) ∙ sym (get_or-drop k b i 0)

pub be24_same : (a b : List ℕ) → Same 3 a b → be24_of a ≡ be24_of b
unfolding be24_of
be24_same a b s =
    let s0 = s 0 (omega arith) in
    let s1 = s 1 (omega arith) in
    let s2 = s 2 (omega arith) in
    omega (arith, s0, s1, s2)

pub be32_same : (a b : List ℕ) → Same 4 a b → be32_of a ≡ be32_of b
unfolding be32_of
be32_same a b s =
    let s0 = s 0 (omega arith) in
    let s1 = s 1 (omega arith) in
    let s2 = s 2 (omega arith) in
    let s3 = s 3 (omega arith) in
    omega (arith, s0, s1, s2, s3)

pub le32_same : (a b : List ℕ) → Same 4 a b → le32_of a ≡ le32_of b
unfolding le32_of
le32_same a b s =
    let s0 = s 0 (omega arith) in
    let s1 = s 1 (omega arith) in
    let s2 = s 2 (omega arith) in
    let s3 = s 3 (omega arith) in
    omega (arith, s0, s1, s2, s3)

pub format_same : (a b : List ℕ) → Same 1 a b → format_in a ≡ format_in b
format_same a b s = ap (λ (x : ℕ). x / 64) (s 0 (omega arith))

pub basic_size_same : (a b : List ℕ) → Same 1 a b → basic_size a ≡ basic_size b
unfolding basic_size
basic_size_same a b s = let s0 = s 0 (omega arith) in rw s0 refl

-- the bytes of the id are among those of the basic header
pub id_same : (a b : List ℕ) → Same (basic_size a) a b → id_in a ≡ id_in b
unfolding basic_size id_in
id_same a b s =
    let some = basic_size_some a in
    let s0 = s 0 some in
    let s1 = s 1 in
    let s2 = s 2 in
    grind (arith, nat_tests, s0, s1, s2)

pub head_same : (basic : Basic) (a b : List ℕ) → Same (head_size basic.format) a b → head_in basic a ≡ head_in basic b
unfolding head_in head_size
head_same basic a b s =
    let n = head_size basic.format in
    let t : 3 ≤ n → be24_of a ≡ be24_of b = λ h. be24_same a b (same_less 3 n a b h s) in
    let l : 6 ≤ n → be24_of (drop 3 a) ≡ be24_of (drop 3 b) = λ h. be24_same (drop 3 a) (drop 3 b) (same_drop 3 3 n a b h s) in
    let k : 7 ≤ n → slice_index a 6 ≡ slice_index b 6 = λ h. s 6 (omega arith) in
    let z : 11 ≤ n → le32_of (drop 7 a) ≡ le32_of (drop 7 b) = λ h. le32_same (drop 7 a) (drop 7 b) (same_drop 7 4 n a b h s) in
    grind (arith, nat_tests, t, l, k, z)

-- two choices with the same test
pick_same : (x y : Bool) (u v p q : ℕ) → x ≡ y → (x ≡ true → u ≡ v) → p ≡ q → cond x u p ≡ cond y v q
pick_same true y u v p q e f g = rw (← e) (f refl)
pick_same false y u v p q e f g = rw (← e) g

-- what a header of n bytes at most says
pub record HeaderSame (s : State) (a b : List ℕ) : Type 0 where
  pub basic : basic_size a ≡ basic_size b
  pub format : format_in a ≡ format_in b
  pub id : id_in a ≡ id_in b
  pub size : header_size s a ≡ header_size s b
  pub opened_same : opened s a ≡ opened s b

pub size_parts : (s : State) (a : List ℕ) → header_size s a ≡ basic_size a + head_size (format_in a) + cond (is_extended s a) 4 0
unfolding header_size
size_parts s a = refl

value_parts : (s : State) (a : List ℕ) → value_in s a ≡ cond (is_extended s a) (be32_of (drop (basic_size a + head_size (format_in a)) a)) ((head_fields a).field)
unfolding value_in
value_parts s a = refl

extended_same : (s : State) (a b : List ℕ) → format_in a ≡ format_in b → id_in a ≡ id_in b → head_fields a ≡ head_fields b → is_extended s a ≡ is_extended s b
unfolding is_extended
extended_same s a b f i h = rw (h, f, i) refl

opened_by : (s : State) (a b : List ℕ) → format_in a ≡ format_in b → id_in a ≡ id_in b → head_fields a ≡ head_fields b → is_extended s a ≡ is_extended s b → value_in s a ≡ value_in s b → opened s a ≡ opened s b
unfolding opened
opened_by s a b f i h e v = rw (h, f, i, e, v) refl

head_fields_same : (n : ℕ) (a b : List ℕ) → Same n a b → basic_size a + head_size (format_in a) ≤ n → basic_size a ≡ basic_size b → format_in a ≡ format_in b → id_in a ≡ id_in b → head_fields a ≡ head_fields b
head_fields_same n a b s le z f i =
    head_same (basic_in a) (drop (basic_size a) a) (drop (basic_size a) b) (same_drop (basic_size a) (head_size (format_in a)) n a b le s)
    ∙ (rw (z, f, i) refl)

value_same : (s : State) (n : ℕ) (a b : List ℕ) → Same n a b → header_size s a ≤ n → basic_size a ≡ basic_size b → format_in a ≡ format_in b → is_extended s a ≡ is_extended s b → head_fields a ≡ head_fields b → value_in s a ≡ value_in s b
value_same s n a b same le z f e h =
    let k = basic_size a + head_size (format_in a) in
    let far : is_extended s a ≡ true → k + 4 ≤ n = λ t. (let w = rw t at (size_parts s a) in omega (arith, w)) in
    let number : is_extended s a ≡ true → be32_of (drop k a) ≡ be32_of (drop k b) = λ t. be32_same (drop k a) (drop k b) (same_drop k 4 n a b (far t) same) in
    let there : k ≡ basic_size b + head_size (format_in b) = rw (z, f) refl in
    value_parts s a
    ∙ pick_same (is_extended s a) (is_extended s b) (be32_of (drop k a)) (be32_of (drop (basic_size b + head_size (format_in b)) b)) ((head_fields a).field) ((head_fields b).field) e (λ t. number t ∙ ap (λ (j : ℕ). be32_of (drop j b)) there) (ap (λ x. x.field) h)
    ∙ sym (value_parts s b)

pub header_same : (s : State) (n : ℕ) (a b : List ℕ) → Same n a b → header_size s a ≤ n → HeaderSame s a b
header_same s n a b same le =
    let parts = size_parts s a in
    let some = basic_size_some a in
    let first : Same 1 a b = same_less 1 n a b (omega arith) same in
    let z = basic_size_same a b first in
    let f = format_same a b first in
    let i = id_same a b (same_less (basic_size a) n a b (omega arith) same) in
    let h = head_fields_same n a b same (omega arith) z f i in
    let e = extended_same s a b f i h in
    let v = value_same s n a b same le z f e h in
    record {
      basic = z;
      format = f;
      id = i;
      size = size_parts s a ∙ (rw (z, f, e) refl) ∙ sym (size_parts s b);
      opened_same = opened_by s a b f i h e v;
    }

-- a header is no shorter than its basic header
pub basic_in_header : (s : State) (a : List ℕ) → basic_size a ≤ header_size s a
basic_in_header s a = let parts = size_parts s a in omega arith

-- What the bytes of a tag mean is the same with more bytes after them
use Rattle.std.proofs.Common.{◌≡◌, ℕ, ◌+◌, ◌-◌, ◌<◌, ◌≤◌, List, ◌++◌, length, take, drop, slice_index, refl, sym, ap, ◌∙◌, arith}
use Rattle.std.proofs.Common.{append_assoc, length-append}
use Rattle.std.proofs.lemmas.List.{get_or-drop, get_or_append_left, take_at, drop_at}
use Rattle.relay_base.specs.Numbers.{be24_of, be32_of}
use Rattle.flv_tags.specs.Layout.{kind_in, size_in, time_in, back_in, tag_size, tag_in}

-- the first n bytes are the same
abbrev pub Same : ℕ → List ℕ → List ℕ → Type 0
Same n a b = (i : ℕ) → i < n → slice_index a i ≡ slice_index b i

same_more : (r x : List ℕ) → Same (length r) (r ++ x) r
same_more r x i h = get_or_append_left r x 0 i h

same_drop : (k n m : ℕ) (a b : List ℕ) → k + n ≤ m → Same m a b → Same n (drop k a) (drop k b)
same_drop k n m a b le s i h = get_or-drop k a i 0 ∙ s (k + i) (omega arith) ∙ sym (get_or-drop k b i 0)

be24_same : (a b : List ℕ) → Same 3 a b → be24_of a ≡ be24_of b
unfolding be24_of
be24_same a b s =
    let s0 = s 0 (omega arith) in
    let s1 = s 1 (omega arith) in
    let s2 = s 2 (omega arith) in
    omega (arith, s0, s1, s2)

pub be32_same : (a b : List ℕ) → Same 4 a b → be32_of a ≡ be32_of b
unfolding be32_of
be32_same a b s =
    let s0 = s 0 (omega arith) in
    let s1 = s 1 (omega arith) in
    let s2 = s 2 (omega arith) in
    let s3 = s 3 (omega arith) in
    omega (arith, s0, s1, s2, s3)

pub kind_more : (r x : List ℕ) → 0 < length r → kind_in (r ++ x) ≡ kind_in r
kind_more r x h = same_more r x 0 h

pub size_more : (r x : List ℕ) → 4 ≤ length r → size_in (r ++ x) ≡ size_in r
unfolding size_in
size_more r x h = be24_same (drop 1 (r ++ x)) (drop 1 r) (same_drop 1 3 (length r) (r ++ x) r h (same_more r x))

pub time_more : (r x : List ℕ) → 8 ≤ length r → time_in (r ++ x) ≡ time_in r
unfolding time_in
time_more r x h =
    let n = be24_same (drop 4 (r ++ x)) (drop 4 r) (same_drop 4 3 (length r) (r ++ x) r (omega arith) (same_more r x)) in
    let k = same_more r x 7 (omega arith) in
    omega (arith, n, k)

back_by : (n : ℕ) (b : List ℕ) → size_in b ≡ n → back_in b ≡ be32_of (drop (11 + n) b)
unfolding back_in
back_by n b e = rw e refl

pub back_more : (r x : List ℕ) → tag_size r ≤ length r → back_in (r ++ x) ≡ back_in r
back_more r x h =
    let e = size_more r x (omega arith) in
    back_by (size_in r) (r ++ x) e
    ∙ be32_same (drop (11 + size_in r) (r ++ x)) (drop (11 + size_in r) r) (same_drop (11 + size_in r) 4 (length r) (r ++ x) r (omega arith) (same_more r x))
    ∙ sym (back_by (size_in r) r refl)

tag_by : (b : List ℕ) (kind time size : ℕ) → kind_in b ≡ kind → time_in b ≡ time → size_in b ≡ size
    → tag_in b ≡ record { kind = kind; time = time; body = take size (drop 11 b) }
unfolding tag_in
tag_by b kind time size k t s = rw (k, t, s) refl

-- the tag of a header, a body and the number after it
pub parts_tag : (h b k : List ℕ) → length h ≡ 11 → length b ≡ size_in h → tag_in (h ++ (b ++ k)) ≡ record { kind = kind_in h; time = time_in h; body = b }
parts_tag h b k eleven all =
    let body : take (size_in h) (drop 11 (h ++ (b ++ k))) ≡ b =
    ap (take (size_in h)) (drop_at h (b ++ k) 11 eleven) ∙ take_at b k (size_in h) all in
    tag_by (h ++ (b ++ k)) (kind_in h) (time_in h) (size_in h) (kind_more h (b ++ k) (omega arith)) (time_more h (b ++ k) (omega arith))
    (size_more h (b ++ k) (omega arith))
    ∙ ap (λ (t : List ℕ). record { kind = kind_in h; time = time_in h; body = t }) body

-- that number
pub parts_back : (h b k : List ℕ) → length h ≡ 11 → length b ≡ size_in h → back_in (h ++ (b ++ k)) ≡ be32_of k
parts_back h b k eleven all =
    let e : drop (11 + size_in h) ((h ++ b) ++ k) ≡ k = drop_at (h ++ b) k (11 + size_in h) (omega (arith, length-append h b)) in
    back_by (size_in h) (h ++ (b ++ k)) (size_more h (b ++ k) (omega arith))
    ∙ ap (λ (t : List ℕ). be32_of (drop (11 + size_in h) t)) (sym (append_assoc h b k))
    ∙ ap be32_of e

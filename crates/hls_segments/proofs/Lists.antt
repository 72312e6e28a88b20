-- The text of a playlist
use Rattle.std.proofs.Common.{◌≡◌, ◌≤◌, ℕ, ◌+◌, List, [], ◌∷◌, ◌++◌, length, sym, ap, ◌∙◌, arith, append_assoc}
use Rattle.std.specs.Prelude.{codes, max}
use Rattle.hls_segments.specs.Playlist.{entries, entry, head, target, text_of}

entries_at : (name : List ℕ) (n m : ℕ) (list : List ℕ) → n ≡ m → entries name n list ≡ entries name m list
entries_at name n m list e = ap (λ (k : ℕ). entries name k list) e

pub entries_append : (name : List ℕ) (n : ℕ) (xs ys : List ℕ) → entries name n (xs ++ ys) ≡ entries name n xs ++ entries name (n + length xs) ys
entries_append name n [] ys = entries_at name n (n + 0) ys (omega arith)
entries_append name n (x ∷ xs) ys =
    ap (λ (t : List ℕ). entry name n x ++ t) (entries_append name (n + 1) xs ys)
    ∙ sym (append_assoc (entry name n x) (entries name (n + 1) xs) (entries name (n + 1 + length xs) ys))
    ∙ ap (λ (t : List ℕ). (entry name n x ++ entries name (n + 1) xs) ++ t) (entries_at name (n + 1 + length xs) (n + length (x ∷ xs)) ys (omega arith))

pub whole_text : (name closed last : List ℕ) (o t1 t2 t3 t4 : List ℕ) → t1 ≡ o ++ head (target (closed ++ last)) → t2 ≡ t1 ++ entries name 0 closed
    → t3 ≡ t2 ++ entries name (length closed) last → t4 ≡ t3 ++ codes "#EXT-X-ENDLIST\n" → t4 ≡ o ++ text_of name (closed ++ last)
whole_text name closed last o t1 t2 t3 t4 e1 e2 e3 e4 =
    let end : List ℕ = codes "#EXT-X-ENDLIST\n" in
    let h : List ℕ = head (target (closed ++ last)) in
    let a : List ℕ = entries name 0 closed in
    let b : List ℕ = entries name (length closed) last in
    let both : a ++ b ≡ entries name 0 (closed ++ last) =
    ap (λ (t : List ℕ). a ++ t) (entries_at name (length closed) (0 + length closed) last (omega arith)) ∙ sym (entries_append name 0 closed last) in
    e4 ∙ ap (λ (t : List ℕ). t ++ end) (e3 ∙ ap (λ (t : List ℕ). t ++ b) (e2 ∙ ap (λ (t : List ℕ). t ++ a) e1))
    ∙ ap (λ (t : List ℕ). t ++ end) (append_assoc (o ++ h) a b ∙ append_assoc o h (a ++ b))
    ∙ append_assoc o (h ++ (a ++ b)) end
    ∙ ap (λ (t : List ℕ). o ++ t) (append_assoc h (a ++ b) end ∙ ap (λ (t : List ℕ). h ++ (t ++ end)) both)

-- the greatest of spans
pub target_most : (list : List ℕ) → 1 ≤ target list
target_most [] = omega arith
target_most (x ∷ more) = let h = target_most more in omega (arith, h)

pub target_append : (xs ys : List ℕ) → target (xs ++ ys) ≡ max (target ys) (target xs)
target_append [] ys = let h = target_most ys in omega (arith, h)
target_append (x ∷ xs) ys = let h = target_append xs ys in omega (arith, h)

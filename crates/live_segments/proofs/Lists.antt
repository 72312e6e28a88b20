-- The numbers of a playlist
use Rattle.std.proofs.Common.{◌≡◌, ◌≤◌, ℕ, zero, suc, ◌+◌, Bool, List, [], ◌∷◌, ◌++◌, length, drop, refl, sym, ap, ◌∙◌, arith}
use Rattle.std.proofs.Common.{append_assoc}
use Rattle.std.proofs.lemmas.List.{length-reverse}
use Rattle.std.specs.Prelude.{take}
use Rattle.hls_segments.specs.Laws.{Each}
use Rattle.hls_segments.specs.Playlist.{entry, rounded}
use Rattle.live_segments.specs.declared.cutter.Row.{Row}
use Rattle.live_segments.specs.Laws.{CoversAll, IsBounded, NeverBack}
use Rattle.live_segments.specs.Listing.{head, last_line, lines, longest, mark_line, marks, text_of}

within : (target most : ℕ) (rows : List Row) → longest target rows ≤ most → Each (λ r. rounded r.span ≤ most) rows
within target most [] h = tt
within target most (r ∷ earlier) h =
    let first : rounded r.span ≤ longest target (r ∷ earlier) = omega arith in
    let rest : longest target earlier ≤ longest target (r ∷ earlier) = omega arith in
    (omega (arith, first, h), within target most earlier (omega (arith, rest, h)))

pub covers_all : (target : ℕ) (rows : List Row) → CoversAll target rows
covers_all target rows = within target (longest target rows) rows (omega arith)

-- one row more leaves at most one row more behind
len_goes : (keep : ℕ) (r : Row) (rows : List Row) → length (drop keep rows) ≤ length (drop keep (r ∷ rows))
len_goes zero r rows = omega arith
len_goes (suc k) r [] = omega arith
len_goes (suc k) r (s ∷ rows) = len_goes k s rows

marks_go : (keep : ℕ) (r : Row) (rows : List Row) → marks (drop keep rows) ≤ marks (drop keep (r ∷ rows))
marks_go zero r rows = omega arith
marks_go (suc k) r [] = omega arith
marks_go (suc k) r (s ∷ rows) = marks_go k s rows

pub go_on : (target keep : ℕ) (r : Row) (rows : List Row) → NeverBack target keep rows (r ∷ rows)
go_on target keep r rows = record { sequence = len_goes keep r rows; marks_gone = marks_go keep r rows; target_duration = omega arith }

take_drop : (keep : ℕ) (rows : List Row) → length (drop keep rows) + length (take keep rows) ≡ length rows
take_drop zero rows = omega arith
take_drop (suc k) [] = refl
take_drop (suc k) (r ∷ rows) = let h = take_drop k rows in omega (arith, h)

take_few : (keep : ℕ) (rows : List Row) → length (take keep rows) ≤ keep
take_few zero rows = omega arith
take_few (suc k) [] = omega arith
take_few (suc k) (r ∷ rows) = let h = take_few k rows in omega (arith, h)

pub bounded : (keep : ℕ) (rows : List Row) → IsBounded keep rows
bounded keep rows =
    let n = length-reverse (take keep rows) in
    let few = take_few keep rows in
    let all = take_drop keep rows in
    record { few = omega (arith, n, few); all = omega (arith, n, all) }

-- ---- the text

lines_at : (name : List ℕ) (n m : ℕ) (rows : List Row) → n ≡ m → lines name n rows ≡ lines name m rows
lines_at name n m rows e = ap (λ (k : ℕ). lines name k rows) e

pub lines_append : (name : List ℕ) (n : ℕ) (xs ys : List Row) → lines name n (xs ++ ys) ≡ lines name n xs ++ lines name (n + length xs) ys
lines_append name n [] ys = lines_at name n (n + 0) ys (omega arith)
lines_append name n (x ∷ xs) ys =
    let one : List ℕ = mark_line x.marked ++ entry name n x.span in
    ap (λ (t : List ℕ). one ++ t) (lines_append name (n + 1) xs ys)
    ∙ sym (append_assoc one (lines name (n + 1) xs) (lines name (n + 1 + length xs) ys))
    ∙ ap (λ (t : List ℕ). (one ++ lines name (n + 1) xs) ++ t) (lines_at name (n + 1 + length xs) (n + length (x ∷ xs)) ys (omega arith))

pub whole_text : (name : List ℕ) (most first gone : ℕ) (rows last : List Row) (ended : Bool) (o t1 t2 t3 t4 : List ℕ) → t1 ≡ o ++ head most first gone → t2 ≡ t1 ++ lines name first rows
    → t3 ≡ t2 ++ lines name (first + length rows) last → t4 ≡ t3 ++ last_line ended → t4 ≡ o ++ text_of name most first gone (rows ++ last) ended
whole_text name most first gone rows last ended o t1 t2 t3 t4 e1 e2 e3 e4 =
    let end : List ℕ = last_line ended in
    let h : List ℕ = head most first gone in
    let a : List ℕ = lines name first rows in
    let b : List ℕ = lines name (first + length rows) last in
    let both : a ++ b ≡ lines name first (rows ++ last) = sym (lines_append name first rows last) in
    e4 ∙ ap (λ (t : List ℕ). t ++ end) (e3 ∙ ap (λ (t : List ℕ). t ++ b) (e2 ∙ ap (λ (t : List ℕ). t ++ a) e1))
    ∙ ap (λ (t : List ℕ). t ++ end) (append_assoc (o ++ h) a b ∙ append_assoc o h (a ++ b))
    ∙ append_assoc o (h ++ (a ++ b)) end
    ∙ ap (λ (t : List ℕ). o ++ t) (append_assoc h (a ++ b) end ∙ ap (λ (t : List ℕ). h ++ (t ++ end)) both)

-- What is written of a text.
use Rattle.std.proofs.Common.{◌≡◌, ℕ, ◌-◌, ◌≤◌, List, [], ◌++◌, Option, None, Some, length, take, drop, refl, ap, sym, ◌∙◌, append_assoc, arith}
use Rattle.std.proofs.lemmas.List.{take-append-drop, append-nil, take_all, length-drop}
use Rattle.std.specs.Io.KnownBytes.{append_known}
use Rattle.put_text.specs.Written.{Writes, WritesPart}

pub append_known_nil : (known : Option (List ℕ)) → append_known known [] ≡ known
append_known_nil None = refl
append_known_nil (Some xs) = ap Some (append-nil xs)

pub append_known_twice : (known : Option (List ℕ)) (xs ys : List ℕ) → append_known (append_known known xs) ys ≡ append_known known (xs ++ ys)
append_known_twice None xs ys = refl
append_known_twice (Some zs) xs ys = ap Some (append_assoc zs xs ys)

pub nothing_written : (text : List ℕ) (before : Option (List ℕ)) → Writes text text before before
nothing_written text before = record { wrote = []; parts = refl; grown = sym (append_known_nil before) }

pub no_part_written : (text : List ℕ) (before : Option (List ℕ)) → WritesPart text before before
no_part_written text before = (text, nothing_written text before)

pub wrote_all : (text : List ℕ) (before now : Option (List ℕ)) → Writes text [] before now → now ≡ append_known before text
wrote_all text before now w = w.grown ∙ ap (append_known before) (sym (append-nil w.wrote) ∙ w.parts)

-- a text's first part and its rest, one written after the other
pub write_then : (text middle left : List ℕ) (before between now : Option (List ℕ)) → Writes text middle before between → Writes middle left between now
    → Writes text left before now
write_then text middle left before between now v w = record {
  wrote = v.wrote ++ w.wrote;
  parts = append_assoc v.wrote w.wrote left ∙ ap (λ (l : List ℕ). v.wrote ++ l) w.parts ∙ v.parts;
  grown = w.grown ∙ ap (λ (k : Option (List ℕ)). append_known k w.wrote) v.grown ∙ append_known_twice before v.wrote w.wrote;
}

pub write_part_then : (text middle : List ℕ) (before between now : Option (List ℕ)) → Writes text middle before between → WritesPart middle between now
    → WritesPart text before now
write_part_then text middle before between now v w = (w.0, write_then text middle w.0 before between now v w.1)

-- all that is pending is written
pub write_rest : (text pending : List ℕ) (before between now : Option (List ℕ)) → Writes text pending before between → now ≡ append_known between pending
    → Writes text [] before now
write_rest text pending before between now v e =
    write_then text pending [] before between now v (record { wrote = pending; parts = append-nil pending; grown = e })

-- the text grows, and what is pending with it
pub write_more : (text pending more text' pending' : List ℕ) (before now : Option (List ℕ)) → Writes text pending before now → text' ≡ text ++ more
    → pending' ≡ pending ++ more → Writes text' pending' before now
write_more text pending more text' pending' before now w t p = record {
  wrote = w.wrote;
  parts = ap (λ (l : List ℕ). w.wrote ++ l) p ∙ sym (append_assoc w.wrote pending more) ∙ ap (λ (l : List ℕ). l ++ more) w.parts ∙ sym t;
  grown = w.grown;
}

-- one put more
pub put_more : (text left : List ℕ) (n : ℕ) (before held now : Option (List ℕ)) → n ≤ length left → Writes text left before held → now
    ≡ append_known held (take n left)
    → Writes text (take (length left - n) (drop n left)) before now
put_more text left n before held now h w e =
    let rest : take (length left - n) (drop n left) ≡ drop n left = take_all (length left - n) (drop n left) (omega (arith, length-drop n left)) in
    write_then text left (take (length left - n) (drop n left)) before held now w
    (record { wrote = take n left; parts = ap (λ (l : List ℕ). take n left ++ l) rest ∙ take-append-drop n left; grown = e })

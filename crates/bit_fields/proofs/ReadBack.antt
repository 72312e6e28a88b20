-- A field is read back from the number of fields
use Rattle.std.proofs.Common.{◌≡◌, ℕ, ◌+◌, ◌*◌, ◌^◌, ◌<◌, ◌≤◌, List, [], ◌∷◌, ◌++◌, ap, ◌∙◌, arith}
use Rattle.std.proofs.lemmas.Nat.{pow-add, div-mul-add, mod-mul-add}
use Rattle.std.proofs.Math.Nat.{mul-le-mul_right}
use Rattle.bit_fields.specs.Fields.{Field, width, number, AllFit, IsReadBack}

width_append : (xs ys : List Field) → width (xs ++ ys) ≡ width xs + width ys
width_append [] ys = omega arith
width_append (x ∷ xs) ys = omega (arith, width_append xs ys)

number_append : (xs ys : List Field) → number (xs ++ ys) ≡ number xs * 2 ^ width ys + number ys
number_append [] ys = omega arith
number_append (x ∷ xs) ys =
    let split : 2 ^ width (xs ++ ys) ≡ 2 ^ width xs * 2 ^ width ys = ap (λ n. 2 ^ n) (width_append xs ys) ∙ pow-add 2 (width xs) (width ys) in
    rw (split, number_append xs ys) (omega arith)

-- the number of fields that fit has no more bits than they
bounded : (fs : List Field) → AllFit fs → number fs < 2 ^ width fs
bounded [] fits = omega arith
bounded (f ∷ fs) fits =
    let rest = bounded fs fits.1 in
    let most : (f.1 + 1) * 2 ^ width fs ≤ 2 ^ f.0 * 2 ^ width fs = mul-le-mul_right (2 ^ width fs) (omega (arith, fits.0)) in
    rw (pow-add 2 f.0 (width fs)) (omega (arith, rest, most))

pub read_back : (before after : List Field) (bits value : ℕ) → IsReadBack before bits value after
read_back before after bits value fits rest =
    let low = bounded after rest in
    let here : number before * 2 ^ (bits + width after) + (value * 2 ^ width after + number after) ≡ (number before * 2 ^ bits + value) * 2 ^ width after + number after =
    rw (pow-add 2 bits (width after)) (omega arith) in
    rw (number_append before ((bits, value) ∷ after), here, div-mul-add (number before * 2 ^ bits + value) (2 ^ width after) (number after) low)
    (mod-mul-add (number before) (2 ^ bits) value fits)

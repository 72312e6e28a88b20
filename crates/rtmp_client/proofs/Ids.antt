-- The message stream id that a number is
use Rattle.std.proofs.Common.{◌≡◌, ℕ, ◌+◌, ◌-◌, ◌/◌, ◌%◌, ◌^◌, ◌<◌, ◌≤◌, ◌==◌, nat_lt, Bool, true, false, ◌&&◌, if◌then◌else◌, Option, Some, None, refl, sym, ap, ◌∙◌, arith}
use Rattle.std.proofs.Math.Nat.{pow-le-pow_right}
use Rattle.std.proofs.lemmas.Nat.{div_below, pow_pos}
use Rattle.amf0_value.specs.Pattern.{pattern}
use Rattle.client_owed.specs.Client.{whole}
use Rattle.rtmp_client.specs.Known.{id_in}

abbrev pick : Bool → ℕ → Option ℕ
pick b w = if b then Some w else None

no_id : (b : Bool) → pick (b && (nat_lt 0 0 && nat_lt 0 (2 ^ 32))) 0 ≡ None
no_id true = refl
no_id false = refl

small : (e bits : ℕ) → e < 1023 → (2 ^ 52 + bits % 2 ^ 52) / 2 ^ (1075 - e) ≡ 0
small e bits le =
    let g : 53 ≤ 1075 - e = omega (arith, le) in
    let k : 2 ^ 53 ≤ 2 ^ (1075 - e) = pow-le-pow_right (omega arith) g in
    let d : (2 ^ 52 + bits % 2 ^ 52) / 2 ^ (1075 - e) < 1 = div_below (2 ^ 52 + bits % 2 ^ 52) (2 ^ (1075 - e)) 1 (pow_pos (1075 - e)) (omega (arith, k)) in
    omega (arith, d)

pub low_none : (bits : ℕ) → bits / 2 ^ 52 < 1023 → None ≡ id_in bits
low_none bits le =
    let z : whole bits ≡ 0 = small (bits / 2 ^ 52) bits le in
    sym (ap (λ (w : ℕ). pick ((pattern w == bits) && (nat_lt 0 w && nat_lt w (2 ^ 32))) w) z ∙ no_id (pattern 0 == bits))

-- No bytes at all may become a request: 'G / HTTP/1.0' and two line ends are one
use Rattle.std.proofs.Common.{◌≡◌, inl, ℕ, [], ◌∷◌, ◌++◌, length, length-append, refl, ap, arith, zero, suc, rules, IsTrue}
use Rattle.std.specs.List.{All}
use Rattle.std.specs.Str.{IsAscii}
use Rattle.std.proofs.lemmas.Str.{IsUtf8-from_ascii}
use Rattle.httparse.specs.Ascii.{space}
use Rattle.httparse.specs.Grammar.{HasNoRequest, IsRequestHead, MayBecomeRequest, RequestHead, is_token_byte, is_uri_byte, lf, print_blank, print_end, print_request, print_section, print_version}
use Rattle.httparse.proofs.OnLiterals.{httparse_on_literals}
use Rattle.http_request.specs.Heads.{IsUnfinished}

-- G /
abbrev least : RequestHead
least = record { blank = []; method = 71 ∷ []; target = 47 ∷ []; minor = 0; line_end = lf; fields = []; last = lf }

one : (P : ℕ → Type 0) (x : ℕ) → P x → All P (x ∷ [])
one P x p zero d h = p
one P x p (suc k) d h = let none : ⊥ = omega (arith, h) in absurd none

slash_ascii : IsAscii (47 ∷ [])
slash_ascii zero = omega arith
slash_ascii (suc k) = omega arith

least_is : IsRequestHead least
unfolding httparse_on_literals
least_is = record {
  method = (omega arith, one (λ b. IsTrue (is_token_byte b)) 71 refl);
  target = (omega arith, one (λ b. IsTrue (is_uri_byte b)) 47 refl);
  target_text = IsUtf8-from_ascii (47 ∷ []) slash_ascii;
  minor = omega arith;
  fields = search rules;
}

none : HasNoRequest []
unfolding print_request
none h rest r =
    let a = print_blank h.blank ++ h.method in
    let b = a ++ (space ∷ h.target) in
    let c = b ++ (space ∷ print_version h.minor) in
    let d = c ++ print_end h.line_end in
    let e = d ++ print_section h.fields h.last in
    let same : 0 ≡ length (e ++ rest) = ap length r.1 in
    omega (arith, same, length-append e rest, length-append d (print_section h.fields h.last), length-append c (print_end h.line_end), length-append b (space ∷ print_version h.minor), length-append a (space ∷ h.target))

may : MayBecomeRequest []
unfolding print_request
may = inl (print_request least, least, (least_is, refl))

pub nothing_unfinished : IsUnfinished []
nothing_unfinished = record { short = omega arith; none = none; may = may }

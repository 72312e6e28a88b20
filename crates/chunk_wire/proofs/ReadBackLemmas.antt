-- A header that was written is read back, and its id is in the shortest form
use Rattle.std.proofs.Common.{◌≡◌, ℕ, ◌/◌, ◌<◌, ◌≤◌, true, false, nat_le, List, ◌++◌, length, length-append, slice_index, Option, Some, None, refl, sym, ap, ◌∙◌, arith, append_assoc}
use Rattle.std.proofs.lemmas.Bool.{cases_lt, le-leb}
use Rattle.std.proofs.lemmas.List.{drop_at}
use Rattle.std.proofs.Common.{inl, inr}
use Rattle.std.proofs.lemmas.Bool.Decides.{nat_tests}
use Rattle.relay_base.proofs.ReadBack.{be24_of-bytes, le32_of-bytes}
use Rattle.chunk_wire.specs.declared.headers.Basic.{Basic}
use Rattle.chunk_wire.specs.declared.headers.Head.{Head}
use Rattle.chunk_wire.specs.Layout.{basic_of, basic_size, id_in, head_of, head_in, head_size}
use Rattle.chunk_wire.specs.Written.{basic_bytes, field_bytes, head_bytes}
use Rattle.chunk_wire.specs.ReadBack.{IsHead, ReadsBack, IsShortest, shown, basic_part}

basic_size_back : (format id : ℕ) (rest : List ℕ) → format < 4 → 2 ≤ id → id ≤ 65599 → basic_size (basic_bytes format id ++ rest) ≡ length (basic_bytes format id)
unfolding basic_size basic_bytes
basic_size_back format id rest f low high = grind (arith, nat_tests)

id_back : (format id : ℕ) (rest : List ℕ) → format < 4 → 2 ≤ id → id ≤ 65599 → id_in (basic_bytes format id ++ rest) ≡ id
unfolding id_in basic_bytes
id_back format id rest f low high = grind (arith, nat_tests)

format_back : (format id : ℕ) (rest : List ℕ) → format < 4 → 2 ≤ id → id ≤ 65599 → slice_index (basic_bytes format id ++ rest) 0 / 64 ≡ format
unfolding basic_bytes
format_back format id rest f low high = grind (arith, nat_tests)

basic_of_some : (b : List ℕ) (format id n : ℕ) → basic_size b ≡ n → n ≤ length b → slice_index b 0 / 64 ≡ format → id_in b ≡ id → basic_of b ≡ Some (record { format = format; id = id }, n)
basic_of_some b format id n e h f i = let t : nat_le n (length b) ≡ true = le-leb n (length b) h in rw (e, f, i, t) refl

head_of_some : (basic : Basic) (b : List ℕ) (h : Head) (n : ℕ) → head_size basic.format ≡ n → n ≤ length b → head_in basic b ≡ h → head_of basic b ≡ Some (h, n)
head_of_some basic b h n e le f = let t : nat_le n (length b) ≡ true = le-leb n (length b) le in rw (e, f, t) refl

field_size : (h : Head) → h.format < 4 → head_size h.format ≡ length (field_bytes h)
unfolding head_size field_bytes
field_size h f = grind (arith, nat_tests)

fields_back : (h : Head) (rest : List ℕ) → IsHead h → head_in (basic_part h) (field_bytes h ++ rest) ≡ shown h
unfolding head_in field_bytes shown
fields_back h rest fits =
    let t = λ (r : List ℕ). be24_of-bytes h.field r fits.field in
    let l = λ (r : List ℕ). be24_of-bytes h.length r fits.length in
    let s = le32_of-bytes h.stream rest fits.stream in
    grind (arith, nat_tests, t, l, s)

pub reads_back : (h : Head) (rest : List ℕ) → IsHead h → ReadsBack h rest
reads_back h rest fits =
    let split : head_bytes h ++ rest ≡ basic_bytes h.format h.id ++ (field_bytes h ++ rest) = append_assoc (basic_bytes h.format h.id) (field_bytes h) rest in
    let more = field_bytes h ++ rest in
    record {
      basic = rw split (basic_of_some (basic_bytes h.format h.id ++ more) h.format h.id (length (basic_bytes h.format h.id))
          (basic_size_back h.format h.id more fits.format fits.id_low fits.id_high)
          (omega (arith, length-append (basic_bytes h.format h.id) more))
          (format_back h.format h.id more fits.format fits.id_low fits.id_high)
          (id_back h.format h.id more fits.format fits.id_low fits.id_high));
      fields = rw (split, drop_at (basic_bytes h.format h.id) more (length (basic_bytes h.format h.id)) refl)
          (head_of_some (basic_part h) more (shown h) (length (field_bytes h)) (field_size h fits.format) (omega (arith, length-append (field_bytes h) rest)) (fields_back h rest fits));
    }

sizes : (b : List ℕ) → ((i : ℕ) → slice_index b i < 256) → length (basic_bytes (slice_index b 0 / 64) (id_in b)) ≤ basic_size b
unfolding basic_size basic_bytes id_in
sizes b bytes =
    let b1 = bytes 1 in
    grind (arith, nat_tests)

-- the parts of what was read
abbrev format_of : Option (Basic × ℕ) → ℕ
format_of None = 0
format_of (Some p) = p.0.format

abbrev id_of : Option (Basic × ℕ) → ℕ
id_of None = 0
id_of (Some p) = p.0.id

abbrev size_of : Option (Basic × ℕ) → ℕ
size_of None = 0
size_of (Some p) = p.1

pub shortest : (format id : ℕ) → IsShortest format id
shortest format id b n bytes e =
    elim (cases_lt (length b) (basic_size b)) [
      | inl short ↦
          let t : nat_le (basic_size b) (length b) ≡ false = grind (arith, nat_tests) in
          let none : basic_of b ≡ None = rw t refl in
          absurd (cc)
      | inr long ↦
          let t : nat_le (basic_size b) (length b) ≡ true = le-leb (basic_size b) (length b) long in
          let some : basic_of b ≡ Some (record { format = slice_index b 0 / 64; id = id_in b }, basic_size b) = rw t refl in
          let same = sym some ∙ e in
          rw (← ap format_of same, ← ap id_of same, ← ap size_of same) (sizes b bytes)
    ]

-- What comes to the part of a tag
use Rattle.std.proofs.Common.{◌≡◌, ◌≢◌, ℕ, ◌+◌, ◌<◌, ◌≤◌, true, List, [], ◌∷◌, ◌++◌, length}
use Rattle.std.proofs.Common.{sym, ap, ◌∙◌, subst, arith, append_assoc, append-nil, length-append}
use Rattle.relay_base.specs.Numbers.{be32_of}
use Rattle.flv_tags.specs.declared.tag.Tag.{Tag}
use Rattle.flv_tags.specs.declared.part.Part.{Part}
use Rattle.flv_tags.specs.Layout.{is_kind, kind_in, most_bytes, size_in, time_in, back_in, tag_in}
use Rattle.flv_tags.specs.Reads.{IsOpen}
use Rattle.flv_tags.specs.Stops.{BadCount}
use Rattle.flv_tags.specs.Sound.{IsPart, part_bytes}
use Rattle.flv_tags.specs.Steps.{Completes, Grows}
use Rattle.flv_tags.proofs.More.{kind_more, size_more, parts_back, parts_tag}
use Rattle.flv_tags.proofs.Reading.{open_head, open_more, tag_last}

all_head : (h b k : List ℕ) → length b ≡ 0 → length k ≡ 0 → h ++ (b ++ k) ≡ h
all_head h [] [] b k = append-nil h
all_head h [] (x ∷ k) b c = absurd (omega arith)
all_head h (x ∷ b) k c d = absurd (omega arith)

-- while its header isn't whole, that is all of it
pub early_bytes : (p : Part) → IsPart p → length p.head.items < 11 → part_bytes p ≡ p.head.items
early_bytes p i h = all_head p.head.items p.body p.back.items (i.body_late h) (i.back_late h)

-- the type is one that is read, once it is there
pub head_kind : (p : Part) → IsPart p → length p.head.items < 11 → 0 < length p.head.items → is_kind (kind_in p.head.items) ≡ true
head_kind p i early some =
    let P : List ℕ → Type 0 = λ r. 0 < length r → is_kind (kind_in r) ≡ true in
    subst P (early_bytes p i early) i.rest.admitted.kind some

-- a byte of the header
pub head_grows : (old new : Part) (byte : ℕ) → IsPart old → length old.head.items < 11
    → new.head.items ≡ old.head.items ++ byte ∷ [] → new.body ≡ old.body → new.back.items ≡ old.back.items
    → (length new.head.items ≡ 1 → is_kind (kind_in new.head.items) ≡ true)
    → (length new.head.items ≡ 4 → size_in new.head.items ≤ most_bytes)
    → Grows old (byte ∷ []) new
head_grows old new byte i early head body back one four =
    let n : length new.head.items ≡ length old.head.items + 1 = ap length head ∙ length-append old.head.items (byte ∷ []) in
    let no_body : length new.body ≡ 0 = ap length body ∙ i.body_late early in
    let no_back : length new.back.items ≡ 0 = ap length back ∙ i.back_late early in
    let now : part_bytes new ≡ new.head.items = all_head new.head.items new.body new.back.items no_body no_back in
    let before = early_bytes old i early in
    let P : List ℕ → Type 0 = λ h. (length h ≡ 1 → is_kind (kind_in h) ≡ true) × (length h ≡ 4 → size_in h ≤ most_bytes) in
    let checks = subst P head (one, four) in
    let open_old = subst IsOpen before i.rest in
    let open_new : IsOpen (old.head.items ++ byte ∷ []) = open_head old.head.items byte open_old early checks.0 checks.1 in
    record {
      is_part = record {
        head_most = omega arith;
        body_most = omega arith;
        body_late = λ _. no_body;
        back_late = λ _. no_back;
        back_last = λ _. no_back;
        rest = subst IsOpen (sym (now ∙ head)) open_new;
      };
      bytes = now ∙ head ∙ ap (λ (t : List ℕ). t ++ byte ∷ []) (sym before);
    }

into_body : (h b k x : List ℕ) → length k ≡ 0 → h ++ ((b ++ x) ++ k) ≡ (h ++ (b ++ k)) ++ x
into_body h b [] x e = ap (λ (t : List ℕ). h ++ t) (append-nil (b ++ x)) ∙ sym (append_assoc h b x) ∙ ap (λ (t : List ℕ). (h ++ t) ++ x) (sym (append-nil b))
into_body h b (y ∷ k) x e = absurd (omega arith)

into_back : (h b k x : List ℕ) → h ++ (b ++ (k ++ x)) ≡ (h ++ (b ++ k)) ++ x
into_back h b k x = ap (λ (t : List ℕ). h ++ t) (sym (append_assoc b k x)) ∙ sym (append_assoc h (b ++ k) x)

-- what the part's bytes say of the header that is whole
pub whole_size : (p : Part) → length p.head.items ≡ 11 → size_in (part_bytes p) ≡ size_in p.head.items
whole_size p eleven = size_more p.head.items (p.body ++ p.back.items) (omega arith)

pub part_length : (p : Part) → length (part_bytes p) ≡ length p.head.items + (length p.body + length p.back.items)
part_length p = length-append p.head.items (p.body ++ p.back.items) ∙ ap (λ (n : ℕ). length p.head.items + n) (length-append p.body p.back.items)

-- bytes of the body
pub body_grows : (old new : Part) (x : List ℕ) → IsPart old → length old.head.items ≡ 11
    → new.head.items ≡ old.head.items → new.body ≡ old.body ++ x → new.back.items ≡ old.back.items
    → length old.body + length x ≤ size_in old.head.items → 0 < length x
    → Grows old x new
body_grows old new x i eleven head body back within some =
    let no_back : length old.back.items ≡ 0 = i.back_last (omega arith) in
    let n : length new.body ≡ length old.body + length x = ap length body ∙ length-append old.body x in
    let eleven_now : length new.head.items ≡ 11 = ap length head ∙ eleven in
    let size_now : size_in new.head.items ≡ size_in old.head.items = ap size_in head in
    let no_back_now : length new.back.items ≡ 0 = ap length back ∙ no_back in
    let bytes : part_bytes new ≡ part_bytes old ++ x =
    ap (λ (t : List ℕ). t ++ (new.body ++ new.back.items)) head
    ∙ ap (λ (t : List ℕ). old.head.items ++ (t ++ new.back.items)) body
    ∙ ap (λ (t : List ℕ). old.head.items ++ ((old.body ++ x) ++ t)) back
    ∙ into_body old.head.items old.body old.back.items x no_back in
    let s = whole_size old eleven in
    let l = part_length old in
    let m = length-append (part_bytes old) x in
    let open_new : IsOpen (part_bytes old ++ x) = open_more (part_bytes old) x i.rest (omega arith) (omega arith) in
    record {
      is_part = record {
        head_most = omega arith;
        body_most = omega arith;
        body_late = λ h. absurd (omega arith);
        back_late = λ h. absurd (omega arith);
        back_last = λ _. no_back_now;
        rest = subst IsOpen (sym bytes) open_new;
      };
      bytes = bytes;
    }

-- a byte of the number after the body
pub back_grows : (old new : Part) (byte : ℕ) → IsPart old → length old.head.items ≡ 11 → length old.body ≡ size_in old.head.items
    → new.head.items ≡ old.head.items → new.body ≡ old.body → new.back.items ≡ old.back.items ++ byte ∷ []
    → length new.back.items < 4
    → Grows old (byte ∷ []) new
back_grows old new byte i eleven all head body back less =
    let n : length new.back.items ≡ length old.back.items + 1 = ap length back ∙ length-append old.back.items (byte ∷ []) in
    let eleven_now : length new.head.items ≡ 11 = ap length head ∙ eleven in
    let size_now : size_in new.head.items ≡ size_in old.head.items = ap size_in head in
    let all_now : length new.body ≡ length old.body = ap length body in
    let bytes : part_bytes new ≡ part_bytes old ++ byte ∷ [] =
    ap (λ (t : List ℕ). t ++ (new.body ++ new.back.items)) head
    ∙ ap (λ (t : List ℕ). old.head.items ++ (t ++ new.back.items)) body
    ∙ ap (λ (t : List ℕ). old.head.items ++ (old.body ++ t)) back
    ∙ into_back old.head.items old.body old.back.items (byte ∷ []) in
    let s = whole_size old eleven in
    let l = part_length old in
    let m = length-append (part_bytes old) (byte ∷ []) in
    let open_new : IsOpen (part_bytes old ++ byte ∷ []) = open_more (part_bytes old) (byte ∷ []) i.rest (omega arith) (omega arith) in
    record {
      is_part = record {
        head_most = omega arith;
        body_most = omega arith;
        body_late = λ h. absurd (omega arith);
        back_late = λ h. absurd (omega arith);
        back_last = λ h. absurd (omega arith);
        rest = subst IsOpen (sym bytes) open_new;
      };
      bytes = bytes;
    }

-- the bytes of a whole tag, of which the last has come
pub record Whole (old : Part) (byte : ℕ) (back : List ℕ) : Type 0 where
  pub size : size_in (part_bytes old ++ byte ∷ []) ≡ size_in old.head.items
  pub length_is : length (part_bytes old ++ byte ∷ []) ≡ size_in old.head.items + 15
  pub back_is : back_in (part_bytes old ++ byte ∷ []) ≡ be32_of back
  pub kind : is_kind (kind_in (part_bytes old ++ byte ∷ [])) ≡ true
  pub fits : size_in old.head.items ≤ most_bytes
  pub tag : tag_in (part_bytes old ++ byte ∷ []) ≡ record { kind = kind_in old.head.items; time = time_in old.head.items; body = old.body }

pub whole_tag : (old : Part) (byte : ℕ) (back : List ℕ) → IsPart old → length old.head.items ≡ 11 → length old.body ≡ size_in old.head.items
    → back ≡ old.back.items ++ byte ∷ [] → 4 ≤ length back → Whole old byte back
whole_tag old byte back i eleven all is four =
    let n : length back ≡ length old.back.items + 1 = ap length is ∙ length-append old.back.items (byte ∷ []) in
    let l = part_length old in
    let s = whole_size old eleven in
    let m = length-append (part_bytes old) (byte ∷ []) in
    let short = i.rest.short in
    let bytes : old.head.items ++ (old.body ++ back) ≡ part_bytes old ++ byte ∷ [] =
    ap (λ (t : List ℕ). old.head.items ++ (old.body ++ t)) is ∙ into_back old.head.items old.body old.back.items (byte ∷ []) in
    let fits = i.rest.admitted.fits (omega arith) in
    record {
      size = size_more (part_bytes old) (byte ∷ []) (omega arith) ∙ s;
      length_is = omega arith;
      back_is = ap back_in (sym bytes) ∙ parts_back old.head.items old.body back eleven all;
      kind = ap is_kind (kind_more (part_bytes old) (byte ∷ []) (omega arith)) ∙ i.rest.admitted.kind (omega arith);
      fits = omega arith;
      tag = ap tag_in (sym bytes) ∙ parts_tag old.head.items old.body back eleven all;
    }

pub back_completes : (old new : Part) (byte : ℕ) (back : List ℕ) (t : Tag) → IsPart old → length old.head.items ≡ 11
    → Whole old byte back → be32_of back ≡ size_in old.head.items + 11 → IsPart new → part_bytes new ≡ []
    → t ≡ record { kind = kind_in old.head.items; time = time_in old.head.items; body = old.body }
    → Completes old (byte ∷ []) t new
back_completes old new byte back t i eleven w right part none tag =
    let s = whole_size old eleven in
    let l = part_length old in
    record {
      is_part = part;
      none = none;
      is_tag = tag_last (part_bytes old) (byte ∷ []) i.rest (omega arith) (w.length_is ∙ ap (λ (n : ℕ). n + 15) (sym s)) (w.back_is ∙ right
          ∙ ap (λ (n : ℕ). n + 11) (sym s));
      tag = tag ∙ sym w.tag;
    }

pub back_refused : (old : Part) (byte : ℕ) (back : List ℕ) (stored real : ℕ) → Whole old byte back → stored ≡ be32_of back
    → real ≡ size_in old.head.items + 11 → stored ≢ real
    → (stored ≡ back_in (part_bytes old ++ byte ∷ [])) × (real ≡ size_in (part_bytes old ++ byte ∷ []) + 11) × BadCount (part_bytes old ++ byte ∷ [])
back_refused old byte back stored real w s r ne =
    let a : stored ≡ back_in (part_bytes old ++ byte ∷ []) = s ∙ sym w.back_is in
    let b : real ≡ size_in (part_bytes old ++ byte ∷ []) + 11 = r ∙ ap (λ (n : ℕ). n + 11) (sym w.size) in (
      a,
      b,
      record {
        last = w.length_is ∙ ap (λ (n : ℕ). n + 15) (sym w.size);
        kind = w.kind;
        fits = omega (arith, w.size, w.fits);
        wrong = λ e. ne (a ∙ e ∙ sym b);
      },
    )

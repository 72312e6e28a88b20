-- The writer's rule begins a message as the reader takes it
use Rattle.std.proofs.Common.{◌≡◌, ℕ, ◌+◌, ◌-◌, ◌%◌, ◌^◌, ◌<◌, ◌≤◌, Bool, true, false, not, nat_eq, nat_le, nat_lt, cond, ◌&&◌, ◌||◌, List, [], length, Option, Some, None, refl, sym, ap, subst, arith}
use Rattle.std.proofs.lemmas.Bool.Decides.{nat_tests}
use Rattle.chunk_wire.specs.declared.kept.ChunkStream.{ChunkStream}
use Rattle.chunk_wire.specs.declared.kept.Terms.{Terms}
use Rattle.chunk_writer.specs.declared.heading.Heading.{Heading}
use Rattle.chunk_wire.specs.Chunk.{terms_by}
use Rattle.chunk_wire.specs.ReadBack.{shown}
use Rattle.chunk_writer.specs.declared.begun.Begun.{Begun}
use Rattle.chunk_writer.specs.Rule.{begun_after, begun_with, delta_after, format_after, is_alike, repeats, starts_anew}
use Rattle.chunk_law.proofs.Opened.{Leads, holding}

leads_0 : (k : ChunkStream) (x : Begun) → x.terms.delta ≡ x.terms.time → Leads 0 k x []
unfolding terms_by shown
leads_0 k x time = record {
  format = omega arith;
  extended = λ e. absurd (cc);
  terms_are = λ v is. (let e : v ≡ x.terms.delta = is (omega arith) in rw (e, time) refl);
  part_is = refl;
}

leads_1 : (k : ChunkStream) (x : Begun) → (k.terms.time + x.terms.delta) % 2 ^ 32 ≡ x.terms.time → k.terms.stream ≡ x.terms.stream → Leads 1 k x []
unfolding terms_by shown
leads_1 k x time stream = record {
  format = omega arith;
  extended = λ e. absurd (cc);
  terms_are = λ v is. (let e : v ≡ x.terms.delta = is (omega arith) in rw (e, time, stream) refl);
  part_is = refl;
}

leads_2 : (k : ChunkStream) (x : Begun) → (k.terms.time + x.terms.delta) % 2 ^ 32 ≡ x.terms.time → k.terms.stream ≡ x.terms.stream → k.terms.length ≡ x.terms.length → k.terms.kind ≡ x.terms.kind → Leads 2 k x []
unfolding terms_by shown
leads_2 k x time stream len kind = record {
  format = omega arith;
  extended = λ e. absurd (cc);
  terms_are = λ v is. (let e : v ≡ x.terms.delta = is (omega arith) in rw (e, time, stream, len, kind) refl);
  part_is = refl;
}

-- the terms that a message has after the same delta
abbrev after_delta : Terms → Terms
after_delta t = record { time = (t.time + t.delta) % 2 ^ 32; delta = t.delta; length = t.length; kind = t.kind; stream = t.stream; extended = t.extended }

leads_3 : (k : ChunkStream) (x : Begun) → k.part ≡ [] → after_delta k.terms ≡ x.terms → Leads 3 k x []
unfolding terms_by shown
leads_3 k x part same = record {
  format = omega arith;
  extended = λ _. ap (λ (t : Terms). t.extended) same;
  terms_are = λ v _. rw part same;
  part_is = part;
}

goes_on_by : (n : ℕ) (t u : Terms) → 0 < n → cond (nat_eq n 0) u t ≡ t
goes_on_by n t u some = let test : nat_eq n 0 ≡ false = grind (arith, nat_tests) in rw test refl

-- a further chunk goes on with the message
pub leads_on : (x : Begun) (part : List ℕ) → 0 < length part → Leads 3 (holding x part) x part
unfolding terms_by shown
leads_on x part some = record {
  format = omega arith;
  extended = λ _. refl;
  terms_are = λ v _. goes_on_by (length part) x.terms (after_delta x.terms) some;
  part_is = refl;
}

-- what the rule's tests tell
record Tells (t : Terms) (h : Heading) (anew alike same : Bool) : Type 0 where
  pub follows : anew ≡ false → (h.stream ≡ t.stream) × (t.time ≤ h.time)
  pub like : alike ≡ true → (h.length ≡ t.length) × (h.kind ≡ t.kind)
  pub again : same ≡ true → (h.time - t.time ≡ t.delta) × (h.time - t.time < 16777215)
  pub bound : h.time < 2 ^ 32
  pub extended : t.extended ≡ nat_le 16777215 t.delta

abbrev begun_by : Bool → Bool → Bool → Terms → Heading → Begun
begun_by anew alike same t h = begun_with (cond anew 0 (cond (not alike) 1 (cond same 3 2))) (cond anew h.time (h.time - t.time)) h

same_extended : (t : Terms) (d : ℕ) → t.extended ≡ nat_le 16777215 t.delta → d ≡ t.delta → nat_le 16777215 d ≡ t.extended
same_extended t d e f = rw (f, e) refl

begins_by : (anew alike same : Bool) (k : ChunkStream) (t : Terms) (h : Heading) → Tells t h anew alike same → k.terms ≡ t → k.part ≡ [] → Leads (begun_by anew alike same t h).format k (begun_by anew alike same t h) []
begins_by true alike same k t h tells is part = leads_0 k (begun_with 0 h.time h) refl
begins_by false false same k t h tells is part =
    let f = tells.follows refl in
    let bound = tells.bound in
    leads_1 k (begun_with 1 (h.time - t.time) h) (rw is (omega (arith, f.1, bound))) (rw is (sym f.0))
begins_by false true false k t h tells is part =
    let f = tells.follows refl in
    let l = tells.like refl in
    let bound = tells.bound in
    leads_2 k (begun_with 2 (h.time - t.time) h) (rw is (omega (arith, f.1, bound))) (rw is (sym f.0)) (rw is (sym l.0)) (rw is (sym l.1))
begins_by false true true k t h tells is part =
    let f = tells.follows refl in
    let l = tells.like refl in
    let a = tells.again refl in
    let bound = tells.bound in
    let time : (t.time + t.delta) % 2 ^ 32 ≡ h.time = omega (arith, f.1, a.0, bound) in
    leads_3 k (begun_with 3 (h.time - t.time) h) part (rw (is, time, ← a.0, l.0, l.1, f.0, same_extended t (h.time - t.time) tells.extended a.0) refl)

tells_follows : (t : Terms) (h : Heading) → starts_anew t h ≡ false → (h.stream ≡ t.stream) × (t.time ≤ h.time)
unfolding starts_anew
tells_follows t h e = grind (arith, nat_tests)

tells_like : (t : Terms) (h : Heading) → is_alike t h ≡ true → (h.length ≡ t.length) × (h.kind ≡ t.kind)
unfolding is_alike
tells_like t h e = grind (arith, nat_tests)

tells_again : (b : Begun) (d : ℕ) → repeats b d ≡ true → (d ≡ b.terms.delta) × (d < 16777215)
unfolding repeats
tells_again b d e = grind (arith, nat_tests)

-- what is known of the message before on the chunk stream, where the reader's record is k
pub record Remembers (b : Begun) (known : Bool) (k : ChunkStream) : Type 0 where
  pub known_is : known ≡ true
  pub terms_are : k.terms ≡ b.terms
  pub extended : b.terms.extended ≡ nat_le 16777215 b.terms.delta

abbrev pub Agrees : Option Begun → Bool → ChunkStream → Type 0
Agrees None known k = known ≡ false
Agrees (Some b) known k = Remembers b known k

begun_some : (b : Begun) (h : Heading) → begun_after (Some b) h ≡ begun_by (starts_anew b.terms h) (is_alike b.terms h) (repeats b (h.time - b.terms.time)) b.terms h
unfolding format_after delta_after
begun_some b h = refl

begun_none : (h : Heading) → begun_after None h ≡ begun_with 0 h.time h
unfolding format_after delta_after
begun_none h = refl

-- the first chunk of a message leads to its beginning
pub leads_after : (last : Option Begun) (known : Bool) (k : ChunkStream) (h : Heading) → h.time < 2 ^ 32 → Agrees last known k → k.part ≡ [] → Leads (begun_after last h).format k (begun_after last h) []
leads_after None known k h bound agrees part =
    let L : Begun → Type 0 = λ x. Leads x.format k x [] in
    subst L (sym (begun_none h)) (leads_0 k (begun_with 0 h.time h) refl)
leads_after (Some b) known k h bound agrees part =
    let L : Begun → Type 0 = λ x. Leads x.format k x [] in
    let tells : Tells b.terms h (starts_anew b.terms h) (is_alike b.terms h) (repeats b (h.time - b.terms.time)) = record {
      follows = tells_follows b.terms h;
      like = tells_like b.terms h;
      again = tells_again b (h.time - b.terms.time);
      bound = bound;
      extended = agrees.extended;
    } in
    subst L (sym (begun_some b h)) (begins_by (starts_anew b.terms h) (is_alike b.terms h) (repeats b (h.time - b.terms.time)) k b.terms h tells agrees.terms_are part)

-- a fresh id begins with format 0
pub room_after : (last : Option Begun) (known : Bool) (k : ChunkStream) (h : Heading) (n : ℕ) → Agrees last known k → n < 64 → (known || (nat_lt (begun_after last h).format 2 && nat_lt n 64)) ≡ true
room_after None known k h n agrees few =
    let R : Begun → Type 0 = λ x. (known || (nat_lt x.format 2 && nat_lt n 64)) ≡ true in
    subst R (sym (begun_none h)) (grind (arith, nat_tests))
room_after (Some b) known k h n agrees few = rw agrees.known_is refl

-- the delta is no more than the time
pub delta_most : (last : Option Begun) (h : Heading) → delta_after last h ≤ h.time
unfolding delta_after
delta_most None h = omega arith
delta_most (Some b) h = grind (arith, nat_tests)

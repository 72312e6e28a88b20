-- What is read later has the files so far as its first
use Rattle.std.proofs.Common.{◌≡◌, ◌⊎◌, inl, inr, ℕ, zero, suc, List, [], ◌∷◌, ◌++◌, map, length, Option, Some, None, option_to_list, refl, sym, ap, ◌∙◌, subst, arith, append_assoc, append-nil}
use Rattle.std.proofs.lemmas.List.{append_cancel_left, map-append}
use Rattle.std.proofs.lemmas.Option.{none-some, same_Some}
use Rattle.turn_gate.specs.Histories.{Begins}
use Rattle.file_series.specs.Series.{Ended, Series, after_next, all_files, ended_with, last_bytes, took}
use Rattle.series_medium.specs.declared.part.Part.{Part}
use Rattle.series_medium.specs.declared.part.Part.TheVariants.{Kind, Length1, Length2, Length3, Length4, Data}
use Rattle.series_medium.specs.Reading.{Reading, files_read, read, read_byte, start, with_byte}
use Rattle.series_medium.proofs.Framing.{read-append}
use Rattle.series_medium.specs.Parts.{AreFirstOf, IsPartOf}

-- the open file has more bytes, and is open still
record StillOpen (bytes : List ℕ) (ended : List Ended) (t : Series) : Type 0 where
  more : List ℕ
  same : t.ended ≡ ended
  last : t.last ≡ Some (bytes ++ more)

-- or it has ended
record HasEnded (bytes : List ℕ) (ended : List Ended) (t : Series) : Type 0 where
  more : List ℕ
  listing : Option (List ℕ)
  later : List Ended
  is : t.ended ≡ ended ++ record { bytes = bytes ++ more; listing = listing } ∷ later

-- files that came behind those of a series with that open file
abbrev Later : Option (List ℕ) → List Ended → Series → Type 0
Later None ended t = (later : List Ended) × (t.ended ≡ ended ++ later)
Later (Some bytes) ended t = StillOpen bytes ended t ⊎ HasEnded bytes ended t

later_same : (o : Option (List ℕ)) (ended : List Ended) → Later o ended (record { ended = ended; last = o })
later_same None ended = ([], sym (append-nil ended))
later_same (Some bytes) ended = inl (record { more = []; same = refl; last = ap (λ (l : List ℕ). Some l) (sym (append-nil bytes)) })

later_took : (o : Option (List ℕ)) (ended : List Ended) (t : Series) (bs : List ℕ) → Later o ended t → Later o ended (took bs t)
later_took None ended t bs l = l
later_took (Some bytes) ended t bs (inl l) = inl (record {
  more = l.more ++ bs;
  same = l.same;
  last = ap (λ (o : Option (List ℕ)). Some (last_bytes o ++ bs)) l.last ∙ ap (λ (x : List ℕ). Some x) (append_assoc bytes l.more bs);
})
later_took (Some bytes) ended t bs (inr l) = inr (record { more = l.more; listing = l.listing; later = l.later; is = l.is })

-- with a file ended, or none
with_last : (ended : List Ended) (o : Option (List ℕ)) → (later : List Ended) × (ended_with None ended o ≡ ended ++ later)
with_last ended None = ([], sym (append-nil ended))
with_last ended (Some bytes) = (record { bytes = bytes; listing = None } ∷ [], refl)

later_next : (o : Option (List ℕ)) (ended : List Ended) (t : Series) → Later o ended t → Later o ended (after_next None t)
later_next None ended t l =
    let w = with_last t.ended t.last in
    (l.0 ++ w.0, w.1 ∙ ap (λ (e : List Ended). e ++ w.0) l.1 ∙ append_assoc ended l.0 w.0)
later_next (Some bytes) ended t (inl l) = inr (record {
  more = l.more;
  listing = None;
  later = [];
  is = ap (λ (o : Option (List ℕ)). ended_with None t.ended o) l.last ∙ ap (λ (e : List Ended). e ++ record { bytes = bytes ++ l.more; listing = None } ∷ []) l.same;
})
later_next (Some bytes) ended t (inr l) =
    let w = with_last t.ended t.last in
    inr (record {
      more = l.more;
      listing = l.listing;
      later = l.later ++ w.0;
      is = w.1 ∙ ap (λ (e : List Ended). e ++ w.0) l.is ∙ append_assoc ended (record { bytes = bytes ++ l.more; listing = l.listing } ∷ l.later) w.0;
    })

later_byte : (o : Option (List ℕ)) (ended : List Ended) (p : Part) (b : ℕ) (t : Series) → Later o ended t → Later o ended (with_byte p b t)
later_byte o ended Kind zero t l = l
later_byte o ended Kind (suc zero) t l = later_next o ended t l
later_byte o ended Kind (suc (suc n)) t l = l
later_byte o ended Length1 b t l = l
later_byte o ended (Length2 x) b t l = l
later_byte o ended (Length3 x y) b t l = l
later_byte o ended (Length4 x y z) b t l = l
later_byte o ended (Data left) b t l = later_took o ended t (b ∷ []) l

later_in : (o : Option (List ℕ)) (ended : List Ended) (q : Option Part) (b : ℕ) (t : Series) → Later o ended t → Later o ended (read_byte (record { part = q; series = t }) b).series
later_in o ended None b t l = l
later_in o ended (Some p) b t l = later_byte o ended p b t l

later_read : (o : Option (List ℕ)) (ended : List Ended) (r : Reading) (bytes : List ℕ) → Later o ended r.series → Later o ended (read r bytes).series
later_read o ended r [] l = l
later_read o ended r (b ∷ bs) l = later_read o ended (read_byte r b) bs (later_in o ended r.part b r.series l)

first_ended : (o : Option (List ℕ)) (ended : List Ended) (t : Series) → Later o ended t → Begins ended t.ended
first_ended None ended t l = (l.0, sym l.1)
first_ended (Some bytes) ended t (inl l) = ([], append-nil ended ∙ sym l.same)
first_ended (Some bytes) ended t (inr l) = (record { bytes = bytes ++ l.more; listing = l.listing } ∷ l.later, sym l.is)

first_last : (bytes : List ℕ) (ended : List Ended) (t : Series) → StillOpen bytes ended t ⊎ HasEnded bytes ended t → AreFirstOf bytes ended t
first_last bytes ended t (inl l) = record {
  whole = bytes ++ l.more;
  later = [];
  begins = (l.more, refl);
  files = ap (λ (e : List Ended). map (λ x. x.bytes) e ++ option_to_list t.last) l.same ∙ ap (λ (o : Option (List ℕ)). map (λ x. x.bytes) ended ++ option_to_list o) l.last;
}
first_last bytes ended t (inr l) = record {
  whole = bytes ++ l.more;
  later = map (λ x. x.bytes) l.later ++ option_to_list t.last;
  begins = (l.more, refl);
  files = ap (λ (e : List Ended). map (λ x. x.bytes) e ++ option_to_list t.last) l.is
      ∙ ap (λ (f : List (List ℕ)). f ++ option_to_list t.last) (map-append (λ (x : Ended). x.bytes) ended (record { bytes = bytes ++ l.more; listing = l.listing } ∷ l.later))
      ∙ append_assoc (map (λ x. x.bytes) ended) ((bytes ++ l.more) ∷ map (λ x. x.bytes) l.later) (option_to_list t.last);
}

part_by : (o : Option (List ℕ)) (ended : List Ended) (t : Series) → Later o ended t → IsPartOf (record { ended = ended; last = o }) t
part_by None ended t l = record { ended = first_ended None ended t l; last = λ bytes is. absurd (none-some bytes is) }
part_by (Some bytes) ended t l = record {
  ended = first_ended (Some bytes) ended t l;
  last = λ first is. subst (λ (x : List ℕ). AreFirstOf x ended t) (same_Some bytes first is) (first_last bytes ended t l);
}

-- what was read is a first part of what is read with more bytes
pub read_part : (r : Reading) (bytes : List ℕ) → IsPartOf r.series (read r bytes).series
read_part r bytes = part_by r.series.last r.series.ended (read r bytes).series (later_read r.series.last r.series.ended r bytes (later_same r.series.last r.series.ended))

pub first_part : (s : Series) (first more : List ℕ) → IsPartOf (files_read first s) (files_read (first ++ more) s)
first_part s first more =
    subst (λ (r : Reading). IsPartOf (files_read first s) r.series) (sym (read-append (start s) first more)) (read_part (read (start s) first) more)

pub part_same : (s : Series) → IsPartOf s s
part_same s = part_by s.last s.ended s (later_same s.last s.ended)

-- bytes are added, and more of them before more is read
pub took_part : (s : Series) (xs : List ℕ) → IsPartOf s (took xs s)
took_part s xs = part_by s.last s.ended (took xs s) (later_took s.last s.ended s xs (later_same s.last s.ended))

pub took_read : (s : Series) (xs ys : List ℕ) (o : Option Part) (more : List ℕ) → IsPartOf (took xs s) (read (record { part = o; series = took ys (took xs s) }) more).series
took_read s xs ys o more =
    let t = took xs s in
    part_by t.last t.ended (read (record { part = o; series = took ys t }) more).series
    (later_read t.last t.ended (record { part = o; series = took ys t }) more (later_took t.last t.ended t ys (later_same t.last t.ended)))

-- the open file ends
pub next_part : (s : Series) → IsPartOf s (after_next None s)
next_part s = part_by s.last s.ended (after_next None s) (later_next s.last s.ended s (later_same s.last s.ended))

-- ---- a first part of a first part

begins_on : {X : Type 0} (xs ys zs : List X) → Begins xs ys → Begins ys zs → Begins xs zs
begins_on xs ys zs a b = (a.0 ++ b.0, sym (append_assoc xs a.0 b.0) ∙ ap (λ (l : List _). l ++ b.0) a.1 ∙ b.1)

abbrev listed : List Ended → List (List ℕ)
listed ended = map (λ x. x.bytes) ended

abbrev first_or : List ℕ → List (List ℕ) → List ℕ
first_or x [] = x
first_or x (y ∷ ys) = y

open_is : (last : Option (List ℕ)) (w : List ℕ) (later : List (List ℕ)) → option_to_list last ≡ w ∷ later → last ≡ Some w
open_is None w later is = absurd (omega (arith, ap length is))
open_is (Some x) w later is = ap (λ (l : List (List ℕ)). Some (first_or x l)) is

all_behind : (ended more : List Ended) (t : Series) → ended ++ more ≡ t.ended → all_files t ≡ listed ended ++ (listed more ++ option_to_list t.last)
all_behind ended more t is =
    ap (λ (e : List Ended). listed e ++ option_to_list t.last) (sym is)
    ∙ ap (λ (l : List (List ℕ)). l ++ option_to_list t.last) (map-append (λ (x : Ended). x.bytes) ended more)
    ∙ append_assoc (listed ended) (listed more) (option_to_list t.last)

first_by : (ended more : List Ended) (t u : Series) (bytes : List ℕ) → ended ++ more ≡ t.ended → AreFirstOf bytes ended t → IsPartOf t u → AreFirstOf bytes ended u
first_by ended [] t u bytes is f b =
    let same : t.ended ≡ ended = sym is ∙ append-nil ended in
    let rest : option_to_list t.last ≡ f.whole ∷ f.later
    = append_cancel_left (listed ended) (option_to_list t.last) (f.whole ∷ f.later) (sym (all_behind ended [] t is) ∙ f.files) in
    let next = b.last f.whole (open_is t.last f.whole f.later rest) in
    record {
      whole = next.whole;
      later = next.later;
      begins = begins_on bytes f.whole next.whole f.begins next.begins;
      files = next.files ∙ ap (λ (e : List Ended). listed e ++ next.whole ∷ next.later) same;
    }
first_by ended (r ∷ rs) t u bytes is f b =
    let rest : r.bytes ∷ (listed rs ++ option_to_list t.last) ≡ f.whole ∷ f.later
    = append_cancel_left (listed ended) (r.bytes ∷ (listed rs ++ option_to_list t.last)) (f.whole ∷ f.later) (sym (all_behind ended (r ∷ rs) t is) ∙ f.files) in
    let one : f.whole ≡ r.bytes = sym (ap (λ (l : List (List ℕ)). first_or f.whole l) rest) in
    let more = (r ∷ rs) ++ b.ended.0 in
    let all : ended ++ more ≡ u.ended = sym (append_assoc ended (r ∷ rs) b.ended.0) ∙ ap (λ (e : List Ended). e ++ b.ended.0) is ∙ b.ended.1 in
    record {
      whole = r.bytes;
      later = listed (rs ++ b.ended.0) ++ option_to_list u.last;
      begins = subst (λ (w : List ℕ). Begins bytes w) one f.begins;
      files = all_behind ended more u all;
    }

pub part_on : (s t u : Series) → IsPartOf s t → IsPartOf t u → IsPartOf s u
part_on s t u a b = record {
  ended = begins_on s.ended t.ended u.ended a.ended b.ended;
  last = λ bytes is. first_by s.ended a.ended.0 t u bytes a.ended.1 (a.last bytes is) b;
}

-- How many bytes a film has, and why it is refused
use Rattle.std.proofs.Common.{◌≡◌, inl, inr, ℕ, ◌+◌, ◌<◌, ◌≤◌, min, Bool, true, false, nat_lt, List, [], ◌∷◌, ◌++◌, length, map, drop, Option, Some, None, Ok}
use Rattle.std.proofs.Common.{Err, refl, sym, ap, ◌∙◌, subst, arith, length-append}
use Rattle.std.specs.List.{AllByRecursion, concat}
use Rattle.std.proofs.lemmas.Bool.Decides.{nat_tests}
use Rattle.std.proofs.lemmas.List.{length-drop, length-take}
use Rattle.flv_tags.specs.Layout.{size_in, tag_in}
use Rattle.flv_tags.specs.Reads.{IsFile, IsTag, Reads}
use Rattle.flv_tags.specs.Written.{IsWritable}
use Rattle.flv_tags.specs.declared.tag.Tag.{Tag}
use Rattle.segment_command.specs.Films.{WasRead}
use Rattle.client_command.specs.Film.{IsRefusedAt, IsWhole}
use Rattle.client_command.specs.Giving.{MayGo, NextStops, ReadsNext, came_of}
use Rattle.client_command.specs.declared.film.Film.{Film}
use Rattle.client_command.specs.declared.stop.Stop.{Stop as CommandStop}
use Rattle.client_command.specs.declared.stop.Stop.TheVariants as command
use Rattle.loop_command.specs.Films.{IsRefused, film_length, most_bytes, tag_length}
use Rattle.loop_command.specs.Rounds.{AddsTag, AreWritable, IsCounted, NextBy, ReadStops, ReadsWhole, stop_within}
use Rattle.loop_command.specs.declared.film.Reading.{Reading}
use Rattle.loop_command.specs.declared.stop.Stop.{Stop}
use Rattle.loop_command.specs.declared.stop.Stop.TheVariants.{Refused, Source, Sink, Memory, Unfinished}

-- ---- the bytes of a file

one_length : (b : List ℕ) → IsTag b → tag_length (tag_in b) ≡ length b
unfolding tag_in
one_length b t = omega (arith, t.whole, length-take (size_in b) (drop 11 b), length-drop 11 b)

parts_length : (parts : List (List ℕ)) → AllByRecursion IsTag parts → film_length (map tag_in parts) ≡ 13 + length (concat parts)
parts_length [] a = refl
parts_length (b ∷ parts) a = omega (arith, one_length b a.0, parts_length parts a.1, length-append b (concat parts))

file_length : (b : List ℕ) (tags : List Tag) → IsFile b tags → length b ≡ film_length tags
file_length b tags f =
    omega (arith, ap length f.bytes, length-append f.head (concat f.parts), f.head_whole, parts_length f.parts f.each, ap film_length f.tags_are)

none_last : (tags : List Tag) (t : Tag) → tags ++ t ∷ [] ≡ [] → ⊥
none_last [] t e = absurd (cc)
none_last (x ∷ tags) t e = absurd (cc)

reads_length : (b : List ℕ) (tags : List Tag) (t : Tag) (all : List Tag) (rest : List ℕ) → all ≡ tags ++ t ∷ [] → Reads b all rest → film_length all ≤ length b
reads_length b tags t all rest e (inl h) = absurd (none_last tags t (sym e ∙ h.none))
reads_length b tags t all rest e (inr i) = omega (arith, file_length i.file all i.is_file, ap length i.bytes, length-append i.file rest)

film_more : (tags : List Tag) (t : Tag) → film_length (tags ++ t ∷ []) ≡ film_length tags + tag_length t
film_more [] t = omega arith
film_more (x ∷ tags) t = omega (arith, film_more tags t)

writable_more : (tags : List Tag) (t : Tag) → AreWritable tags → IsWritable t → AreWritable (tags ++ t ∷ [])
writable_more [] t a w = (w, tt)
writable_more (x ∷ tags) t a w = (a.0, writable_more tags t a.1 w)

-- ---- the next tag

refused_at : (read : List ℕ) (at : ℕ) (tags : List Tag) (left : Option (List ℕ)) → IsRefusedAt read at tags left → IsRefused read (min at most_bytes) left
refused_at read at tags left h = by_test (nat_lt at most_bytes) refl
  where
    by_test : (b : Bool) → nat_lt at most_bytes ≡ b → IsRefused read (min at most_bytes) left
    by_test true t =
        let less : at < most_bytes = grind (arith, nat_tests, t) in
        let same : at ≡ min at most_bytes = omega (arith, less) in
        inl (omega (arith, less), tags, subst (λ (n : ℕ). IsRefusedAt read n tags left) same h)
    by_test false t =
        let more : most_bytes ≤ at = grind (arith, nat_tests, t) in
        inr (omega (arith, more), tags, inr (at, more, h))

pub next_stops : (stop : CommandStop) (tags : List Tag) (read : List ℕ) (start left : Option (List ℕ)) (n n' : ℕ) → WasRead read start left
    → NextStops stop tags read left n n' → ReadStops (stop_within stop) start left n n'
next_stops command.Client tags read start left n n' w h = absurd h
next_stops (command.Refused at) tags read start left n n' w h = ((read, w, refused_at read at tags left h.0), h.1)
next_stops command.Source tags read start left n n' w h = h.1
next_stops command.Sink tags read start left n n' w h = absurd h
next_stops command.Memory tags read start left n n' w h = h.1

pub next_goes : (o : Option Tag) (f g : Film) (start left : Option (List ℕ)) (n n' : ℕ) → MayGo g o → ReadsNext (Ok o) f g start left n n'
    → NextBy (Ok o) f g start left n n'
next_goes (Some t) f g start left n n' m r = (m, r.0, r.1, r.2)
next_goes None f g start left n n' m r = ((r.0.0, r.0.1, r.0.2), r.1)

-- ---- the tags that were read

pub none_counted : (r : Reading) → r.tags.items ≡ [] → r.bytes ≡ 13 → IsCounted r
none_counted r e n = record {
  bytes = n ∙ sym (ap film_length e);
  short = omega (arith, n);
  writable = subst AreWritable (sym e) tt;
}

pub counted_more : (r s : Reading) (t : Tag) → IsCounted r → IsWritable t
    → (s.tags.items ≡ r.tags.items ++ t ∷ []) × (s.bytes ≡ r.bytes + tag_length t) × (s.bytes ≤ most_bytes) → IsCounted s
counted_more r s t c w a = record {
  bytes = omega (arith, a.1, c.bytes, film_more r.tags.items t, ap film_length a.0);
  short = a.2;
  writable = subst AreWritable (sym a.0) (writable_more r.tags.items t c.writable w);
}

pub whole_read : (r : Reading) (f g : Film) (start left : Option (List ℕ)) (m n n' : ℕ) → IsCounted r → r.tags.items ≡ f.reader.given → n ≡ m
    → NextBy (Ok None) f g start left n n' → ReadsWhole r start left m n'
whole_read r f g start left m n n' c items e h =
    let whole : IsWhole h.0.0 r.tags.items left = subst (λ (tags : List Tag). IsWhole h.0.0 tags left) (sym items) h.0.2 in
    let count : length h.0.0 ≡ film_length r.tags.items = file_length h.0.0 r.tags.items whole.file in
    record {
      read = h.0.0;
      was_read = h.0.1;
      whole = whole;
      count = c.bytes ∙ sym count;
      short = subst (λ (n : ℕ). n ≤ most_bytes) (c.bytes ∙ sym count) c.short;
      writable = c.writable;
      faults = h.1 ∙ e;
    }

pub too_many : (stop : Stop) (t : Tag) (r s : Reading) (f g : Film) (start left : Option (List ℕ)) (m n n' : ℕ) → IsCounted r
    → r.tags.items ≡ f.reader.given → n ≡ m → AddsTag (Err stop) t r s → NextBy (Ok (Some t)) f g start left n n'
    → ReadStops stop start left m n'
too_many (Refused at) t r s f g start left m n n' c items e a h =
    let given : g.reader.given ≡ r.tags.items ++ t ∷ [] = h.2 ∙ ap (λ (tags : List Tag). tags ++ t ∷ []) (sym items) in
    let x = h.0.0.stands in
    let least : film_length g.reader.given ≤ length g.reader.fed = reads_length g.reader.fed r.tags.items t g.reader.given x.0 given x.1 in
    let long : most_bytes < length g.reader.fed = omega (arith, a.1, least, c.bytes, film_more r.tags.items t, ap film_length given) in (
      (
        came_of g,
        h.1,
        inr (
          a.0,
          g.reader.given,
          inl (record {
            front = g.reader.fed;
            behind = g.ahead;
            parts = refl;
            long = long;
            rest = x.0;
            reads =
                x.1;
          }),
        ),
      ),
      h.3 ∙ e,
    )
too_many Source t r s f g start left m n n' c items e a h = absurd a
too_many Sink t r s f g start left m n n' c items e a h = absurd a
too_many Memory t r s f g start left m n n' c items e a h = h.3 ∙ e
too_many Unfinished t r s f g start left m n n' c items e a h = absurd a

-- why the next can't be had, since the first
pub stops_since : (stop : Stop) (start left : Option (List ℕ)) (m n n' : ℕ) → n ≡ m → ReadStops stop start left n n' → ReadStops stop start left m n'
stops_since (Refused at) start left m n n' e h = (h.0, h.1 ∙ e)
stops_since Source start left m n n' e h = subst (λ (k : ℕ). ReadStops Source start left k n') e h
stops_since Sink start left m n n' e h = h
stops_since Memory start left m n n' e h = h ∙ e
stops_since Unfinished start left m n n' e h = h

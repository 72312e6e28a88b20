-- What an item writes
use Rattle.std.proofs.Common.{◌≡◌, ◌⊎◌, ℕ, List, [], ◌∷◌, Option, Some, None, Result, Ok, Err, MatchResult, inl, inr, refl, sym, ap, ◌∙◌, subst}
use Rattle.std.specs.Prelude.{Bool, true, false, option_map}
use Rattle.av_unit.specs.declared.item.Item.{Item}
use Rattle.file_series.specs.Series.{Cause, NextFails, PutsPart, Series, after_next, took}
use Rattle.file_series.specs.declared.series.SeriesFail.{SeriesFail}
use Rattle.file_series.specs.declared.series.SeriesFail.TheVariants.{OutOfMemory}
use Rattle.live_segments.specs.declared.cut.Cut.{Cut}
use Rattle.live_segments.specs.declared.cut.Cut.TheVariants.{First, Next, Marked, Same, Nothing}
use Rattle.live_segments.specs.Known.{Known, given}
use Rattle.live_segments.specs.Live.{cut_of, item_bytes}
use Rattle.hls_command.specs.Words.{Asked}
use Rattle.hls_command.specs.Written.{CutPart, WritesItem, WritesPart, finished, listing, with_cut, written}
use Rattle.hls_command.specs.Parts.{Breaks, Finishes, SeriesSeen, Stands, asked_by}

-- ---- two steps are one

pub two_puts : (text list : List ℕ) (o : Option Series) → option_map (took text) (option_map (after_next (Some list)) o) ≡ option_map (with_cut Next text list) o
two_puts text list None = refl
two_puts text list (Some s) = refl

pub two_puts_marked : (text list : List ℕ) (o : Option Series) → option_map (took text) (option_map (after_next (Some list)) o) ≡ option_map (with_cut Marked text list) o
two_puts_marked text list None = refl
two_puts_marked text list (Some s) = refl

pub no_step : (text list : List ℕ) (o : Option Series) → o ≡ option_map (with_cut Nothing text list) o
no_step text list None = refl
no_step text list (Some s) = refl

one_more : (a : Asked) (past : List Item) (item : Item) (o : Option Series)
    → option_map (with_cut (cut_of a.target past item) (item_bytes a.target past item) (listing a (item ∷ past) false)) (option_map (written a past) o) ≡ option_map (written a (item ∷ past)) o
one_more a past item None = refl
one_more a past item (Some s) = refl

finish : (a : Asked) (past : List Item) (o : Option Series) → option_map (after_next (Some (listing a past true))) (option_map (written a past) o) ≡ option_map (finished a past) o
finish a past None = refl
finish a past (Some s) = refl

-- ---- an item

-- all of it
item_stands : (name : List ℕ) (k : Known) (item : Item) (cut : Cut) (text : List ℕ) (start old new : SeriesSeen) → cut ≡ cut_of k.target k.past item → text ≡ item_bytes k.target k.past item
    → Stands name k start old → new.told ≡ option_map (with_cut cut text (listing (asked_by name k) (item ∷ k.past) false)) old.told → new.faults ≡ old.faults → Stands name (given k item) start new
item_stands name k item cut text start old new c t s told faults =
    let a = asked_by name k in
    let list = listing a (item ∷ k.past) false in (
      told ∙ ap (λ (x : Cut). option_map (with_cut x text list) old.told) c ∙ ap (λ (x : List ℕ). option_map (with_cut (cut_of k.target k.past item) x list) old.told) t
          ∙ ap (option_map (with_cut (cut_of k.target k.past item) (item_bytes k.target k.past item) list)) s.0 ∙ one_more a k.past item start.told,
      faults ∙ s.1,
    )

same_cause : (fail : SeriesFail) (a b n : ℕ) → b ≡ a → Cause fail b n → Cause fail a n
same_cause fail a b n e c = subst (λ (x : ℕ). Cause fail x n) e c

-- a part
item_part : (fail : SeriesFail) (name : List ℕ) (k : Known) (item : Item) (cut : Cut) (text : List ℕ) (start old new : SeriesSeen) → cut ≡ cut_of k.target k.past item
    → text ≡ item_bytes k.target k.past item → Stands name k start old → CutPart cut text (listing (asked_by name k) (item ∷ k.past) false) old.told new.told → Cause fail old.faults new.faults
    → Breaks name (given k item) start new fail
item_part fail name k item cut text start old new c t s part cause =
    let list = listing (asked_by name k) (item ∷ k.past) false in
    let p : CutPart (cut_of k.target k.past item) (item_bytes k.target k.past item) list (option_map (written (asked_by name k) k.past) start.told) new.told =
    subst (λ (o : Option Series). CutPart (cut_of k.target k.past item) (item_bytes k.target k.past item) list o new.told) s.0
    (subst (λ (x : List ℕ). CutPart (cut_of k.target k.past item) x list old.told new.told) t (subst (λ (x : Cut). CutPart x text list old.told new.told) c part)) in (
      inl (record { older = k.past; item = item; past_is = refl; part = p }),
      same_cause fail start.faults old.faults new.faults s.1 cause,
    )

-- what is known of the series once an item's bytes were written, or a part of them
abbrev pub Told : Result (Unit {0}) SeriesFail → List ℕ → Known → Cut → List ℕ → SeriesSeen → SeriesSeen → Type 0
Told r name k cut text old new =
    MatchResult r (λ _. new.told ≡ option_map (with_cut cut text (listing (asked_by name k) k.past false)) old.told)
    (λ _. CutPart cut text (listing (asked_by name k) k.past false) old.told new.told)

abbrev pub Faults : Result (Unit {0}) SeriesFail → SeriesSeen → SeriesSeen → Type 0
Faults r old new = MatchResult r (λ _. new.faults ≡ old.faults) (λ fail. Cause fail old.faults new.faults)

abbrev pub Goes : Result (Unit {0}) SeriesFail → List ℕ → Known → SeriesSeen → SeriesSeen → Type 0
Goes r name k start new = MatchResult r (λ _. Stands name k start new) (Breaks name k start new)

goes_by : (r : Result (Unit {0}) SeriesFail) (name : List ℕ) (k : Known) (item : Item) (cut : Cut) (text : List ℕ) (start old new : SeriesSeen) → cut ≡ cut_of k.target k.past item
    → text ≡ item_bytes k.target k.past item → Stands name k start old → Told r name (given k item) cut text old new → Faults r old new → Goes r name (given k item) start new
goes_by (Ok x) name k item cut text start old new c t s told faults = item_stands name k item cut text start old new c t s told faults
goes_by (Err fail) name k item cut text start old new c t s told faults = item_part fail name k item cut text start old new c t s told faults

pub item_goes : (r : Result (Unit {0}) SeriesFail) (name : List ℕ) (k k' : Known) (item : Item) (cut : Cut) (text : List ℕ) (start old new : SeriesSeen) → k' ≡ given k item
    → cut ≡ cut_of k.target k.past item → text ≡ item_bytes k.target k.past item → Stands name k start old → Told r name k' cut text old new → Faults r old new → Goes r name k' start new
item_goes r name k k' item cut text start old new e c t s told faults =
    subst (λ (x : Known). Goes r name x start new) (sym e)
    (goes_by r name k item cut text start old new c t s (subst (λ (x : Known). Told r name x cut text old new) e told) faults)

-- memory is refused before anything is written
pub stands_part : (name : List ℕ) (k : Known) (start now : SeriesSeen) → Stands name k start now → Breaks name k start now OutOfMemory
stands_part name k start now s = (inr (inl s.0), s.1)

-- the same where the segmenter failed
pub part_as : (name : List ℕ) (k k' : Known) (start now : SeriesSeen) → asked_by name k' ≡ asked_by name k → k'.past ≡ k.past → Stands name k start now → Breaks name k' start now OutOfMemory
part_as name k k' start now a p s = (
  inr (inl (s.0 ∙ ap (λ (x : Asked). option_map (written x k.past) start.told) (sym a) ∙ ap (λ (x : List Item). option_map (written (asked_by name k') x) start.told) (sym p))),
  s.1,
)

-- ---- the end

pub ends_part : (fail : SeriesFail) (name : List ℕ) (k : Known) (start old new : SeriesSeen) → Stands name k start old → NextFails old.told new.told → Cause fail old.faults new.faults
    → Breaks name k start new fail
ends_part fail name k start old new s n c =
    (inr (subst (λ (o : Option Series). NextFails o new.told) s.0 n), same_cause fail start.faults old.faults new.faults s.1 c)

pub finishes : (name : List ℕ) (k : Known) (start old new : SeriesSeen) → Stands name k start old → new.told ≡ option_map (after_next (Some (listing (asked_by name k) k.past true))) old.told
    → new.faults ≡ old.faults → Finishes name k start new
finishes name k start old new s t f =
    (t ∙ ap (option_map (after_next (Some (listing (asked_by name k) k.past true)))) s.0 ∙ finish (asked_by name k) k.past start.told, f ∙ s.1)

-- What is written of gifts
use Rattle.std.proofs.Common.{◌≡◌, ◌++◌, ℕ, Bool, true, false, List, [], ◌∷◌, Option, Some, None, Result, Ok, Err, MatchResult, refl, sym, ap, ◌∙◌, subst, append_assoc, append-nil}
use Rattle.std.specs.Prelude.{flat_map}
use Rattle.std.specs.Io.KnownBytes.{append_known}
use Rattle.std.proofs.lemmas.List.Concat.{flat_map-append}
use Rattle.flv_tags.specs.declared.tag.Tag.{Tag}
use Rattle.flv_tags.specs.Written.{header, tag_bytes}
use Rattle.put_text.specs.Written.{WritesPart}
use Rattle.client_owed.specs.declared.types.Gift.{Gift}
use Rattle.client_owed.specs.declared.types.Gift.TheVariants as gift
use Rattle.client_command.specs.Gifts.{pull_text, tags_in}
use Rattle.client_command.specs.declared.stop.Stop.{Stop}
use Rattle.client_command.specs.Telling.{gift_bytes, gift_text, has_some}

append_known_twice : (known : Option (List ℕ)) (xs ys : List ℕ) → append_known (append_known known xs) ys ≡ append_known known (xs ++ ys)
append_known_twice None xs ys = refl
append_known_twice (Some zs) xs ys = ap Some (append_assoc zs xs ys)

pub append_known_nil : (known : Option (List ℕ)) → append_known known [] ≡ known
append_known_nil None = refl
append_known_nil (Some xs) = ap Some (append-nil xs)

tags_more : (gs hs : List Gift) → tags_in (gs ++ hs) ≡ tags_in gs ++ tags_in hs
tags_more [] hs = refl
tags_more (gift.Tag t ∷ gs) hs = ap (λ (l : List Tag). t ∷ l) (tags_more gs hs)
tags_more (gift.Published ∷ gs) hs = tags_more gs hs
tags_more (gift.Unpublished ∷ gs) hs = tags_more gs hs

one_gift : (g : Gift) → flat_map tag_bytes (tags_in (g ∷ [])) ≡ gift_bytes g
one_gift (gift.Tag t) = append-nil (tag_bytes t)
one_gift gift.Published = refl
one_gift gift.Unpublished = refl

text_begun : (gs : List Gift) (g : Gift) → header ++ flat_map tag_bytes (tags_in (gs ++ g ∷ [])) ≡ (header ++ flat_map tag_bytes (tags_in gs)) ++ gift_bytes g
text_begun gs g =
    ap (λ (l : List ℕ). header ++ l)
    (ap (λ (l : List Tag). flat_map tag_bytes l) (tags_more gs (g ∷ [])) ∙ flat_map-append tag_bytes (tags_in gs) (tags_in (g ∷ [])) ∙ ap (λ (l : List ℕ). flat_map tag_bytes (tags_in gs) ++ l) (one_gift g))
    ∙ sym (append_assoc header (flat_map tag_bytes (tags_in gs)) (gift_bytes g))

pub text_more : (gs : List Gift) (g : Gift) (begun : Bool) → begun ≡ has_some gs → pull_text (gs ++ g ∷ []) ≡ pull_text gs ++ gift_text begun g
text_more [] g true e = absurd (cc)
text_more [] g false e = ap (λ (l : List ℕ). header ++ l) (one_gift g)
text_more (x ∷ gs) g true e = text_begun (x ∷ gs) g
text_more (x ∷ gs) g false e = absurd (cc)

pub gift_written : (gs : List Gift) (g : Gift) (begun : Bool) (held before now : Option (List ℕ)) → begun ≡ has_some gs → before ≡ append_known held (pull_text gs) → now ≡ append_known before (gift_text begun g)
    → now ≡ append_known held (pull_text (gs ++ g ∷ []))
gift_written gs g begun held before now b e w =
    w ∙ ap (λ (k : Option (List ℕ)). append_known k (gift_text begun g)) e ∙ append_known_twice held (pull_text gs) (gift_text begun g) ∙ ap (append_known held) (sym (text_more gs g begun b))

pub gift_part : (gs : List Gift) (g : Gift) (begun : Bool) (held before now : Option (List ℕ)) → begun ≡ has_some gs → before ≡ append_known held (pull_text gs) → WritesPart (gift_text begun g) before now
    → WritesPart (pull_text (gs ++ g ∷ [])) held now
gift_part gs g begun held before now b e w =
    let h = w.1 in (
      w.0,
      record {
        wrote = pull_text gs ++ h.wrote;
        parts = append_assoc (pull_text gs) h.wrote w.0 ∙ ap (λ (l : List ℕ). pull_text gs ++ l) h.parts ∙ sym (text_more gs g begun b);
        grown = h.grown ∙ ap (λ (k : Option (List ℕ)). append_known k h.wrote) e ∙ append_known_twice held (pull_text gs) h.wrote;
      },
    )

-- nothing more was put
pub gift_unwritten : (gs : List Gift) (g : Gift) (begun : Bool) (held before : Option (List ℕ)) → begun ≡ has_some gs → before ≡ append_known held (pull_text gs)
    → WritesPart (pull_text (gs ++ g ∷ [])) held before
gift_unwritten gs g begun held before b e = (gift_text begun g, record { wrote = pull_text gs; parts = sym (text_more gs g begun b); grown = e })

-- all of it is a part of it
pub all_part : (text : List ℕ) (before now : Option (List ℕ)) → now ≡ append_known before text → WritesPart text before now
all_part text before now e = ([], record { wrote = text; parts = append-nil text; grown = e })

-- a gift was put, or a part of it
pub put_gift : (r : Result (Unit {0}) Stop) (gs : List Gift) (g : Gift) (begun : Bool) (text : List ℕ) (held before now : Option (List ℕ)) → begun ≡ has_some gs → before ≡ append_known held (pull_text gs) → text ≡ gift_text begun g
    → MatchResult r (λ x. now ≡ append_known before text) (λ x. WritesPart text before now)
    → MatchResult r (λ x. now ≡ append_known held (pull_text (gs ++ g ∷ []))) (λ x. WritesPart (pull_text (gs ++ g ∷ [])) held now)
put_gift (Ok x) gs g begun text held before now b e t h = gift_written gs g begun held before now b e (h ∙ ap (append_known before) t)
put_gift (Err x) gs g begun text held before now b e t h = gift_part gs g begun held before now b e (subst (λ (l : List ℕ). WritesPart l before now) t h)

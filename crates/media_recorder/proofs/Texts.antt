-- What was written of what was taken
use Rattle.std.proofs.Common.{◌≡◌, ℕ, ◌<◌, ◌≤◌, zero, suc, List, [], ◌∷◌, ◌++◌, length, Option, Some, None, refl, sym, subst, arith, length-append}
use Rattle.std.specs.List.{slice_index_or}
use Rattle.std.proofs.lemmas.List.Elements.{All-push}
use Rattle.stream_model.specs.Held.{body_of}
use Rattle.av_unit.specs.declared.item.Item.{Item}
use Rattle.turn_gate.specs.Histories.{Begins}
use Rattle.media_recorder.specs.declared.turn.RecEnd.{RecEnd}
use Rattle.media_recorder.specs.declared.turn.RecEnd.TheVariants.{SinkFault, Full, Worn, OutOfMemory}
use Rattle.media_recorder.specs.Mediums.{AreWithin}
use Rattle.media_recorder.specs.Recorders.{AreWritten, AreWrittenTo}
use Rattle.media_recorder.proofs.Standing.{begins_same}

begins_to : (e : RecEnd) (items all : List Item) → AreWrittenTo e items all → Begins items all
begins_to SinkFault items all w = begins_same items all (sym w)
begins_to Full items all w = begins_same items all (sym w)
begins_to Worn items all w = begins_same items all (sym w)
begins_to OutOfMemory items all w = w

written_first : (end : Option RecEnd) (items all : List Item) → AreWritten end items all → Begins items all
written_first None items all w = begins_same items all (sym w)
written_first (Some e) items all w = begins_to e items all w

text_first : (text : List Item → List ℕ) (items all : List Item) (out : List ℕ) → ((a b : List Item) → Begins (text a) (text (a ++ b))) → out ≡ text items → Begins items all → Begins out (text all)
text_first text items all out goes is b =
    subst (λ (o : List ℕ). Begins o (text all)) (sym is) (subst (λ (l : List Item). Begins (text items) (text l)) b.1 (goes items b.0))

front_at : (xs ys : List Item) (k : ℕ) (d : Item) → k < length xs → slice_index_or (xs ++ ys) k d ≡ slice_index_or xs k d
front_at [] ys k d l = absurd (omega (arith, l))
front_at (x ∷ xs) ys zero d l = refl
front_at (x ∷ xs) ys (suc k) d l = front_at xs ys k d (omega (arith, l))

within_front : (m : ℕ) (items more : List Item) → AreWithin m (items ++ more) → AreWithin m items
within_front m items more w = λ k d l.
    subst (λ (x : Item). body_of x ≤ m) (front_at items more k d l) (w k d (omega (arith, l, length-append items more)))

within_first : (m : ℕ) (items all : List Item) → Begins items all → AreWithin m all → AreWithin m items
within_first m items all b w = within_front m items b.0 (subst (λ (l : List Item). AreWithin m l) (sym b.1) w)

-- a bound on what was taken is one on what was written
pub held_within : (end : Option RecEnd) (items all : List Item) (held : ℕ) (most : ℕ → ℕ) → AreWritten end items all → ((m : ℕ) → AreWithin m items → held ≤ most m) → (m : ℕ) → AreWithin m all → held ≤ most m
held_within end items all held most w h m a = h m (within_first m items all (written_first end items all w) a)

-- one item more
pub within_more : (m : ℕ) (items items' : List Item) (x : Item) → items' ≡ items ++ x ∷ [] → AreWithin m items → body_of x ≤ m → AreWithin m items'
within_more m items items' x is w le = subst (λ (l : List Item). AreWithin m l) (sym is) (All-push (λ (y : Item). body_of y ≤ m) items x w le)

-- what was put out is a beginning of the text of what was taken
pub out_first : (text : List Item → List ℕ) (end : Option RecEnd) (items all : List Item) (out : List ℕ) → ((a b : List Item) → Begins (text a) (text (a ++ b))) → out ≡ text items → AreWritten end items all → Begins out (text all)
out_first text end items all out goes is w = text_first text items all out goes is (written_first end items all w)

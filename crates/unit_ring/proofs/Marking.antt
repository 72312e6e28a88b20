-- The configurations in effect, item by item.
use Rattle.std.proofs.Common.{◌≡◌, ℕ, zero, suc, ◌+◌, ◌<◌, ◌≤◌, Bool, true, false, if◌then◌else◌, List, [], ◌∷◌, ◌++◌, length, take, Some, None, Option, refl, ap, sym, ◌∙◌, arith, length-append}
use Rattle.std.specs.List.{slice_get}
use Rattle.std.proofs.lemmas.List.{length-take}
use Rattle.std.proofs.lemmas.Option.{slice_get_within}
use Rattle.av_unit.specs.declared.item.Item.{Item}
use Rattle.av_unit.specs.declared.item.Item.TheVariants as item
use Rattle.av_unit.specs.declared.unit.Kind.{Kind}
use Rattle.av_unit.specs.declared.unit.UnitArc.{UnitArc}
use Rattle.av_unit.specs.declared.unit.Kind.TheVariants.{Meta, VConfig, AConfig, Key}
use Rattle.stream_model.specs.Items.{config_at, last_of, has_kind}
use Rattle.stream_model.specs.Slots.{is_video}
use Rattle.stream_model.proofs.Places.{slice_get-append}
use Rattle.stream_model.proofs.Pushes.{last_of-push, last_where-push, is_live-push, config_at-append, config_at-end}
use Rattle.unit_ring.specs.declared.newest.Newest.{Newest}
use Rattle.unit_ring.specs.declared.kept.NumberedConfig.{NumberedConfig}
use Rattle.unit_ring.specs.declared.kept.KeptConfigs.{KeptConfigs}
use Rattle.unit_ring.specs.Marks.{marks_at, last_after, marks_after, newest_after, IsNewest}
use Rattle.unit_ring.specs.Kept.{IsKept, AreKept, kept_next, kept_after, AreSmall}

take_next : {X : Type 0} (xs : List X) (n : ℕ) (x : X) → slice_get xs n ≡ Some x → take (n + 1) xs ≡ take n xs ++ x ∷ []
take_next [] n x e = absurd (cc)
take_next (y ∷ ys) zero x e = let same : y ≡ x = cc in rw same refl
take_next (y ∷ ys) (suc n) x e = let on : suc n + 1 ≡ suc (n + 1) = omega arith in rw on (ap (λ (l : List _). y ∷ l) (take_next ys n x e))

-- in effect at the end, after one item more
last_push : (kind : Kind) (xs : List Item) (x : Item) → last_of kind (xs ++ x ∷ []) ≡ last_after kind (length xs) x (last_of kind xs)
last_push kind xs item.Begin = last_of-push kind xs item.Begin
last_push kind xs (item.Unit u) = last_of-push kind xs (item.Unit u)
last_push kind xs item.End = last_of-push kind xs item.End

-- in effect at the next number
pub config_next : (kind : Kind) (items : List Item) (n : ℕ) (x : Item) → slice_get items n ≡ Some x → config_at kind items (n + 1) ≡ last_after kind n x (config_at kind items n)
config_next kind items n x is =
    let lt : n < length items = slice_get_within items n x is in
    let front : length (take n items) ≡ n = rw (length-take n items) (omega arith) in
    rw (take_next items n x is, last_push kind (take n items) x, front) refl

end_push : (kind : Kind) (xs : List Item) (x : Item) → config_at kind (xs ++ x ∷ []) (length (xs ++ x ∷ [])) ≡ last_after kind (length xs) x (config_at kind xs (length xs))
end_push kind xs x = config_at-end kind (xs ++ x ∷ []) ∙ last_push kind xs x ∙ ap (last_after kind (length xs) x) (sym (config_at-end kind xs))

pub marks_push : (xs : List Item) (x : Item) → marks_after (length xs) x (marks_at xs (length xs)) ≡ marks_at (xs ++ x ∷ []) (length (xs ++ x ∷ []))
marks_push xs x = rw (end_push Meta xs x, end_push VConfig xs x, end_push AConfig xs x) refl

pub newest_push : (items : List Item) (s : Newest) (x : Item) → IsNewest items s → IsNewest (items ++ x ∷ []) (newest_after x s)
newest_push items s x is = record {
  end = let e = is.end in omega (arith, length-append items (x ∷ []));
  marks = rw (is.marks, is.end) (marks_push items x);
  live = rw is.live (sym (is_live-push items x));
  key = rw (is.key, is.end) (sym (last_push Key items x));
  video = rw (is.video, is.end) (sym (last_where-push is_video items x));
}

pub marks_grown : (xs more : List Item) (n : ℕ) → n ≤ length xs → marks_at (xs ++ more) n ≡ marks_at xs n
marks_grown xs more n le = rw (config_at-append Meta xs more n le, config_at-append VConfig xs more n le, config_at-append AConfig xs more n le) refl

-- what is kept of a kind, past one item
unit_kept : (b : Bool) (kind : Kind) (items : List Item) (n : ℕ) (u : UnitArc) (o : Option NumberedConfig) → slice_get items n ≡ Some (item.Unit u) → has_kind kind (item.Unit u) ≡ b → IsKept kind items n o →
    IsKept kind items (n + 1) (if b then Some (record { number = n; unit = u }) else o)
unit_kept true kind items n u o is e k = (config_next kind items n (item.Unit u) is ∙ rw e refl, is)
unit_kept false kind items n u None is e k = config_next kind items n (item.Unit u) is ∙ rw e k
unit_kept false kind items n u (Some kept) is e k = (config_next kind items n (item.Unit u) is ∙ rw e k.0, k.1)

end_kept : (kind : Kind) (items : List Item) (n : ℕ) (o : Option NumberedConfig) → slice_get items n ≡ Some item.End → IsKept kind items n o → IsKept kind items (n + 1) o
end_kept kind items n None is k = config_next kind items n item.End is ∙ k
end_kept kind items n (Some kept) is k = (config_next kind items n item.End is ∙ k.0, k.1)

kind_kept : (kind : Kind) (items : List Item) (n : ℕ) (x : Item) (o : Option NumberedConfig) → slice_get items n ≡ Some x → IsKept kind items n o → IsKept kind items (n + 1) (kept_next kind n x o)
kind_kept kind items n item.Begin o is k = config_next kind items n item.Begin is
kind_kept kind items n (item.Unit u) o is k = unit_kept (has_kind kind (item.Unit u)) kind items n u o is refl k
kind_kept kind items n item.End o is k = end_kept kind items n o is k

pub kept_passed : (items : List Item) (n : ℕ) (x : Item) (k : KeptConfigs) → slice_get items n ≡ Some x → AreKept items n k → AreSmall (kept_after n x k) → AreKept items (n + 1) (kept_after n x k)
kept_passed items n x k is are small = record {
  meta = kind_kept Meta items n x k.meta is are.meta;
  video = kind_kept VConfig items n x k.video is are.video;
  audio = kind_kept AConfig items n x k.audio is are.audio;
  small = small;
}

one_grown : (kind : Kind) (xs more : List Item) (n : ℕ) (o : Option NumberedConfig) → n ≤ length xs → IsKept kind xs n o → IsKept kind (xs ++ more) n o
one_grown kind xs more n None le k = config_at-append kind xs more n le ∙ k
one_grown kind xs more n (Some kept) le k = (config_at-append kind xs more n le ∙ k.0, slice_get-append xs more kept.number (slice_get_within xs kept.number (item.Unit kept.unit) k.1) ∙ k.1)

pub kept_grown : (xs more : List Item) (n : ℕ) (k : KeptConfigs) → n ≤ length xs → AreKept xs n k → AreKept (xs ++ more) n k
kept_grown xs more n k le are = record {
  meta = one_grown Meta xs more n k.meta le are.meta;
  video = one_grown VConfig xs more n k.video le are.video;
  audio = one_grown AConfig xs more n k.audio le are.audio;
  small = are.small;
}

-- Who keeps up with a disposable frame whose chain is whole is sent it.
use Rattle.std.proofs.Common.{◌≡◌, ℕ, Bool, true, false, List, [], ◌∷◌, map, Option, None, Some, inl, inr, refl, sym, ◌∙◌, All}
use Rattle.std.specs.List.{slice_get, Contains}
use Rattle.std.proofs.lemmas.List.Elements.{All-head, All-tail}
use Rattle.std.proofs.lemmas.Bool.{false≢true}
use Rattle.av_unit.specs.declared.item.Item.{Item}
use Rattle.av_unit.specs.declared.item.Item.TheVariants as item
use Rattle.av_unit.specs.declared.unit.Kind.{Kind}
use Rattle.av_unit.specs.declared.unit.Kind.TheVariants.{Meta, VConfig, AConfig, Key, Inter, Spare, Audio, Data}
use Rattle.av_unit.specs.declared.head.Want.{Want}
use Rattle.stream_model.specs.declared.calls.StreamLimits.{StreamLimits}
use Rattle.stream_model.specs.declared.replies.Taken.{Taken}
use Rattle.stream_model.specs.declared.replies.Taken.TheVariants.{Sent, Skip, NotYet}
use Rattle.stream_model.specs.Items.{same_kind}
use Rattle.stream_model.specs.Window.{lags}
use Rattle.stream_model.specs.Chain.{whole}
use Rattle.stream_model.specs.Take.{at_kind}
use Rattle.stream_model.specs.History.{History, items_of}
use Rattle.stream_model.specs.Spell.{spell, sent, cursor}
use Rattle.stream_model.specs.Known.{IsLawful}
use Rattle.stream_model.specs.Legal.{Turn, SomeTurn, Passes, IsPassedBy, IsExcluded, IsExcludedKind, IsBetween, turns}
use Rattle.stream_law.specs.KeepsUp.{KeepsUp, SkipsOver}
use Rattle.stream_law.proofs.Lists.{contains_number}
use Rattle.stream_law.proofs.Viewers.{legal}

module _ (limits : StreamLimits) (stood : List Item) (want : Want) (items : List Item) (numbers : List ℕ) (n : ℕ) where
  kind_in : (kind : Kind) → same_kind Spare kind ≡ true → want.video ≡ true → whole items numbers n ≡ true → lags limits stood n ≡ false → IsExcludedKind limits stood want items numbers n kind → ⊥
  kind_in Spare k video chain near out = elim out [
    | inl e ↦ false≢true (sym e ∙ video)
    | inr f ↦ elim f [ inl e ↦ false≢true (sym e ∙ chain) | inr e ↦ false≢true (sym near ∙ e) ]
  ]
  kind_in Meta k video chain near out = false≢true k
  kind_in VConfig k video chain near out = false≢true k
  kind_in AConfig k video chain near out = false≢true k
  kind_in Key k video chain near out = false≢true k
  kind_in Inter k video chain near out = false≢true k
  kind_in Audio k video chain near out = false≢true k
  kind_in Data k video chain near out = false≢true k

  item_in : (o : Option Item) → at_kind Spare o ≡ true → want.video ≡ true → whole items numbers n ≡ true → lags limits stood n ≡ false → IsExcluded limits stood want items numbers n o → ⊥
  item_in None k video chain near out = false≢true k
  item_in (Some item.Begin) k video chain near out = false≢true k
  item_in (Some item.End) k video chain near out = false≢true k
  item_in (Some (item.Unit u)) k video chain near out = kind_in u.kind k video chain near out

-- no turn that kept up with it passed it over
unpassed : (limits : StreamLimits) (items : List Item) (numbers : List ℕ) (n : ℕ) (turn : Turn) (from : ℕ) (a : Taken) → at_kind Spare (slice_get items n) ≡ true → whole items numbers n ≡ true →
    turn.want.video ≡ true → lags limits turn.items n ≡ false → (SkipsOver n a → ⊥) → IsPassedBy limits items numbers n turn from a → ⊥
unpassed limits items numbers n turn from (Skip at to) k chain video near skips p = skips p.0
unpassed limits items numbers n turn from (Sent at m x) k chain video near skips p = item_in limits turn.items turn.want items numbers n (slice_get items n) k video chain near p.1
unpassed limits items numbers n turn from (NotYet end) k chain video near skips p = item_in limits turn.items turn.want items numbers n (slice_get items n) k video chain near p.1

no_turn : (limits : StreamLimits) (join : ℕ) (items : List Item) (numbers : List ℕ) (n : ℕ) (ts : List Turn) → at_kind Spare (slice_get items n) ≡ true → whole items numbers n ≡ true →
    All (KeepsUp limits n) ts → SomeTurn (Passes limits join items numbers n) ts → ⊥
no_turn limits join items numbers n [] k chain all some = some
no_turn limits join items numbers n (t ∷ ts) k chain all some = elim some [
  | inl p ↦ let up = All-head (KeepsUp limits n) t ts all in unpassed limits items numbers n t _ t.answer k chain up.pictures up.near up.unskipped p
  | inr more ↦ no_turn limits join items numbers n ts k chain (All-tail (KeepsUp limits n) t ts all) more
]

pub spare_sent : (limits : StreamLimits) (past : History) → IsLawful limits past → (place n : ℕ) → IsBetween (spell past place).from n (cursor (spell past place)) →
    at_kind Spare (slice_get (items_of past) n) ≡ true → whole (items_of past) (sent (spell past place)) n ≡ true → All (KeepsUp limits n) (turns past place) → Contains (sent (spell past place)) n
spare_sent limits past lawful place n between kind chain all = elim ((legal limits past lawful place).passed n between) [
  | inl is ↦ contains_number n (sent (spell past place)) is
  | inr some ↦ absurd (no_turn limits (spell past place).from (items_of past) (sent (spell past place)) n (turns past place) kind chain all some)
]

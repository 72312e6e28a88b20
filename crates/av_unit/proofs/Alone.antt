-- What follows the name that is taken off has its class by itself.
use Rattle.std.proofs.Common.{◌≡◌, ℕ, Bool, true, false, List, [], ◌∷◌, length, take, drop, Some, inl, inr, refl, sym, ap, ◌∙◌, arith}
use Rattle.std.specs.Prelude.{codes, ◌==◌, ◌&&◌, nat_lt}
use Rattle.std.specs.Cmp.Lexicographic.{bytes_decides}
use Rattle.std.proofs.lemmas.Bool.{cases_Bool, eqb-true}
use Rattle.av_unit.specs.Fits.{is_config}
use Rattle.av_unit.specs.declared.unit.Kind.{Kind}
use Rattle.av_unit.specs.declared.unit.Kind.TheVariants.{Meta, Data}
use Rattle.av_unit.specs.declared.unit.Class.{Class}
use Rattle.av_unit.specs.Classes.{amf_text, begins_with_text, from_of, kind_of, table_class, class_of, finer, finer_class, message_type, unit_from}

-- data that is metadata doesn't begin with the text that is taken off
both : (rest : List ℕ) → amf_text (codes "onMetaData") ≡ take 13 rest → amf_text (codes "@setDataFrame") ≡ take 16 rest → ⊥
both [] e f = cc
both (a ∷ []) e f = cc
both (a ∷ b ∷ []) e f = cc
both (a ∷ b ∷ c ∷ more) e f = let x : 10 ≡ c = cc in let y : 13 ≡ c = cc in absurd (omega arith)

differ : (rest : List ℕ) → begins_with_text (codes "onMetaData") rest ≡ true → begins_with_text (codes "@setDataFrame") rest ≡ false
differ rest e = elim (cases_Bool (begins_with_text (codes "@setDataFrame") rest)) [
  | inl f ↦ absurd (both rest ((bytes_decides (amf_text (codes "onMetaData")) (take 13 rest)).0 e) ((bytes_decides (amf_text (codes "@setDataFrame")) (take 16 rest)).0 f))
  | inr f ↦ f
]

data_text : (rest : List ℕ) (kind : Kind) → kind_of 18 rest ≡ Some kind → (kind ≡ Data → begins_with_text (codes "@setDataFrame") rest ≡ false) → begins_with_text (codes "@setDataFrame") rest ≡ false
data_text [] kind is no_text = absurd (cc)
data_text (a ∷ rest) kind is no_text = elim (cases_Bool (begins_with_text (codes "onMetaData") (a ∷ rest))) [
  | inl e ↦ differ (a ∷ rest) e
  | inr e ↦ let f = rw e at is in let is_data : kind ≡ Data = cc in no_text is_data
]

none_before : (m : ℕ) (rest : List ℕ) (kind : Kind) → kind_of m rest ≡ Some kind → (kind ≡ Data → begins_with_text (codes "@setDataFrame") rest ≡ false) → from_of m rest ≡ 0
none_before m rest kind is no_text = elim (cases_Bool (m == 18)) [
  | inl e ↦ let same : m ≡ 18 = eqb-true m 18 e in rw (e, data_text rest kind (rw same at is) no_text) refl
  | inr e ↦ rw e refl
]

abbrev pub first : Kind → Class
first kind = record { kind = kind; from = 0 }

pub alone : (m : ℕ) (rest : List ℕ) (kind : Kind) → kind_of m rest ≡ Some kind → (is_config kind && nat_lt 65536 (length rest)) ≡ false →
    (kind ≡ Data → begins_with_text (codes "@setDataFrame") rest ≡ false) → table_class m rest ≡ Some (first kind)
unfolding table_class
alone m rest kind is small no_text = rw (none_before m rest kind is no_text, is, small) refl

pub again : (size : ℕ) (rest : List ℕ) (k k' : Kind) → k' ≡ finer size rest k → message_type k' ≡ message_type k →
    ((k ≡ Data → begins_with_text (codes "@setDataFrame") rest ≡ false) → table_class (message_type k) rest ≡ Some (first k)) →
    (k' ≡ Data → begins_with_text (codes "@setDataFrame") rest ≡ false) → class_of (message_type k') rest size ≡ Some (first k')
unfolding class_of
again size rest k k' is same plain no_text =
    rw (same, plain (λ e. no_text (is ∙ ap (finer size rest) e))) (ap (λ (q : Kind). Some (first q)) (sym is))

pub unit_again : (size time : ℕ) (b : List ℕ) (kind : Kind) → class_of (message_type kind) b size ≡ Some (first kind) →
    unit_from (message_type kind) time b size ≡ Some (record { kind = kind; time = time; body = b })
unfolding unit_from
unit_again size time b kind e = rw e refl

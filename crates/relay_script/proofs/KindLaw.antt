-- A word that names a kind is that kind's name.
use Rattle.std.proofs.Common.{◌≡◌, ◌↔◌, ℕ, if◌then◌else◌, Bool, true, false, List, Option, None, Some, refl, ap, ◌∙◌}
use Rattle.std.proofs.lemmas.Bool.Decides.{Decides-eqb}
use Rattle.std.proofs.lemmas.Slice.Eq.{slice_eq-Decides}
use Rattle.av_unit.specs.declared.unit.Kind.{Kind}
use Rattle.av_unit.specs.declared.unit.Kind.TheVariants.{Meta, VConfig, AConfig, Key, Inter, Spare, Audio, Data}
use Rattle.relay_script.specs.Lines.{is_text, kind_of}
use Rattle.relay_script.specs.Texts.{kind_text}

same_text : (word text : List ℕ) → is_text word text ≡ true → word ≡ text
same_text word text e = (slice_eq-Decides Decides-eqb word text (is_text word text) refl).0 e

same_kind : (this k : Kind) → Some this ≡ Some k → this ≡ k
same_kind this k e = cc

kind_cases : (b : Bool) (word : List ℕ) (this k : Kind) (more : Option Kind) → (b ≡ true → word ≡ kind_text this) → (if b then Some this else more) ≡ Some k
    → (more ≡ Some k → word ≡ kind_text k) → word ≡ kind_text k
kind_cases true word this k more is e next = is refl ∙ ap kind_text (same_kind this k e)
kind_cases false word this k more is e next = next e

pick : (word : List ℕ) (this k : Kind) (more : Option Kind) → (if is_text word (kind_text this) then Some this else more) ≡ Some k
    → (more ≡ Some k → word ≡ kind_text k) → word ≡ kind_text k
pick word this k more e next = kind_cases (is_text word (kind_text this)) word this k more (same_text word (kind_text this)) e next

nothing : (word : List ℕ) (k : Kind) → None ≡ Some k → word ≡ kind_text k
nothing word k e = absurd (cc)

told : (k : Kind) (word : List ℕ) → kind_of word ≡ Some k → word ≡ kind_text k
told k word e = pick word Meta k _ e (λ e. pick word VConfig k _ e
    (λ e. pick word AConfig k _ e (λ e. pick word Key k _ e (λ e. pick word Inter k _ e
    (λ e. pick word Spare k _ e (λ e. pick word Audio k _ e (λ e. pick word Data k None e (nothing word k))))))))

named : (k : Kind) → kind_of (kind_text k) ≡ Some k
named Meta = refl
named VConfig = refl
named AConfig = refl
named Key = refl
named Inter = refl
named Spare = refl
named Audio = refl
named Data = refl

pub kind_law : (k : Kind) (word : List ℕ) → (kind_of word ≡ Some k) ↔ (word ≡ kind_text k)
kind_law k word = (told k word, λ e. ap kind_of e ∙ named k)

-- The worked examples.
use Rattle.std.proofs.Common.{◌≡◌, List, [], ◌∷◌, true, refl, arith}
use Rattle.std.specs.Prelude.{codes, Result, Ok, Err, IfOk}
use Rattle.std.specs.Int.Count.{count_leading_zeros}
use Rattle.amf0_value.specs.declared.fail.AmfFail.TheVariants.{Truncated, BadMarker, TooDeep, BadEnd}
use Rattle.amf0_value.specs.Tree.{boolean, text, object, null, ecma, no_members, member}
use Rattle.amf0_value.specs.Spelling.{Spells, be, front, items_depth}
use Rattle.amf0_value.specs.Encoding.{spelling}
use Rattle.amf0_value.specs.Pattern.{pattern}
use Rattle.amf0_value.specs.Reader.{values_in, to_end, value, members, items}
use Rattle.amf0_value.specs.Laws.{nested}

pub number : (pattern 0 ≡ 0) × (pattern 31 ≡ 4629418941960159232)
unfolding pattern count_leading_zeros
number = (refl, refl)

pub boolean_is : Spells (boolean true) (1 ∷ 5 ∷ []) × (spelling (boolean true) ≡ 1 ∷ 1 ∷ [])
boolean_is = ((5, omega arith, omega arith, refl), refl)

pub text_is : Spells (text (codes "live")) (2 ∷ 0 ∷ 4 ∷ codes "live")
unfolding be
text_is = (omega arith, refl)

pub object_is : Spells (object (member (codes "a") null no_members)) (3 ∷ 0 ∷ 1 ∷ 97 ∷ 5 ∷ 0 ∷ 0 ∷ 9 ∷ [])
unfolding be
object_is = (0 ∷ 1 ∷ 97 ∷ 5 ∷ 0 ∷ 0 ∷ 9 ∷ [], refl, (5 ∷ 0 ∷ 0 ∷ 9 ∷ [], 0 ∷ 0 ∷ 9 ∷ [], (omega arith, omega arith), refl, refl, refl))

pub ecma_is : Spells (ecma 7 no_members) (8 ∷ 0 ∷ 0 ∷ 0 ∷ 7 ∷ 0 ∷ 0 ∷ 9 ∷ [])
unfolding be
ecma_is = (0 ∷ 0 ∷ 9 ∷ [], omega arith, refl, refl)

pub bad_end : values_in (3 ∷ 0 ∷ 0 ∷ 8 ∷ []) ≡ Err (BadEnd 3)
unfolding to_end value members items front
bad_end = refl

pub cut : values_in (2 ∷ 0 ∷ 5 ∷ 97 ∷ []) ≡ Err (Truncated 4)
unfolding to_end value members items front
cut = refl

pub count : values_in (10 ∷ 0 ∷ 0 ∷ 0 ∷ 2 ∷ 4 ∷ []) ≡ Err (Truncated 6)
unfolding to_end value members items front
count = refl

pub marker : values_in (5 ∷ 17 ∷ []) ≡ Err (BadMarker 1 17)
unfolding to_end value members items front
marker = refl

pub deep : values_in (nested 33) ≡ Err (TooDeep 160)
unfolding to_end value members items front nested
deep = refl

pub not_too_deep : IfOk (values_in (nested 32)) (λ vs. items_depth vs ≡ 32)
unfolding to_end value members items front nested
not_too_deep = refl

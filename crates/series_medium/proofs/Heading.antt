-- The head of a frame leaves the files as they are
use Rattle.std.proofs.Common.{◌≡◌, ℕ, ◌+◌, ◌<◌, zero, suc, List, [], ◌∷◌, ◌++◌, length, take, slice_index, Option, Some, sym, ap, ◌∙◌, subst, arith}
use Rattle.std.proofs.lemmas.List.{take_more}
use Rattle.std.proofs.lemmas.Option.{none-some, same_Some}
use Rattle.relay_base.specs.Numbers.{be32_of}
use Rattle.file_series.specs.Series.{Series}
use Rattle.series_medium.specs.declared.part.Part.{Part}
use Rattle.series_medium.specs.declared.part.Part.TheVariants.{Kind, Length1, Length2, Length3, Length4, Data}
use Rattle.series_medium.specs.Reading.{Reading, data_of, read_byte, read}
use Rattle.series_medium.specs.Heads.{Leads, head_behind}
use Rattle.series_medium.specs.Reading.{IsDue}
use Rattle.series_medium.proofs.Framing.{read-append, some_data}

head_byte : (p q : Part) (byte : ℕ) (s : Series) → head_behind p byte ≡ Some q → read_byte (record { part = Some p; series = s }) byte ≡ record { part = Some q; series = s }
head_byte Kind q zero s is = ap (λ (o : Option Part). record { part = o; series = s }) is
head_byte Kind q (suc n) s is = absurd (none-some q is)
head_byte Length1 q a s is = ap (λ (o : Option Part). record { part = o; series = s }) is
head_byte (Length2 a) q b s is = ap (λ (o : Option Part). record { part = o; series = s }) is
head_byte (Length3 a b) q c s is = ap (λ (o : Option Part). record { part = o; series = s }) is
head_byte (Length4 a b c) q d s is = ap (λ (o : Option Part). record { part = o; series = s }) is
head_byte (Data left) q b s is = absurd (none-some q is)

pub leads_on : (p q r : Part) (piece : List ℕ) (used byte : ℕ) → Leads p (take used piece) q → used < length piece → byte ≡ slice_index piece used
    → head_behind q byte ≡ Some r → Leads p (take (used + 1) piece) r
leads_on p q r piece used byte leads there is next = λ s.
    let whole : take (used + 1) piece ≡ take used piece ++ byte ∷ [] = take_more piece used 0 there ∙ ap (λ (b : ℕ). take used piece ++ b ∷ []) (sym is) in
    ap (λ (l : List ℕ). read (record { part = Some p; series = s }) l) whole
    ∙ read-append (record { part = Some p; series = s }) (take used piece) (byte ∷ [])
    ∙ ap (λ (t : Reading). read t (byte ∷ [])) (leads s)
    ∙ head_byte q r byte s next

data_due : (n : ℕ) (q : Part) → data_of n ≡ Some q → IsDue q
data_due zero q is = absurd (none-some q is)
data_due (suc n) q is =
    let some : 0 < suc n = omega arith in
    subst IsDue (same_Some (Data (suc n)) q (sym (some_data (suc n) some) ∙ is)) some

pub head_due : (p q : Part) (byte : ℕ) → head_behind p byte ≡ Some q → IsDue q
head_due Kind q zero is = subst IsDue (same_Some _ _ is) tt
head_due Kind q (suc n) is = absurd (none-some q is)
head_due Length1 q a is = subst IsDue (same_Some _ _ is) tt
head_due (Length2 a) q b is = subst IsDue (same_Some _ _ is) tt
head_due (Length3 a b) q c is = subst IsDue (same_Some _ _ is) tt
head_due (Length4 a b c) q d is = data_due (be32_of (a ∷ b ∷ c ∷ d ∷ [])) q is
head_due (Data left) q b is = absurd (none-some q is)

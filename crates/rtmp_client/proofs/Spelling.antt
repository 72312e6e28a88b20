-- Bodies that are written value by value
use Rattle.std.proofs.Common.{◌≡◌, ℕ, List, [], ◌∷◌, ◌++◌, sym, ap, ◌∙◌, append_assoc, append-nil}
use Rattle.std.specs.Prelude.{codes}
use Rattle.amf0_value.specs.Tree.{text}
use Rattle.amf0_value.specs.Encoding.{spelling}
use Rattle.amf0_value.specs.Spelling.{be}
use Rattle.client_owed.specs.Client.{described, flash_ver, tc_url}
use Rattle.client_owed.specs.declared.types.Asked.{Asked}

pub three_parts : (a b p q r : List ℕ) → a ≡ p ++ q → b ≡ a ++ r → b ≡ p ++ (q ++ (r ++ []))
three_parts a b p q r ea eb =
    eb ∙ ap (λ (y : List ℕ). y ++ r) ea ∙ append_assoc p q r ∙ ap (λ (y : List ℕ). p ++ (q ++ y)) (sym (append-nil r))

pub four_parts : (a b c p q r s : List ℕ) → a ≡ p ++ q → b ≡ a ++ r → c ≡ b ++ s → c ≡ p ++ (q ++ (r ++ (s ++ [])))
four_parts a b c p q r s ea eb ec =
    ec ∙ ap (λ (y : List ℕ). y ++ s) (three_parts a b p q r ea eb) ∙ append_assoc p (q ++ (r ++ [])) s ∙ ap (λ (y : List ℕ). p ++ y) (append_assoc q (r ++ []) s)
    ∙ ap (λ (y : List ℕ). p ++ (q ++ (y ++ s))) (append-nil r) ∙ ap (λ (y : List ℕ). p ++ (q ++ (r ++ y))) (sym (append-nil s))

pub five_parts : (a b c d p q r s t : List ℕ) → a ≡ p ++ q → b ≡ a ++ r → c ≡ b ++ s → d ≡ c ++ t → d ≡ p ++ (q ++ (r ++ (s ++ (t ++ []))))
five_parts a b c d p q r s t ea eb ec ed =
    ed ∙ ap (λ (y : List ℕ). y ++ t) (four_parts a b c p q r s ea eb ec) ∙ append_assoc p (q ++ (r ++ (s ++ []))) t ∙ ap (λ (y : List ℕ). p ++ y) (append_assoc q (r ++ (s ++ [])) t)
    ∙ ap (λ (y : List ℕ). p ++ (q ++ y)) (append_assoc r (s ++ []) t) ∙ ap (λ (y : List ℕ). p ++ (q ++ (r ++ (y ++ t)))) (append-nil s) ∙ ap (λ (y : List ℕ). p ++ (q ++ (r ++ (s ++ y)))) (sym (append-nil t))

-- the object of a connect: what stands before each of its texts, and behind them
abbrev app_key : List ℕ
app_key = 0x03 ∷ 0x00 ∷ 0x03 ∷ codes "app"

abbrev ver_key : List ℕ
ver_key = 0x00 ∷ 0x08 ∷ codes "flashVer"

abbrev url_key : List ℕ
url_key = 0x00 ∷ 0x05 ∷ codes "tcUrl"

abbrev tail : List ℕ
tail = 0x00 ∷ 0x00 ∷ 0x09 ∷ []

behind_texts : (a b c : List ℕ) → (a ++ (ver_key ++ (b ++ (url_key ++ (c ++ []))))) ++ tail ≡ a ++ (ver_key ++ (b ++ (url_key ++ (c ++ tail))))
behind_texts a b c =
    append_assoc a (ver_key ++ (b ++ (url_key ++ (c ++ [])))) tail
    ∙ ap (λ (y : List ℕ). a ++ (ver_key ++ y)) (append_assoc b (url_key ++ (c ++ [])) tail ∙ ap (λ (y : List ℕ). b ++ (url_key ++ y)) (append_assoc c [] tail))

described_spelled : (k : Asked) → spelling (described k) ≡ app_key ++ (spelling (text k.app) ++ (ver_key ++ (spelling (text flash_ver) ++ (url_key ++ (spelling (text (tc_url k)) ++ tail)))))
unfolding be
described_spelled k = ap (λ (y : List ℕ). app_key ++ y) (behind_texts (spelling (text k.app)) (spelling (text flash_ver)) (spelling (text (tc_url k))))

-- with more behind it
joined : (w p x r : List ℕ) → x ≡ w ++ p → x ++ r ≡ w ++ (p ++ r)
joined w p x r e = ap (λ (y : List ℕ). y ++ r) e ∙ append_assoc w p r

pub described_parts : (k : Asked) (old a b c d e f g app url : List ℕ) → app ≡ k.app → url ≡ tc_url k → a ≡ old ++ app_key → b ≡ a ++ spelling (text app) → c ≡ b ++ ver_key → d ≡ c ++ spelling (text flash_ver) → e ≡ d ++ url_key
    → f ≡ e ++ spelling (text url) → g ≡ f ++ tail → g ≡ old ++ spelling (described k)
described_parts k old a b c d e f g app url app_is url_is ea eb ec ed ee ef eg =
    let t = spelling (text k.app) in
    let v = spelling (text flash_ver) in
    let u = spelling (text (tc_url k)) in
    let eb' : b ≡ a ++ t = eb ∙ ap (λ (y : List ℕ). a ++ spelling (text y)) app_is in
    let ef' : f ≡ e ++ u = ef ∙ ap (λ (y : List ℕ). e ++ spelling (text y)) url_is in
    let r5 = url_key ++ (u ++ tail) in
    let r3 = ver_key ++ (v ++ r5) in
    eg ∙ joined e u f tail ef' ∙ joined d url_key e (u ++ tail) ee ∙ joined c v d r5 ed ∙ joined b ver_key c (v ++ r5) ec ∙ joined a t b r3 eb' ∙ joined old app_key a (t ++ r3) ea
    ∙ ap (λ (y : List ℕ). old ++ y) (sym (described_spelled k))

pub url_parts : (k : Asked) (none a b c d address app : List ℕ) → none ≡ [] → address ≡ k.address → app ≡ k.app → a ≡ none ++ codes "rtmp://" → b ≡ a ++ address → c ≡ b ++ codes "/" → d ≡ c ++ app → d ≡ tc_url k
url_parts k none a b c d address app n address_is app_is ea eb ec ed =
    let ea' : a ≡ codes "rtmp://" = ea ∙ ap (λ (y : List ℕ). y ++ codes "rtmp://") n in
    let eb' : b ≡ codes "rtmp://" ++ k.address = eb ∙ ap (λ (y : List ℕ). a ++ y) address_is ∙ ap (λ (y : List ℕ). y ++ k.address) ea' in
    ed ∙ ap (λ (y : List ℕ). c ++ y) app_is ∙ joined b (codes "/") c k.app ec ∙ joined (codes "rtmp://") k.address b (codes "/" ++ k.app) eb'

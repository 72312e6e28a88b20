-- A unit that is sent on as a message, and made a unit of that without lengths of NAL units
use Rattle.std.proofs.Common.{◌≡◌, ◌==◌, ◌⊎◌, inl, inr, ℕ, Bool, true, false, ◌&&◌, if◌then◌else◌, List, [], ◌∷◌, drop, length, Option, Some, None, refl, sym}
use Rattle.std.proofs.Common.{ap, ◌∙◌, subst}
use Rattle.std.specs.Prelude.{codes, nat_lt, option_map}
use Rattle.std.proofs.lemmas.Bool.{cases_Bool}
use Rattle.av_unit.specs.Classes.{begins_with_text, class_of, finer, finer_class, from_of, kind_of, low, message_type, placed, table_class, unit_from}
use Rattle.av_unit.specs.Disposable.{is_disposable}
use Rattle.av_unit.specs.Fits.{is_config}
use Rattle.av_unit.specs.Media.{Media}
use Rattle.av_unit.specs.declared.unit.Class.{Class}
use Rattle.av_unit.specs.declared.unit.Kind.{Kind}
use Rattle.av_unit.specs.declared.unit.Kind.TheVariants.{Meta, VConfig, AConfig, Key, Inter, Spare, Audio, Data}
use Rattle.av_unit.proofs.Spared.{no_size}
use Rattle.origin_calls.specs.Calls.{unit_in}
use Rattle.origin_calls.specs.Origin.{IsMade, tag_of}

-- ---- the unit of a class

abbrev media_with : ℕ → List ℕ → Kind → Media
media_with time body kind = record { kind = kind; time = time; body = body }

abbrev media_at : ℕ → List ℕ → Class → Media
media_at time body c = record { kind = c.kind; time = time; body = drop c.from body }

abbrev class_at : ℕ → Kind → Class
class_at from kind = record { kind = kind; from = from }

abbrev unit_by : ℕ → ℕ → List ℕ → Class → Media
unit_by size time body c = media_with time (drop c.from body) (finer size (drop c.from body) c.kind)

-- the class by the table, with which a unit is made
record IsClassed (message size time : ℕ) (body : List ℕ) (u : Media) : Type 0 where
  row : Class
  by_table : table_class message body ≡ Some row
  is : u ≡ unit_by size time body row

some_media : (x y : Media) → Some x ≡ Some y → x ≡ y
some_media x y e = cc

of_class : (o : Option Class) (size time : ℕ) (body : List ℕ) (u : Media) → option_map (media_at time body) (option_map (finer_class size body) o) ≡ Some u
    → (c : Class) × (o ≡ Some c) × (u ≡ unit_by size time body c)
of_class None size time body u e = absurd (cc)
of_class (Some c) size time body u e = (c, refl, sym (some_media (unit_by size time body c) u e))

classed : (message size time : ℕ) (body : List ℕ) (u : Media) → unit_from message time body size ≡ Some u → IsClassed message size time body u
unfolding unit_from class_of
classed message size time body u e = let p = of_class (table_class message body) size time body u e in record { row = p.0; by_table = p.1; is = p.2 }

is_unit : (message size time : ℕ) (body : List ℕ) (c : Class) → table_class message body ≡ Some c
    → unit_from message time body size ≡ Some (unit_by size time body c)
unfolding unit_from class_of
is_unit message size time body c e = ap (λ (o : Option Class). option_map (media_at time body) (option_map (finer_class size body) o)) e

one_class : (m : ℕ) (body : List ℕ) (c d : Class) → table_class m body ≡ Some c → table_class m body ≡ Some d → c ≡ d
one_class m body c d e f = let h : Some c ≡ Some d = sym e ∙ f in cc

-- ---- kinds

pick_none : (a d : Bool) → d ≡ false → (if a && d then Spare else Inter) ≡ Inter
pick_none true d e = ap (λ (b : Bool). if b then Spare else Inter) e
pick_none false d e = refl

none_disposable : (body : List ℕ) → is_disposable 0 body ≡ false
unfolding is_disposable
none_disposable body = no_size 0 (drop 5 body) refl

-- without lengths a kind stays
finer_none : (body : List ℕ) (k : Kind) → finer 0 body k ≡ k
finer_none body Inter = pick_none (low body == 7) (is_disposable 0 body) (none_disposable body)
finer_none body Meta = refl
finer_none body VConfig = refl
finer_none body AConfig = refl
finer_none body Key = refl
finer_none body Spare = refl
finer_none body Audio = refl
finer_none body Data = refl

-- which kind a picture was
abbrev pub WasFrame : Kind → Kind → Type 0
WasFrame Key k = k ≡ Key
WasFrame Inter k = (k ≡ Inter) ⊎ (k ≡ Spare)
WasFrame _ k = Unit {0}

pick_either : (b : Bool) → ((if b then Spare else Inter) ≡ Inter) ⊎ ((if b then Spare else Inter) ≡ Spare)
pick_either true = inr refl
pick_either false = inl refl

finer_was : (size : ℕ) (body : List ℕ) (k : Kind) → WasFrame k (finer size body k)
finer_was size body Inter = pick_either ((low body == 7) && is_disposable size body)
finer_was size body Key = refl
finer_was size body Meta = tt
finer_was size body VConfig = tt
finer_was size body AConfig = tt
finer_was size body Spare = tt
finer_was size body Audio = tt
finer_was size body Data = tt

-- a frame that was told apart is that frame
abbrev IsNow : Kind → Kind → Type 0
IsNow Key k = k ≡ Key
IsNow Inter k = k ≡ Inter
IsNow _ k = Unit {0}

pick_now : (b : Bool) → IsNow (if b then Spare else Inter) Inter
pick_now true = tt
pick_now false = refl

finer_now : (size : ℕ) (body : List ℕ) (k : Kind) → IsNow (finer size body k) k
finer_now size body Inter = pick_now ((low body == 7) && is_disposable size body)
finer_now size body Key = refl
finer_now size body Meta = tt
finer_now size body VConfig = tt
finer_now size body AConfig = tt
finer_now size body Spare = tt
finer_now size body Audio = tt
finer_now size body Data = tt

-- ---- data is no frame

abbrev IsData : Kind → Type 0
IsData Meta = Unit {0}
IsData Data = Unit {0}
IsData _ = ⊥

some_kind : (j k : Kind) → Some j ≡ Some k → j ≡ k
some_kind j k e = cc

data_kind : (body : List ℕ) (k : Kind) → kind_of 18 body ≡ Some k → IsData k
data_kind [] k e = absurd (cc)
data_kind (a ∷ rest) k e = elim (cases_Bool (begins_with_text (codes "onMetaData") (a ∷ rest))) [
  | inl f ↦ let g = rw f at e in let h : Meta ≡ k = cc in subst IsData h tt
  | inr f ↦ let g = rw f at e in let h : Data ≡ k = cc in subst IsData h tt
]

placed_kind : (from : ℕ) (rest : List ℕ) (o : Option Kind) (c : Class) → placed from rest o ≡ Some c → o ≡ Some c.kind
placed_kind from rest None c e = absurd (cc)
placed_kind from rest (Some k) c e = by_test (is_config k && nat_lt 65536 (length rest)) e
  where
    by_test : (b : Bool) → (if b then None else Some (class_at from k)) ≡ Some c → Some k ≡ Some c.kind
    by_test true f = absurd (cc)
    by_test false f = ap (λ (o : Option Class). option_map (λ (d : Class). d.kind) o) f

data_class : (body : List ℕ) (c : Class) → table_class 18 body ≡ Some c → IsData c.kind
unfolding table_class
data_class body c e =
    data_kind (drop (from_of 18 body) body) c.kind (placed_kind (from_of 18 body) (drop (from_of 18 body) body) (kind_of 18 (drop (from_of 18 body) body)) c e)

-- ---- a unit of the origin, and the unit that is made of its message

-- the same, or a picture that was told apart there
pub record IsAgain (u v : Media) : Type 0 where
  pub time : v.time ≡ u.time
  pub body : v.body ≡ u.body
  pub kind : WasFrame v.kind u.kind

again_of : (size : ℕ) (u v : Media) → IsClassed (message_type u.kind) size u.time u.body u → IsClassed (message_type u.kind) 0 u.time u.body v → IsAgain u v
again_of size u v a b =
    let same : b.row ≡ a.row = one_class (message_type u.kind) u.body b.row a.row b.by_table a.by_table in
    let is : v ≡ unit_by 0 u.time u.body a.row = b.is ∙ ap (unit_by 0 u.time u.body) same in
    let body : List ℕ = drop a.row.from u.body in
    let kind : v.kind ≡ a.row.kind = ap (λ (m : Media). m.kind) is ∙ finer_none body a.row.kind in
    let was : u.kind ≡ finer size body v.kind = ap (λ (m : Media). m.kind) a.is ∙ ap (finer size body) (sym kind) in
    record {
      time = ap (λ (m : Media). m.time) is;
      body = ap (λ (m : Media). m.body) is ∙ sym (ap (λ (m : Media). m.body) a.is);
      kind = subst (WasFrame v.kind) (sym was) (finer_was size body v.kind);
    }

-- a frame isn't made of data
abbrev pub IsFrameKind : Kind → Type 0
IsFrameKind k = (k ≡ Key) ⊎ (k ≡ Inter)

no_frame : (k : Kind) → IsData k → IsFrameKind k → ⊥
no_frame k d (inl e) = subst IsData e d
no_frame k d (inr e) = subst IsData e d

not_data : (u v : Media) → unit_in (tag_of u) ≡ Some v → IsFrameKind v.kind → u.kind ≡ Data → ⊥
not_data u v e f d =
    let b = classed (message_type u.kind) 0 u.time u.body v e in
    let table : table_class 18 u.body ≡ Some b.row = ap (λ (k : Kind). table_class (message_type k) u.body) (sym d) ∙ b.by_table in
    let kind : v.kind ≡ b.row.kind = ap (λ (m : Media). m.kind) b.is ∙ finer_none (drop b.row.from u.body) b.row.kind in
    no_frame v.kind (subst IsData (sym kind) (data_class u.body b.row table)) f

pub again : (u v : Media) → IsMade u → unit_in (tag_of u) ≡ Some v → IsFrameKind v.kind → IsAgain u v
again u v m e f =
    let itself = m.1 (λ d. absurd (not_data u v e f d)) in
    again_of m.0 u v (classed (message_type u.kind) m.0 u.time u.body u itself) (classed (message_type u.kind) 0 u.time u.body v e)

key_or_inter : (j k : Kind) → IsFrameKind j → IsNow j k → k ≡ j
key_or_inter j k (inl e) n = subst (λ (x : Kind). IsNow x k) e n ∙ sym e
key_or_inter j k (inr e) n = subst (λ (x : Kind). IsNow x k) e n ∙ sym e

data_no_frame : (k : Kind) → IsFrameKind k → k ≡ Data → ⊥
data_no_frame k f d = no_frame k (subst IsData (sym d) tt) f

-- A FRAME IS MADE THE SAME FRAME AGAIN
pub frame_again : (u : Media) → IsMade u → IsFrameKind u.kind → unit_in (tag_of u) ≡ Some u
frame_again u m f =
    let a = classed (message_type u.kind) m.0 u.time u.body u (m.1 (λ d. absurd (data_no_frame u.kind f d))) in
    let body : List ℕ = drop a.row.from u.body in
    let finer_is : finer m.0 body a.row.kind ≡ u.kind = sym (ap (λ (x : Media). x.kind) a.is) in
    let now : a.row.kind ≡ u.kind = key_or_inter u.kind a.row.kind f (subst (λ (x : Kind). IsNow x a.row.kind) finer_is (finer_now m.0 body a.row.kind)) in
    let same : finer 0 body a.row.kind ≡ finer m.0 body a.row.kind = finer_none body a.row.kind ∙ now ∙ sym finer_is in
    is_unit (message_type u.kind) 0 u.time u.body a.row a.by_table
    ∙ ap (λ (k : Kind). Some (media_with u.time body k)) same ∙ ap Some (sym a.is)

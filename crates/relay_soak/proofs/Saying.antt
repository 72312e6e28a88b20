-- What clients write
use Rattle.std.proofs.Common.{◌≡◌, ◌≤◌, ◌+◌, ℕ, suc, Bool, true, false, if◌then◌else◌, List, [], ◌∷◌, ◌++◌, length, sym, ap, ◌∙◌, subst, arith, append_assoc, append-nil}
use Rattle.chunk_wire.specs.declared.message.Message.{Message}
use Rattle.chunk_writer.specs.WriterKnown.{WriterKnown}
use Rattle.chunk_writer.specs.Written.{after_all, bytes_of, next, written}
use Rattle.relay_soak.specs.Units.{before, message}

never : false ≡ true → ⊥
never e = cc

-- three messages in turn
pub written_three : (w w1 w2 : WriterKnown) (a b c : Message) (front o1 o2 o3 : List ℕ) → w1 ≡ next w a → w2 ≡ next w1 b → o1 ≡ front ++ bytes_of w a → o2 ≡ o1 ++ bytes_of w1 b → o3 ≡ o2 ++ bytes_of w2 c
    → o3 ≡ front ++ written w (a ∷ b ∷ c ∷ [])
unfolding written
written_three w w1 w2 a b c front o1 o2 o3 e1 e2 f1 f2 f3 =
    let A = bytes_of w a in
    let B = bytes_of (next w a) b in
    let C = bytes_of (next (next w a) b) c in
    let second : o2 ≡ o1 ++ B = f2 ∙ ap (λ (v : WriterKnown). o1 ++ bytes_of v b) e1 in
    let v2 : w2 ≡ next (next w a) b = e2 ∙ ap (λ (v : WriterKnown). next v b) e1 in
    let third : o3 ≡ o2 ++ C = f3 ∙ ap (λ (v : WriterKnown). o2 ++ bytes_of v c) v2 in
    third ∙ ap (λ (l : List ℕ). l ++ C) (second ∙ ap (λ (l : List ℕ). l ++ B) f1) ∙ append_assoc (front ++ A) B C ∙ append_assoc front A (B ++ C)
    ∙ ap (λ (l : List ℕ). front ++ (A ++ (B ++ l))) (sym (append-nil C))

pub after_three : (w w1 w2 w3 : WriterKnown) (a b c : Message) → w1 ≡ next w a → w2 ≡ next w1 b → w3 ≡ next w2 c → w3 ≡ after_all w (a ∷ b ∷ c ∷ [])
unfolding after_all
after_three w w1 w2 w3 a b c e1 e2 e3 = e3 ∙ ap (λ (v : WriterKnown). next v c) (e2 ∙ ap (λ (v : WriterKnown). next v b) e1)

-- ---- units

head_by : (a b c : Bool) → length {A = ℕ} (if a then 23 ∷ 0 ∷ [] else (if b then 23 ∷ 1 ∷ [] else (if c then 39 ∷ 1 ∷ [] else 175 ∷ 1 ∷ []))) ≤ 2
head_by true b c = omega arith
head_by false true c = omega arith
head_by false false true = omega arith
head_by false false false = omega arith

both : (x : Bool) → x ≡ false → x ≡ true → ⊥
both x f t = never (sym f ∙ t)

pub before_more : (i : ℕ) (w v : WriterKnown) → w ≡ before i → v ≡ next w (message i) → v ≡ before (i + 1)
before_more i w v e f =
    let one : suc i ≡ i + 1 = omega arith in
    subst (λ (k : ℕ). v ≡ before k) one (f ∙ ap (λ (x : WriterKnown). next x (message i)) e)

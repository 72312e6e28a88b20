-- A step of a link in memory has one answer.
use Rattle.std.proofs.Common.{◌≡◌, ◌≢◌, ◌∙◌, ℕ, List, [], ◌∷◌, Option, Some, None, Bool, true, false, refl, ap, sym}
use Rattle.std.specs.Option.{unwrap_or}
use Rattle.std.specs.List.{concat}
use Rattle.relay_outside.specs.Heard.{Came, CameBytes, CameEnd, CameNotYet, CameFailed}
use Rattle.relay_outside.specs.Pieces.{nonempty_from, first_bytes}
use Rattle.relay_outside.specs.MemLinks.{MemLinkState, MemHears, MemSays}
use Rattle.relay_outside.specs.declared.link.Said.{Said}
use Rattle.relay_outside.specs.declared.link.Said.TheVariants.{Took, NotYet, Failed, OutOfMemory}

-- where no byte is left, no piece is
none_first : (room : ℕ) (pieces : List (List ℕ)) → concat pieces ≡ [] → first_bytes room (nonempty_from pieces) ≡ None
none_first room [] e = refl
none_first room ([] ∷ pieces) e = none_first room pieces e
none_first room ((byte ∷ bytes) ∷ pieces) e = absurd (cc)

not_both : {X : Type 0} (o : Option X) (x : X) → Some x ≡ o → o ≡ None → ⊥
not_both None x e n = cc
not_both (Some y) x e n = cc

true_false : (b : Bool) → b ≡ true → b ≡ false → ⊥
true_false b t f = cc

pub record Same {A M : Type 0} (a b : A) (m n : M) : Type 0 where
  pub answer : a ≡ b
  pub after : m ≡ n

pub one_heard : (l m n : MemLinkState) (room : ℕ) (a b : Came) → MemHears l room a m → MemHears l room b n → Same a b m n
one_heard l m n room (CameBytes x) (CameBytes y) h k =
    let same : x ≡ y = ap (λ (o : Option (List ℕ)). unwrap_or o []) (h.1 ∙ sym k.1) in
    record { answer = ap CameBytes same; after = rw (h.2, k.2, same) refl }
one_heard l m n room (CameBytes x) CameEnd h k = absurd (not_both _ x h.1 (none_first room l.pieces k.1))
one_heard l m n room (CameBytes x) CameNotYet h k = absurd (not_both _ x h.1 (none_first room l.pieces k.1))
one_heard l m n room (CameBytes x) CameFailed h k = absurd (true_false l.recv_fails k.0 h.0)
one_heard l m n room CameEnd (CameBytes y) h k = absurd (not_both _ y k.1 (none_first room l.pieces h.1))
one_heard l m n room CameEnd CameEnd h k = record { answer = refl; after = h.3 ∙ sym k.3 }
one_heard l m n room CameEnd CameNotYet h k = absurd (true_false l.ended h.2 k.2)
one_heard l m n room CameEnd CameFailed h k = absurd (true_false l.recv_fails k.0 h.0)
one_heard l m n room CameNotYet (CameBytes y) h k = absurd (not_both _ y k.1 (none_first room l.pieces h.1))
one_heard l m n room CameNotYet CameEnd h k = absurd (true_false l.ended k.2 h.2)
one_heard l m n room CameNotYet CameNotYet h k = record { answer = refl; after = h.3 ∙ sym k.3 }
one_heard l m n room CameNotYet CameFailed h k = absurd (true_false l.recv_fails k.0 h.0)
one_heard l m n room CameFailed (CameBytes y) h k = absurd (true_false l.recv_fails h.0 k.0)
one_heard l m n room CameFailed CameEnd h k = absurd (true_false l.recv_fails h.0 k.0)
one_heard l m n room CameFailed CameNotYet h k = absurd (true_false l.recv_fails h.0 k.0)
one_heard l m n room CameFailed CameFailed h k = record { answer = refl; after = h.1 ∙ sym k.1 }

pub one_said : (l m n : MemLinkState) (piece : List ℕ) (a b : Said) → MemSays l piece a m → MemSays l piece b n
    → a ≢ OutOfMemory → b ≢ OutOfMemory → Same a b m n
one_said l m n piece (Took x) (Took y) h k s t =
    let same : x ≡ y = h.2 ∙ sym k.2 in
    record { answer = ap Took same; after = rw (h.3, k.3, same) refl }
one_said l m n piece (Took x) NotYet h k s t = absurd (h.1 k.1)
one_said l m n piece (Took x) Failed h k s t = absurd (true_false l.send_fails k.0 h.0)
one_said l m n piece (Took x) OutOfMemory h k s t = absurd (t refl)
one_said l m n piece NotYet (Took y) h k s t = absurd (k.1 h.1)
one_said l m n piece NotYet NotYet h k s t = record { answer = refl; after = h.2 ∙ sym k.2 }
one_said l m n piece NotYet Failed h k s t = absurd (true_false l.send_fails k.0 h.0)
one_said l m n piece NotYet OutOfMemory h k s t = absurd (t refl)
one_said l m n piece Failed (Took y) h k s t = absurd (true_false l.send_fails h.0 k.0)
one_said l m n piece Failed NotYet h k s t = absurd (true_false l.send_fails h.0 k.0)
one_said l m n piece Failed Failed h k s t = record { answer = refl; after = h.1 ∙ sym k.1 }
one_said l m n piece Failed OutOfMemory h k s t = absurd (t refl)
one_said l m n piece OutOfMemory b h k s t = absurd (s refl)

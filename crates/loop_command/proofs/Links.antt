-- What a step of a link in memory leaves: what it handed over, and all the bytes that it was given
use Rattle.std.proofs.Common.{◌≡◌, ℕ, List, [], ◌∷◌, ◌++◌, length, drop, Option, Some, None, refl, sym, ap, ◌∙◌, subst, arith, append_assoc, append-nil}
use Rattle.std.proofs.Common.{length-append}
use Rattle.std.proofs.Common.{◌+◌, ◌≤◌}
use Rattle.std.specs.List.{concat}
use Rattle.std.proofs.lemmas.List.{take-append-drop}
use Rattle.relay_outside.specs.Heard.{Came, CameBytes, CameEnd, CameNotYet, CameFailed}
use Rattle.relay_outside.specs.MemLinks.{MemHears, MemLinkState, MemSays}
use Rattle.relay_outside.specs.MemLinkLaws.{mem_hears_mean}
use Rattle.relay_outside.specs.Told.{LinkTold}
use Rattle.relay_outside.specs.declared.link.Said.{Said}
use Rattle.relay_outside.specs.declared.link.Said.TheVariants as said
use Rattle.loop_command.specs.Course.{Passes, pieces_with}
use Rattle.loop_command.specs.Lines.{IsPassed, Works, most_passed}

pub record Keeps (l m : MemLinkState) : Type 0 where
  pub handed : m.handed ≡ l.handed
  pub stream : m.gave ++ concat m.pieces ≡ l.gave ++ concat l.pieces
  pub works : Works l → Works m

abbrev SameFlags : MemLinkState → MemLinkState → Type 0
SameFlags l m = (m.recv_fails ≡ l.recv_fails) × (m.send_fails ≡ l.send_fails) × (m.ended ≡ l.ended)

flags : (l m : MemLinkState) → m ≡ l → SameFlags l m
flags l m e = (ap (λ (q : MemLinkState). q.recv_fails) e, ap (λ (q : MemLinkState). q.send_fails) e, ap (λ (q : MemLinkState). q.ended) e)

still_works : (l m : MemLinkState) → SameFlags l m → Works l → Works m
still_works l m e w = record { receives = e.0 ∙ w.receives; sends = e.1 ∙ w.sends; lasts = e.2 ∙ w.lasts }

pub keeps_link : (l m : MemLinkState) → m ≡ l → Keeps l m
keeps_link l m e = record {
  handed = ap (λ (q : MemLinkState). q.handed) e;
  stream = ap (λ (q : MemLinkState). q.gave ++ concat q.pieces) e;
  works = subst Works (sym e);
}

pub keeps_then : (l m n : MemLinkState) → Keeps l m → Keeps m n → Keeps l n
keeps_then l m n a b = record { handed = b.handed ∙ a.handed; stream = b.stream ∙ a.stream; works = λ w. b.works (a.works w) }

abbrev left_of : Option LinkTold → List ℕ
left_of None = []
left_of (Some t) = t.left

none_left : (l m : MemLinkState) → concat l.pieces ≡ [] → concat m.pieces ≡ [] → m.gave ≡ l.gave → m.handed ≡ l.handed
    → SameFlags l m → Keeps l m
none_left l m none still gave handed same = record {
  handed = handed;
  stream = ap (λ (y : List ℕ). y ++ concat m.pieces) gave ∙ ap (λ (y : List ℕ). l.gave ++ y) (still ∙ sym none);
  works = still_works l m same;
}

pub heard_keeps : (came : Came) (l m : MemLinkState) → MemHears l 4096 came m → Keeps l m
heard_keeps (CameBytes b) l m s =
    let step = mem_hears_mean l 4096 (CameBytes b) m (omega arith) s in
    let left : concat m.pieces ≡ drop (length b) (concat l.pieces) = ap left_of step.told.1 in
    let gave : m.gave ≡ l.gave ++ b = ap (λ (q : MemLinkState). q.gave) s.2 in
    let first : b ++ drop (length b) (concat l.pieces) ≡ concat l.pieces = ap (λ (y : List ℕ). y ++ drop (length b) (concat l.pieces)) step.told.0
    ∙ take-append-drop (length b) (concat l.pieces) in
    record {
      handed = ap (λ (q : MemLinkState). q.handed) s.2;
      stream = ap (λ (y : List ℕ). y ++ concat m.pieces) gave ∙ ap (λ (y : List ℕ). (l.gave ++ b) ++ y) left
          ∙ append_assoc l.gave b (drop (length b) (concat l.pieces)) ∙ ap (λ (y : List ℕ). l.gave ++ y) first;
      works = still_works l m (flags _ m s.2);
    }
heard_keeps CameEnd l m s = none_left l m s.1 (ap (λ (q : MemLinkState). concat q.pieces) s.3) (ap (λ (q : MemLinkState). q.gave) s.3)
    (ap (λ (q : MemLinkState). q.handed) s.3) (flags _ m s.3)
heard_keeps CameNotYet l m s = none_left l m s.1 (ap (λ (q : MemLinkState). concat q.pieces) s.3) (ap (λ (q : MemLinkState). q.gave) s.3)
    (ap (λ (q : MemLinkState). q.handed) s.3) (flags _ m s.3)
heard_keeps CameFailed l m s =
    let e = flags _ m s.1 in
    record {
      handed = ap (λ (q : MemLinkState). q.handed) s.1;
      stream = ap (λ (q : MemLinkState). q.gave ++ concat q.pieces) s.1;
      works = λ w. record { receives = e.0; sends = e.1 ∙ w.sends; lasts = e.2 ∙ w.lasts };
    }

pub said_keeps : (q : Said) (p : List ℕ) (l m : MemLinkState) → MemSays l p q m → Keeps l m
said_keeps (said.Took n) p l m s = record {
  handed = ap (λ (q : MemLinkState). q.handed) s.3;
  stream = ap (λ (q : MemLinkState). q.gave ++ concat q.pieces) s.3;
  works = still_works l m (flags _ m s.3);
}
said_keeps said.NotYet p l m s = record {
  handed = ap (λ (q : MemLinkState). q.handed) s.2;
  stream = ap (λ (q : MemLinkState). q.gave ++ concat q.pieces) s.2;
  works = still_works l m (flags _ m s.2);
}
said_keeps said.Failed p l m s =
    let e = flags _ m s.1 in
    record {
      handed = ap (λ (q : MemLinkState). q.handed) s.1;
      stream = ap (λ (q : MemLinkState). q.gave ++ concat q.pieces) s.1;
      works = λ w. record { receives = e.0 ∙ w.receives; sends = e.1; lasts = e.2 ∙ w.lasts };
    }
said_keeps said.OutOfMemory p l m s = keeps_link l m s.2

-- ---- what was taken is handed on

concat_last : (ps : List (List ℕ)) (p : List ℕ) → concat (ps ++ p ∷ []) ≡ concat ps ++ p
concat_last [] p = append-nil p
concat_last (q ∷ ps) p = ap (λ (l : List ℕ). q ++ l) (concat_last ps p) ∙ sym (append_assoc q (concat ps) p)

pieces_concat : (ps : List (List ℕ)) (p : List ℕ) → concat (pieces_with ps p) ≡ concat ps ++ p
pieces_concat ps [] = sym (append-nil (concat ps))
pieces_concat ps (b ∷ p) = concat_last ps (b ∷ p)

-- what one link took is handed over, and comes to the other
pub handed_on : (near link far near' far' : MemLinkState) (total total' : ℕ) → IsPassed near far total → Keeps near link → Passes link far near' far'
    → total' ≡ total + length link.sent → total' ≤ most_passed → IsPassed near' far' total'
handed_on near link far near' far' total total' p k q n few =
    let handed : near'.handed ≡ link.handed ++ link.sent = ap (λ (m : MemLinkState). m.handed) q.handed in
    let pieces : concat far'.pieces ≡ concat far.pieces ++ link.sent = ap (λ (m : MemLinkState). concat m.pieces) q.given
    ∙ pieces_concat far.pieces link.sent in
    let same : far.gave ++ concat far.pieces ≡ link.handed = p.came ∙ sym k.handed in
    record {
      came = ap (λ (m : MemLinkState). m.gave ++ concat far'.pieces) q.given ∙ ap (λ (y : List ℕ). far.gave ++ y) pieces
          ∙ sym (append_assoc far.gave (concat far.pieces) link.sent)
          ∙ ap (λ (y : List ℕ). y ++ link.sent) same ∙ sym handed;
      none = ap (λ (m : MemLinkState). m.sent) q.handed;
      total_is = omega (arith, n, p.total_is, ap length k.handed, ap length handed, length-append link.handed link.sent);
      few = few;
      works = still_works link near' (flags _ near' q.handed) (k.works p.works);
    }

-- the way back is as it was
pub still_passed : (far near link near' far' : MemLinkState) (total : ℕ) → IsPassed far near total → Keeps near link → Passes link far near' far'
    → IsPassed far' near' total
still_passed far near link near' far' total p k q =
    let handed : far'.handed ≡ far.handed = ap (λ (m : MemLinkState). m.handed) q.given in
    record {
      came = ap (λ (m : MemLinkState). m.gave ++ concat m.pieces) q.handed ∙ k.stream ∙ p.came ∙ sym handed;
      none = ap (λ (m : MemLinkState). m.sent) q.given ∙ p.none;
      total_is = p.total_is ∙ ap length (sym handed);
      few = p.few;
      works = still_works far far' (flags _ far' q.given) p.works;
    }

-- what the link took that is handed over stays taken
pub took_same : (link near' : MemLinkState) → near' ≡ record link { handed = link.handed ++ link.sent; sent = [] }
    → near'.handed ++ near'.sent ≡ link.handed ++ link.sent
took_same link near' e = ap (λ (m : MemLinkState). m.handed ++ m.sent) e ∙ append-nil (link.handed ++ link.sent)

-- ---- how it is handed on

pub passes_none : (from to from' : MemLinkState) (n : ℕ) → from' ≡ record from { handed = from.handed ++ from.sent; sent = [] } → n ≡ length from.sent
    → n ≡ 0 → Passes from to from' to
passes_none from to from' n e l z = record {
  handed = e;
  given =
      ap (λ (x : List ℕ). record to { pieces = pieces_with to.pieces x }) (sym (no_bytes from.sent n l z));
}
  where
    no_bytes : (l : List ℕ) (n : ℕ) → n ≡ length l → n ≡ 0 → l ≡ []
    no_bytes [] n e z = refl
    no_bytes (b ∷ l) n e z = absurd (omega (arith, e, z))

some_pieces : (ps : List (List ℕ)) (p : List ℕ) (n : ℕ) → n ≡ length p → (n ≡ 0 → ⊥) → ps ++ p ∷ [] ≡ pieces_with ps p
some_pieces ps [] n e z = absurd (z e)
some_pieces ps (b ∷ p) n e z = refl

pub passes_some : (from to from' to' : MemLinkState) (n : ℕ) (piece : List ℕ) → from' ≡ record from { handed = from.handed ++ from.sent; sent = [] }
    → piece ≡ from.sent → n ≡ length from.sent → (n ≡ 0 → ⊥) → to' ≡ record to { pieces = to.pieces ++ piece ∷ [] }
    → Passes from to from' to'
passes_some from to from' to' n piece e p l z t = record {
  handed = e;
  given = t ∙ ap (λ (x : List ℕ). record to { pieces = to.pieces ++ x ∷ [] }) p
      ∙ ap (λ (x : List (List ℕ)). record to { pieces = x }) (some_pieces to.pieces from.sent n l z);
}

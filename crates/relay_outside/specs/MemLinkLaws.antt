-- What a step of the link in memory means.
use Rattle.std.proofs.Common.{◌≡◌, ◌≢◌, ℕ, zero, suc, ◌<◌, ◌≤◌, List, [], ◌++◌, length, take, drop, Option, Some, None, refl, ap, sym, ◌∙◌, arith, append_assoc}
use Rattle.std.specs.Option.{unwrap_or}
use Rattle.std.proofs.Math.Seq.{take-append_seam, drop-append_seam}
use Rattle.std.specs.List.{concat}
use Rattle.relay_outside.specs.MemoryLaws.{rose-risen, gives_front}
use Rattle.relay_outside.specs.Heard.{Came, CameBytes, CameEnd, CameNotYet, CameFailed, HearStep}
use Rattle.relay_outside.specs.Said.{SayStep}
use Rattle.relay_outside.specs.Pieces.{nonempty_from, first_bytes, cut_first}
use Rattle.relay_outside.specs.MemLinks.{MemLinkState, MemHears, MemSays, mem_told, room_for}
use Rattle.relay_outside.specs.declared.link.Said.{Said}
use Rattle.relay_outside.specs.declared.link.Said.TheVariants.{Took, NotYet, Failed, OutOfMemory}

-- the first bytes of pieces are the front of all, and the others stay
pub record IsFront (room : ℕ) (pieces : List (List ℕ)) (bytes : List ℕ) : Type 0 where
  pub count : (0 < length bytes) × (length bytes ≤ room)
  pub first : bytes ≡ take (length bytes) (concat pieces)
  pub others : concat (cut_first room (nonempty_from pieces)) ≡ drop (length bytes) (concat pieces)

pub first_bytes-front : (room : ℕ) (pieces : List (List ℕ)) (bytes : List ℕ) → 0 < room → Some bytes ≡ first_bytes room (nonempty_from pieces)
    → IsFront room pieces bytes
first_bytes-front room pieces bytes some is =
    let step = rw (sym is) at (gives_front room 0 pieces some) in
    let others = concat (cut_first room (nonempty_from pieces)) in
    let whole : concat pieces ≡ bytes ++ others = ap (λ (o : Option (List ℕ)). unwrap_or o []) step.bytes in
    record {
      count = step.count;
      first = sym (ap (λ (l : List ℕ). take (length bytes) l) whole ∙ take-append_seam bytes others);
      others = sym (ap (λ (l : List ℕ). drop (length bytes) l) whole ∙ drop-append_seam bytes others);
    }

pub mem_hears_mean : (l : MemLinkState) (room : ℕ) (answer : Came) (m : MemLinkState) → 0 < room → MemHears l room answer m
    → HearStep room (Some (mem_told l)) (Some (mem_told m)) l.counts m.counts answer
mem_hears_mean l room (CameBytes bytes) m some step =
    let front = first_bytes-front room l.pieces bytes some step.1 in
    rw (step.2, front.others) (record { count = front.count; told = (front.first, refl); counts = (refl, refl, refl) })
mem_hears_mean l room CameEnd m some step =
    rw (step.3, step.1) (record { count = tt; told = refl; counts = (refl, refl, rose-risen l.counts.ends) })
mem_hears_mean l room CameNotYet m some step =
    rw (step.3, step.1) (record { count = tt; told = refl; counts = (refl, rose-risen l.counts.waits, refl) })
mem_hears_mean l room CameFailed m some step =
    rw step.1 (record { count = tt; told = refl; counts = (rose-risen l.counts.faults, refl, refl) })

-- where there is room, some of the bytes fit
room_for-some : (room : Option ℕ) (n : ℕ) → 0 < n → room ≢ Some 0 → (0 < room_for room n) × (room_for room n ≤ n)
room_for-some None n some free = (some, omega arith)
room_for-some (Some zero) n some free = absurd (free refl)
room_for-some (Some (suc k)) n some free = (omega arith, omega arith)

pub mem_says_mean : (l : MemLinkState) (piece : List ℕ) (answer : Said) (m : MemLinkState) → 0 < length piece → MemSays l piece answer m
    → SayStep piece (Some (mem_told l)) (Some (mem_told m)) l.counts m.counts answer
mem_says_mean l piece (Took n) m some step =
    let fits = rw (sym step.2) at (room_for-some l.room (length piece) some step.1) in
    let joined = sym (append_assoc l.handed l.sent (take n piece)) in
    rw step.3 (record {
      count = fits;
      told = ap (λ (all : List ℕ). Some (record { left = concat l.pieces; gave = l.gave; took = all })) joined;
      counts = (refl, refl, refl);
    })
mem_says_mean l piece NotYet m some step =
    rw step.2 (record { count = tt; told = refl; counts = (refl, rose-risen l.counts.waits, refl) })
mem_says_mean l piece Failed m some step =
    rw step.1 (record { count = tt; told = refl; counts = (rose-risen l.counts.faults, refl, refl) })
mem_says_mean l piece OutOfMemory m some step =
    rw step.2 (record { count = tt; told = refl; counts = (refl, refl, refl) })

-- What a step of the source and the sink in memory means.
use Rattle.std.proofs.Common.{◌≡◌, ℕ, ◌≤◌, ◌<◌, List, [], ◌∷◌, ◌++◌, length, take, drop, Some, Bool, true, false, if◌then◌else◌}
use Rattle.std.proofs.Common.{refl, ap, sym, ◌∙◌, subst, arith, append_assoc, take-append-drop}
use Rattle.std.proofs.lemmas.List.{length-take, take_all}
use Rattle.std.proofs.lemmas.Bool.Decides.{nat_tests}
use Rattle.std.specs.List.{concat}
use Rattle.relay_outside.specs.Counts.{CallCount, next_fails, called, risen, Rose}
use Rattle.relay_outside.specs.Get.{Gave, GaveFailed, GetStep}
use Rattle.relay_outside.specs.Put.{PutStep}
use Rattle.relay_outside.specs.Pieces.{nonempty_from, first_bytes, cut_first}
use Rattle.relay_outside.specs.Memory.{MemSourceState, MemSinkState, MemGives, MemTakes, gave_first}
use Rattle.relay_outside.specs.declared.sink.Put.{Put}
use Rattle.relay_outside.specs.declared.sink.Put.TheVariants.{Took, Failed, OutOfMemory}

pub rose-risen : (n : ℕ) → Rose n (risen n)
rose-risen n = record { later = grind (arith, nat_tests); higher = grind (arith, nat_tests) }

-- the empty pieces before make no difference
pub concat-nonempty_from : (pieces : List (List ℕ)) → concat (nonempty_from pieces) ≡ concat pieces
concat-nonempty_from [] = refl
concat-nonempty_from ([] ∷ pieces) = concat-nonempty_from pieces
concat-nonempty_from ((byte ∷ bytes) ∷ pieces) = refl

some_bytes : (room byte : ℕ) (bytes : List ℕ) → 0 < room → (0 < length (take room (byte ∷ bytes))) × (length (take room (byte ∷ bytes)) ≤ room)
some_bytes room byte bytes some = (rw length-take (omega arith), rw length-take (omega arith))

-- what a get that doesn't fail gives is the front of what was left
pub gives_front : (room faults : ℕ) (pieces : List (List ℕ)) → 0 < room →
    GetStep room (Some (concat pieces)) (Some (concat (cut_first room (nonempty_from pieces)))) faults faults
    (gave_first (first_bytes room (nonempty_from pieces)))
gives_front room faults [] some = record { count = tt; bytes = (refl, refl); cause = refl }
gives_front room faults ([] ∷ pieces) some = gives_front room faults pieces some
gives_front room faults ((byte ∷ bytes) ∷ pieces) some = record {
  count = some_bytes room byte bytes some;
  bytes = ap (λ (l : List ℕ). Some (l ++ concat pieces)) (sym (take-append-drop room (byte ∷ bytes)))
      ∙ ap (λ (l : List ℕ). Some l) (append_assoc (take room (byte ∷ bytes)) (drop room (byte ∷ bytes)) (concat pieces));
  cause = refl;
}

means_by : (fails : Bool) (room faults : ℕ) (pieces : List (List ℕ)) → 0 < room →
    GetStep room (Some (concat pieces)) (Some (concat (if fails then pieces else cut_first room (nonempty_from pieces)))) faults
    (if fails then risen faults else faults)
    (if fails then GaveFailed else gave_first (first_bytes room (nonempty_from pieces)))
means_by true room faults pieces some = record { count = tt; bytes = refl; cause = rose-risen faults }
means_by false room faults pieces some = gives_front room faults pieces some

pub mem_gives_mean : (s : MemSourceState) (room : ℕ) (answer : Gave) (t : MemSourceState) → 0 < room → MemGives s room answer t
    → GetStep room (Some (concat s.pieces)) (Some (concat t.pieces)) s.count.faults t.count.faults answer
mem_gives_mean s room answer t some step = rw (step.answer_is, step.after_is) (means_by (next_fails s.count) room s.count.faults s.pieces some)

faults_after : (count : CallCount) (fails : Bool) → next_fails count ≡ fails → (called count).faults ≡ (if fails then risen count.faults else count.faults)
faults_after count fails is = ap (λ (b : Bool). if b then risen count.faults else count.faults) is

pub mem_takes_mean : (s : MemSinkState) (piece : List ℕ) (answer : Put) (t : MemSinkState) → 0 < length piece → MemTakes s piece answer t
    → PutStep piece (Some s.bytes) (Some t.bytes) s.count.faults t.count.faults answer
mem_takes_mean s piece (Took n) t some step = rw step.2 (record {
  count = (omega (arith, step.1), omega (arith, step.1));
  bytes = ap (λ (l : List ℕ). Some (s.bytes ++ l)) (sym (take_all n piece (omega (arith, step.1))));
  cause = faults_after s.count false step.0;
})
mem_takes_mean s piece Failed t some step = rw step.1 (record {
  count = tt;
  bytes = refl;
  cause = subst (Rose s.count.faults) (sym (faults_after s.count true step.0)) (rose-risen s.count.faults);
})
mem_takes_mean s piece OutOfMemory t some step = rw step.1 (record {
  count = tt;
  bytes = refl;
  cause = faults_after s.count false step.0;
})

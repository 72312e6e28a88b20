-- A file in memory, and what a put does.
use Rattle.std.specs.Prelude.{◌≡◌, ℕ, ◌<◌, Bool, true, false, List, ◌++◌, length, Some}
use Rattle.std.proofs.Common.{refl, ap, sym, arith}
use Rattle.std.proofs.lemmas.List.{take_all}
use Rattle.relay_outside.specs.Counts.{risen}
use Rattle.relay_outside.specs.Put.{PutStep}
use Rattle.relay_outside.specs.MemoryLaws.{rose-risen}
use Rattle.relay_outside.specs.declared.sink.Put.{Put}
use Rattle.relay_outside.specs.declared.sink.Put.TheVariants.{Took, Failed, OutOfMemory}

pub record FileState : Type 0 where
  pub bytes : List ℕ
  -- whether the next put fails
  pub put_fails : Bool
  pub faults : ℕ

-- a put that doesn't fail takes the whole piece, or none of it for want of memory
abbrev pub FileTakes : FileState → List ℕ → Put → FileState → Type 0
FileTakes f piece (Took n) g = (f.put_fails ≡ false) × (n ≡ length piece) × (g ≡ record f { bytes = f.bytes ++ piece })
FileTakes f piece Failed g = (f.put_fails ≡ true) × (g ≡ record f { put_fails = false; faults = risen f.faults })
FileTakes f piece OutOfMemory g = (f.put_fails ≡ false) × (g ≡ f)

pub file_takes_mean : (f : FileState) (piece : List ℕ) (answer : Put) (g : FileState) → 0 < length piece → FileTakes f piece answer g
    → PutStep piece (Some f.bytes) (Some g.bytes) f.faults g.faults answer
file_takes_mean f piece (Took n) g some step = rw step.2 (record {
  count = (omega (arith, step.1), omega (arith, step.1));
  bytes = ap (λ (l : List ℕ). Some (f.bytes ++ l)) (sym (take_all n piece (omega (arith, step.1))));
  cause = refl;
})
file_takes_mean f piece Failed g some step = rw step.1 (record { count = tt; bytes = refl; cause = rose-risen f.faults })
file_takes_mean f piece OutOfMemory g some step = rw step.1 (record { count = tt; bytes = refl; cause = refl })

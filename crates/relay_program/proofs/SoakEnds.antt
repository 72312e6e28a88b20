-- How a soak's ends give its outcome.
use Rattle.std.proofs.Common.{◌≡◌, inl, inr, ℕ, ◌≤◌, List, [], Option, None, Some, refl, sym, ◌∙◌, subst, arith}
use Rattle.std.proofs.lemmas.List.{append-nil}
use Rattle.std.specs.Io.KnownBytes.{append_known}
use Rattle.std.specs.Option.{IfSome}
use Rattle.relay_script.specs.Lines.{count_of}
use Rattle.relay_soak.specs.Runs.{Printed}
use Rattle.relay_program.specs.declared.drills.DrillFail.{DrillFail}
use Rattle.relay_program.specs.declared.drills.DrillFail.TheVariants.{Outside, SourceFault, SinkFault, OutOfMemory}
use Rattle.relay_program.specs.Parts.{PutFails, SinkCause}
use Rattle.relay_program.specs.Ends.{status_of}
use Rattle.relay_program.proofs.Counts.{count_below}
use Rattle.relay_program.specs.Soaked.{Soaked, WritesPartSoak, WritesSoak}

-- ---- so many units

pub some_below : (o : Option ℕ) (word : List ℕ) → o ≡ count_of 100001 word → IfSome o (λ n. n ≤ 100000)
some_below None word e = tt
some_below (Some n) word e = let h = count_below 100001 n word (sym e) in omega (arith, h)

-- ---- ends

none_some : {A : Type 0} (a : A) → None ≡ Some a → ⊥
none_some a e = cc

asked_so : (asked : Option ℕ) (n : ℕ) → asked ≡ Some n → asked ≡ None → ⊥
asked_so asked n is none = none_some n (sym none ∙ is)

only_one : (asked : Option ℕ) (n m : ℕ) → asked ≡ Some n → asked ≡ Some m → n ≡ m
only_one asked n m a b = let h : Some n ≡ Some m = sym a ∙ b in cc

-- the words are others
pub soak_refused : (asked : Option ℕ) (now : Option (List ℕ)) (faults : ℕ) → asked ≡ None → Soaked asked now now faults faults (record { code = 2; place = 0 })
soak_refused asked now faults none = record {
  words = ((λ e. none), (λ e. refl));
  written = λ n is e. absurd (asked_so asked n is none);
  part = λ n is. inl refl;
  sink_fault = λ e. absurd (omega (arith, e));
  sink = λ e. refl;
  codes = inr (inl refl);
  place = refl;
}

-- there was no memory for the run
pub soak_stopped : (asked : Option ℕ) (n : ℕ) (now : Option (List ℕ)) (faults : ℕ) → asked ≡ Some n → Soaked asked now now faults faults (record { code = 6; place = 0 })
soak_stopped asked n now faults is = record {
  words = ((λ e. absurd (omega (arith, e))), (λ none. absurd (asked_so asked n is none)));
  written = λ m is_m e. absurd (omega (arith, e));
  part = λ m is_m. inl refl;
  sink_fault = λ e. absurd (omega (arith, e));
  sink = λ e. refl;
  codes = inr (inr (inr refl));
  place = refl;
}

-- all was printed
pub soak_finished : (asked : Option ℕ) (n : ℕ) (text : List ℕ) (before now : Option (List ℕ)) (faults faults' : ℕ) → asked ≡ Some n → Printed n text → now ≡ append_known before text → faults' ≡ faults
    → Soaked asked before now faults faults' (record { code = 0; place = 0 })
soak_finished asked n text before now faults faults' is printed wrote same = record {
  words = ((λ e. absurd (omega (arith, e))), (λ none. absurd (asked_so asked n is none)));
  written = λ m is_m e. subst (λ (k : ℕ). WritesSoak k before now) (only_one asked n m is is_m) (record { text = text; printed = printed; grown = wrote });
  part = λ m is_m. inr (subst (λ (k : ℕ). WritesPartSoak k before now) (only_one asked n m is is_m) (record { text = text; printed = printed; part = ([], record { wrote = text; parts = append-nil text; grown = wrote }) }));
  sink_fault = λ e. absurd (omega (arith, e));
  sink = λ e. same;
  codes = inl refl;
  place = refl;
}

-- a part of it was put
pub soak_unwritten : (fail : DrillFail) (asked : Option ℕ) (n : ℕ) (text : List ℕ) (before now : Option (List ℕ)) (faults faults' : ℕ) → asked ≡ Some n → Printed n text
    → PutFails fail text before now → SinkCause fail faults faults' → Soaked asked before now faults faults' (status_of fail)
soak_unwritten (Outside k) asked n text before now faults faults' is printed wrote cause = absurd wrote
soak_unwritten SourceFault asked n text before now faults faults' is printed wrote cause = absurd wrote
soak_unwritten SinkFault asked n text before now faults faults' is printed wrote cause = record {
  words = ((λ e. absurd (omega (arith, e))), (λ none. absurd (asked_so asked n is none)));
  written = λ m is_m e. absurd (omega (arith, e));
  part = λ m is_m. inr (subst (λ (k : ℕ). WritesPartSoak k before now) (only_one asked n m is is_m) (record { text = text; printed = printed; part = wrote }));
  sink_fault = λ e. cause;
  sink = λ e. absurd (e refl);
  codes = inr (inr (inl refl));
  place = refl;
}
soak_unwritten OutOfMemory asked n text before now faults faults' is printed wrote cause = record {
  words = ((λ e. absurd (omega (arith, e))), (λ none. absurd (asked_so asked n is none)));
  written = λ m is_m e. absurd (omega (arith, e));
  part = λ m is_m. inr (subst (λ (k : ℕ). WritesPartSoak k before now) (only_one asked n m is is_m) (record { text = text; printed = printed; part = wrote }));
  sink_fault = λ e. absurd (omega (arith, e));
  sink = λ e. cause;
  codes = inr (inr (inr refl));
  place = refl;
}

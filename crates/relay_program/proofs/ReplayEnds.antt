-- How a replay's ends give its outcome.
use Rattle.std.proofs.Common.{◌≡◌, inl, inr, ◌⊎◌, ℕ, Bool, true, false, List, [], None, Some, refl, ap, sym, arith}
use Rattle.std.proofs.lemmas.List.{append-nil}
use Rattle.std.specs.Io.KnownBytes.{append_known, IsAtEnd}
use Rattle.relay_program.specs.declared.drills.DrillFail.{DrillFail}
use Rattle.relay_program.specs.declared.drills.DrillFail.TheVariants.{Outside, SourceFault, SinkFault, OutOfMemory}
use Rattle.relay_program.specs.Outcome.{InOut, status_without_faults}
use Rattle.relay_program.specs.Parts.{PutFails, SinkCause, SourceFaults}
use Rattle.relay_program.specs.Ends.{status_of}
use Rattle.relay_program.specs.Replay.{Printed, outside_line}
use Rattle.relay_program.specs.Replayed.{Replayed}
use Rattle.relay_program.specs.ReplayParts.{HasNoSink, StopsAt}

two_cases : (b : Bool) → b ≡ false → b ≡ true → ⊥
two_cases b f t = cc

-- the words are others
pub refused : (asked : Bool) (now : InOut) → asked ≡ false → Replayed asked now now (record { code = 2; place = 0 })
refused asked now other = record {
  words = ((λ e. other), (λ e. refl));
  read = λ e. absurd (omega (arith, e));
  inside = λ e text is. absurd (omega (arith, e));
  line = λ e text is. absurd (omega (arith, e));
  written = λ e text is. absurd (omega (arith, e));
  nothing = λ e. refl;
  part = λ text is. inl refl;
  source_fault = λ e. absurd (omega (arith, e));
  sink_fault = λ e. absurd (omega (arith, e));
  source = λ e. refl;
  sink = λ e. refl;
  codes = inr (inl refl);
  place = λ e. refl;
  complete = λ text is yes_asked source sink. absurd (two_cases asked other yes_asked);
}

none_of : {k : ℕ} → (k ≡ 2 → ⊥) → (k ≡ 3 → ⊥) → (k ≡ 4 → ⊥) → (k ≡ 2) ⊎ ((k ≡ 3) ⊎ (k ≡ 4)) → ⊥
none_of a b c (inl h) = a h
none_of a b c (inr (inl h)) = b h
none_of a b c (inr (inr h)) = c h

-- all was printed
pub finished : (asked : Bool) (old new : InOut) (printed : List ℕ) → asked ≡ true → IsAtEnd new.left
    → ((text : List ℕ) → old.left ≡ Some text → Printed text printed × (outside_line text ≡ None)) → new.source_faults ≡ old.source_faults
    → new.held ≡ append_known old.held printed → new.sink_faults ≡ old.sink_faults → Replayed asked old new (record { code = 0; place = 0 })
finished asked old new printed this end ends source wrote sink = record {
  words = ((λ e. absurd (omega (arith, e))), (λ e. absurd (two_cases asked e this)));
  read = λ e. end;
  inside = λ e text is. (ends text is).1;
  line = λ e text is. absurd (omega (arith, e));
  written = λ e text is. record { text = printed; printed = (ends text is).0; grown = wrote };
  nothing = λ e. absurd (none_of (λ h. omega (arith, h)) (λ h. omega (arith, h)) (λ h. omega (arith, h)) e);
  part = λ text is. inr (record { text = printed; printed = (ends text is).0; part = ([], record { wrote = printed; parts = append-nil printed; grown = wrote }) });
  source_fault = λ e. absurd (omega (arith, e));
  sink_fault = λ e. absurd (omega (arith, e));
  source = λ e. source;
  sink = λ e. sink;
  codes = inl refl;
  place = λ e. refl;
  complete = λ text is yes_asked no_source no_sink. inl (ap status_without_faults (sym (ends text is).1));
}

-- the script wasn't taken to its end, and nothing was put
pub stopped : (fail : DrillFail) (asked : Bool) (old new : InOut) → asked ≡ true → HasNoSink fail
    → ((text : List ℕ) → old.left ≡ Some text → StopsAt fail (outside_line text)) → SourceFaults fail old.source_faults new.source_faults
    → new.held ≡ old.held → new.sink_faults ≡ old.sink_faults → Replayed asked old new (status_of fail)
stopped (Outside n) asked old new this none ends source held sink = record {
  words = ((λ e. absurd (omega (arith, e))), (λ e. absurd (two_cases asked e this)));
  read = λ e. absurd (omega (arith, e));
  inside = λ e text is. absurd (omega (arith, e));
  line = λ e text is. ends text is;
  written = λ e text is. absurd (omega (arith, e));
  nothing = λ e. held;
  part = λ text is. inl held;
  source_fault = λ e. absurd (omega (arith, e));
  sink_fault = λ e. absurd (omega (arith, e));
  source = λ e. source;
  sink = λ e. sink;
  codes = inr (inr (inr (inl refl)));
  place = λ e. absurd (e refl);
  complete = λ text is yes_asked no_source no_sink. inl (ap status_without_faults (sym (ends text is)));
}
stopped SourceFault asked old new this none ends source held sink = record {
  words = ((λ e. absurd (omega (arith, e))), (λ e. absurd (two_cases asked e this)));
  read = λ e. absurd (omega (arith, e));
  inside = λ e text is. absurd (omega (arith, e));
  line = λ e text is. absurd (omega (arith, e));
  written = λ e text is. absurd (omega (arith, e));
  nothing = λ e. held;
  part = λ text is. inl held;
  source_fault = λ e. source;
  sink_fault = λ e. absurd (omega (arith, e));
  source = λ e. absurd (e refl);
  sink = λ e. sink;
  codes = inr (inr (inl refl));
  place = λ e. refl;
  complete = λ text is yes_asked no_source no_sink. absurd (no_source source);
}
stopped SinkFault asked old new this none ends source held sink = absurd none
stopped OutOfMemory asked old new this none ends source held sink = record {
  words = ((λ e. absurd (omega (arith, e))), (λ e. absurd (two_cases asked e this)));
  read = λ e. absurd (omega (arith, e));
  inside = λ e text is. absurd (omega (arith, e));
  line = λ e text is. absurd (omega (arith, e));
  written = λ e text is. absurd (omega (arith, e));
  nothing = λ e. held;
  part = λ text is. inl held;
  source_fault = λ e. absurd (omega (arith, e));
  sink_fault = λ e. absurd (omega (arith, e));
  source = λ e. source;
  sink = λ e. sink;
  codes = inr (inr (inr (inr (inr refl))));
  place = λ e. refl;
  complete = λ text is yes_asked no_source no_sink. inr refl;
}

-- all was to be printed, and a part of it was put
pub unwritten : (fail : DrillFail) (asked : Bool) (old new : InOut) (printed : List ℕ) → asked ≡ true
    → ((text : List ℕ) → old.left ≡ Some text → Printed text printed × (outside_line text ≡ None)) → new.source_faults ≡ old.source_faults
    → PutFails fail printed old.held new.held → SinkCause fail old.sink_faults new.sink_faults → Replayed asked old new (status_of fail)
unwritten (Outside n) asked old new printed this ends source wrote sink = absurd wrote
unwritten SourceFault asked old new printed this ends source wrote sink = absurd wrote
unwritten SinkFault asked old new printed this ends source wrote sink = record {
  words = ((λ e. absurd (omega (arith, e))), (λ e. absurd (two_cases asked e this)));
  read = λ e. absurd (omega (arith, e));
  inside = λ e text is. absurd (omega (arith, e));
  line = λ e text is. absurd (omega (arith, e));
  written = λ e text is. absurd (omega (arith, e));
  nothing = λ e. absurd (none_of (λ h. omega (arith, h)) (λ h. omega (arith, h)) (λ h. omega (arith, h)) e);
  part = λ text is. inr (record { text = printed; printed = (ends text is).0; part = wrote });
  source_fault = λ e. absurd (omega (arith, e));
  sink_fault = λ e. sink;
  source = λ e. source;
  sink = λ e. absurd (e refl);
  codes = inr (inr (inr (inr (inl refl))));
  place = λ e. refl;
  complete = λ text is yes_asked no_source no_sink. absurd (no_sink sink);
}
unwritten OutOfMemory asked old new printed this ends source wrote sink = record {
  words = ((λ e. absurd (omega (arith, e))), (λ e. absurd (two_cases asked e this)));
  read = λ e. absurd (omega (arith, e));
  inside = λ e text is. absurd (omega (arith, e));
  line = λ e text is. absurd (omega (arith, e));
  written = λ e text is. absurd (omega (arith, e));
  nothing = λ e. absurd (none_of (λ h. omega (arith, h)) (λ h. omega (arith, h)) (λ h. omega (arith, h)) e);
  part = λ text is. inr (record { text = printed; printed = (ends text is).0; part = wrote });
  source_fault = λ e. absurd (omega (arith, e));
  sink_fault = λ e. absurd (omega (arith, e));
  source = λ e. source;
  sink = λ e. sink;
  codes = inr (inr (inr (inr (inr refl))));
  place = λ e. refl;
  complete = λ text is yes_asked no_source no_sink. inr refl;
}

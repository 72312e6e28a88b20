-- How a drill's ends give its outcome.
use Rattle.std.proofs.Common.{◌≡◌, inl, inr, ℕ, Bool, true, false, List, [], None, Some, refl, ap, sym, arith}
use Rattle.std.specs.Io.KnownBytes.{IsAtEnd}
use Rattle.relay_program.specs.declared.drills.DrillFail.{DrillFail}
use Rattle.relay_program.specs.declared.drills.DrillFail.TheVariants.{Outside, SourceFault, SinkFault, OutOfMemory}
use Rattle.relay_program.specs.Drill.{drill_text, outside_line}
use Rattle.put_text.specs.Written.{Writes}
use Rattle.relay_program.specs.Outcome.{InOut, Outcome, WritesPartOfRead, status_without_faults}
use Rattle.relay_program.specs.Parts.{FailsAt, AfterFault, SinkFaults, SourceFaults}
use Rattle.relay_program.specs.Ends.{status_of}
use Rattle.put_text.proofs.Writing.{wrote_all}
use Rattle.relay_program.proofs.Known.{no_part_written}

two_cases : (b : Bool) → b ≡ false → b ≡ true → ⊥
two_cases b f t = cc

-- the words are others
pub refused : (asked : Bool) (now : InOut) → asked ≡ false → Outcome drill_text outside_line asked now now (record { code = 2; place = 0 })
refused asked now other = record {
  words = ((λ e. other), (λ e. refl));
  read = λ e. absurd (omega (arith, e));
  inside = λ e text is. absurd (omega (arith, e));
  line = λ e text is. absurd (omega (arith, e));
  written = λ e text is. elim e [ inl nil ↦ absurd (omega (arith, nil)) | inr four ↦ absurd (omega (arith, four)) ];
  part = λ text is. no_part_written (drill_text text) now.held now.held refl;
  part_read = λ read rest is left. no_part_written (drill_text read) now.held now.held refl;
  as_it_goes = λ e. absurd (omega (arith, e));
  source_fault = λ e. absurd (omega (arith, e));
  sink_fault = λ e. absurd (omega (arith, e));
  source = λ e. refl;
  sink = λ e. refl;
  codes = inr (inl refl);
  place = λ e. refl;
  complete = λ text is yes_asked source sink. absurd (two_cases asked other yes_asked);
}

-- the script was read to its end
pub finished : (asked : Bool) (old new : InOut) → asked ≡ true → IsAtEnd new.left
    → ((text : List ℕ) → old.left ≡ Some text → Writes (drill_text text) [] old.held new.held × (outside_line text ≡ None))
    → WritesPartOfRead drill_text outside_line old.left new.left old.held new.held → new.source_faults ≡ old.source_faults → new.sink_faults ≡ old.sink_faults
    → Outcome drill_text outside_line asked old new (record { code = 0; place = 0 })
finished asked old new this end ends part source sink = record {
  words = ((λ e. absurd (omega (arith, e))), (λ e. absurd (two_cases asked e this)));
  read = λ e. end;
  inside = λ e text is. (ends text is).1;
  line = λ e text is. absurd (omega (arith, e));
  written = λ e text is. wrote_all (drill_text text) old.held new.held (ends text is).0;
  part = λ text is. ([], (ends text is).0);
  part_read = part;
  as_it_goes = λ e. absurd (omega (arith, e));
  source_fault = λ e. absurd (omega (arith, e));
  sink_fault = λ e. absurd (omega (arith, e));
  source = λ e. source;
  sink = λ e. sink;
  codes = inl refl;
  place = λ e. refl;
  complete = λ text is yes_asked no_source no_sink. inl (ap status_without_faults (sym (ends text is).1));
}

-- it wasn't
pub failed : (fail : DrillFail) (asked : Bool) (old new : InOut) → asked ≡ true
    → ((text : List ℕ) → old.left ≡ Some text → FailsAt fail (drill_text text) (outside_line text) old.held new.held)
    → WritesPartOfRead drill_text outside_line old.left new.left old.held new.held → AfterFault fail old.left new.left old.held new.held
    → SourceFaults fail old.source_faults new.source_faults → SinkFaults fail old.sink_faults new.sink_faults
    → Outcome drill_text outside_line asked old new (status_of fail)
failed (Outside n) asked old new this ends part after source sink = record {
  words = ((λ e. absurd (omega (arith, e))), (λ e. absurd (two_cases asked e this)));
  read = λ e. absurd (omega (arith, e));
  inside = λ e text is. absurd (omega (arith, e));
  line = λ e text is. (ends text is).1;
  written = λ e text is. wrote_all (drill_text text) old.held new.held (ends text is).0;
  part = λ text is. ([], (ends text is).0);
  part_read = part;
  as_it_goes = λ e. absurd (omega (arith, e));
  source_fault = λ e. absurd (omega (arith, e));
  sink_fault = λ e. absurd (omega (arith, e));
  source = λ e. source;
  sink = λ e. sink;
  codes = inr (inr (inr (inl refl)));
  place = λ e. absurd (e refl);
  complete = λ text is yes_asked no_source no_sink. inl (ap status_without_faults (sym (ends text is).1));
}
failed SourceFault asked old new this ends part after source sink = record {
  words = ((λ e. absurd (omega (arith, e))), (λ e. absurd (two_cases asked e this)));
  read = λ e. absurd (omega (arith, e));
  inside = λ e text is. absurd (omega (arith, e));
  line = λ e text is. absurd (omega (arith, e));
  written = λ e text is. elim e [ inl nil ↦ absurd (omega (arith, nil)) | inr four ↦ absurd (omega (arith, four)) ];
  part = ends;
  part_read = part;
  as_it_goes = λ e. after;
  source_fault = λ e. source;
  sink_fault = λ e. absurd (omega (arith, e));
  source = λ e. absurd (e refl);
  sink = λ e. sink;
  codes = inr (inr (inl refl));
  place = λ e. refl;
  complete = λ text is yes_asked no_source no_sink. absurd (no_source source);
}
failed SinkFault asked old new this ends part after source sink = record {
  words = ((λ e. absurd (omega (arith, e))), (λ e. absurd (two_cases asked e this)));
  read = λ e. absurd (omega (arith, e));
  inside = λ e text is. absurd (omega (arith, e));
  line = λ e text is. absurd (omega (arith, e));
  written = λ e text is. elim e [ inl nil ↦ absurd (omega (arith, nil)) | inr four ↦ absurd (omega (arith, four)) ];
  part = ends;
  part_read = part;
  as_it_goes = λ e. absurd (omega (arith, e));
  source_fault = λ e. absurd (omega (arith, e));
  sink_fault = λ e. sink;
  source = λ e. source;
  sink = λ e. absurd (e refl);
  codes = inr (inr (inr (inr (inl refl))));
  place = λ e. refl;
  complete = λ text is yes_asked no_source no_sink. absurd (no_sink sink);
}
failed OutOfMemory asked old new this ends part after source sink = record {
  words = ((λ e. absurd (omega (arith, e))), (λ e. absurd (two_cases asked e this)));
  read = λ e. absurd (omega (arith, e));
  inside = λ e text is. absurd (omega (arith, e));
  line = λ e text is. absurd (omega (arith, e));
  written = λ e text is. elim e [ inl nil ↦ absurd (omega (arith, nil)) | inr four ↦ absurd (omega (arith, four)) ];
  part = ends;
  part_read = part;
  as_it_goes = λ e. absurd (omega (arith, e));
  source_fault = λ e. absurd (omega (arith, e));
  sink_fault = λ e. absurd (omega (arith, e));
  source = λ e. source;
  sink = λ e. sink;
  codes = inr (inr (inr (inr (inr refl))));
  place = λ e. refl;
  complete = λ text is yes_asked no_source no_sink. inr refl;
}

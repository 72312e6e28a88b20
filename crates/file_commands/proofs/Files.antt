-- A file that was read in part or to its end.
use Rattle.std.proofs.Common.{◌≡◌, inl, inr, Result, Ok, Err, MatchResult, OnOk, ℕ, ◌<◌, ◌≤◌, Bool, List, [], ◌++◌, Option, length, ap, sym, ◌∙◌, subst}
use Rattle.std.specs.Io.KnownBytes.{prepend_known, IsAtEnd}
use Rattle.relay_outside.specs.Counts.{Rose}
use Rattle.file_commands.specs.declared.fail.Fail.{Fail}
use Rattle.file_commands.specs.declared.fail.Fail.TheVariants.{Refused, SourceFault, SinkFault, OutOfMemory}
use Rattle.put_text.specs.Written.{Writes}
use Rattle.file_commands.specs.Outcome.{WritesAll, most_bytes, most_pending}
use Rattle.file_commands.specs.Parts.{TakeFails, EndFails, WasRead, IsRead, IsRefusedThere, FileFails, Closes, PutEnds, Settles, SettlesFaults, SinkCause, SinkFaults, SourceFaults}
use Rattle.put_text.proofs.Writing.{no_part_written, write_part_then, write_rest, wrote_all}
use Rattle.file_commands.proofs.Writing.{prepend_known_twice, prepend_known_nil}
use Rattle.file_commands.proofs.Pieces.{given_all}

-- more bytes were read
pub read_more : (read bytes : List ℕ) (left now after : Option (List ℕ)) → WasRead read left now → now ≡ prepend_known bytes after → WasRead (read ++ bytes) left after
read_more read bytes left now after w e = w ∙ ap (prepend_known read) e ∙ prepend_known_twice after read bytes

module _ (Gives : List ℕ → List ℕ → Type 0) (Stops Cut : List ℕ → ℕ → List ℕ → Type 0) (Whole : List ℕ → Bool → List ℕ → Type 0) where
  -- before the first byte
  pub fails_first : (fed given : List ℕ) (left before : Option (List ℕ)) → fed ≡ [] → Gives fed given → FileFails Gives Stops Cut Whole OutOfMemory left left [] before before
  fails_first fed given left before none gives =
      ([], sym (prepend_known_nil left), inl (given, given_all Gives [] given (subst (λ (l : List ℕ). Gives l given) none gives), no_part_written given before))

  pub piece_fails : (fail : Fail) (fed bytes text : List ℕ) (left now after before held : Option (List ℕ)) → left ≡ prepend_known fed now
      → now ≡ prepend_known bytes after → TakeFails Gives Stops fail (fed ++ bytes) text before held
      → FileFails Gives Stops Cut Whole fail left after text before held
  piece_fails (Refused at) fed bytes text left now after before held w e h = record {
    read = fed ++ bytes;
    was_read = read_more fed bytes left now after w e;
    given = h.given;
    by = h.by;
    refused = inl h.refused;
    writes = h.writes;
  }
  piece_fails SourceFault fed bytes text left now after before held w e h = absurd h
  piece_fails SinkFault fed bytes text left now after before held w e h = (fed ++ bytes, read_more fed bytes left now after w e, inl h)
  piece_fails OutOfMemory fed bytes text left now after before held w e h = (fed ++ bytes, read_more fed bytes left now after w e, inl h)

  end_fails : (fail : Fail) (fed text : List ℕ) (left now before held : Option (List ℕ)) → length fed ≤ most_bytes → left ≡ prepend_known fed now → IsAtEnd now
      → EndFails Gives Cut Whole fail fed text before held → FileFails Gives Stops Cut Whole fail left now text before held
  end_fails (Refused at) fed text left now before held within w end h = record {
    read = fed;
    was_read = w;
    given = h.given;
    by = h.by;
    refused = inr (end, record { within = within; cut = h.cut });
    writes = h.writes;
  }
  end_fails SourceFault fed text left now before held within w end h = absurd h
  end_fails SinkFault fed text left now before held within w end h = (fed, w, h)
  end_fails OutOfMemory fed text left now before held within w end h = (fed, w, h)

  pub file_ends : (r : Result Bool Fail) (fed text : List ℕ) (left now after before held : Option (List ℕ)) → length fed ≤ most_bytes
      → left ≡ prepend_known fed now → after ≡ now → IsAtEnd now →
      MatchResult r (λ some_out. WritesAll Whole fed some_out before held) (λ fail. EndFails Gives Cut Whole fail fed text before held)
      → MatchResult r (λ some_out. IsRead Gives Stops Cut Whole some_out left after before held) (λ fail. FileFails Gives Stops Cut Whole fail left after text before held)
  file_ends (Ok some_out) fed text left now after before held within w same end h =
      record { read = fed; was_read = w ∙ ap (prepend_known fed) (sym same); end = subst IsAtEnd (sym same) end; all = h }
  file_ends (Err fail) fed text left now after before held within w same end h =
      subst (λ (l : Option (List ℕ)). FileFails Gives Stops Cut Whole fail left l text before held) (sym same) (end_fails fail fed text left now before held within w end h)

  -- the source failed
  pub fault_ends : (fed given text : List ℕ) (left now after before held : Option (List ℕ)) → left ≡ prepend_known fed now → after ≡ now → Gives fed given
      → Writes given text before held → length text < most_pending → FileFails Gives Stops Cut Whole SourceFault left after text before held
  fault_ends fed given text left now after before held w same gives writes short = (fed, w ∙ ap (prepend_known fed) (sym same), (given, gives, (text, writes, short)))

  refused_closes : (at : ℕ) (last : Fail) (pending : List ℕ) (left left' before held now : Option (List ℕ))
      → FileFails Gives Stops Cut Whole (Refused at) left left' pending before held → PutEnds at last pending held now
      → Closes Gives Stops Cut Whole last left left' before now
  refused_closes at (Refused place) pending left left' before held now f p = record {
    read = f.read;
    was_read = f.was_read;
    given = f.given;
    by = f.by;
    refused = subst (λ (n : ℕ). IsRefusedThere Gives Stops Cut Whole f.read n f.given left') (sym p.0) f.refused;
    written = wrote_all f.given before now (write_rest f.given pending before held now f.writes p.1);
  }
  refused_closes at SourceFault pending left left' before held now f p = absurd p
  refused_closes at SinkFault pending left left' before held now f p =
      (f.read, f.was_read, inl (f.given, f.by, write_part_then f.given pending before held now f.writes p))
  refused_closes at OutOfMemory pending left left' before held now f p =
      (f.read, f.was_read, inl (f.given, f.by, write_part_then f.given pending before held now f.writes p))

  pub closes : (fail last : Fail) (pending : List ℕ) (left left' before held now : Option (List ℕ))
      → FileFails Gives Stops Cut Whole fail left left' pending before held → Settles fail last pending held now
      → Closes Gives Stops Cut Whole last left left' before now
  closes (Refused at) last pending left left' before held now f s = refused_closes at last pending left left' before held now f s
  closes SourceFault last pending left left' before held now f s =
      rw (s.0, s.1) f
  closes SinkFault last pending left left' before held now f s =
      rw (s.0, s.1) f
  closes OutOfMemory last pending left left' before held now f s =
      rw (s.0, s.1) f

-- what is told of a file that was read to its end
pub file_told : (r : Result Bool Fail) (Told : List ℕ → Type 0) (fed : List ℕ) (left now after : Option (List ℕ)) → left ≡ prepend_known fed now → after ≡ now
    → OnOk r (Told fed) → OnOk r ((read : List ℕ) × WasRead read left after × Told read)
file_told (Ok some_out) Told fed left now after w same t = (fed, w ∙ ap (prepend_known fed) (sym same), t)
file_told (Err fail) Told fed left now after w same t = tt

-- ---- faults

pub sink_faults : (fail : Fail) (start before now : ℕ) → before ≡ start → SinkCause fail before now → SinkFaults fail start now
sink_faults (Refused at) start before now e h = h ∙ e
sink_faults SourceFault start before now e h = absurd h
sink_faults SinkFault start before now e h = subst (λ (n : ℕ). Rose n now) e h
sink_faults OutOfMemory start before now e h = h ∙ e

pub source_kept : (fail : Fail) (before now start end : ℕ) → SinkCause fail before now → end ≡ start → SourceFaults fail start end
source_kept (Refused at) before now start end h e = e
source_kept SourceFault before now start end h e = absurd h
source_kept SinkFault before now start end h e = e
source_kept OutOfMemory before now start end h e = e

pub source_kept_by : (r : Result Bool Fail) (before now start end : ℕ) → MatchResult r (λ _. now ≡ before) (λ fail. SinkCause fail before now)
    → end ≡ start → MatchResult r (λ _. end ≡ start) (λ fail. SourceFaults fail start end)
source_kept_by (Ok x) before now start end h e = e
source_kept_by (Err fail) before now start end h e = source_kept fail before now start end h e

pub sink_faults_by : (r : Result Bool Fail) (start before now : ℕ) → before ≡ start
    → MatchResult r (λ _. now ≡ before) (λ fail. SinkCause fail before now) → MatchResult r (λ _. now ≡ start) (λ fail. SinkFaults fail start now)
sink_faults_by (Ok x) start before now e h = h ∙ e
sink_faults_by (Err fail) start before now e h = sink_faults fail start before now e h

refused_source : (last : Fail) (before now start end : ℕ) → end ≡ start → SinkCause last before now → SourceFaults last start end
refused_source last before now start end e h = source_kept last before now start end h e

pub source_settled : (fail last : Fail) (pending : List ℕ) (held now : Option (List ℕ)) (before after start end : ℕ) → Settles fail last pending held now
    → SettlesFaults fail last before after → SourceFaults fail start end → SourceFaults last start end
source_settled (Refused at) last pending held now before after start end s f h = refused_source last before after start end h f
source_settled SourceFault last pending held now before after start end s f h = rw s.0 h
source_settled SinkFault last pending held now before after start end s f h = rw s.0 h
source_settled OutOfMemory last pending held now before after start end s f h = rw s.0 h

pub sink_settled : (fail last : Fail) (pending : List ℕ) (held now : Option (List ℕ)) (start before after : ℕ) → Settles fail last pending held now
    → SettlesFaults fail last before after → SinkFaults fail start before → SinkFaults last start after
sink_settled (Refused at) last pending held now start before after s f h = sink_faults last start before after h f
sink_settled SourceFault last pending held now start before after s f h = rw (s.0, f) h
sink_settled SinkFault last pending held now start before after s f h = rw (s.0, f) h
sink_settled OutOfMemory last pending held now start before after s f h = rw (s.0, f) h

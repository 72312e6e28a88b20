-- How a command's ends give its outcome.
use Rattle.std.proofs.Common.{◌≡◌, ◌⊎◌, inl, inr, ℕ, ◌<◌, Bool, true, false, List, [], ◌++◌, Option, None, Some, length, refl, ap, sym, ◌∙◌, subst, append_assoc, arith, length-append}
use Rattle.std.proofs.lemmas.List.{append-nil, append_cancel_right}
use Rattle.std.specs.Io.KnownBytes.{IsAtEnd}
use Rattle.file_commands.specs.declared.fail.Fail.{Fail}
use Rattle.file_commands.specs.declared.fail.Fail.TheVariants.{Refused, SourceFault, SinkFault, OutOfMemory}
use Rattle.file_commands.specs.Outcome.{IsReadTo, IsTooLong, Outcome, Refused as IsRefused, Seen, StopsIn, WritesAll, WritesOf, WritesOfRead}
use Rattle.file_commands.specs.Parts.{Closes, IsRead, IsRefusedThere, SinkFaults, SourceFaults, WasRead, WasTold, status_of, whole_status}
use Rattle.file_commands.specs.Remux.{IsWholeCode}
use Rattle.put_text.proofs.Writing.{no_part_written}
use Rattle.file_commands.proofs.Writing.{prepend_known_nil}
use Rattle.file_commands.proofs.Pieces.{given_all}

two_cases : (b : Bool) → b ≡ false → b ≡ true → ⊥
two_cases b f t = cc

-- the bytes that were read, of a file that is known
record FrontOf (read : List ℕ) (now : Option (List ℕ)) (file : List ℕ) : Type 0 where
  rest : List ℕ
  now_is : now ≡ Some rest
  file_is : file ≡ read ++ rest

front_of : (read : List ℕ) (left now : Option (List ℕ)) (file : List ℕ) → WasRead read left now → left ≡ Some file → FrontOf read now file
front_of read left None file w e = absurd (cc)
front_of read left (Some rest) file w e = record { rest = rest; now_is = refl; file_is = cc }

some_same : (xs ys : List ℕ) → Some xs ≡ Some ys → xs ≡ ys
some_same xs ys e = cc

at_end : (read : List ℕ) (now : Option (List ℕ)) (file : List ℕ) → FrontOf read now file → IsAtEnd now → file ≡ read
at_end read None file f end = absurd (let e = f.now_is in cc)
at_end read (Some xs) file f end =
    f.file_is ∙ ap (λ (l : List ℕ). read ++ l) (sym (some_same xs f.rest f.now_is) ∙ end) ∙ append-nil read

same_read : (read other : List ℕ) (old new : Seen) → WasRead read old.left new.left → IsReadTo other old new → read ≡ other
same_read read other old new w t =
    let f = front_of read old.left new.left (other ++ t.0) w t.1 in
    let rest : f.rest ≡ t.0 = some_same f.rest t.0 (sym f.now_is ∙ t.2) in
    append_cancel_right read other t.0 (ap (λ (l : List ℕ). read ++ l) (sym rest) ∙ sym f.file_is)

longer : (xs ys : List ℕ) → 0 < length xs → 0 < length (xs ++ ys)
longer xs ys some = omega (arith, length-append xs ys, some)

module _ (Gives : List ℕ → List ℕ → Type 0) (Stops Cut : List ℕ → ℕ → List ℕ → Type 0) (Whole : List ℕ → Bool → List ℕ → Type 0) where
  refused_file : (read rest file : List ℕ) (at : ℕ) (given : List ℕ) → file ≡ read ++ rest → StopsIn Stops read at given ⊎ IsTooLong Gives read at given
      → IsRefused Gives Stops Cut file at given
  refused_file read rest file at given e (inl h) = inl (record {
    front = h.front;
    behind = h.behind ++ rest;
    parts = e ∙ ap (λ (l : List ℕ). l ++ rest) h.parts ∙ append_assoc h.front h.behind rest;
    within = h.within;
    stops = h.stops;
  })
  refused_file read rest file at given e (inr h) = inr (inr (record {
    front = h.front;
    behind = h.behind ++ rest;
    parts = e ∙ ap (λ (l : List ℕ). l ++ rest) h.parts ∙ append_assoc h.front h.behind rest;
    full = h.full;
    more = longer h.behind rest h.more;
    place = h.place;
    gives = h.gives;
  }))

  refused_there : (read file : List ℕ) (now : Option (List ℕ)) (at : ℕ) (given : List ℕ) → FrontOf read now file
      → IsRefusedThere Gives Stops Cut Whole read at given now → IsRefused Gives Stops Cut file at given
  refused_there read file now at given f (inl h) = refused_file read f.rest file at given f.file_is h
  refused_there read file now at given f (inr h) =
      subst (λ (l : List ℕ). IsRefused Gives Stops Cut l at given) (sym (at_end read now file f h.0)) (inr (inl h.1))

  -- of a file that was read to its end
  wrote_all_of : (some_out : Bool) (old new : Seen) → IsRead Gives Stops Cut Whole some_out old.left new.left old.held new.held → (file : List ℕ)
      → old.left ≡ Some file → WritesAll Whole file some_out old.held new.held
  wrote_all_of some_out old new r file is =
      let f = front_of r.read old.left new.left file r.was_read is in
      subst (λ (l : List ℕ). WritesAll Whole l some_out old.held new.held) (sym (at_end r.read new.left file f r.end)) r.all

  pub finished : (some_out asked : Bool) (old new : Seen) → asked ≡ true → IsRead Gives Stops Cut Whole some_out old.left new.left old.held new.held
      → new.source_faults ≡ old.source_faults → new.sink_faults ≡ old.sink_faults → Outcome Gives Stops Cut Whole asked old new (whole_status some_out)
  finished false asked old new this r source sink = record {
    words = ((λ e. absurd (omega (arith, e))), (λ e. absurd (two_cases asked e this)));
    read = λ e. r.end;
    all = λ e file is. wrote_all_of false old new r file is;
    left_out = λ e file is. absurd (omega (arith, e));
    refused = λ e file is. absurd (omega (arith, e));
    after_fault = λ e read is. absurd (omega (arith, e));
    part = λ e read is. elim e [ inl five ↦ absurd (omega (arith, five)) | inr six ↦ absurd (omega (arith, six)) ];
    source_fault = λ e. absurd (omega (arith, e));
    sink_fault = λ e. absurd (omega (arith, e));
    source = λ e. source;
    sink = λ e. sink;
    codes = inl refl;
    place = λ e. refl;
  }
  finished true asked old new this r source sink = record {
    words = ((λ e. absurd (omega (arith, e))), (λ e. absurd (two_cases asked e this)));
    read = λ e. r.end;
    all = λ e file is. absurd (omega (arith, e));
    left_out = λ e file is. wrote_all_of true old new r file is;
    refused = λ e file is. absurd (omega (arith, e));
    after_fault = λ e read is. absurd (omega (arith, e));
    part = λ e read is. elim e [ inl five ↦ absurd (omega (arith, five)) | inr six ↦ absurd (omega (arith, six)) ];
    source_fault = λ e. absurd (omega (arith, e));
    sink_fault = λ e. absurd (omega (arith, e));
    source = λ e. source;
    sink = λ e. sink;
    codes = inr (inr (inr (inr (inr (inr refl)))));
    place = λ e. refl;
  }

  -- it wasn't
  part_of : (old new : Seen) → ((read : List ℕ) × WasRead read old.left new.left × WritesOf Gives Whole read old.held new.held) → (read : List ℕ)
      → IsReadTo read old new → WritesOf Gives Whole read old.held new.held
  part_of old new h read t = subst (λ (l : List ℕ). WritesOf Gives Whole l old.held new.held) (same_read h.0 read old new h.1 t) h.2

  pub failed : (last : Fail) (asked : Bool) (old new : Seen) → asked ≡ true → Closes Gives Stops Cut Whole last old.left new.left old.held new.held
      → SourceFaults last old.source_faults new.source_faults → SinkFaults last old.sink_faults new.sink_faults
      → Outcome Gives Stops Cut Whole asked old new (status_of last)
  failed (Refused at) asked old new this h source sink = record {
    words = ((λ e. absurd (omega (arith, e))), (λ e. absurd (two_cases asked e this)));
    read = λ e. elim e [ inl nil ↦ absurd (omega (arith, nil)) | inr eight ↦ absurd (omega (arith, eight)) ];
    all = λ e file is. absurd (omega (arith, e));
    left_out = λ e file is. absurd (omega (arith, e));
    refused = λ e file is. (h.given, refused_there h.read file new.left at h.given (front_of h.read old.left new.left file h.was_read is) h.refused, h.written);
    after_fault = λ e read is. absurd (omega (arith, e));
    part = λ e read is. elim e [ inl five ↦ absurd (omega (arith, five)) | inr six ↦ absurd (omega (arith, six)) ];
    source_fault = λ e. absurd (omega (arith, e));
    sink_fault = λ e. absurd (omega (arith, e));
    source = λ e. source;
    sink = λ e. sink;
    codes = inr (inr (inr (inl refl)));
    place = λ e. absurd (e refl);
  }
  failed SourceFault asked old new this h source sink = record {
    words = ((λ e. absurd (omega (arith, e))), (λ e. absurd (two_cases asked e this)));
    read = λ e. elim e [ inl nil ↦ absurd (omega (arith, nil)) | inr eight ↦ absurd (omega (arith, eight)) ];
    all = λ e file is. absurd (omega (arith, e));
    left_out = λ e file is. absurd (omega (arith, e));
    refused = λ e file is. absurd (omega (arith, e));
    after_fault = λ e read t. subst (λ (l : List ℕ). WritesOfRead Gives l old.held new.held) (same_read h.0 read old new h.1 t) h.2;
    part = λ e read is. elim e [ inl five ↦ absurd (omega (arith, five)) | inr six ↦ absurd (omega (arith, six)) ];
    source_fault = λ e. source;
    sink_fault = λ e. absurd (omega (arith, e));
    source = λ e. absurd (e refl);
    sink = λ e. sink;
    codes = inr (inr (inl refl));
    place = λ e. refl;
  }
  failed SinkFault asked old new this h source sink = record {
    words = ((λ e. absurd (omega (arith, e))), (λ e. absurd (two_cases asked e this)));
    read = λ e. elim e [ inl nil ↦ absurd (omega (arith, nil)) | inr eight ↦ absurd (omega (arith, eight)) ];
    all = λ e file is. absurd (omega (arith, e));
    left_out = λ e file is. absurd (omega (arith, e));
    refused = λ e file is. absurd (omega (arith, e));
    after_fault = λ e read is. absurd (omega (arith, e));
    part = λ e read t. part_of old new h read t;
    source_fault = λ e. absurd (omega (arith, e));
    sink_fault = λ e. sink;
    source = λ e. source;
    sink = λ e. absurd (e refl);
    codes = inr (inr (inr (inr (inl refl))));
    place = λ e. refl;
  }
  failed OutOfMemory asked old new this h source sink = record {
    words = ((λ e. absurd (omega (arith, e))), (λ e. absurd (two_cases asked e this)));
    read = λ e. elim e [ inl nil ↦ absurd (omega (arith, nil)) | inr eight ↦ absurd (omega (arith, eight)) ];
    all = λ e file is. absurd (omega (arith, e));
    left_out = λ e file is. absurd (omega (arith, e));
    refused = λ e file is. absurd (omega (arith, e));
    after_fault = λ e read is. absurd (omega (arith, e));
    part = λ e read t. part_of old new h read t;
    source_fault = λ e. absurd (omega (arith, e));
    sink_fault = λ e. absurd (omega (arith, e));
    source = λ e. source;
    sink = λ e. sink;
    codes = inr (inr (inr (inr (inr (inl refl)))));
    place = λ e. refl;
  }

  -- code 8 is that of a file of which something is left out
  pub left_out : (some_out : Bool) (left left' before now : Option (List ℕ)) → IsRead Gives Stops Cut Whole some_out left left' before now
      → (whole_status some_out).code ≡ 8 → (read : List ℕ) × (text : List ℕ) × Whole read true text
  left_out false left left' before now r e = absurd (omega (arith, e))
  left_out true left left' before now r e = (r.read, r.all.text, r.all.whole)

-- what is told is told of that file
pub told_of : {F : Type 0} (Told : F → List ℕ → Type 0) (end : F) (bytes : List ℕ) (left now : Option (List ℕ)) → WasTold Told end left now → IsAtEnd now → left ≡ Some bytes → Told end bytes
told_of Told end bytes left now t at is = subst (λ (l : List ℕ). Told end l) (sym (at_end t.0 now bytes (front_of t.0 left now bytes t.1 is) at)) t.2

pub other_codes : (last : Fail) → IsWholeCode (status_of last).code → ⊥
other_codes (Refused at) e = elim e [ inl n ↦ omega (arith, n) | inr n ↦ omega (arith, n) ]
other_codes SourceFault e = elim e [ inl n ↦ omega (arith, n) | inr n ↦ omega (arith, n) ]
other_codes SinkFault e = elim e [ inl n ↦ omega (arith, n) | inr n ↦ omega (arith, n) ]
other_codes OutOfMemory e = elim e [ inl n ↦ omega (arith, n) | inr n ↦ omega (arith, n) ]

pub other_code : (last : Fail) → (status_of last).code ≡ 8 → ⊥
other_code (Refused at) e = omega (arith, e)
other_code SourceFault e = omega (arith, e)
other_code SinkFault e = omega (arith, e)
other_code OutOfMemory e = omega (arith, e)

-- nothing was read, for want of memory
pub no_memory : (Gives : List ℕ → List ℕ → Type 0) (Stops Cut : List ℕ → ℕ → List ℕ → Type 0) (Whole : List ℕ → Bool → List ℕ → Type 0) (asked : Bool)
    (now : Seen) (text : List ℕ) → asked ≡ true → Gives [] text → Outcome Gives Stops Cut Whole asked now now (record { code = 6; place = 0 })
no_memory Gives Stops Cut Whole asked now text this gives =
    failed Gives Stops Cut Whole OutOfMemory asked now now this
    ([], sym (prepend_known_nil now.left), inl (text, given_all Gives [] text gives, no_part_written text now.held)) refl refl

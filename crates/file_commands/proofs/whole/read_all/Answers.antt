use Rattle.std.proofs.Common.{◌∙◌, ◌≤◌, ◌^◌, length, take, sym, ap, subst, arith, length-append, rules, List, ℕ, refl}
use Rattle.std.proofs.lemmas.List.{length-take}
use Rattle.std.specs.Io.KnownBytes.{prepend_known}
use Rattle.put_text.specs.Written.{Writes}
use Rattle.put_text.proofs.Writing.{nothing_written}
use Rattle.file_commands.proofs.Writing.{prepend_known_nil}
use Rattle.file_commands.proofs.Files.{piece_fails, file_ends, file_told, fault_ends, read_more, source_kept, source_kept_by, sink_faults, sink_faults_by}
use Rattle.file_commands.proofs.whole.read_all.Goals as goal

pub loop-count-init : goal.loop-count-init
loop-count-init g c =
    let C = g.C.Convert in
    let left = g.S.Source.left c.args.input.now in
    record {
      fits = c.requires.fits;
      place = sym (ap (λ (l : List ℕ). length l) c.requires.fresh);
      near = omega arith;
      room = c.requires.room;
      read = sym (ap (λ (l : List ℕ). prepend_known l left) c.requires.fresh ∙ prepend_known_nil left);
      writes = subst (λ (l : List ℕ). Writes (C.given c.args.file.now) l (g.K.Sink.holds c.args.out.now) (g.K.Sink.holds c.args.out.now)) (sym c.requires.text)
          (nothing_written (C.given c.args.file.now) (g.K.Sink.holds c.args.out.now));
      short = c.requires.short;
      source = refl;
      sink = refl;
    }

pub returns-in_err-take_within-in-Bytes-clause-ends : goal.returns-in_err-take_within-in-Bytes-clause-ends
returns-in_err-take_within-in-Bytes-clause-ends g c =
    let C = g.C.Convert in
    let l = c.loop-count in
    let h = piece_fails C.gives C.stops C.cut C.whole c.in_err-take_within-in-Bytes.field-0.0 (C.fed l.file) (take c.in-Bytes.count c.get.new.into) c.take_within.new.text
    (g.S.Source.left c.args.input.now) (g.S.Source.left l.input) (g.S.Source.left c.get.new.self) (g.K.Sink.holds c.args.out.now)
    (g.K.Sink.holds c.take_within.new.out) l.invariant.read c.in-Bytes.ensures.bytes
    (c.in_err-take_within-in-Bytes.ensures.goes (g.K.Sink.holds c.args.out.now) l.invariant.writes) in
    search (rules, h)

pub returns-in_err-take_within-in-Bytes-clause-source : goal.returns-in_err-take_within-in-Bytes-clause-source
returns-in_err-take_within-in-Bytes-clause-source g c =
    let h = source_kept c.in_err-take_within-in-Bytes.field-0.0 (g.K.Sink.faults c.loop-count.out) (g.K.Sink.faults c.take_within.new.out)
    (g.S.Source.faults c.args.input.now) (g.S.Source.faults c.get.new.self)
    c.in_err-take_within-in-Bytes.ensures.faults (c.in-Bytes.ensures.cause ∙ c.loop-count.invariant.source) in
    search (rules, h)

pub returns-in_err-take_within-in-Bytes-clause-sink : goal.returns-in_err-take_within-in-Bytes-clause-sink
returns-in_err-take_within-in-Bytes-clause-sink g c =
    let h = sink_faults c.in_err-take_within-in-Bytes.field-0.0 (g.K.Sink.faults c.args.out.now) (g.K.Sink.faults c.loop-count.out)
    (g.K.Sink.faults c.take_within.new.out) c.loop-count.invariant.sink c.in_err-take_within-in-Bytes.ensures.faults in
    search (rules, h)

pub loop-count-preserved : goal.loop-count-preserved
loop-count-preserved g c =
    let C = g.C.Convert in
    let l = c.loop-count in
    let t = c.in_ok-take_within-in-Bytes.ensures in
    let bytes = take c.in-Bytes.count c.get.new.into in
    let len = length-take c.in-Bytes.count c.get.new.into in
    record {
      fits = t.fits;
      place = omega (arith, ap (λ (x : List ℕ). length x) t.fed, length-append (C.fed l.file) bytes, len, c.in-Bytes.ensures.count.1, l.invariant.place);
      near = omega (arith, t.near, len, c.in-Bytes.ensures.count.1);
      room = omega (arith, c.in-Bytes.ensures.count.0, c.in-Bytes.ensures.count.1);
      read = read_more (C.fed l.file) bytes (g.S.Source.left c.args.input.now) (g.S.Source.left l.input) (g.S.Source.left c.get.new.self)
          l.invariant.read c.in-Bytes.ensures.bytes ∙ ap (λ (x : List ℕ). prepend_known x (g.S.Source.left c.get.new.self)) (sym t.fed);
      writes = t.goes (g.K.Sink.holds c.args.out.now) l.invariant.writes;
      short = t.short l.invariant.short;
      source = c.in-Bytes.ensures.cause ∙ l.invariant.source;
      sink = t.faults ∙ l.invariant.sink;
    }

pub returns-in-End-clause-ends : goal.returns-in-End-clause-ends
returns-in-End-clause-ends g c =
    let C = g.C.Convert in
    let l = c.loop-count in
    let near : length (C.fed l.file) ≤ 2 ^ 36 = omega (arith, l.invariant.place, l.invariant.near) in
    file_ends C.gives C.stops C.cut C.whole c.end.result (C.fed l.file) c.end.new.text (g.S.Source.left c.args.input.now) (g.S.Source.left l.input)
    (g.S.Source.left c.get.new.self) (g.K.Sink.holds c.args.out.now) (g.K.Sink.holds c.end.new.out) near l.invariant.read c.in-End.ensures.bytes.0
    c.in-End.ensures.bytes.1 (c.end.ensures.ends (g.K.Sink.holds c.args.out.now) l.invariant.writes)

pub returns-in-End-clause-source : goal.returns-in-End-clause-source
returns-in-End-clause-source g c =
    source_kept_by c.end.result (g.K.Sink.faults c.loop-count.out) (g.K.Sink.faults c.end.new.out) (g.S.Source.faults c.args.input.now)
    (g.S.Source.faults c.get.new.self) c.end.ensures.faults (c.in-End.ensures.cause ∙ c.loop-count.invariant.source)

pub returns-in-End-clause-sink : goal.returns-in-End-clause-sink
returns-in-End-clause-sink g c =
    sink_faults_by c.end.result (g.K.Sink.faults c.args.out.now) (g.K.Sink.faults c.loop-count.out) (g.K.Sink.faults c.end.new.out)
    c.loop-count.invariant.sink c.end.ensures.faults

pub returns-in-Failed-clause-ends : goal.returns-in-Failed-clause-ends
returns-in-Failed-clause-ends g c =
    let C = g.C.Convert in
    let l = c.loop-count in
    fault_ends C.gives C.stops C.cut C.whole (C.fed l.file) (C.given l.file) l.text (g.S.Source.left c.args.input.now) (g.S.Source.left l.input)
    (g.S.Source.left c.get.new.self) (g.K.Sink.holds c.args.out.now) (g.K.Sink.holds l.out) l.invariant.read c.in-Failed.ensures.bytes
    (g.met.C.Convert.reads l.file l.invariant.fits) l.invariant.writes l.invariant.short

pub returns-in-End-clause-told : goal.returns-in-End-clause-told
returns-in-End-clause-told g c =
    let C = g.C.Convert in
    let l = c.loop-count in
    file_told c.end.result (C.told c.end.new.file) (C.fed l.file) (g.S.Source.left c.args.input.now) (g.S.Source.left l.input) (g.S.Source.left c.get.new.self)
    l.invariant.read c.in-End.ensures.bytes.0 c.end.ensures.told

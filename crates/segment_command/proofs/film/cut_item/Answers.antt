use Rattle.std.proofs.Common.{◌≡◌, ◌∙◌, ◌∷◌, [], Err, List, ℕ, ap, arith, drop, length, refl, rules, subst, sym}
use Rattle.std.specs.Option.{option_map}
use Rattle.hls_segments.specs.declared.cut.Cut.TheVariants.{First, Next, Same, Nothing}
use Rattle.hls_segments.specs.Cuts.{cut_of}
use Rattle.hls_segments.specs.Known.{given}
use Rattle.segment_command.specs.declared.shelf.Pending.{Pending}
use Rattle.segment_command.specs.Shelves.{FileSeen, Stands, file_seen}
use Rattle.segment_command.specs.Parts.{GoesOn, ItemEnds, list_of}
use Rattle.segment_command.proofs.Filming.{first_of, goes_on, item_breaks, item_fails, next_of, nothing_of, same_of, stands_as}
use Rattle.segment_command.proofs.film.cut_item.Goals as goal

pub returns-in_err-begin-in-Ok-First-clause-goes : goal.returns-in_err-begin-in-Ok-First-clause-goes
returns-in_err-begin-in-Ok-First-clause-goes g c = λ start s.
    let view : g.row.H-File.Denot → FileSeen = λ f. file_seen (g.H.File.Sink.holds f) (g.H.File.Sink.faults f) in
    let k = c.args.segmenter.now in
    let k' = c.item.new.self in
    let item = c.args.item.now in
    let p = c.args.pending.now in
    let told = g.H.House.told c.args.house.now in
    let r = c.in-Ok-First in
    let cut : First ≡ cut_of k.least k.past item = sym r.field-0-is ∙ r.ensures.cut in
    let f = first_of view c.args.file.now c.args.name.now k item p.text c.item.new.out p.title p.count start told cut r.ensures.bytes s in
    let b = c.in_err-begin-in-Ok-First.ensures.goes [] start f.1 f.0 f.2 (omega arith) in
    let h = item_breaks (ItemEnds k k' item) c.in_err-begin-in-Ok-First.field-0.0 c.args.name.now (c.item.new.out ∷ []) k k' item c.begin.new.pending
    (option_map view c.begin.new.file) start (g.H.House.told c.begin.new.house) r.ensures.known f.3 b in
    search (rules, h)

pub returns-in_err-turn-in-Ok-Next-clause-goes : goal.returns-in_err-turn-in-Ok-Next-clause-goes
returns-in_err-turn-in-Ok-Next-clause-goes g c = λ start s.
    let view : g.row.H-File.Denot → FileSeen = λ f. file_seen (g.H.File.Sink.holds f) (g.H.File.Sink.faults f) in
    let k = c.args.segmenter.now in
    let k' = c.item.new.self in
    let item = c.args.item.now in
    let p = c.args.pending.now in
    let told = g.H.House.told c.args.house.now in
    let r = c.in-Ok-Next in
    let cut : Next ≡ cut_of k.least k.past item = sym r.field-0-is ∙ r.ensures.cut in
    let n = next_of c.args.name.now k item p.text c.item.new.out p.title p.count (option_map view c.args.file.now) start told cut r.ensures.room r.ensures.bytes s in
    let goes = rw c.len-before.ensures at c.in_err-turn-in-Ok-Next.ensures.goes in
    let h = item_breaks (ItemEnds k k' item) c.in_err-turn-in-Ok-Next.field-0.0 c.args.name.now (drop (length p.text) c.item.new.out ∷ list_of k) k k' item c.turn.new.pending
    (option_map view c.turn.new.file) start (g.H.House.told c.turn.new.house) r.ensures.known n.3 (goes (list_of k) start n.0 n.1 n.2) in
    search (rules, h)

pub returns-in_ok-turn-in-Ok-Next-clause-cuts : goal.returns-in_ok-turn-in-Ok-Next-clause-cuts
returns-in_ok-turn-in-Ok-Next-clause-cuts g c =
    let r = c.in-Ok-Next in
    subst GoesOn (sym r.ensures.known) (goes_on c.args.segmenter.now c.args.item.now c.requires.cuts r.ensures.room)

pub returns-in_ok-turn-in-Ok-Next-clause-goes : goal.returns-in_ok-turn-in-Ok-Next-clause-goes
returns-in_ok-turn-in-Ok-Next-clause-goes g c = λ start s.
    let view : g.row.H-File.Denot → FileSeen = λ f. file_seen (g.H.File.Sink.holds f) (g.H.File.Sink.faults f) in
    let k = c.args.segmenter.now in
    let k' = c.item.new.self in
    let item = c.args.item.now in
    let p = c.args.pending.now in
    let told = g.H.House.told c.args.house.now in
    let r = c.in-Ok-Next in
    let cut : Next ≡ cut_of k.least k.past item = sym r.field-0-is ∙ r.ensures.cut in
    let n = next_of c.args.name.now k item p.text c.item.new.out p.title p.count (option_map view c.args.file.now) start told cut r.ensures.room r.ensures.bytes s in
    let goes = rw c.len-before.ensures at c.in_ok-turn-in-Ok-Next.ensures.goes in
    stands_as c.args.name.now (drop (length p.text) c.item.new.out ∷ list_of k) k k' item c.turn.new.pending
    (option_map view c.turn.new.file) start (g.H.House.told c.turn.new.house) r.ensures.known n.3 (goes (list_of k) start n.0 n.1 n.2)

pub returns-in_err-put_some-in-Ok-Same-clause-goes : goal.returns-in_err-put_some-in-Ok-Same-clause-goes
returns-in_err-put_some-in-Ok-Same-clause-goes g c = λ start s.
    let view : g.row.H-File.Denot → FileSeen = λ f. file_seen (g.H.File.Sink.holds f) (g.H.File.Sink.faults f) in
    let k = c.args.segmenter.now in
    let k' = c.item.new.self in
    let item = c.args.item.now in
    let p = c.args.pending.now in
    let told = g.H.House.told c.args.house.now in
    let r = c.in-Ok-Same in
    let cut : Same ≡ cut_of k.least k.past item = sym r.field-0-is ∙ r.ensures.cut in
    let stands = same_of c.args.name.now k item p.text c.item.new.out p.title p.count (option_map view c.args.file.now) start told cut r.ensures.bytes s in
    let b = c.in_err-put_some-in-Ok-Same.ensures.goes c.args.name.now (list_of (given k item)) start told stands in
    let h = item_breaks (ItemEnds k k' item) c.in_err-put_some-in-Ok-Same.field-0.0 c.args.name.now (list_of (given k item)) k k' item c.put_some.new.pending
    (option_map view c.put_some.new.file) start told r.ensures.known refl b in
    search (rules, h)

pub returns-in_ok-put_some-in-Ok-Same-clause-goes : goal.returns-in_ok-put_some-in-Ok-Same-clause-goes
returns-in_ok-put_some-in-Ok-Same-clause-goes g c = λ start s.
    let view : g.row.H-File.Denot → FileSeen = λ f. file_seen (g.H.File.Sink.holds f) (g.H.File.Sink.faults f) in
    let k = c.args.segmenter.now in
    let k' = c.item.new.self in
    let item = c.args.item.now in
    let p = c.args.pending.now in
    let told = g.H.House.told c.args.house.now in
    let r = c.in-Ok-Same in
    let cut : Same ≡ cut_of k.least k.past item = sym r.field-0-is ∙ r.ensures.cut in
    let stands = same_of c.args.name.now k item p.text c.item.new.out p.title p.count (option_map view c.args.file.now) start told cut r.ensures.bytes s in
    let b = c.in_ok-put_some-in-Ok-Same.ensures.goes c.args.name.now (list_of (given k item)) start told stands in
    stands_as c.args.name.now (list_of (given k item)) k k' item c.put_some.new.pending (option_map view c.put_some.new.file) start told r.ensures.known refl b

pub returns-in-Ok-Nothing-clause-goes : goal.returns-in-Ok-Nothing-clause-goes
returns-in-Ok-Nothing-clause-goes g c = λ start s.
    let view : g.row.H-File.Denot → FileSeen = λ f. file_seen (g.H.File.Sink.holds f) (g.H.File.Sink.faults f) in
    let k = c.args.segmenter.now in
    let k' = c.item.new.self in
    let item = c.args.item.now in
    let p = c.args.pending.now in
    let told = g.H.House.told c.args.house.now in
    let r = c.in-Ok-Nothing in
    let q : Pending = record { text = c.item.new.out; title = p.title; count = p.count } in
    let cut : Nothing ≡ cut_of k.least k.past item = sym r.field-0-is ∙ r.ensures.cut in
    stands_as c.args.name.now (list_of (given k item)) k k' item q (option_map view c.args.file.now) start told r.ensures.known refl
    (nothing_of c.args.name.now k item p.text c.item.new.out p.title p.count (option_map view c.args.file.now) start told cut r.ensures.bytes s)

pub returns-in-Err-clause-goes : goal.returns-in-Err-clause-goes
returns-in-Err-clause-goes g c = λ start s.
    let view : g.row.H-File.Denot → FileSeen = λ f. file_seen (g.H.File.Sink.holds f) (g.H.File.Sink.faults f) in
    let k = c.args.segmenter.now in
    let k' = c.item.new.self in
    let item = c.args.item.now in
    let p = c.args.pending.now in
    let told = g.H.House.told c.args.house.now in
    let r = c.in-Err in
    let q : Pending = record { text = c.item.new.out; title = p.title; count = p.count } in
    let stands = subst (λ (t : List ℕ). Stands c.args.name.now (list_of k) t p.title p.count (option_map view c.args.file.now) start told) (sym r.ensures.refused.1) s in
    rw c.from.ensures
    (item_fails r.fail c.args.name.now k k' item q (option_map view c.args.file.now) start told r.ensures.refused.0
    (λ e. r.ensures.too_many c.requires.cuts.lives (ap Err e)) stands)

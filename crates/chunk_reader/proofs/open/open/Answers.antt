use Rattle.std.proofs.Common.{◌∙◌, ◌-◌, min, length, ap, refl}
use Rattle.chunk_wire.specs.declared.kept.ChunkStream.{ChunkStream}
use Rattle.chunk_reader.specs.Core.{the_state}
use Rattle.chunk_reader.proofs.Places.{put_place, opened_is}
use Rattle.chunk_reader.proofs.open.open.Goals as goal

pub returns-clause-opened : goal.returns-clause-opened
returns-clause-opened c =
    let s = the_state c.args.core.now in
    let r = c.args.core.now.head.items in
    let k = opened_is s r c.args.o.id c.args.o.terms c.args.o.drops c.args.o.place c.requires.opening.id c.requires.opening.terms c.requires.opening.drops c.requires.opening.place in
    let place = put_place s r _ c.args.o.place c.put_slot.new.slots.items c.in_ok-core.field-0 c.requires.opening.place k c.in_ok-core.ensures.slots c.in_ok-core.ensures.place in
    let slot = c.index.ensures ∙ place.is c.index.result.now in
    record {
      size = refl;
      head = ap length c.clear.ensures.items;
      place = place;
      need = c.payload-core.ensures ∙ ap (λ (x : ChunkStream). min c.args.core.now.size (x.terms.length - length x.part)) slot;
      counted = c.in_ok-core.ensures.counted;
      max_is = refl;
    }

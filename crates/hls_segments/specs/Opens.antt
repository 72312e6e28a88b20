-- Only proofs and private functions use it.
-- Where a segment may begin, by what a writer answers and appends
use Rattle.std.specs.Prelude.{ℕ, Bool, true, false, ◌==◌, ◌&&◌, not, List, [], ◌∷◌}
use Rattle.av_unit.specs.declared.unit.Kind.{Kind}
use Rattle.av_unit.specs.declared.unit.Kind.TheVariants.{Meta, VConfig, AConfig, Key, Inter, Spare, Audio, Data}
use Rattle.av_unit.specs.declared.item.Item.{Item}
use Rattle.av_unit.specs.declared.item.Item.TheVariants.{Begin, Unit as AUnit, End}
use Rattle.ts_writer.specs.declared.left.Wrote.{Wrote}
use Rattle.ts_writer.specs.declared.left.Wrote.TheVariants.{Unit as AWritten, Nothing as NothingWritten, LeftOut}

-- a text begins with the packet of an association table: the byte behind the first has the start bit and the
-- highest bits of the PID, which are 1 in a unit's packet and 0 in this
abbrev pub has_tables : List ℕ → Bool
has_tables [] = false
has_tables (a ∷ []) = false
has_tables (a ∷ b ∷ more) = b == 0x40

abbrev pub opens : Kind → Bool → List ℕ → Bool
opens Key pictures text = true
opens Audio pictures text = not pictures && has_tables text
opens Meta pictures text = false
opens VConfig pictures text = false
opens AConfig pictures text = false
opens Inter pictures text = false
opens Spare pictures text = false
opens Data pictures text = false

abbrev pub is_read : Wrote → Bool
is_read NothingWritten = true
is_read AWritten = false
is_read (LeftOut left) = false

-- whether pictures are listed after an item: where it is their configuration, if that was read
abbrev pub pictures_by : Kind → Bool → Wrote → Bool
pictures_by VConfig before wrote = is_read wrote
pictures_by Meta before wrote = before
pictures_by AConfig before wrote = before
pictures_by Key before wrote = before
pictures_by Inter before wrote = before
pictures_by Spare before wrote = before
pictures_by Audio before wrote = before
pictures_by Data before wrote = before

abbrev pub pictures_after : Bool → Item → Wrote → Bool
pictures_after before Begin wrote = false
pictures_after before (AUnit u) wrote = pictures_by u.kind before wrote
pictures_after before End wrote = before

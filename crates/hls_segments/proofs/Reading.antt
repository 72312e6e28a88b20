-- What is read of segments
use Rattle.std.proofs.Common.{ℕ, List, sym, subst}
use Rattle.av_unit.specs.declared.item.Item.{Item}
use Rattle.ts_reader.specs.Reads.{Ends}
use Rattle.ts_law.proofs.Items.{read_back, read_only}
use Rattle.hls_segments.specs.ReadBack.{AreReadBack}
use Rattle.hls_segments.proofs.Cutting.{are_cut}

pub are_read : (least : ℕ) (items : List Item) → AreReadBack least items
are_read least items =
    let whole = (are_cut least items).whole in
    let back = read_back items in
    record {
      read = (back.units, back.last, subst (λ (t : List ℕ). Ends t back.units back.last) (sym whole) back.ends);
      only = λ units last e. read_only items units last (subst (λ (t : List ℕ). Ends t units last) whole e);
    }

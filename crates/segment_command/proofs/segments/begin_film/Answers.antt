use Rattle.std.proofs.Common.{◌∙◌, ◌∷◌, ◌++◌, List, ℕ, ap, refl}
use Rattle.av_unit.specs.declared.item.Item.TheVariants.{Begin}
use Rattle.ts_writer.specs.Text.{item_text}
use Rattle.hls_segments.specs.Known.{Known}
use Rattle.hls_segments.proofs.Texts.{begin_text}
use Rattle.segment_command.proofs.segments.begin_film.Goals as goal

pub returns-clause-none : goal.returns-clause-none
returns-clause-none c =
    let e = c.in_ok-item.ensures in
    let past = c.new-segmenter.result.past in (
      e.bytes ∙ ap (λ (l : List ℕ). l ++ item_text past Begin) c.new-text.ensures ∙ begin_text past,
      refl,
      ap (λ (k : Known). k.past) e.known ∙ ap (λ (k : Known). Begin ∷ k.past) c.new-segmenter.ensures,
    )

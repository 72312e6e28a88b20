use Rattle.std.proofs.Common.{◌∙◌}
use Rattle.edge_serve.proofs.Asking.{five}
use Rattle.edge_serve.proofs.words.edge_target.Goals as goal

pub returns-in-len5-clause-asked : goal.returns-in-len5-clause-asked
returns-in-len5-clause-asked g = g.asked_by.ensures.asked ∙ five (λ w. w.items) g.args.words.now
    g.word-item.result g.address-item.result g.app-item.result g.name-item.result
    g.as_slice.result.now g.as_slice-in-len5.result.now g.as_slice-in-len5-2.result.now g.as_slice-in-len5-3.result.now
    g.in-len5.len_at_least g.in-len5.len_below g.word-item.is g.address-item.is g.app-item.is g.name-item.is
    g.as_slice.ensures.value g.as_slice-in-len5.ensures.value g.as_slice-in-len5-2.ensures.value g.as_slice-in-len5-3.ensures.value

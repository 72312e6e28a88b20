use Rattle.std.proofs.Common.{rules, ◌≡◌, ◌++◌, ◌∙◌, sym, ap, append_assoc, append-nil, map, take, List, ℕ, get_or, None}
use Rattle.relay_serve.specs.Counts.{counted_if}
use Rattle.relay_serve.specs.Texts.{lines_from, place_line}
use Rattle.relay_serve.proofs.Lines.{lines_more}
use Rattle.relay_serve.proofs.counting.append_lines.Goals as goal

pub loop-n-init : goal.loop-n-init
loop-n-init c = sym (append-nil c.args.text.now.items)

pub loop-n-preserved : goal.loop-n-preserved
loop-n-preserved c =
    let n = c.loop-n.n in
    let line = place_line c.args.word.now n (counted_if (get_or c.args.list.now n None)) in
    let before = lines_from c.args.word.now 0 (map counted_if (take n c.args.list.now)) in
    let grown : c.append_line.new.text.items ≡ c.loop-n.text.items ++ line = search rules in
    grown ∙ (ap (λ (t : List ℕ). t ++ line) c.loop-n.invariant
    ∙ (append_assoc c.args.text.now.items before line
    ∙ ap (λ (t : List ℕ). c.args.text.now.items ++ t) (sym (lines_more c.args.word.now counted_if c.args.list.now n None c.loop-n-test.true))))

use Rattle.std.proofs.Common.{rules, ◌≡◌, ◌∙◌, ◌++◌, ◌+◌, ◌≤◌, List, ℕ, ap, refl, subst}
use Rattle.stream_model.specs.Shape.{most_held}
use Rattle.stream_registry.specs.Books.{shapes_in}
use Rattle.stream_registry.specs.Names.{shape_at}
use Rattle.relay_replay.specs.Prints.{held_at, open_line, opens_text}
use Rattle.relay_replay.proofs.Totals.{each_table, text_more}
use Rattle.relay_replay.proofs.report.all_opens.Goals as goal

pub loop-n-preserved : goal.loop-n-preserved
loop-n-preserved c =
    let port = c.args.port.now in
    let streams = c.args.streams in
    let n = c.loop-n.n in
    let most : held_at port (streams + n) ≤ most_held (shape_at (shapes_in port.rules) (streams + n)) =
    subst (λ (h : ℕ). h ≤ most_held (shape_at (shapes_in port.rules) (streams + n))) c.held.ensures.sum c.held.ensures.most in
    let text : c.as_bytes.result.now ≡ open_line n c.held.result = search rules in
    let added : c.append.new.self ≡ c.loop-n.out ++ c.as_bytes.result.now = search rules in
    let line = text ∙ ap (open_line n) c.held.ensures.sum in
    record {
      same = text_more (opens_text port streams) n c.args.out.now c.loop-n.out c.append.new.self
          (open_line n (held_at port (streams + n))) refl c.loop-n.invariant.same
          (added ∙ ap (λ (l : List ℕ). c.loop-n.out ++ l) line);
      within = each_table port streams n c.requires.streams c.loop-n.invariant.within most;
    }

use Rattle.std.proofs.Common.{◌∙◌, ◌++◌, ◌∷◌, [], List, Option, Ok, ap, refl, subst, sym, ℕ}
use Rattle.flv_tags.specs.declared.tag.Tag.{Tag}
use Rattle.segment_command.specs.Films.{WasRead}
use Rattle.client_command.proofs.Filming.{prepend_none}
use Rattle.loop_command.specs.Rounds.{NextBy}
use Rattle.loop_command.proofs.Counting.{counted_more, none_counted, stops_since, too_many, whole_read}
use Rattle.loop_command.proofs.film.read_film.Goals as goal

pub loop-init : goal.loop-init
loop-init g c =
    let f = c.new_film-film in
    record {
      reading = f.ensures.reading;
      items = c.new.ensures.items ∙ sym f.ensures.given;
      counted = none_counted _ c.new.ensures.items refl;
      read = subst (λ (b : List ℕ). WasRead b (g.S.Source.left c.args.input.now) (g.S.Source.left c.args.input.now)) (sym f.ensures.none)
          (prepend_none (g.S.Source.left c.args.input.now));
      faults = refl;
    }

pub returns-in-Err : goal.returns-in-Err
returns-in-Err g c =
    let S = g.S.Source in
    let l = c.loop in
    let t = c.next_within.new in
    let start = S.left c.args.input.now in
    stops_since c.in-Err.stop start (S.left t.input) (S.faults c.args.input.now) (S.faults l.input) (S.faults t.input) l.invariant.faults
    (c.in-Err.ensures start l.invariant.read)

pub returns-in-Ok-None : goal.returns-in-Ok-None
returns-in-Ok-None g c =
    let S = g.S.Source in
    let l = c.loop in
    let t = c.next_within.new in
    let start = S.left c.args.input.now in
    let h = subst (λ (o : Option Tag). NextBy (Ok o) l.film t.film start (S.left t.input) (S.faults l.input) (S.faults t.input)) c.in-Ok-None.field-0-is
    (c.in-Ok-None.ensures start l.invariant.read) in
    whole_read l.reading l.film t.film start (S.left t.input) (S.faults c.args.input.now) (S.faults l.input) (S.faults t.input) l.invariant.counted
    l.invariant.items l.invariant.faults h

pub add_tag-requires-clause-fits : goal.add_tag-requires-clause-fits
add_tag-requires-clause-fits g c =
    let S = g.S.Source in
    let l = c.loop in
    let t = c.next_within.new in
    let start = S.left c.args.input.now in
    let h = subst (λ (o : Option Tag). NextBy (Ok o) l.film t.film start (S.left t.input) (S.faults l.input) (S.faults t.input)) c.in-Ok-Some.field-0-is
    (c.in-Ok-Some.ensures start l.invariant.read) in
    h.0.1

pub returns-in-Err-add_tag : goal.returns-in-Err-add_tag
returns-in-Err-add_tag g c =
    let S = g.S.Source in
    let l = c.loop in
    let t = c.next_within.new in
    let start = S.left c.args.input.now in
    let h = subst (λ (o : Option Tag). NextBy (Ok o) l.film t.film start (S.left t.input) (S.faults l.input) (S.faults t.input)) c.in-Ok-Some.field-0-is
    (c.in-Ok-Some.ensures start l.invariant.read) in
    too_many c.in-Err-add_tag.stop c.in-Ok-Some.tag l.reading c.add_tag.new.reading l.film t.film start (S.left t.input) (S.faults c.args.input.now)
    (S.faults l.input) (S.faults t.input)
    l.invariant.counted l.invariant.items l.invariant.faults c.in-Err-add_tag.ensures h

pub loop-preserved : goal.loop-preserved
loop-preserved g c =
    let S = g.S.Source in
    let l = c.loop in
    let t = c.next_within.new in
    let start = S.left c.args.input.now in
    let h = subst (λ (o : Option Tag). NextBy (Ok o) l.film t.film start (S.left t.input) (S.faults l.input) (S.faults t.input)) c.in-Ok-Some.field-0-is
    (c.in-Ok-Some.ensures start l.invariant.read) in
    let a = c.in-Ok.ensures in
    record {
      reading = h.0.0;
      items = a.0 ∙ ap (λ (tags : List Tag). tags ++ c.in-Ok-Some.tag ∷ []) l.invariant.items ∙ sym h.2;
      counted = counted_more l.reading c.add_tag.new.reading c.in-Ok-Some.tag l.invariant.counted h.0.1 a;
      read = h.1;
      faults = h.3 ∙ l.invariant.faults;
    }

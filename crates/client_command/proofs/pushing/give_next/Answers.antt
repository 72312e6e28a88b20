use Rattle.std.proofs.Common.{Ok, Option, subst}
use Rattle.flv_tags.specs.declared.tag.Tag.{Tag}
use Rattle.client_command.specs.Giving.{MayGo, ReadsNext}
use Rattle.client_owed.specs.declared.types.Given.TheVariants.{Finish, Send}
use Rattle.client_command.proofs.Pushed.{end_given, live_given, lost_end, lost_given, may_send, next_stops, open_given, tag_given}
use Rattle.client_command.proofs.pushing.give_next.Goals as goal

pub returns-in-Err-clause-goes : goal.returns-in-Err-clause-goes
returns-in-Err-clause-goes g c = λ k old told counts v.
    let S = g.S.Source in
    let t = c.next.new in
    next_stops c.in-Err.stop k c.args.client.now c.args.film.now old (S.left c.args.input.now) (S.left t.input) (S.faults c.args.input.now) (S.faults t.input) told counts
    c.requires.may c.requires.nothing v (c.in-Err.ensures.goes old.left v.read)

pub returns-in-Ok-clause-may : goal.returns-in-Ok-clause-may
returns-in-Ok-clause-may g c =
    let a = c.args.client.now in
    let d = c.give_tag.new.client in
    let tag = c.in-Ok-Some.tag in
    let fine = subst (MayGo c.next.new.film) c.in-Ok-Some.field-0-is c.in-Ok-Some.ensures.fine in
    let may = may_send a tag c.requires.may c.give_tag.ensures.range fine.1 in
    let live = live_given c.give_step.ensures a d (Send tag) c.requires.may c.requires.started may c.in-Ok.ensures.past c.in-Ok.ensures.keeps c.give_tag.ensures.others in
    (open_given a d tag c.requires.may live c.in-Ok.ensures.keeps c.give_tag.ensures.others, fine.0)

pub returns-in-Ok-clause-goes : goal.returns-in-Ok-clause-goes
returns-in-Ok-clause-goes g c = λ k old told counts v.
    let S = g.S.Source in
    let t = c.next.new in
    let read = subst (λ (o : Option Tag). ReadsNext (Ok o) c.args.film.now t.film old.left (S.left t.input) (S.faults c.args.input.now) (S.faults t.input)) c.in-Ok-Some.field-0-is in
    let a = c.args.client.now in
    let d = c.give_tag.new.client in
    let tag = c.in-Ok-Some.tag in
    let fine = subst (MayGo c.next.new.film) c.in-Ok-Some.field-0-is c.in-Ok-Some.ensures.fine in
    let may = may_send a tag c.requires.may c.give_tag.ensures.range fine.1 in
    let live = live_given c.give_step.ensures a d (Send tag) c.requires.may c.requires.started may c.in-Ok.ensures.past c.in-Ok.ensures.keeps c.give_tag.ensures.others in
    tag_given k a d c.args.film.now t.film tag old (S.left c.args.input.now) (S.left t.input) (S.faults c.args.input.now) (S.faults t.input) told counts v
    (read (c.in-Ok-Some.ensures.goes old.left v.read)) live c.in-Ok.ensures.past c.give_tag.ensures.others

pub returns-in-Err-give_tag-clause-goes : goal.returns-in-Err-give_tag-clause-goes
returns-in-Err-give_tag-clause-goes g c = λ k old told counts v.
    let S = g.S.Source in
    let t = c.next.new in
    let read = subst (λ (o : Option Tag). ReadsNext (Ok o) c.args.film.now t.film old.left (S.left t.input) (S.faults c.args.input.now) (S.faults t.input)) c.in-Ok-Some.field-0-is in
    lost_given k c.args.client.now c.args.film.now t.film c.in-Ok-Some.tag old (S.left c.args.input.now) (S.left t.input) (S.faults c.args.input.now) (S.faults t.input) told counts
    c.requires.may (subst (MayGo t.film) c.in-Ok-Some.field-0-is c.in-Ok-Some.ensures.fine).0 v (read (c.in-Ok-Some.ensures.goes old.left v.read))

pub returns-in-Ok-finish-clause-may : goal.returns-in-Ok-finish-clause-may
returns-in-Ok-finish-clause-may g c =
    live_given c.give_step.ensures c.args.client.now c.finish.new.self Finish c.requires.may c.requires.started tt c.in-Ok-finish.ensures.past c.in-Ok-finish.ensures.keeps c.finish.ensures.others

pub returns-in-Ok-finish-clause-goes : goal.returns-in-Ok-finish-clause-goes
returns-in-Ok-finish-clause-goes g c = λ k old told counts v.
    let S = g.S.Source in
    let t = c.next.new in
    let read = subst (λ (o : Option Tag). ReadsNext (Ok o) c.args.film.now t.film old.left (S.left t.input) (S.faults c.args.input.now) (S.faults t.input)) c.in-Ok-None.field-0-is in
    let a = c.args.client.now in
    let d = c.finish.new.self in
    let live = live_given c.give_step.ensures a d Finish c.requires.may c.requires.started tt c.in-Ok-finish.ensures.past c.in-Ok-finish.ensures.keeps c.finish.ensures.others in
    end_given k a d c.args.film.now t.film old (S.left c.args.input.now) (S.left t.input) (S.faults c.args.input.now) (S.faults t.input) told counts c.requires.may.pushes v
    (read (c.in-Ok-None.ensures.goes old.left v.read)) live c.in-Ok-finish.ensures.past c.finish.ensures.others

pub returns-in-Err-finish-clause-goes : goal.returns-in-Err-finish-clause-goes
returns-in-Err-finish-clause-goes g c = λ k old told counts v.
    let S = g.S.Source in
    let t = c.next.new in
    let read = subst (λ (o : Option Tag). ReadsNext (Ok o) c.args.film.now t.film old.left (S.left t.input) (S.faults c.args.input.now) (S.faults t.input)) c.in-Ok-None.field-0-is in
    lost_end k c.args.client.now c.args.film.now t.film old (S.left c.args.input.now) (S.left t.input) (S.faults c.args.input.now) (S.faults t.input) told counts
    c.requires.may v (read (c.in-Ok-None.ensures.goes old.left v.read))

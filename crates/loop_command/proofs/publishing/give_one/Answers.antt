use Rattle.std.proofs.Common.{◌∙◌, ◌++◌, Option, ap, refl, subst, sym}
use Rattle.std.specs.Prelude.{option_to_list}
use Rattle.client_owed.specs.declared.types.Given.TheVariants.{Finish, Send}
use Rattle.client_command.proofs.Pushed.{live_given, may_send}
use Rattle.flv_tags.specs.declared.tag.Tag.{Tag}
use Rattle.loop_command.specs.Rounds.{AreWritable}
use Rattle.loop_command.proofs.Running.{can_open, can_parts, end_goes, end_sound, no_tags, tag_goes, tag_sound}
use Rattle.loop_command.proofs.publishing.give_one.Goals as goal

pub give_tag-requires-clause-may : goal.give_tag-requires-clause-may
give_tag-requires-clause-may c = (can_open c.args.run.now c.requires.giving c.requires.sound).0

pub give_tag-requires-clause-started : goal.give_tag-requires-clause-started
give_tag-requires-clause-started c = (can_parts c.args.run.now.push.client c.requires.can).0

pub give_tag-requires-clause-nothing : goal.give_tag-requires-clause-nothing
give_tag-requires-clause-nothing c = (can_parts c.args.run.now.push.client c.requires.can).1

pub give_tag-requires-clause-fine : goal.give_tag-requires-clause-fine
give_tag-requires-clause-fine c =
    let items = c.pop_front.ensures.items ∙ ap (λ (o : Option Tag). option_to_list o ++ c.pop_front.new.self.items) c.in-Some.is in
    (subst AreWritable items (can_open c.args.run.now c.requires.giving c.requires.sound).1).0

pub returns-in_ok-give_tag-in-Some-clause-sound : goal.returns-in_ok-give_tag-in-Some-clause-sound
returns-in_ok-give_tag-in-Some-clause-sound c =
    let r = c.args.run.now in
    let items = c.pop_front.ensures.items ∙ ap (λ (o : Option Tag). option_to_list o ++ c.pop_front.new.self.items) c.in-Some.is in
    let opened = can_open r c.requires.giving c.requires.sound in
    let can = can_parts r.push.client c.requires.can in
    let e = c.in_ok-give_tag-in-Some.ensures in
    let fine = (subst AreWritable items opened.1).0 in
    let d = c.give_tag.new.client in
    let live = live_given c.give_step.ensures r.push.client d (Send c.in-Some.tag) opened.0 can.0
    (may_send r.push.client c.in-Some.tag opened.0 c.give_tag.ensures.range fine) e.past e.keeps c.give_tag.ensures.others in
    tag_sound r (record r { push = record r.push { client = d }; tags = c.pop_front.new.self }) c.in-Some.tag c.requires.giving items refl
    (record { past = e.past; keeps = e.keeps; counts = e.counts; others = c.give_tag.ensures.others }) live c.requires.sound

pub returns-in_ok-give_tag-in-Some-clause-goes : goal.returns-in_ok-give_tag-in-Some-clause-goes
returns-in_ok-give_tag-in-Some-clause-goes c = λ file old now h.
    let r = c.args.run.now in
    let items = c.pop_front.ensures.items ∙ ap (λ (o : Option Tag). option_to_list o ++ c.pop_front.new.self.items) c.in-Some.is in
    let opened = can_open r c.requires.giving c.requires.sound in
    let can = can_parts r.push.client c.requires.can in
    let e = c.in_ok-give_tag-in-Some.ensures in
    let fine = (subst AreWritable items opened.1).0 in
    let d = c.give_tag.new.client in
    let live = live_given c.give_step.ensures r.push.client d (Send c.in-Some.tag) opened.0 can.0
    (may_send r.push.client c.in-Some.tag opened.0 c.give_tag.ensures.range fine) e.past e.keeps c.give_tag.ensures.others in
    tag_goes file old now r (record r { push = record r.push { client = d }; tags = c.pop_front.new.self }) c.in-Some.tag c.requires.giving items refl
    (record { past = e.past; keeps = e.keeps; counts = e.counts; others = c.give_tag.ensures.others }) live h

pub finish-requires-clause-lives : goal.finish-requires-clause-lives
finish-requires-clause-lives c = (can_open c.args.run.now c.requires.giving c.requires.sound).0.live.lives

pub finish-requires-clause-started : goal.finish-requires-clause-started
finish-requires-clause-started c = (can_parts c.args.run.now.push.client c.requires.can).0

pub finish-requires-clause-open : goal.finish-requires-clause-open
finish-requires-clause-open c = (can_open c.args.run.now c.requires.giving c.requires.sound).0.open_is

pub returns-in_ok-finish-in-None-clause-sound : goal.returns-in_ok-finish-in-None-clause-sound
returns-in_ok-finish-in-None-clause-sound c =
    end_sound c.args.run.now _ refl c.requires.sound

pub returns-in_ok-finish-in-None-clause-goes : goal.returns-in_ok-finish-in-None-clause-goes
returns-in_ok-finish-in-None-clause-goes c = λ file old now h.
    let r = c.args.run.now in
    let opened = can_open r c.requires.giving c.requires.sound in
    let can = can_parts r.push.client c.requires.can in
    let e = c.in_ok-finish-in-None.ensures in
    let d = c.finish.new.self in
    let tags = c.pop_front.new.self in
    let same = c.pop_front.ensures.items ∙ ap (λ (o : Option Tag). option_to_list o ++ tags.items) c.in-None.is in
    let none = no_tags r.tags.items r.tags.len r.tags.ok.0 c.in-None.ensures.cases.0 in
    let live = live_given c.give_step.ensures r.push.client d Finish opened.0 can.0 tt e.past e.keeps c.finish.ensures.others in
    end_goes file old now r _ c.requires.giving none (sym same ∙ none) refl
    (record { past = e.past; keeps = e.keeps; counts = e.counts; others = c.finish.ensures.others }) live h

use Rattle.std.proofs.Common.{ℕ, inr, sym, ap, ◌∙◌, subst, Ok}
use Rattle.client_owed.specs.Client.{Did}
use Rattle.rtmp_client.specs.Owing.{Says}
use Rattle.rtmp_client.proofs.Pending.{says_nothing}
use Rattle.rtmp_client.proofs.Telling.{bad_refused, control_passed, control_window, none_passed, none_window, other_control, other_none, other_told}
use Rattle.rtmp_client.proofs.answers.answer_other.Goals as goal

pub returns-in-Err-clause-err : goal.returns-in-Err-clause-err
returns-in-Err-clause-err c = inr (bad_refused c.args.last c.args.message c.in-Err.field-0 (sym c.control_of.ensures.value ∙ c.in-Err.is))

pub returns-in-Ok-None-clause-phase : goal.returns-in-Ok-None-clause-phase
returns-in-Ok-None-clause-phase c = λ k.
    let e = sym c.control_of.ensures.value ∙ c.in-Ok-None.is ∙ ap Ok c.in-Ok-None.field-0-is in
    sym (ap (λ (d : Did). d.phase) (other_none k c.args.phase c.args.message c.requires e))

pub returns-in-Ok-None-clause-said : goal.returns-in-Ok-None-clause-said
returns-in-Ok-None-clause-said c = λ k.
    let e = sym c.control_of.ensures.value ∙ c.in-Ok-None.is ∙ ap Ok c.in-Ok-None.field-0-is in
    subst (λ (d : Did). Says c.args.outgoing.now d.says c.args.outgoing.now) (sym (other_none k c.args.phase c.args.message c.requires e)) (says_nothing c.args.outgoing.now)

pub returns-in-Ok-None-clause-window : goal.returns-in-Ok-None-clause-window
returns-in-Ok-None-clause-window c =
    let e = sym c.control_of.ensures.value ∙ c.in-Ok-None.is ∙ ap Ok c.in-Ok-None.field-0-is in
    ap (λ (w : ℕ). record { window = w; taken = c.args.inbound.now.taken }) (sym (none_window c.args.inbound.now.window c.args.message e))

pub returns-in-Ok-None-clause-gift : goal.returns-in-Ok-None-clause-gift
returns-in-Ok-None-clause-gift c = c.media.ensures ∙ other_told c.args.wish c.args.phase c.args.message c.requires

pub returns-in-Ok-None-clause-ok : goal.returns-in-Ok-None-clause-ok
returns-in-Ok-None-clause-ok c =
    let e = sym c.control_of.ensures.value ∙ c.in-Ok-None.is ∙ ap Ok c.in-Ok-None.field-0-is in
    none_passed c.args.last c.args.message c.requires e

pub returns-in-Ok-clause-phase : goal.returns-in-Ok-clause-phase
returns-in-Ok-clause-phase c = λ k.
    let e = sym c.control_of.ensures.value ∙ c.in-Ok-Some.is ∙ ap Ok c.in-Ok-Some.field-0-is in
    sym (ap (λ (d : Did). d.phase) (other_control k c.args.phase c.args.message c.in-Ok-Some.control e))

pub returns-in-Ok-clause-said : goal.returns-in-Ok-clause-said
returns-in-Ok-clause-said c = λ k.
    let e = sym c.control_of.ensures.value ∙ c.in-Ok-Some.is ∙ ap Ok c.in-Ok-Some.field-0-is in
    subst (λ (d : Did). Says c.args.outgoing.now d.says c.answer_control.new.outgoing) (sym (other_control k c.args.phase c.args.message c.in-Ok-Some.control e)) c.in-Ok.ensures.said

pub returns-in-Ok-clause-window : goal.returns-in-Ok-clause-window
returns-in-Ok-clause-window c =
    let e = sym c.control_of.ensures.value ∙ c.in-Ok-Some.is ∙ ap Ok c.in-Ok-Some.field-0-is in
    c.heed.ensures ∙ ap (λ (w : ℕ). record { window = w; taken = c.args.inbound.now.taken }) (sym (control_window c.args.inbound.now.window c.args.message c.in-Ok-Some.control e))

pub returns-in-Ok-clause-gift : goal.returns-in-Ok-clause-gift
returns-in-Ok-clause-gift c = c.media-in-Ok.ensures ∙ other_told c.args.wish c.args.phase c.args.message c.requires

pub returns-in-Ok-clause-ok : goal.returns-in-Ok-clause-ok
returns-in-Ok-clause-ok c =
    let e = sym c.control_of.ensures.value ∙ c.in-Ok-Some.is ∙ ap Ok c.in-Ok-Some.field-0-is in
    control_passed c.args.last c.args.message c.in-Ok-Some.control e

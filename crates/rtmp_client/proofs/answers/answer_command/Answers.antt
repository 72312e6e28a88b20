use Rattle.std.proofs.Common.{◌≡◌, ◌⊎◌, List, ℕ, Some, sym, ap, ◌∙◌, subst}
use Rattle.std.proofs.lemmas.Result.{err_from_is_err_and}
use Rattle.client_owed.specs.Client.{Did}
use Rattle.client_owed.specs.News.{news_in}
use Rattle.rtmp_client.specs.Owing.{Says}
use Rattle.rtmp_client.specs.Refusing.{ended_by}
use Rattle.rtmp_client.specs.declared.end.ClientEnd.TheVariants as end
use Rattle.rtmp_client.proofs.Telling.{command_does, command_passed, command_refused, command_told}
use Rattle.rtmp_client.proofs.answers.answer_command.Goals as goal

pub returns-in_err-news-clause-err : goal.returns-in_err-news-clause-err
returns-in_err-news-clause-err c =
    let p = err_from_is_err_and c.from_residual.result c.from_residual.ensures.1 in
    let e = c.in_err-news.field-0.0 in
    let h = subst (λ (b : List ℕ). (e ≡ end.OutOfMemory) ⊎ (ended_by c.args.last (news_in b) ≡ Some e)) c.as_slice.ensures c.in_err-news.ensures in
    rw (p.1, p.2) (command_refused c.args.last c.args.message e c.requires.command h)

pub returns-in-Ok-clause-phase : goal.returns-in-Ok-clause-phase
returns-in-Ok-clause-phase c =
    let h = ap news_in (sym c.as_slice.ensures) ∙ c.in_ok-news.ensures.0 in
    c.in-Ok.ensures.phase ∙ sym (ap (λ (d : Did). d.phase) (command_does c.args.asked.now c.args.phase.now c.args.message c.in_ok-news.news c.requires.command h))

pub returns-in-Ok-clause-said : goal.returns-in-Ok-clause-said
returns-in-Ok-clause-said c =
    let h = ap news_in (sym c.as_slice.ensures) ∙ c.in_ok-news.ensures.0 in
    subst (λ (d : Did). Says c.args.outgoing.now d.says c.learn.new.outgoing) (sym (command_does c.args.asked.now c.args.phase.now c.args.message c.in_ok-news.news c.requires.command h)) c.in-Ok.ensures.said

pub returns-in-Ok-clause-gift : goal.returns-in-Ok-clause-gift
returns-in-Ok-clause-gift c =
    let h = ap news_in (sym c.as_slice.ensures) ∙ c.in_ok-news.ensures.0 in
    c.told-gift.ensures ∙ command_told c.args.asked.now.wish c.args.phase.now c.args.message c.in_ok-news.news c.requires.command h

pub returns-in-Ok-clause-ok : goal.returns-in-Ok-clause-ok
returns-in-Ok-clause-ok c =
    let h = ap news_in (sym c.as_slice.ensures) ∙ c.in_ok-news.ensures.0 in
    command_passed c.args.last c.args.message c.in_ok-news.news c.requires.command h c.in_ok-news.ensures.1

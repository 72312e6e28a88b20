use Rattle.std.proofs.Common.{sym, ◌∙◌, subst, Option}
use Rattle.std.specs.Option.{option_map_or}
use Rattle.std.proofs.Common.{[]}
use Rattle.av_unit.specs.declared.item.Item.{Item}
use Rattle.command_dialog.specs.Dialog.{shown}
use Rattle.relay_session.specs.Owing.{Takes}
use Rattle.relay_session.proofs.Answering.{takes_none}
use Rattle.relay_session.proofs.answers.take_in.Goals as goal

pub returns-in-None-clause-takes : goal.returns-in-None-clause-takes
returns-in-None-clause-takes c =
    let S : Option Item → Type 0 = λ o. Takes c.args.outgoing.now (option_map_or (shown c.args.id) o []) c.args.outgoing.now in
    subst S (sym c.in-None.is ∙ c.item_of.ensures) (takes_none c.args.outgoing.now)

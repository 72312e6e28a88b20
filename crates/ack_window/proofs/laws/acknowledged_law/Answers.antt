use Rattle.ack_window.proofs.Kept.{sent_is, within_sent, never_falls, counts, attained, understood, behind_is}
use Rattle.ack_window.proofs.laws.acknowledged_law.Goals as goal

pub returns-clause-sent : goal.returns-clause-sent
returns-clause-sent c = sent_is

pub returns-clause-within : goal.returns-clause-within
returns-clause-within c = within_sent

pub returns-clause-never_falls : goal.returns-clause-never_falls
returns-clause-never_falls c = never_falls

pub returns-clause-counts : goal.returns-clause-counts
returns-clause-counts c = counts

pub returns-clause-attained : goal.returns-clause-attained
returns-clause-attained c = attained

pub returns-clause-understood : goal.returns-clause-understood
returns-clause-understood c = understood

pub returns-clause-behind : goal.returns-clause-behind
returns-clause-behind c = behind_is

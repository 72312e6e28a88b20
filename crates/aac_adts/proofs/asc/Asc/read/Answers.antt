use Rattle.std.proofs.Common.{◌≡◌, sym, ◌∙◌, arith}
use Rattle.aac_adts.specs.Config.{config_of}
use Rattle.aac_adts.proofs.Configs.{enough, found, only}
use Rattle.aac_adts.proofs.asc.Asc.read.Goals as goal

whole : (c : goal.After-of) → c.of.result ≡ config_of c.args.body.now
whole c = c.of.ensures ∙ sym (enough c.args.body.now c.be16-start.result c.if-body-lt2.false c.be16-start.ensures)

pub returns-clause-found : goal.returns-clause-found
returns-clause-found c = found c.args.body.now (λ i. omega (arith, c.type_inv.body i)) c.of.result (whole c)

pub returns-clause-only : goal.returns-clause-only
returns-clause-only c a fits begins = whole c ∙ only c.args.body.now a fits begins

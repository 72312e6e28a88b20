use Rattle.std.proofs.Common.{arith}
use Rattle.avc_annexb.proofs.Records.{gives_found, gives_only}
use Rattle.avc_annexb.proofs.avcc.Avcc.read.Goals as goal

pub returns-clause-found : goal.returns-clause-found
returns-clause-found c = gives_found c.read_record.result c.args.body.now (λ i. omega (arith, c.type_inv.body i)) c.read_record.ensures

pub returns-clause-only : goal.returns-clause-only
returns-clause-only c = λ config is. gives_only c.read_record.result c.args.body.now config c.read_record.ensures is

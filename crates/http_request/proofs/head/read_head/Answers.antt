use Rattle.http_request.proofs.Reading.{refused_long}
use Rattle.http_request.proofs.head.read_head.Goals as goal

pub returns-else-received-lt-HEAD_MOST : goal.returns-else-received-lt-HEAD_MOST
returns-else-received-lt-HEAD_MOST c =
    refused_long c.args.received.now c.first_part-front.result.now c.in-Ok-Partial.field-0 c.first_part-front.ensures c.in-Ok-Partial.field-0-is c.in-Ok-Partial.ensures.partial c.if-received-lt-HEAD_MOST.false

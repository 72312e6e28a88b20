use Rattle.std.proofs.Common.{◌∷◌, [], ◌++◌, List, ℕ, replicate, ap, ◌∙◌, append_assoc}
use Rattle.rtmp_client.proofs.steps.say_hello.Goals as goal

pub returns-clause-bytes : goal.returns-clause-bytes
returns-clause-bytes c =
    c.in_ok-append-2.ensures.bytes ∙ ap (λ (b : List ℕ). b ++ replicate 1536 0) c.in_ok-append.ensures.bytes ∙ append_assoc c.args.outgoing.now.pending (3 ∷ []) (replicate 1536 0)

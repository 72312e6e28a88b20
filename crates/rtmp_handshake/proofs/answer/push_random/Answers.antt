use Rattle.std.proofs.Common.{◌%◌, [], ◌∷◌, sym, append_assoc}
use Rattle.std.proofs.lemmas.List.{append-nil}
use Rattle.rtmp_handshake.specs.Answer.{random_bytes}
use Rattle.rtmp_handshake.proofs.Randoms.{random_more, random_none}
use Rattle.rtmp_handshake.proofs.answer.push_random.Goals as goal

pub loop-i-init : goal.loop-i-init
loop-i-init c = rw random_none (sym (append-nil _))

pub loop-i-preserved : goal.loop-i-preserved
loop-i-preserved c =
    let more = random_more c.loop-i.i in
    let joined = append_assoc c.args.list.now.items (random_bytes c.loop-i.i) ((c.loop-i.i % 251) ∷ []) in
    cc c.in_ok-push.ensures.items

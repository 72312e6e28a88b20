use Rattle.std.proofs.Common.{rules, ◌≡◌, ◌∷◌, ◌++◌, ◌∙◌, List, [], ℕ, ap}
use Rattle.std.proofs.Math.ListN.{replicate}
use Rattle.chunk_writer.specs.WriterKnown.{fresh}
use Rattle.chunk_writer.specs.Written.{bytes_of, next}
use Rattle.relay_soak.specs.Clients.{command, connect, create_stream}
use Rattle.relay_soak.proofs.Saying.{after_three, written_three}
use Rattle.relay_soak.proofs.clients.first_input.Goals as goal

pub returns-clause-bytes : goal.returns-clause-bytes
returns-clause-bytes c =
    let first : c.say.new.writer ≡ next fresh (command 0 connect) = search rules in
    let second : c.say-2.new.writer ≡ next c.say.new.writer (command 0 create_stream) = search rules in
    let zeros : c.add_zeros.new.out ≡ 3 ∷ replicate 3072 0 =
    c.in_ok-add_zeros.ensures ∙ ap (λ (l : List ℕ). l ++ replicate 3072 0) (c.in_ok-append.ensures.ok ∙ ap (λ (l : List ℕ). l ++ 3 ∷ []) c.new-out.ensures) in
    let one : c.say.new.out ≡ c.add_zeros.new.out ++ bytes_of fresh (command 0 connect) = search rules in
    let two : c.say-2.new.out ≡ c.say.new.out ++ bytes_of c.say.new.writer (command 0 create_stream) = search rules in
    written_three fresh c.say.new.writer c.say-2.new.writer (command 0 connect) (command 0 create_stream) (command 1 c.args.last.now) (3 ∷ replicate 3072 0) c.say.new.out c.say-2.new.out c.say-3.new.out first second
    (one ∙ ap (λ (l : List ℕ). l ++ bytes_of fresh (command 0 connect)) zeros) two c.in_ok-say-3.ensures.bytes

pub returns-clause-writer : goal.returns-clause-writer
returns-clause-writer c =
    let first : c.say.new.writer ≡ next fresh (command 0 connect) = search rules in
    let second : c.say-2.new.writer ≡ next c.say.new.writer (command 0 create_stream) = search rules in
    after_three fresh c.say.new.writer c.say-2.new.writer c.say-3.new.writer (command 0 connect) (command 0 create_stream) (command 1 c.args.last.now) first second c.in_ok-say-3.ensures.writer

use Rattle.std.proofs.Common.{◌≡◌, ℕ, List, [], ◌∷◌, subst, sym, rules, refl, arith}
use Rattle.relay_base.specs.Numbers.{be32_of}
use Rattle.chunk_writer.specs.Written.{IsWritable, message_with}
use Rattle.wire_tests.proofs.writing.a_message_goes_chunk_by_chunk.Goals as goal

two : IsWritable (message_with 1 0 0 (0 ∷ 0 ∷ 0 ∷ 2 ∷ []))
unfolding be32_of
two = record { kind = refl; short = omega arith; some = λ e. omega arith; most = λ e. omega arith }

pub put_message-requires : goal.put_message-requires
put_message-requires g c =
    let e : c.from_vec.result ≡ 0 ∷ 0 ∷ 0 ∷ 2 ∷ [] = search rules in
    let W : List ℕ → Type 0 = λ body. IsWritable (message_with 1 0 0 body) in
    subst W (sym e) two

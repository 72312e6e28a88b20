-- The writer through the whole list, and the bytes owed
use Rattle.std.proofs.Common.{◌≡◌, ℕ, List, [], ◌++◌, refl, sym, ap, ◌∙◌, append_assoc}
use Rattle.chunk_wire.specs.declared.message.Message.{Message}
use Rattle.chunk_writer.specs.WriterKnown.{WriterKnown}
use Rattle.chunk_writer.specs.WriterKnown as writer
use Rattle.chunk_writer.specs.Written.{written, after_all}
use Rattle.chunk_writer.proofs.Going.{after_joined, written_joined}
use Rattle.rtmp_handshake.specs.Answer.{answered}
use Rattle.session_owed.specs.Dialogue.{Dialogue}
use Rattle.session_owed.specs.Talk.{Own}
use Rattle.session_owed.specs.Owed.{owed, out, writer_after, count_of}

pub written_none : (w : WriterKnown) → written w [] ≡ []
unfolding written
written_none w = refl

pub after_none : (w : WriterKnown) → after_all w [] ≡ w
unfolding after_all
after_none w = refl

module _ {S : Type 0} (d : Dialogue S) where
  -- where more messages are owed, more bytes are
  pub out_more : (x y : List ℕ) (ms ns : List (ℕ × Message)) (C D : List Own) (more : List Message) → answered y ≡ answered x → owed d (count_of d y) ns D ≡ owed d (count_of d x) ms C ++ more
      → out d y ns D ≡ out d x ms C ++ written (writer_after d x ms C) more
  unfolding out writer_after
  out_more x y ms ns C D more h o =
      let l = owed d (count_of d x) ms C in
      ap (λ v. v ++ written writer.fresh (owed d (count_of d y) ns D)) h
      ∙ ap (λ v. answered x ++ written writer.fresh v) o
      ∙ ap (λ v. answered x ++ v) (written_joined writer.fresh l more)
      ∙ sym (append_assoc (answered x) (written writer.fresh l) (written (after_all writer.fresh l) more))

  pub writer_more : (x y : List ℕ) (ms ns : List (ℕ × Message)) (C D : List Own) (more : List Message) → owed d (count_of d y) ns D ≡ owed d (count_of d x) ms C ++ more
      → writer_after d y ns D ≡ after_all (writer_after d x ms C) more
  unfolding writer_after
  writer_more x y ms ns C D more o = ap (after_all writer.fresh) o ∙ after_joined writer.fresh (owed d (count_of d x) ms C) more

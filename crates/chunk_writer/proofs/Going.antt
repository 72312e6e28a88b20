-- With more messages
use Rattle.std.proofs.Common.{◌≡◌, ℕ, List, [], ◌∷◌, ◌++◌, Option, refl, sym, ap, ◌∙◌, append_assoc, append-nil}
use Rattle.chunk_wire.specs.declared.message.Message.{Message}
use Rattle.chunk_writer.specs.WriterKnown.{WriterKnown}
use Rattle.chunk_writer.specs.declared.begun.Begun.{Begun}
use Rattle.chunk_writer.specs.declared.heading.Heading.{Heading}
use Rattle.chunk_writer.specs.Rule.{begun_after, begun_on, last_on}
use Rattle.chunk_writer.specs.Sound.{AreLasts}
use Rattle.chunk_writer.specs.Written.{after_all, bytes_of, next, written}

pub after_joined : (w : WriterKnown) (a b : List Message) → after_all w (a ++ b) ≡ after_all (after_all w a) b
unfolding after_all
after_joined w [] b = refl
after_joined w (m ∷ a) b = after_joined (next w m) a b

pub written_joined : (w : WriterKnown) (a b : List Message) → written w (a ++ b) ≡ written w a ++ written (after_all w a) b
unfolding written after_all
written_joined w [] b = refl
written_joined w (m ∷ a) b =
    ap (λ (l : List ℕ). bytes_of w m ++ l) (written_joined (next w m) a b)
    ∙ sym (append_assoc (bytes_of w m) (written (next w m) a) (written (after_all (next w m) a) b))

written_one : (w : WriterKnown) (m : Message) → written w (m ∷ []) ≡ bytes_of w m
unfolding written
written_one w m = append-nil (bytes_of w m)

pub after_more : (w : WriterKnown) (ms : List Message) (m : Message) → after_all w (ms ++ m ∷ []) ≡ next (after_all w ms) m
unfolding after_all
after_more w ms m = after_joined w ms (m ∷ [])

pub written_more : (w : WriterKnown) (ms : List Message) (m : Message) → written w (ms ++ m ∷ []) ≡ written w ms ++ bytes_of (after_all w ms) m
written_more w ms m = written_joined w ms (m ∷ []) ∙ ap (λ (l : List ℕ). written w ms ++ l) (written_one (after_all w ms) m)

-- how a message is begun is found by the last on each chunk stream alone
pub begun_is : (lasts said : List Begun) (h : Heading) (last : Option Begun) (b : Begun) → AreLasts lasts said → last ≡ last_on h.id lasts → b ≡ begun_after last h → b ≡ begun_on said h
begun_is lasts said h last b r l e = e ∙ ap (λ (o : Option Begun). begun_after o h) (l ∙ r.recalls h.id)

-- What is written of a text that goes on.
use Rattle.std.proofs.Common.{◌≡◌, ℕ, List, [], ◌++◌, Option, None, Some, refl, ap, sym, ◌∙◌, append_assoc}
use Rattle.std.specs.Io.KnownBytes.{append_known}
use Rattle.put_text.specs.Written.{WritesPart}
use Rattle.put_text.proofs.Writing.{append_known_nil}

pub no_part_written : (text : List ℕ) (before now : Option (List ℕ)) → now ≡ before → WritesPart text before now
no_part_written text before now e = (text, record { wrote = []; parts = refl; grown = e ∙ sym (append_known_nil before) })

-- a text that goes on is written in part
pub part_of_more : (text more : List ℕ) (before now : Option (List ℕ)) → WritesPart text before now → WritesPart (text ++ more) before now
part_of_more text more before now w =
    (w.0 ++ more, record { wrote = w.1.wrote; parts = sym (append_assoc w.1.wrote w.0 more) ∙ ap (λ (l : List ℕ). l ++ more) w.1.parts; grown = w.1.grown })

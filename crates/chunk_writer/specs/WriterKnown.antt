-- What contracts see of a writer: its chunk size, and how the messages before were begun, the newest first
use Rattle.std.specs.Prelude.{ℕ, List, []}
use Rattle.chunk_writer.specs.declared.begun.Begun.{Begun}

pub record WriterKnown : Type 0 where
  pub size : ℕ
  pub said : List Begun

-- the chunk size is 128 at first (5.4.1)
abbrev pub fresh : WriterKnown
fresh = record { size = 128; said = [] }

abbrev pub sized : ℕ → WriterKnown → WriterKnown
sized n w = record { size = n; said = w.said }

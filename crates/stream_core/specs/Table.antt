-- What contracts see of a stream or a pool, whichever it is.
use Rattle.stream_model.specs.Shape.{TableKnown, stream_shape, pool_shape}
use Rattle.stream_core.specs.declared.table.Table.{Table}
use Rattle.stream_core.specs.declared.table.Table.TheVariants.{Stream, Pool}

abbrev pub known : Table → TableKnown
known (Stream k) = record { shape = stream_shape k.limits; past = k.past }
known (Pool k) = record { shape = pool_shape k.limits k.slots; past = k.past }

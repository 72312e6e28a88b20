-- What the series in memory is
use Rattle.relay_outside.specs.Counts.{CallCount}
use Rattle.file_series.specs.Series.{Series}

pub record MemSeriesState : Type 0 where
  pub files : Series
  pub count : CallCount

-- What a sink is made of.
use Rattle.log_time.specs.declared.sink.Timed.{Timed}

module _ {C T W : Type 0} where
  -- the clock that it reads
  abbrev pub clock_of : Timed C T W → C
  clock_of sink = sink.clock

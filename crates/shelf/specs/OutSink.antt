-- What a sink over a writer shows.
use Rattle.std.specs.Prelude.{ℕ}
use Rattle.shelf.specs.declared.out_sink.OutSink.{OutSink}

-- how often a put has failed
abbrev pub faults_of : {W : Type 0} → OutSink W → ℕ
faults_of s = s.faults

abbrev pub writer_of : {W : Type 0} → OutSink W → W
writer_of s = s.inner

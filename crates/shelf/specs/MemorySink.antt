-- What a sink in memory shows.
use Rattle.std.specs.Prelude.{ℕ, ◌+◌, ◌-◌, ◌^◌, min, List}
use Rattle.shelf.specs.declared.memory_sink.MemorySink.{MemorySink}

abbrev pub bytes_of : MemorySink → List ℕ
bytes_of s = s.bytes.items

-- how often a put has failed
abbrev pub faults_of : MemorySink → ℕ
faults_of s = s.faults

-- how often a put has found no memory
abbrev pub wants_of : MemorySink → ℕ
wants_of s = s.wants

-- the numbers of the puts that are to fail
abbrev pub failing_of : MemorySink → List ℕ
failing_of s = s.failing

-- how many puts there were, up to the greatest u64
abbrev pub calls_of : MemorySink → ℕ
calls_of s = s.calls

-- the number of the next put
abbrev pub next_call : MemorySink → ℕ
next_call s = min (calls_of s + 1) (2 ^ 64 - 1)

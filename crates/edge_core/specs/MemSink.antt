-- What a sink in memory means.
use Rattle.std.specs.Prelude.{ℕ, ◌-◌, List, Some, vec_len}
use Rattle.std.specs.Vec.{vec_capacity}
use Rattle.edge_core.specs.declared.mem_sink.MemSink.{MemSink}
use Rattle.edge_core.specs.Outside.{SinkState, one_more}

abbrev pub mem_sink_bytes : MemSink → List ℕ
mem_sink_bytes sink = sink.bytes.items

abbrev pub mem_sink_state : MemSink → SinkState
mem_sink_state sink = record { written = Some (mem_sink_bytes sink); faults = sink.faults }

-- the numbers of the writes that are to fail
abbrev pub listed_writes : MemSink → List ℕ
listed_writes sink = sink.failing.items

abbrev pub write_count : MemSink → ℕ
write_count sink = sink.writes

-- the number of the next write
abbrev pub next_write : MemSink → ℕ
next_write sink = one_more (write_count sink)

-- how many bytes it takes with no further memory
abbrev pub spare_room : MemSink → ℕ
spare_room sink = vec_capacity sink.bytes - vec_len sink.bytes

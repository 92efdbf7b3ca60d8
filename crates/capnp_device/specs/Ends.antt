-- what the sources and sinks stand on, and how many of their calls have failed
use Rattle.std.specs.Prelude.{ℕ, List}
use Rattle.capnp_device.specs.declared.call_plan.CallPlan.{CallPlan}
use Rattle.capnp_device.specs.declared.device.ReadSource.{ReadSource}
use Rattle.capnp_device.specs.declared.device.WriteSink.{WriteSink}
use Rattle.capnp_device.specs.declared.memory.MemorySource.{MemorySource}
use Rattle.capnp_device.specs.declared.memory.MemorySink.{MemorySink}

-- the reader that a source reads from
unfoldable pub source_reader : {R : Type 0} → ReadSource R → R
source_reader s = s.reader

-- how many reads from a reader have failed
unfoldable pub source_failures : {R : Type 0} → ReadSource R → ℕ
source_failures s = s.failures

-- the writer that a sink writes to
unfoldable pub sink_writer : {W : Type 0} → WriteSink W → W
sink_writer s = s.writer

-- how many writes to a writer have failed
unfoldable pub sink_failures : {W : Type 0} → WriteSink W → ℕ
sink_failures s = s.failures

-- the bytes that a source in memory has left
unfoldable pub memory_left : MemorySource → List ℕ
memory_left s = s.rest.now

-- how the calls of a source in memory go
unfoldable pub read_plan : MemorySource → CallPlan
read_plan s = s.plan

-- the bytes that a sink in memory has taken
unfoldable pub memory_written : MemorySink → List ℕ
memory_written s = s.bytes.items

-- how the calls of a sink in memory go
unfoldable pub write_plan : MemorySink → CallPlan
write_plan s = s.plan

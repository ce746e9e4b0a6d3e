-- What the files and sinks in memory stand for. The project's own.
use Rattle.std.specs.Prelude.{ℕ, List, count_by}
use Rattle.std.specs.Str.{bytes_eq}
use Rattle.cy_io.specs.Store.{stored}
use Rattle.cy_io.specs.Told.{FileMap}
use Rattle.cy_io.specs.declared.calls.Calls.{Calls}
use Rattle.cy_io.specs.declared.memory.MemFiles.{MemFiles}
use Rattle.cy_io.specs.declared.memory.MemSink.{MemSink}
use Rattle.cy_io.specs.declared.sure.SureFiles.{SureFiles}
use Rattle.cy_io.specs.declared.sure.SureSink.{SureSink}

-- the bytes of each name in files that may fail
abbrev pub mem_files : MemFiles → FileMap
mem_files files = stored files.store

-- how often reads of each name have failed
abbrev pub failed_reads : MemFiles → List ℕ → ℕ
failed_reads files = λ name. count_by (λ failed. bytes_eq name failed.items) files.failed_reads.items

-- how often writes have failed
abbrev pub failed_writes : MemFiles → ℕ
failed_writes files = files.failed_writes

-- the calls on the files so far, and those that are to fail
abbrev pub mem_calls : MemFiles → Calls
mem_calls files = files.calls

-- the bytes in a sink that may fail
abbrev pub mem_held : MemSink → List ℕ
mem_held sink = sink.held.items

-- how often puts have failed
abbrev pub failed_puts : MemSink → ℕ
failed_puts sink = sink.failed

-- the calls on the sink so far, and those that are to fail
abbrev pub sink_calls : MemSink → Calls
sink_calls sink = sink.calls

-- the bytes of each name in files that don't fail
abbrev pub sure_files : SureFiles → FileMap
sure_files files = stored files.store

-- the bytes in a sink that doesn't fail
abbrev pub sure_held : SureSink → List ℕ
sure_held sink = sink.held.items

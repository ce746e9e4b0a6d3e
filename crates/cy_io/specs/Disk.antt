-- The counts of what stands for real files and streams. The project's own.
use Rattle.std.specs.Prelude.{ℕ}
use Rattle.cy_io.specs.declared.disk.DiskFiles.{DiskFiles}
use Rattle.cy_io.specs.declared.disk.StdSink.{StdSink}

-- how often reads have failed or found no file, whatever the name
abbrev pub disk_reads : {R : Type 0} → DiskFiles R → ℕ
disk_reads files = files.failed_reads

-- how often writes have failed
abbrev pub disk_writes : {R : Type 0} → DiskFiles R → ℕ
disk_writes files = files.failed_writes

-- how often puts have failed
abbrev pub failed_stream : {W : Type 0} → StdSink W → ℕ
failed_stream sink = sink.failed

-- the writer under a sink
abbrev pub stream_writer : {W : Type 0} → StdSink W → W
stream_writer sink = sink.writer

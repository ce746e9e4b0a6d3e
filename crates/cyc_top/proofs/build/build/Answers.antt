use Rattle.cyc_top.proofs.Built.{IsFront, AreMade, built, partly_built, at_most_header}
use Rattle.cyc_top.proofs.Held.{IsSoundlyBuilt-built}
use Rattle.cyc_top.proofs.Reading.{IsUnthin-read, read_thin}
use Rattle.cyc_top.proofs.build.build.Goals as goal

pub returns-in-Ok-Some-clause-done : goal.returns-in-Ok-Some-clause-done
returns-in-Ok-Some-clause-done g c =
    let told = g.F.Files.told in
    let bytes = c.as_slice.result.now in
    let o = c.in-Ok-Some.outputs in
    let made : AreMade bytes c.args.command.now.module.now o.header.items o.name.items o.text.items = rw c.in-Ok-Some.field-0-is at c.in-Ok-Some.ensures.found in
    let front : IsFront (told c.args.files.now) c.args.command.now.word.now bytes = rw c.as_slice.ensures.value c.in-Bytes.ensures.bytes in
    λ e. built (told c.args.files.now) (told c.read.new.self) (told c.write_outputs.new.files) c.args.command.now.word.now c.args.command.now.module.now bytes o.header.items o.name.items o.text.items c.read.ensures.told_same front made (c.write_outputs.ensures.done e)

pub returns-in-Ok-Some-clause-write_fault : goal.returns-in-Ok-Some-clause-write_fault
returns-in-Ok-Some-clause-write_fault g c =
    let told = g.F.Files.told in
    let bytes = c.as_slice.result.now in
    let o = c.in-Ok-Some.outputs in
    let made : AreMade bytes c.args.command.now.module.now o.header.items o.name.items o.text.items = rw c.in-Ok-Some.field-0-is at c.in-Ok-Some.ensures.found in
    let front : IsFront (told c.args.files.now) c.args.command.now.word.now bytes = rw c.as_slice.ensures.value c.in-Bytes.ensures.bytes in
    λ e. partly_built (told c.args.files.now) (told c.read.new.self) (told c.write_outputs.new.files) c.args.command.now.word.now c.args.command.now.module.now bytes o.header.items o.name.items o.text.items c.read.ensures.told_same front made (c.write_outputs.ensures.write_fault e)

pub returns-in-Ok-Some-clause-memory : goal.returns-in-Ok-Some-clause-memory
returns-in-Ok-Some-clause-memory g c =
    let told = g.F.Files.told in
    let bytes = c.as_slice.result.now in
    let o = c.in-Ok-Some.outputs in
    let made : AreMade bytes c.args.command.now.module.now o.header.items o.name.items o.text.items = rw c.in-Ok-Some.field-0-is at c.in-Ok-Some.ensures.found in
    let front : IsFront (told c.args.files.now) c.args.command.now.word.now bytes = rw c.as_slice.ensures.value c.in-Bytes.ensures.bytes in
    λ e. at_most_header (told c.args.files.now) (told c.read.new.self) (told c.write_outputs.new.files) c.args.command.now.word.now c.args.command.now.module.now bytes o.header.items o.name.items o.text.items c.read.ensures.told_same front made (c.write_outputs.ensures.memory e)

pub returns-in-Ok-None-clause-not_built : goal.returns-in-Ok-None-clause-not_built
returns-in-Ok-None-clause-not_built g c =
    let bytes = c.as_slice.result.now in
    let front : IsFront (g.F.Files.told c.args.files.now) c.args.command.now.word.now bytes = rw c.as_slice.ensures.value c.in-Bytes.ensures.bytes in
    λ _. IsUnthin-read (g.F.Files.told c.args.files.now) c.args.command.now.word.now bytes front (c.in-Ok-None.ensures.not_found c.in-Ok-None.field-0-is)

pub returns-in-Ok-None-clause-complete : goal.returns-in-Ok-None-clause-complete
returns-in-Ok-None-clause-complete g c =
    let bytes = c.as_slice.result.now in
    let front : IsFront (g.F.Files.told c.args.files.now) c.args.command.now.word.now bytes = rw c.as_slice.ensures.value c.in-Bytes.ensures.bytes in
    λ thin h tells reads writes. absurd (c.in-Ok-None.ensures.not_found c.in-Ok-None.field-0-is thin h (read_thin (g.F.Files.told c.args.files.now) c.args.command.now.word.now bytes thin h front tells))

pub returns-in-Ok-Some-clause-means_its_source : goal.returns-in-Ok-Some-clause-means_its_source
returns-in-Ok-Some-clause-means_its_source g c =
    let told = g.F.Files.told in
    λ e. IsSoundlyBuilt-built c.args.command.now.word.now c.args.command.now.module.now (told c.args.files.now) (told c.write_outputs.new.files) c.requires (returns-in-Ok-Some-clause-done g c e)

use Rattle.std.proofs.Common.{◌≡◌, ◌-◌}
use Rattle.forms.specs.Readers.{read_both, read_one, read_many}
use Rattle.forms.specs.Lists.{second, itself}
use Rattle.forms.proofs.Loops.{with_front, left}
use Rattle.token_class.specs.Sets.{of}
use Rattle.decl_grammar.specs.Reading as spec
use Rattle.decl_grammar.specs.Files.{in_brackets}
use Rattle.pyx_decl.proofs.class.more_members.Given as goal

abbrev pub invariant-loop-turn : goal.invariant-loop-turn
invariant-loop-turn l =
    let item = (spec.read_class_member in_brackets) in
    read_many (of spec.begins_member) item l.fn.input ≡ with_front l.found (left (l._turn-end - l._turn) (of spec.begins_member) item l.input)

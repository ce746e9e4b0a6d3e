-- The parameters of heads that are fixed (Python/C API manual, "Common Object Structures", "Type Objects").
use Rattle.std.specs.Prelude.{List, [], ◌∷◌}
use Rattle.c_tree.specs.declared.name.FixedParameter.TheVariants as fixed
use Rattle.c_tree.specs.declared.name.Variable.{Variable}
use Rattle.c_tree.specs.declared.name.Variable.TheVariants as variable
use Rattle.c_value.specs.declared.kind.Kind.{Kind}
use Rattle.c_value.specs.declared.kind.Kind.TheVariants as kind
use Rattle.c_value.specs.Values.{size}
use Rattle.c_state.specs.Calls.{self_parameter}

abbrev pub wrapper_parameters : List (Variable × Kind)
wrapper_parameters = self_parameter ∷ (variable.Fixed fixed.Arguments, kind.Arguments) ∷ (variable.Fixed fixed.ArgumentCount, size) ∷ []

abbrev pub new_parameters : List (Variable × Kind)
new_parameters = (variable.Fixed fixed.Type, kind.TypeObject) ∷ (variable.Fixed fixed.Arguments, kind.Object) ∷ (variable.Fixed fixed.Keywords, kind.Object) ∷ []

abbrev pub init_parameters : List (Variable × Kind)
init_parameters = self_parameter ∷ (variable.Fixed fixed.Arguments, kind.Object) ∷ (variable.Fixed fixed.Keywords, kind.Object) ∷ []

abbrev pub key_parameters : List (Variable × Kind)
key_parameters = self_parameter ∷ (variable.Fixed fixed.Key, kind.Object) ∷ []

abbrev pub getter_parameters : List (Variable × Kind)
getter_parameters = self_parameter ∷ (variable.Fixed fixed.Closure, kind.Closure) ∷ []

abbrev pub setter_parameters : List (Variable × Kind)
setter_parameters = self_parameter ∷ (variable.Fixed fixed.Value, kind.Object) ∷ (variable.Fixed fixed.Closure, kind.Closure) ∷ []

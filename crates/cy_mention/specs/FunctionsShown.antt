-- The function that a reference shows.
use Rattle.std.specs.Prelude.{List, map}
use Rattle.cy_tree.specs.Functions.{Function, PythonFunction, CythonFunction}
use Rattle.cy_mention.specs.declared.function.FunctionRef.{FunctionRef}
use Rattle.cy_mention.specs.declared.function.FunctionRef.TheVariants as code

abbrev pub function_shown : FunctionRef → Function
function_shown (code.Python d) = PythonFunction d.now
function_shown (code.Cython f) = CythonFunction f.now

abbrev pub functions_shown : List FunctionRef → List Function
functions_shown fs = map function_shown fs

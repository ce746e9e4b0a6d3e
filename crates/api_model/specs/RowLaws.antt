-- Words for what holds of each row of the table.
use Rattle.std.specs.Prelude.{ℕ, Bool, true, not, ◌&&◌, ◌||◌, List, [], ◌∷◌, take, codes}
use Rattle.std.specs.List.{list_any}
use Rattle.std.specs.Str.{bytes_eq}
use Rattle.api_model.specs.Rows.{Function}

-- the counts
abbrev pub is_count : List ℕ → Bool
is_count name = bytes_eq name (codes "Py_INCREF") || (bytes_eq name (codes "Py_DECREF") || bytes_eq name (codes "Py_XDECREF"))

-- the two calls that take the lock
abbrev pub takes_lock : List ℕ → Bool
takes_lock name = bytes_eq name (codes "PyEval_RestoreThread") || bytes_eq name (codes "PyGILState_Ensure")

-- the four lock calls
abbrev pub is_lock_call : List ℕ → Bool
is_lock_call name = takes_lock name || (bytes_eq name (codes "PyEval_SaveThread") || bytes_eq name (codes "PyGILState_Release"))

-- the error rows
abbrev pub is_error_row : List ℕ → Bool
is_error_row name = bytes_eq (take 6 name) (codes "PyErr_")

-- the functions that may be called with an exception set
unfoldable pub may_have_error : List ℕ → Bool
may_have_error name = is_error_row name || (is_count name || is_lock_call name)

-- the functions that may be called without the lock
unfoldable pub may_lack_lock : List ℕ → Bool
may_lack_lock name = takes_lock name

-- whether no two functions of a table have one name
abbrev pub are_distinct : List Function → Bool
are_distinct [] = true
are_distinct (f ∷ fs) = not (list_any (λ g. bytes_eq f.name g.name) fs) && are_distinct fs

-- The words of the command line. The project's own.
use Rattle.std.specs.Prelude.{◌≡◌, ◌≢◌, ℕ, ◌-◌, List, [], ◌∷◌, ◌++◌, length, take, slice_index, codes, ◌==◌}
use Rattle.std.specs.List.{after_last}
use Rattle.thin_source.specs.Thin.{IsIdentifier}

-- a word without its last four bytes
abbrev pub stem_of : List ℕ → List ℕ
stem_of word = take (length word - 4) word

-- the module that a word names: what stands behind its last `/`, without `.pyx`
abbrev pub module_of : List ℕ → List ℕ
module_of word = after_last (λ byte. byte == 47) (stem_of word)

-- a file of sources: `NAME.pyx` with an identifier NAME, with a path before it or without; no option
pub record IsSourceWord (word : List ℕ) : Type 0 where
  pub ending : word ≡ stem_of word ++ codes ".pyx"
  pub named : IsIdentifier (module_of word)
  pub no_option : slice_index word 0 ≢ 45

-- the words `build` and this file
pub record IsBuild (words : List (List ℕ)) (word : List ℕ) : Type 0 where
  pub words_are : words ≡ codes "build" ∷ word ∷ []
  pub source : IsSourceWord word

-- The modules of a set, and what their files hold (Cython documentation, "Sharing Declarations Between Cython Modules").
use Rattle.std.specs.Prelude.{ℕ, suc, List, [], ◌∷◌, Option, Some, None, slice_get}
use Rattle.cy_tree.specs.declared.content.Content.{Content}
use Rattle.cy_tree.specs.declared.content.Content.TheVariants as content
use Rattle.cy_tree.specs.declared.decl.PxdItem.{PxdItem}
use Rattle.cy_tree.specs.declared.decl.Top.{Top}
use Rattle.cy_tree.specs.declared.set.ModuleFiles.{ModuleFiles}
use Rattle.cy_tree.specs.declared.set.ParsedFile.{ParsedFile}
use Rattle.cy_tree.specs.declared.set.SourceSet.{SourceSet}
use Rattle.cy_tree.specs.Functions.{tops_of}

abbrev pub items_of : Content → List PxdItem
items_of (content.Implementation tops) = []
items_of (content.Definition items) = items

abbrev pub tops_in : Option ParsedFile → List Top
tops_in None = []
tops_in (Some file) = tops_of file.tree

abbrev pub items_in : Option ParsedFile → List PxdItem
items_in None = []
items_in (Some file) = items_of file.tree

-- what the `.pyx` and the `.pxd` of a module hold
abbrev pub tops : SourceSet → ModuleFiles → List Top
tops set m = tops_in (slice_get set.files m.pyx)

abbrev pub items_by : SourceSet → Option ℕ → List PxdItem
items_by set None = []
items_by set (Some file) = items_in (slice_get set.files file)

abbrev pub items : SourceSet → ModuleFiles → List PxdItem
items set m = items_by set m.pxd

-- a module of a set, with its number
pub record Module : Type 0 where
  pub number : ℕ
  pub files : ModuleFiles

abbrev pub modules_from : ℕ → List ModuleFiles → List Module
modules_from k [] = []
modules_from k (m ∷ ms) = record { number = k; files = m } ∷ modules_from (suc k) ms

abbrev pub modules : SourceSet → List Module
modules set = modules_from 0 set.order

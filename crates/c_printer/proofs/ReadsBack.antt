-- A text with the tokens of a file reads back as the file.
use Rattle.std.proofs.Common.{◌≡◌, ℕ, List, sym, subst}
use Rattle.std.specs.Prelude.{true, Result, Ok, Err, IfOk}
use Rattle.std.specs.List.{flat_map, AllByRecursion}
use Rattle.c_token.specs.CTokens.{CToken, c_tokens}
use Rattle.c_token.specs.Cutting.{c_items}
use Rattle.c_tree.specs.declared.item.CItem.{CItem}
use Rattle.c_tree.specs.Forms.{IsItem}
use Rattle.c_tree.specs.Items.{item_spelling}
use Rattle.c_tree.specs.Reading.{c_reading, IsReading}
use Rattle.c_printer.proofs.Cut.{read_back}

reads : (bytes : List ℕ) (items : List CItem) → c_tokens bytes ≡ flat_map item_spelling items → AllByRecursion IsItem items → c_reading bytes items true
unfolding c_reading
reads bytes items h k = let P : List CToken → Type 0 = λ tokens. IsReading (c_items tokens) items true in subst P (sym h) (read_back items k)

pub all_read : {B E : Type 0} (bytes_of : B → List ℕ) (r : Result B E) (items : List CItem) → IfOk r (λ b. c_tokens (bytes_of b) ≡ flat_map item_spelling items) → AllByRecursion IsItem items → IfOk r (λ b. c_reading (bytes_of b) items true)
all_read bytes_of (Ok b) items h k = reads (bytes_of b) items h k
all_read bytes_of (Err e) items h k = h

-- A row of a table of properties, as one word.
use Rattle.std.specs.Prelude.{List}
use Rattle.c_token.specs.CTokens.{CToken}
use Rattle.c_tree.specs.declared.item.PropertyRow.{PropertyRow}
use Rattle.c_tree.specs.Items.{property_spelling}

unfoldable pub row_tokens : PropertyRow → List CToken
row_tokens = property_spelling

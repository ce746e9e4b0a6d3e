-- The C trees that a text holds. The project's own profile of C (ISO/IEC 9899:2011).
use Rattle.std.specs.Prelude.{◌≡◌, ℕ, List, [], ◌∷◌, Bool, true, false}
use Rattle.c_token.specs.CTokens.{CToken, c_tokens}
use Rattle.c_token.specs.Cutting.{c_items}
use Rattle.c_tree.specs.declared.item.CItem.{CItem}
use Rattle.c_tree.specs.Items.{item_spelling}
use Rattle.c_tree.specs.Forms.{IsItem}

-- The trees that items spell, up to the end or to the first item that no tree spells; the last part says whether it is
-- the end.
unfoldable pub IsReading : List (List CToken) → List CItem → Bool → Type 0
IsReading [] [] whole = whole ≡ true
IsReading [] (tree ∷ trees) whole = ⊥
IsReading (tokens ∷ items) (tree ∷ trees) whole = IsItem tree × (item_spelling tree ≡ tokens) × IsReading items trees whole
IsReading (tokens ∷ items) [] whole = (whole ≡ false) × ((tree : CItem) → IsItem tree → item_spelling tree ≡ tokens → ⊥)

-- the C trees that a text holds, and whether it holds nothing else
unfoldable pub c_reading : List ℕ → List CItem → Bool → Type 0
unfolding c_tokens c_items IsReading
c_reading bytes trees whole = IsReading (c_items (c_tokens bytes)) trees whole

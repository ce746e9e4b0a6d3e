use Rattle.std.proofs.Common.{◌≡◌, ◌++◌, ◌∷◌, [], List, Some, refl, sym, ap, ◌∙◌}
use Rattle.std.specs.List.{flat_map, AllByRecursion}
use Rattle.c_token.specs.CTokens.{CToken, sign}
use Rattle.c_tree.specs.Forms.{IsDeclaration}
use Rattle.c_tree.specs.Items.{declaration_spelling, line_spelling}
use Rattle.c_input.proofs.Rows.{next_one, same_left}
use Rattle.c_operand.proofs.Commas.{append_assoc}
use Rattle.c_statement.specs.Lines.{AreLines}
use Rattle.c_function.specs.Bodies.{body_tokens}
use Rattle.c_function.specs.declared.functions.Body.{Body}
use Rattle.c_function.proofs.FirstTokens.{lines_not_declared}
use Rattle.c_function.proofs.functions.braced.Goals as goal

-- the lines, and what stands behind them
abbrev behind : Body → List CToken → List CToken
behind x rest = flat_map line_spelling x.lines ++ (sign "}" ∷ rest)

-- what stands behind `{`
inside : (x : Body) (rest old new : List CToken) → old ≡ sign "{" ∷ new → old ≡ body_tokens x ++ rest → new ≡ flat_map declaration_spelling x.declarations ++ behind x rest
inside x rest old new e f =
    let lines : List CToken = flat_map line_spelling x.lines in
    same_left (sign "{" ∷ []) new ((flat_map declaration_spelling x.declarations ++ (lines ++ (sign "}" ∷ []))) ++ rest) (sym e ∙ f)
    ∙ (append_assoc (flat_map declaration_spelling x.declarations) (lines ++ (sign "}" ∷ [])) rest
    ∙ ap (λ (t : List CToken). flat_map declaration_spelling x.declarations ++ t) (append_assoc lines (sign "}" ∷ []) rest))

pub returns-in_default-clause-every : goal.returns-in_default-clause-every
returns-in_default-clause-every c = λ x rest form e.
    let there = inside x rest c.args.input.now c.fixed.new.self c.if-not-fixed.ensures e in
    absurd (cc (c.in_default.is, c.in_ok-declarations.ensures.every x.declarations (behind x rest) form.0 (lines_not_declared x.lines rest) there))

pub returns-in_default-2-clause-every : goal.returns-in_default-2-clause-every
returns-in_default-2-clause-every c = λ x rest form e.
    let there = inside x rest c.args.input.now c.fixed.new.self c.if-not-fixed.ensures e in
    let known = c.in_ok-declarations.ensures.every x.declarations (behind x rest) form.0 (lines_not_declared x.lines rest) there in
    let n = next_one (AllByRecursion IsDeclaration) (flat_map declaration_spelling) c.fixed.new.self c.in_ok-declarations.field-0 c.declarations.new.input c.in-Some.declarations x.declarations (behind x rest)
    c.in-Some.is c.in_ok-declarations.ensures.some known there in
    absurd (cc (c.in_default-2.is, c.in_ok-lines.ensures.every x.lines (sign "}" ∷ rest) (form.1, form.2) refl n.left))

pub returns-then-fixed-clause-every : goal.returns-then-fixed-clause-every
returns-then-fixed-clause-every c = λ x rest form e.
    let there = inside x rest c.args.input.now c.fixed.new.self c.if-not-fixed.ensures e in
    let known = c.in_ok-declarations.ensures.every x.declarations (behind x rest) form.0 (lines_not_declared x.lines rest) there in
    let n = next_one (AllByRecursion IsDeclaration) (flat_map declaration_spelling) c.fixed.new.self c.in_ok-declarations.field-0 c.declarations.new.input c.in-Some.declarations x.declarations (behind x rest)
    c.in-Some.is c.in_ok-declarations.ensures.some known there in
    let lines = c.in_ok-lines.ensures.every x.lines (sign "}" ∷ rest) (form.1, form.2) refl n.left in
    let m = next_one AreLines (flat_map line_spelling) c.declarations.new.input c.in_ok-lines.field-0 c.lines.new.input c.in-Some-2.lines x.lines (sign "}" ∷ rest)
    c.in-Some-2.is c.in_ok-lines.ensures.some lines n.left in
    λ i. Some (record { declarations = n.same i; lines = m.same i })

pub returns-else-fixed-clause-every : goal.returns-else-fixed-clause-every
returns-else-fixed-clause-every c = λ x rest form e.
    let there = inside x rest c.args.input.now c.fixed.new.self c.if-not-fixed.ensures e in
    let known = c.in_ok-declarations.ensures.every x.declarations (behind x rest) form.0 (lines_not_declared x.lines rest) there in
    let n = next_one (AllByRecursion IsDeclaration) (flat_map declaration_spelling) c.fixed.new.self c.in_ok-declarations.field-0 c.declarations.new.input c.in-Some.declarations x.declarations (behind x rest)
    c.in-Some.is c.in_ok-declarations.ensures.some known there in
    let lines = c.in_ok-lines.ensures.every x.lines (sign "}" ∷ rest) (form.1, form.2) refl n.left in
    let m = next_one AreLines (flat_map line_spelling) c.declarations.new.input c.in_ok-lines.field-0 c.lines.new.input c.in-Some-2.lines x.lines (sign "}" ∷ rest)
    c.in-Some-2.is c.in_ok-lines.ensures.some lines n.left in
    absurd (c.if-fixed.ensures.1 rest m.left)

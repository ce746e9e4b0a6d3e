use Rattle.std.proofs.Common.{◌≡◌, ◌==◌, ℕ, ◌-◌, ◌<◌, ◌≤◌, List, true, false, not, length, get_or, take, drop, ap, sym, ◌∙◌, arith, eq-eqb}
use Rattle.std.specs.List.{after_last}
use Rattle.std.proofs.lemmas.Grind.{common_steps}
use Rattle.std.proofs.lemmas.List.Sums.{suffix_len_is}
use Rattle.cyc_top.proofs.command.file_name.Goals as goal

-- a place with a slash before it, or at the front, and none behind it
behind : (xs : List ℕ) (n : ℕ) → n ≤ length xs → ((k : ℕ) → n ≤ k → k < length xs → (get_or xs k 0 == 47) ≡ false) → (0 < n → (get_or xs (n - 1) 0 == 47) ≡ true) → after_last (λ byte. byte == 47) xs ≡ drop n xs
behind xs n within none slash =
    let e = suffix_len_is (λ (b : ℕ). not (b == 47)) xs n 0 within (λ k low high. ap not (none k low high)) (λ some. ap not (slash some)) in
    let place : length xs - (length xs - n) ≡ n = omega arith in
    ap (λ (q : ℕ). drop (length xs - q) xs) e ∙ ap (λ (q : ℕ). drop q xs) place

whole : (xs : List ℕ) (n : ℕ) → n ≤ length xs → take (length xs - n) (drop n xs) ≡ drop n xs
whole xs n within = grind (arith, common_steps)

pub returns-then-path-start-eq47 : goal.returns-then-path-start-eq47
returns-then-path-start-eq47 c =
    let xs = c.args.path.now in
    let n = c.loop-start.start in
    let slash = eq-eqb (get_or xs (n - 1) 0) 47 c.if-path-start-eq47.true in
    whole xs n (omega (arith, c.loop-start.invariant.0)) ∙ sym (behind xs n c.loop-start.invariant.0 c.loop-start.invariant.1 (λ _. slash))

pub returns : goal.returns
returns c =
    let xs = c.args.path.now in
    let front : c.loop-start.start ≡ 0 = omega arith in
    sym (behind xs 0 (omega arith) (λ k low high. c.loop-start.invariant.1 k (omega arith) high) (λ some. absurd (omega arith)))

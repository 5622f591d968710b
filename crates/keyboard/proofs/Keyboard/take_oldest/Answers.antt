use Rattle.std.proofs.Common.{ℕ, List, [], ◌∷◌, ◌++◌, take, drop, slice_get, slice_set, sym, ap, ◌∙◌, rules, arith}
use Rattle.octets.proofs.Laws.{elements}
use Rattle.keyboard.proofs.Codes.{none-held, emptied, oldest, dropped}
use Rattle.keyboard.specs.State.{with_codes}
use Rattle.keyboard.proofs.Keyboard.take_oldest.Goals as goal

pub returns-then-self-eq0-clause-oldest : goal.returns-then-self-eq0-clause-oldest
returns-then-self-eq0-clause-oldest c = ap (λ (cs : List ℕ). slice_get cs 0) (sym (none-held c.args.self.now c.if-self-eq0.true))

pub returns-then-self-eq0-clause-left : goal.returns-then-self-eq0-clause-left
returns-then-self-eq0-clause-left c =
    let k = c.args.self.now in
    let none = none-held k c.if-self-eq0.true in
    sym (ap (λ (cs : List ℕ). with_codes k (drop 1 cs)) none ∙ emptied k (search rules) c.requires none)

pub returns-clause-oldest : goal.returns-clause-oldest
returns-clause-oldest c = sym (ap (λ (cs : List ℕ). slice_get cs 0) (oldest c.args.self.now (search rules) (omega arith)))

pub returns-clause-left : goal.returns-clause-left
returns-clause-left c =
    let k = c.args.self.now in
    let each = elements 8 k.codes (search rules) in
    dropped k _ (search rules) c.requires (omega arith)
    (ap (λ (l : List ℕ). slice_set l 7 0) c.rotate_left.ensures.after
    ∙ sym (ap (λ (l : List ℕ). slice_set (drop 1 l ++ take 1 l) 7 0) each)
    ∙ ap (λ (l : List ℕ). drop 1 l ++ (0 ∷ [])) each)

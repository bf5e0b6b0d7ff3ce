use Rattle.std.proofs.Common.{◌≡◌, ap, arith, length, ◌∙◌, ◌++◌, ◌∷◌, []}
use Rattle.cooper_solve.proofs.Listed.{low_bases, high_bases, free_bases}
use Rattle.cooper_solve.proofs.bounds.find_bases.Goals as goal

pub returns-then-len-ne0 : goal.returns-then-len-ne0
returns-then-len-ne0 c =
    let L = c.in_ok-lows.lows.items in
    let some : length L ≡ 0 → ⊥ = λ e. (let v = c.in_ok-lows.lows.ok in omega arith) in
    low_bases c.args.last c.args.system.now L (c.in_ok-lows.ensures {u = tt}) some

pub returns-then-len-ne0-2 : goal.returns-then-len-ne0-2
returns-then-len-ne0-2 c =
    let K = c.in_ok-lows.lows.items in
    let L = c.in_ok-highs.highs.items in
    let none : length K ≡ 0 = (let v = c.in_ok-lows.lows.ok in omega arith) in
    let some : length L ≡ 0 → ⊥ = λ e. (let v = c.in_ok-highs.highs.ok in omega arith) in
    high_bases c.args.last c.args.system.now K L (c.in_ok-lows.ensures {u = tt}) none (c.in_ok-highs.ensures {u = tt}) some

pub returns : goal.returns
returns c =
    let K = c.in_ok-lows.lows.items in
    let L = c.in_ok-highs.highs.items in
    let none : length K ≡ 0 = (let v = c.in_ok-lows.lows.ok in omega arith) in
    let none2 : length L ≡ 0 = (let v = c.in_ok-highs.highs.ok in omega arith) in
    free_bases c.args.last c.args.system.now K L c.push.new.self.items (c.in_ok-lows.ensures {u = tt}) none (c.in_ok-highs.ensures {u = tt}) none2 ((c.in_ok-push.ensures {u = tt}).items ∙ ap (λ l. l ++ length c.args.system.now ∷ []) c.new-bounds.ensures.items)

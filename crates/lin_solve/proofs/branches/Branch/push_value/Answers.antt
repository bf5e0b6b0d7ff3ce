use Rattle.std.proofs.Common.{◌≡◌, ◌∙◌, sym, rules, to_z, of_z}
use Rattle.std.specs.Int.{w64}
use Rattle.std.proofs.lemmas.Int.{to_z-of_z}
use Rattle.lin_solve.proofs.Branched.{equal_holds, literal_so}
use Rattle.lin_solve.proofs.branches.Branch.push_value.Goals as goal

pub returns-clause-value : goal.returns-clause-value
returns-clause-value c = λ us eight h e.
    let n = to_z w64 (of_z w64 c.args.value) in
    let back : n ≡ c.args.value = to_z-of_z w64 c.args.value (search rules) in
    (c.in_ok-push_with.ensures {u = tt}).more us eight h (literal_so c.in_ok-own.own us (c.in_ok-own.ensures {u = tt}) (equal_holds c.args.field n us (e ∙ sym back)))

-- How large an expression of operands is.
use Rattle.std.proofs.Common.{ℕ, suc, ◌+◌}
use Rattle.model_grammar.specs.Syntax.{X, named, one, two, literal}

abbrev pub size_of : X → ℕ
size_of (named n) = 1
size_of (one op place x) = suc (size_of x)
size_of (two op place x y) = suc (size_of x + size_of y)
size_of (literal name labels xs) = 1

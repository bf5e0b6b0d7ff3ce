-- How large a tree expression is.
use Rattle.std.proofs.Common.{◌≡◌, ◌≤◌, ◌<◌, ◌+◌, ◌*◌, ℕ, suc, List, [], ◌∷◌, ◌++◌, ap, arith}
use Rattle.model_grammar.specs.Syntax.{X, named, one, two, literal, Xs, no_x, and_x}
use Rattle.fast_syntax.specs.Slices.{plain_children}
use Rattle.tree_values.specs.declared.nodes.Begun.{Begun}
use Rattle.tree_values.specs.declared.nodes.Begun.TheVariants.{Whole, Part}
use Rattle.tree_values.specs.declared.nodes.OpenNode.{OpenNode}
use Rattle.tree_values.specs.declared.values.Given.{Given}
use Rattle.tree_values.specs.Nodes.{IsBegun}

abbrev mutual
  pub weight : X → ℕ
  weight (named n) = 1
  weight (one op place x) = 1
  weight (two op place x y) = suc (weight y)
  weight (literal name labels xs) = suc (weights xs)

  pub weights : Xs → ℕ
  weights no_x = 0
  weights (and_x x xs) = weight x + weights xs

weight_some : (x : X) → 0 < weight x
weight_some (named n) = omega arith
weight_some (one op place x) = omega arith
weight_some (two op place x y) = omega arith
weight_some (literal name labels xs) = omega arith

-- ---- how much is left to evaluate of open literals

abbrev pub burden : OpenNode → ℕ
burden n = 3 * weights (plain_children n.rest.now)

abbrev pub burdens : List OpenNode → ℕ
burdens [] = 0
burdens (n ∷ ns) = suc (suc (burden n)) + burdens ns

-- and of what is reached within them
abbrev pub burden_here : Begun → ℕ
burden_here (Whole v) = 0
burden_here (Part n) = suc (burden n)

pub burdens_more : (ns : List OpenNode) (n : OpenNode) → burdens (ns ++ n ∷ []) ≡ burdens ns + suc (suc (burden n))
burdens_more [] n = omega arith
burdens_more (m ∷ ns) n = omega (arith, burdens_more ns n)

-- what is begun is less than the expression
pub begun_lighter : (g : Given) (of : List ℕ) (x : X) (room : ℕ) (b : Begun) → IsBegun g of x room b → burden_here b + 2 ≤ 3 * weight x
begun_lighter g of x room (Whole v) is = let some = weight_some x in omega (arith, some)
begun_lighter g of x room (Part n) is = let same = ap weight is.is in omega (arith, same)

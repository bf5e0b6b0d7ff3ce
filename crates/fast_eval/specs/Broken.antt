-- By which expressions a type check is judged: a tree of the last shows that it is false.
use Rattle.model_grammar.specs.declared.Op1.TheVariants.{Complement}
use Rattle.model_grammar.specs.declared.Op2.TheVariants.{Intersect, PreImage}
use Rattle.model_grammar.specs.Syntax.{X, one, two}
use Rattle.model_grammar.specs.Places.{nowhere}

-- the trees that aren't in y
abbrev pub outside_x : X → X
outside_x y = one Complement nowhere y

-- the inputs of f with such an output
abbrev pub escaping_x : X → X → X
escaping_x f y = two PreImage nowhere f (outside_x y)

-- those of them that are in x
abbrev pub broken_x : X → X → X → X
broken_x x f y = two Intersect nowhere x (escaping_x f y)

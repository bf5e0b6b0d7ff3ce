use Rattle.std.proofs.Common.{[], map, take}
use Rattle.std.specs.List.{flat_map}
use Rattle.fast_syntax.specs.Plain.{plain_trans}
use Rattle.fast_build.specs.Reached.{IsGrown}
use Rattle.fast_build.specs.Called.{looked_in}
use Rattle.fast_build.proofs.looked.looked.Given as goal

abbrev pub invariant-looks : goal.invariant-looks
invariant-looks l = IsGrown [] l.names.keys (flat_map (λ t. looked_in t.rules) (map (λ t. plain_trans t.now) (take l.transformation-index l.transformations)))

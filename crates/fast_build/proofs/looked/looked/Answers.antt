use Rattle.std.proofs.Common.{[], map, subst, take_all}
use Rattle.std.specs.List.{flat_map}
use Rattle.fast_syntax.specs.Plain.{plain_trans, plain_out_rule}
use Rattle.fast_build.specs.Reached.{IsGrown}
use Rattle.fast_build.specs.Called.{looked_in}
use Rattle.fast_build.proofs.Calling.{flat_more, looked_from_none}
use Rattle.fast_build.proofs.Grown.{grown_step}
use Rattle.fast_build.proofs.looked.looked.Goals as goal

pub looks-preserved : goal.looks-preserved
looks-preserved c =
    grown_step (λ ts. flat_map (λ t. looked_in t.rules) (map (λ t. plain_trans t.now) ts)) (λ t. looked_in (plain_trans t.now).rules) (flat_more (λ t. plain_trans t.now) (λ t. looked_in t.rules)) c.args.transformations.now c.looks.transformation-index c.transformation-item.result _ _ _ c.looks-test.true c.transformation-item.is c.looks.invariant
    (subst (λ rs. IsGrown c.looks.names.keys c.add_looked.new.names.keys (looked_in (map plain_out_rule rs))) c.deref.ensures.value c.in_ok-add_looked.ensures)

pub returns : goal.returns
returns c =
    let all = take_all c.looks.transformation-index c.args.transformations.now c.looks-test.false in
    looked_from_none (map (λ t. plain_trans t.now) c.args.transformations.now) c.looks.names.keys (subst (λ ts. IsGrown [] c.looks.names.keys (flat_map (λ t. looked_in t.rules) (map (λ t. plain_trans t.now) ts))) all c.looks.invariant)

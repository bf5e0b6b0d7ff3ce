use Rattle.std.specs.Prelude.{ℕ, List, []}
use Rattle.fast_fault.specs.declared.place.Pos.{Pos}
use Rattle.model_grammar.specs.Syntax.{X, one}
use Rattle.record_label.specs.Meaning.{row_meaning}
use Rattle.record_label.specs.Rows.{RowFits}
use Rattle.fast_build.specs.Terms.{row_make}
use Rattle.model_grammar.specs.declared.Op1.TheVariants.{Domain}
use Rattle.sttr_preimage.specs.Results.{HasDomain, IsLanguageFrom}
use Rattle.fast_eval.specs.Built.{IsBuiltOf, IsTransBuiltOf}
use Rattle.fast_eval.specs.Scopes.{items_in, type_in}
use Rattle.fast_eval.proofs.Imaged.{trans_low, trans_labels, makes_some, domain_built}
use Rattle.fast_eval.proofs.Keeping.{if_ok_both}
use Rattle.fast_eval.proofs.Put.{row_is_put}
use Rattle.fast_eval.proofs.images.inputs.Goals as goal

pub domain-requires : goal.domain-requires
domain-requires c =
    let s = c.args.scope.now in
    let a = c.args.a.now in
    let (f, into, built) = c.requires.operand in
    record {
      stands = built.stands;
      start = trans_low (items_in s) f (type_in s) into a built;
      labels = trans_labels (items_in s) (type_in s) s.theory.now c.requires.scope.labels f into a built;
      makes = makes_some (items_in s) (type_in s) s.theory.now c.requires.scope.labels f into a built;
    }

pub returns : goal.returns
returns c =
    let s = c.args.scope.now in
    let a = c.args.a.now in
    if_ok_both c.domain.result (HasDomain row_make (row_meaning s.theory.now) a) (IsLanguageFrom row_is_put (row_meaning s.theory.now) (RowFits s.theory.now) a.sttr [])
    (λ l. (place : Pos) (f : X) (into : List ℕ) → IsTransBuiltOf (items_in s) f (type_in s) into a → IsBuiltOf (items_in s) (one Domain place f) (type_in s) l)
    (λ l has made place f into built. domain_built (items_in s) (type_in s) s.theory.now c.requires.scope.labels place f into a built l has made) c.domain.ensures.language c.domain.ensures.made

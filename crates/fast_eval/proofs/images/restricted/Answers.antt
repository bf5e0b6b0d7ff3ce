use Rattle.std.specs.Prelude.{ℕ, List}
use Rattle.fast_fault.specs.declared.place.Pos.{Pos}
use Rattle.model_grammar.specs.Syntax.{X, two}
use Rattle.record_label.specs.Meaning.{row_meaning}
use Rattle.fast_build.specs.Terms.{row_make}
use Rattle.model_grammar.specs.declared.Op2.TheVariants.{Restrict}
use Rattle.record_label.specs.MapLaws.{both_true}
use Rattle.sttr_preimage.specs.Results.{IsRestricted}
use Rattle.fast_eval.specs.Built.{IsBuiltOf, IsTransBuiltOf}
use Rattle.fast_eval.specs.Scopes.{items_in, type_in}
use Rattle.fast_eval.proofs.Imaged.{trans_low, trans_labels, same_trees, restriction_built}
use Rattle.fast_eval.proofs.Keeping.{if_ok_both}
use Rattle.fast_eval.proofs.Ready.{start_low, atoms_fit}
use Rattle.fast_eval.proofs.images.restricted.Goals as goal

pub restrict-requires : goal.restrict-requires
restrict-requires c =
    let s = c.args.scope.now in
    let a = c.args.a.now in
    let b = c.args.b.now in
    let (f, into, own) = c.requires.first in
    let (y, also) = c.requires.second in
    record {
      stands = own.stands;
      start = trans_low (items_in s) f (type_in s) into a own;
      state = start_low (items_in s) (type_in s) y b also;
      ranks = same_trees (items_in s) (type_in s) s.theory.now c.requires.scope.labels f y into a b own also;
      labels = trans_labels (items_in s) (type_in s) s.theory.now c.requires.scope.labels f into a own;
      fit = atoms_fit (items_in s) (type_in s) y b also s.theory.now c.requires.scope.labels;
    }

pub returns : goal.returns
returns c =
    let s = c.args.scope.now in
    let a = c.args.a.now in
    let b = c.args.b.now in
    if_ok_both c.restrict.result (IsRestricted row_make (row_meaning s.theory.now) a b) _
    (λ l. (place : Pos) (f y : X) (into : List ℕ) → IsTransBuiltOf (items_in s) f (type_in s) into a → IsBuiltOf (items_in s) y (type_in s) b → IsTransBuiltOf (items_in s) (two Restrict place f y) (type_in s) into l)
    (λ l has made place f y into own also. restriction_built (items_in s) (type_in s) s.theory.now c.requires.scope.labels place f y into a b own also _ (λ m n e. (both_true _ _ e).0) l has made) c.restrict.ensures.relation c.restrict.ensures.made

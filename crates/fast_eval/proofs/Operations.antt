-- What operations make of what was built for their operands is built for the whole expression.
use Rattle.std.proofs.Common.{◌≡◌, ℕ, List, [], ◌∷◌, Some, Contains, sym, subst, ◌∙◌}
use Rattle.fast_fault.specs.declared.place.Pos.{Pos}
use Rattle.model_tree.specs.Tree.{LabelTree}
use Rattle.model_tree.specs.Signature.{PlainSignature, Sort, HasSorts, sorts_of}
use Rattle.model_grammar.specs.declared.Op1.TheVariants.{Complement, Minimize}
use Rattle.model_grammar.specs.declared.Op2.TheVariants.{Intersect, Union, Difference}
use Rattle.model_grammar.specs.Syntax.{X, one, two, Item}
use Rattle.model_meaning.specs.Meaning.{signature_named}
use Rattle.model_sta.specs.Automaton.{is_accepted}
use Rattle.model_sta.specs.Sets.{Fits}
use Rattle.model_sta.proofs.Counts.{same_count}
use Rattle.model_run.specs.Counts.{IsCount}
use Rattle.model_run.specs.Parts.{operands}
use Rattle.model_layers.specs.Carries.{IsTyped, Carries}
use Rattle.model_layers.specs.Seen.{IsSeen}
use Rattle.model_layers.proofs.Carry.{operations_carry}
use Rattle.model_layers.proofs.Chosen.{first_of, second_of}
use Rattle.model_layers.proofs.Compared.{compares_go_up}
use Rattle.model_layers.proofs.Sight.{languages_are_seen}
use Rattle.model_layers.proofs.Told.{counts_go_up}
use Rattle.sta_core.specs.Sta.{automaton_of, AtomsFit}
use Rattle.sta_core.specs.declared.Lang.{Lang}
use Rattle.sta_min.specs.Least.{HasLeast}
use Rattle.sta_min.specs.declared.least.Minimal.{Minimal}
use Rattle.sta_ops.specs.Languages.{auto_of, TypedFor, HasUnion, HasIntersection, HasComplement, HasDifference, IsMadeOfBoth}
use Rattle.record_label.specs.Meaning.{row_meaning}
use Rattle.record_label.specs.Rows.{RowAtom, row_holds, RowFits}
use Rattle.fast_eval.specs.Built.{compares_in, IsBuiltOf}
use Rattle.fast_eval.proofs.Compares.{of_both}
use Rattle.fast_eval.proofs.Narrower.{union, intersection, difference, complement, minimal}
use Rattle.fast_eval.proofs.Typed.{fits_from_type, type_from_fits}

module _ (items : List Item) (type : List ℕ) where
  abbrev pub signature : PlainSignature
  signature = signature_named items (Some type)

  -- a tree of the type is one over the constructors and the labels of what was built
  pub typed_for : (e : X) (a : Lang RowAtom) → IsBuiltOf items e type a → (t : LabelTree) → IsTyped items type t → TypedFor (row_meaning (sorts_of signature)) a t
  typed_for e a built t h = subst (λ ranks. Fits ranks (HasSorts (sorts_of signature)) t) (sym built.ranks) (fits_from_type signature t h)

  -- of the labels of the type
  module _ (sorts : List Sort) (is : sorts ≡ sorts_of signature) where
    typed_there : (e : X) (a : Lang RowAtom) → IsBuiltOf items e type a → (t : LabelTree) → IsTyped items type t → TypedFor (row_meaning sorts) a t
    typed_there e a built t h = subst (λ s. TypedFor (row_meaning s) a t) (sym is) (typed_for e a built t h)

    typed_back : (e : X) (a : Lang RowAtom) → IsBuiltOf items e type a → (t : LabelTree) → TypedFor (row_meaning sorts) a t → IsTyped items type t
    typed_back e a built t h = type_from_fits signature t (subst (λ ranks. Fits ranks (HasSorts (sorts_of signature)) t) built.ranks (subst (λ s. TypedFor (row_meaning s) a t) is h))

    module _ (place : Pos) (x y : X) (a b : Lang RowAtom) (first : IsBuiltOf items x type a) (second : IsBuiltOf items y type b) where
      -- with guards over atoms of both
      of_operands : (e : X) → Contains (operands e) x → Contains (operands e) y → (c : Lang RowAtom) → IsMadeOfBoth (row_meaning sorts) (RowFits sorts) a b c → Carries items e type (auto_of row_holds c) → IsSeen items e type (automaton_of row_holds c.sta) → IsBuiltOf items e type c
      of_operands e at other c made carries seen = record {
        carries = carries;
        seen = seen;
        compared = (compares_go_up items).of_operands e x y type (compares_in a.sta) (compares_in b.sta) (compares_in c.sta) at other first.compared second.compared (of_both a.sta b.sta c.sta made.atoms);
        ranks = made.ranks ∙ first.ranks;
        fit = subst (λ s. AtomsFit (RowFits s) c.sta) is made.fit;
      }

      pub union_built : (c : Lang RowAtom) → HasUnion (row_meaning sorts) a b c → IsMadeOfBoth (row_meaning sorts) (RowFits sorts) a b c → IsBuiltOf items (two Union place x y) type c
      union_built c has made =
          let own = union (TypedFor (row_meaning sorts) a) (IsTyped items type) (typed_there x a first) (auto_of row_holds a) (auto_of row_holds b) (auto_of row_holds c) has in
          of_operands (two Union place x y) (first_of x (y ∷ [])) (second_of x y) c made
          ((operations_carry items place x y type).union (auto_of row_holds a) (auto_of row_holds b) (auto_of row_holds c) first.carries second.carries own)
          ((languages_are_seen items place x y type).union (auto_of row_holds a) (auto_of row_holds b) (auto_of row_holds c) first.seen second.seen made.guards)

      pub intersection_built : (c : Lang RowAtom) → HasIntersection (row_meaning sorts) a b c → IsMadeOfBoth (row_meaning sorts) (RowFits sorts) a b c → IsBuiltOf items (two Intersect place x y) type c
      intersection_built c has made =
          let own = intersection (TypedFor (row_meaning sorts) a) (IsTyped items type) (typed_there x a first) (auto_of row_holds a) (auto_of row_holds b) (auto_of row_holds c) has in
          of_operands (two Intersect place x y) (first_of x (y ∷ [])) (second_of x y) c made
          ((operations_carry items place x y type).intersect (auto_of row_holds a) (auto_of row_holds b) (auto_of row_holds c) first.carries second.carries own)
          ((languages_are_seen items place x y type).intersect (auto_of row_holds a) (auto_of row_holds b) (auto_of row_holds c) first.seen second.seen made.guards)

      pub difference_built : (c : Lang RowAtom) → HasDifference (row_meaning sorts) a b c → IsMadeOfBoth (row_meaning sorts) (RowFits sorts) a b c → IsBuiltOf items (two Difference place x y) type c
      difference_built c has made =
          let own = difference (TypedFor (row_meaning sorts) a) (IsTyped items type) (typed_there x a first) (auto_of row_holds a) (auto_of row_holds b) (auto_of row_holds c) has in
          of_operands (two Difference place x y) (first_of x (y ∷ [])) (second_of x y) c made
          ((operations_carry items place x y type).difference (auto_of row_holds a) (auto_of row_holds b) (auto_of row_holds c) first.carries second.carries own)
          ((languages_are_seen items place x y type).difference (auto_of row_holds a) (auto_of row_holds b) (auto_of row_holds c) first.seen second.seen made.guards)

    module _ (place : Pos) (x : X) (a : Lang RowAtom) (built : IsBuiltOf items x type a) where
      pub complement_built : (c : Lang RowAtom) → HasComplement (row_meaning sorts) a c → IsMadeOfBoth (row_meaning sorts) (RowFits sorts) a a c → IsBuiltOf items (one Complement place x) type c
      complement_built c has made =
          let own = complement (TypedFor (row_meaning sorts) a) (IsTyped items type) (typed_there x a built) (auto_of row_holds a) (auto_of row_holds c) has in
          of_operands place x x a a built built (one Complement place x) (first_of x []) (first_of x []) c made
          ((operations_carry items place x x type).complement (auto_of row_holds a) (auto_of row_holds c) built.carries own)
          ((languages_are_seen items place x x type).complement (auto_of row_holds a) (auto_of row_holds c) built.seen made.guards)

      -- the least automaton was built for the operation
      pub minimal_built : (m : Minimal RowAtom) → HasLeast (row_meaning sorts) a m → IsMadeOfBoth (row_meaning sorts) (RowFits sorts) a a m.lang → IsBuiltOf items (one Minimize place x) type m.lang
      minimal_built m least made =
          let own = minimal (TypedFor (row_meaning sorts) a) (IsTyped items type) (typed_there x a built) (auto_of row_holds a) (auto_of row_holds m.lang) least.minimal in
          of_operands place x x a a built built (one Minimize place x) (first_of x []) (first_of x []) m.lang made
          ((operations_carry items place x x type).minimize (auto_of row_holds a) (auto_of row_holds m.lang) built.carries own)
          ((languages_are_seen items place x x type).minimize (auto_of row_holds a) (auto_of row_holds m.lang) built.seen made.guards)

      abbrev are_apart : LabelTree → LabelTree → Type 0
      are_apart s t = ¬ (is_accepted (automaton_of row_holds a.sta) s a.state ≡ is_accepted (automaton_of row_holds a.sta) t a.state)

      -- and its count is that of the operand
      pub minimal_counted : (m : Minimal RowAtom) → HasLeast (row_meaning sorts) a m → IsCount items x m.count
      minimal_counted m least =
          counts_go_up items x type (auto_of row_holds a) m.count built.carries
          (same_count (TypedFor (row_meaning sorts) a) (IsTyped items type) are_apart are_apart (λ t. (typed_back x a built t, typed_there x a built t)) (λ s t first second. (λ h. h, λ h. h)) m.count least.counted)

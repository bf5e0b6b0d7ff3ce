-- What stops the search for classes of automata shows of the expressions that they were built for.
use Rattle.std.proofs.Common.{◌≡◌, ℕ, inl, inr, suc, List, [], ◌∷◌, ◌++◌, Some, map, All, Contains, refl, sym, ap₂, subst, arith}
use Rattle.std.proofs.lemmas.List.Elements.{All-map, All-weaker}
use Rattle.model_tree.specs.Label.{Label}
use Rattle.model_tree.specs.Kept.{is_kept_label}
use Rattle.model_tree.specs.Tree.{LabelTree}
use Rattle.model_tree.specs.Formula.{Formula, formula_holds}
use Rattle.model_tree.specs.Signature.{Sort, HasSorts, sorts_of}
use Rattle.model_grammar.specs.Syntax.{X, Item}
use Rattle.model_meaning.specs.Meaning.{signature_named}
use Rattle.model_sta.specs.Automaton.{Rule, rules_of}
use Rattle.model_sta.specs.Sets.{Fits}
use Rattle.model_sta.specs.Operations.{AgreeIn}
use Rattle.model_sta.specs.Told.{AreTold, AreToldByEither, AgreeInBoth, HasMoreApart, HasFar}
use Rattle.model_sta.proofs.Told.{more_told}
use Rattle.model_chain.specs.Chains as chains
use Rattle.model_chain.specs.Chains.{Passes, IsFar}
use Rattle.model_chain.specs.Literals as plain
use Rattle.model_chain.specs.Literals.{Literal}
use Rattle.model_run.specs.Seen.{IsSameLiteral}
use Rattle.model_layers.specs.Carries.{IsTyped}
use Rattle.model_layers.specs.Compared.{IsOneOf, IsWideOver}
use Rattle.model_layers.proofs.Told.{trees_go_up}
use Rattle.model_layers.proofs.Compared.{widths_go_up}
use Rattle.label_core.specs.Atoms.{EachHasEqual}
use Rattle.label_core.specs.Lit.{atoms_of}
use Rattle.label_core.specs.Meaning.{IsChainOver}
use Rattle.label_core.specs.Pair.{lefts}
use Rattle.label_core.specs.declared.theory.Lit.{Lit}
use Rattle.label_split.specs.Split.{HasUnkeptRow}
use Rattle.lin_solve.specs.declared.chain.Chain.{Chain}
use Rattle.lin_solve.specs.declared.compare.Compare.{Compare}
use Rattle.lin_solve.specs.Plain.{plain_compare, plain_literal, plain_literals}
use Rattle.lin_solve.specs.Shown.{bits_of, plain_chain, PassesWidth}
use Rattle.lin_solve.proofs.Once.{plain_different}
use Rattle.sta_core.specs.Machine.{PlainRule}
use Rattle.sta_core.specs.Sta.{automaton_of, rule_meaning}
use Rattle.sta_core.specs.declared.Lang.{Lang}
use Rattle.sta_core.proofs.Meaning.{All_from_map}
use Rattle.sta_classes.specs.Guards.{all_guards, atoms_of_all, truths}
use Rattle.sta_classes.specs.Meant.{StopsClasses}
use Rattle.sta_classes.specs.declared.stop.ClassStop.{ClassStop}
use Rattle.sta_classes.specs.declared.stop.ClassStop.TheVariants.{Classes, Wide, Memory}
use Rattle.sta_ops.specs.Empty.{StopsEither}
use Rattle.sta_theory.proofs.Lists.{append_member, map_member, in_map}
use Rattle.record_label.specs.Derived.{same_compares, compares_laws}
use Rattle.record_label.specs.Meaning.{row_meaning}
use Rattle.record_label.specs.Rows.{RowAtom, row_holds, KeepsSorts}
use Rattle.record_label.proofs.ChainFacts.{compares_over}
use Rattle.fast_eval.specs.Built.{compares_of, compares_in, IsBuiltOf}
use Rattle.fast_eval.specs.Stops.{IsStopOf, by_classes}
use Rattle.fast_eval.proofs.Compares.{one_of, compares_joined, not_same}
use Rattle.fast_eval.proofs.Typed.{fits_if_kept, type_from_fits}

-- ---- guards

-- Labels at which each rule of an automaton has the same truth value agree on its guards.
abbrev means : PlainRule RowAtom → Rule Label
means = rule_meaning row_holds

module _ (l m : Label) where
  abbrev SameAt : Formula RowAtom → Type 0
  SameAt f = formula_holds (λ a. row_holds a l) f ≡ formula_holds (λ a. row_holds a m) f

  same_truths : (gs : List (Formula RowAtom)) → ((f : Formula RowAtom) → Contains gs f → SameAt f) → truths row_holds gs m ≡ truths row_holds gs l
  same_truths [] each = refl
  same_truths (g ∷ gs) each = ap₂ (λ b bs. b ∷ bs) (sym (each g (0, omega arith, refl))) (same_truths gs (λ f at. each f (suc at.0, omega (arith, at.1), at.2)))

  -- each guard is one of a rule of a state
  guard_there : (rules : List (List (PlainRule RowAtom))) (f : Formula RowAtom) → Contains (all_guards rules) f → (q : ℕ) × (r : PlainRule RowAtom) × Contains (rules_of (map (map means) rules) q) (means r) × (r.guard ≡ f)
  guard_there [] f at = absurd (omega (arith, at.1))
  guard_there (rs ∷ rules) f at = elim (append_member (map (λ r. r.guard) rs) (all_guards rules) f at) [
    | inl here ↦ (let (r, at_r, is) = map_member (λ r. r.guard) rs f here in (0, r, in_map means rs r at_r, is))
    | inr later ↦ (let (q, r, at_r, is) = guard_there rules f later in (suc q, r, at_r, is))
  ]

  pub guards_agree : (rules : List (List (PlainRule RowAtom))) → AgreeIn (map (map means) rules) l m → (f : Formula RowAtom) → Contains (all_guards rules) f → SameAt f
  guards_agree rules agree f at =
      let (q, r, there, is) = guard_there rules f at in
      subst SameAt is (agree q (means r) there)

-- a label whose truth values no kept label has agrees with none
module _ (sorts : List Sort) (gs : List (Formula RowAtom)) (Agree : Label → Label → Type 0) (to : (l m : Label) → Agree l m → (f : Formula RowAtom) → Contains gs f → SameAt l m f) where
  far_of : HasUnkeptRow (row_meaning sorts) (truths row_holds gs) → HasFar (HasSorts sorts) is_kept_label Agree
  far_of (l, has, none) = (l, has, λ m typed kept agree. none m (typed, kept) (same_truths l m gs (to l m agree)))

-- ---- chains

-- a chain that passes 64 bits is far
narrow_is_far : (bits : ℕ) (c : chains.Chain) → Passes bits c → bits ≡ 64 → IsFar c
narrow_is_far bits c (inl wide) narrow = absurd (omega (arith, wide.0, narrow))
narrow_is_far bits c (inr (narrow, far)) also = far

module _ (items : List Item) (type : List ℕ) (sorts : List Sort) (is : sorts ≡ sorts_of (signature_named items (Some type))) where
  module _ (gs : List (Formula RowAtom)) (cs : List plain.Compare) (all : compares_of gs ≡ cs) (Agree : Label → Label → Type 0) (to : (l m : Label) → Agree l m → (f : Formula RowAtom) → Contains gs f → SameAt l m f) where
    over : (c : Chain) → EachHasEqual same_compares (atoms_of c.literals.items) (lefts (atoms_of_all gs)) → All (λ (l : Literal). IsOneOf cs l.compare) (plain_literals c.literals.items)
    over c each =
        All-map (λ (l : Literal). IsOneOf cs l.compare) plain_literal c.literals.items
        (All_from_map (λ (d : Compare). IsOneOf cs (plain_compare d)) (λ (l : Lit Compare). l.atom) c.literals.items (subst (λ ds. All (λ (d : Compare). IsOneOf ds (plain_compare d)) (atoms_of c.literals.items)) all (one_of (atoms_of c.literals.items) (lefts (atoms_of_all gs)) each)))

    -- a chain over guards that passes its width
    pub wide_over : (c : Chain) → IsChainOver (row_meaning sorts) (atoms_of_all gs) c → PassesWidth c → (IsFar (plain_chain c) → HasUnkeptRow (row_meaning sorts) (truths row_holds gs)) → IsWideOver items type cs Agree (bits_of c.width)
    wide_over c chain passes unkept =
        let both = compares_over sorts (atoms_of_all gs) c chain in
        record {
          chain = plain_chain c;
          over = over c both.0;
          once = plain_different same_compares compares_laws IsSameLiteral not_same c.literals.items both.1;
          passes = passes;
          far = λ narrow. subst (λ s. HasFar (HasSorts s) is_kept_label Agree) is (far_of sorts gs Agree to (unkept (narrow_is_far (bits_of c.width) (plain_chain c) passes narrow)));
        }

  -- ---- trees

  typed_if_kept : (e : X) (a : Lang RowAtom) → IsBuiltOf items e type a → (t : LabelTree) → Fits a.sta.ranks (KeepsSorts sorts) t → IsTyped items type t
  typed_if_kept e a built t h =
      let signature = signature_named items (Some type) in
      type_from_fits signature t (subst (λ ranks. Fits ranks (HasSorts (sorts_of signature)) t) built.ranks (subst (λ s. Fits a.sta.ranks (HasSorts s) t) is (fits_if_kept a.sta.ranks sorts t h)))

  typed_trees : (e : X) (a : Lang RowAtom) → IsBuiltOf items e type a → (R : LabelTree → LabelTree → Type 0) (most : ℕ) → HasMoreApart (Fits a.sta.ranks (KeepsSorts sorts)) R most → HasMoreApart (IsTyped items type) R most
  typed_trees e a built R most has = record {
    trees = has.trees;
    typed = All-weaker (Fits a.sta.ranks (KeepsSorts sorts)) (IsTyped items type) (typed_if_kept e a built) has.trees has.typed;
    apart = has.apart;
    more = has.more;
  }

  -- ---- of one automaton, and of two together

  module _ (x : X) (a : Lang RowAtom) (first : IsBuiltOf items x type a) where
    abbrev rules : List (List (Rule Label))
    rules = automaton_of row_holds a.sta

    pub stops_one : (most : ℕ) (s : ClassStop Chain) → StopsClasses (row_meaning sorts) a.sta most s → IsStopOf items (x ∷ []) most (by_classes s)
    stops_one most Classes stop = (trees_go_up items type most).of_one x rules first.carries.each_state (typed_trees x a first (AreTold rules) most (more_told a.sta.ranks (KeepsSorts sorts) rules most stop))
    stops_one most (Wide c) stop =
        (widths_go_up items type (bits_of c.width)).of_one x (compares_in a.sta) rules first.compared first.seen
        (wide_over (all_guards a.sta.rules) (compares_in a.sta) refl (AgreeIn rules) (λ l m. guards_agree l m a.sta.rules) c stop.0.0 stop.0.1 stop.1)
    stops_one most Memory stop = tt

    module _ (y : X) (b : Lang RowAtom) (second : IsBuiltOf items y type b) where
      abbrev others : List (List (Rule Label))
      others = automaton_of row_holds b.sta

      either_agrees : (l m : Label) → AgreeInBoth rules others l m → (f : Formula RowAtom) → Contains (all_guards a.sta.rules ++ all_guards b.sta.rules) f → SameAt l m f
      either_agrees l m agree f at = elim (append_member (all_guards a.sta.rules) (all_guards b.sta.rules) f at) [
        | inl here ↦ guards_agree l m a.sta.rules agree.0 f here
        | inr there ↦ guards_agree l m b.sta.rules agree.1 f there
      ]

      pub stops_two : (most : ℕ) (s : ClassStop Chain) → StopsEither (row_meaning sorts) a b most s → IsStopOf items (x ∷ y ∷ []) most (by_classes s)
      stops_two most Classes stop = (trees_go_up items type most).of_two x y rules others first.carries.each_state second.carries.each_state (typed_trees x a first (AreToldByEither rules others) most stop)
      stops_two most (Wide c) stop =
          (widths_go_up items type (bits_of c.width)).of_two x y (compares_in a.sta) (compares_in b.sta) rules others first.compared second.compared first.seen second.seen
          (wide_over (all_guards a.sta.rules ++ all_guards b.sta.rules) (compares_in a.sta ++ compares_in b.sta) (compares_joined (all_guards a.sta.rules) (all_guards b.sta.rules)) (AgreeInBoth rules others) either_agrees c stop.0.0 stop.0.1 stop.1)
      stops_two most Memory stop = tt

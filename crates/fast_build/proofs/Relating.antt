-- What the states of a transducer give: the outputs of the transformations that they stand for.
use Rattle.std.proofs.Common.{◌≡◌, ◌⊎◌, inl, inr, ◌↔◌, ℕ, zero, suc, ◌+◌, ◌<◌, ◌==◌, Bool, true, false, cond, List, [], ◌∷◌, Option, Some, None, map, length, get_or, Contains, refl, sym, ap, subst, ◌∙◌, arith}
use Rattle.std.specs.Prelude.{not}
use Rattle.std.specs.List.{position_or_len}
use Rattle.std.specs.Option.{option_map}
use Rattle.std.proofs.lemmas.Bool.Decides.{nat_tests}
use Rattle.std.proofs.lemmas.List.{length-map}
use Rattle.model_tree.specs.Label.{Field, Label, row, pair}
use Rattle.model_tree.specs.Tree.{node, Trees, no_trees, tree, LabelTree}
use Rattle.model_tree.specs.Signature.{Sort, PlainField, PlainSignature, sort_of, names_of, ranks_of, HasSorts, sorts_of, HasType, EachHasType}
use Rattle.model_tree.proofs.Sorts.{own_sorts}
use Rattle.model_program.specs.Syntax.{Name, Demand}
use Rattle.model_grammar.specs.Syntax.{Expr, Out, child, call, Outs, no_out, and_out, named, OutRule, Item}
use Rattle.model_grammar.specs.Syntax as syntax
use Rattle.model_label.specs.Meaning.{value_of}
use Rattle.model_names.specs.Declared.{name_of, same_text, out_rules_of}
use Rattle.model_meaning.specs.Types.{input_of, output_of}
use Rattle.model_meaning.specs.Outputs.{number_named, made_label, Use, unchanged, output_by}
use Rattle.model_meaning.specs.Outputs as written
use Rattle.model_meaning.specs.Reached.{definition_of, IsCalledIn, IsCalledInOne}
use Rattle.model_meaning.specs.Meaning.{IsRelated, Applies}
use Rattle.model_meaning.proofs.Members.{one_of, none_of}
use Rattle.sttr_core.proofs.Meaning.{rules_meant}
use Rattle.model_meaning.specs.Laws.{child_named, IsUse, AreByRules}
use Rattle.model_sta.specs.Automaton.{rule_applies}
use Rattle.model_sttr.specs.Terms.{Term, on, build, Parts, no_parts, part, with_maps, parts_with_maps}
use Rattle.model_sttr.specs.Terms as terms
use Rattle.model_sttr.specs.Transducer.{Head, identity, run, Sttr, out_rules, Gives, GivesAt}
use Rattle.model_sttr.specs.Transducer as machines
use Rattle.model_sttr.specs.Plain.{PlainOut, out_meaning}
use Rattle.sta_core.specs.Machine.{PlainRule}
use Rattle.sta_core.specs.Sta.{rule_meaning}
use Rattle.sttr_core.specs.Machine.{OutMachine, transducer_of}
use Rattle.record_label.specs.Rows.{RowAtom, row_holds}
use Rattle.record_label.specs.declared.maps.RowMap.{RowMap}
use Rattle.record_label.specs.Maps.{Entry, made_by, AreEntriesOf}
use Rattle.record_label.specs.PlainMaps.{plain_entry}
use Rattle.fast_build.specs.Numbers.{IsNumbered}
use Rattle.fast_build.specs.Terms.{row_make, IsMapFor, IsChild, IsTermFor, AreTermsFor}
use Rattle.fast_build.specs.OutRules.{IsOutRuleFor, AreOutRulesFor}
use Rattle.fast_build.proofs.Stands.{are_apart}
use Rattle.fast_build.proofs.Naming.{number_named as number_told}
use Rattle.fast_build.proofs.Meaning as looks

-- ---- constructors

-- a name has the number at which alone it stands
number_is : (ns : List (List ℕ)) (name : List ℕ) (n : ℕ) → n < length ns → ((c : ℕ) → c < length ns → same_text (get_or ns c []) name ≡ (n == c)) → number_named ns name ≡ Some n
number_is [] name n low told = absurd (omega arith)
number_is (x ∷ ns) name zero low told = ap (λ b. cond b (Some 0) (option_map (λ k. suc k) (number_named ns name))) (told zero (omega arith) ∙ zero_is_zero)
  where
    zero_is_zero : (zero == zero) ≡ true
    zero_is_zero = grind (arith, nat_tests)
number_is (x ∷ ns) name (suc n) low told =
    ap (λ b. cond b (Some 0) (option_map (λ k. suc k) (number_named ns name))) (told zero (omega arith) ∙ later_is_not n)
    ∙ ap (option_map (λ k. suc k)) (number_is ns name n (omega arith) (λ c below. told (suc c) (omega arith) ∙ both_less n c))
  where
    later_is_not : (m : ℕ) → (suc m == zero) ≡ false
    later_is_not m = grind (arith, nat_tests)

    both_less : (m c : ℕ) → (suc m == suc c) ≡ (m == c)
    both_less m c = by (m == c) refl
      where
        by : (b : Bool) → (m == c) ≡ b → (suc m == suc c) ≡ b
        by true e = let same : m ≡ c = grind (arith, nat_tests) in grind (arith, nat_tests)
        by false e = grind (arith, nat_tests)

pub numbered_named : (t : PlainSignature) (name : List ℕ) (n : ℕ) → are_apart (names_of t) ≡ true → IsNumbered t.constructors name n → number_named (names_of t) name ≡ Some n
numbered_named t name n apart is =
    number_is (names_of t) name n (rw length-map is.below) (λ c low. number_told t name n c apart is (subst (λ k. c < k) (length-map _ _) low))

-- ---- labels

made_as : (fields : List PlainField) (labels : List Expr) (sorts : List Sort) (entries : List Entry) (values : List Field) → AreEntriesOf fields labels sorts entries → map sort_of values ≡ map (λ x. x.sort) fields → map (made_by values) entries ≡ map (value_of fields values) labels
made_as fields [] sorts [] values are sorted = refl
made_as fields [] sorts (x ∷ entries) values are sorted = absurd are
made_as fields (e ∷ labels) sorts [] values are sorted = absurd are
made_as fields (e ∷ labels) [] (x ∷ entries) values are sorted = absurd are
made_as fields (e ∷ labels) (s ∷ sorts) (x ∷ entries) values are sorted = λ i. are.0.makes values sorted i ∷ made_as fields labels sorts entries values are.1 sorted i

-- a map makes of a label of the type what the labels make that are written
pub map_makes : (from into : PlainSignature) (labels : List Expr) (m : RowMap) (l : Label) → IsMapFor from into labels m → HasSorts (sorts_of from) l → row_make m l ≡ made_label from.fields into.fields labels l
map_makes from into labels m (row values) is sorted = ap row (made_as from.fields labels (sorts_of into) (map plain_entry m.entries.items) values is.entries (own_sorts (map (λ x. x.sort) from.fields) values sorted))
map_makes from into labels m (pair l k) is sorted = absurd sorted

-- ---- children

abbrev child_at : ℕ → Trees Label → Option LabelTree
child_at j no_trees = None
child_at zero (tree t ts) = Some t
child_at (suc j) (tree t ts) = child_at j ts

one_more : (n : ℕ) → 1 + n ≡ suc n
one_more n = omega arith

named_by : (b : Bool) (place many : ℕ) (t : LabelTree) (ts : Trees Label) (o : Option LabelTree) → cond (not b) (1 + place) 0 < suc many → (place < many → o ≡ child_at place ts) → cond b (Some t) o ≡ child_at (cond (not b) (1 + place) 0) (tree t ts)
named_by true place many t ts o below later = refl
named_by false place many t ts o below later = later (omega arith) ∙ ap (λ n. child_at n (tree t ts)) (sym (one_more place))

named_at : (items : List Item) (vars : List Name) (y : List ℕ) (ts : Trees Label) → position_or_len (λ v. same_text v.text y) vars < length vars → child_named items y vars ts ≡ child_at (position_or_len (λ v. same_text v.text y) vars) ts
named_at items vars y no_trees low = refl
named_at items [] y (tree t ts) low = absurd (omega arith)
named_at items (v ∷ vars) y (tree t ts) low = named_by (same_text v.text y) (position_or_len (λ w. same_text w.text y) vars) (length vars) t ts (child_named items y vars ts) low (λ l. named_at items vars y ts l)

pub child_is : (items : List Item) (vars : List Name) (y : List ℕ) (j : ℕ) (ts : Trees Label) → IsChild vars y j → child_named items y vars ts ≡ child_at j ts
child_is items vars y j ts is = named_at items vars y ts (subst (λ n. n < length vars) is.is is.below) ∙ ap (λ n. child_at n ts) (sym is.is)

-- what is the same tree, as it is
none_there : {A : Type 0} (u : LabelTree) → None ≡ Some u → A
none_there u e = cc

one_number : (m n : ℕ) → Some m ≡ Some n → m ≡ n
one_number m n e = cc

same_there : (t u : LabelTree) → Some t ≡ Some u → t ≡ u
same_there t u e = cc

here : {A : Type 0} (x : A) (xs : List A) → Contains (x ∷ xs) x
here x xs = (0, omega arith, refl)

later_in : {A : Type 0} (x y : A) (xs : List A) → Contains xs y → Contains (x ∷ xs) y
later_in x y xs (k, low, is) = (suc k, omega (arith, low), is)

-- Each name of a language has a number by `look`, that of a state of the lookahead, and each name of a transformation one by `place`.
module _ (items : List Item) (laws : AreByRules items) (s t : PlainSignature) (look place : List ℕ → ℕ) (d : OutMachine RowAtom RowMap) where
  abbrev pub transducer : Sttr Label
  transducer = transducer_of row_holds row_make d

  abbrev rule_of : PlainOut (PlainRule RowAtom) RowMap → machines.OutRule Label
  rule_of p = out_meaning (rule_meaning row_holds) row_make p

  -- the state of the name gives the outputs of the transformation, on a tree
  abbrev pub Relates : List ℕ → LabelTree → Type 0
  Relates n u = (w : LabelTree) → IsRelated items (named (name_of n)) u w ↔ Gives transducer (run (place n)) u w

  module _ (Among : List ℕ → Type 0) where
    abbrev pub RelatesAll : LabelTree → Type 0
    RelatesAll u = (n : List ℕ) → Among n → Relates n u

    abbrev pub RelatesEach : Trees Label → Type 0
    RelatesEach no_trees = Unit {0}
    RelatesEach (tree u us) = RelatesAll u × RelatesEach us

    abbrev UsesAt : Use → ℕ → Trees Label → LabelTree → Type 0
    UsesAt how j ts w = (u : LabelTree) × (child_at j ts ≡ Some u) × IsUse items how u w

    -- what a use may be of the child with a number is what the head gives on it
    unchanged_at : (j : ℕ) (ts : Trees Label) (w : LabelTree) → UsesAt unchanged j ts w ↔ GivesAt transducer identity j ts w
    unchanged_at j no_trees w = (λ h. none_there h.0 h.1, λ h. absurd h)
    unchanged_at zero (tree (node c l us) ts) w = (λ h. same_there (node c l us) h.0 h.1 ∙ sym h.2, λ h. (node c l us, refl, sym h))
    unchanged_at (suc j) (tree u ts) w = unchanged_at j ts w

    called_at : (q : List ℕ) (j : ℕ) (ts : Trees Label) (w : LabelTree) → Among q → RelatesEach ts → UsesAt (output_by q) j ts w ↔ GivesAt transducer (run (place q)) j ts w
    called_at q j no_trees w at each = (λ h. none_there h.0 h.1, λ h. absurd h)
    called_at q zero (tree u ts) w at each = (
      λ h. (each.0 q at w).0 (subst (λ v. IsUse items (output_by q) v w) (sym (same_there u h.0 h.1)) h.2),
      λ h. (u, refl, (each.0 q at w).1 h),
    )
    called_at q (suc j) (tree u ts) w at each = called_at q j ts w at each.1

    -- ---- terms

    module _ (apart : are_apart (names_of t) ≡ true) (l : Label) (sorted : HasSorts (sorts_of s) l) (ts : Trees Label) (each : RelatesEach ts) (vars : List Name) where
      abbrev pub UsesBy : Use → List ℕ → LabelTree → Type 0
      UsesBy how y w = (u : LabelTree) × (child_named items y vars ts ≡ Some u) × IsUse items how u w

      by_number : (how : Use) (y : List ℕ) (j : ℕ) (w : LabelTree) → IsChild vars y j → UsesBy how y w ↔ UsesAt how j ts w
      by_number how y j w is = let e = child_is items vars y j ts is in (λ h. (h.0, sym e ∙ h.1, h.2), λ h. (h.0, e ∙ h.1, h.2))

      abbrev Called : Out → Type 0
      Called out = (q : List ℕ) → IsCalledIn out q → Among q

      abbrev CalledInAll : Outs → Type 0
      CalledInAll outs = (q : List ℕ) → IsCalledInOne outs q → Among q

      mutual
        pub instance_match : (out : Out) (p : Term Head RowMap) → IsTermFor s t place vars out p → Called out → (u : LabelTree) → written.IsInstance s t UsesBy l out u ↔ terms.IsInstance (λ h j v. GivesAt transducer h j ts v) l (with_maps row_make p) u
        instance_match (child y) (on identity j) is called u =
            let a = by_number unchanged y.text j u is in
            let b = unchanged_at j ts u in
            (λ h. b.0 (a.0 h), λ h. a.1 (b.1 h))
        instance_match (child y) (on (run q) j) is called u = absurd is
        instance_match (child y) (build c m ps) is called u = absurd is
        instance_match (call n y) (on identity j) is called u = absurd is
        instance_match (call n y) (on (run q) j) is called u =
            let a = by_number (output_by n.text) y.text j u is.1 in
            let b = called_at n.text j ts u (called n.text refl) each in
            let e = is.0 in
            (λ h. subst (λ k. GivesAt transducer (run k) j ts u) (sym e) (b.0 (a.0 h)), λ h. a.1 (b.1 (subst (λ k. GivesAt transducer (run k) j ts u) e h)))
        instance_match (call n y) (build c m ps) is called u = absurd is
        instance_match (syntax.node name labels outs) (on h j) is called u = absurd is
        instance_match (syntax.node name labels outs) (build c m ps) is called (node k v us) =
            let number = numbered_named t name.text c apart is.0 in
            let makes = map_makes s t labels m l is.1 sorted in
            let rest = instances_match outs ps is.2 called us in
            (λ h. (one_number c k (sym number ∙ h.0), makes ∙ sym h.1, rest.0 h.2), λ h. (number ∙ ap (λ n. Some n) h.0, sym h.1 ∙ makes, rest.1 h.2))

        pub instances_match : (outs : Outs) (ps : Parts Head RowMap) → AreTermsFor s t place vars outs ps → CalledInAll outs → (us : Trees Label) → written.AreInstances s t UsesBy l outs us ↔ terms.AreInstances (λ h j v. GivesAt transducer h j ts v) l (parts_with_maps row_make ps) us
        instances_match no_out no_parts are called no_trees = (λ h. tt, λ h. tt)
        instances_match no_out no_parts are called (tree u us) = (λ h. h, λ h. h)
        instances_match no_out (part p ps) are called us = absurd are
        instances_match (and_out out outs) no_parts are called us = absurd are
        instances_match (and_out out outs) (part p ps) are called no_trees = (λ h. h, λ h. h)
        instances_match (and_out out outs) (part p ps) are called (tree u us) =
            let first = instance_match out p are.0 (λ q is. called q (inl is)) u in
            let rest = instances_match outs ps are.1 (λ q is. called q (inr is)) us in
            (λ h. (first.0 h.0, rest.0 h.1), λ h. (first.1 h.0, rest.1 h.1))

    -- ---- rules

    module _ (Looked : List ℕ → Type 0) (known : (n : List ℕ) → Looked n → looks.IsByRules items laws s look d.looks.rules Looked n ⊎ looks.IsAttached items laws s look d.looks.rules n) (apart_from : are_apart (names_of s) ≡ true) (apart_into : are_apart (names_of t) ≡ true) where
      -- what is demanded and called by a rule is there
      pub record IsThere (r : OutRule) : Type 0 where
        pub demands : (e : Demand) → Contains r.rule.given e → Looked e.language.text
        pub calls : (q : List ℕ) → IsCalledIn r.out q → Among q

      -- the state of a transformation has rules for its rules
      pub record IsByOutRules (n : List ℕ) : Type 0 where
        pub begins : input_of items n ≡ s
        pub ends : output_of items n ≡ t
        pub undefined : definition_of items n ≡ None
        pub there : (r : OutRule) → Contains (out_rules_of items n) r → IsThere r
        pub are : AreOutRulesFor s t look place (get_or d.rules (place n) []) (out_rules_of items n)

      module _ (c : ℕ) (l : Label) (ts : Trees Label) (low : c < length s.constructors) (sorted : HasSorts (sorts_of s) l) (meets : looks.Meets items laws s look d.looks.rules Looked known apart_from ts) (each : RelatesEach ts) (u : LabelTree) where
        abbrev Written : OutRule → Type 0
        Written r = Applies items s r.rule (node c l ts) × written.IsInstance s t (λ how y v. (w : LabelTree) × (child_named items y r.rule.vars ts ≡ Some w) × IsUse items how w v) l r.out u

        abbrev Held : machines.OutRule Label → Type 0
        Held r = (rule_applies transducer.looks (node c l ts) r.rule ≡ true) × terms.IsInstance (λ h j v. GivesAt transducer h j ts v) l r.term u

        pub rule_relates : (r : OutRule) (p : PlainOut (PlainRule RowAtom) RowMap) → IsOutRuleFor s t look place p r → IsThere r → Written r ↔ Held (rule_of p)
        rule_relates r p is there =
            let applies = looks.rule_match items laws s look d.looks.rules Looked known apart_from c l ts low sorted meets r.rule p.rule is.rule there.demands in
            let instance = instance_match apart_into l sorted ts each r.rule.vars r.out p.term is.term there.calls u in
            (λ h. (applies.0 h.0, instance.0 h.1), λ h. (applies.1 h.0, instance.1 h.1))

        rules_relate : (rs : List OutRule) (ps : List (PlainOut (PlainRule RowAtom) RowMap)) → AreOutRulesFor s t look place ps rs → ((r : OutRule) → Contains rs r → IsThere r)
            → ((r : OutRule) × Contains rs r × Written r) ↔ ((r : machines.OutRule Label) × Contains (map rule_of ps) r × Held r)
        rules_relate [] [] are there = (λ h. absurd (none_of h.0 h.1), λ h. absurd (none_of h.0 h.1))
        rules_relate [] (p ∷ ps) are there = absurd are
        rules_relate (r ∷ rs) [] are there = absurd are
        rules_relate (r ∷ rs) (p ∷ ps) are there =
            let first = rule_relates r p are.0 (there r (here r rs)) in
            let rest = rules_relate rs ps are.1 (λ q at. there q (later_in r q rs at)) in (
              λ h. elim (one_of r h.0 rs h.1) [
                | inl one ↦ (rule_of p, here (rule_of p) (map rule_of ps), first.0 (subst Written (sym one) h.2))
                | inr later ↦ (let g = rest.0 (h.0, later, h.2) in (g.0, later_in (rule_of p) g.0 (map rule_of ps) g.1, g.2))
              ],
              λ h. elim (one_of (rule_of p) h.0 (map rule_of ps) h.1) [
                | inl one ↦ (r, here r rs, first.1 (subst Held (sym one) h.2))
                | inr later ↦ (let g = rest.1 (h.0, later, h.2) in (g.0, later_in r g.0 rs g.1, g.2))
              ],
            )

        typed : (n : List ℕ) → IsByOutRules n → (r : OutRule) → written.IsInstance (input_of items n) (output_of items n) (λ how y v. (w : LabelTree) × (child_named items y r.rule.vars ts ≡ Some w) × IsUse items how w v) l r.out u
            → written.IsInstance s t (λ how y v. (w : LabelTree) × (child_named items y r.rule.vars ts ≡ Some w) × IsUse items how w v) l r.out u
        typed n b r h =
            subst (λ o. written.IsInstance s o (λ how y v. (w : LabelTree) × (child_named items y r.rule.vars ts ≡ Some w) × IsUse items how w v) l r.out u) b.ends
            (subst (λ i. written.IsInstance i (output_of items n) (λ how y v. (w : LabelTree) × (child_named items y r.rule.vars ts ≡ Some w) × IsUse items how w v) l r.out u) b.begins h)

        untyped : (n : List ℕ) → IsByOutRules n → (r : OutRule) → written.IsInstance s t (λ how y v. (w : LabelTree) × (child_named items y r.rule.vars ts ≡ Some w) × IsUse items how w v) l r.out u
            → written.IsInstance (input_of items n) (output_of items n) (λ how y v. (w : LabelTree) × (child_named items y r.rule.vars ts ≡ Some w) × IsUse items how w v) l r.out u
        untyped n b r h =
            subst (λ i. written.IsInstance i (output_of items n) (λ how y v. (w : LabelTree) × (child_named items y r.rule.vars ts ≡ Some w) × IsUse items how w v) l r.out u) (sym b.begins)
            (subst (λ o. written.IsInstance s o (λ how y v. (w : LabelTree) × (child_named items y r.rule.vars ts ≡ Some w) × IsUse items how w v) l r.out u) (sym b.ends) h)

        pub relates_by_rules : (n : List ℕ) → IsByOutRules n → IsRelated items (named (name_of n)) (node c l ts) u ↔ Gives transducer (run (place n)) (node c l ts) u
        relates_by_rules n b =
            let law = laws.by_output_rules (name_of n) b.undefined c l ts u in
            let match = rules_relate (out_rules_of items n) (get_or d.rules (place n) []) b.are b.there in
            let same = rules_meant row_holds row_make d (place n) in (
              λ h. (let r = law.0 h in
                  let g = match.0 (r.0, r.1, (subst (λ i. Applies items i r.0.rule (node c l ts)) b.begins r.2, typed n b r.0 r.3)) in
                  (g.0, subst (λ rs. Contains rs g.0) (sym same) g.1, g.2.0, g.2.1)),
              λ h. (let g = match.1 (h.0, subst (λ rs. Contains rs h.0) same h.1, (h.2, h.3)) in
                  law.1 (g.0, g.1, subst (λ i. Applies items i g.0.rule (node c l ts)) (sym b.begins) g.2.0, untyped n b g.0 g.2.1)),
            )

      -- ---- trees

      module _ (each_by : (n : List ℕ) → Among n → IsByOutRules n) where
        ctors_many : length (ranks_of s) ≡ length s.constructors
        ctors_many = length-map _ _

        mutual
          pub relates : (u : LabelTree) → HasType s u → RelatesAll u
          relates (node c l us) h n at w =
              relates_by_rules c l us (subst (λ (k : ℕ). c < k) ctors_many h.0) h.2 (looks.meets items laws s look d.looks.rules Looked known apart_from us h.3) (relates_each us h.3) w n (each_by n at)

          relates_each : (us : Trees Label) → EachHasType s us → RelatesEach us
          relates_each no_trees h = tt
          relates_each (tree u us) h = (relates u h.0, relates_each us h.1)
